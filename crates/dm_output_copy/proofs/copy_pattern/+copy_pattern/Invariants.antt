use Rattle.std.proofs.Common.{◌≡◌, ◌++◌, map, drop}
use Rattle.dm_output.specs.Views.{pattern_view, named_view}
use Rattle.dm_output_copy.proofs.copy_pattern.+copy_pattern.Given as goal

abbrev pub invariant-copy_patterns-loop-pattern : goal.invariant-copy_patterns-loop-pattern
invariant-copy_patterns-loop-pattern l =
    map pattern_view l.found ++ map pattern_view (drop l.pattern-index l.all) ≡ map pattern_view l.all

abbrev pub invariant-copy_fields-loop-field : goal.invariant-copy_fields-loop-field
invariant-copy_fields-loop-field l =
    map named_view l.found ++ map named_view (drop l.field-index l.all) ≡ map named_view l.all
