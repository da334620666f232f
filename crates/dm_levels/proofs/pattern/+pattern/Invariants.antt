use Rattle.std.proofs.Common.{◌≡◌, map, drop}
use Rattle.dm_output.specs.Output.{patterns_of, named_of}
use Rattle.dm_output.specs.Views.{pattern_view, named_view}
use Rattle.dm_levels.specs.Behind.{seen}
use Rattle.dm_levels.specs.Levels.{ended_levels, each_pattern, each_named}
use Rattle.dm_type_levels.specs.Passing.{pass, pass_then}
use Rattle.dm_levels.proofs.pattern.+pattern.Given as goal

abbrev pub invariant-ended-loop-one : goal.invariant-ended-loop-one
invariant-ended-loop-one l =
    pass_then (ended_levels l.level (each_pattern l.level (patterns_of (map pattern_view (drop l.one-index l.all))))) (seen l.at) ≡
    pass (ended_levels l.level (each_pattern l.level (patterns_of (map pattern_view l.all)))) l.rest

abbrev pub invariant-named-loop-one : goal.invariant-named-loop-one
invariant-named-loop-one l =
    pass_then (ended_levels l.level (each_named l.level (named_of (map named_view (drop l.one-index l.all))))) (seen l.at) ≡
    pass (ended_levels l.level (each_named l.level (named_of (map named_view l.all)))) l.rest
