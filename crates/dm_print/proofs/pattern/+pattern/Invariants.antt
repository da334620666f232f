use Rattle.std.proofs.Common.{◌≡◌, map, drop}
use Rattle.dm_output.specs.Output.{patterns_of, named_of}
use Rattle.dm_output.specs.Views.{pattern_view, named_view}
use Rattle.dm_output.specs.Tokens.{ended, each_pattern, each_named}
use Rattle.dm_print_types.specs.Laying.{lay}
use Rattle.dm_print.proofs.pattern.+pattern.Given as goal

abbrev pub invariant-ended-loop-one : goal.invariant-ended-loop-one
invariant-ended-loop-one l =
    lay l.out (ended (each_pattern (patterns_of (map pattern_view (drop l.one-index l.all))))) ≡ lay l.initial.out (ended (each_pattern (patterns_of (map pattern_view l.all))))

abbrev pub invariant-named-loop-one : goal.invariant-named-loop-one
invariant-named-loop-one l =
    lay l.out (ended (each_named (named_of (map named_view (drop l.one-index l.all))))) ≡ lay l.initial.out (ended (each_named (named_of (map named_view l.all))))
