use Rattle.std.proofs.Common.{◌≡◌, [], ◌∷◌, map, drop, false}
use Rattle.dm_output.specs.Views.{fmt_arg_view}
use Rattle.dm_levels.specs.Behind.{seen}
use Rattle.dm_levels.specs.Levels.{fmt_arg_levels}
use Rattle.dm_type_levels.specs.Passing.{pass, pass_then}
use Rattle.dm_type_levels.specs.TypeLevels.{spaced_levels}
use Rattle.dm_levels.proofs.format.arguments.Given as goal

abbrev pub invariant-loop-one : goal.invariant-loop-one
invariant-loop-one l =
    pass_then (spaced_levels (l.level ∷ []) false (map (fmt_arg_levels l.level) (map fmt_arg_view (drop l.one-index l.all)))) (seen l.at) ≡
    pass (spaced_levels (l.level ∷ []) false (map (fmt_arg_levels l.level) (map fmt_arg_view l.all))) l.rest
