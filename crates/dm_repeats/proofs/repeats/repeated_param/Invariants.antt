use Rattle.std.proofs.Common.{◌≡◌, [], map, take, drop}
use Rattle.dm_ast.specs.Declarations.{param_view}
use Rattle.dm_repeats.specs.Repeats.{repeats, param_again}
use Rattle.dm_repeats.proofs.repeats.repeated_param.Given as goal

abbrev pub invariant-loop-i : goal.invariant-loop-i
invariant-loop-i l = repeats (param_again l.type_name) [] (map param_view l.all) ≡ repeats (param_again l.type_name) (map param_view (take l.i l.all)) (map param_view (drop l.i l.all))
