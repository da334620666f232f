use Rattle.std.proofs.Common.{◌≡◌, [], map, take, drop}
use Rattle.dm_ast.specs.Declarations.{variant_view}
use Rattle.dm_repeats.specs.Repeats.{repeats, variant_again}
use Rattle.dm_repeats.proofs.repeats.repeated_variant.Given as goal

abbrev pub invariant-loop-i : goal.invariant-loop-i
invariant-loop-i l = repeats variant_again [] (map variant_view l.all) ≡ repeats variant_again (map variant_view (take l.i l.all)) (map variant_view (drop l.i l.all))
