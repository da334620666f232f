use Rattle.std.proofs.Common.{◌≡◌, [], map, take, drop}
use Rattle.dm_ast.specs.Declarations.{field_view}
use Rattle.dm_repeats.specs.Repeats.{repeats, field_again}
use Rattle.dm_repeats.proofs.repeats.repeated_field.Given as goal

abbrev pub invariant-loop-i : goal.invariant-loop-i
invariant-loop-i l = repeats field_again [] (map field_view l.all) ≡ repeats field_again (map field_view (take l.i l.all)) (map field_view (drop l.i l.all))
