use Rattle.std.proofs.Common.{◌≡◌, ◌++◌, map, drop}
use Rattle.dm_generics.specs.Lent.{lent}
use Rattle.dm_generics.proofs.fields.get_field_types.Given as goal

abbrev pub invariant-loop-field : goal.invariant-loop-field
invariant-loop-field l =
    lent l.out ++ map (λ f. f.ty) (lent (drop l.field-index l.fields)) ≡ map (λ f. f.ty) (lent l.fields)
