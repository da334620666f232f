use Rattle.std.proofs.Common.{◌≡◌, ◌++◌, map, drop, Some}
use Rattle.dm_generics.specs.Lent.{lent}
use Rattle.dm_generics.proofs.fields.field_idents.Given as goal

abbrev pub invariant-loop-field : goal.invariant-loop-field
invariant-loop-field l =
    map Some (lent l.out) ++ map (λ f. f.ident) (lent (drop l.field-index l.fields)) ≡ map (λ f. f.ident) (lent l.fields)
