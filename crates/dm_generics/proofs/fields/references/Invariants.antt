use Rattle.std.proofs.Common.{◌≡◌, ◌++◌, drop}
use Rattle.dm_generics.specs.Lent.{lent}
use Rattle.dm_generics.proofs.fields.references.Given as goal

abbrev pub invariant-loop-field : goal.invariant-loop-field
invariant-loop-field l = lent l.out ++ drop l.field-index l.fields ≡ l.fields
