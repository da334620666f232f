use Rattle.std.proofs.Common.{◌≡◌}
use Rattle.dm_generics.specs.Numbered as spec
use Rattle.dm_generics.proofs.numbered.numbered_vars.Given as goal

abbrev pub invariant-loop-n : goal.invariant-loop-n
invariant-loop-n l = l.out ≡ spec.numbered_vars l.n l.prefix
