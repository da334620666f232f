use Rattle.std.proofs.Common.{◌≡◌, ◌++◌, codes}
use Rattle.std.specs.String.{string_bytes}
use Rattle.dm_sample.specs.Samples as spec
use Rattle.dm_sample.proofs.declaration.sample_text.Given as goal

-- the variants before this one are written
abbrev pub invariant-loop-i : goal.invariant-loop-i
invariant-loop-i l = string_bytes l.text ≡ codes "enum Sample<T> {" ++ spec.variants l.i
