use Rattle.std.proofs.Common.{◌≡◌, drop}
use Rattle.dm_same.specs.SameTypes.{all_same}
use Rattle.dm_same.proofs.alike.all_alike.Given as goal

abbrev pub invariant-loop-i : goal.invariant-loop-i
invariant-loop-i g l = all_same g.T.Alike.same l.a l.b ≡ all_same g.T.Alike.same (drop l.i l.a) (drop l.i l.b)
