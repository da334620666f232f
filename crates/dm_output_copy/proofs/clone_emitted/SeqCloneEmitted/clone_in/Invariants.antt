use Rattle.std.proofs.Common.{◌≡◌, ◌++◌, map, drop}
use Rattle.dm_output_copy.proofs.clone_emitted.SeqCloneEmitted.clone_in.Given as goal

abbrev pub invariant-loop-item : goal.invariant-loop-item
invariant-loop-item g l = map g.T.CloneEmitted.shape l.found ++ map g.T.CloneEmitted.shape (drop l.item-index l.self) ≡ map g.T.CloneEmitted.shape l.self
