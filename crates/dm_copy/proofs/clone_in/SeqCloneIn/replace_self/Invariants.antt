use Rattle.std.proofs.Common.{◌≡◌, ◌++◌, map, drop}
use Rattle.std.specs.Prelude.{option_copied}
use Rattle.dm_copy.specs.Segments.{own_segment}
use Rattle.dm_copy.proofs.clone_in.SeqCloneIn.replace_self.Given as goal

abbrev pub invariant-loop-item : goal.invariant-loop-item
invariant-loop-item g l =
    map g.T.CloneIn.shape l.found ++ map (g.T.CloneIn.replaced (own_segment (option_copied l.own))) (map g.T.CloneIn.shape (drop l.item-index l.all)) ≡
    map (g.T.CloneIn.replaced (own_segment (option_copied l.own))) (map g.T.CloneIn.shape l.all)
