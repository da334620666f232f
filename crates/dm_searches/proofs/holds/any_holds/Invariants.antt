use Rattle.std.proofs.Common.{◌≡◌, drop}
use Rattle.std.specs.List.{list_any}
use Rattle.dm_searches.proofs.holds.any_holds.Given as goal

abbrev pub invariant-loop-item : goal.invariant-loop-item
invariant-loop-item g l = list_any (g.T.Holds.held l.sought) l.item-items ≡ list_any (g.T.Holds.held l.sought) (drop l.item-index l.item-items)
