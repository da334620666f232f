use Rattle.std.proofs.Common.{◌≡◌, ◌++◌, map, drop, true}
use Rattle.dm_output.specs.Views.{item_view}
use Rattle.dm_output.specs.Tokens.{printed}
use Rattle.dm_expansion.proofs.expansion.print_items.Given as goal

abbrev pub invariant-loop-one : goal.invariant-loop-one
invariant-loop-one l =
    record {
      fresh : l.out.glued ≡ true;
      built : l.out.text ++ printed (map item_view (drop l.one-index l.items)) ≡ printed (map item_view l.items);
    }
