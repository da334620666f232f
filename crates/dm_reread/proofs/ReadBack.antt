-- The output language comes back from its tokens: the leaves keep their laws.
use Rattle.dm_reread.specs.Leaves.{LeafLaws}
use Rattle.dm_reread.specs.ItemGrammar.{ItemLaws}
use Rattle.dm_reread.specs.ReadBack.{leaves, item_leaves, leaf_grammar, item_grammar, ItemsComeBack, OneReading}
use Rattle.dm_reread.proofs.ExactLeaves.{exact_type_back, exact_qualified_back, exact_head_back, closed_run_back}
use Rattle.dm_reread.proofs.ItemsBack.{items-back, unique-items}

pub leaf_laws : LeafLaws leaf_grammar leaves
leaf_laws = record { type = exact_type_back; qualified = exact_qualified_back; run = closed_run_back }

pub item_laws : ItemLaws item_grammar item_leaves
item_laws = record { parts = leaf_laws; head = exact_head_back }

pub output_back : ItemsComeBack
output_back is h = items-back item_grammar item_leaves item_laws is h

pub one_output : OneReading
one_output is js h k e = unique-items item_grammar item_leaves item_laws is js h k e
