-- Lists that go on to the end of the trees.
use Rattle.std.specs.Prelude.{Some}
use Rattle.dm_stream.specs.Trees.{Trees, no_trees}
use Rattle.dm_reread.specs.Leaves.{Answer}
use Rattle.dm_reread.specs.Reading.{then}
use Rattle.dm_read_places.specs.declared.list.Turn.{Turn}
use Rattle.dm_read_places.specs.declared.list.Turn.TheVariants.{One, End}

-- a part, where there are trees
abbrev pub turn_to_end : {A : Type 0} → (Trees → Answer A) → Trees → Answer (Turn A (Unit {0}))
turn_to_end part no_trees = Some (End tt, no_trees)
turn_to_end part ts = then (part ts) (λ a. Some (One a.0, a.1))
