-- One turn of a list that goes on to the end of the trees, by whether there are any.
use Rattle.std.proofs.Common.{◌≡◌, true, false, Some, refl}
use Rattle.dm_stream.specs.Trees.{Trees, no_trees, token, group}
use Rattle.dm_ast.specs.Spelling.{at_end}
use Rattle.dm_reread.specs.Leaves.{Answer}
use Rattle.dm_reread.specs.Reading.{then}
use Rattle.dm_read_places.specs.declared.list.Turn.{Turn}
use Rattle.dm_read_places.specs.declared.list.Turn.TheVariants.{One, End}
use Rattle.dm_read_places.specs.ToEnd.{turn_to_end}

module _ {A : Type 0} (part : Trees → Answer A) where
  pub turn_ends : (ts : Trees) → at_end ts ≡ true → turn_to_end part ts ≡ Some (End tt, ts)
  turn_ends no_trees e = refl
  turn_ends (token k ts) e = absurd (cc)
  turn_ends (group d from inside upto ts) e = absurd (cc)

  pub turn_goes_on : (ts : Trees) → at_end ts ≡ false →
      turn_to_end part ts ≡ then {A = A × Trees} {B = Turn A (Unit {0}) × Trees} (part ts) (λ a. Some (One a.0, a.1))
  turn_goes_on no_trees e = absurd (cc)
  turn_goes_on (token k ts) e = refl
  turn_goes_on (group d from inside upto ts) e = refl
