-- A list that the plain reader reads part for part, as turns.
use Rattle.std.proofs.Common.{◌≡◌, ℕ, zero, suc, List, [], ◌∷◌, Option, Some, None, refl, ap, ◌∙◌}
use Rattle.dm_stream.specs.Trees.{Trees, no_trees, token, group}
use Rattle.dm_reread.specs.Leaves.{Answer}
use Rattle.dm_reread.specs.Reading.{then}
use Rattle.dm_read_places.specs.declared.list.Turn.{Turn}
use Rattle.dm_read_places.specs.declared.list.Turn.TheVariants.{One}
use Rattle.dm_read_places.specs.Repeating.{after_turn, repeat}
use Rattle.dm_read_places.specs.ToEnd.{turn_to_end}
use Rattle.dm_read_places.proofs.Lists.{Listed, in_front, Whole, whole_in_front}

-- what is read behind an answer, where that is the same behind each
pub behind_same : {A B : Type 0} {f g : A → Option B} → ((a : A) → f a ≡ g a) → (o : Option A) → then o f ≡ then o g
behind_same e None = refl
behind_same e (Some a) = e a

pub same_list : {A : Type 0} (x : A) (xs : List A) → x ∷ xs ≡ x ∷ xs
same_list x xs = refl

-- parts, and the trees behind them
abbrev pub Parts : {A : Type 0} → Answer (List A × Unit {0}) → Answer (List A)
Parts {A} o = Listed (λ (xs : List A). xs) (λ x xs. x ∷ xs) same_list o

-- parts to the end
abbrev pub AllParts : {A : Type 0} → Answer (List A × Unit {0}) → Option (List A)
AllParts {A} o = Whole (λ (xs : List A). xs) (λ x xs. x ∷ xs) same_list o

-- a turn, and the trees behind it
abbrev pub PartTurn : Type 0 → Type 0
PartTurn A = Turn A (Unit {0}) × Trees

-- a part, where there is one
abbrev pub one_part : {A : Type 0} → Answer A → Option (PartTurn A)
one_part o = then o (λ a. Some (One a.0, a.1))

module _ {A : Type 0} (turn : ℕ → Trees → Answer (Turn A (Unit {0}))) (n : ℕ) where
  pub part_on : (read : Trees → Answer (List A)) → ((ts : Trees) → read ts ≡ Parts (repeat turn n ts)) → (o : Answer A) →
      then {B = List A × Trees} o (λ a. then (read a.1) (λ s. Some (a.0 ∷ s.0, s.1))) ≡
      Parts (then {A = PartTurn A} (one_part o) (λ u. after_turn (repeat turn n) u.0 u.1))
  part_on read more None = refl
  part_on read more (Some a) =
      ap {B = Answer (List A)} (λ o. then o (λ s. Some (a.0 ∷ s.0, s.1))) (more a.1) ∙
      in_front (λ (xs : List A). xs) (λ x xs. x ∷ xs) same_list a.0 (repeat turn n a.1)

  pub whole_part_on : (read : Trees → Option (List A)) → ((ts : Trees) → read ts ≡ AllParts (repeat turn n ts)) → (o : Answer A) →
      then {B = List A} o (λ a. then (read a.1) (λ s. Some (a.0 ∷ s))) ≡
      AllParts (then {A = PartTurn A} (one_part o) (λ u. after_turn (repeat turn n) u.0 u.1))
  whole_part_on read more None = refl
  whole_part_on read more (Some a) =
      ap {B = Option (List A)} (λ o. then o (λ s. Some (a.0 ∷ s))) (more a.1) ∙
      whole_in_front (λ (xs : List A). xs) (λ x xs. x ∷ xs) same_list a.0 (repeat turn n a.1)

-- ---- parts to the end of the trees

abbrev pub parts_from : {A : Type 0} → (Trees → Answer A) → (Trees → Option (List A)) → Trees → Option (List A)
parts_from part more no_trees = Some []
parts_from part more ts = then (part ts) (λ a. then (more a.1) (λ s. Some (a.0 ∷ s)))

-- as many turns as are wanted, one behind the other
abbrev pub parts_to_end : {A : Type 0} → (Trees → Answer A) → ℕ → Trees → Option (List A)
parts_to_end part n ts = AllParts (repeat (λ _. turn_to_end part) n ts)

-- what is read in so many turns, where each is of one part
module _ {A : Type 0} (part : Trees → Answer A) (read : ℕ → Trees → Option (List A))
    (none : (ts : Trees) → read zero ts ≡ None) (one_more : (n : ℕ) (ts : Trees) → read (suc n) ts ≡ parts_from part (read n) ts) where
  turn_on : (n : ℕ) → ((ts : Trees) → read n ts ≡ parts_to_end part n ts) → (ts : Trees) →
      parts_from part (read n) ts ≡ parts_to_end part (suc n) ts
  turn_on n more no_trees = refl
  turn_on n more (token k ts) = whole_part_on (λ _. turn_to_end part) n (read n) more (part (token k ts))
  turn_on n more (group d from inside upto ts) = whole_part_on (λ _. turn_to_end part) n (read n) more (part (group d from inside upto ts))

  pub parts_are : (n : ℕ) (ts : Trees) → read n ts ≡ parts_to_end part n ts
  parts_are zero ts = none ts
  parts_are (suc n) ts = one_more n ts ∙ turn_on n (parts_are n) ts
