-- The plain reader's lists are turns: lists of any parts, and the segments of paths.
use Rattle.std.proofs.Common.{◌≡◌, ℕ, zero, suc, List, ◌∷◌, Option, Some, None, option_map, refl, sym, ap, ◌∙◌}
use Rattle.dm_stream.specs.Trees.{Trees}
use Rattle.dm_ast.specs.Tree.{SegmentTree, SegmentTrees, segment, absent, segment_then, segments_of}
use Rattle.dm_reread.specs.Next.{Next, colons, a_name, next}
use Rattle.dm_reread.specs.Leaves.{Answer}
use Rattle.dm_reread.specs.Reading.{then, readers, segment_from, more_segments}
use Rattle.dm_read_places.specs.declared.list.Turn.{Turn}
use Rattle.dm_read_places.specs.declared.list.Turn.TheVariants.{One}
use Rattle.dm_read_places.specs.Repeating.{before_others, after_turn, repeat}
use Rattle.dm_read_places.specs.Turns.{rows, one_segment, segment_turn_at, segment_turn}
use Rattle.dm_read_places.proofs.Thens.{then_on}

-- ---- a part in front of what is read behind it

-- what is made of a turn and of what is read behind it
abbrev pub Behind : {A B R : Type 0} → ((List A × B) × Trees → R) → (ℕ → Trees → Answer (Turn A B)) → ℕ → Answer (Turn A B) → Option R
Behind of turn n o = option_map of (then o (λ t. after_turn (repeat turn n) t.0 t.1))

in_front_of : {A B R : Type 0} (of : (List A × B) × Trees → R) (cons : A → R → R) → ((x : A) (s : (List A × B) × Trees) → of (before_others x s) ≡ cons x (of s)) → (x : A) (o : Answer (List A × B)) →
    then (option_map of o) (λ s. Some (cons x s)) ≡ option_map of (then o (λ s. Some (before_others x s)))
in_front_of of cons made x None = refl
in_front_of of cons made x (Some s) = ap Some (sym (made x s))

module _ {A B R : Type 0} {of : (List A × B) × Trees → R} (turn : ℕ → Trees → Answer (Turn A B)) (n : ℕ) {rest : Trees → Option R} (more : (ts : Trees) → rest ts ≡ option_map of (repeat turn n ts)) (cons : A → R → R) (made : (x : A) (s : (List A × B) × Trees) → of (before_others x s) ≡ cons x (of s)) where
  -- a part that was read
  pub one_on : (x : A) (ts : Trees) → then (rest ts) (λ s. Some (cons x s)) ≡ Behind of turn n (Some (One x, ts))
  one_on x ts = ap (λ o. then o (λ s. Some (cons x s))) (more ts) ∙ in_front_of of cons made x (repeat turn n ts)

  -- a part that is read
  pub part_on : (o : Answer A) →
      then o (λ a. then (rest a.1) (λ s. Some (cons a.0 s))) ≡ Behind of turn n (then o (λ a. Some (One a.0, a.1)))
  part_on o = then_on (Behind of turn n) refl o _ _ (λ a. one_on a.0 a.1)

module _ {A B L : Type 0} (of : List A → L) (cons : A → L → L) (made : (x : A) (xs : List A) → of (x ∷ xs) ≡ cons x (of xs)) where
  -- with trees that are left
  abbrev pub Listed : Answer (List A × B) → Answer L
  Listed o = option_map (λ v. (of v.0.0, v.1)) o

  pub in_front : (x : A) (o : Answer (List A × B)) →
      then (Listed o) (λ s. Some (cons x s.0, s.1)) ≡ Listed (then o (λ s. Some (before_others x s)))
  in_front x o = in_front_of (λ v. (of v.0.0, v.1)) (λ y s. (cons y s.0, s.1)) (λ y s. ap (λ l. (l, s.1)) (made y s.0.0)) x o

  -- to the end
  abbrev pub Whole : Answer (List A × B) → Option L
  Whole o = option_map (λ v. of v.0.0) o

  pub whole_in_front : (x : A) (o : Answer (List A × B)) →
      then (Whole o) (λ s. Some (cons x s)) ≡ Whole (then o (λ s. Some (before_others x s)))
  whole_in_front x o = in_front_of (λ v. of v.0.0) cons (λ y s. made y s.0.0) x o

-- ---- paths

abbrev segments : (List SegmentTree × Unit {0}) × Trees → SegmentTrees × Trees
segments v = (segments_of v.0.0, v.1)

module _ (n : ℕ) (more : (ts : Trees) → (rows n).segments ts ≡ option_map segments (repeat segment_turn n ts)) where
  segment_on : (m : Next) → segment_from (rows n) m ≡ Behind segments segment_turn n (one_segment m)
  segment_on (a_name i us) = one_on segment_turn n more (λ x s. (segment_then x s.0, s.1)) (λ x s. refl) (segment i absent) us
  segment_on _ = refl

  segments_on : (ts : Trees) (m : Next) → more_segments (rows n) ts m ≡ Behind segments segment_turn n (segment_turn_at ts m)
  segments_on ts (colons us) = segment_on (next us)
  segments_on ts _ = refl

pub segments_are : (n : ℕ) (ts : Trees) → (rows n).segments ts ≡ option_map (λ v. (segments_of v.0.0, v.1)) (repeat segment_turn n ts)
unfolding readers
segments_are zero ts = refl
segments_are (suc n) ts = segments_on n (segments_are n) ts (next ts)
