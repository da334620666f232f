-- A turn of a list that goes on, and one that ends it.
use Rattle.std.proofs.Common.{◌≡◌, ℕ, suc, List, [], ◌∷◌, ◌++◌, map, Some, None, option_map, refl, sym, ap, ◌∙◌, append_assoc, append-nil}
use Rattle.std.proofs.lemmas.Grind.{common_steps}
use Rattle.dm_stream.specs.Trees.{Trees}
use Rattle.dm_read.proofs.Loops.{map_added}
use Rattle.dm_read_places.specs.declared.list.Turn.{Turn}
use Rattle.dm_read_places.specs.declared.list.Turn.TheVariants.{One, End}
use Rattle.dm_reread.specs.Leaves.{Answer}
use Rattle.dm_reread.specs.Reading.{then}
use Rattle.dm_read_places.specs.Repeating.{before_others, after_turn, repeat, behind_parts}

module _ {A B : Type 0} (turn : ℕ → Trees → Answer (Turn A B)) where
  moved : (xs : List A) (x : A) (o : Answer (List A × B)) →
      option_map (behind_parts xs) (then o (λ s. Some (before_others x s))) ≡ option_map (behind_parts (xs ++ x ∷ [])) o
  moved xs x None = refl
  moved xs x (Some s) = ap (λ (ys : List A). Some ((ys, s.0.1), s.1)) (sym (append_assoc xs (x ∷ []) s.0.0))

  pub goes_on : (n : ℕ) (xs : List A) (x : A) (ts us : Trees) → turn n ts ≡ Some (One x, us) →
      option_map (behind_parts xs) (repeat turn (suc n) ts) ≡ option_map (behind_parts (xs ++ x ∷ [])) (repeat turn n us)
  goes_on n xs x ts us e =
      ap (λ t. option_map (behind_parts xs) (then t (λ s. after_turn (repeat turn n) s.0 s.1))) e ∙ moved xs x (repeat turn n us)

  pub ends : (n : ℕ) (xs : List A) (e : B) (ts us : Trees) → turn n ts ≡ Some (End e, us) →
      option_map (behind_parts xs) (repeat turn (suc n) ts) ≡ Some ((xs, e), us)
  ends n xs e ts us h =
      ap (λ t. option_map (behind_parts xs) (then t (λ s. after_turn (repeat turn n) s.0 s.1))) h ∙
      ap (λ (ys : List A). Some ((ys, e), us)) (append-nil xs)

  pub refuses : (n : ℕ) (xs : List A) (ts : Trees) → turn n ts ≡ None → option_map (behind_parts xs) (repeat turn (suc n) ts) ≡ None
  refuses n xs ts h = ap (λ t. option_map (behind_parts xs) (then t (λ s. after_turn (repeat turn n) s.0 s.1))) h

  -- a loop that holds the parts, of which one is added
  pub part_held : {X : Type 0} (view : X → A) {all : Answer (List A × B)} (held new : List X) (x : X) {n : ℕ} (m : ℕ) {ts us : Trees} → n ≡ suc m →
      all ≡ option_map (behind_parts (map view held)) (repeat turn n ts) → turn m ts ≡ Some (One (view x), us) → new ≡ held ++ x ∷ [] →
      all ≡ option_map (behind_parts (map view new)) (repeat turn m us)
  part_held view held new x m {ts} {us} left is_all is_turn added =
      is_all ∙ ap (λ k. option_map (behind_parts (map view held)) (repeat turn k ts)) left ∙
      goes_on m (map view held) (view x) ts us is_turn ∙
      ap (λ xs. option_map (behind_parts xs) (repeat turn m us)) (sym (map_added view held new x added))

  -- the same loop at the end
  pub end_held : {X : Type 0} (view : X → A) {all : Answer (List A × B)} (held : List X) (e : B) {n : ℕ} (m : ℕ) {ts us : Trees} → n ≡ suc m →
      all ≡ option_map (behind_parts (map view held)) (repeat turn n ts) → turn m ts ≡ Some (End e, us) → all ≡ Some ((map view held, e), us)
  end_held view held e m {ts} {us} left is_all is_turn =
      is_all ∙ ap (λ k. option_map (behind_parts (map view held)) (repeat turn k ts)) left ∙ ends m (map view held) e ts us is_turn

  pub front : (o : Answer (List A × B)) → o ≡ option_map (behind_parts []) o
  front None = refl
  front (Some s) = refl

pub ruleset repeat_steps = (common_steps)
