-- The predicates that are added cover the operations on fields.
use Rattle.std.proofs.Common.{◌≡◌, ℕ, zero, suc, ◌+◌, List, [], ◌∷◌, ◌++◌, map, true, false, Some, slice_get, refl, ap, inl, inr}
use Rattle.std.specs.Prelude.{flat_map, ◌⊎◌}
use Rattle.dm_ast.specs.Tree.{PathTree}
use Rattle.dm_ast.specs.Declarations.{FieldTree, PredicateTree, Declaration}
use Rattle.dm_attr.specs.Skips.{is_skipped}
use Rattle.dm_output.specs.Values.{Case, cases, field_list}
use Rattle.dm_searches.specs.Mentions.{mentions}
use Rattle.dm_searches.specs.Inside.{inside}
use Rattle.dm_operands.specs.Marked.{mark_field, mark_case, marked}
use Rattle.dm_bounds.specs.Needed.{Wanted, wanted_of, bounded, added, added_in, needed}
use Rattle.dm_bounds.specs.Covering.{IsAmong, HoldsOwn, Covers}

-- an item among the first, or among the last, of two lists
among-last : {A : Type 0} (x : A) (xs ys : List A) → IsAmong x ys → IsAmong x (xs ++ ys)
among-last x [] ys h = h
among-last x (z ∷ xs) ys h = let k = among-last x xs ys h in (suc k.0, k.1)

among-first : {A : Type 0} (x : A) (xs ys : List A) (k : ℕ) → slice_get xs k ≡ Some x → slice_get (xs ++ ys) k ≡ Some x
among-first x [] ys k h = absurd (cc)
among-first x (z ∷ xs) ys zero h = h
among-first x (z ∷ xs) ys (suc k) h = among-first x xs ys k h

-- what one item adds is among what all add
among-all : {A B : Type 0} (f : A → List B) (y : B) (x : A) (xs : List A) (j : ℕ) → slice_get xs j ≡ Some x → IsAmong y (f x) → IsAmong y (flat_map f xs)
among-all f y x [] j at h = absurd (cc)
among-all {A} {B} f y x (z ∷ xs) zero at h =
    let e : x ≡ z = cc in
    rw (← e) (h.0, among-first y (f x) (flat_map f xs) h.0 h.1)
among-all f y x (z ∷ xs) (suc j) at h = among-last y (f z) (flat_map f xs) (among-all f y x xs j at h)

mapped-at : {A B : Type 0} (f : A → B) (xs : List A) (j : ℕ) (x : A) → slice_get xs j ≡ Some x → slice_get (map f xs) j ≡ Some (f x)
mapped-at f [] j x at = absurd (cc)
mapped-at f (z ∷ xs) zero x at = let e : z ≡ x = cc in ap (λ v. Some (f v)) e
mapped-at f (z ∷ xs) (suc j) x at = mapped-at f xs j x at

-- a kept field whose type mentions a parameter and doesn't hold the type itself adds its predicate
field-adds : (p : PathTree) (w : Wanted) (f : FieldTree) → is_skipped f.attrs ≡ false → mentions w.parameters f.ty ≡ true →
    HoldsOwn w f.ty ⊎ IsAmong (bounded p f.ty) (added p w (mark_field is_skipped f))
field-adds p w f kept says =
    (elim (inside w.this f.ty) as (λ a. inside w.this f.ty ≡ a → HoldsOwn w f.ty ⊎ IsAmong (bounded p f.ty) (added p w (mark_field is_skipped f))) [
      | true ↦ λ e. inl (inl e)
      | false ↦ λ e.
          (elim (inside w.whole f.ty) as (λ b. inside w.whole f.ty ≡ b → HoldsOwn w f.ty ⊎ IsAmong (bounded p f.ty) (added p w (mark_field is_skipped f))) [
            | true ↦ λ g. inl (inr g)
            | false ↦ λ g. inr (rw (kept, says, e, g) (zero, refl))
          ]) refl
    ]) refl

-- a kept field of a kept case
case-adds : (p : PathTree) (w : Wanted) (c : Case) (f : FieldTree) (j : ℕ) → is_skipped c.attrs ≡ false → slice_get (field_list c.fields) j ≡ Some f →
    is_skipped f.attrs ≡ false → mentions w.parameters f.ty ≡ true → HoldsOwn w f.ty ⊎ IsAmong (bounded p f.ty) (added_in p w (mark_case is_skipped c))
case-adds p w c f j kept at own says =
    (elim (field-adds p w f own says) as (λ _. HoldsOwn w f.ty ⊎ IsAmong (bounded p f.ty) (added_in p w (mark_case is_skipped c))) [
      | inl h ↦ inl h
      | inr h ↦ inr (rw kept
          (among-all (added p w) (bounded p f.ty) (mark_field is_skipped f) (map (mark_field is_skipped) (field_list c.fields)) j
          (mapped-at (mark_field is_skipped) (field_list c.fields) j f at) h))
    ])

pub needed-covers : (p : PathTree) (d : Declaration) → Covers p d (needed p d)
needed-covers p d = record {
  covers = λ c f i j at kept there own says.
      elim (case-adds p (wanted_of d) c f j kept there own says) as (λ _. HoldsOwn (wanted_of d) f.ty ⊎ IsAmong (bounded p f.ty) (needed p d)) [
        | inl h ↦ inl h
        | inr h ↦ inr (among-all (added_in p (wanted_of d)) (bounded p f.ty) (mark_case is_skipped c) (marked is_skipped d) i (mapped-at (mark_case is_skipped) (cases d) i c at) h)
      ];
}

-- and more predicates in front take nothing away
pub covers-behind : (p : PathTree) (d : Declaration) (ps qs : List PredicateTree) → Covers p d qs → Covers p d (ps ++ qs)
covers-behind p d ps qs h = record {
  covers = λ c f i j at kept there own says.
      elim (h.covers c f i j at kept there own says) as (λ _. HoldsOwn (wanted_of d) f.ty ⊎ IsAmong (bounded p f.ty) (ps ++ qs)) [
        | inl x ↦ inl x
        | inr x ↦ inr (among-last (bounded p f.ty) ps qs x)
      ];
}
