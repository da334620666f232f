-- The predicates that an operator adds cover the operations on fields.
use Rattle.std.proofs.Common.{◌≡◌, ℕ, zero, suc, List, [], ◌∷◌, ◌++◌, map, Bool, true, false, not, cond, ◌&&◌, ◌||◌, Some, None, slice_get, refl, sym, ap, subst, inl, inr}
use Rattle.std.specs.Prelude.{flat_map, ◌⊎◌}
use Rattle.dm_ast.specs.Tree.{TypeTree}
use Rattle.dm_ast.specs.Declarations.{FieldTree, PredicateTree, Declaration}
use Rattle.dm_ast.specs.Implementors.{predicates_of}
use Rattle.dm_output.specs.Output.{ItemTree}
use Rattle.dm_output.specs.Values.{Case, cases, field_list}
use Rattle.dm_searches.specs.Mentions.{mentions}
use Rattle.dm_searches.specs.Inside.{inside}
use Rattle.dm_operands.specs.Marked.{MarkedField, mark_field, mark_case}
use Rattle.dm_bounds.specs.Needed.{Wanted, wanted_of, bounded}
use Rattle.dm_bounds.specs.Covering.{IsAmong, HoldsOwn}
use Rattle.dm_operators.specs.Operators.{Form, structural, scalar, unary, Operator}
use Rattle.dm_operators.specs.Attributes.{skips, cases_for, form_in}
use Rattle.dm_operators.specs.Predicates.{asked, is_asked, added, added_in, copied, needed}
use Rattle.dm_operators.specs.Heads.{IsOperation}
use Rattle.dm_operators.specs.Refusals.{refusal}
use Rattle.dm_operators.specs.Covered.{IsBinary, Covers}
use Rattle.dm_operators.proofs.BinaryArms.{AreOpen}
use Rattle.dm_operators.proofs.RefusalLaws.{unrefused-open}

-- ---- items of joined lists

among-last : {A : Type 0} (x : A) (xs ys : List A) → IsAmong x ys → IsAmong x (xs ++ ys)
among-last x [] ys h = h
among-last x (z ∷ xs) ys h = let k = among-last x xs ys h in (suc k.0, k.1)

among-first : {A : Type 0} (x : A) (xs ys : List A) (k : ℕ) → slice_get xs k ≡ Some x → slice_get (xs ++ ys) k ≡ Some x
among-first x [] ys k h = absurd cc
among-first x (z ∷ xs) ys zero h = h
among-first x (z ∷ xs) ys (suc k) h = among-first x xs ys k h

among-all : {A B : Type 0} (f : A → List B) (y : B) (x : A) (xs : List A) (j : ℕ) → slice_get xs j ≡ Some x →
    IsAmong y (f x) → IsAmong y (flat_map f xs)
among-all f y x [] j at h = absurd cc
among-all {A} {B} f y x (z ∷ xs) zero at h =
    let e : x ≡ z = cc in
    rw (← e) (h.0, among-first y (f x) (flat_map f xs) h.0 h.1)
among-all f y x (z ∷ xs) (suc j) at h = among-last y (f z) (flat_map f xs) (among-all f y x xs j at h)

mapped-at : {A B : Type 0} (f : A → B) (xs : List A) (j : ℕ) (x : A) → slice_get xs j ≡ Some x → slice_get (map f xs) j ≡ Some (f x)
mapped-at f [] j x at = absurd cc
mapped-at f (z ∷ xs) zero x at = let e : z ≡ x = cc in ap (λ v. Some (f v)) e
mapped-at f (z ∷ xs) (suc j) x at = mapped-at f xs j x at

-- ---- one field

-- a type that mentions a parameter is asked for, or it holds the type itself
asks : (form : Form) (w : Wanted) (t : TypeTree) → IsBinary form → mentions w.parameters t ≡ true →
    HoldsOwn w t ⊎ (is_asked form w t ≡ true)
asks unary w t binary says = absurd binary
asks structural w t binary says =
    (elim (inside w.this t) as (λ a. inside w.this t ≡ a → HoldsOwn w t ⊎
    ((mentions w.parameters t && not (a || inside w.whole t)) ≡ true)) [
      | true ↦ λ e. inl (inl e)
      | false ↦ λ e.
          (elim (inside w.whole t) as (λ b. inside w.whole t ≡ b → HoldsOwn w t ⊎ ((mentions w.parameters t && not b) ≡ true)) [
            | true ↦ λ g. inl (inr g)
            | false ↦ λ g. inr (rw says refl)
          ]) refl
    ]) refl
asks scalar w t binary says =
    (elim (inside w.this t) as (λ a. inside w.this t ≡ a → HoldsOwn w t ⊎ (not (a || inside w.whole t) ≡ true)) [
      | true ↦ λ e. inl (inl e)
      | false ↦ λ e.
          (elim (inside w.whole t) as (λ b. inside w.whole t ≡ b → HoldsOwn w t ⊎ (not b ≡ true)) [
            | true ↦ λ g. inl (inr g)
            | false ↦ λ g. inr refl
          ]) refl
    ]) refl

-- a kept field adds its predicate
field-adds : (form : Form) (o : Operator) (w : Wanted) (f : FieldTree) → skips o f.attrs ≡ false → is_asked form w f.ty ≡ true →
    IsAmong (bounded (asked form o f.ty) f.ty) (added form o w (mark_field (skips o) f))
field-adds form o w f kept says =
    subst (λ (b : Bool). IsAmong (bounded (asked form o f.ty) f.ty) (cond (not b && is_asked form w f.ty)
    (bounded (asked form o f.ty) f.ty ∷ []) [])) (sym kept)
    (subst (λ (b : Bool). IsAmong (bounded (asked form o f.ty) f.ty) (cond b (bounded (asked form o f.ty) f.ty ∷ [])
    [])) (sym says) (zero, refl))

case-adds : (form : Form) (o : Operator) (w : Wanted) (c : Case) (f : FieldTree) (j : ℕ) → skips o c.attrs ≡ false →
    slice_get (field_list c.fields) j ≡ Some f →
    skips o f.attrs ≡ false → is_asked form w f.ty ≡ true → IsAmong (bounded (asked form o f.ty) f.ty)
    (added_in form o w (mark_case (skips o) c))
case-adds form o w c f j kept at own says =
    let fs : List MarkedField = map (mark_field (skips o)) (field_list c.fields) in
    subst (λ (b : Bool). IsAmong (bounded (asked form o f.ty) f.ty) (cond b [] (flat_map (added form o w) (cond b [] fs)))) (sym kept)
    (among-all (added form o w) (bounded (asked form o f.ty) f.ty) (mark_field (skips o) f) fs j
    (mapped-at (mark_field (skips o)) (field_list c.fields) j f at) (field-adds form o w f own says))

-- ---- all of them

pub needed-covers : (o : Operator) (d : Declaration) → AreOpen o d → IsBinary (form_in o d) → Covers o d (predicates_of d ++ needed o d)
needed-covers o d kept binary = record {
  covers = λ c f i j at there own says.
      let form : Form = form_in o d in
      let p : PredicateTree = bounded (asked form o f.ty) f.ty in
      let adds : is_asked form (wanted_of d) f.ty ≡ true → IsAmong p (predicates_of d ++ needed o d) =
      λ e. among-last p (predicates_of d) (needed o d)
      (in-front p (flat_map (added_in form o (wanted_of d)) (cases_for o d)) (copied form (cases_for o d))
      (among-all (added_in form o (wanted_of d)) p (mark_case (skips o) c) (cases_for o d) i
      (mapped-at (mark_case (skips o)) (cases d) i c at)
      (case-adds form o (wanted_of d) c f j (kept i c at) there own e))) in
      elim (asks form (wanted_of d) f.ty binary says) as (λ _. HoldsOwn (wanted_of d) f.ty ⊎ IsAmong p (predicates_of d ++ needed o d))
      [ inl h ↦ inl h | inr e ↦ inr (adds e) ];
}
  where
    in-front : {A : Type 0} (x : A) (xs ys : List A) → IsAmong x xs → IsAmong x (xs ++ ys)
    in-front x xs ys h = (h.0, among-first x xs ys h.0 h.1)

-- the predicates of an implementation whose declaration isn't refused cover the calls of the trait's method
pub operation-covers : (o : Operator) (d : Declaration) (item : ItemTree) → refusal o d ≡ None → IsBinary (form_in o d) →
    IsOperation o d item → Covers o d item.predicates
operation-covers o d item unrefused binary is = subst (Covers o d) (sym is.predicates)
    (needed-covers o d (unrefused-open o d unrefused) binary)
