-- A declaration's names are refused exactly where they may not stand.
use Rattle.std.proofs.Common.{◌≡◌, zero, suc, Bool, true, false, cond, ◌||◌, List, [], ◌∷◌, ◌++◌, Option, Some, None, All, AllPairs, find, get_or, refl, sym, ap, ◌∙◌, arith}
use Rattle.std.specs.List.{list_any}
use Rattle.std.proofs.lemmas.List.Elements.{All-nil, All-cons, All-head, All-tail}
use Rattle.std.proofs.lemmas.List.Kept.{AllPairs-cons}
use Rattle.std.proofs.lemmas.List.Folds.{list_any-append}
use Rattle.dm_stream.specs.declared.error.Refusal.{Refusal}
use Rattle.dm_stream.specs.declared.error.Kind.{Kind}
use Rattle.dm_stream.specs.declared.error.Kind.TheVariants.{Unsupported, DuplicateName, ReservedName}
use Rattle.dm_ast.specs.Declarations.{Declaration}
use Rattle.dm_ast.specs.Names.{Found, found, is_macro, is_again, is_reserved, Named, first_again, refused_at, names_refusal}

test_none : {A : Type 0} (b : Bool) (x : A) (o : Option A) → cond b (Some x) o ≡ None → (b ≡ false) × (o ≡ None)
test_none true x o e = absurd (cc)
test_none false x o e = (refl, e)

neither : (a b : Bool) → (a || b) ≡ false → (a ≡ false) × (b ≡ false)
neither true b e = absurd (cc)
neither false b e = (refl, e)

-- ---- none that passes a test

module _ {A : Type 0} (test : A → Bool) where
  none_found : (xs : List A) → find test xs ≡ None → All (λ x. test x ≡ false) xs
  none_found [] e = All-nil (λ x. test x ≡ false)
  none_found (x ∷ xs) e =
      let h = test_none (test x) x (find test xs) e in
      All-cons (λ y. test y ≡ false) x xs h.0 (none_found xs h.1)

  found_none : (xs : List A) → All (λ x. test x ≡ false) xs → find test xs ≡ None
  found_none [] h = refl
  found_none (x ∷ xs) h =
      ap (λ b. cond b (Some x) (find test xs)) (All-head (λ y. test y ≡ false) x xs h) ∙ found_none xs (All-tail (λ y. test y ≡ false) x xs h)

-- ---- none that stands for an earlier one again

module _ {A : Type 0} (again : A → A → Bool) where
  abbrev Apart : List A → Type 0
  Apart xs = AllPairs (λ x y. again x y ≡ false) xs

  -- none of the elements stands for one of these
  abbrev Fresh : List A → List A → Type 0
  Fresh earlier xs = All (λ x. list_any (λ y. again y x) earlier ≡ false) xs

  one_more : (earlier : List A) (x y : A) → list_any (λ z. again z y) (earlier ++ x ∷ []) ≡ (list_any (λ z. again z y) earlier || (again x y || false))
  one_more earlier x y = list_any-append (λ z. again z y) earlier (x ∷ [])

  or_false : (b : Bool) → (b || false) ≡ false → b ≡ false
  or_false true e = e
  or_false false e = refl

  fresh_more : (earlier : List A) (x : A) (xs : List A) → Fresh earlier xs → All (λ y. again x y ≡ false) xs → Fresh (earlier ++ x ∷ []) xs
  fresh_more earlier x xs h k n d less =
      one_more earlier x (get_or xs n d) ∙ ap (λ b. b || (again x (get_or xs n d) || false)) (h n d less) ∙ ap (λ b. b || false) (k n d less)

  fresh_less : (earlier : List A) (x : A) (xs : List A) → Fresh (earlier ++ x ∷ []) xs → Fresh earlier xs
  fresh_less earlier x xs h n d less =
      (neither (list_any (λ z. again z (get_or xs n d)) earlier) (again x (get_or xs n d) || false) (sym (one_more earlier x (get_or xs n d)) ∙ h n d less)).0

  apart_from : (earlier : List A) (x : A) (xs : List A) → Fresh (earlier ++ x ∷ []) xs → All (λ y. again x y ≡ false) xs
  apart_from earlier x xs h n d less =
      or_false (again x (get_or xs n d))
      (neither (list_any (λ z. again z (get_or xs n d)) earlier) (again x (get_or xs n d) || false) (sym (one_more earlier x (get_or xs n d)) ∙ h n d less)).1

  pairs_head : (x : A) (xs : List A) → Apart (x ∷ xs) → All (λ y. again x y ≡ false) xs
  pairs_head x xs h k d within = h zero (suc k) d (omega arith) (omega arith)

  pairs_tail : (x : A) (xs : List A) → Apart (x ∷ xs) → Apart xs
  pairs_tail x xs h i j d lt within = h (suc i) (suc j) d (omega arith) (omega arith)

  none_again : (earlier xs : List A) → first_again again earlier xs ≡ None → Fresh earlier xs × Apart xs
  none_again earlier [] e = (All-nil (λ x. list_any (λ y. again y x) earlier ≡ false), λ i j d lt within. absurd (omega (arith, within)))
  none_again earlier (x ∷ xs) e =
      let h = test_none (list_any (λ y. again y x) earlier) x (first_again again (earlier ++ x ∷ []) xs) e in
      let rest = none_again (earlier ++ x ∷ []) xs h.1 in (
        All-cons (λ z. list_any (λ y. again y z) earlier ≡ false) x xs h.0 (fresh_less earlier x xs rest.0),
        AllPairs-cons (λ y z. again y z ≡ false) x xs (apart_from earlier x xs rest.0) rest.1,
      )

  again_none : (earlier xs : List A) → Fresh earlier xs → Apart xs → first_again again earlier xs ≡ None
  again_none earlier [] h k = refl
  again_none earlier (x ∷ xs) h k =
      ap (λ b. cond b (Some x) (first_again again (earlier ++ x ∷ []) xs)) (All-head (λ z. list_any (λ y. again y z) earlier ≡ false) x xs h) ∙
      again_none (earlier ++ x ∷ []) xs (fresh_more earlier x xs (All-tail (λ z. list_any (λ y. again y z) earlier ≡ false) x xs h) (pairs_head x xs k)) (pairs_tail x xs k)

-- ---- the refusal

no_refusal : (kind : Kind) (o : Option Found) (other : Option Refusal) → refused_at kind o other ≡ None → (o ≡ None) × (other ≡ None)
no_refusal kind None other e = (refl, e)
no_refusal kind (Some f) other e = absurd (cc)

pub named_by : (d : Declaration) → names_refusal d ≡ None → Named d
named_by d e =
    let a = no_refusal Unsupported (find is_macro (found d))
    (refused_at DuplicateName (first_again is_again [] (found d)) (refused_at ReservedName (find is_reserved (found d)) None)) e in
    let b = no_refusal DuplicateName (first_again is_again [] (found d)) (refused_at ReservedName (find is_reserved (found d)) None) a.1 in
    let c = no_refusal ReservedName (find is_reserved (found d)) None b.1 in
    record {
      no_macro = none_found is_macro (found d) a.0;
      distinct = (none_again is_again [] (found d) b.0).1;
      none_reserved = none_found is_reserved (found d) c.0;
    }

pub not_refused : (d : Declaration) → Named d → names_refusal d ≡ None
not_refused d n =
    ap (λ o. refused_at Unsupported o (refused_at DuplicateName (first_again is_again [] (found d)) (refused_at ReservedName (find is_reserved (found d)) None)))
    (found_none is_macro (found d) n.no_macro) ∙
    ap (λ o. refused_at DuplicateName o (refused_at ReservedName (find is_reserved (found d)) None)) (again_none is_again [] (found d) (λ k f less. refl) n.distinct) ∙
    ap (λ o. refused_at ReservedName o None) (found_none is_reserved (found d) n.none_reserved)

-- there is no refusal exactly where the names may stand
pub refused-exactly : (d : Declaration) → ((names_refusal d ≡ None) → Named d) × (Named d → (names_refusal d ≡ None))
refused-exactly d = (named_by d, not_refused d)

pub refused_not_named : (d : Declaration) (r : Refusal) → names_refusal d ≡ Some r → Named d → ⊥
refused_not_named d r e n =
    let f = not_refused d n in
    absurd (cc)
