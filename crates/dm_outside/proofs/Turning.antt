-- What one more turn adds to those before it.
use Rattle.std.proofs.Common.{◌≡◌, ℕ, ◌+◌, ◌<◌, List, [], ◌∷◌, ◌++◌, length, drop, Option, Some, None, sum, arith, sym, subst, ap, ◌∙◌, refl}
use Rattle.std.specs.Prelude.{Bool, true, false, Result, Ok, Err, OnErr, is_ok, is_err, if◌then◌else◌, take}
use Rattle.std.specs.Io.KnownBytes.{Appends, Keeps}
use Rattle.std.proofs.KnownBytes.{Appends-kept}
use Rattle.std.proofs.lemmas.List.{length-append}
use Rattle.std.proofs.lemmas.List.{drop-drop}
use Rattle.std.proofs.lemmas.List.Elements.{All-push}
use Rattle.std.proofs.lemmas.List.Sums.{sum_by-append}
use Rattle.dm_outside.specs.Offers.{Offer, Adds}
use Rattle.dm_outside.specs.Transfers.{EachTook, TookSome, EachOffersAll, taken_by, OffersAll, OffersPrefix}

append-nil : {A : Type 0} (xs : List A) → xs ≡ xs ++ []
append-nil [] = refl
append-nil (x ∷ xs) = ap (λ ys. x ∷ ys) (append-nil xs)

append-assoc : {A : Type 0} (xs ys zs : List A) → (xs ++ ys) ++ zs ≡ xs ++ (ys ++ zs)
append-assoc [] ys zs = refl
append-assoc (x ∷ xs) ys zs = ap (λ l. x ∷ l) (append-assoc xs ys zs)

-- what is added after what was added
pub adds-more : {A : Type 0} (a b c : Option (List A)) (xs ys : List A) → Adds a b xs → Adds b c ys → Adds a c (xs ++ ys)
adds-more None b c xs ys p q = tt
adds-more (Some us) None c xs ys p q = absurd p
adds-more (Some us) (Some vs) None xs ys p q = absurd q
adds-more (Some us) (Some vs) (Some ws) xs ys p q = q ∙ ap (λ l. l ++ ys) p ∙ append-assoc us xs ys

-- ---- reads

sum-more : (counts : List ℕ) (n : ℕ) → sum (counts ++ (n ∷ [])) ≡ sum counts + n
sum-more counts n = let more = sum_by-append (λ x. x) counts (n ∷ []) in omega (arith, more)

-- one more turn that took bytes
pub took-more : (a b c : Option (List ℕ)) (total n : ℕ) → EachTook a b [] total → Adds b c (n ∷ []) → 0 < n → EachTook a c [] (total + n)
took-more a b c total n t more some =
    record {
      counts = t.counts ++ (n ∷ []);
      each = All-push (λ n. 0 < n) t.counts n t.each some;
      told = subst (Adds a c) (append-nil (t.counts ++ (n ∷ []))) (adds-more a b c t.counts (n ∷ []) (subst (Adds a b) (sym (append-nil t.counts)) t.told) more);
      total_is = sum-more t.counts n ∙ ap (λ m. m + n) t.total_is;
    }

-- ---- writes

each-more : (text : List ℕ) (offers : List Offer) (rest : List ℕ) (n : ℕ) → EachOffersAll text offers → rest ≡ drop (taken_by offers) text →
    EachOffersAll text (offers ++ (record { piece = rest; taken = n } ∷ []))
each-more text [] rest n each is = (is, tt)
each-more text (o ∷ os) rest n each is =
    (each.0, each-more (drop o.taken text) os rest n each.1 (is ∙ sym (drop-drop (taken_by os) o.taken text)))

taken-more : (offers : List Offer) (rest : List ℕ) (n : ℕ) → taken_by (offers ++ (record { piece = rest; taken = n } ∷ [])) ≡ taken_by offers + n
taken-more [] rest n = omega arith
taken-more (o ∷ os) rest n = let more = taken-more os rest n in omega (arith, more)

-- one more write
pub offers-more : (a b c : Option (List Offer)) (text rest : List ℕ) (at n : ℕ) → OffersAll a b text at → rest ≡ drop at text →
    Adds b c (record { piece = rest; taken = n } ∷ []) → OffersAll a c text (at + n)
offers-more a b c text rest at n o is more =
    record {
      offers = o.offers ++ (record { piece = rest; taken = n } ∷ []);
      each = each-more text o.offers rest n o.each (is ∙ ap (λ m. drop m text) (sym o.taken_is));
      told = adds-more a b c o.offers (record { piece = rest; taken = n } ∷ []) o.told more;
      taken_is = taken-more o.offers rest n ∙ ap (λ m. m + n) o.taken_is;
    }

-- ---- the steps of the loops

-- a read that came before a want of memory
pub took-some : (a b c : Option (List ℕ)) (total n : ℕ) → EachTook a b [] total → Adds b c (n ∷ []) → 0 < n → TookSome a c
took-some a b c total n t more some = (total + n, took-more a b c total n t more some)

-- bytes that were put to those before, as a test of the result says
pub grown : {E : Type 0} (r : Result (Unit {0}) E) (failed : Bool) (before now more : List ℕ) →
    now ≡ (if is_ok r then before ++ more else before) → failed ≡ is_err r → failed ≡ false → now ≡ before ++ more
grown (Ok u) failed before now more is f none = is
grown (Err e) failed before now more is f none = let apart : true ≡ false = sym f ∙ none in cc

length-more : (before now more : List ℕ) → now ≡ before ++ more → length now ≡ length before + length more
length-more before now more is = ap length is ∙ length-append before more

pub took-grown : (a b c : Option (List ℕ)) (before now more : List ℕ) (n : ℕ) → now ≡ before ++ more → length more ≡ n →
    EachTook a b [] (length before) → Adds b c (n ∷ []) → 0 < n → EachTook a c [] (length now)
took-grown a b c before now more n is count t told some =
    subst (EachTook a c []) (sym (length-more before now more is ∙ ap (λ m. length before + m) count)) (took-more a b c (length before) n t told some)

-- a write that failed
pub offers-stopped : {E : Type 0} (r : Result (Unit {0}) E) (a b c : Option (List Offer)) (w w' w'' : Option (List ℕ)) (text rest : List ℕ) (at : ℕ) →
    at < length text → Appends w w' (take at text) → Keeps w' w'' → OffersAll a b text at → rest ≡ drop at text →
    Adds b c (record { piece = rest; taken = 0 } ∷ []) → OnErr r (OffersPrefix w w'' a c text)
offers-stopped (Ok u) a b c w w' w'' text rest at below put kept o is more = tt
offers-stopped (Err e) a b c w w' w'' text rest at below put kept o is more = (
  at,
  below,
  Appends-kept w w' w'' (take at text) put kept,
  subst (OffersAll a c text) (omega arith) (offers-more a b c text rest at 0 o is more),
)
