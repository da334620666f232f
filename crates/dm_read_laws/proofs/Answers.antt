-- From what a row of the reader answers to the steps that gave it.
use Rattle.std.specs.Prelude.{◌≡◌, cond, Bool, true, false, Option, Some, None, refl}
use Rattle.std.proofs.Common.{ap, ◌∙◌, sym, subst}
use Rattle.std.proofs.lemmas.Option.{same_Some}
use Rattle.dm_stream.specs.Trees.{no_trees, token, group}
use Rattle.dm_reread.specs.Leaves.{Answer}
use Rattle.dm_reread.specs.Reading.{then, provided, whole}

-- the first of two steps gave something, from which the second gave the answer: to go on with
pub then_by : {A B : Type 0} → (o : Option A) (f : A → Option B) (r : B) (P : Type 0) → then o f ≡ Some r →
    ((a : A) → o ≡ Some a → f a ≡ Some r → P) → P
then_by None f r P e h = absurd (cc)
then_by (Some a) f r P e h = h a refl e

pub provided_some : {A : Type 0} → (b : Bool) (o : Option A) (r : A) → provided b o ≡ Some r → (b ≡ true) × (o ≡ Some r)
provided_some true o r e = (refl, e)
provided_some false o r e = absurd (cc)

-- what was read, where it passed a test
pub tested_some : {A : Type 0} → (test : A → Bool) (o : Option A) (r : A) → then o (λ a. provided (test a) (Some a)) ≡ Some r →
    (o ≡ Some r) × (test r ≡ true)
tested_some test None r e = absurd (cc)
tested_some test (Some a) r e =
    let h = provided_some (test a) (Some a) r e in
    (h.1, ap test (sym (same_Some a r h.1)) ∙ h.0)

pub cond_some : {A : Type 0} → (b : Bool) (o u : Option A) (r : A) (P : Type 0) → cond b o u ≡ Some r → (b ≡ true → o ≡ Some r → P) →
    (b ≡ false → u ≡ Some r → P) → P
cond_some true o u r P e h k = h refl e
cond_some false o u r P e h k = k refl e

pub whole_some : {A : Type 0} → (o : Answer A) (r : A) → whole o ≡ Some r → o ≡ Some (r, no_trees)
whole_some None r e = absurd (cc)
whole_some (Some (a, no_trees)) r e = ap (λ x. Some (x, no_trees)) (same_Some a r e)
whole_some (Some (a, token k ts)) r e = absurd (cc)
whole_some (Some (a, group d from inside upto ts)) r e = absurd (cc)

-- what holds of one answer holds of the other, which is the same
pub same_answer : {A : Type 0} → (P : A → Type 0) (x y : A) → Some x ≡ Some y → P x → P y
same_answer P x y e p = subst P (same_Some x y e) p
