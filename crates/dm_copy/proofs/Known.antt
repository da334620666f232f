-- What is known of results is known of what holds them.
use Rattle.std.proofs.Common.{◌≡◌, List, map, Option, None, Some, option_map, Result, Ok, IfOk, IsSomeAnd}
use Rattle.std.proofs.lemmas.Result.{IfOk-at_ok, IfOk-weaker}
use Rattle.std.specs.declared.boxed.Box.{Box}
use Rattle.std.specs.declared.alloc.Global.{Global}
use Rattle.dm_stream.specs.declared.seq.Punctuated.{Punctuated}
use Rattle.dm_ast.specs.Declarations.{listed}
use Rattle.dm_copy.proofs.Copies.{same_list, same_option, same_options, maybe_listed_same}

pub boxed_known : {A E : Type 0} (made : Result A E) (b : Result (Box A Global) E) (P : A → Type 0) →
    IfOk b (λ r. made ≡ Ok r.value) → IfOk made P → IfOk b (λ r. P r.value)
boxed_known made b P is known = IfOk-weaker b _ _ (λ r e. IfOk-at_ok P e known) is

pub both_known : {A B E : Type 0} (a : Result A E) (b : Result B E) (j : Result (A × B) E) (P : A → Type 0) (Q : B → Type 0) →
    IfOk j (λ r. (a ≡ Ok r.0) × (b ≡ Ok r.1)) → IfOk a P → IfOk b Q → IfOk j (λ r. P r.0 × Q r.1)
both_known a b j P Q is first second = IfOk-weaker j _ _ (λ r e. (IfOk-at_ok P e.0 first, IfOk-at_ok Q e.1 second)) is

-- what was made, as what may be missing
pub some_known : {A E S : Type 0} (made : Result A E) (r : Result (Option A) E) (view : Option A → S) (s : S) (P : A → Type 0) →
    IfOk r (λ o. IsSomeAnd o (λ t. made ≡ Ok t)) → IfOk made P → ((t : A) → P t → view (Some t) ≡ s) → IfOk r (λ o. view o ≡ s)
some_known {A} {E} made r view s P is known shows = IfOk-weaker r _ _ by is
  where
    by : (o : Option A) → IsSomeAnd o (λ t. made ≡ Ok t) → view o ≡ s
    by None e = absurd e
    by (Some t) e = shows t (IfOk-at_ok P e known)

-- ---- copies of what is its own shape

pub list_known : {A E : Type 0} (r : Result (List A) E) (xs : List A) → IfOk r (λ y. map (λ (a : A). a) y ≡ map (λ (a : A). a) xs) →
    IfOk r (λ y. y ≡ xs)
list_known r xs = IfOk-weaker r _ _ (λ y e. same_list y xs e)

pub option_known : {A E : Type 0} (r : Result (Option A) E) (o : Option A) →
    IfOk r (λ y. option_map (λ (a : A). a) y ≡ option_map (λ (a : A). a) o) → IfOk r (λ y. y ≡ o)
option_known r o = IfOk-weaker r _ _ (λ y e. same_option y o e)

pub options_known : {A E : Type 0} (r : Result (Option (Option A)) E) (o : Option (Option A)) →
    IfOk r (λ y. option_map (option_map (λ (a : A). a)) y ≡ option_map (option_map (λ (a : A). a)) o) → IfOk r (λ y. y ≡ o)
options_known r o = IfOk-weaker r _ _ (λ y e. same_options y o e)

pub listed_known : {A E : Type 0} (r : Result (Option (Punctuated A)) E) (o : Option (Punctuated A)) →
    IfOk r (λ y. option_map (listed (λ (a : A). a)) y ≡ option_map (listed (λ (a : A). a)) o) → IfOk r (λ y. y ≡ o)
listed_known r o = IfOk-weaker r _ _ (λ y e. maybe_listed_same y o e)
