-- What copies of lists and of nodes show, by what copies of their parts do.
use Rattle.std.proofs.Common.{◌≡◌, List, map, Option, None, Some, option_map, Result, Ok, IfOk, refl, ap, ◌∙◌, sym}
use Rattle.std.proofs.lemmas.Grind.{common_steps}
use Rattle.std.proofs.lemmas.List.{map-id}
use Rattle.std.proofs.lemmas.Iterator.Adapters.{option_map_id}
use Rattle.dm_stream.specs.declared.seq.Punctuated.{Punctuated}
use Rattle.dm_ast.specs.Declarations.{Listed, listed}
use Rattle.std.proofs.lemmas.Result.{IfOk-weaker, IfOk-at_ok}
use Rattle.dm_ast.proofs.View.{view_steps}

-- an item's shape is the item: so is a list's
abbrev pub unlisted : {A : Type 0} → Listed A → Punctuated A
unlisted l = record { items = l.items; trailing = l.trailing }

pub unlisted_is : {A : Type 0} (x : Punctuated A) → unlisted (listed (λ (a : A). a) x) ≡ x
unlisted_is {A} x = let put : List A → Punctuated A = λ z. record { items = z; trailing = x.trailing } in ap put (map-id x.items)

pub unlisted_maybe : {A : Type 0} (o : Option (Punctuated A)) → option_map unlisted (option_map (listed (λ (a : A). a)) o) ≡ o
unlisted_maybe None = refl
unlisted_maybe (Some x) = ap (λ z. Some z) (unlisted_is x)

pub listed_same : {A : Type 0} (x y : Punctuated A) → listed (λ (a : A). a) x ≡ listed (λ (a : A). a) y → x ≡ y
listed_same x y e = sym (unlisted_is x) ∙ ap unlisted e ∙ unlisted_is y

pub maybe_listed_same : {A : Type 0} (o p : Option (Punctuated A)) →
    option_map (listed (λ (a : A). a)) o ≡ option_map (listed (λ (a : A). a)) p → o ≡ p
maybe_listed_same o p e = sym (unlisted_maybe o) ∙ ap (option_map unlisted) e ∙ unlisted_maybe p

pub same_list : {A : Type 0} (xs ys : List A) → map (λ (a : A). a) xs ≡ map (λ (a : A). a) ys → xs ≡ ys
same_list xs ys e = sym (map-id xs) ∙ e ∙ map-id ys

pub same_option : {A : Type 0} (o p : Option A) → option_map (λ (a : A). a) o ≡ option_map (λ (a : A). a) p → o ≡ p
same_option o p e = sym (option_map_id o) ∙ e ∙ option_map_id p

whole : {A : Type 0} (o : Option (Option A)) → option_map (option_map (λ (a : A). a)) o ≡ o
whole None = refl
whole (Some o) = ap (λ z. Some z) (option_map_id o)

pub same_options : {A : Type 0} (o p : Option (Option A)) →
    option_map (option_map (λ (a : A). a)) o ≡ option_map (option_map (λ (a : A). a)) p → o ≡ p
same_options o p e = sym (whole o) ∙ e ∙ whole p

-- ---- copies that were put together

-- what is known of two copies is known of both in their pair
pub halves : {A B E : Type 0} (a : Result A E) (b : Result B E) (P : A → Type 0) (Q : B → Type 0) {j : Result (A × B) E} {x : A × B} →
    j ≡ Ok x → IfOk j (λ r. (a ≡ Ok r.0) × (b ≡ Ok r.1)) → IfOk a P → IfOk b Q → P x.0 × Q x.1
halves a b P Q e both p q = let s = IfOk-at_ok (λ y. (a ≡ Ok y.0) × (b ≡ Ok y.1)) e both in (IfOk-at_ok P s.0 p, IfOk-at_ok Q s.1 q)

-- and of three
pub thirds : {A B C E : Type 0} (a : Result A E) (b : Result B E) (c : Result C E) (k : Result (A × B) E) (P : A → Type 0) (Q : B → Type 0) (R : C → Type 0)
    {j : Result ((A × B) × C) E} {x : (A × B) × C} →
    j ≡ Ok x → IfOk j (λ r. (k ≡ Ok r.0) × (c ≡ Ok r.1)) → IfOk k (λ r. (a ≡ Ok r.0) × (b ≡ Ok r.1)) → IfOk a P → IfOk b Q → IfOk c R →
    (P x.0.0 × Q x.0.1) × R x.1
thirds a b c k P Q R e both inner p q r =
    let s = IfOk-at_ok (λ y. (k ≡ Ok y.0) × (c ≡ Ok y.1)) e both in (halves a b P Q s.0 inner p q, IfOk-at_ok R s.1 r)

-- a copy has the view of what it was made of, said of the node or of its parts
pub shown_as : {A S E : Type 0} (r : Result A E) (view : A → S) (s t : S) → t ≡ s → IfOk r (λ x. view x ≡ s) → IfOk r (λ x. view x ≡ t)
shown_as r view s t e = IfOk-weaker r _ _ (λ x h. h ∙ sym e)

pub ruleset plain_steps = (common_steps, map-id, option_map_id)

pub ruleset copy_steps = (view_steps, map-id, option_map_id)

pub ruleset part_steps = (copy_steps, listed_same, maybe_listed_same)
