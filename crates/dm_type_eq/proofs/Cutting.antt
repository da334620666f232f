-- Trees beside others that they are cut from, as far as the tests see that the grammar makes of what comes next: ranges, spacing that doesn't
-- count and the insides of groups aside. What such a test doesn't see in the others, it doesn't see in what is cut from them.
use Rattle.std.proofs.Common.{◌≡◌, ℕ, Bool, true, false, ◌&&◌, ◌||◌, not, cond, nat_eq, List, [], ◌∷◌, codes, refl, sym, ap, ap₂, ◌∙◌}
use Rattle.std.proofs.lemmas.Bool.{eqb-true, and_left, or_parts, or_from, not_from_false, not-true}
use Rattle.dm_stream.specs.declared.tokens.Span.{Span}
use Rattle.dm_stream.specs.declared.tokens.Delim.{Delim}
use Rattle.dm_stream.specs.declared.tokens.Delim.TheVariants.{Paren}
use Rattle.dm_stream.specs.declared.tokens.Ident.{Ident}
use Rattle.dm_stream.specs.declared.tokens.Lifetime.{Lifetime}
use Rattle.dm_stream.specs.declared.tokens.Literal.{Literal}
use Rattle.dm_stream.specs.declared.tokens.Punct.{Punct}
use Rattle.dm_stream.specs.declared.tokens.Spacing.{Spacing}
use Rattle.dm_stream.specs.declared.tokens.Spacing.TheVariants.{Joint, Alone}
use Rattle.dm_stream.specs.declared.tokens.Token.TheVariants as t
use Rattle.dm_stream.specs.Layout.{nowhere}
use Rattle.dm_stream.specs.Trees.{Trees, no_trees, token, group}
use Rattle.dm_ast.specs.Spelling.{is_joint, one_of, sees, sees_one, sees_pair, sees_lone, sees_word, sees_lifetime, sees_literal, sees_group, sees_colons, sees_arrow, sees_colon, sees_equals}
use Rattle.dm_ast.specs.TypeGrammar.{is_input_name, sees_path_word, behind_colons, sees_turbofish, sees_arguments, sees_bound, sees_named, ends_bounds}
use Rattle.dm_type_eq.specs.Unplaced.{unplaced_ident}

-- a `:` or a `=` of this spacing is alone before these trees
pub record IsAlone (c : ℕ) (s : Spacing) (ts : Trees) : Type 0 where
  pub colon : c ≡ 58 → (is_joint s && sees_one (58 ∷ []) ts) ≡ false
  pub equals : c ≡ 61 → (is_joint s && sees_one (61 ∷ 62 ∷ []) ts) ≡ false

-- a punct that is read alone, with what is behind it where it may be the `!` of a macro call; and two that are read as one, with what is
-- behind them
pub data Cut : Trees → Trees → Type 0 where
  cut_end : (ts : Trees) → Cut no_trees ts
  cut_ident : (i : Ident) (us ts : Trees) → Cut us ts → Cut (token (t.Ident (unplaced_ident i)) us) (token (t.Ident i) ts)
  cut_lifetime : (l k : Lifetime) (us ts : Trees) → Cut (token (t.Lifetime l) us) (token (t.Lifetime k) ts)
  cut_literal : (l k : Literal) (us ts : Trees) → Cut (token (t.Literal l) us) (token (t.Literal k) ts)
  cut_punct : (c : ℕ) (p : Punct) (us ts : Trees) → p.ch ≡ c → IsAlone c p.spacing ts → (c ≡ 33 → Cut us ts) →
      Cut (token (t.Punct (record { ch = c; spacing = Alone; span = nowhere })) us) (token (t.Punct p) ts)
  cut_pair : (a b : ℕ) (p q : Punct) (us ts : Trees) → p.ch ≡ a → p.spacing ≡ Joint → q.ch ≡ b → Cut us ts →
      Cut (token (t.Punct (record { ch = a; spacing = Joint; span = nowhere })) (token (t.Punct (record { ch = b; spacing = Alone; span = nowhere })) us))
      (token (t.Punct p) (token (t.Punct q) ts))
  cut_group : (d : Delim) (f g i j : Span) (us vs ts ss : Trees) → Cut (group d f us i vs) (group d g ts j ss)

-- a test that isn't met by what is cut from trees that don't meet it
abbrev pub Unseen : (Trees → Bool) → Type 0
Unseen test = (us ts : Trees) → Cut us ts → test ts ≡ false → test us ≡ false

-- nothing is cut from nothing else
pub closed : (us ts : Trees) → Cut us ts → ts ≡ no_trees → us ≡ no_trees
closed _ _ (cut_end ts) e = refl
closed _ _ (cut_ident i us ts c) e = absurd (cc)
closed _ _ (cut_lifetime l k us ts) e = absurd (cc)
closed _ _ (cut_literal l k us ts) e = absurd (cc)
closed _ _ (cut_punct c p us ts e0 a f) e = absurd (cc)
closed _ _ (cut_pair a b p q us ts e0 e1 e2 c) e = absurd (cc)
closed _ _ (cut_group d f g i j us vs ts ss) e = absurd (cc)

pub unseen_sees : (c : ℕ) → Unseen (sees c)
unseen_sees c _ _ (cut_end ts) h = refl
unseen_sees c _ _ (cut_ident i us ts k) h = refl
unseen_sees c _ _ (cut_lifetime l k us ts) h = refl
unseen_sees c _ _ (cut_literal l k us ts) h = refl
unseen_sees c _ _ (cut_punct d p us ts e a f) h = ap (λ x. nat_eq x c) (sym e) ∙ h
unseen_sees c _ _ (cut_pair a b p q us ts e e1 e2 k) h = ap (λ x. nat_eq x c) (sym e) ∙ h
unseen_sees c _ _ (cut_group d f g i j us vs ts ss) h = refl

-- ---- tests on one token

pub unseen_word : (word : List ℕ) → Unseen (sees_word word)
unseen_word word _ _ (cut_ident i us ts k) h = h
unseen_word word _ _ _ h = refl

pub unseen_lifetime : Unseen sees_lifetime
unseen_lifetime _ _ (cut_lifetime l k us ts) h = h
unseen_lifetime _ _ _ h = refl

pub unseen_literal : Unseen sees_literal
unseen_literal _ _ (cut_literal l k us ts) h = h
unseen_literal _ _ _ h = refl

pub unseen_group : (d : Delim) → Unseen (sees_group d)
unseen_group d _ _ (cut_group e f g i j us vs ts ss) h = h
unseen_group d _ _ _ h = refl

pub unseen_path_word : Unseen sees_path_word
unseen_path_word _ _ (cut_ident i us ts k) h = h
unseen_path_word _ _ _ h = refl

-- ---- tests on two puncts

-- what depends on two puncts of which the first is joint
pub same_front : {A : Type 0} (F : ℕ → Spacing → ℕ → A) (a b : ℕ) (p q : Punct) → p.ch ≡ a → p.spacing ≡ Joint → q.ch ≡ b →
    F a Joint b ≡ F p.ch p.spacing q.ch
same_front F a b p q e f g = sym (ap₂ (λ x y. F x p.spacing y) e g ∙ ap (λ s. F a s b) f)

-- whether they are `::`
abbrev pub are_colons : ℕ → Spacing → ℕ → Bool
are_colons a s b = (nat_eq a 58 && is_joint s) && nat_eq b 58

-- a punct that is read alone, which begins no pair
abbrev pub alone : ℕ → Trees → Trees
alone c us = token (t.Punct (record { ch = c; spacing = Alone; span = nowhere })) us

pub alone_apart : (x y : Bool) → ((x && false) && y) ≡ false
alone_apart true y = refl
alone_apart false y = refl

pub unseen_pair : (a b : ℕ) → Unseen (sees_pair a b)
unseen_pair a b _ _ (cut_punct c p us ts e l f) h = alone_apart (nat_eq c a) (sees b us)
unseen_pair a b _ _ (cut_pair c d p q us ts e e1 e2 k) h = same_front (λ x s y. (nat_eq x a && is_joint s) && nat_eq y b) c d p q e e1 e2 ∙ h
unseen_pair a b _ _ _ h = refl

pub unseen_colons : Unseen sees_colons
unseen_colons = unseen_pair 58 58

pub unseen_arrow : Unseen sees_arrow
unseen_arrow = unseen_pair 45 62

alone_seen : (x y : Bool) → (x ≡ true → y ≡ false) → (x && not y) ≡ false → (x && true) ≡ false
alone_seen true y f h = sym (ap not (f refl)) ∙ h
alone_seen false y f h = refl

unseen_lone : (c : ℕ) (stops : List ℕ) →
    ((d : ℕ) (s : Spacing) (ts : Trees) → IsAlone d s ts → d ≡ c → (is_joint s && sees_one stops ts) ≡ false) → Unseen (sees_lone c stops)
unseen_lone c stops apart _ _ (cut_punct d p us ts e l f) h =
    alone_seen (nat_eq d c) (is_joint p.spacing && sees_one stops ts) (λ x. apart d p.spacing ts l (eqb-true d c x))
    (ap (λ x. nat_eq x c && not (is_joint p.spacing && sees_one stops ts)) (sym e) ∙ h)
unseen_lone c stops apart _ _ (cut_pair a b p q us ts e e1 e2 k) h =
    same_front (λ x s y. nat_eq x c && not (is_joint s && one_of stops y)) a b p q e e1 e2 ∙ h
unseen_lone c stops apart _ _ _ h = refl

pub unseen_colon : Unseen sees_colon
unseen_colon = unseen_lone 58 (58 ∷ []) (λ d s ts l. l.colon)

pub unseen_equals : Unseen sees_equals
unseen_equals = unseen_lone 61 (61 ∷ 62 ∷ []) (λ d s ts l. l.equals)

-- ---- several tests

pub and_kept : (x y z : Bool) → (y ≡ false → z ≡ false) → (x && y) ≡ false → (x && z) ≡ false
and_kept true y z f h = f h
and_kept false y z f h = refl

pub unseen_or : {p q : Trees → Bool} → Unseen p → Unseen q → Unseen (λ ts. p ts || q ts)
unseen_or {p} {q} f g us ts k h = let e = or_parts (p ts) (q ts) h in or_from (p us) (q us) (f us ts k e.0) (g us ts k e.1)

pub unseen_either : Unseen (λ ts. sees_equals ts || sees_colon ts)
unseen_either = unseen_or unseen_equals unseen_colon

pub unseen_named : Unseen sees_named
unseen_named _ _ (cut_ident i us ts k) h = and_kept (is_input_name i) (sees_colon ts) (sees_colon us) (unseen_colon us ts k) h
unseen_named _ _ _ h = refl

-- a test on what is behind `::`
behind_pair : (b c : Bool) (us vs ts ss : Trees) → b ≡ c → Cut us ts → (c && sees 60 (cond c ts ss)) ≡ false → (b && sees 60 (cond b us vs)) ≡ false
behind_pair true c us vs ts ss e k h = unseen_sees 60 us ts k (ap (λ x. x && sees 60 (cond x ts ss)) e ∙ h)
behind_pair false c us vs ts ss e k h = refl

pub unseen_turbofish : Unseen sees_turbofish
unseen_turbofish _ _ (cut_punct c p us ts e l f) h =
    and_left (sees_colons (alone c us)) (sees 60 (behind_colons (alone c us))) (alone_apart (nat_eq c 58) (sees 58 us))
unseen_turbofish _ _ (cut_pair a b p q us ts e e1 e2 k) h =
    behind_pair (are_colons a Joint b) (are_colons p.ch p.spacing q.ch) us _ ts _ (same_front are_colons a b p q e e1 e2) k h
unseen_turbofish _ _ _ h = refl

pub unseen_arguments : Unseen sees_arguments
unseen_arguments = unseen_or (unseen_or (unseen_sees 60) unseen_turbofish) (unseen_group Paren)

pub unseen_bound : Unseen sees_bound
unseen_bound =
    unseen_or (unseen_or (unseen_or (unseen_or (unseen_or unseen_lifetime (unseen_sees 63)) (unseen_group Paren)) (unseen_word (codes "for"))) unseen_colons)
    unseen_path_word

-- a list of bounds ends before what is cut where it ends before the others
pub ends_kept : (us ts : Trees) → Cut us ts → ends_bounds ts ≡ true → ends_bounds us ≡ true
ends_kept us ts k h = not_from_false (sees_bound us) (unseen_bound us ts k (not-true (sees_bound ts) h))
