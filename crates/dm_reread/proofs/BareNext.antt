-- What comes next, ranges aside; and the steps that rows of the reader are made of.
use Rattle.std.specs.Prelude.{◌≡◌, ℕ, suc, ◌+◌, Bool, true, false, cond, Option, option_map, Some, None, refl}
use Rattle.std.proofs.Common.{ap, ap₂, ◌∙◌}
use Rattle.dm_stream.specs.declared.tokens.Delim.{Delim}
use Rattle.dm_stream.specs.declared.tokens.Delim.TheVariants.{Paren, Bracket, Brace}
use Rattle.dm_stream.specs.declared.tokens.Ident.{Ident}
use Rattle.dm_stream.specs.declared.tokens.Spacing.{Spacing}
use Rattle.dm_stream.specs.declared.tokens.Spacing.TheVariants.{Joint, Alone}
use Rattle.dm_stream.specs.declared.tokens.Token.{Token}
use Rattle.dm_stream.specs.declared.tokens.Token.TheVariants as t
use Rattle.dm_stream.specs.Trees.{Trees, no_trees, token, group}
use Rattle.dm_lexer.specs.Written.{unplaced_token, unplaced}
use Rattle.dm_type_eq.specs.Unplaced.{unplaced_ident, unplaced_literal}
use Rattle.dm_reread.specs.BareReading.{bare_next, bare_answer}
use Rattle.dm_reread.specs.Next.{Word, of_path, kind, k_as, k_wild, Next, dot, asks, plus, comma, colon, semicolon, assigns, leads, in_parens, literal, a_word, word_next, alone_next, pair_next, last_next, joint_next, punct_next, token_next, group_next, next}
use Rattle.dm_reread.specs.Leaves.{Answer}
use Rattle.dm_reread.specs.Reading.{then, provided, is_int, is_some_trees, comma_after, semicolon_after, leads_after, assigns_after, colon_after, plus_after, as_after, wild_after, int_after, whole, goes_on}
use Rattle.dm_reread.specs.Whole.{size}

-- ---- what comes next

next-cond : (b : Bool) (x y : Next) → bare_next (cond b x y) ≡ cond b (bare_next x) (bare_next y)
next-cond true x y = refl
next-cond false x y = refl

word-bare : (w : Word) (i : Ident) (ts : Trees) → word_next w (unplaced_ident i) (unplaced ts) ≡ bare_next (word_next w i ts)
word-bare of_path i ts = refl
word-bare _ i ts = refl

alone-bare : (ch : ℕ) (ts : Trees) → alone_next ch (unplaced ts) ≡ bare_next (alone_next ch ts)
alone-bare ch ts = simp next-cond

pair-bare : (a b : ℕ) (ts : Trees) → pair_next a b (unplaced ts) ≡ bare_next (pair_next a b ts)
pair-bare a b ts = simp next-cond

last-bare : (s : Spacing) (a b : ℕ) (ts : Trees) → last_next s a b (unplaced ts) ≡ bare_next (last_next s a b ts)
last-bare Alone a b ts = pair-bare a b ts
last-bare Joint a b ts = refl

joint-bare : (ch : ℕ) (ts : Trees) → joint_next ch (unplaced ts) ≡ bare_next (joint_next ch ts)
joint-bare ch (token (t.Punct p) ts) = last-bare p.spacing ch p.ch ts
joint-bare ch _ = refl

punct-bare : (s : Spacing) (ch : ℕ) (ts : Trees) → punct_next s ch (unplaced ts) ≡ bare_next (punct_next s ch ts)
punct-bare Alone ch ts = alone-bare ch ts
punct-bare Joint ch ts = joint-bare ch ts

token-bare : (k : Token) (ts : Trees) → token_next (unplaced_token k) (unplaced ts) ≡ bare_next (token_next k ts)
token-bare (t.Ident i) ts = word-bare (kind i) i ts
token-bare (t.Punct p) ts = punct-bare p.spacing p.ch ts
token-bare (t.Literal l) ts = refl
token-bare (t.Lifetime l) ts = refl

group-bare : (d : Delim) (inside ts : Trees) → group_next d (unplaced inside) (unplaced ts) ≡ bare_next (group_next d inside ts)
group-bare Paren inside ts = refl
group-bare Brace inside ts = refl
group-bare Bracket inside ts = refl

pub next-bare : (ts : Trees) → next (unplaced ts) ≡ bare_next (next ts)
next-bare no_trees = refl
next-bare (token k ts) = token-bare k ts
next-bare (group d from inside upto ts) = group-bare d inside ts

pub size-bare : (ts : Trees) → size (unplaced ts) ≡ size ts
size-bare no_trees = refl
size-bare (token k ts) = ap suc (size-bare ts)
size-bare (group d from inside upto ts) = ap₂ (λ m n. suc (m + n)) (size-bare inside) (size-bare ts)

pub some-bare : (ts : Trees) → is_some_trees (unplaced ts) ≡ is_some_trees ts
some-bare no_trees = refl
some-bare _ = refl

-- ---- steps of a row

pub then-map : {A B : Type 0} (f : A → A) (o : Option A) (k : A → Option B) → then (option_map f o) k ≡ then o (λ a. k (f a))
then-map f None k = refl
then-map f (Some a) k = refl

pub map-then : {A B : Type 0} (g : B → B) (o : Option A) (k : A → Option B) → option_map g (then o k) ≡ then o (λ a. option_map g (k a))
map-then g None k = refl
map-then g (Some a) k = refl

pub map-cond : {A : Type 0} (g : A → A) (b : Bool) (x y : Option A) → option_map g (cond b x y) ≡ cond b (option_map g x) (option_map g y)
map-cond g true x y = refl
map-cond g false x y = refl

pub ruleset passing = (then-map, map-then, map-cond, next-bare)

-- the same, for a proof step by step
mapped : {A B : Type 0} (f : A → A) (g : B → B) (o : Option A) (k' k : A → Option B) → ((a : A) → k' (f a) ≡ option_map g (k a)) →
    then (option_map f o) k' ≡ option_map g (then o k)
mapped f g None k' k h = refl
mapped f g (Some a) k' k h = h a

pub chained : {A B : Type 0} (f : A → A) (g : B → B) (o' o : Option A) (k' k : A → Option B) → o' ≡ option_map f o →
    ((a : A) → k' (f a) ≡ option_map g (k a)) → then o' k' ≡ option_map g (then o k)
chained f g o' o k' k e h = ap (λ x. then x k') e ∙ mapped f g o k' k h

pub provided-bare : {A : Type 0} (g : A → A) (b : Bool) (o' o : Option A) → o' ≡ option_map g o →
    provided b o' ≡ option_map g (provided b o)
provided-bare g true o' o e = e
provided-bare g false o' o e = refl

pub either : {A : Type 0} (g : A → A) (b : Bool) (x' y' x y : Option A) → x' ≡ option_map g x → y' ≡ option_map g y →
    cond b x' y' ≡ option_map g (cond b x y)
either g true x' y' x y e h = e
either g false x' y' x y e h = h

-- ---- what a place demands

pub whole-bare : {A : Type 0} (f : A → A) (o : Answer A) → whole (bare_answer f o) ≡ option_map f (whole o)
whole-bare f None = refl
whole-bare f (Some (e, no_trees)) = refl
whole-bare f (Some (e, ts)) = refl

pub comma-bare : (n : Next) → comma_after (bare_next n) ≡ option_map unplaced (comma_after n)
comma-bare (comma ts) = refl
comma-bare _ = refl

pub semicolon-bare : (n : Next) → semicolon_after (bare_next n) ≡ option_map unplaced (semicolon_after n)
semicolon-bare (semicolon ts) = refl
semicolon-bare _ = refl

pub leads-bare : (n : Next) → leads_after (bare_next n) ≡ option_map unplaced (leads_after n)
leads-bare (leads ts) = refl
leads-bare _ = refl

pub assigns-bare : (n : Next) → assigns_after (bare_next n) ≡ option_map unplaced (assigns_after n)
assigns-bare (assigns ts) = refl
assigns-bare _ = refl

pub colon-bare : (n : Next) → colon_after (bare_next n) ≡ option_map unplaced (colon_after n)
colon-bare (colon ts) = refl
colon-bare _ = refl

pub plus-bare : (n : Next) → plus_after (bare_next n) ≡ option_map unplaced (plus_after n)
plus-bare (plus ts) = refl
plus-bare _ = refl

pub as-bare : (n : Next) → as_after (bare_next n) ≡ option_map unplaced (as_after n)
as-bare (a_word k_as ts) = refl
as-bare _ = refl

pub wild-bare : (n : Next) → wild_after (bare_next n) ≡ option_map unplaced (wild_after n)
wild-bare (a_word k_wild ts) = refl
wild-bare _ = refl

pub int-bare : (n : Next) → int_after (bare_next n) ≡ bare_answer unplaced_literal (int_after n)
int-bare (literal l ts) = provided-bare _ (is_int l.kind) _ (Some (l, ts)) refl
int-bare _ = refl

pub goes-on-bare : (n : Next) → goes_on (bare_next n) ≡ goes_on n
goes-on-bare (in_parens inside ts) = refl
goes-on-bare (dot ts) = refl
goes-on-bare (asks ts) = refl
goes-on-bare _ = refl
