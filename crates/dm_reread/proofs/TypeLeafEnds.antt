-- Where a type ends: an end, `,`, `;`, `=`, `>`, a brace, `for` or `where`. What the tests of the grammar don't see in front of trees, they
-- don't see there when such an end stands behind these.
use Rattle.std.proofs.Common.{◌≡◌, ℕ, Bool, true, false, not, ◌&&◌, ◌||◌, cond, nat_eq, ◌==◌, List, [], ◌∷◌, codes, T, refl, ap, ◌∙◌, subst}
use Rattle.std.proofs.lemmas.Bool.{eqb-true, or_parts, or_from, not_from_false, not-true}
use Rattle.dm_stream.specs.declared.tokens.Span.{Span}
use Rattle.dm_stream.specs.declared.tokens.Delim.TheVariants.{Paren, Bracket, Brace}
use Rattle.dm_stream.specs.declared.tokens.Punct.{Punct}
use Rattle.dm_stream.specs.declared.tokens.Ident.{Ident}
use Rattle.dm_stream.specs.declared.tokens.Spacing.{Spacing}
use Rattle.dm_stream.specs.declared.tokens.Spacing.TheVariants.{Joint, Alone}
use Rattle.dm_stream.specs.declared.tokens.Token.TheVariants as t
use Rattle.dm_stream.specs.Trees.{Trees, no_trees, token, group, join}
use Rattle.dm_stream.specs.Layout.{nowhere}
use Rattle.dm_ast.specs.Keywords.{is_keyword}
use Rattle.dm_ast.specs.Spelling.{at_end, is_joint, is_word, one_of, sees, sees_one, sees_pair, sees_word, sees_lifetime, sees_literal, sees_group, sees_colons, sees_colon, sees_arrow}
use Rattle.dm_ast.specs.TypeGrammar.{is_path_word, sees_path_word, behind_colons, sees_turbofish, sees_arguments, sees_bound, ends_bounds}
use Rattle.dm_read.proofs.Tokens.{word_is}
use Rattle.dm_type_eq.proofs.Cutting.{and_kept}
use Rattle.dm_reread.specs.Next.{Next, oror, andand, equals, differs, star, amp, dot, asks, bangs, plus, less, hash, bar, comma, colon, semicolon, assigns, leads, arrow, colons, dots, other, next, alone_next, pair_next, last_next, joint_next, punct_next, Word, of_path, kind, word_next}
use Rattle.dm_reread.specs.Leaves.{ends_type}

-- `,`, `;`, `=` and `>`
abbrev pub stops : List ℕ
stops = 44 ∷ 59 ∷ 61 ∷ 62 ∷ []

abbrev pub is_stop_word : Ident → Bool
is_stop_word i = is_word (codes "for") i || is_word (codes "where") i

-- a word that isn't raw
abbrev pub plain_word : List ℕ → Ident
plain_word l = record { name = l; raw = false; span = nowhere }

pub data Stop : Trees → Type 0 where
  stop_end : Stop no_trees
  stop_punct : (p : Punct) (ts : Trees) → p.spacing ≡ Alone → one_of stops p.ch ≡ true → Stop (token (t.Punct p) ts)
  stop_brace : (f g : Span) (us ts : Trees) → Stop (group Brace f us g ts)
  stop_word : (i : Ident) (ts : Trees) → is_stop_word i ≡ true → Stop (token (t.Ident i) ts)

-- another character than these
pub apart : (cs : List ℕ) (c d : ℕ) → one_of cs c ≡ true → one_of cs d ≡ false → nat_eq c d ≡ false
apart cs c d h k = by (nat_eq c d) refl
  where
    by : (b : Bool) → nat_eq c d ≡ b → b ≡ false
    by false e = refl
    by true e = let f : one_of cs c ≡ false = ap (one_of cs) (eqb-true c d e) ∙ k in absurd (cc)

-- ---- the end itself

-- a test that meets no brace, and no such punct or word
stop_unmet : (test : Trees → Bool) → test no_trees ≡ false → ((f g : Span) (us ts : Trees) → test (group Brace f us g ts) ≡ false) →
    ((p : Punct) (ts : Trees) → one_of stops p.ch ≡ true → test (token (t.Punct p) ts) ≡ false) →
    ((i : Ident) (ts : Trees) → is_stop_word i ≡ true → test (token (t.Ident i) ts) ≡ false) → (rest : Trees) → Stop rest → test rest ≡ false
stop_unmet test none brace punct word _ stop_end = none
stop_unmet test none brace punct word _ (stop_punct p ts a h) = punct p ts h
stop_unmet test none brace punct word _ (stop_brace f g us ts) = brace f g us ts
stop_unmet test none brace punct word _ (stop_word i ts h) = word i ts h

stop_sees : (c : ℕ) → one_of stops c ≡ false → (rest : Trees) → Stop rest → sees c rest ≡ false
stop_sees c k = stop_unmet (sees c) refl (λ f g us ts. refl) (λ p ts h. apart stops p.ch c h k) (λ i ts h. refl)

stop_one : (c : ℕ) → one_of stops c ≡ false → (rest : Trees) → Stop rest → sees_one (c ∷ []) rest ≡ false
stop_one c k =
    stop_unmet (sees_one (c ∷ [])) refl (λ f g us ts. refl) (λ p ts h. ap (λ b. b || false) (apart stops p.ch c h k)) (λ i ts h. refl)

stop_pair : (a b : ℕ) → one_of stops a ≡ false → (rest : Trees) → Stop rest → sees_pair a b rest ≡ false
stop_pair a b k =
    stop_unmet (sees_pair a b) refl (λ f g us ts. refl)
    (λ p ts h. ap (λ x. (x && is_joint p.spacing) && sees b ts) (apart stops p.ch a h k)) (λ i ts h. refl)

word_apart : (word : List ℕ) → is_stop_word (plain_word word) ≡ false → (i : Ident) → is_stop_word i ≡ true → is_word word i ≡ false
word_apart word k i h = by (is_word word i) refl
  where
    by : (b : Bool) → is_word word i ≡ b → b ≡ false
    by false e = refl
    by true e = let f : is_stop_word i ≡ false = ap is_stop_word (word_is i word e) ∙ k in absurd (cc)

-- neither is a word of a path
no_path_word : (i : Ident) → is_stop_word i ≡ true → is_path_word i ≡ false
unfolding is_keyword
no_path_word i h = by (is_word (codes "for") i) (is_word (codes "where") i) refl refl h
  where
    by : (b c : Bool) → is_word (codes "for") i ≡ b → is_word (codes "where") i ≡ c → (b || c) ≡ true → is_path_word i ≡ false
    by true c e f g = ap is_path_word (word_is i (codes "for") e)
    by false true e f g = ap is_path_word (word_is i (codes "where") f)
    by false false e f g = absurd (cc)

-- no arrow is seen where no `-` comes first
pub no_arrow : (ts : Trees) → sees 45 ts ≡ false → sees_arrow ts ≡ false
no_arrow (token (t.Punct p) ts) h = ap (λ b. (b && is_joint p.spacing) && sees 62 ts) h
no_arrow _ h = refl

-- ---- with the end behind other trees

module _ (rest : Trees) (stop : Stop rest) where
  -- a test that isn't met where such an end is put behind trees that don't meet it
  abbrev pub Unmet : (Trees → Bool) → Type 0
  Unmet test = (ts : Trees) → test ts ≡ false → test (join ts rest) ≡ false

  pub unmet_sees : (c : ℕ) → one_of stops c ≡ false → Unmet (sees c)
  unmet_sees c k no_trees h = stop_sees c k rest stop
  unmet_sees c k (token (t.Punct p) ts) h = h
  unmet_sees c k _ h = refl

  pub unmet_one : (c : ℕ) → one_of stops c ≡ false → Unmet (sees_one (c ∷ []))
  unmet_one c k no_trees h = stop_one c k rest stop
  unmet_one c k (token (t.Punct p) ts) h = h
  unmet_one c k _ h = refl

  unmet_pair : (a b : ℕ) → one_of stops a ≡ false → one_of stops b ≡ false → Unmet (sees_pair a b)
  unmet_pair a b k l no_trees h = stop_pair a b k rest stop
  unmet_pair a b k l (token (t.Punct p) ts) h =
      and_kept (nat_eq p.ch a && is_joint p.spacing) (sees b ts) (sees b (join ts rest)) (unmet_sees b l ts) h
  unmet_pair a b k l _ h = refl

  pub unmet_colons : Unmet sees_colons
  unmet_colons = unmet_pair 58 58 refl refl

  same_colon : (ts : Trees) → sees_one (58 ∷ []) (join ts rest) ≡ sees_one (58 ∷ []) ts
  same_colon no_trees = stop_one 58 refl rest stop
  same_colon (token (t.Punct p) ts) = refl
  same_colon _ = refl

  pub unmet_colon : Unmet sees_colon
  unmet_colon no_trees h =
      stop_unmet sees_colon refl (λ f g us ts. refl)
      (λ p ts e. ap (λ b. b && not (is_joint p.spacing && sees_one (58 ∷ []) ts)) (apart stops p.ch 58 e refl)) (λ i ts e. refl) rest stop
  unmet_colon (token (t.Punct p) ts) h = ap (λ b. nat_eq p.ch 58 && not (is_joint p.spacing && b)) (same_colon ts) ∙ h
  unmet_colon _ h = refl

  -- behind some trees, any word
  pub kept_word : (word : List ℕ) (ts : Trees) → at_end ts ≡ false → sees_word word ts ≡ false → sees_word word (join ts rest) ≡ false
  kept_word word no_trees e h = absurd (cc)
  kept_word word (token (t.Ident i) ts) e h = h
  kept_word word _ e h = refl

  -- and else a word that ends no type
  pub unmet_word : (word : List ℕ) → is_stop_word (plain_word word) ≡ false → Unmet (sees_word word)
  unmet_word word k no_trees h =
      stop_unmet (sees_word word) refl (λ f g us ts. refl) (λ p ts e. refl) (λ i ts e. word_apart word k i e) rest stop
  unmet_word word k (token (t.Ident i) ts) h = h
  unmet_word word k _ h = refl

  pub unmet_path_word : Unmet sees_path_word
  unmet_path_word no_trees h =
      stop_unmet sees_path_word refl (λ f g us ts. refl) (λ p ts e. refl) (λ i ts e. no_path_word i e) rest stop
  unmet_path_word (token (t.Ident i) ts) h = h
  unmet_path_word _ h = refl

  pub unmet_lifetime : Unmet sees_lifetime
  unmet_lifetime no_trees h = stop_unmet sees_lifetime refl (λ f g us ts. refl) (λ p ts e. refl) (λ i ts e. refl) rest stop
  unmet_lifetime (token (t.Lifetime l) ts) h = h
  unmet_lifetime _ h = refl

  pub unmet_literal : Unmet sees_literal
  unmet_literal no_trees h = stop_unmet sees_literal refl (λ f g us ts. refl) (λ p ts e. refl) (λ i ts e. refl) rest stop
  unmet_literal (token (t.Literal l) ts) h = h
  unmet_literal _ h = refl

  unmet_parens : Unmet (sees_group Paren)
  unmet_parens no_trees h = stop_unmet (sees_group Paren) refl (λ f g us ts. refl) (λ p ts e. refl) (λ i ts e. refl) rest stop
  unmet_parens (group d f us g ts) h = h
  unmet_parens _ h = refl

  -- ---- several tests

  unmet_or : {p q : Trees → Bool} → Unmet p → Unmet q → Unmet (λ ts. p ts || q ts)
  unmet_or {p} {q} f g ts h =
      let e = or_parts (p ts) (q ts) h in or_from (p (join ts rest)) (q (join ts rest)) (f ts e.0) (g ts e.1)

  behind_pair : (b : Bool) (ts us vs : Trees) → (b && sees 60 (cond b ts us)) ≡ false → (b && sees 60 (cond b (join ts rest) vs)) ≡ false
  behind_pair true ts us vs h = unmet_sees 60 refl ts h
  behind_pair false ts us vs h = refl

  no_turbofish : (ts : Trees) → sees_colons ts ≡ false → sees_turbofish ts ≡ false
  no_turbofish ts e = ap (λ b. b && sees 60 (behind_colons ts)) e

  unmet_turbofish : Unmet sees_turbofish
  unmet_turbofish no_trees h = no_turbofish rest (stop_pair 58 58 refl rest stop)
  unmet_turbofish (token (t.Punct a) no_trees) h =
      no_turbofish (token (t.Punct a) rest) (unmet_colons (token (t.Punct a) no_trees) (and_false (nat_eq a.ch 58 && is_joint a.spacing)))
    where
      and_false : (b : Bool) → (b && false) ≡ false
      and_false true = refl
      and_false false = refl
  unmet_turbofish (token (t.Punct a) (token (t.Punct b) ts)) h =
      behind_pair ((nat_eq a.ch 58 && is_joint a.spacing) && nat_eq b.ch 58) ts (token (t.Punct a) (token (t.Punct b) ts))
      (token (t.Punct a) (token (t.Punct b) (join ts rest))) h
  unmet_turbofish (token (t.Punct a) _) h = h
  unmet_turbofish _ h = refl

  pub unmet_arguments : Unmet sees_arguments
  unmet_arguments = unmet_or (unmet_or (unmet_sees 60 refl) unmet_turbofish) unmet_parens

  or_both : {a b c d : Bool} → (a ≡ false → c ≡ false) → (b ≡ false → d ≡ false) → (a || b) ≡ false → (c || d) ≡ false
  or_both {a} {b} {c} {d} f g h = let e = or_parts a b h in or_from c d (f e.0) (g e.1)

  unmet_bound : (ts : Trees) → sees_word (codes "for") (join ts rest) ≡ false → sees_bound ts ≡ false → sees_bound (join ts rest) ≡ false
  unmet_bound ts w h =
      or_both (or_both (or_both (or_both (or_both (unmet_lifetime ts) (unmet_sees 63 refl ts)) (unmet_parens ts)) (λ _. w))
      (unmet_colons ts))
      (unmet_path_word ts) h

  -- a list of bounds that ends
  pub bounds_end : (ts : Trees) → sees_word (codes "for") (join ts rest) ≡ false → ends_bounds ts ≡ true → ends_bounds (join ts rest) ≡ true
  bounds_end ts w h = not_from_false (sees_bound (join ts rest)) (unmet_bound ts w (not-true (sees_bound ts) h))

-- ---- what may stand behind a type is such an end

skip : (b : Bool) (x y : Next) → ends_type x ≡ false → T (ends_type (cond b x y)) → T (ends_type y)
skip true x y e h = absurd (subst T e h)
skip false x y e h = h

pick : (b c : Bool) (x y : Next) → (T (ends_type y) → c ≡ true) → T (ends_type (cond b x y)) → (b || c) ≡ true
pick true c x y f h = refl
pick false c x y f h = f h

none_of : (b c : Bool) (ts : Trees) → T (ends_type (cond b (bar ts) (cond c (hash ts) other))) → ⊥
none_of true c ts h = h
none_of false true ts h = h
none_of false false ts h = h

ends_alone : (c : ℕ) (ts : Trees) → T (ends_type (alone_next c ts)) → one_of stops c ≡ true
ends_alone c ts h =
    pick (c == 44) (one_of (59 ∷ 61 ∷ 62 ∷ []) c) (comma ts) _
    (λ h. pick (c == 59) (one_of (61 ∷ 62 ∷ []) c) (semicolon ts) _
    (pick (c == 61) (one_of (62 ∷ []) c) (assigns ts) _ (λ k. absurd (none_of (c == 124) (c == 35) ts k)))
    (skip (c == 58) (colon ts) _ refl h))
    (skip (c == 60) (less ts) _ refl
    (skip (c == 43) (plus ts) _ refl
    (skip (c == 33) (bangs ts) _ refl
    (skip (c == 63) (asks ts) _ refl
    (skip (c == 46) (dot ts) _ refl (skip (c == 38) (amp ts) _ refl (skip (c == 42) (star ts) _ refl h)))))))

ends_pair : (a b : ℕ) (ts : Trees) → T (ends_type (pair_next a b ts)) → ⊥
ends_pair a b ts h =
    skip ((a == 45) && (b == 62)) (arrow ts) other refl
    (skip ((a == 46) && (b == 46)) (dots ts) _ refl
    (skip ((a == 124) && (b == 124)) (oror ts) _ refl
    (skip ((a == 38) && (b == 38)) (andand ts) _ refl
    (skip ((a == 33) && (b == 61)) (differs ts) _ refl
    (skip ((a == 61) && (b == 61)) (equals ts) _ refl
    (skip ((a == 61) && (b == 62)) (leads ts) _ refl (skip ((a == 58) && (b == 58)) (colons ts) _ refl h)))))))

ends_last : (a b : ℕ) (ts : Trees) (s : Spacing) → T (ends_type (last_next s a b ts)) → ⊥
ends_last a b ts Alone h = ends_pair a b ts h
ends_last a b ts Joint h = h

ends_joint : (c : ℕ) (ts : Trees) → T (ends_type (joint_next c ts)) → ⊥
ends_joint c (token (t.Punct p) ts) h = ends_last c p.ch ts p.spacing h
ends_joint c (token (t.Ident i) ts) h = h
ends_joint c (token (t.Literal l) ts) h = h
ends_joint c (token (t.Lifetime l) ts) h = h
ends_joint c no_trees h = h
ends_joint c (group d f us g ts) h = h

pub ends_word : (w : Word) (i : Ident) (ts : Trees) → T (ends_type (word_next w i ts)) → ⊥
ends_word of_path i ts h = h
ends_word _ i ts h = h

ends_punct : (p : Punct) (ts : Trees) (s : Spacing) → p.spacing ≡ s → T (ends_type (punct_next s p.ch ts)) → Stop (token (t.Punct p) ts)
ends_punct p ts Alone e h = stop_punct p ts e (ends_alone p.ch ts h)
ends_punct p ts Joint e h = absurd (ends_joint p.ch ts h)

pub ends_stop : (rest : Trees) → T (ends_type (next rest)) → Stop rest
ends_stop no_trees h = stop_end
ends_stop (token (t.Punct p) ts) h = ends_punct p ts p.spacing refl h
ends_stop (token (t.Ident i) ts) h = absurd (ends_word (kind i) i ts h)
ends_stop (token (t.Literal l) ts) h = absurd h
ends_stop (token (t.Lifetime l) ts) h = absurd h
ends_stop (group Paren f us g ts) h = absurd h
ends_stop (group Bracket f us g ts) h = absurd h
ends_stop (group Brace f us g ts) h = stop_brace f g us ts

-- a punct that is one of the four; what may stand behind a type is none for `>`
pub stop_cases : {X : Type 0} (test : Next → Bool) (p : Punct) (ts : Trees) → p.spacing ≡ Alone → one_of stops p.ch ≡ true →
    T (test (next (token (t.Punct p) ts))) → (p.ch ≡ 44 → T (test (comma ts)) → X) → (T (test (semicolon ts)) → X) →
    (T (test (assigns ts)) → X) → (T (test other) → X) → X
stop_cases {X} test p ts a o h f g k l =
    by (nat_eq p.ch 44) (nat_eq p.ch 59) (nat_eq p.ch 61) (nat_eq p.ch 62) refl refl refl refl o
  where
    there : (c : ℕ) → p.ch ≡ c → T (test (alone_next c ts))
    there c e = subst (λ x. T (test (alone_next x ts))) e (subst (λ x. T (test (punct_next x p.ch ts))) a h)

    by : (x y z v : Bool) → nat_eq p.ch 44 ≡ x → nat_eq p.ch 59 ≡ y → nat_eq p.ch 61 ≡ z → nat_eq p.ch 62 ≡ v →
        (x || (y || (z || (v || false)))) ≡ true → X
    by true y z v e e1 e2 e3 q = f (eqb-true p.ch 44 e) (there 44 (eqb-true p.ch 44 e))
    by false true z v e e1 e2 e3 q = g (there 59 (eqb-true p.ch 59 e1))
    by false false true v e e1 e2 e3 q = k (there 61 (eqb-true p.ch 61 e2))
    by false false false true e e1 e2 e3 q = l (there 62 (eqb-true p.ch 62 e3))
    by false false false false e e1 e2 e3 q = absurd (cc)
