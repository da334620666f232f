-- What is spelled before other trees is spelled before them also where an end stands behind these. The parts that grammars are made of.
use Rattle.std.proofs.Common.{◌≡◌, ℕ, Bool, true, false, ◌&&◌, List, [], ◌∷◌, codes, Option, Some, None, refl, sym, ap, ◌∙◌, subst}
use Rattle.dm_stream.specs.declared.tokens.Span.{Span}
use Rattle.dm_stream.specs.declared.tokens.Delim.{Delim}
use Rattle.dm_stream.specs.declared.tokens.Ident.{Ident}
use Rattle.dm_stream.specs.declared.tokens.Token.TheVariants as t
use Rattle.dm_stream.specs.Trees.{Trees, no_trees, token, join}
use Rattle.dm_ast.specs.Tree.{Lifetimes}
use Rattle.dm_ast.specs.Spelling.{Where, deeper, Marks, Spelling, at_end, sees, sees_one, sees_colons, is_joint, one_of, Nothing, Facing, ◌then◌, Provided, Before, TokenAt, ident, lifetime, punct, keyword, PairAt, LoneAt, colons, colon, equals, GroupAt, flag, perhaps, repeated, chain, no_items, last_item, items_left, items, RangedAt}
use Rattle.dm_ast.specs.TypeGrammar.{between_angles, for_lifetimes, plain_path}
use Rattle.dm_ast.specs.declared.plain.PlainPath.{PlainPath}
use Rattle.dm_reread.proofs.TypeLeafEnds.{Stop, unmet_one, unmet_colons, kept_word}

-- what an item of a list stands before: `+`, `,` or `>`
abbrev pub is_listed : Trees → Bool
is_listed = sees_one (43 ∷ 44 ∷ 62 ∷ [])

abbrev pub Listed : Trees → Type 0
Listed ts = is_listed ts ≡ true

abbrev pub Anything : Trees → Type 0
Anything ts = Unit {0}

module _ (rest : Trees) where
  -- under a condition on what follows
  abbrev pub ExtendsIf : (Trees → Type 0) → Spelling → Type 0
  ExtendsIf G S = (ts others : Trees) (m : Marks) → S ts others m → G others → S (join ts rest) (join others rest) m

  abbrev pub Extends : Spelling → Type 0
  Extends S = ExtendsIf Anything S

  -- ---- parts one after another

  -- the first part under a condition that the second one meets
  pub ext_before : {G H : Trees → Type 0} {A B : Spelling} →
      ((mid others : Trees) (m : Marks) → B mid others m → G others → H mid) → ExtendsIf H A → ExtendsIf G B → ExtendsIf G (A then B)
  ext_before {G} {H} {A} {B} k f g ts others m s c =
      record {
        middle = join s.middle rest;
        first_marks = s.first_marks;
        rest_marks = s.rest_marks;
        first = f ts s.middle s.first_marks s.first (k s.middle others s.rest_marks s.rest c);
        rest = g s.middle others s.rest_marks s.rest c;
        marks = s.marks;
      }

  pub ext_then : {G : Trees → Type 0} {A B : Spelling} → Extends A → ExtendsIf G B → ExtendsIf G (A then B)
  ext_then f g = ext_before (λ mid others m s c. tt) f g

  pub ext_if : (G : Trees → Type 0) {A : Spelling} → Extends A → ExtendsIf G A
  ext_if G f ts others m s c = f ts others m s tt

  pub ext_nothing : Extends Nothing
  ext_nothing ts others m s c = record { spelled = ap (λ x. join x rest) s.spelled; marks = s.marks }

  pub ext_where : {G F : Trees → Type 0} {A : Spelling} → ((others : Trees) → G others → F others → F (join others rest)) → ExtendsIf G A →
      ExtendsIf G (Before F A)
  ext_where k f ts others m s c = record { part = f ts others m s.part c; fact = k others c s.fact }

  pub ext_facing : {G F : Trees → Type 0} {A : Spelling} → ((ts others : Trees) (m : Marks) → A ts others m → G others → F ts →
      F (join ts rest)) →
      ExtendsIf G A → ExtendsIf G (Facing F A)
  ext_facing k f ts others m s c = record { fact = k ts others m s.part c s.fact; part = f ts others m s.part c }

  pub ext_provided : {G : Trees → Type 0} {F : Type 0} {A : Spelling} → (F → ExtendsIf G A) → ExtendsIf G (Provided F A)
  ext_provided f ts others m s c = record { fact = s.fact; part = f s.fact ts others m s.part c }

  pub ext_ranged : {G : Trees → Type 0} {range : Span} {A : Spelling} → ExtendsIf G A → ExtendsIf G (RangedAt range A)
  ext_ranged f ts others m s c = record { part = f ts others m s.part c; is_range = s.is_range }

  pub ext_absent : {test : Trees → Bool} → ((ts : Trees) → test ts ≡ false → test (join ts rest) ≡ false) →
      Extends (Before (λ x. test x ≡ false) Nothing)
  ext_absent u = ext_where (λ others c e. u others e) ext_nothing

  pub ext_flag : {test : Trees → Bool} {A : Spelling} (b : Bool) → ((ts : Trees) → test ts ≡ false → test (join ts rest) ≡ false) →
      Extends A →
      Extends (flag test b A)
  ext_flag true u f = f
  ext_flag false u f = ext_absent u

  pub ext_perhaps : {test : Trees → Bool} {X : Type 0} {A : X → Spelling} (x : Option X) →
      ((ts : Trees) → test ts ≡ false → test (join ts rest) ≡ false) → ((y : X) → Extends (A y)) → Extends (perhaps test x A)
  ext_perhaps None u f = ext_absent u
  ext_perhaps (Some y) u f = f y

  -- ---- tokens and groups

  pub ext_token : (w : Where) (k : t.the_data) → Extends (TokenAt w k)
  ext_token w k ts others m s c = record { spelled = ap (λ x. join x rest) s.spelled; marks = s.marks }

  pub ext_punct : (w : Where) (c : ℕ) → Extends (punct w c)
  ext_punct w c ts others m s k = record { punct = s.punct; is = s.is; there = ext_token w (t.Punct s.punct) ts others m s.there tt }

  pub ext_word : (w : Where) (word : List ℕ) → Extends (keyword w word)
  ext_word w word ts others m s c =
      record { range = s.range; there = ext_token w (t.Ident (record { name = word; raw = false; span = s.range })) ts others m s.there tt }

  pub ext_pair : (w : Where) (a b : ℕ) → Extends (PairAt w a b)
  ext_pair w a b ts others m s c =
      record {
        first = s.first;
        second = s.second;
        is_first = s.is_first;
        is_joint = s.is_joint;
        is_second = s.is_second;
        spelled = ap (λ x. join x rest) s.spelled;
        marks = s.marks;
      }

  pub ext_lone : {G : Trees → Type 0} (w : Where) (c : ℕ) (stops : List ℕ) →
      ((others : Trees) → G others → (b : Bool) → (b && sees_one stops others) ≡ false → (b && sees_one stops (join others rest)) ≡ false) →
      ExtendsIf G (LoneAt w c stops)
  ext_lone w c stops k ts others m s g =
      record {
        punct = s.punct;
        is = s.is;
        lone = k others g (is_joint s.punct.spacing) s.lone;
        there = ext_token w (t.Punct s.punct) ts others m s.there tt;
      }

  pub ext_group : (w : Where) (d : Delim) (Inside : Where → Spelling) → Extends (GroupAt w d Inside)
  ext_group w d Inside ts others m s c =
      record {
        opener = s.opener;
        inside = s.inside;
        closer = s.closer;
        inner_marks = s.inner_marks;
        spelled = ap (λ x. join x rest) s.spelled;
        whole = s.whole;
        marks = s.marks;
      }

  -- `=` before something
  pub some_one : (cs : List ℕ) (ts : Trees) → at_end ts ≡ false → sees_one cs ts ≡ sees_one cs (join ts rest)
  some_one cs no_trees h = absurd (cc)
  some_one cs (token (t.Punct p) ts) h = refl
  some_one cs _ h = refl

  pub ext_equals : (w : Where) → ExtendsIf (λ ts. at_end ts ≡ false) (equals w)
  ext_equals w = ext_lone w 61 (61 ∷ 62 ∷ []) (λ others h b e. ap (λ x. b && x) (sym (some_one (61 ∷ 62 ∷ []) others h)) ∙ e)

  -- ---- lists in angle brackets

  pub listed_punct : {w : Where} {c : ℕ} → one_of (43 ∷ 44 ∷ 62 ∷ []) c ≡ true → (ts others : Trees) (m : Marks) → punct w c ts others m →
      Listed ts
  listed_punct h ts others m s = ap is_listed s.there.spelled ∙ ap (one_of (43 ∷ 44 ∷ 62 ∷ [])) s.is ∙ h

  pub listed_stays : (c : ℕ) (ts : Trees) → Listed ts → sees c ts ≡ sees c (join ts rest)
  listed_stays c no_trees h = absurd (cc)
  listed_stays c (token (t.Punct p) ts) h = refl
  listed_stays c _ h = refl

  pub ext_angles : (w : Where) (Inside : Where → Spelling) → ((v : Where) → ExtendsIf Listed (Inside v)) → Extends (between_angles w Inside)
  ext_angles w Inside f =
      ext_then (ext_punct w 60) (ext_before (λ mid others m s c. listed_punct refl mid others m s) (f (deeper w)) (ext_punct w 62))

  -- how a list ends: its separator, the test of its end, and what its items stand before
  pub record Ends (G : Trees → Type 0) (w : Where) (c : ℕ) (over : Trees → Bool) : Type 0 where
    pub apart : (ts : Trees) → G ts → sees c ts ≡ false → sees c (join ts rest) ≡ false
    pub ends : (ts : Trees) → G ts → over ts ≡ true → over (join ts rest) ≡ true
    pub before : (ts others : Trees) (m : Marks) → punct w c ts others m → G ts

  -- in angle brackets
  pub angle_ends : (w : Where) (c : ℕ) (over : Trees → Bool) → one_of (43 ∷ 44 ∷ 62 ∷ []) c ≡ true →
      ((ts : Trees) → Listed ts → over ts ≡ true → over (join ts rest) ≡ true) → Ends Listed w c over
  angle_ends w c over h k =
      record { apart = λ ts g e. sym (listed_stays c ts g) ∙ e; ends = k; before = λ ts others m s. listed_punct h ts others m s }

  pub angle_over : (w : Where) → Ends Listed w 44 (sees 62)
  angle_over w = angle_ends w 44 (sees 62) refl (λ ts g e. sym (listed_stays 62 ts g) ∙ e)

  module _ (G : Trees → Type 0) (w : Where) (c : ℕ) (over : Trees → Bool) (e : Ends G w c over) where
    pub ext_none : (trailing : Bool) → ExtendsIf G (no_items w c over trailing)
    ext_none trailing = ext_provided (λ _. ext_where e.ends (ext_if _ ext_nothing))

    pub ext_last : (trailing : Bool) → ExtendsIf G (last_item w c over trailing)
    ext_last true = ext_then (ext_punct w c) (ext_where e.ends (ext_if _ ext_nothing))
    ext_last false = ext_where e.apart (ext_if _ ext_nothing)

    -- behind an item stands a separator, or what is behind the list
    pub before_last : {ts others : Trees} → ts ≡ others → G others → G ts
    before_last h g = subst G (sym h) g

    pub last_before : (trailing : Bool) (ts others : Trees) (m : Marks) → last_item w c over trailing ts others m → G others → G ts
    last_before true ts others m s g = e.before ts s.middle s.first_marks s.first
    last_before false ts others m s g = before_last s.part.spelled g

    left_before : {X : Type 0} (item : X → Spelling) (xs : List X) (trailing : Bool) (ts others : Trees) (m : Marks) →
        items_left w c over item xs trailing ts others m → G others → G ts
    left_before item [] trailing ts others m s g = last_before trailing ts others m s g
    left_before item (x ∷ xs) trailing ts others m s g = e.before ts s.middle s.first_marks s.first

    ext_items_left : {X : Type 0} (item : X → Spelling) → ((x : X) → ExtendsIf G (item x)) → (xs : List X) (trailing : Bool) →
        ExtendsIf G (items_left w c over item xs trailing)
    ext_items_left item f [] trailing = ext_last trailing
    ext_items_left item f (x ∷ xs) trailing =
        ext_then (ext_punct w c) (ext_before (λ mid others m s g. left_before item xs trailing mid others m s g) (f x)
        (ext_items_left item f xs trailing))

    pub ext_items : {X : Type 0} (item : X → Spelling) → ((x : X) → ExtendsIf G (item x)) → (xs : List X) (trailing : Bool) →
        ExtendsIf G (items w c over item xs trailing)
    ext_items item f [] trailing = ext_none trailing
    ext_items item f (x ∷ xs) trailing =
        ext_before (λ mid others m s g. left_before item xs trailing mid others m s g) (f x) (ext_items_left item f xs trailing)

  module _ (stop : Stop rest) where
    pub ext_colon : (w : Where) → Extends (colon w)
    ext_colon w = ext_lone w 58 (58 ∷ []) by
      where
        by : (others : Trees) → Unit {0} → (b : Bool) → (b && sees_one (58 ∷ []) others) ≡ false →
            (b && sees_one (58 ∷ []) (join others rest)) ≡ false
        by others g true e = unmet_one rest stop 58 refl others e
        by others g false e = refl

    -- before something
    pub ext_for : (w : Where) (ls : Lifetimes) → ExtendsIf (λ ts. at_end ts ≡ false) (for_lifetimes w ls)
    ext_for w None = ext_where (λ others c e. kept_word rest stop (codes "for") others c e) (ext_if _ ext_nothing)
    ext_for w (Some l) =
        ext_if _
        (ext_then (ext_word w (codes "for"))
        (ext_angles w (λ v. items v 44 (sees 62) (lifetime v) l.items l.trailing)
        (λ v. ext_items Listed v 44 (sees 62) (angle_over v) (lifetime v) (λ x. ext_if _ (ext_token v (t.Lifetime x))) l.items l.trailing)))

    -- plain paths
    ext_names : (w : Where) (names : List Ident) → Extends (repeated sees_colons (λ i. colons w then ident w i) names)
    ext_names w [] = ext_absent (unmet_colons rest stop)
    ext_names w (i ∷ names) = ext_then (ext_then (ext_pair w 58 58) (ext_token w (t.Ident i))) (ext_names w names)

    ext_chain : (w : Where) (names : List Ident) → Extends (chain (colons w) sees_colons (ident w) names)
    ext_chain w [] = ext_provided (λ e. absurd e)
    ext_chain w (i ∷ names) = ext_then (ext_token w (t.Ident i)) (ext_names w names)

    pub ext_plain : (w : Where) (p : PlainPath) → Extends (plain_path w p)
    ext_plain w p = ext_then (ext_flag p.leading_colon (unmet_colons rest stop) (ext_pair w 58 58)) (ext_chain w p.segments)
