-- A type that is spelled before other trees is spelled before them also where a lone `:` stands behind these, and so are its parts.
use Rattle.std.proofs.Common.{◌≡◌, ℕ, zero, suc, Bool, true, false, not, ◌&&◌, ◌||◌, cond, nat_eq, List, [], ◌∷◌, codes, Option, Some, None, refl, sym, ap, ◌∙◌, subst}
use Rattle.std.proofs.lemmas.Bool.{or_parts, or_from, not_from_false, not-true}
use Rattle.dm_stream.specs.declared.tokens.Span.{Span}
use Rattle.dm_stream.specs.declared.tokens.Delim.{Delim}
use Rattle.dm_stream.specs.declared.tokens.Delim.TheVariants.{Paren, Bracket, Brace}
use Rattle.dm_stream.specs.declared.tokens.Ident.{Ident}
use Rattle.dm_stream.specs.declared.tokens.Punct.{Punct}
use Rattle.dm_stream.specs.declared.tokens.Spacing.TheVariants.{Joint, Alone}
use Rattle.dm_stream.specs.declared.tokens.Token.{Token}
use Rattle.dm_stream.specs.declared.tokens.Token.TheVariants as t
use Rattle.dm_stream.specs.Layout.{nowhere}
use Rattle.dm_stream.specs.Trees.{Trees, no_trees, token, group, join}
use Rattle.dm_ast.specs.declared.plain.ConstArg.{ConstArg}
use Rattle.dm_ast.specs.declared.plain.ConstArg.TheVariants as constant
use Rattle.dm_ast.specs.declared.plain.PlainPath.{PlainPath}
use Rattle.dm_ast.specs.Tree.{Lifetimes, TypeTree, type_tree, TypeNode, paren, tuple, slice, array, reference, pointer, bare_fn, trait_object, impl_trait, infer, never, path, macro_type, MaybeType, no_type, some_type, no_self, some_self, BoundTree, outlives, implements, BoundTrees, no_bounds, bound_then, TraitBoundTree, trait_bound, FnTree, fn_tree, PathTree, path_tree, SegmentTree, segment, SegmentTrees, no_segments, segment_then, ArgumentsTree, absent, angle, parens, ArgumentTree, lifetime_arg, type_arg, const_arg, assoc_type, assoc_const, constraint, ArgumentTrees, no_arguments, argument_then, MaybeArguments, arguments_absent, some_arguments}
use Rattle.dm_ast.specs.Spelling.{Where, deeper, Marks, Spelling, at_end, is_joint, one_of, sees, sees_one, sees_word, sees_lifetime, sees_literal, sees_group, sees_colons, sees_arrow, sees_colon, sees_equals, Nothing, Facing, ◌then◌, Provided, Before, TokenAt, ident, lifetime, punct, keyword, PairAt, colons, arrow, colon, equals, GroupAt, flag, perhaps, repeated, chain, no_items, last_item, items_left, items, RangedAt}
use Rattle.dm_ast.specs.TypeGrammar.{sees_path_word, sees_turbofish, sees_arguments, sees_bound, ends_bounds, behind_colons, behind_idents, behind_first, is_call, sees_macro, plain_path, types, inputs, kept, between_angles, for_lifetimes, type_spelled, node, output, function, bound, trait_bound_spelled, some_bounds, more_bounds, bounds, bounds_left, path_spelled, segments, segments_left, qualified, trait_segments, some_segments_left, segment_spelled, arguments_of_segment, arguments, arguments_left, argument, maybe_angled, constant_spelled, constant_argument}
use Rattle.dm_read.proofs.MacroSeeing.{no_colons}
use Rattle.dm_type_eq.proofs.Cutting.{same_front, are_colons}
use Rattle.dm_reread.proofs.TypeLeafParts.{Anything, ext_nothing, ext_token, ext_punct, ext_word, ext_pair, ext_lone, ext_group, some_one}
use Rattle.dm_reread.proofs.TypeLeafCalls.{idents_stay, no_mark}

-- ---- what a `:` may stand behind

-- no `:` that would be joint to one stands last, but as the second of `::`
abbrev pub is_sealed : Trees → Bool
is_sealed no_trees = true
is_sealed (token (t.Punct a) no_trees) = not (nat_eq a.ch 58 && is_joint a.spacing)
is_sealed (token (t.Punct a) (token (t.Punct b) ts)) =
    cond (are_colons a.ch a.spacing b.ch) (is_sealed ts) (is_sealed (token (t.Punct b) ts))
is_sealed (token (t.Punct a) (token (t.Ident i) ts)) = is_sealed ts
is_sealed (token (t.Punct a) (token (t.Literal l) ts)) = is_sealed ts
is_sealed (token (t.Punct a) (token (t.Lifetime l) ts)) = is_sealed ts
is_sealed (token (t.Punct a) (group d f us g ts)) = is_sealed ts
is_sealed (token (t.Ident i) ts) = is_sealed ts
is_sealed (token (t.Literal l) ts) = is_sealed ts
is_sealed (token (t.Lifetime l) ts) = is_sealed ts
is_sealed (group d f us g ts) = is_sealed ts

abbrev pub Sealed : Trees → Type 0
Sealed ts = is_sealed ts ≡ true

-- something is left
abbrev pub Follows : Trees → Type 0
Follows ts = at_end ts ≡ false

sealed_last : (b : Bool) → not b ≡ true → (b && true) ≡ false
sealed_last true e = absurd (cc)
sealed_last false e = refl

and_false : (b : Bool) → (b && false) ≡ false
and_false true = refl
and_false false = refl

not_both : (b c d : Bool) → (b && (d || false)) ≡ false → ((c && b) && d) ≡ false
not_both true true true e = absurd (cc)
not_both true true false e = refl
not_both true false d e = refl
not_both false true d e = refl
not_both false false d e = refl

either_false : {a b c d : Bool} → (a ≡ false → c ≡ false) → (b ≡ false → d ≡ false) → (a || b) ≡ false → (c || d) ≡ false
either_false {a} {b} {c} {d} f g h = let e = or_parts a b h in or_from c d (f e.0) (g e.1)

sealed_punct : (p : Punct) (o : Trees) → nat_eq p.ch 58 ≡ false → Sealed o → Sealed (token (t.Punct p) o)
sealed_punct p no_trees h e = ap (λ b. not (b && is_joint p.spacing)) h
sealed_punct p (token (t.Punct q) o) h e =
    ap (λ b. cond ((b && is_joint p.spacing) && nat_eq q.ch 58) (is_sealed o) (is_sealed (token (t.Punct q) o))) h ∙ e
sealed_punct p (token (t.Ident i) o) h e = e
sealed_punct p (token (t.Literal l) o) h e = e
sealed_punct p (token (t.Lifetime l) o) h e = e
sealed_punct p (group d f us g o) h e = e

sealed_lone : (p : Punct) (o : Trees) → (is_joint p.spacing && sees_one (58 ∷ []) o) ≡ false → Follows o → Sealed o →
    Sealed (token (t.Punct p) o)
sealed_lone p no_trees h k e = absurd (cc)
sealed_lone p (token (t.Punct q) o) h k e =
    ap (λ b. cond b (is_sealed o) (is_sealed (token (t.Punct q) o)))
    (not_both (is_joint p.spacing) (nat_eq p.ch 58) (nat_eq q.ch 58) h) ∙
    e
sealed_lone p (token (t.Ident i) o) h k e = e
sealed_lone p (token (t.Literal l) o) h k e = e
sealed_lone p (token (t.Lifetime l) o) h k e = e
sealed_lone p (group d f us g o) h k e = e

-- ---- what is there where a part that can't be missing is spelled

punct_follows : {w : Where} {c : ℕ} (ts others : Trees) (m : Marks) → punct w c ts others m → Follows ts
punct_follows ts others m s = ap at_end s.there.spelled

path_follows : (p : PathTree) (w : Where) (ts others : Trees) (m : Marks) → path_spelled p w ts others m → Follows ts
path_follows (path_tree true ss) w ts others m s = ap at_end s.first.spelled
path_follows (path_tree false no_segments) w ts others m s = absurd s.rest.fact
path_follows (path_tree false (segment_then (segment i a) ss)) w ts others m s =
    ap at_end (s.first.part.spelled ∙ s.rest.first.first.part.spelled)

bound_follows : (b : BoundTree) (w : Where) (ts others : Trees) (m : Marks) → bound b w ts others m → Follows ts
bound_follows (outlives l) w ts others m s = ap at_end s.spelled
bound_follows (implements (trait_bound true maybe ls p)) w ts others m s = ap at_end s.spelled
bound_follows (implements (trait_bound false true ls p)) w ts others m s = punct_follows ts s.middle s.first_marks s.first
bound_follows (implements (trait_bound false false None p)) w ts others m s =
    ap at_end (s.first.part.spelled ∙ s.rest.first.part.spelled) ∙ path_follows p w s.rest.middle others s.rest.rest_marks s.rest.rest
bound_follows (implements (trait_bound false false (Some ls) p)) w ts others m s =
    ap at_end (s.first.part.spelled ∙ s.rest.first.first.there.spelled)

bounds_follow : (bs : BoundTrees) (u : Bool) (w : Where) (ts others : Trees) (m : Marks) → bounds bs u w ts others m → Follows others →
    Follows ts
bounds_follow no_bounds u w ts others m s g = ap at_end s.part.part.spelled ∙ g
bounds_follow (bound_then b bs) u w ts others m s g = bound_follows b w ts s.middle s.first_marks s.first

arguments_follow : (gs : ArgumentTrees) (u : Bool) (w : Where) (ts others : Trees) (m : Marks) → arguments_left gs u w ts others m →
    Follows others → Follows ts
arguments_follow no_arguments true w ts others m s g = punct_follows ts s.middle s.first_marks s.first
arguments_follow no_arguments false w ts others m s g = ap at_end s.part.spelled ∙ g
arguments_follow (argument_then a gs) u w ts others m s g = punct_follows ts s.middle s.first_marks s.first

-- a lone `:`, and more
abbrev pub colon_before : Trees → Trees
colon_before more = token (t.Punct (record { ch = 58; spacing = Alone; span = nowhere })) more

module _ (more : Trees) where
  abbrev pub rest : Trees
  rest = colon_before more

  -- ---- tests that aren't met where they weren't

  abbrev Kept : (Trees → Bool) → Type 0
  Kept test = (ts : Trees) → Sealed ts → test ts ≡ false → test (join ts rest) ≡ false

  unseen : (c : ℕ) → nat_eq 58 c ≡ false → (ts : Trees) → sees c ts ≡ false → sees c (join ts rest) ≡ false
  unseen c k no_trees h = k
  unseen c k (token (t.Punct p) ts) h = h
  unseen c k _ h = refl

  kept_sees : (c : ℕ) → nat_eq 58 c ≡ false → Kept (sees c)
  kept_sees c k ts e h = unseen c k ts h

  kept_word : (word : List ℕ) → Kept (sees_word word)
  kept_word word (token (t.Ident i) ts) e h = h
  kept_word word _ e h = refl

  kept_lifetime : Kept sees_lifetime
  kept_lifetime (token (t.Lifetime l) ts) e h = h
  kept_lifetime _ e h = refl

  kept_literal : Kept sees_literal
  kept_literal (token (t.Literal l) ts) e h = h
  kept_literal _ e h = refl

  kept_path_word : Kept sees_path_word
  kept_path_word (token (t.Ident i) ts) e h = h
  kept_path_word _ e h = refl

  kept_parens : Kept (sees_group Paren)
  kept_parens (group d f us g ts) e h = h
  kept_parens _ e h = refl

  kept_colons : Kept sees_colons
  kept_colons (token (t.Punct p) no_trees) e h = sealed_last (nat_eq p.ch 58 && is_joint p.spacing) e
  kept_colons (token (t.Punct p) (token (t.Punct q) ts)) e h = h
  kept_colons (token (t.Punct p) _) e h = h
  kept_colons _ e h = refl

  kept_arrow : Kept sees_arrow
  kept_arrow (token (t.Punct p) (token (t.Punct q) ts)) e h = h
  kept_arrow (token (t.Punct p) _) e h = h
  kept_arrow _ e h = refl

  kept_turbofish : Kept sees_turbofish
  kept_turbofish (token (t.Punct p) no_trees) e h =
      ap (λ b. b && sees 60 (behind_colons (token (t.Punct p) rest)))
      (kept_colons (token (t.Punct p) no_trees) e (and_false (nat_eq p.ch 58 && is_joint p.spacing)))
  kept_turbofish (token (t.Punct p) (token (t.Punct q) ts)) e h = by (are_colons p.ch p.spacing q.ch) h
    where
      by : (b : Bool) → (b && sees 60 (cond b ts (token (t.Punct p) (token (t.Punct q) ts)))) ≡ false →
          (b && sees 60 (cond b (join ts rest) (token (t.Punct p) (token (t.Punct q) (join ts rest))))) ≡ false
      by true h = unseen 60 refl ts h
      by false h = refl
  kept_turbofish (token (t.Punct p) _) e h = h
  kept_turbofish _ e h = refl

  kept_arguments : Kept sees_arguments
  kept_arguments ts e h =
      either_false (either_false (kept_sees 60 refl ts e) (kept_turbofish ts e)) (kept_parens ts e) h

  kept_bound : Kept sees_bound
  kept_bound ts e h =
      either_false
      (either_false
      (either_false (either_false (either_false (kept_lifetime ts e) (kept_sees 63 refl ts e)) (kept_parens ts e))
      (kept_word (codes "for") ts e))
      (kept_colons ts e))
      (kept_path_word ts e) h

  -- a list of bounds ends as it did, and so does one in angle brackets
  bounds_over : (ts : Trees) → Sealed ts → ends_bounds ts ≡ true → ends_bounds (join ts rest) ≡ true
  bounds_over ts e h = not_from_false (sees_bound (join ts rest)) (kept_bound ts e (not-true (sees_bound ts) h))

  angle_over : (ts : Trees) → Sealed ts → sees 62 ts ≡ true → sees 62 (join ts rest) ≡ true
  angle_over no_trees e h = absurd (cc)
  angle_over (token (t.Punct p) ts) e h = h
  angle_over (token (t.Ident i) ts) e h = h
  angle_over (token (t.Literal l) ts) e h = h
  angle_over (token (t.Lifetime l) ts) e h = h
  angle_over (group d f us g ts) e h = h

  -- a type in a list makes no binding
  bare_colon : (b c : Bool) → (b && not (c && false)) ≡ false → (b && not (c && true)) ≡ false
  bare_colon true true h = refl
  bare_colon true false h = h
  bare_colon false c h = refl

  no_binding : (ts : Trees) → Follows ts → (sees_equals ts || sees_colon ts) ≡ false →
      (sees_equals (join ts rest) || sees_colon (join ts rest)) ≡ false
  no_binding no_trees k h = absurd (cc)
  no_binding (token (t.Punct p) no_trees) k h =
      either_false {a = sees_equals (token (t.Punct p) no_trees)} {b = sees_colon (token (t.Punct p) no_trees)} (λ e. e)
      (bare_colon (nat_eq p.ch 58) (is_joint p.spacing)) h
  no_binding (token (t.Punct p) (token (t.Punct q) ts)) k h = h
  no_binding (token (t.Punct p) _) k h = h
  no_binding _ k h = refl

  -- ---- a macro call comes next as it did

  call_end : is_call (Some (behind_idents rest)) ≡ false
  call_end = ap (λ x. is_call (Some x)) (idents_stay rest refl) ∙ no_mark (record { ch = 58; spacing = Alone; span = nowhere }) more refl

  same_call : (ts : Trees) → Sealed ts → is_call (Some (behind_idents (join ts rest))) ≡ is_call (Some (behind_idents ts))
  same_call no_trees e = call_end
  same_call (token (t.Punct a) no_trees) e =
      ap (λ x. is_call (Some x))
      (idents_stay (token (t.Punct a) rest) (sealed_last (nat_eq a.ch 58 && is_joint a.spacing) e))
  same_call (token (t.Punct a) (token (t.Punct b) (token (t.Ident i) ts))) e =
      by (are_colons a.ch a.spacing b.ch) e (λ f. same_call ts f)
    where
      front : Trees → Trees
      front us = token (t.Punct a) (token (t.Punct b) (token (t.Ident i) us))

      by : (x : Bool) → cond x (is_sealed ts) (is_sealed ts) ≡ true →
          (Sealed ts → is_call (Some (behind_idents (join ts rest))) ≡ is_call (Some (behind_idents ts))) →
          is_call (Some (cond x (behind_idents (join ts rest)) (front (join ts rest)))) ≡ is_call (Some (cond x (behind_idents ts) (front ts)))
      by true f k = k f
      by false f k = refl
  same_call (token (t.Punct a) (token (t.Punct b) no_trees)) e = refl
  same_call (token (t.Punct a) (token (t.Punct b) (token (t.Punct c) ts))) e = refl
  same_call (token (t.Punct a) (token (t.Punct b) _)) e = refl
  same_call (token (t.Punct a) _) e = refl
  same_call _ e = refl

  same_first : (ts : Trees) → Sealed ts → is_call (behind_first (join ts rest)) ≡ is_call (behind_first ts)
  same_first (token (t.Ident i) ts) e = same_call ts e
  same_first _ e = refl

  same_macro : (ts : Trees) → Sealed ts → sees_macro (join ts rest) ≡ sees_macro ts
  same_macro no_trees e = ap (λ x. is_call (behind_first x)) (no_colons rest refl)
  same_macro (token (t.Punct a) no_trees) e =
      ap (λ x. is_call (behind_first x))
      (no_colons (token (t.Punct a) rest) (sealed_last (nat_eq a.ch 58 && is_joint a.spacing) e))
  same_macro (token (t.Punct a) (token (t.Punct b) ts)) e = by (are_colons a.ch a.spacing b.ch) e
    where
      front : Trees → Trees
      front us = token (t.Punct a) (token (t.Punct b) us)

      by : (x : Bool) → cond x (is_sealed ts) (is_sealed (token (t.Punct b) ts)) ≡ true →
          is_call (behind_first (cond x (join ts rest) (front (join ts rest)))) ≡ is_call (behind_first (cond x ts (front ts)))
      by true f = same_first ts f
      by false f = refl
  same_macro (token (t.Punct a) _) e = refl
  same_macro (token (t.Ident i) ts) e = same_call ts e
  same_macro _ e = refl

  -- ---- parts one after another

  -- a part that is spelled before the `:` too, and what a `:` may stand behind again
  pub record Gone (S : Spelling) (ts others : Trees) (m : Marks) : Type 0 where
    pub sealed : Sealed ts
    pub spelled : S (join ts rest) (join others rest) m

  abbrev pub GoesIf : (Trees → Type 0) → Spelling → Type 0
  GoesIf G S = (ts others : Trees) (m : Marks) → S ts others m → Sealed others → G others → Gone S ts others m

  abbrev pub Goes : Spelling → Type 0
  Goes S = GoesIf Anything S

  -- the first part under a condition that the second one meets
  go_before : {G H : Trees → Type 0} {A B : Spelling} →
      ((mid others : Trees) (m : Marks) → B mid others m → G others → H mid) → GoesIf H A → GoesIf G B → GoesIf G (A then B)
  go_before {G} {H} {A} {B} k f g ts others m s e c =
      let y : Gone B s.middle others s.rest_marks = g s.middle others s.rest_marks s.rest e c in
      let x : Gone A ts s.middle s.first_marks =
      f ts s.middle s.first_marks s.first y.sealed (k s.middle others s.rest_marks s.rest c) in
      record {
        sealed = x.sealed;
        spelled = record {
          middle = join s.middle rest;
          first_marks = s.first_marks;
          rest_marks = s.rest_marks;
          first = x.spelled;
          rest = y.spelled;
          marks = s.marks;
        };
      }

  go_then : {G : Trees → Type 0} {A B : Spelling} → Goes A → GoesIf G B → GoesIf G (A then B)
  go_then f g = go_before (λ mid others m s c. tt) f g

  go_if : (G : Trees → Type 0) {A : Spelling} → Goes A → GoesIf G A
  go_if G f ts others m s e c = f ts others m s e tt

  go_nothing : Goes Nothing
  go_nothing ts others m s e c = record { sealed = subst Sealed (sym s.spelled) e; spelled = ext_nothing rest ts others m s tt }

  go_where : {G F : Trees → Type 0} {A : Spelling} → ((o : Trees) → Sealed o → G o → F o → F (join o rest)) → GoesIf G A →
      GoesIf G (Before F A)
  go_where {G} {F} {A} k f ts others m s e c =
      let x : Gone A ts others m = f ts others m s.part e c in
      record { sealed = x.sealed; spelled = record { part = x.spelled; fact = k others e c s.fact } }

  go_facing : {G : Trees → Type 0} {A : Spelling} {b : Bool} → GoesIf G A → GoesIf G (Facing (λ ts. sees_macro ts ≡ b) A)
  go_facing {G} {A} {b} f ts others m s e c =
      let x : Gone A ts others m = f ts others m s.part e c in
      record { sealed = x.sealed; spelled = record { fact = same_macro ts x.sealed ∙ s.fact; part = x.spelled } }

  go_provided : {G : Trees → Type 0} {F : Type 0} {A : Spelling} → (F → GoesIf G A) → GoesIf G (Provided F A)
  go_provided {G} {F} {A} f ts others m s e c =
      let x : Gone A ts others m = f s.fact ts others m s.part e c in
      record { sealed = x.sealed; spelled = record { fact = s.fact; part = x.spelled } }

  go_ranged : {G : Trees → Type 0} {range : Span} {A : Spelling} → GoesIf G A → GoesIf G (RangedAt range A)
  go_ranged {G} {range} {A} f ts others m s e c =
      let x : Gone A ts others m = f ts others m s.part e c in
      record { sealed = x.sealed; spelled = record { part = x.spelled; is_range = s.is_range } }

  go_absent : {test : Trees → Bool} → Kept test → Goes (Before (λ x. test x ≡ false) Nothing)
  go_absent k = go_where (λ o e c h. k o e h) go_nothing

  go_flag : {test : Trees → Bool} {A : Spelling} (b : Bool) → Kept test → Goes A → Goes (flag test b A)
  go_flag true k f = f
  go_flag false k f = go_absent k

  go_perhaps : {test : Trees → Bool} {X : Type 0} {A : X → Spelling} (x : Option X) → Kept test → ((y : X) → Goes (A y)) →
      Goes (perhaps test x A)
  go_perhaps None k f = go_absent k
  go_perhaps (Some y) k f = f y

  -- ---- tokens and groups

  go_token : (w : Where) (k : Token) → ((o : Trees) → Sealed o → Sealed (token k o)) → Goes (TokenAt w k)
  go_token w k h ts others m s e c =
      record { sealed = subst Sealed (sym s.spelled) (h others e); spelled = ext_token rest w k ts others m s tt }

  go_ident : (w : Where) (i : Ident) → Goes (ident w i)
  go_ident w i = go_token w (t.Ident i) (λ o e. e)

  go_punct : (w : Where) (c : ℕ) → nat_eq c 58 ≡ false → Goes (punct w c)
  go_punct w c h ts others m s e k =
      record {
        sealed = subst Sealed (sym s.there.spelled) (sealed_punct s.punct others (ap (λ z. nat_eq z 58) s.is ∙ h) e);
        spelled = ext_punct rest w c ts others m s tt;
      }

  go_word : (w : Where) (word : List ℕ) → Goes (keyword w word)
  go_word w word ts others m s e c =
      record { sealed = subst Sealed (sym s.there.spelled) e; spelled = ext_word rest w word ts others m s tt }

  pair_goes : (w : Where) (a b : ℕ) →
      ((p q : Punct) (o : Trees) → p.ch ≡ a → p.spacing ≡ Joint → q.ch ≡ b → Sealed o → Sealed (token (t.Punct p) (token (t.Punct q) o))) →
      Goes (PairAt w a b)
  pair_goes w a b k ts others m s e c =
      record {
        sealed = subst Sealed (sym s.spelled) (k s.first s.second others s.is_first s.is_joint s.is_second e);
        spelled = ext_pair rest w a b ts others m s tt;
      }

  go_colons : (w : Where) → Goes (colons w)
  go_colons w =
      pair_goes w 58 58
      (λ p q o f g h e.
      sym (ap (λ b. cond b (is_sealed o) (is_sealed (token (t.Punct q) o))) (same_front are_colons 58 58 p q f g h)) ∙ e)

  go_arrow : (w : Where) → Goes (arrow w)
  go_arrow w =
      pair_goes w 45 62
      (λ p q o f g h e.
      sealed_punct p (token (t.Punct q) o) (ap (λ z. nat_eq z 58) f) (sealed_punct q o (ap (λ z. nat_eq z 58) h) e))

  go_group : (w : Where) (d : Delim) (Inside : Where → Spelling) → Goes (GroupAt w d Inside)
  go_group w d Inside ts others m s e c =
      record { sealed = subst Sealed (sym s.spelled) e; spelled = ext_group rest w d Inside ts others m s tt }

  same_one : (cs : List ℕ) → one_of cs 58 ≡ false → (ts : Trees) → sees_one cs (join ts rest) ≡ sees_one cs ts
  same_one cs k no_trees = k
  same_one cs k (token (t.Punct p) ts) = refl
  same_one cs k _ = refl

  go_equals : (w : Where) → Goes (equals w)
  go_equals w ts others m s e c =
      record {
        sealed = subst Sealed (sym s.there.spelled) (sealed_punct s.punct others (ap (λ z. nat_eq z 58) s.is) e);
        spelled = ext_lone rest {G = Anything} w 61 (61 ∷ 62 ∷ []) (λ o k b h. ap (λ x. b && x) (same_one (61 ∷ 62 ∷ []) refl o) ∙ h) ts others m s c;
      }

  go_colon : (w : Where) → GoesIf Follows (colon w)
  go_colon w ts others m s e c =
      record {
        sealed = subst Sealed (sym s.there.spelled) (sealed_lone s.punct others s.lone c e);
        spelled = ext_lone rest {G = Follows} w 58 (58 ∷ []) (λ o k b h. ap (λ x. b && x) (sym (some_one rest (58 ∷ []) o k)) ∙ h) ts others m s c;
      }

  go_angles : (w : Where) (Inside : Where → Spelling) → ((v : Where) → GoesIf Follows (Inside v)) → Goes (between_angles w Inside)
  go_angles w Inside f =
      go_then (go_punct w 60 refl) (go_before (λ mid others m s c. punct_follows mid others m s) (f (deeper w)) (go_punct w 62 refl))

  -- ---- lists

  module _ (w : Where) (c : ℕ) (over : Trees → Bool) (k : nat_eq c 58 ≡ false) (l : nat_eq 58 c ≡ false)
      (ends : (ts : Trees) → Sealed ts → over ts ≡ true → over (join ts rest) ≡ true) where
    go_none : (u : Bool) → Goes (no_items w c over u)
    go_none u = go_provided (λ _. go_where (λ o e g h. ends o e h) go_nothing)

    go_last : (u : Bool) → Goes (last_item w c over u)
    go_last true = go_then (go_punct w c k) (go_where (λ o e g h. ends o e h) go_nothing)
    go_last false = go_absent (kept_sees c l)

    go_left : {X : Type 0} (item : X → Spelling) → ((x : X) → Goes (item x)) → (xs : List X) (u : Bool) →
        Goes (items_left w c over item xs u)
    go_left item f [] u = go_last u
    go_left item f (x ∷ xs) u = go_then (go_punct w c k) (go_then (f x) (go_left item f xs u))

    go_items : {X : Type 0} (item : X → Spelling) → ((x : X) → Goes (item x)) → (xs : List X) (u : Bool) → Goes (items w c over item xs u)
    go_items item f [] u = go_none u
    go_items item f (x ∷ xs) u = go_then (f x) (go_left item f xs u)

  go_for : (w : Where) (ls : Lifetimes) → Goes (for_lifetimes w ls)
  go_for w None = go_absent (kept_word (codes "for"))
  go_for w (Some ls) =
      go_then (go_word w (codes "for"))
      (go_angles w (λ v. items v 44 (sees 62) (lifetime v) ls.items ls.trailing)
      (λ v.
      go_if Follows
      (go_items v 44 (sees 62) refl refl angle_over (lifetime v) (λ x. go_token v (t.Lifetime x) (λ o e. e)) ls.items ls.trailing)))

  -- ---- plain paths and constants

  go_names : (w : Where) (names : List Ident) → Goes (repeated sees_colons (λ i. colons w then ident w i) names)
  go_names w [] = go_absent kept_colons
  go_names w (i ∷ names) = go_then (go_then (go_colons w) (go_ident w i)) (go_names w names)

  go_chain : (w : Where) (names : List Ident) → Goes (chain (colons w) sees_colons (ident w) names)
  go_chain w [] = go_provided (λ e. absurd e)
  go_chain w (i ∷ names) = go_then (go_ident w i) (go_names w names)

  go_plain : (w : Where) (p : PlainPath) → Goes (plain_path w p)
  go_plain w p = go_then (go_flag p.leading_colon kept_colons (go_colons w)) (go_chain w p.segments)

  go_constant : (c : ConstArg) (w : Where) → Goes (constant_spelled w c)
  go_constant (constant.Literal minus l) w =
      go_then (go_flag minus (kept_sees 45 refl) (go_punct w 45 refl)) (go_token w (t.Literal l) (λ o e. e))
  go_constant (constant.Bool i) w = go_provided (λ e. go_ident w i)
  go_constant (constant.Block o) w = go_group w Brace (kept o)
  go_constant (constant.Name i) w = go_provided (λ e. go_ident w i)

  go_constant_argument : (c : ConstArg) (w : Where) → Goes (constant_argument c w)
  go_constant_argument c w = go_facing (go_provided (λ e. go_constant c w))

  -- behind the type of a qualified path, by what is known of the segments
  go_qualified : (ss : SegmentTrees) (n : ℕ) (b : Bool) (w : Where) → ((k : ℕ) → Goes (trait_segments k ss w)) →
      Goes (some_segments_left ss w) → Goes (qualified n (path_tree b ss) w)
  go_qualified ss zero b w first later = go_provided (λ e. go_then (go_punct w 62 refl) later)
  go_qualified ss (suc n) b w first later =
      go_then (go_word (deeper w) (codes "as")) (go_then (go_flag b kept_colons (go_colons (deeper w))) (first n))

  -- ---- types

  mutual
    pub go_type : (x : TypeTree) (single : Bool) (w : Where) → Goes (type_spelled x single w)
    go_type (type_tree n range) single w = go_ranged (go_facing (go_node n single w))

    go_node : (n : TypeNode) (single : Bool) (w : Where) → Goes (node n single w)
    go_node (paren x) single w = go_group w Paren (λ v. type_spelled x false v)
    go_node (tuple xs u) single w = go_provided (λ e. go_group w Paren (λ v. types xs u v))
    go_node (slice x) single w = go_group w Bracket (λ v. type_spelled x false v)
    go_node (array x o) single w = go_group w Bracket _
    go_node (reference l b x) single w =
        go_then (go_punct w 38 refl)
        (go_then (go_perhaps l kept_lifetime (λ k. go_token (deeper w) (t.Lifetime k) (λ o e. e)))
        (go_then (go_flag b (kept_word (codes "mut")) (go_word (deeper w) (codes "mut"))) (go_type x true (deeper w))))
    go_node (pointer true x) single w =
        go_then (go_punct w 42 refl) (go_then (go_word (deeper w) (codes "mut")) (go_type x true (deeper w)))
    go_node (pointer false x) single w =
        go_then (go_punct w 42 refl) (go_then (go_word (deeper w) (codes "const")) (go_type x true (deeper w)))
    go_node (bare_fn f) single w = go_function f w
    go_node (trait_object bs u) single w =
        go_provided (λ e. go_then (go_word w (codes "dyn")) (go_some_bounds bs single (deeper w)))
    go_node (impl_trait bs u) single w =
        go_provided (λ e. go_then (go_word w (codes "impl")) (go_some_bounds bs single (deeper w)))
    go_node infer single w = go_word w (codes "_")
    go_node never single w = go_punct w 33 refl
    go_node (path no_self p) single w = go_path p w
    go_node (path (some_self x n) (path_tree b ss)) single w =
        go_then (go_punct w 60 refl)
        (go_then (go_type x false (deeper w)) (go_qualified ss n b w (λ k. go_trait_segments ss k w) (go_some_left ss w)))
    go_node (macro_type p d o) single w = go_then (go_plain w p) (go_then (go_punct w 33 refl) (go_group w d (kept o)))

    go_output : (x : MaybeType) (w inner : Where) → Goes (output x w inner)
    go_output no_type w inner = go_absent kept_arrow
    go_output (some_type x) w inner = go_then (go_arrow w) (go_type x true inner)

    go_function : (f : FnTree) (w : Where) → Goes (function f w)
    go_function (fn_tree ls b abi is u out) w =
        go_then (go_for w ls)
        (go_then (go_flag b (kept_word (codes "unsafe")) (go_word w (codes "unsafe")))
        (go_then
        (go_perhaps abi (kept_word (codes "extern"))
        (λ called.
        go_then (go_word w (codes "extern")) (go_perhaps called kept_literal (λ l. go_token w (t.Literal l) (λ o e. e)))))
        (go_then (go_word w (codes "fn"))
        (go_then (go_group (deeper w) Paren (λ v. inputs is u v)) (go_output out (deeper w) (deeper w))))))

    -- ---- bounds

    go_bound : (b : BoundTree) (w : Where) → Goes (bound b w)
    go_bound (outlives l) w = go_token w (t.Lifetime l) (λ o e. e)
    go_bound (implements b) w = go_trait b w

    go_trait : (b : TraitBoundTree) (w : Where) → Goes (trait_bound_spelled b w)
    go_trait (trait_bound true maybe ls p) w = go_group w Paren _
    go_trait (trait_bound false maybe ls p) w =
        go_then (go_flag maybe (kept_sees 63 refl) (go_punct w 63 refl)) (go_then (go_for w ls) (go_path p w))

    go_some_bounds : (bs : BoundTrees) (single : Bool) (w : Where) → Goes (some_bounds bs single w)
    go_some_bounds no_bounds single w = go_provided (λ e. absurd e)
    go_some_bounds (bound_then b bs) single w = go_then (go_bound b w) (go_more_bounds bs single w)

    go_more_bounds : (bs : BoundTrees) (single : Bool) (w : Where) → Goes (more_bounds bs single w)
    go_more_bounds no_bounds true w = go_where (λ o e c h. refl) go_nothing
    go_more_bounds no_bounds false w = go_where (λ o e c h. unseen 43 refl o h) go_nothing
    go_more_bounds (bound_then b bs) single w =
        go_provided (λ e. go_then (go_punct w 43 refl) (go_then (go_bound b w) (go_more_bounds bs single w)))

    go_bounds : (bs : BoundTrees) (u : Bool) (w : Where) → Goes (bounds bs u w)
    go_bounds no_bounds u w = go_none w 43 ends_bounds refl refl bounds_over u
    go_bounds (bound_then b bs) u w = go_then (go_bound b w) (go_bounds_left bs u w)

    go_bounds_left : (bs : BoundTrees) (u : Bool) (w : Where) → Goes (bounds_left bs u w)
    go_bounds_left no_bounds u w = go_last w 43 ends_bounds refl refl bounds_over u
    go_bounds_left (bound_then b bs) u w = go_then (go_punct w 43 refl) (go_then (go_bound b w) (go_bounds_left bs u w))

    -- ---- paths

    go_path : (p : PathTree) (w : Where) → Goes (path_spelled p w)
    go_path (path_tree b ss) w = go_then (go_flag b kept_colons (go_colons w)) (go_segments ss w)

    go_segments : (ss : SegmentTrees) (w : Where) → Goes (segments ss w)
    go_segments no_segments w = go_provided (λ e. absurd e)
    go_segments (segment_then x ss) w = go_then (go_segment x w) (go_segments_left ss w)

    go_segments_left : (ss : SegmentTrees) (w : Where) → Goes (segments_left ss w)
    go_segments_left no_segments w = go_absent kept_colons
    go_segments_left (segment_then x ss) w = go_then (go_colons w) (go_then (go_segment x w) (go_segments_left ss w))

    go_some_left : (ss : SegmentTrees) (w : Where) → Goes (some_segments_left ss w)
    go_some_left no_segments w = go_provided (λ e. absurd e)
    go_some_left (segment_then x ss) w = go_then (go_colons w) (go_then (go_segment x w) (go_segments_left ss w))

    go_trait_segments : (ss : SegmentTrees) (n : ℕ) (w : Where) → Goes (trait_segments n ss w)
    go_trait_segments no_segments zero w = go_provided (λ e. absurd e)
    go_trait_segments no_segments (suc n) w = go_provided (λ e. absurd e)
    go_trait_segments (segment_then x ss) zero w =
        go_then (go_segment x (deeper w)) (go_then (go_punct w 62 refl) (go_some_left ss w))
    go_trait_segments (segment_then x ss) (suc n) w =
        go_then (go_segment x (deeper w)) (go_then (go_colons (deeper w)) (go_trait_segments ss n w))

    go_segment : (x : SegmentTree) (w : Where) → Goes (segment_spelled x w)
    go_segment (segment i a) w = go_then (go_provided (λ e. go_ident w i)) (go_arguments_of a w)

    go_arguments_of : (a : ArgumentsTree) (w : Where) → Goes (arguments_of_segment a w)
    go_arguments_of absent w = go_absent kept_arguments
    go_arguments_of (angle b gs u) w =
        go_then (go_flag b kept_colons (go_colons w)) (go_angles w (λ v. arguments gs u v) (λ v. go_arguments gs u v))
    go_arguments_of (parens xs u out) w = go_then (go_group w Paren (λ v. types xs u v)) (go_output out w (deeper w))

    go_arguments : (gs : ArgumentTrees) (u : Bool) (w : Where) → GoesIf Follows (arguments gs u w)
    go_arguments no_arguments u w = go_if Follows (go_none w 44 (sees 62) refl refl angle_over u)
    go_arguments (argument_then g gs) u w =
        go_before (λ mid others m s c. arguments_follow gs u w mid others m s c) (go_argument g w) (go_arguments_left gs u w)

    go_arguments_left : (gs : ArgumentTrees) (u : Bool) (w : Where) → GoesIf Follows (arguments_left gs u w)
    go_arguments_left no_arguments u w = go_if Follows (go_last w 44 (sees 62) refl refl angle_over u)
    go_arguments_left (argument_then g gs) u w =
        go_then (go_punct w 44 refl)
        (go_before (λ mid others m s c. arguments_follow gs u w mid others m s c) (go_argument g w) (go_arguments_left gs u w))

    go_maybe_angled : (gs : MaybeArguments) (w : Where) → Goes (maybe_angled gs w)
    go_maybe_angled arguments_absent w = go_nothing
    go_maybe_angled (some_arguments gs u) w = go_angles w (λ v. arguments gs u v) (λ v. go_arguments gs u v)

    go_argument : (g : ArgumentTree) (w : Where) → GoesIf Follows (argument g w)
    go_argument (lifetime_arg l) w = go_if Follows (go_token w (t.Lifetime l) (λ o e. e))
    go_argument (type_arg x) w = go_where (λ o e c h. no_binding o c h) (go_if Follows (go_type x false w))
    go_argument (const_arg c) w = go_if Follows (go_constant_argument c w)
    go_argument (assoc_type i gs x) w =
        go_then (go_provided (λ e. go_ident w i))
        (go_then (go_maybe_angled gs w) (go_then (go_equals w) (go_if Follows (go_type x false w))))
    go_argument (assoc_const i gs c) w =
        go_then (go_provided (λ e. go_ident w i))
        (go_then (go_maybe_angled gs w) (go_then (go_equals w) (go_if Follows (go_constant_argument c w))))
    go_argument (constraint i gs bs u) w =
        go_then (go_provided (λ e. go_ident w i))
        (go_then (go_maybe_angled gs w)
        (go_before (λ mid others m s c. bounds_follow bs u w mid others m s c) (go_colon w) (go_if Follows (go_bounds bs u w))))
