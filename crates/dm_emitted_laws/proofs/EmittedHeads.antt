-- The heads of the implementations that operators and `PartialEq` emit are of the grammar.
use Rattle.std.proofs.Common.{◌≡◌, ℕ, zero, suc, Bool, true, false, not, ◌&&◌, ◌||◌, cond, nat_eq, List, [], ◌∷◌, ◌++◌, map, codes, Option, Some, None, IsTrue, refl, sym, ap, ap₂, ◌∙◌, subst, append-nil, arith}
use Rattle.std.proofs.lemmas.Bool.{or_parts, or_from, not_from_false, not-true}
use Rattle.dm_stream.specs.declared.tokens.Delim.TheVariants.{Paren, Bracket, Brace}
use Rattle.dm_stream.specs.declared.tokens.Ident.{Ident}
use Rattle.dm_stream.specs.declared.tokens.Spacing.TheVariants.{Alone}
use Rattle.dm_stream.specs.declared.tokens.Token.TheVariants as t
use Rattle.dm_stream.specs.Layout.{nowhere}
use Rattle.dm_stream.specs.Trees.{Trees, no_trees, token, group, join, join-no_trees}
use Rattle.dm_ast.specs.declared.plain.ConstArg.{ConstArg}
use Rattle.dm_ast.specs.declared.plain.ConstArg.TheVariants as constant
use Rattle.dm_ast.specs.declared.plain.PlainPath.{PlainPath}
use Rattle.dm_ast.specs.Keywords.{is_name, is_keyword}
use Rattle.dm_ast.specs.Tree.{Lifetimes, TypeTree, type_tree, TypeNode, paren, tuple, slice, array, reference, pointer, bare_fn, trait_object, impl_trait, infer, never, path, macro_type, MaybeType, no_type, some_type, no_self, some_self, BoundTree, outlives, implements, BoundTrees, no_bounds, bound_then, bounds_of, TraitBoundTree, trait_bound, FnTree, fn_tree, PathTree, path_tree, segments_of, SegmentTree, segment, SegmentTrees, no_segments, segment_then, ArgumentsTree, absent, angle, parens, ArgumentTree, lifetime_arg, type_arg, const_arg, assoc_type, assoc_const, constraint, ArgumentTrees, no_arguments, argument_then, MaybeArguments, arguments_absent, some_arguments}
use Rattle.dm_ast.specs.TypeTokens as spell
use Rattle.dm_ast.specs.Declarations as declared
use Rattle.dm_ast.specs.Declarations.{ParamTree, lifetime_param, type_param, const_param, GenericsTree, ShapeTree, struct_shape, enum_shape, union_shape, Declaration}
use Rattle.dm_ast.specs.Spelling.{Where, deeper, Marks, Spelling, first_too_deep, range_of, at_end, is_joint, one_of, sees, sees_one, sees_pair, sees_word, sees_lifetime, sees_literal, sees_group, sees_colons, sees_arrow, sees_colon, sees_equals, ◌then◌, ident, lifetime, punct, colons, colon, LoneAt, perhaps, repeated, chain, items}
use Rattle.dm_ast.specs.TypeGrammar as grammar
use Rattle.dm_ast.specs.TypeGrammar.{name, is_path_word, sees_path_word, sees_turbofish, sees_arguments, sees_bound, ends_bounds, behind_colons, behind_idents, behind_first, is_call, sees_macro, types, inputs, kept, for_lifetimes, type_spelled, node, output, function, bound, trait_bound_spelled, some_bounds, more_bounds, bounds, bounds_left, path_spelled, segments_left, qualified, trait_segments, some_segments_left, segment_spelled, arguments_of_segment, arguments_left, argument, maybe_angled, constant_spelled, constant_argument}
use Rattle.dm_ast.specs.DeclarationGrammar.{bound_list, param, generics, shape, declaration}
use Rattle.dm_ast.specs.Runs.{run}
use Rattle.dm_ast.specs.Parsed.{SpelledBy}
use Rattle.dm_ast.specs.Implementors.{plain_path, bare, params_of, predicates_of}
use Rattle.dm_output.specs.Output.{MethodTree}
use Rattle.dm_output.specs.Tokens.{maybe_bounds_trees, param_trees}
use Rattle.dm_generics.specs.Words.{word, words, plain_segments}
use Rattle.dm_generics.specs.Lists.{separated, items_in}
use Rattle.dm_generics.specs.Bounds as operator_bounds
use Rattle.dm_generics.specs.Bounds.{op_output}
use Rattle.dm_generics.specs.Additions.{bounded}
use Rattle.dm_type_eq.specs.Unplaced.{unplaced_bound, unplaced_bounds, unplaced_ident, unplaced_path, unplaced_type}
use Rattle.dm_reread.specs.Bare.{bare_listed, bare_param, bare_predicate, bare_item}
use Rattle.dm_reread.specs.Items.{head_of}
use Rattle.dm_reread.specs.HeadLeaves.{is_plain, is_lifetime, are_plain, IsHead}
use Rattle.dm_reread.specs.TypeLeaves.{top}
use Rattle.dm_type_eq.proofs.Cutting.{and_kept, are_colons, unseen_sees}
use Rattle.dm_type_eq.proofs.Respelling.{Lower, RespellsIf, respells_then, respells_flag, plain, respells_punct, respells_for}
use Rattle.dm_type_eq.proofs.RespelledTypes.{again_type, again_bounds}
use Rattle.dm_reread.proofs.TypeLeafEnds.{stop_end}
use Rattle.dm_reread.proofs.TypeLeafParts.{Listed, ExtendsIf, Extends, ext_before, ext_then, ext_if, ext_nothing, ext_where, ext_facing, ext_provided, ext_ranged, ext_absent, ext_flag, ext_perhaps, ext_token, ext_punct, ext_word, ext_pair, ext_lone, ext_group, ext_angles, Ends, angle_over, ext_none, ext_last, last_before, ext_items, listed_punct}
use Rattle.dm_reread.proofs.TypeLeafCalls.{idents_stay, no_mark, Calm, calm_listed, uncalled_path}
use Rattle.dm_reread.proofs.HeadLeaf.{first_within}
use Rattle.dm_attr.specs.Skips.{is_skipped}
use Rattle.dm_operands.specs.Marked.{marked}
use Rattle.dm_bounds.specs.Needed.{needing, needed_by}
use Rattle.dm_head_laws.specs.Parts as parts
use Rattle.dm_head_laws.specs.Parts.{inner, ParamAlone, PredicateAlone, TypeAlone, Each}
use Rattle.dm_head_laws.proofs.HeadParts.{Stands, stands_as, stands_then, none_stands, punct_stands, colon_stands, head_from_parts}
use Rattle.dm_head_laws.proofs.DeclaredParts.{From, first_from, rest_from, each_both, each_param, each_declared, spelled_alone, declared_params, plain_params, declared_predicates, implementor_alone}
use Rattle.dm_derived_laws.proofs.BeforeColon.{Follows}
use Rattle.dm_derived_laws.proofs.NeededAlone.{PathAlone, calls_for, bounded_alone, EachField, both_fields, needed_declared}
use Rattle.dm_derived_laws.proofs.WordsAlone.{InnerAlone, ArgumentsAlone, words_alone, ending_alone}
use Rattle.dm_derived_laws.proofs.DeclaredInner.{needed_declared_inner}
use Rattle.dm_operators.specs.Operators.{Form, structural, scalar, unary, Operator}
use Rattle.dm_operators.specs.Attributes.{skips, cases_for, form_in}
use Rattle.dm_bounds.specs.RightSide.{right_type, right_param, right_copies}
use Rattle.dm_operators.specs.Predicates.{angled, right_argument, implemented, asked, asking, copies_right, copied, needed_in}
use Rattle.dm_operators.specs.Heads.{item_params}
use Rattle.dm_operators.specs.Implementations.{item_with}
use Rattle.dm_partial_eq.specs.Heads.{partial_eq_path}
use Rattle.dm_partial_eq.specs.Emitted.{with_methods}
use Rattle.dm_emitted_laws.specs.Parts.{OperatorNamed}
use Rattle.dm_head_laws.proofs.NamedTypes.{written_alone, written_stands, written_then, written_absent, written_name, written_name_type}
use Rattle.dm_emitted_laws.proofs.EmittedTypes.{written_ending, right_written}

-- ---- lists

-- what holds of the images of two lists holds of those of both
each_joined : {A B : Type 0} (P : B → Type 0) (f : A → B) (xs ys : List A) → Each P (map f xs) → Each P (map f ys) →
    Each P (map f (xs ++ ys))
each_joined P f [] ys h k = k
each_joined P f (x ∷ xs) ys h k = (h.0, each_joined P f xs ys h.1 k)

-- no field calls a macro `for!`, so none of which a predicate is asked does
module _ (asks : TypeTree → Bool) (d : Declaration) where
  asked_plain : EachField (λ x. calls_for x ≡ false) d → EachField (λ x. asks x ≡ true → calls_for x ≡ false) d
  asked_plain h = both_fields {R = λ x. asks x ≡ true → calls_for x ≡ false} (λ x k l e. k) d h h

-- ---- `PartialEq`

partial_eq_alone : PathAlone partial_eq_path
unfolding is_keyword
partial_eq_alone =
    words_alone (word (codes "derive_more")) (words (codes "core" ∷ codes "cmp" ∷ codes "PartialEq" ∷ []))
    (refl, (refl, (refl, (refl, tt))))

module _ (d : Declaration) (limit : ℕ) (ts : Trees) (m : Marks) (s : SpelledBy d limit ts m) (within : first_too_deep m ≡ None) where
  -- with any methods
  pub comparison_head : EachField (λ x. calls_for x ≡ false) d → (methods : List MethodTree) →
      IsHead (head_of (bare_item (with_methods d (marked is_skipped d) methods)))
  comparison_head plain methods =
      head_from_parts (head_of (bare_item (with_methods d (marked is_skipped d) methods))) (declared_params d limit ts m s within)
      (plain_params d) partial_eq_alone (implementor_alone d limit ts m s within)
      (each_joined PredicateAlone bare_predicate (predicates_of d) _ (declared_predicates d limit ts m s within)
      (needed_declared d limit ts m s within (needing partial_eq_path) is_skipped (λ x h. partial_eq_alone) (asked_plain _ d plain)))
      (λ e f. absurd (cc))

-- ---- operators: the traits

-- derive_more::core::ops
abbrev ops_words : List (List ℕ)
ops_words = codes "derive_more" ∷ codes "core" ∷ codes "ops" ∷ []

abbrev Named : List (List ℕ) → Type 0
Named ls = Each (λ l. IsTrue (is_path_word (word l))) ls

ops_named : Named ops_words
unfolding is_keyword
ops_named = (refl, (refl, (refl, tt)))

-- its name is a word of a path
abbrev TraitNamed : Operator → Type 0
TraitNamed o = IsTrue (is_path_word (word o.trait_name))

-- the parameter that stands for any right side
right_inner : InnerAlone (unplaced_type right_type)
right_inner =
    written_alone (type_spelled (unplaced_type right_type) false) inner (spell.type_trees (unplaced_type right_type))
    (right_written inner refl refl)

implemented_arguments : (form : Form) → ArgumentsAlone (angled (right_argument form))
implemented_arguments structural = tt
implemented_arguments scalar = (right_inner, tt)
implemented_arguments unary = tt

implemented_alone : (form : Form) (o : Operator) → TraitNamed o → PathAlone (implemented form o)
implemented_alone form o n =
    ending_alone ops_words ops_named (word o.trait_name) n (angled (right_argument form)) (implemented_arguments form)

-- `Output = T`, where there is an output
abbrev output_if : Bool → TypeTree → List ArgumentTree
output_if b x = cond b [] (assoc_type (word (codes "Output")) arguments_absent x ∷ [])

asked_arguments : (form : Form) (b : Bool) (x : TypeTree) → InnerAlone (unplaced_type x) →
    ArgumentsAlone (angled (right_argument form ++ output_if b x))
unfolding is_keyword
asked_arguments structural true x h = tt
asked_arguments structural false x h = ((refl, h), tt)
asked_arguments scalar true x h = (right_inner, tt)
asked_arguments scalar false x h = (right_inner, ((refl, h), tt))
asked_arguments unary true x h = tt
asked_arguments unary false x h = ((refl, h), tt)

asked_alone : (form : Form) (o : Operator) → TraitNamed o → (x : TypeTree) → InnerAlone (unplaced_type x) →
    PathAlone (asked form o x)
asked_alone form o n x h =
    ending_alone ops_words ops_named (word o.trait_name) n (angled (right_argument form ++ output_if o.assigning x))
    (asked_arguments form o.assigning x h)

-- ---- operators: the predicates

-- derive_more::core::marker::Copy
abbrev copy_path : PathTree
copy_path = plain_path (words (codes "derive_more" ∷ codes "core" ∷ codes "marker" ∷ codes "Copy" ∷ []))

copy_alone : PathAlone copy_path
unfolding is_keyword
copy_alone =
    words_alone (word (codes "derive_more")) (words (codes "core" ∷ codes "marker" ∷ codes "Copy" ∷ []))
    (refl, (refl, (refl, (refl, tt))))

right_alone : TypeAlone (unplaced_type right_type)
right_alone =
    written_alone (type_spelled (unplaced_type right_type) false) top (spell.type_trees (unplaced_type right_type)) (right_written top refl refl)

copies_if : (b : Bool) → Each PredicateAlone (map bare_predicate (cond b (right_copies ∷ []) []))
copies_if true = (bounded_alone copy_path right_type copy_alone right_alone refl, tt)
copies_if false = tt

-- ---- before a `+`: what is spelled before other trees is spelled before them also where a lone `+` stands behind these

-- a lone `+`, and more
abbrev plus_before : Trees → Trees
plus_before more = token (t.Punct (record { ch = 43; spacing = Alone; span = nowhere })) more

and_false : (b : Bool) → (b && false) ≡ false
and_false true = refl
and_false false = refl

-- as in dm_read/proofs/MacroSeeing
no_colons : (ts : Trees) → sees_colons ts ≡ false → behind_colons ts ≡ ts
no_colons (token (t.Punct a) (token (t.Punct b) ts)) e = ap (λ x. cond x ts (token (t.Punct a) (token (t.Punct b) ts))) e
no_colons _ e = refl

either_false : {a b c d : Bool} → (a ≡ false → c ≡ false) → (b ≡ false → d ≡ false) → (a || b) ≡ false → (c || d) ≡ false
either_false {a} {b} {c} {d} f g h = let e = or_parts a b h in or_from c d (f e.0) (g e.1)

listed_follows : (ts : Trees) → Listed ts → Follows ts
listed_follows no_trees h = absurd (cc)
listed_follows (token k ts) h = refl
listed_follows (group d f us g ts) h = refl

punct_follows : {w : Where} {c : ℕ} (ts others : Trees) (m : Marks) → punct w c ts others m → Follows ts
punct_follows ts others m s = ap at_end s.there.spelled

-- behind the type of a qualified path
qualified_follows : (n : ℕ) (p : PathTree) (w : Where) (ts others : Trees) (m : Marks) → qualified n p w ts others m → Follows ts
qualified_follows zero (path_tree b ss) w ts others m s = ap at_end s.part.first.there.spelled
qualified_follows (suc n) (path_tree b ss) w ts others m s = ap at_end s.first.there.spelled

-- a type that takes all bounds that follow stands before something
abbrev Held : Bool → Trees → Type 0
Held true ts = Unit {0}
Held false ts = Follows ts

module _ (more : Trees) where
  abbrev rest : Trees
  rest = plus_before more

  -- ---- tests that aren't met where they weren't

  abbrev Kept : (Trees → Bool) → Type 0
  Kept test = (ts : Trees) → test ts ≡ false → test (join ts rest) ≡ false

  kept_sees : (c : ℕ) → nat_eq 43 c ≡ false → Kept (sees c)
  kept_sees c k no_trees h = k
  kept_sees c k (token (t.Punct p) ts) h = h
  kept_sees c k _ h = refl

  kept_plus : (ts : Trees) → Follows ts → sees 43 ts ≡ false → sees 43 (join ts rest) ≡ false
  kept_plus no_trees k h = absurd (cc)
  kept_plus (token (t.Punct p) ts) k h = h
  kept_plus _ k h = refl

  kept_word : (l : List ℕ) → Kept (sees_word l)
  kept_word l (token (t.Ident i) ts) h = h
  kept_word l _ h = refl

  kept_lifetime : Kept sees_lifetime
  kept_lifetime (token (t.Lifetime l) ts) h = h
  kept_lifetime _ h = refl

  kept_literal : Kept sees_literal
  kept_literal (token (t.Literal l) ts) h = h
  kept_literal _ h = refl

  kept_path_word : Kept sees_path_word
  kept_path_word (token (t.Ident i) ts) h = h
  kept_path_word _ h = refl

  kept_parens : Kept (sees_group Paren)
  kept_parens (group d f us g ts) h = h
  kept_parens _ h = refl

  kept_pair : (a b : ℕ) → nat_eq 43 a ≡ false → nat_eq 43 b ≡ false → Kept (sees_pair a b)
  kept_pair a b k l no_trees h = ap (λ x. (x && false) && sees b more) k
  kept_pair a b k l (token (t.Punct p) ts) h =
      and_kept (nat_eq p.ch a && is_joint p.spacing) (sees b ts) (sees b (join ts rest)) (kept_sees b l ts) h
  kept_pair a b k l _ h = refl

  kept_colons : Kept sees_colons
  kept_colons = kept_pair 58 58 refl refl

  kept_arrow : Kept sees_arrow
  kept_arrow = kept_pair 45 62 refl refl

  kept_turbofish : Kept sees_turbofish
  kept_turbofish no_trees h = refl
  kept_turbofish (token (t.Punct p) no_trees) h =
      ap (λ b. b && sees 60 (behind_colons (token (t.Punct p) rest))) (and_false (nat_eq p.ch 58 && is_joint p.spacing))
  kept_turbofish (token (t.Punct p) (token (t.Punct q) ts)) h = by (are_colons p.ch p.spacing q.ch) h
    where
      by : (b : Bool) → (b && sees 60 (cond b ts (token (t.Punct p) (token (t.Punct q) ts)))) ≡ false →
          (b && sees 60 (cond b (join ts rest) (token (t.Punct p) (token (t.Punct q) (join ts rest))))) ≡ false
      by true h = kept_sees 60 refl ts h
      by false h = refl
  kept_turbofish (token (t.Punct p) _) h = h
  kept_turbofish _ h = refl

  kept_arguments : Kept sees_arguments
  kept_arguments ts h = either_false (either_false (kept_sees 60 refl ts) (kept_turbofish ts)) (kept_parens ts) h

  kept_bound : Kept sees_bound
  kept_bound ts h =
      either_false
      (either_false
      (either_false (either_false (either_false (kept_lifetime ts) (kept_sees 63 refl ts)) (kept_parens ts)) (kept_word (codes "for") ts))
      (kept_colons ts))
      (kept_path_word ts) h

  -- a list of bounds ends as it did
  bounds_over : (ts : Trees) → ends_bounds ts ≡ true → ends_bounds (join ts rest) ≡ true
  bounds_over ts h = not_from_false (sees_bound (join ts rest)) (kept_bound ts (not-true (sees_bound ts) h))

  same_one : (cs : List ℕ) → one_of cs 43 ≡ false → (ts : Trees) → sees_one cs (join ts rest) ≡ sees_one cs ts
  same_one cs k no_trees = k
  same_one cs k (token (t.Punct p) ts) = refl
  same_one cs k _ = refl

  -- a type in a list makes no binding
  kept_binding : Kept (λ ts. sees_equals ts || sees_colon ts)
  kept_binding no_trees h = refl
  kept_binding (token (t.Punct p) ts) h =
      ap₂ (λ x y. (nat_eq p.ch 61 && not (is_joint p.spacing && x)) || (nat_eq p.ch 58 && not (is_joint p.spacing && y)))
      (same_one (61 ∷ 62 ∷ []) refl ts) (same_one (58 ∷ []) refl ts) ∙
      h
  kept_binding _ h = refl

  -- a macro call comes next as it did
  same_call : (ts : Trees) → is_call (Some (behind_idents (join ts rest))) ≡ is_call (Some (behind_idents ts))
  same_call no_trees =
      ap (λ x. is_call (Some x)) (idents_stay rest refl) ∙ no_mark (record { ch = 43; spacing = Alone; span = nowhere }) more refl
  same_call (token (t.Punct a) no_trees) =
      ap (λ x. is_call (Some x)) (idents_stay (token (t.Punct a) rest) (and_false (nat_eq a.ch 58 && is_joint a.spacing)))
  same_call (token (t.Punct a) (token (t.Punct b) (token (t.Ident i) ts))) = by (are_colons a.ch a.spacing b.ch) (same_call ts)
    where
      front : Trees → Trees
      front us = token (t.Punct a) (token (t.Punct b) (token (t.Ident i) us))

      by : (x : Bool) → is_call (Some (behind_idents (join ts rest))) ≡ is_call (Some (behind_idents ts)) →
          is_call (Some (cond x (behind_idents (join ts rest)) (front (join ts rest)))) ≡
          is_call (Some (cond x (behind_idents ts) (front ts)))
      by true k = k
      by false k = refl
  same_call (token (t.Punct a) (token (t.Punct b) no_trees)) = refl
  same_call (token (t.Punct a) (token (t.Punct b) (token (t.Punct c) ts))) = refl
  same_call (token (t.Punct a) (token (t.Punct b) _)) = refl
  same_call (token (t.Punct a) _) = refl
  same_call _ = refl

  same_first : (ts : Trees) → is_call (behind_first (join ts rest)) ≡ is_call (behind_first ts)
  same_first (token (t.Ident i) ts) = same_call ts
  same_first _ = refl

  same_macro : (ts : Trees) → sees_macro (join ts rest) ≡ sees_macro ts
  same_macro no_trees = ap (λ x. is_call (behind_first x)) (no_colons rest refl)
  same_macro (token (t.Punct a) no_trees) =
      ap (λ x. is_call (behind_first x)) (no_colons (token (t.Punct a) rest) (and_false (nat_eq a.ch 58 && is_joint a.spacing)))
  same_macro (token (t.Punct a) (token (t.Punct b) ts)) = by (are_colons a.ch a.spacing b.ch)
    where
      front : Trees → Trees
      front us = token (t.Punct a) (token (t.Punct b) us)

      by : (x : Bool) → is_call (behind_first (cond x (join ts rest) (front (join ts rest)))) ≡
          is_call (behind_first (cond x ts (front ts)))
      by true = same_first ts
      by false = refl
  same_macro (token (t.Punct a) _) = refl
  same_macro (token (t.Ident i) ts) = same_call ts
  same_macro _ = refl

  -- ---- parts

  go_lone : (w : Where) (c : ℕ) (stops : List ℕ) → one_of stops 43 ≡ false → Extends rest (LoneAt w c stops)
  go_lone w c stops k = ext_lone rest w c stops (λ others g b e. ap (λ x. b && x) (same_one stops k others) ∙ e)

  go_for : (w : Where) (ls : Lifetimes) → Extends rest (for_lifetimes w ls)
  go_for w None = ext_absent rest (kept_word (codes "for"))
  go_for w (Some ls) =
      ext_then rest (ext_word rest w (codes "for"))
      (ext_angles rest w (λ v. items v 44 (sees 62) (lifetime v) ls.items ls.trailing)
      (λ v.
      ext_items rest Listed v 44 (sees 62) (angle_over rest v) (lifetime v) (λ x. ext_if rest _ (ext_token rest v (t.Lifetime x)))
      ls.items ls.trailing))

  go_names : (w : Where) (names : List Ident) → Extends rest (repeated sees_colons (λ i. colons w then ident w i) names)
  go_names w [] = ext_absent rest kept_colons
  go_names w (i ∷ names) = ext_then rest (ext_then rest (ext_pair rest w 58 58) (ext_token rest w (t.Ident i))) (go_names w names)

  go_chain : (w : Where) (names : List Ident) → Extends rest (chain (colons w) sees_colons (ident w) names)
  go_chain w [] = ext_provided rest (λ e. absurd e)
  go_chain w (i ∷ names) = ext_then rest (ext_token rest w (t.Ident i)) (go_names w names)

  go_plain : (w : Where) (p : PlainPath) → Extends rest (grammar.plain_path w p)
  go_plain w p = ext_then rest (ext_flag rest p.leading_colon kept_colons (ext_pair rest w 58 58)) (go_chain w p.segments)

  go_constant : (c : ConstArg) (w : Where) → Extends rest (constant_spelled w c)
  go_constant (constant.Literal minus l) w =
      ext_then rest (ext_flag rest minus (kept_sees 45 refl) (ext_punct rest w 45)) (ext_token rest w (t.Literal l))
  go_constant (constant.Bool i) w = ext_provided rest (λ e. ext_token rest w (t.Ident i))
  go_constant (constant.Block o) w = ext_group rest w Brace (kept o)
  go_constant (constant.Name i) w = ext_provided rest (λ e. ext_token rest w (t.Ident i))

  go_constant_argument : (c : ConstArg) (w : Where) → Extends rest (constant_argument c w)
  go_constant_argument c w = ext_facing rest (λ ts others m s g e. same_macro ts ∙ e) (ext_provided rest (λ e. go_constant c w))

  -- behind the type of a qualified path, by what is known of the segments
  go_qualified : (ss : SegmentTrees) (n : ℕ) (b : Bool) (w : Where) → ((k : ℕ) → Extends rest (trait_segments k ss w)) →
      Extends rest (some_segments_left ss w) → Extends rest (qualified n (path_tree b ss) w)
  go_qualified ss zero b w first later = ext_provided rest (λ e. ext_then rest (ext_punct rest w 62) later)
  go_qualified ss (suc n) b w first later =
      ext_then rest (ext_word rest (deeper w) (codes "as"))
      (ext_then rest (ext_flag rest b kept_colons (ext_pair rest (deeper w) 58 58)) (first n))

  bounds_follow : (w : Where) → Ends rest Follows w 43 ends_bounds
  bounds_follow w =
      record {
        apart = λ ts g e. kept_plus ts g e;
        ends = λ ts g e. bounds_over ts e;
        before = λ ts others m s. punct_follows ts others m s;
      }

  before_arguments : (gs : ArgumentTrees) (u : Bool) (w : Where) (ts others : Trees) (m : Marks) → arguments_left gs u w ts others m →
      Listed others →
      Listed ts
  before_arguments no_arguments u w ts others m s g = last_before rest Listed w 44 (sees 62) (angle_over rest w) u ts others m s g
  before_arguments (argument_then a gs) u w ts others m s g = listed_punct rest refl ts s.middle s.first_marks s.first

  -- a type between `<` and `>`
  as_item : {S : Spelling} → ExtendsIf rest Follows S → ExtendsIf rest Listed S
  as_item f ts others m s c = f ts others m s (listed_follows others c)

  go_name : (w : Where) (i : Ident) → Extends rest (name w i)
  go_name w i = ext_provided rest (λ e. ext_token rest w (t.Ident i))

  -- ---- types

  mutual
    go_type : (x : TypeTree) (single : Bool) (w : Where) → ExtendsIf rest (Held single) (type_spelled x single w)
    go_type (type_tree n range) single w =
        ext_ranged rest (ext_facing rest (λ ts others m s c e. same_macro ts ∙ e) (go_node n single w))

    go_node : (n : TypeNode) (single : Bool) (w : Where) → ExtendsIf rest (Held single) (node n single w)
    go_node (paren x) single w = ext_if rest _ (ext_group rest w Paren (λ v. type_spelled x false v))
    go_node (tuple xs u) single w = ext_provided rest (λ e. ext_if rest _ (ext_group rest w Paren (λ v. types xs u v)))
    go_node (slice x) single w = ext_if rest _ (ext_group rest w Bracket (λ v. type_spelled x false v))
    go_node (array x o) single w = ext_if rest _ (ext_group rest w Bracket _)
    go_node (reference l b x) single w =
        ext_if rest _
        (ext_then rest (ext_punct rest w 38)
        (ext_then rest (ext_perhaps rest l kept_lifetime (λ k. ext_token rest (deeper w) (t.Lifetime k)))
        (ext_then rest (ext_flag rest b (kept_word (codes "mut")) (ext_word rest (deeper w) (codes "mut"))) (go_type x true (deeper w)))))
    go_node (pointer true x) single w =
        ext_if rest _
        (ext_then rest (ext_punct rest w 42) (ext_then rest (ext_word rest (deeper w) (codes "mut")) (go_type x true (deeper w))))
    go_node (pointer false x) single w =
        ext_if rest _
        (ext_then rest (ext_punct rest w 42) (ext_then rest (ext_word rest (deeper w) (codes "const")) (go_type x true (deeper w))))
    go_node (bare_fn f) single w = ext_if rest _ (go_function f w)
    go_node (trait_object bs u) single w =
        ext_provided rest (λ e. ext_then rest (ext_word rest w (codes "dyn")) (go_some_bounds bs single (deeper w)))
    go_node (impl_trait bs u) single w =
        ext_provided rest (λ e. ext_then rest (ext_word rest w (codes "impl")) (go_some_bounds bs single (deeper w)))
    go_node infer single w = ext_if rest _ (ext_word rest w (codes "_"))
    go_node never single w = ext_if rest _ (ext_punct rest w 33)
    go_node (path no_self p) single w = ext_if rest _ (go_path p w)
    go_node (path (some_self x n) (path_tree b ss)) single w =
        ext_if rest _
        (ext_then rest (ext_punct rest w 60)
        (ext_before rest (λ mid others m s c. qualified_follows n (path_tree b ss) w mid others m s) (go_type x false (deeper w))
        (go_qualified ss n b w (λ k. go_trait_segments ss k w) (go_some_left ss w))))
    go_node (macro_type p d o) single w =
        ext_if rest _ (ext_then rest (go_plain w p) (ext_then rest (ext_punct rest w 33) (ext_group rest w d (kept o))))

    go_output : (x : MaybeType) (w v : Where) → Extends rest (output x w v)
    go_output no_type w v = ext_absent rest kept_arrow
    go_output (some_type x) w v = ext_then rest (ext_pair rest w 45 62) (go_type x true v)

    go_function : (f : FnTree) (w : Where) → Extends rest (function f w)
    go_function (fn_tree ls b abi is u out) w =
        ext_then rest (go_for w ls)
        (ext_then rest (ext_flag rest b (kept_word (codes "unsafe")) (ext_word rest w (codes "unsafe")))
        (ext_then rest
        (ext_perhaps rest abi (kept_word (codes "extern"))
        (λ called.
        ext_then rest (ext_word rest w (codes "extern")) (ext_perhaps rest called kept_literal (λ l. ext_token rest w (t.Literal l)))))
        (ext_then rest (ext_word rest w (codes "fn"))
        (ext_then rest (ext_group rest (deeper w) Paren (λ v. inputs is u v)) (go_output out (deeper w) (deeper w))))))

    -- ---- bounds

    go_bound : (b : BoundTree) (w : Where) → Extends rest (bound b w)
    go_bound (outlives l) w = ext_token rest w (t.Lifetime l)
    go_bound (implements b) w = go_trait b w

    go_trait : (b : TraitBoundTree) (w : Where) → Extends rest (trait_bound_spelled b w)
    go_trait (trait_bound true maybe ls p) w = ext_group rest w Paren _
    go_trait (trait_bound false maybe ls p) w =
        ext_then rest (ext_flag rest maybe (kept_sees 63 refl) (ext_punct rest w 63)) (ext_then rest (go_for w ls) (go_path p w))

    go_some_bounds : (bs : BoundTrees) (single : Bool) (w : Where) → ExtendsIf rest (Held single) (some_bounds bs single w)
    go_some_bounds no_bounds single w = ext_provided rest (λ e. absurd e)
    go_some_bounds (bound_then b bs) single w = ext_then rest (go_bound b w) (go_more_bounds bs single w)

    go_more_bounds : (bs : BoundTrees) (single : Bool) (w : Where) → ExtendsIf rest (Held single) (more_bounds bs single w)
    go_more_bounds no_bounds true w = ext_where rest (λ others c e. refl) (ext_nothing rest)
    go_more_bounds no_bounds false w = ext_where rest (λ others c e. kept_plus others c e) (ext_if rest _ (ext_nothing rest))
    go_more_bounds (bound_then b bs) single w =
        ext_provided rest (λ e. ext_then rest (ext_punct rest w 43) (ext_then rest (go_bound b w) (go_more_bounds bs single w)))

    go_bounds : (bs : BoundTrees) (u : Bool) (w : Where) → ExtendsIf rest Follows (bounds bs u w)
    go_bounds no_bounds u w = ext_none rest Follows w 43 ends_bounds (bounds_follow w) u
    go_bounds (bound_then b bs) u w = ext_then rest (go_bound b w) (go_bounds_left bs u w)

    go_bounds_left : (bs : BoundTrees) (u : Bool) (w : Where) → ExtendsIf rest Follows (bounds_left bs u w)
    go_bounds_left no_bounds u w = ext_last rest Follows w 43 ends_bounds (bounds_follow w) u
    go_bounds_left (bound_then b bs) u w =
        ext_then rest (ext_punct rest w 43) (ext_then rest (go_bound b w) (go_bounds_left bs u w))

    -- ---- paths

    go_path : (p : PathTree) (w : Where) → Extends rest (path_spelled p w)
    go_path (path_tree b ss) w = ext_then rest (ext_flag rest b kept_colons (ext_pair rest w 58 58)) (go_segments ss w)

    go_segments : (ss : SegmentTrees) (w : Where) → Extends rest (grammar.segments ss w)
    go_segments no_segments w = ext_provided rest (λ e. absurd e)
    go_segments (segment_then x ss) w = ext_then rest (go_segment x w) (go_segments_left ss w)

    go_segments_left : (ss : SegmentTrees) (w : Where) → Extends rest (segments_left ss w)
    go_segments_left no_segments w = ext_absent rest kept_colons
    go_segments_left (segment_then x ss) w =
        ext_then rest (ext_pair rest w 58 58) (ext_then rest (go_segment x w) (go_segments_left ss w))

    go_some_left : (ss : SegmentTrees) (w : Where) → Extends rest (some_segments_left ss w)
    go_some_left no_segments w = ext_provided rest (λ e. absurd e)
    go_some_left (segment_then x ss) w =
        ext_then rest (ext_pair rest w 58 58) (ext_then rest (go_segment x w) (go_segments_left ss w))

    go_trait_segments : (ss : SegmentTrees) (n : ℕ) (w : Where) → Extends rest (trait_segments n ss w)
    go_trait_segments no_segments zero w = ext_provided rest (λ e. absurd e)
    go_trait_segments no_segments (suc n) w = ext_provided rest (λ e. absurd e)
    go_trait_segments (segment_then x ss) zero w =
        ext_then rest (go_segment x (deeper w)) (ext_then rest (ext_punct rest w 62) (go_some_left ss w))
    go_trait_segments (segment_then x ss) (suc n) w =
        ext_then rest (go_segment x (deeper w)) (ext_then rest (ext_pair rest (deeper w) 58 58) (go_trait_segments ss n w))

    go_segment : (x : SegmentTree) (w : Where) → Extends rest (segment_spelled x w)
    go_segment (segment i a) w = ext_then rest (ext_provided rest (λ e. ext_token rest w (t.Ident i))) (go_arguments_of a w)

    go_arguments_of : (a : ArgumentsTree) (w : Where) → Extends rest (arguments_of_segment a w)
    go_arguments_of absent w = ext_absent rest kept_arguments
    go_arguments_of (angle b gs u) w =
        ext_then rest (ext_flag rest b kept_colons (ext_pair rest w 58 58))
        (ext_angles rest w (λ v. grammar.arguments gs u v) (λ v. go_arguments gs u v))
    go_arguments_of (parens xs u out) w = ext_then rest (ext_group rest w Paren (λ v. types xs u v)) (go_output out w (deeper w))

    go_arguments : (gs : ArgumentTrees) (u : Bool) (w : Where) → ExtendsIf rest Listed (grammar.arguments gs u w)
    go_arguments no_arguments u w = ext_none rest Listed w 44 (sees 62) (angle_over rest w) u
    go_arguments (argument_then g gs) u w =
        ext_before rest (λ mid others m s c. before_arguments gs u w mid others m s c) (go_argument g w) (go_arguments_left gs u w)

    go_arguments_left : (gs : ArgumentTrees) (u : Bool) (w : Where) → ExtendsIf rest Listed (arguments_left gs u w)
    go_arguments_left no_arguments u w = ext_last rest Listed w 44 (sees 62) (angle_over rest w) u
    go_arguments_left (argument_then g gs) u w =
        ext_then rest (ext_punct rest w 44)
        (ext_before rest (λ mid others m s c. before_arguments gs u w mid others m s c) (go_argument g w) (go_arguments_left gs u w))

    go_maybe_angled : (gs : MaybeArguments) (w : Where) → Extends rest (maybe_angled gs w)
    go_maybe_angled arguments_absent w = ext_nothing rest
    go_maybe_angled (some_arguments gs u) w = ext_angles rest w (λ v. grammar.arguments gs u v) (λ v. go_arguments gs u v)

    go_argument : (g : ArgumentTree) (w : Where) → ExtendsIf rest Listed (argument g w)
    go_argument (lifetime_arg l) w = ext_if rest _ (ext_token rest w (t.Lifetime l))
    go_argument (type_arg x) w = ext_where rest (λ others c e. kept_binding others e) (as_item (go_type x false w))
    go_argument (const_arg c) w = ext_if rest _ (go_constant_argument c w)
    go_argument (assoc_type i gs x) w =
        ext_then rest (go_name w i)
        (ext_then rest (go_maybe_angled gs w) (ext_then rest (go_lone w 61 (61 ∷ 62 ∷ []) refl) (as_item (go_type x false w))))
    go_argument (assoc_const i gs c) w =
        ext_if rest _
        (ext_then rest (go_name w i)
        (ext_then rest (go_maybe_angled gs w) (ext_then rest (go_lone w 61 (61 ∷ 62 ∷ []) refl) (go_constant_argument c w))))
    go_argument (constraint i gs bs u) w =
        ext_then rest (go_name w i)
        (ext_then rest (go_maybe_angled gs w) (ext_then rest (go_lone w 58 (58 ∷ []) refl) (as_item (go_bounds bs u w))))

-- ---- bounds between `<` and `>`: where each is spelled alone, so are all of them with `+` between

abbrev own_bound : BoundTree → Trees
own_bound b = spell.bound_trees nowhere (unplaced_bound b)

abbrev BoundAlone : BoundTree → Type 0
BoundAlone b = parts.Alone (bound (unplaced_bound b)) inner (own_bound b)

abbrev own_bounds : List BoundTree → List Trees
own_bounds bs = spell.each_bound nowhere (bounds_of (map unplaced_bound bs))

-- the tokens behind the first one
abbrev left_trees : List BoundTree → Trees
left_trees bs = spell.spaced (spell.punct 43 nowhere) false (own_bounds bs)

bound_stands : (b : BoundTree) (bs : List BoundTree) → BoundAlone b →
    Stands (bound (unplaced_bound b) inner) (join (own_bound b) (left_trees bs)) (left_trees bs)
bound_stands b [] h =
    stands_as (join-no_trees (own_bound b))
    (record { marks = h.marks; spelled = h.spelled; within = h.within })
bound_stands b (c ∷ bs) h =
    let more : Trees = join (own_bound c) (left_trees bs) in
    record {
      marks = h.marks;
      spelled = go_bound more (unplaced_bound b) inner (own_bound b) no_trees h.marks h.spelled tt;
      within = h.within;
    }

left_stand : (bs : List BoundTree) → Each BoundAlone bs →
    Stands (bounds_left (bounds_of (map unplaced_bound bs)) false inner) (left_trees bs) no_trees
left_stand [] h = none_stands (sees 43) no_trees refl
left_stand (b ∷ bs) h =
    stands_then (punct_stands inner 43 (join (own_bound b) (left_trees bs)) refl)
    (stands_then (bound_stands b bs h.0) (left_stand bs h.1))

-- one bound or more, without ranges
abbrev own_list : BoundTree → List BoundTree → declared.Listed BoundTree
own_list b bs = bare_listed (separated (b ∷ bs))

-- behind a colon
bounds_stand : (b : BoundTree) (bs : List BoundTree) → Each BoundAlone (b ∷ bs) →
    Stands (colon inner then bound_list inner (own_list b bs)) (maybe_bounds_trees (Some (own_list b bs))) no_trees
bounds_stand b bs h =
    let own : Trees = join (own_bound b) (left_trees bs) in
    stands_then (colon_stands inner (join own no_trees) refl) (stands_as (join-no_trees own) (stands_then (bound_stands b bs h.0) (left_stand bs h.1)))

-- a type parameter with such bounds
type_param_alone : (i : Ident) → IsTrue (is_name i) → (b : BoundTree) (bs : List BoundTree) → Each BoundAlone (b ∷ bs) →
    ParamAlone (bare_param (type_param [] i (Some (separated (b ∷ bs))) None))
type_param_alone i n b bs h =
    let own : Trees = maybe_bounds_trees (Some (own_list b bs)) in
    let s =
    stands_then (none_stands (sees 35) (join (spell.name (unplaced_ident i)) (join own no_trees)) refl)
    (stands_then (written_stands (written_name inner refl i n (join own no_trees)))
    (stands_then (stands_as (join-no_trees own) (bounds_stand b bs h)) (none_stands sees_equals no_trees refl))) in
    record { marks = s.marks; spelled = s.spelled; within = s.within }

-- with one bound more
with_bound : (i : Ident) → IsTrue (is_name i) → (bs : List BoundTree) (b : BoundTree) → Each BoundAlone bs → BoundAlone b →
    ParamAlone (bare_param (type_param [] i (Some (separated (bs ++ b ∷ []))) None))
with_bound i n [] b h k = type_param_alone i n b [] (k, tt)
with_bound i n (c ∷ bs) b h k = type_param_alone i n c (bs ++ b ∷ []) (h.0, each_both BoundAlone bs (b ∷ []) h.1 (k, tt))

-- derive_more::core::ops::NAME<Output = T>
op_output_alone : (l : List ℕ) → IsTrue (is_path_word (word l)) → (i : Ident) → IsTrue (is_name i) → BoundAlone (op_output l i)
unfolding is_keyword
op_output_alone l n i k =
    let p : PathTree = path_tree false (segments_of (plain_segments ops_words ++ segment (word l) (operator_bounds.output i) ∷ [])) in
    let own : Trees = spell.path_trees nowhere (unplaced_path p) in
    written_alone (bound (unplaced_bound (op_output l i))) inner own
    (written_then (written_absent (sees 63) own refl)
    (written_then (written_absent (sees_word (codes "for")) own refl)
    (written_ending inner refl refl ops_words ops_named (word l) n (operator_bounds.output i)
    ((refl, written_name_type (deeper inner) refl refl i k), tt))))

-- ---- each bound that is declared is spelled alone

module _ {w : Where} (l : Lower inner w) where
  -- before what is no call
  path_again : (p : PathTree) →
      RespellsIf (λ o others. Calm no_trees stop_end others) (path_spelled p w) (path_spelled (unplaced_path p) inner)
      (spell.path_trees nowhere (unplaced_path p))
  path_again p ts others m s o c k =
      let called : sees_macro (join ts no_trees) ≡ false = uncalled_path no_trees stop_end p w ts others m s k in
      let x =
      again_type (type_tree (path no_self p) (range_of m)) false l ts others m
      (record { part = record { fact = subst (λ z. sees_macro z ≡ false) (join-no_trees ts) called; part = s }; is_range = refl }) o c tt in
      record { marks = x.marks; spelled = x.spelled.part.part; lower = x.lower; cut = x.cut }

  -- before what is no `+`
  last_alone : (b : BoundTree) (ts : Trees) → (x : From (bound b w) ts) → sees 43 x.others ≡ false → BoundAlone b
  last_alone b ts x apart =
      let bs : BoundTrees = bound_then b no_bounds in
      let own : Trees = spell.bound_trees nowhere (unplaced_bound b) in
      let y : From (bounds bs false w) ts =
      record {
        others = x.others;
        marks = x.marks;
        spelled = record {
          middle = x.others;
          first_marks = x.marks;
          rest_marks = [];
          first = x.spelled;
          rest = record { part = record { spelled = refl; marks = refl }; fact = apart };
          marks = sym (append-nil x.marks);
        };
        within = x.within;
      } in
      let a =
      spelled_alone (bounds (unplaced_bounds bs) false) inner
      (spell.listed 43 nowhere (spell.each_bound nowhere (unplaced_bounds bs)) false) (again_bounds bs false l) ts y (λ _. refl) in
      let s = a.spelled in
      let all : Trees = join (join own no_trees) no_trees in
      let e : all ≡ own = join-no_trees (join own no_trees) ∙ join-no_trees own in
      record {
        marks = s.first_marks;
        spelled = subst (λ z. bound (unplaced_bound b) inner z no_trees s.first_marks) e
            (subst (λ z. bound (unplaced_bound b) inner all z s.first_marks) s.rest.part.spelled s.first);
        within = first_within s a.within;
      }

  -- before a `+`
  followed_alone : (b : BoundTree) (ts : Trees) → (x : From (bound b w) ts) → Listed x.others → BoundAlone b
  followed_alone (outlives a) ts x k =
      last_alone (outlives a) (token (t.Lifetime a) no_trees)
      (record { others = no_trees; marks = x.marks; spelled = record { spelled = refl; marks = x.spelled.marks }; within = x.within }) refl
  followed_alone (implements (trait_bound true maybe ls p)) ts x k =
      let s = x.spelled in
      last_alone (implements (trait_bound true maybe ls p)) (group Paren s.opener s.inside s.closer no_trees)
      (record {
        others = no_trees;
        marks = x.marks;
        spelled = record {
          opener = s.opener;
          inside = s.inside;
          closer = s.closer;
          inner_marks = s.inner_marks;
          spelled = refl;
          whole = s.whole;
          marks = s.marks;
        };
        within = x.within;
      })
      refl
  followed_alone (implements (trait_bound false maybe ls p)) ts x k =
      let b : BoundTree = implements (trait_bound false maybe ls p) in
      spelled_alone (bound (unplaced_bound b)) inner (spell.bound_trees nowhere (unplaced_bound b))
      (respells_then (respells_flag maybe (unseen_sees 63) (respells_punct 63 (plain 63 refl) l))
      (respells_then (respells_for l ls) (path_again p)))
      ts x (calm_listed no_trees stop_end x.others k)

  -- by what stands behind it
  first_alone : (b : BoundTree) (bs : List BoundTree) (u : Bool) (ts mid others : Trees) (m k : Marks) → bound b w ts mid m →
      first_too_deep m ≡ None →
      bounds_left (bounds_of bs) u w mid others k → BoundAlone b
  first_alone b [] false ts mid others m k s h r =
      last_alone b ts (record { others = mid; marks = m; spelled = s; within = h }) (ap (sees 43) r.part.spelled ∙ r.fact)
  first_alone b [] true ts mid others m k s h r =
      followed_alone b ts (record { others = mid; marks = m; spelled = s; within = h })
      (listed_punct no_trees refl mid r.middle r.first_marks r.first)
  first_alone b (c ∷ bs) u ts mid others m k s h r =
      followed_alone b ts (record { others = mid; marks = m; spelled = s; within = h })
      (listed_punct no_trees refl mid r.middle r.first_marks r.first)

  some_alone : (b : BoundTree) (bs : List BoundTree) (u : Bool) (ts : Trees) → From (bound b w then bounds_left (bounds_of bs) u w) ts →
      BoundAlone b
  some_alone b bs u ts x =
      let s = x.spelled in
      first_alone b bs u ts s.middle x.others s.first_marks s.rest_marks s.first (first_within s x.within) s.rest

  left_alone : (bs : List BoundTree) (u : Bool) (ts : Trees) → From (bounds_left (bounds_of bs) u w) ts → Each BoundAlone bs
  left_alone [] u ts x = tt
  left_alone (b ∷ bs) u ts x =
      let y = rest_from x in (some_alone b bs u x.spelled.middle y, left_alone bs u y.spelled.middle (rest_from y))

  each_alone : (bs : List BoundTree) (u : Bool) (ts : Trees) → From (bounds (bounds_of bs) u w) ts → Each BoundAlone bs
  each_alone [] u ts x = tt
  each_alone (b ∷ bs) u ts x = (some_alone b bs u ts x, left_alone bs u x.spelled.middle (rest_from x))

  items_alone : (bs : Option (declared.Listed BoundTree)) (ts : Trees) →
      From (perhaps sees_colon bs (λ b. colon w then bound_list w b)) ts →
      Each BoundAlone (items_in bs)
  items_alone None ts x = tt
  items_alone (Some bs) ts x = each_alone bs.items bs.trailing x.spelled.middle (rest_from x)

  -- so a declared parameter is spelled alone with the bound that the operator of one value asks for
  bounded_param : (o : Operator) → TraitNamed o → (p : ParamTree) (ts : Trees) → From (param p w) ts →
      ParamAlone (bare_param (bare p)) → ParamAlone (bare_param (bounded (op_output o.trait_name) (bare p)))
  bounded_param o n (lifetime_param as' i bs) ts x h = h
  bounded_param o n (type_param as' i bs default) ts x h =
      let r = rest_from x in
      let k : IsTrue (is_name i) = r.spelled.first.fact in
      with_bound i k (items_in bs) (op_output o.trait_name i) (items_alone bs r.spelled.middle (first_from (rest_from r)))
      (op_output_alone o.trait_name n i k)
  bounded_param o n (const_param as' i t default) ts x h = h

-- ---- what holds of each declared parameter

each_of_shape : (P : ParamTree → Type 0) (i : Ident) (g : GenericsTree) (w : Where) →
    ((p : ParamTree) (ts : Trees) → From (param p (deeper w)) ts → P p) → (x : ShapeTree) (ts : Trees) → From (shape run x i g w) ts →
    Each P g.params.items
each_of_shape P i g w f (struct_shape r fs) ts s = each_declared P w f g.angled g.params _ (first_from (rest_from (rest_from s)))
each_of_shape P i g w f (enum_shape r vs) ts s = each_declared P w f g.angled g.params _ (first_from (rest_from (rest_from s)))
each_of_shape P i g w f (union_shape r fs) ts s = each_declared P w f g.angled g.params _ (first_from (rest_from (rest_from s)))

each_changed : (f : ParamTree → ParamTree) (ps : List ParamTree) →
    Each (λ p. ParamAlone (bare_param p) → ParamAlone (bare_param (f p))) ps →
    Each ParamAlone (map bare_param ps) →
    Each ParamAlone (map bare_param (map f ps))
each_changed f [] e h = tt
each_changed f (p ∷ ps) e h = (e.0 h.0, each_changed f ps e.1 h.1)

-- ---- operators: the parameters

-- the parameter that any right side brings, behind the declared ones
right_param_alone : ParamAlone (bare_param right_param)
unfolding is_keyword
right_param_alone =
    let own : Trees = param_trees (bare_param right_param) in
    written_alone (param (bare_param right_param)) inner own
    (written_then (written_absent (sees 35) own refl)
    (written_then (written_name inner refl (word (codes "__derive_more_Rhs")) refl no_trees)
    (written_then (written_absent sees_colon no_trees refl) (written_absent sees_equals no_trees refl))))

and_onto : (a b c : Bool) → (b ≡ true → c ≡ true) → (a && b) ≡ true → (a && c) ≡ true
and_onto true b c f h = f h
and_onto false b c f h = h

right_param_plain : (b : Bool) (ps : List ParamTree) → are_plain b (map bare_param ps) ≡ true →
    are_plain b (map bare_param (ps ++ right_param ∷ [])) ≡ true
right_param_plain true [] h = refl
right_param_plain false [] h = refl
right_param_plain b (p ∷ ps) h =
    let q : ParamTree = bare_param p in
    and_onto (is_plain q && (b || not (is_lifetime q))) (are_plain (is_lifetime q) (map bare_param ps)) _
    (right_param_plain (is_lifetime q) ps) h

-- each type parameter is bounded by the operator of one value
abbrev asked_of_each : Operator → List ParamTree → List ParamTree
asked_of_each o ps = map (bounded (op_output o.trait_name)) ps

bounded_plain : (o : Operator) (b : Bool) (ps : List ParamTree) → are_plain b (map bare_param ps) ≡ true →
    are_plain b (map bare_param (asked_of_each o ps)) ≡ true
bounded_plain o b [] h = refl
bounded_plain o b (lifetime_param as' l bs ∷ ps) h =
    let q : ParamTree = bare_param (lifetime_param as' l bs) in
    and_onto (is_plain q && (b || not (is_lifetime q))) (are_plain true (map bare_param ps)) _ (bounded_plain o true ps) h
bounded_plain o b (type_param [] i bs None ∷ ps) h =
    and_onto (true && (b || true)) (are_plain false (map bare_param ps)) _ (bounded_plain o false ps) h
bounded_plain o b (type_param [] i bs (Some x) ∷ ps) h = absurd (cc)
bounded_plain o b (type_param (a ∷ as') i bs default ∷ ps) h = absurd (cc)
bounded_plain o b (const_param as' i x default ∷ ps) h =
    let q : ParamTree = bare_param (const_param as' i x default) in
    and_onto (is_plain q && (b || not (is_lifetime q))) (are_plain false (map bare_param ps)) _ (bounded_plain o false ps) h

-- in each form
params_plain : (form : Form) (o : Operator) (d : Declaration) → are_plain true (map bare_param (item_params form o d)) ≡ true
params_plain structural o d = plain_params d
params_plain scalar o d = right_param_plain true (params_of d) (plain_params d)
params_plain unary o d = bounded_plain o true (params_of d) (plain_params d)

module _ (d : Declaration) (limit : ℕ) (ts : Trees) (m : Marks) (s : SpelledBy d limit ts m) (within : first_too_deep m ≡ None) where
  unary_params : (o : Operator) → TraitNamed o → Each ParamAlone (map bare_param (asked_of_each o (params_of d)))
  unary_params o n =
      let Changes : ParamTree → Type 0 =
      λ p. ParamAlone (bare_param p) → ParamAlone (bare_param (bounded (op_output o.trait_name) p)) in
      let w : Where = record { level = 0; limit = limit } in
      let x : From (declaration run d w) ts = record { others = no_trees; marks = m; spelled = s.spelled; within = within } in
      each_changed (bounded (op_output o.trait_name)) (params_of d)
      (each_param Changes d.generics.params.items
      (each_of_shape (λ p. Changes (bare p)) d.ident d.generics w
      (λ p us y. bounded_param (record { level = omega arith; limit = refl }) o n p us y) d.shape _ (rest_from (rest_from x))))
      (declared_params d limit ts m s within)

  params_alone : (form : Form) (o : Operator) → TraitNamed o → Each ParamAlone (map bare_param (item_params form o d))
  params_alone structural o n = declared_params d limit ts m s within
  params_alone scalar o n =
      each_joined ParamAlone bare_param (params_of d) (right_param ∷ []) (declared_params d limit ts m s within) (right_param_alone, tt)
  params_alone unary o n = unary_params o n

  predicates_alone : EachField (λ x. calls_for x ≡ false) d → (form : Form) (o : Operator) → TraitNamed o →
      Each PredicateAlone (map bare_predicate (predicates_of d ++ needed_in form o d (cases_for o d)))
  predicates_alone plain form o n =
      each_joined PredicateAlone bare_predicate (predicates_of d) (needed_in form o d (cases_for o d))
      (declared_predicates d limit ts m s within)
      (each_joined PredicateAlone bare_predicate (needed_by (asking form o) d (cases_for o d)) (copied form (cases_for o d))
      (needed_declared_inner d limit ts m s within (asking form o) (skips o) (λ x h k. asked_alone form o n x k) (asked_plain _ d plain))
      (copies_if (copies_right form (cases_for o d))))

  -- with any method
  pub operator_head : EachField (λ x. calls_for x ≡ false) d → (o : Operator) → OperatorNamed o → (method : MethodTree) →
      IsHead (head_of (bare_item (item_with (form_in o d) o d method)))
  operator_head plain o named method =
      head_from_parts (head_of (bare_item (item_with (form_in o d) o d method))) (params_alone (form_in o d) o named.trait_named)
      (params_plain (form_in o d) o d) (implemented_alone (form_in o d) o named.trait_named) (implementor_alone d limit ts m s within)
      (predicates_alone plain (form_in o d) o named.trait_named) (λ e f. absurd (cc))
