-- Whole implementations, as operators and `PartialEq` emit them, can be written, and no part of them stands deeper in groups than the
-- language allows: what they take over from the declaration, the predicates that fields need, their own words and types, and their methods.
use Rattle.std.proofs.Common.{◌≡◌, ℕ, ◌-◌, ◌<◌, ◌≤◌, Bool, true, false, cond, ◌&&◌, not, List, [], ◌∷◌, ◌++◌, map, filter, flat_map, codes, Option, Some, None, refl, sym, ap, ◌∙◌, subst, arith}
use Rattle.std.proofs.lemmas.Bool.{and_parts}
use Rattle.dm_stream.specs.declared.levels.TheConstants.{DEEPEST}
use Rattle.dm_stream.specs.declared.tokens.Span.{Span}
use Rattle.dm_stream.specs.declared.tokens.Ident.{Ident}
use Rattle.dm_stream.specs.declared.tokens.Lifetime.{Lifetime}
use Rattle.dm_stream.specs.declared.tokens.Token.TheVariants as t
use Rattle.dm_stream.specs.Layout.{nowhere}
use Rattle.dm_stream.specs.Trees.{Trees, no_trees, token, group, join, join-no_trees, join_assoc}
use Rattle.dm_lexer.specs.Written.{IsSpellable, AreSpellable, AreWritable, AreShallowWithin, AreShallow}
use Rattle.dm_lexer.proofs.Writables.{writable-right, spellable-left, spellable-right, is_ascii_word, ascii_word-spellable}
use Rattle.dm_ast.specs.declared.plain.Attribute.{Attribute}
use Rattle.dm_ast.specs.Tree.{Lifetimes, TypeTree, type_tree, path, no_self, bare_fn, fn_tree, PathTree, path_tree, segment, segments_of, ArgumentsTree, angle, ArgumentTree, type_arg, assoc_type, ArgumentTrees, no_arguments, argument_then, arguments_of, arguments_absent, BoundTree, bounds_of}
use Rattle.dm_ast.specs.TypeTokens as spell
use Rattle.dm_ast.specs.TypeTokens.{type_trees, path_trees, bound_trees, each_bound, each_segment, each_argument, argument_trees, arguments_trees, for_trees}
use Rattle.dm_ast.specs.Declarations.{Listed, ParamTree, lifetime_param, type_param, const_param, PredicateTree, Declaration}
use Rattle.dm_ast.specs.Spelling.{Marks}
use Rattle.dm_ast.specs.Parsed.{SpelledBy}
use Rattle.dm_ast.specs.Implementors.{plain_path, name_type, is_lifetime, is_other, bare, params_of, predicates_of, argument, arguments, implementor}
use Rattle.dm_output.specs.declared.item.ItemAttr.TheVariants.{Inline}
use Rattle.dm_output.specs.declared.item.Receiver.TheVariants.{Ref}
use Rattle.dm_output.specs.Output.{BlockTree, MethodTree}
use Rattle.dm_output.specs.Values.{Text, cases, is_enum}
use Rattle.dm_output.specs.Tokens.{colon, param_trees, predicate_trees, maybe_bounds_trees}
use Rattle.dm_written.specs.Fitting as fitting
use Rattle.dm_written.specs.Fitting.{Fits, NameFits, BlockFits, AttrFits, AssocFits, ParamFits, MethodFits, ItemFits}
use Rattle.dm_written.proofs.Depths.{IsWithin, shallow_from, within_from}
use Rattle.dm_written.proofs.Fitted.{none_fits, join_fits, name_fits, word_fits, lifetime_fits, punct_fits, colon_fits, colons_fit, assigns_fits, given_fits, spaced_fits, listed_fits}
use Rattle.dm_generics.specs.Words.{word, words, plain_segments, self_type, ref_self}
use Rattle.dm_generics.specs.Lists.{separated, items_in}
use Rattle.dm_generics.specs.Bounds.{output, op_output}
use Rattle.dm_generics.specs.Additions as additions
use Rattle.dm_operands.specs.Marked.{MarkedField, MarkedCase, marked}
use Rattle.dm_operands.specs.Kept.{some_compared}
use Rattle.dm_attr.specs.Skips.{is_skipped}
use Rattle.dm_bounds.specs.Needed.{subject, only_trait, bounded, Wanted, Asking, added_by, added_in_by, wanted_of, needed_by, needing, needed_in}
use Rattle.dm_head_laws.specs.Parts.{Each}
use Rattle.dm_head_laws.proofs.HeadParts.{each_by}
use Rattle.dm_head_laws.proofs.DeclaredParts.{each_map, each_both}
use Rattle.dm_derived_laws.proofs.NeededAlone.{marked_cases}
use Rattle.dm_partial_eq.specs.Heads.{partial_eq_path}
use Rattle.dm_partial_eq.specs.Emitted as emitted
use Rattle.dm_operators.specs.Operators as ops
use Rattle.dm_operators.specs.Operators.{Operator, IsOperator}
use Rattle.dm_operators.specs.Attributes.{skips, cases_for, form_in}
use Rattle.dm_bounds.specs.RightSide.{right_type, right_param, right_copies}
use Rattle.dm_operators.specs.Predicates.{angled, trait_with, output_argument, implemented, asking, copies_right, copied, needed}
use Rattle.dm_operators.specs.Meaning.{has_unit}
use Rattle.dm_operators.specs.Heads.{result_of, binary_output, output_type, method_attrs, method_param, own_output, returned, item_attrs, item_params, item_predicates}
use Rattle.dm_operators.specs.Implementations.{method_of, item_of}
use Rattle.dm_operators.specs.Laws.{AreFew}
use Rattle.dm_emitted_laws.proofs.BodiesFit.{plain_fits, operator_spellable, method_body_fits, HasBody, comparison_bodies_fit}
use Rattle.dm_emitted_laws.proofs.DeclaredFits.{declared_name, declared_spellable, declared_types_fit, declared_params_fit, declared_predicates_fit}

-- ---- lists

-- what holds of anything
each_of : {A : Type 0} {P : A → Type 0} → ((a : A) → P a) → (xs : List A) → Each P xs
each_of f [] = tt
each_of f (x ∷ xs) = (f x, each_of f xs)

-- as in dm_emitted_laws/proofs/DeclaredFits
all_fit : {A : Type 0} (n : ℕ) (trees : A → Trees) (xs : List A) → Each (λ x. Fits n (trees x)) xs → fitting.Each (Fits n) (map trees xs)
all_fit n trees [] h = tt
all_fit n trees (x ∷ xs) h = (h.0, all_fit n trees xs h.1)

-- and the other way round
each_fits : {A : Type 0} (n : ℕ) (trees : A → Trees) (xs : List A) → fitting.Each (Fits n) (map trees xs) → Each (λ x. Fits n (trees x)) xs
each_fits n trees [] h = tt
each_fits n trees (x ∷ xs) h = (h.0, each_fits n trees xs h.1)

-- ---- words

word_called : (x : Text) → is_ascii_word x ≡ true → NameFits (word x)
word_called x h = ascii_word-spellable x nowhere h

-- they are all ASCII words
abbrev are_words : List Text → Bool
are_words [] = true
are_words (x ∷ xs) = is_ascii_word x && are_words xs

words_called : (xs : List Text) → are_words xs ≡ true → Each NameFits (words xs)
words_called [] h = tt
words_called (x ∷ xs) h =
    let both = and_parts (is_ascii_word x) (are_words xs) h in
    (word_called x both.0, words_called xs both.1)

-- ---- the declared type, at any depth: it has no groups

-- the name that stands for a parameter is spellable
abbrev ParamCalled : ParamTree → Type 0
ParamCalled (lifetime_param as' l bs) = IsSpellable (t.Lifetime l)
ParamCalled (type_param as' i bs x) = NameFits i
ParamCalled (const_param as' i x c) = NameFits i

param_called : (n : ℕ) (p : ParamTree) → Fits n (param_trees p) → ParamCalled p
param_called n (lifetime_param as' l bs) h = (spellable-right (spell.attributes_trees as') _ h.writable.spellable).0
param_called n (type_param as' i bs x) h = (spellable-right (spell.attributes_trees as') _ h.writable.spellable).0
param_called n (const_param as' i x c) h = (spellable-right (spell.attributes_trees as') _ h.writable.spellable).1.0

module _ (n : ℕ) where
  -- a type that is a name
  name_type_fits : (i : Ident) → NameFits i → Fits n (path_trees nowhere (plain_path (i ∷ [])))
  name_type_fits i h = plain_fits n (i ∷ []) (h, tt)

  word_type_fits : (x : Text) → is_ascii_word x ≡ true → Fits n (path_trees nowhere (plain_path (word x ∷ [])))
  word_type_fits x h = name_type_fits (word x) (word_called x h)

  -- `<..>`
  angle_fits : (gs : ArgumentTrees) → fitting.Each (Fits n) (each_argument nowhere gs) →
      Fits n (arguments_trees nowhere (angle false gs false))
  angle_fits gs h =
      join_fits (none_fits n)
      (join_fits (punct_fits n 60 refl)
      (join_fits (join_fits (listed_fits n (each_argument nowhere gs) h) (none_fits n)) (punct_fits n 62 refl)))

  argument_fits : (p : ParamTree) → ParamCalled p → Fits n (argument_trees nowhere (argument p))
  argument_fits (lifetime_param as' l bs) h = lifetime_fits n l h
  argument_fits (type_param as' i bs x) h = name_type_fits i h
  argument_fits (const_param as' i x c) h = name_type_fits i h

  each_argument_fits : (ps : List ParamTree) → Each ParamCalled ps →
      fitting.Each (Fits n) (each_argument nowhere (arguments_of (map argument ps)))
  each_argument_fits [] h = tt
  each_argument_fits (p ∷ ps) h = (argument_fits p h.0, each_argument_fits ps h.1)

  arguments_fit : (ps : List ParamTree) → Each ParamCalled ps → Fits n (arguments_trees nowhere (arguments ps))
  arguments_fit [] h = none_fits n
  arguments_fit (p ∷ ps) h = angle_fits (arguments_of (map argument (p ∷ ps))) (each_argument_fits (p ∷ ps) h)

  implementor_called : (d : Declaration) → NameFits d.ident → Each ParamCalled (params_of d) → Fits n (type_trees (implementor d))
  implementor_called d called h =
      join_fits (none_fits n)
      (join_fits (none_fits n)
      (join_fits (join_fits (name_fits n d.ident called) (arguments_fit (params_of d) h)) (none_fits n)))

  -- ---- paths of words, and those whose last segment has arguments

  word_path_fits : (xs : List Text) → are_words xs ≡ true → Fits n (path_trees nowhere (plain_path (words xs)))
  word_path_fits xs h = plain_fits n (words xs) (words_called xs h)

  behind_fit : (xs : List Text) → Each NameFits (words xs) → (i : Ident) → NameFits i → (gs : ArgumentsTree) →
      Fits n (arguments_trees nowhere gs) →
      fitting.Each (Fits n) (each_segment nowhere (segments_of (plain_segments xs ++ segment i gs ∷ [])))
  behind_fit [] h i called gs k = (join_fits (name_fits n i called) k, tt)
  behind_fit (x ∷ xs) h i called gs k = (join_fits (name_fits n (word x) h.0) (none_fits n), behind_fit xs h.1 i called gs k)

  path_fits : (xs : List Text) → are_words xs ≡ true → (i : Ident) → NameFits i → (gs : ArgumentsTree) →
      Fits n (arguments_trees nowhere gs) →
      Fits n (path_trees nowhere (path_tree false (segments_of (plain_segments xs ++ segment i gs ∷ []))))
  path_fits xs h i called gs k =
      join_fits (none_fits n)
      (spaced_fits true (each_segment nowhere (segments_of (plain_segments xs ++ segment i gs ∷ []))) (colons_fit n)
      (behind_fit xs (words_called xs h) i called gs k))

  -- ---- bounds

  bounds_fit : (bs : List BoundTree) → fitting.Each (Fits n) (each_bound nowhere (bounds_of bs)) →
      Fits n (maybe_bounds_trees (Some (separated bs)))
  bounds_fit bs h =
      join_fits (colon_fits n) (join_fits (spaced_fits true (each_bound nowhere (bounds_of bs)) (punct_fits n 43 refl) h) (none_fits n))

  -- `: TRAIT`
  only_fits : (p : PathTree) → Fits n (path_trees nowhere p) → Fits n (maybe_bounds_trees (Some (only_trait p)))
  only_fits p h = bounds_fit (only_trait p).items (h, tt)

  -- ---- predicates that fields need

  -- the lifetimes of a `for`, which stands elsewhere
  each_lifetime_fits : (r : Span) (first : Bool) (ls : List Lifetime) →
      AreSpellable (spell.spaced (spell.punct 44 r) first (map spell.lifetime ls)) →
      fitting.Each (Fits n) (map spell.lifetime ls)
  each_lifetime_fits r first [] h = tt
  each_lifetime_fits r true (l ∷ ls) h = (lifetime_fits n l h.0, each_lifetime_fits r false ls h.1)
  each_lifetime_fits r false (l ∷ ls) h = (lifetime_fits n l h.1.0, each_lifetime_fits r false ls h.1.1)

  for_fits : (r : Span) (ls : Lifetimes) → AreSpellable (for_trees r ls) → Fits n (for_trees nowhere ls)
  for_fits r None h = none_fits n
  for_fits r (Some ls) h =
      let each : List Trees = map spell.lifetime ls.items in
      let all : Trees = spell.spaced (spell.punct 44 r) true each in
      let last : Trees = spell.given ls.trailing (spell.punct 44 r) in
      let k : AreSpellable all = spellable-left all last (spellable-left (join all last) (spell.punct 62 r) h.1.1) in
      join_fits (word_fits n (codes "for") refl)
      (join_fits (punct_fits n 60 refl)
      (join_fits
      (join_fits (listed_fits n each (each_lifetime_fits r true ls.items k)) (given_fits ls.trailing (punct_fits n 44 refl)))
      (punct_fits n 62 refl)))

  -- as in dm_emitted_laws/proofs/DeclaredFits
  within_right : (d : ℕ) (ts us : Trees) → IsWithin n d (join ts us) → IsWithin n d us
  within_right d no_trees us h = h
  within_right d (token k rest) us h = within_right d rest us h.1
  within_right d (group e from inside upto rest) us h = within_right d rest us h.2

  right_fits : (ts us : Trees) → Fits n (join ts us) → Fits n us
  right_fits ts us h = record {
    writable = writable-right ts us h.writable;
    shallow = shallow_from n us (within_right 0 ts us (within_from n (join ts us) h.shallow));
  }

  -- a `for` at the front of a type is the predicate's
  subject_fits : (x : TypeTree) → Fits n (type_trees x) → Fits n (for_trees nowhere (subject x).0) × Fits n (type_trees (subject x).1)
  subject_fits (type_tree (bare_fn (fn_tree ls is_unsafe abi is trailing out)) r) h =
      (for_fits r ls (spellable-left (for_trees r ls) _ h.writable.spellable), right_fits (for_trees r ls) _ h)
  subject_fits x h = (none_fits n, h)

  abbrev pub PredicateFits : PredicateTree → Type 0
  PredicateFits p = Fits n (predicate_trees p)

  -- `T: TRAIT`
  bounded_fits : (p : PathTree) (x : TypeTree) → Fits n (path_trees nowhere p) → Fits n (type_trees x) → PredicateFits (bounded p x)
  bounded_fits p x h k =
      let both = subject_fits x k in
      join_fits both.0 (join_fits both.1 (only_fits p h))

  -- the path of the trait that is asked of a type
  abbrev pub PathsFit : Asking → Type 0
  PathsFit a = (x : TypeTree) → Fits n (type_trees x) → Fits n (path_trees nowhere (a.path x))

  abbrev MarkedFits : MarkedField → Type 0
  MarkedFits f = Fits n (type_trees f.field.ty)

  module _ (a : Asking) (w : Wanted) (paths : PathsFit a) where
    added_if : (x : TypeTree) → Fits n (type_trees x) → (b : Bool) → Each PredicateFits (cond b (bounded (a.path x) x ∷ []) [])
    added_if x h true = (bounded_fits (a.path x) x (paths x h) h, tt)
    added_if x h false = tt

    added_fields : (fs : List MarkedField) → Each MarkedFits fs → Each PredicateFits (flat_map (added_by a w) fs)
    added_fields [] h = tt
    added_fields (f ∷ fs) h =
        each_both PredicateFits (added_by a w f) (flat_map (added_by a w) fs)
        (added_if f.field.ty h.0 (not f.left_out && a.asks w f.field.ty))
        (added_fields fs h.1)

    added_case : (b : Bool) (fs : List MarkedField) → Each MarkedFits fs → Each PredicateFits (cond b [] (flat_map (added_by a w) fs))
    added_case true fs h = tt
    added_case false fs h = added_fields fs h

    added_cases : (cs : List MarkedCase) → Each (λ c. Each MarkedFits c.fields) cs → Each PredicateFits (flat_map (added_in_by a w) cs)
    added_cases [] h = tt
    added_cases (c ∷ cs) h =
        each_both PredicateFits (added_in_by a w c) (flat_map (added_in_by a w) cs) (added_case c.left_out c.fields h.0)
        (added_cases cs h.1)

  -- ---- types of methods

  self_type_fits : Fits n (type_trees self_type)
  self_type_fits = word_type_fits (codes "Self") refl

  -- `&Self`
  ref_self_fits : Fits n (type_trees ref_self)
  ref_self_fits = join_fits (punct_fits n 38 refl) (join_fits (none_fits n) (join_fits (none_fits n) self_type_fits))

-- ---- what an implementation takes over from a declaration

module _ (n : ℕ) (d : Declaration) (limit : ℕ) (ts : Trees) (m : Marks) (s : SpelledBy d limit ts m) (writable : AreWritable ts)
    (shallow : AreShallowWithin n ts) where
  each_param_fits : Each (λ p. Fits n (param_trees p)) (params_of d)
  each_param_fits = each_fits n param_trees (params_of d) (declared_params_fit d limit ts m s n writable shallow)

  -- however deep the declaration is
  pub implementor_fits_at : (k : ℕ) → Fits k (type_trees (implementor d))
  implementor_fits_at k =
      implementor_called k d (declared_name d limit ts m s n writable shallow) (each_by (param_called n) (params_of d) each_param_fits)

  each_predicate_fits : Each (PredicateFits n) (predicates_of d)
  each_predicate_fits = each_fits n predicate_trees (predicates_of d) (declared_predicates_fit d limit ts m s n writable shallow)

  -- a predicate stands outside of all groups, as types of fields never do
  pub needed_fit : (a : Asking) → PathsFit n a → (leaves_out : List Attribute → Bool) →
      Each (PredicateFits n) (needed_by a d (marked leaves_out d))
  needed_fit a paths leaves_out =
      added_cases n a (wanted_of d) paths (marked leaves_out d)
      (marked_cases (λ x. Fits n (type_trees x)) leaves_out (cases d) (declared_types_fit d limit ts m s n writable shallow))

-- ---- comparisons

partial_eq_fits : (n : ℕ) → Fits n (path_trees nowhere partial_eq_path)
partial_eq_fits n =
    word_path_fits n (codes "derive_more" ∷ codes "core" ∷ codes "cmp" ∷ codes "PartialEq" ∷ []) refl

-- #[inline] fn NAME(&self, __other: &Self) -> bool { BODY }
abbrev comparison : Text → BlockTree → MethodTree
comparison x b =
    record {
      attrs = Inline ∷ [];
      is_const = false;
      name = word x;
      receiver = Some Ref;
      param = Some (record { name = word (codes "__other"); ty = ref_self });
      output = Some (name_type (word (codes "bool")));
      body = b;
    }

comparison_method_fits : (n : ℕ) → 1 < n → (x : Text) (b : BlockTree) → is_ascii_word x ≡ true → BlockFits (n - 1) b →
    MethodFits n (comparison x b)
comparison_method_fits n l x b called h = record {
  attrs = (omega (arith, l), tt);
  name = word_called x called;
  groups = omega (arith, l);
  param = (word_called (codes "__other") refl, ref_self_fits (n - 1));
  output = word_type_fits n (codes "bool") refl;
  body = h;
}

one_or_two : (n k : ℕ) (two : Bool) (x y : MethodTree) → (HasBody k x → MethodFits n x) → (HasBody k y → MethodFits n y) →
    Each (HasBody k) (cond two (x ∷ y ∷ []) (x ∷ [])) → fitting.Each (MethodFits n) (cond two (x ∷ y ∷ []) (x ∷ []))
one_or_two n k true x y f g h = (f h.0, (g h.1.0, tt))
one_or_two n k false x y f g h = (f h.0, tt)

-- five groups do: those of the implementation and of the method, and three in the body
pub comparison_fits_within : (n : ℕ) → 5 ≤ n → (d : Declaration) (limit : ℕ) (ts : Trees) (m : Marks) → SpelledBy d limit ts m →
    AreWritable ts → AreShallowWithin n ts → ItemFits n (emitted.item d)
comparison_fits_within n l d limit ts m s writable shallow =
    let vs : List MarkedCase = marked is_skipped d in
    let few : 1 < n - 1 = omega (arith, l) in
    record {
      attrs = (omega (arith, l), (omega (arith, l), tt));
      params = declared_params_fit d limit ts m s n writable shallow;
      trait_path = partial_eq_fits n;
      ty = implementor_fits_at n d limit ts m s writable shallow n;
      predicates =
          all_fit n predicate_trees (emitted.predicates_for d vs)
          (each_both (PredicateFits n) (predicates_of d) (needed_in partial_eq_path d vs)
          (each_predicate_fits n d limit ts m s writable shallow)
          (needed_fit n d limit ts m s writable shallow (needing partial_eq_path) (λ x h. partial_eq_fits n) is_skipped));
      groups = omega (arith, l);
      assocs = tt;
      methods =
          one_or_two (n - 1) (n - 1 - 1) (some_compared vs) _ _
          (comparison_method_fits (n - 1) few (codes "eq") _ refl)
          (comparison_method_fits (n - 1) few (codes "ne") _ refl)
          (comparison_bodies_fit (n - 1 - 1) (omega (arith, l)) d vs
          (declared_spellable d limit ts m s n writable shallow is_skipped));
    }

-- what is read of a text has no more groups than the language allows, and nor has the implementation that is emitted for it
pub comparison_fits : (d : Declaration) (limit : ℕ) (ts : Trees) (m : Marks) → SpelledBy d limit ts m → AreWritable ts → AreShallow ts →
    ItemFits DEEPEST (emitted.item d)
comparison_fits d limit ts m s writable shallow = comparison_fits_within DEEPEST (omega arith) d limit ts m s writable shallow

-- ---- the traits of operators

module _ (o : Operator) (called : NameFits (word o.trait_name)) (n : ℕ) where
  angled_fits : (gs : List ArgumentTree) → fitting.Each (Fits n) (each_argument nowhere (arguments_of gs)) →
      Fits n (arguments_trees nowhere (angled gs))
  angled_fits [] h = none_fits n
  angled_fits (g ∷ gs) h = angle_fits n (arguments_of (g ∷ gs)) h

  trait_fits : (gs : List ArgumentTree) → fitting.Each (Fits n) (each_argument nowhere (arguments_of gs)) →
      Fits n (path_trees nowhere (trait_with o gs))
  trait_fits gs h =
      path_fits n (codes "derive_more" ∷ codes "core" ∷ codes "ops" ∷ []) refl (word o.trait_name) called (angled gs) (angled_fits gs h)

  right_type_fits : Fits n (type_trees right_type)
  right_type_fits = word_type_fits n (codes "__derive_more_Rhs") refl

  -- the trait that is implemented
  implemented_fits : (form : ops.Form) → Fits n (path_trees nowhere (implemented form o))
  implemented_fits ops.structural = trait_fits [] tt
  implemented_fits ops.scalar = trait_fits (type_arg right_type ∷ []) (right_type_fits, tt)
  implemented_fits ops.unary = trait_fits [] tt

  -- `Output = T`
  output_fits : (x : TypeTree) → Fits n (type_trees x) →
      Fits n (argument_trees nowhere (assoc_type (word (codes "Output")) arguments_absent x))
  output_fits x h =
      join_fits (name_fits n (word (codes "Output")) (word_called (codes "Output") refl))
      (join_fits (none_fits n) (join_fits (assigns_fits n) h))

  output_if : (b : Bool) (x : TypeTree) → Fits n (type_trees x) →
      fitting.Each (Fits n)
      (each_argument nowhere (arguments_of (cond b [] (assoc_type (word (codes "Output")) arguments_absent x ∷ []))))
  output_if true x h = tt
  output_if false x h = (output_fits x h, tt)

  -- the trait that is asked of a field's type
  asked_fits : (form : ops.Form) → PathsFit n (asking form o)
  asked_fits ops.structural x h = trait_fits (output_argument o x) (output_if o.assigning x h)
  asked_fits ops.scalar x h = trait_fits (type_arg right_type ∷ output_argument o x) (right_type_fits, output_if o.assigning x h)
  asked_fits ops.unary x h = trait_fits (output_argument o x) (output_if o.assigning x h)

  -- the right side may be copied
  right_copies_fits : PredicateFits n right_copies
  right_copies_fits =
      let names : List Text = codes "derive_more" ∷ codes "core" ∷ codes "marker" ∷ codes "Copy" ∷ [] in
      join_fits (none_fits n) (join_fits right_type_fits (only_fits n (plain_path (words names)) (word_path_fits n names refl)))

  copied_if : (b : Bool) → Each (PredicateFits n) (cond b (right_copies ∷ []) [])
  copied_if true = (right_copies_fits, tt)
  copied_if false = tt

  -- ---- the parameters: one more, or a bound more at each type

  right_param_fits : Fits n (param_trees right_param)
  right_param_fits = name_fits n (word (codes "__derive_more_Rhs")) (word_called (codes "__derive_more_Rhs") refl)

  -- derive_more::core::ops::TRAIT<Output = T>
  op_output_fits : (i : Ident) → NameFits i → Fits n (bound_trees nowhere (op_output o.trait_name i))
  op_output_fits i h =
      path_fits n (codes "derive_more" ∷ codes "core" ∷ codes "ops" ∷ []) refl (word o.trait_name) called (output i)
      (angle_fits n (argument_then (assoc_type (word (codes "Output")) arguments_absent (name_type i)) no_arguments)
      (output_fits (name_type i) (name_type_fits n i h), tt))

-- ---- a bound behind others

module _ (n : ℕ) (b : BoundTree) (fits : Fits n (bound_trees nowhere b)) where
  -- with a `+` between, or behind the one that ends the others
  plus_fits : (u : Bool) (ts : Trees) → Fits n (join ts (spell.given u (spell.punct 43 nowhere))) →
      Fits n (join ts (join (spell.punct 43 nowhere) (join (bound_trees nowhere b) no_trees)))
  plus_fits true ts h =
      subst (Fits n) (join_assoc ts (spell.punct 43 nowhere) (join (bound_trees nowhere b) no_trees))
      (join_fits h (join_fits fits (none_fits n)))
  plus_fits false ts h =
      join_fits (subst (Fits n) (join-no_trees ts) h) (join_fits (punct_fits n 43 refl) (join_fits fits (none_fits n)))

  one_more : (bs : List BoundTree) →
      spell.spaced (spell.punct 43 nowhere) false (each_bound nowhere (bounds_of (bs ++ b ∷ []))) ≡
      join (spell.spaced (spell.punct 43 nowhere) false (each_bound nowhere (bounds_of bs)))
      (join (spell.punct 43 nowhere) (join (bound_trees nowhere b) no_trees))
  one_more [] = refl
  one_more (x ∷ bs) =
      let own : Trees = bound_trees nowhere x in
      let others : Trees = spell.spaced (spell.punct 43 nowhere) false (each_bound nowhere (bounds_of bs)) in
      let last : Trees = join (spell.punct 43 nowhere) (join (bound_trees nowhere b) no_trees) in
      ap (λ z. join (spell.punct 43 nowhere) (join own z)) (one_more bs) ∙
      ap (λ z. join (spell.punct 43 nowhere) z) (sym (join_assoc own others last))

  behind_bounds : (bs : List BoundTree) (u : Bool) → Fits n (spell.listed 43 nowhere (each_bound nowhere (bounds_of bs)) u) →
      Fits n (spell.listed 43 nowhere (each_bound nowhere (bounds_of (bs ++ b ∷ []))) false)
  behind_bounds [] u h = join_fits (join_fits fits (none_fits n)) (none_fits n)
  behind_bounds (x ∷ bs) u h =
      let own : Trees = bound_trees nowhere x in
      let others : Trees = spell.spaced (spell.punct 43 nowhere) false (each_bound nowhere (bounds_of bs)) in
      let last : Trees = join (spell.punct 43 nowhere) (join (bound_trees nowhere b) no_trees) in
      join_fits
      (subst (λ z. Fits n (join own z)) (sym (one_more bs))
      (subst (Fits n) (join_assoc own others last) (plus_fits u (join own others) h)))
      (none_fits n)

  -- behind those that are there
  behind_all : (bs : Option (Listed BoundTree)) → Fits n (maybe_bounds_trees bs) →
      Fits n (maybe_bounds_trees (Some (separated (items_in bs ++ b ∷ []))))
  behind_all None h = bounds_fit n (b ∷ []) (fits, tt)
  behind_all (Some bs) h = join_fits (colon_fits n) (behind_bounds bs.items bs.trailing (right_fits n colon _ h))

-- no attributes and no default stand at a type parameter
abbrev IsBare : ParamTree → Type 0
IsBare (lifetime_param as' l bs) = Unit {0}
IsBare (type_param as' i bs x) = (as' ≡ []) × (x ≡ None)
IsBare (const_param as' i x c) = Unit {0}

bare_is_bare : (p : ParamTree) → IsBare (bare p)
bare_is_bare (lifetime_param as' l bs) = tt
bare_is_bare (type_param as' i bs x) = (refl, refl)
bare_is_bare (const_param as' i x c) = tt

params_are_bare : (d : Declaration) → Each IsBare (params_of d)
params_are_bare d =
    let ps : List ParamTree = d.generics.params.items in
    each_both IsBare (map bare (filter is_lifetime ps)) (map bare (filter is_other ps))
    (each_map IsBare bare (filter is_lifetime ps) (each_of bare_is_bare (filter is_lifetime ps)))
    (each_map IsBare bare (filter is_other ps) (each_of bare_is_bare (filter is_other ps)))

module _ (n : ℕ) (bound : Ident → BoundTree) (fits : (i : Ident) → NameFits i → Fits n (bound_trees nowhere (bound i))) where
  more_bounds : (i : Ident) (bs : Option (Listed BoundTree)) → Fits n (param_trees (type_param [] i bs None)) →
      Fits n (param_trees (type_param [] i (Some (separated (items_in bs ++ bound i ∷ []))) None))
  more_bounds i bs h =
      let called : NameFits i = h.writable.spellable.0 in
      let own : Fits n (maybe_bounds_trees bs) =
      subst (Fits n) (join-no_trees (maybe_bounds_trees bs)) (right_fits n (spell.name i) (join (maybe_bounds_trees bs) no_trees) h) in
      join_fits (name_fits n i called) (join_fits (behind_all n (bound i) (fits i called) bs own) (none_fits n))

  bounded_param_fits : (p : ParamTree) → IsBare p → Fits n (param_trees p) → Fits n (param_trees (additions.bounded bound p))
  bounded_param_fits (lifetime_param as' l bs) e h = h
  bounded_param_fits (type_param as' i bs x) e h =
      let new : Option (Listed BoundTree) = Some (separated (items_in bs ++ bound i ∷ [])) in
      let own : Fits n (param_trees (type_param [] i bs None)) =
      subst (λ z. Fits n (param_trees (type_param [] i bs z))) e.1 (subst (λ z. Fits n (param_trees (type_param z i bs x))) e.0 h) in
      subst (λ z. Fits n (param_trees (type_param z i new x))) (sym e.0)
      (subst (λ z. Fits n (param_trees (type_param [] i new z))) (sym e.1) (more_bounds i bs own))
  bounded_param_fits (const_param as' i x c) e h = h

  bounded_params_fit : (ps : List ParamTree) → Each IsBare ps → Each (λ p. Fits n (param_trees p)) ps →
      Each (λ p. Fits n (param_trees p)) (map (additions.bounded bound) ps)
  bounded_params_fit [] e h = tt
  bounded_params_fit (p ∷ ps) e h = (bounded_param_fits p e.0 h.0, bounded_params_fit ps e.1 h.1)

-- ---- what an operator gives

module _ (n : ℕ) where
  -- derive_more::core::result::Result<T, derive_more::ERROR>
  result_fits : (x : TypeTree) (error : List Text) → are_words error ≡ true → Fits n (type_trees x) →
      Fits n (type_trees (result_of x error))
  result_fits x error e h =
      let failing : TypeTree = type_tree (path no_self (plain_path (words error))) nowhere in
      let both : ArgumentTrees = arguments_of (type_arg x ∷ type_arg failing ∷ []) in
      path_fits n (codes "derive_more" ∷ codes "core" ∷ codes "result" ∷ []) refl (word (codes "Result"))
      (word_called (codes "Result") refl) (angle false both false) (angle_fits n both (h, (word_path_fits n error e, tt)))

  binary_output_fits : (b : Bool) → Fits n (type_trees (binary_output b))
  binary_output_fits true = result_fits self_type (codes "derive_more" ∷ codes "BinaryError" ∷ []) refl (self_type_fits n)
  binary_output_fits false = self_type_fits n

  type_if : (b : Bool) (x y : TypeTree) → Fits n (type_trees x) → Fits n (type_trees y) → Fits n (type_trees (cond b x y))
  type_if true x y h k = h
  type_if false x y h k = k

  output_type_fits : (form : ops.Form) (d : Declaration) → Fits n (type_trees (implementor d)) → Fits n (type_trees (output_type form d))
  output_type_fits ops.structural d h = binary_output_fits (is_enum d)
  output_type_fits ops.scalar d h = self_type_fits n
  output_type_fits ops.unary d h =
      let names : List Text = codes "derive_more" ∷ codes "UnitError" ∷ [] in
      type_if (has_unit d) (result_of (implementor d) names) (implementor d) (result_fits (implementor d) names refl h) h

  -- `Self::Output`
  own_output_fits : Fits n (type_trees own_output)
  own_output_fits = word_path_fits n (codes "Self" ∷ codes "Output" ∷ []) refl

  returned_fits : (form : ops.Form) (d : Declaration) → Fits n (type_trees (implementor d)) → Fits n (type_trees (returned form d))
  returned_fits ops.structural d h = own_output_fits
  returned_fits ops.scalar d h = own_output_fits
  returned_fits ops.unary d h = output_type_fits ops.unary d h

  assocs_if : (b : Bool) (x : TypeTree) → Fits n (type_trees x) →
      fitting.Each (AssocFits n) (cond b [] (record { name = word (codes "Output"); ty = x } ∷ []))
  assocs_if true x h = tt
  assocs_if false x h = ((word_called (codes "Output") refl, h), tt)

  output_there : (b : Bool) (x : TypeTree) → Fits n (type_trees x) →
      fitting.IfThere (λ (y : TypeTree). Fits n (type_trees y)) (cond b None (Some x))
  output_there true x h = tt
  output_there false x h = h

  method_param_fits : (form : ops.Form) → fitting.IfThere (ParamFits n) (method_param form)
  method_param_fits ops.structural = (word_called (codes "__rhs") refl, self_type_fits n)
  method_param_fits ops.scalar = (word_called (codes "__rhs") refl, word_type_fits n (codes "__derive_more_Rhs") refl)
  method_param_fits ops.unary = tt

  method_attrs_fit : 0 < n → (form : ops.Form) → fitting.Each (AttrFits n) (method_attrs form)
  method_attrs_fit l ops.structural = (l, (l, tt))
  method_attrs_fit l ops.scalar = (l, (l, tt))
  method_attrs_fit l ops.unary = (l, tt)

  item_attrs_fit : 1 < n → (form : ops.Form) → fitting.Each (AttrFits n) (item_attrs form)
  item_attrs_fit l ops.structural = (l, (omega (arith, l), tt))
  item_attrs_fit l ops.scalar = (l, (omega (arith, l), tt))
  item_attrs_fit l ops.unary = (l, (l, (omega (arith, l), tt)))

-- ---- operators

module _ (o : Operator) (is : IsOperator o) (n : ℕ) (d : Declaration) (limit : ℕ) (ts : Trees) (m : Marks) (s : SpelledBy d limit ts m)
    (writable : AreWritable ts) (shallow : AreShallowWithin n ts) where
  operator_called : NameFits (word o.trait_name)
  operator_called = (operator_spellable o is).trait_name

  item_params_fit : (form : ops.Form) → Each (λ p. Fits n (param_trees p)) (item_params form o d)
  item_params_fit ops.structural = each_param_fits n d limit ts m s writable shallow
  item_params_fit ops.scalar =
      each_both (λ p. Fits n (param_trees p)) (params_of d) (right_param ∷ [])
      (each_param_fits n d limit ts m s writable shallow)
      (right_param_fits o operator_called n, tt)
  item_params_fit ops.unary =
      bounded_params_fit n (op_output o.trait_name) (op_output_fits o operator_called n) (params_of d) (params_are_bare d)
      (each_param_fits n d limit ts m s writable shallow)

  item_predicates_fit : Each (PredicateFits n) (item_predicates o d)
  item_predicates_fit =
      let form : ops.Form = form_in o d in
      let asks : List PredicateTree = needed_by (asking form o) d (cases_for o d) in
      each_both (PredicateFits n) (predicates_of d) (needed o d)
      (each_predicate_fits n d limit ts m s writable shallow)
      (each_both (PredicateFits n) asks (copied form (cases_for o d))
      (needed_fit n d limit ts m s writable shallow (asking form o) (asked_fits o operator_called n form) (skips o))
      (copied_if o operator_called n (copies_right form (cases_for o d))))

  method_fits : 7 ≤ n → AreFew o d → MethodFits (n - 1) (method_of o d)
  method_fits l few = record {
    attrs = method_attrs_fit (n - 1) (omega (arith, l)) (form_in o d);
    name = (operator_spellable o is).method;
    groups = omega (arith, l);
    param = method_param_fits (n - 1 - 1) (form_in o d);
    output =
        output_there (n - 1) o.assigning (returned (form_in o d) d)
        (returned_fits (n - 1) (form_in o d) d (implementor_fits_at n d limit ts m s writable shallow (n - 1)));
    body =
        method_body_fits (n - 1 - 1) (omega (arith, l)) o is d (declared_name d limit ts m s n writable shallow) few
        (declared_spellable d limit ts m s n writable shallow (skips o));
  }

  -- seven groups do: those of the implementation and of the method, and five in the body
  pub operator_fits_within : 7 ≤ n → AreFew o d → ItemFits n (item_of o d)
  operator_fits_within l few = record {
    attrs = item_attrs_fit n (omega (arith, l)) (form_in o d);
    params = all_fit n param_trees (item_params (form_in o d) o d) (item_params_fit (form_in o d));
    trait_path = implemented_fits o operator_called n (form_in o d);
    ty = implementor_fits_at n d limit ts m s writable shallow n;
    predicates = all_fit n predicate_trees (item_predicates o d) item_predicates_fit;
    groups = omega (arith, l);
    assocs =
        assocs_if (n - 1) o.assigning (output_type (form_in o d) d)
        (output_type_fits (n - 1) (form_in o d) d (implementor_fits_at n d limit ts m s writable shallow (n - 1)));
    methods = (method_fits l few, tt);
  }

pub operator_fits : (d : Declaration) (limit : ℕ) (ts : Trees) (m : Marks) → SpelledBy d limit ts m → AreWritable ts → AreShallow ts →
    (o : Operator) → IsOperator o → AreFew o d → ItemFits DEEPEST (item_of o d)
operator_fits d limit ts m s writable shallow o is few =
    operator_fits_within o is DEEPEST d limit ts m s writable shallow (omega arith) few
