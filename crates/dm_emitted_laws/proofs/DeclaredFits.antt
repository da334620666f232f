-- What is declared can be written, and is no deeper in groups than the declaration's own trees: its names, the types of its fields, its
-- parameters and predicates, and the declared type with an argument for each parameter.
use Rattle.std.proofs.Common.{◌≡◌, ℕ, suc, ◌+◌, Bool, true, false, cond, List, [], ◌∷◌, map, codes, not, Option, Some, None, refl, sym, subst, arith}
use Rattle.std.proofs.lemmas.Bool.{and_parts}
use Rattle.dm_stream.specs.declared.seq.Punctuated.{Punctuated}
use Rattle.dm_stream.specs.declared.tokens.Span.{Span}
use Rattle.dm_stream.specs.declared.tokens.Delim.{Delim}
use Rattle.dm_stream.specs.declared.tokens.Ident.{Ident}
use Rattle.dm_stream.specs.declared.tokens.Lifetime.{Lifetime}
use Rattle.dm_stream.specs.declared.tokens.Punct.{Punct}
use Rattle.dm_stream.specs.declared.tokens.Token.TheVariants as t
use Rattle.dm_stream.specs.Layout.{nowhere}
use Rattle.dm_stream.specs.Trees.{Trees, no_trees, token, group, join}
use Rattle.dm_lexer.specs.Lexemes.{is_punct}
use Rattle.dm_lexer.specs.Written.{are_spaced, AreWritable, AreShallowWithin}
use Rattle.dm_lexer.proofs.Writables.{writable-right, spellable-right}
use Rattle.dm_expr.specs.Cuts.{run_at}
use Rattle.dm_expr.proofs.Joining.{split_joins}
use Rattle.dm_ast.specs.declared.plain.Attribute.{Attribute}
use Rattle.dm_ast.specs.declared.plain.ConstArg.{ConstArg}
use Rattle.dm_ast.specs.declared.plain.Opaque.{Opaque}
use Rattle.dm_ast.specs.declared.plain.Vis.{Vis}
use Rattle.dm_ast.specs.declared.plain.Vis.TheVariants as vis
use Rattle.dm_ast.specs.Tree.{Lifetimes, TypeTree, BoundTree, bounds_of, arguments_of}
use Rattle.dm_ast.specs.TypeTokens as spell
use Rattle.dm_ast.specs.TypeTokens.{type_trees}
use Rattle.dm_ast.specs.Declarations.{Listed, FieldTree, FieldsTree, named, unnamed, unit, VariantTree, ShapeTree, struct_shape, enum_shape, union_shape, ParamTree, lifetime_param, type_param, const_param, PredicateTree, lifetime_predicate, type_predicate, GenericsTree, Declaration}
use Rattle.dm_ast.specs.Spelling.{Where, deeper, Marks, Spelling, Nothing, ◌then◌, Before, RangedAt, TokenAt, PairAt, GroupAt, AllAt, sees, sees_lifetime, sees_colon, sees_equals, at_end, lifetime, punct, keyword, colon, equals, perhaps, no_items, last_item, items_left, items}
use Rattle.dm_ast.specs.TypeGrammar.{name, attributes, type_spelled, plain_path, constant_spelled, for_lifetimes}
use Rattle.dm_ast.specs.DeclarationGrammar as grammar
use Rattle.dm_ast.specs.Runs.{run}
use Rattle.dm_ast.specs.Parsed.{SpelledBy}
use Rattle.dm_ast.specs.Implementors.{bare, params_of, predicates_in, predicates_of, argument, arguments}
use Rattle.dm_output.specs.Values.{Case, case_of_variant, cases, cases_of_shape, field_list}
use Rattle.dm_output.specs.Tokens.{param_trees, predicate_trees, maybe_lifetimes_trees, maybe_bounds_trees}
use Rattle.dm_syntax.proofs.Walked.{IsWalked, is_plain, walk_token, walk_punct, walk_lone, walk_word, walk_plain, walk_attributes, walk_for, walk_constant, walk_last_item, walk_no_items}
use Rattle.dm_syntax.proofs.WalkedTypes.{walk_type, walk_bounds}
use Rattle.dm_syntax.proofs.WritableBack.{writes}
use Rattle.dm_written.specs.Fitting as fitting
use Rattle.dm_written.specs.Fitting.{Fits, NameFits}
use Rattle.dm_written.proofs.Depths.{IsWithin, shallow_from, within_from, within_join}
use Rattle.dm_written.proofs.Fitted.{none_fits, join_fits, name_fits, lifetime_fits, punct_fits, spaced_fits, given_fits}
use Rattle.dm_operands.specs.declared.cases.Form.TheVariants as forms
use Rattle.dm_operands.specs.Marked.{mark_field, form_of, mark_case, marked}
use Rattle.dm_operands.specs.Sides.{field_ident}
use Rattle.dm_head_laws.specs.Parts.{Each}
use Rattle.dm_head_laws.proofs.HeadParts.{each_by}
use Rattle.dm_head_laws.proofs.DeclaredParts.{each_map, each_param}
use Rattle.dm_derived_laws.proofs.NeededAlone.{EachField}
use Rattle.dm_emitted_laws.specs.Spellable.{FieldSpellable, CaseSpellable}
use Rattle.dm_emitted_laws.proofs.BodiesFit.{plain_fits}

-- ---- depths

within_at : (n d : ℕ) (ts us : Trees) → ts ≡ us → IsWithin n d ts → IsWithin n d us
within_at n d ts us e h = subst (λ v. IsWithin n d v) e h

-- inside fewer groups
within_less : (n d : ℕ) (ts : Trees) → IsWithin n (suc d) ts → IsWithin n d ts
within_less n d no_trees h = tt
within_less n d (token k rest) h = (omega (arith, h.0), within_less n d rest h.1)
within_less n d (group e from inside upto rest) h = (omega (arith, h.0), within_less n (suc d) inside h.1, within_less n d rest h.2)

-- where the trees are so deep at the most, these are, and the others behind them
abbrev Sinks : Trees → Trees → Trees → Type 0
Sinks front ts o = (n d : ℕ) → IsWithin n d ts → IsWithin n d front × IsWithin n d o

sinks_join : (a b ts mid o : Trees) → Sinks a ts mid → Sinks b mid o → Sinks (join a b) ts o
sinks_join a b ts mid o e f n d h =
    let x = e n d h in
    let y = f n d x.1 in
    (within_join n d a b x.0 y.0, y.1)

sinks_none : (ts o : Trees) → ts ≡ o → Sinks no_trees ts o
sinks_none ts o e n d h = (tt, within_at n d ts o e h)

sinks_token : (w : Where) (k : t.the_data) → is_plain k ≡ true → (ts o : Trees) (m : Marks) → TokenAt w k ts o m → Sinks (spell.one k) ts o
sinks_token w k p ts o m s n d h = let g = within_at n d ts (token k o) s.spelled h in ((g.0, tt), g.1)

sinks_one : (r : Span) (c : ℕ) (p : Punct) (ts o : Trees) → p.ch ≡ c → ts ≡ token (t.Punct p) o → Sinks (spell.punct c r) ts o
sinks_one r c p ts o e q n d h = let g = within_at n d ts (token (t.Punct p) o) q h in ((g.0, tt), g.1)

sinks_pair : (r : Span) (w : Where) (a b : ℕ) (ts o : Trees) (m : Marks) → PairAt w a b ts o m → Sinks (spell.joint a b r) ts o
sinks_pair r w a b ts o m s n d h =
    let g = within_at n d ts (token (t.Punct s.first) (token (t.Punct s.second) o)) s.spelled h in
    ((g.0, (g.1.0, tt)), g.1.1)

sinks_word : (r : Span) (w : Where) (word : List ℕ) (ts o : Trees) (m : Marks) → keyword w word ts o m → Sinks (spell.word word r) ts o
sinks_word r w word ts o m s n d h =
    let g = within_at n d ts (token (t.Ident record { name = word; raw = false; span = s.range }) o) s.there.spelled h in
    ((g.0, tt), g.1)

sinks_group : (w : Where) (d : Delim) (a : Trees) (Inside : Where → Spelling) (ts o : Trees) (m : Marks) → GroupAt w d Inside ts o m →
    ((v : Where) (i : Trees) (k : Marks) → Inside v i no_trees k → Sinks a i no_trees) → Sinks (spell.grouped d a) ts o
sinks_group w e a Inside ts o m s f n d h =
    let g = within_at n d ts (group e s.opener s.inside s.closer o) s.spelled h in
    let x = f (record { level = w.level + 1; limit = s.closer.start }) s.inside s.inner_marks s.whole n (suc d) g.1 in
    ((g.0, x.0, tt), g.2)

sinks_all : (w : Where) (all ts o : Trees) (m : Marks) → AllAt w all ts o m → Sinks all ts o
sinks_all w all ts o m s n d h = (within_at n d ts all s.spelled h, within_at n d no_trees o (sym s.none_left) tt)

sinks : IsWalked (λ _ front ts o. Sinks front ts o)
sinks = record {
  joined = λ ps qs. sinks_join;
  none = sinks_none;
  plain = sinks_token;
  one = sinks_one;
  pair = sinks_pair;
  word = sinks_word;
  grouped = λ ps. sinks_group;
  all = sinks_all;
}

-- ---- both

abbrev Keeps : Trees → Trees → Trees → Type 0
Keeps front ts o = (AreWritable ts → AreWritable front × AreWritable o) × Sinks front ts o

keeps : IsWalked (λ _ front ts o. Keeps front ts o)
keeps = record {
  joined = λ ps qs a b ts mid o e f. (writes.joined ps qs a b ts mid o e.0 f.0, sinks_join a b ts mid o e.1 f.1);
  none = λ ts o e. (writes.none ts o e, sinks_none ts o e);
  plain = λ w k p ts o m s. (writes.plain w k p ts o m s, sinks_token w k p ts o m s);
  one = λ r c p ts o e q. (writes.one r c p ts o e q, sinks_one r c p ts o e q);
  pair = λ r w a b ts o m s. (writes.pair r w a b ts o m s, sinks_pair r w a b ts o m s);
  word = λ r w x ts o m s. (writes.word r w x ts o m s, sinks_word r w x ts o m s);
  grouped = λ ps w d a Inside ts o m s f.
      (writes.grouped ps w d a Inside ts o m s (λ v i k h. (f v i k h).0), sinks_group w d a Inside ts o m s (λ v i k h. (f v i k h).1));
  all = λ w x ts o m s. (writes.all w x ts o m s, sinks_all w x ts o m s);
}

pub kept_fits : (n : ℕ) (front ts o : Trees) → Keeps front ts o → Fits n ts → Fits n front × Fits n o
kept_fits n front ts o e h =
    let a = e.0 h.writable in
    let b = e.1 n 0 (within_from n ts h.shallow) in (
      record { writable = a.0; shallow = shallow_from n front b.0 },
      record { writable = a.1; shallow = shallow_from n o b.1 },
    )

-- ---- what follows from trees that fit, of what stands in front of them; and so do the others

abbrev Yields : ℕ → Spelling → Type 0 → Type 0
Yields n S R = (ts o : Trees) (m : Marks) → S ts o m → Fits n ts → R × Fits n o

at_fits : (n : ℕ) (ts us : Trees) → ts ≡ us → Fits n ts → Fits n us
at_fits n ts us e h = subst (λ v. Fits n v) e h

within_right : (n d : ℕ) (ts us : Trees) → IsWithin n d (join ts us) → IsWithin n d us
within_right n d no_trees us h = h
within_right n d (token k rest) us h = within_right n d rest us h.1
within_right n d (group e from inside upto rest) us h = within_right n d rest us h.2

right_fits : (n : ℕ) (ts us : Trees) → Fits n (join ts us) → Fits n us
right_fits n ts us h = record {
  writable = writable-right ts us h.writable;
  shallow = shallow_from n us (within_right n 0 ts us (within_from n (join ts us) h.shallow));
}

inside_fits : (n : ℕ) (d : Delim) (from : Span) (inside : Trees) (upto : Span) (o : Trees) → Fits n (group d from inside upto o) →
    Fits n inside × Fits n o
inside_fits n d from inside upto o h =
    let g = within_from n (group d from inside upto o) h.shallow in
    let both = and_parts (are_spaced inside) (are_spaced o) h.writable.spaced in (
      record {
        writable = record { spellable = h.writable.spellable.0; spaced = both.0 };
        shallow = shallow_from n inside (within_less n 0 inside g.1);
      },
      record { writable = record { spellable = h.writable.spellable.1; spaced = both.1 }; shallow = shallow_from n o g.2 },
    )

-- the trees of each
all_fit : {A : Type 0} (n : ℕ) (trees : A → Trees) (xs : List A) → Each (λ x. Fits n (trees x)) xs → fitting.Each (Fits n) (map trees xs)
all_fit n trees [] h = tt
all_fit n trees (x ∷ xs) h = (h.0, all_fit n trees xs h.1)

-- there is a name, and it is spellable
abbrev IsCalled : Option Ident → Type 0
IsCalled None = ⊥
IsCalled (Some i) = NameFits i

module _ (n : ℕ) where
  -- parts that are written again
  yields_kept : (S : Spelling) (front : Trees) → ((ts o : Trees) (m : Marks) → S ts o m → Keeps front ts o) → Yields n S (Fits n front)
  yields_kept S front f ts o m s h = kept_fits n front ts o (f ts o m s) h

  yields_then : {A B : Spelling} {R Q : Type 0} → Yields n A R → Yields n B Q → Yields n (A then B) (R × Q)
  yields_then f g ts o m s h =
      let x = f ts s.middle s.first_marks s.first h in
      let y = g s.middle o s.rest_marks s.rest x.1 in
      ((x.0, y.0), y.1)

  yields_by : {A : Spelling} {R Q : Type 0} → (R → Q) → Yields n A R → Yields n A Q
  yields_by f g ts o m s h = let x = g ts o m s h in (f x.0, x.1)

  -- of the first, or of the second
  yields_first : {A B : Spelling} {R Q : Type 0} → Yields n A R → Yields n B Q → Yields n (A then B) R
  yields_first {A} {B} {R} {Q} f g = yields_by (λ (x : R × Q). x.0) (yields_then f g)

  yields_rest : {A B : Spelling} {R Q : Type 0} → Yields n A R → Yields n B Q → Yields n (A then B) Q
  yields_rest {A} {B} {R} {Q} f g = yields_by (λ (x : R × Q). x.1) (yields_then f g)

  yields_join : {A B : Spelling} {a b : Trees} → Yields n A (Fits n a) → Yields n B (Fits n b) → Yields n (A then B) (Fits n (join a b))
  yields_join {A} {B} {a} {b} f g = yields_by (λ (x : Fits n a × Fits n b). join_fits x.0 x.1) (yields_then f g)

  yields_ranged : {r : Span} {A : Spelling} {R : Type 0} → Yields n A R → Yields n (RangedAt r A) R
  yields_ranged f ts o m s h = f ts o m s.part h

  yields_group : (w : Where) (d : Delim) (Inside : Where → Spelling) (R : Type 0) → ((v : Where) → Yields n (Inside v) R) →
      Yields n (GroupAt w d Inside) R
  yields_group w d Inside R f ts o m s h =
      let g = inside_fits n d s.opener s.inside s.closer o (at_fits n ts (group d s.opener s.inside s.closer o) s.spelled h) in
      let x = f (record { level = w.level + 1; limit = s.closer.start }) s.inside no_trees s.inner_marks s.whole g.0 in
      (x.0, g.1)

  -- ---- single tokens, types and attributes

  yields_token : (w : Where) (k : t.the_data) → is_plain k ≡ true → Yields n (TokenAt w k) (Fits n (spell.one k))
  yields_token w k p = yields_kept (TokenAt w k) (spell.one k) (λ ts o m s. walk_token keeps w k p ts o m s)

  yields_punct : (w : Where) (c : ℕ) → Yields n (punct w c) (Fits n (spell.punct c nowhere))
  yields_punct w c = yields_kept (punct w c) (spell.punct c nowhere) (λ ts o m s. walk_punct keeps nowhere w c ts o m s)

  yields_word : (w : Where) (x : List ℕ) → Yields n (keyword w x) (Fits n (spell.word x nowhere))
  yields_word w x = yields_kept (keyword w x) (spell.word x nowhere) (λ ts o m s. walk_word keeps nowhere w x ts o m s)

  yields_colon : (w : Where) → Yields n (colon w) (Fits n (spell.punct 58 nowhere))
  yields_colon w = yields_kept (colon w) (spell.punct 58 nowhere) (λ ts o m s. walk_lone keeps nowhere w 58 (58 ∷ []) ts o m s)

  yields_equals : (w : Where) → Yields n (equals w) (Fits n (spell.punct 61 nowhere))
  yields_equals w = yields_kept (equals w) (spell.punct 61 nowhere) (λ ts o m s. walk_lone keeps nowhere w 61 (61 ∷ 62 ∷ []) ts o m s)

  yields_name : (w : Where) (i : Ident) → Yields n (name w i) (NameFits i)
  yields_name w i ts o m s h = let x = yields_token w (t.Ident i) refl ts o m s.part h in (x.0.writable.spellable.0, x.1)

  yields_type : (x : TypeTree) (w : Where) → Yields n (type_spelled x false w) (Fits n (type_trees x))
  yields_type x w = yields_kept (type_spelled x false w) (type_trees x) (λ ts o m s. walk_type keeps x false w ts o m s)

  yields_attributes : (w : Where) (as' : List Attribute) → Yields n (attributes w as') (Fits n (spell.attributes_trees as'))
  yields_attributes w as' = yields_kept (attributes w as') (spell.attributes_trees as') (λ ts o m s. walk_attributes keeps w as' ts o m s)

  yields_plain : (w : Where) (p : _) → Yields n (plain_path w p) (Fits n (spell.plain_trees nowhere p))
  yields_plain w p = yields_kept (plain_path w p) (spell.plain_trees nowhere p) (λ ts o m s. walk_plain keeps nowhere w p ts o m s)

  -- nothing
  yields_absent : (F : Trees → Type 0) → Yields n (Before F Nothing) (Fits n no_trees)
  yields_absent F ts o m s h = (none_fits n, at_fits n ts o s.part.spelled h)

  -- ---- what is only passed by

  yields_past : {A : Spelling} {R : Type 0} → Yields n A R → Yields n A (Unit {0})
  yields_past {A} {R} f = yields_by (λ (x : R). tt) f

  yields_restriction : (w : Where) (v : Vis) → Yields n (grammar.restriction w v) (Unit {0})
  yields_restriction w vis.Public = yields_past (yields_absent _)
  yields_restriction w vis.Crate =
      yields_group w _ (λ v. keyword v (codes "crate")) (Unit {0}) (λ v. yields_past (yields_word v (codes "crate")))
  yields_restriction w vis.SelfOnly =
      yields_group w _ (λ v. keyword v (codes "self")) (Unit {0}) (λ v. yields_past (yields_word v (codes "self")))
  yields_restriction w vis.Super =
      yields_group w _ (λ v. keyword v (codes "super")) (Unit {0}) (λ v. yields_past (yields_word v (codes "super")))
  yields_restriction w (vis.In p) =
      yields_group w _ (λ v. keyword v (codes "in") then plain_path v p) (Unit {0})
      (λ v. yields_past (yields_then (yields_word v (codes "in")) (yields_plain v p)))

  yields_visibility : (w : Where) (v : Option Vis) → Yields n (grammar.visibility w v) (Unit {0})
  yields_visibility w None = yields_past (yields_absent _)
  yields_visibility w (Some v) = yields_rest (yields_word w (codes "pub")) (yields_restriction w v)

  yields_run : (w : Where) (x : Opaque) → Yields n (run x w) (Unit {0})
  yields_run w x ts o m s h =
      (tt, right_fits n s.front o (at_fits n ts (join s.front o) (split_joins (run_at false ts) ts s.front o s.cut) h))

  yields_discriminant : (w : Where) (x : Option Opaque) → Yields n (grammar.discriminant run x w) (Unit {0})
  yields_discriminant w None = yields_past (yields_absent _)
  yields_discriminant w (Some x) = yields_rest (yields_equals w) (yields_run w x)

  yields_default_type : (w : Where) (x : Option TypeTree) →
      Yields n (perhaps sees_equals x (λ y. equals w then type_spelled y false w)) (Unit {0})
  yields_default_type w None = yields_past (yields_absent _)
  yields_default_type w (Some x) = yields_past (yields_then (yields_equals w) (yields_type x w))

  yields_default_const : (w : Where) (x : Option ConstArg) →
      Yields n (perhaps sees_equals x (λ y. equals w then constant_spelled w y)) (Unit {0})
  yields_default_const w None = yields_past (yields_absent _)
  yields_default_const w (Some x) =
      yields_past (yields_then (yields_equals w) (yields_kept (constant_spelled w x) (spell.const_trees nowhere x)
      (λ ts o m s. walk_constant keeps nowhere w x ts o m s)))

  -- ---- lists

  module _ (w : Where) (c : ℕ) (ends : Trees → Bool) where
    yields_last : (u : Bool) → Yields n (last_item w c ends u) (Unit {0})
    yields_last u =
        yields_past (yields_kept (last_item w c ends u) (spell.given u (spell.punct c nowhere))
        (λ ts o m s. walk_last_item keeps nowhere w c ends u ts o m s))

    yields_no_items : (u : Bool) → Yields n (no_items w c ends u) (Unit {0})
    yields_no_items u =
        yields_past (yields_kept (no_items w c ends u) (spell.listed c nowhere [] u)
        (λ ts o m s. walk_no_items keeps c nowhere w ends u ts o m s))

    module _ {A : Type 0} (S : A → Spelling) (R : A → Type 0) (f : (x : A) → Yields n (S x) (R x)) where
      yields_left : (xs : List A) (u : Bool) → Yields n (items_left w c ends S xs u) (Each R xs)
      yields_left [] u = yields_last u
      yields_left (x ∷ xs) u = yields_rest (yields_punct w c) (yields_then (f x) (yields_left xs u))

      yields_items : (xs : List A) (u : Bool) → Yields n (items w c ends S xs u) (Each R xs)
      yields_items [] u = yields_no_items u
      yields_items (x ∷ xs) u = yields_then (f x) (yields_left xs u)

  -- the trees of each of a list, with a separator between
  separated : {A : Type 0} (c : ℕ) → is_punct c ≡ true → (trees : A → Trees) (xs : List A) (u : Bool) → Each (λ x. Fits n (trees x)) xs →
      Fits n (spell.listed c nowhere (map trees xs) u)
  separated c k trees xs u h =
      join_fits (spaced_fits true (map trees xs) (punct_fits n c k) (all_fit n trees xs h)) (given_fits u (punct_fits n c k))

  -- ---- parameters

  yields_lifetimes : (w : Where) (ls : Punctuated Lifetime) →
      Yields n (grammar.lifetime_bounds w ls) (Fits n (spell.listed 43 nowhere (map spell.lifetime ls.items) ls.trailing))
  yields_lifetimes w ls =
      yields_by (separated 43 refl spell.lifetime ls.items ls.trailing)
      (yields_items w 43 (λ ts. not (sees_lifetime ts)) (lifetime w) (λ l. Fits n (spell.lifetime l))
      (λ l. yields_token w (t.Lifetime l) refl) ls.items ls.trailing)

  yields_bounds : (w : Where) (bs : Listed BoundTree) →
      Yields n (grammar.bound_list w bs) (Fits n (spell.listed 43 nowhere (spell.each_bound nowhere (bounds_of bs.items)) bs.trailing))
  yields_bounds w bs =
      yields_kept (grammar.bound_list w bs) (spell.listed 43 nowhere (spell.each_bound nowhere (bounds_of bs.items)) bs.trailing)
      (λ ts o m s. walk_bounds keeps (bounds_of bs.items) nowhere bs.trailing w ts o m s)

  yields_maybe_lifetimes : (w : Where) (ls : Lifetimes) →
      Yields n (perhaps sees_colon ls (λ l. colon w then grammar.lifetime_bounds w l)) (Fits n (maybe_lifetimes_trees ls))
  yields_maybe_lifetimes w None = yields_absent _
  yields_maybe_lifetimes w (Some ls) = yields_join (yields_colon w) (yields_lifetimes w ls)

  yields_maybe_bounds : (w : Where) (bs : Option (Listed BoundTree)) →
      Yields n (perhaps sees_colon bs (λ b. colon w then grammar.bound_list w b)) (Fits n (maybe_bounds_trees bs))
  yields_maybe_bounds w None = yields_absent _
  yields_maybe_bounds w (Some bs) = yields_join (yields_colon w) (yields_bounds w bs)

  -- without its attributes and its default
  abbrev BareFits : ParamTree → Type 0
  BareFits p = Fits n (param_trees (bare p))

  yields_param : (p : ParamTree) (w : Where) → Yields n (grammar.param p w) (BareFits p)
  yields_param (lifetime_param as' l bs) w =
      yields_rest (yields_attributes w as') (yields_join (yields_token w (t.Lifetime l) refl) (yields_maybe_lifetimes w bs))
  yields_param (type_param as' i bs x) w =
      yields_rest (yields_attributes w as')
      (yields_join (yields_by (name_fits n i) (yields_name w i))
      (yields_by (λ h. join_fits h (none_fits n)) (yields_first (yields_maybe_bounds w bs) (yields_default_type w x))))
  yields_param (const_param as' i x c) w =
      yields_rest (yields_attributes w as')
      (yields_join (yields_word w (codes "const"))
      (yields_join (yields_by (name_fits n i) (yields_name w i))
      (yields_join (yields_colon w)
      (yields_by (λ h. join_fits h (none_fits n)) (yields_first (yields_type x w) (yields_default_const w c))))))

  yields_generics : (b : Bool) (ps : Listed ParamTree) (w : Where) → Yields n (grammar.generics b ps w) (Each BareFits ps.items)
  yields_generics true ps w ts o m s h =
      yields_rest (yields_punct w 60)
      (yields_first
      (yields_items (deeper w) 44 (sees 62) (λ p. grammar.param p (deeper w)) BareFits
      (λ p. yields_param p (deeper w)) ps.items ps.trailing)
      (yields_punct w 62)) ts o m s.part h
  yields_generics false ps w ts o m s h =
      (subst (λ (z : Listed ParamTree). Each BareFits z.items) (sym (s.fact refl)) tt, at_fits n ts o s.part.part.spelled h)

  -- ---- predicates

  abbrev PredicateFits : PredicateTree → Type 0
  PredicateFits p = Fits n (predicate_trees p)

  yields_predicate : (p : PredicateTree) (w : Where) → Yields n (grammar.predicate p w) (PredicateFits p)
  yields_predicate (lifetime_predicate l ls) w =
      yields_join (yields_token w (t.Lifetime l) refl) (yields_join (yields_colon w) (yields_lifetimes w ls))
  yields_predicate (type_predicate ls x bs) w =
      yields_join (yields_kept (for_lifetimes w ls) (spell.for_trees nowhere ls) (λ ts o m s. walk_for keeps nowhere w ls ts o m s))
      (yields_join (yields_type x w) (yields_join (yields_colon w) (yields_bounds w bs)))

  yields_where : (c : Option (Listed PredicateTree)) (w : Where) →
      Yields n (grammar.where_clause c w) (Each PredicateFits (predicates_in c))
  yields_where None w = yields_past (yields_absent _)
  yields_where (Some ps) w =
      yields_rest (yields_word w (codes "where"))
      (yields_items w 44 grammar.ends_where (λ p. grammar.predicate p w) PredicateFits (λ p. yields_predicate p w) ps.items ps.trailing)

  -- ---- fields and variants

  abbrev TypeFits : FieldTree → Type 0
  TypeFits f = Fits n (type_trees f.ty)

  -- between braces
  abbrev NamedFits : FieldTree → Type 0
  NamedFits f = IsCalled f.ident × TypeFits f

  -- between parentheses
  abbrev SlotFits : FieldTree → Type 0
  SlotFits f = (f.ident ≡ None) × TypeFits f

  abbrev FieldsFit : FieldsTree → Type 0
  FieldsFit (named fs) = Each NamedFits fs.items
  FieldsFit (unnamed fs) = Each SlotFits fs.items
  FieldsFit unit = Unit {0}

  abbrev CaseFits : Case → Type 0
  CaseFits c = NameFits c.ident × FieldsFit c.fields

  abbrev VariantFits : VariantTree → Type 0
  VariantFits x = CaseFits (case_of_variant x)

  yields_field_name : (i : Option Ident) (w : Where) → Yields n (grammar.field_name i w) (IsCalled i)
  yields_field_name None w ts o m s h = absurd s.fact
  yields_field_name (Some i) w ts o m s h = yields_first (yields_name w i) (yields_colon w) ts o m s h

  yields_named : (f : FieldTree) (w : Where) → Yields n (grammar.named_field f w) (NamedFits f)
  yields_named f w =
      yields_ranged
      (yields_rest (yields_attributes w f.attrs) (yields_rest (yields_visibility w f.vis)
      (yields_then (yields_field_name f.ident w) (yields_type f.ty w))))

  yields_slot : (f : FieldTree) (w : Where) → Yields n (grammar.slot f w) (SlotFits f)
  yields_slot f w ts o m s h =
      let typed = yields_rest (yields_attributes w f.attrs) (yields_rest (yields_visibility w f.vis) (yields_type f.ty w)) in
      let x = yields_ranged typed ts o m s.part h in
      ((s.fact, x.0), x.1)

  yields_braced : (fs : Listed FieldTree) (w : Where) → Yields n (grammar.braced fs w) (Each NamedFits fs.items)
  yields_braced fs w =
      yields_group w _ (λ v. grammar.listed at_end grammar.named_field fs v) (Each NamedFits fs.items)
      (λ v. yields_items v 44 at_end (λ f. grammar.named_field f v) NamedFits (λ f. yields_named f v) fs.items fs.trailing)

  yields_slots : (fs : Listed FieldTree) (w : Where) → Yields n (grammar.slots fs w) (Each SlotFits fs.items)
  yields_slots fs w =
      yields_group w _ (λ v. grammar.listed at_end grammar.slot fs v) (Each SlotFits fs.items)
      (λ v. yields_items v 44 at_end (λ f. grammar.slot f v) SlotFits (λ f. yields_slot f v) fs.items fs.trailing)

  yields_fields : (fs : FieldsTree) (w : Where) → Yields n (grammar.variant_fields fs w) (FieldsFit fs)
  yields_fields (named fs) w = yields_braced fs w
  yields_fields (unnamed fs) w = yields_slots fs w
  yields_fields unit w = yields_past (yields_absent _)

  yields_variant : (x : VariantTree) (w : Where) → Yields n (grammar.variant run x w) (CaseFits (case_of_variant x))
  yields_variant x w =
      yields_ranged
      (yields_rest (yields_attributes w x.attrs)
      (yields_rest (yields_visibility w x.vis)
      (yields_then (yields_name w x.ident) (yields_first (yields_fields x.fields w) (yields_discriminant w x.discriminant)))))

  yields_variants : (xs : Listed VariantTree) (w : Where) →
      Yields n (grammar.variants run xs w) (Each VariantFits xs.items)
  yields_variants xs w =
      yields_group w _ (λ v. grammar.listed at_end (grammar.variant run) xs v) (Each VariantFits xs.items)
      (λ v. yields_items v 44 at_end (λ x. grammar.variant run x v) VariantFits
      (λ x. yields_variant x v) xs.items xs.trailing)

  -- ---- the whole declaration

  -- what stands behind the generics of a struct
  yields_body : (fs : FieldsTree) (c : Option (Listed PredicateTree)) (w : Where) →
      Yields n (grammar.struct_body fs c w) (FieldsFit fs × Each PredicateFits (predicates_in c))
  yields_body (named fs) c w = yields_by (λ h. (h.1, h.0)) (yields_then (yields_where c w) (yields_braced fs w))
  yields_body (unnamed fs) c w = yields_then (yields_slots fs w) (yields_first (yields_where c w) (yields_punct w 59))
  yields_body unit c w = yields_by (λ h. (tt, h)) (yields_first (yields_where c w) (yields_punct w 59))

  -- all that is declared
  record Declared (i : Ident) (g : GenericsTree) (cs : List Case) : Type 0 where
    ident : NameFits i
    params : Each BareFits g.params.items
    predicates : Each PredicateFits (predicates_in g.where_clause)
    each_case : Each CaseFits cs

  yields_head : (letters : List ℕ) (range : Span) (i : Ident) (g : GenericsTree) (w : Where) {Body : Spelling} {R : Type 0} →
      Yields n Body R →
      Yields n (grammar.keyword_at w letters range then (name w i then (grammar.generics g.angled g.params w then Body)))
      (NameFits i × (Each BareFits g.params.items × R))
  yields_head letters range i g w body =
      yields_rest (yields_token w (t.Ident record { name = letters; raw = false; span = range }) refl)
      (yields_then (yields_name w i) (yields_then (yields_generics g.angled g.params w) body))

  yields_shape : (as' : List Attribute) (i : Ident) (g : GenericsTree) (w : Where) (x : ShapeTree) →
      Yields n (grammar.shape run x i g w) (Declared i g (cases_of_shape as' i x))
  yields_shape as' i g w (struct_shape range fs) =
      yields_by of_struct (yields_head (codes "struct") range i g w (yields_body fs g.where_clause w))
    where
      of_struct : NameFits i × (Each BareFits g.params.items × (FieldsFit fs × Each PredicateFits (predicates_in g.where_clause))) →
          Declared i g (cases_of_shape as' i (struct_shape range fs))
      of_struct h = record { ident = h.0; params = h.1.0; predicates = h.1.1.1; each_case = ((h.0, h.1.1.0), tt) }
  yields_shape as' i g w (enum_shape range xs) =
      yields_by of_enum (yields_head (codes "enum") range i g w (yields_then (yields_where g.where_clause w) (yields_variants xs w)))
    where
      of_enum : NameFits i ×
          (Each BareFits g.params.items × (Each PredicateFits (predicates_in g.where_clause) × Each VariantFits xs.items)) →
          Declared i g (cases_of_shape as' i (enum_shape range xs))
      of_enum h =
          record { ident = h.0; params = h.1.0; predicates = h.1.1.0; each_case = each_map CaseFits case_of_variant xs.items h.1.1.1 }
  yields_shape as' i g w (union_shape range fs) =
      yields_by of_union (yields_head (codes "union") range i g w (yields_first (yields_where g.where_clause w) (yields_braced fs w)))
    where
      of_union : NameFits i × (Each BareFits g.params.items × Each PredicateFits (predicates_in g.where_clause)) →
          Declared i g (cases_of_shape as' i (union_shape range fs))
      of_union h = record { ident = h.0; params = h.1.0; predicates = h.1.1; each_case = ((h.0, tt), tt) }

  yields_declaration : (d : Declaration) (w : Where) → Yields n (grammar.declaration run d w) (Declared d.ident d.generics (cases d))
  yields_declaration d w =
      yields_rest (yields_attributes w d.attrs) (yields_rest (yields_visibility w d.vis)
      (yields_shape d.attrs d.ident d.generics w d.shape))

-- ---- the declared type

module _ (n : ℕ) where
  argument_fits : (p : ParamTree) → Fits n (param_trees p) → Fits n (spell.argument_trees nowhere (argument p))
  argument_fits (lifetime_param as' l bs) h = lifetime_fits n l (spellable-right (spell.attributes_trees as') _ h.writable.spellable).0
  argument_fits (type_param as' i bs x) h =
      plain_fits n (i ∷ []) ((spellable-right (spell.attributes_trees as') _ h.writable.spellable).0, tt)
  argument_fits (const_param as' i x c) h =
      plain_fits n (i ∷ []) ((spellable-right (spell.attributes_trees as') _ h.writable.spellable).1.0, tt)

  each_argument_fits : (ps : List ParamTree) → Each (λ p. Fits n (param_trees p)) ps →
      fitting.Each (Fits n) (spell.each_argument nowhere (arguments_of (map argument ps)))
  each_argument_fits [] h = tt
  each_argument_fits (p ∷ ps) h = (argument_fits p h.0, each_argument_fits ps h.1)

  arguments_fit : (ps : List ParamTree) → Each (λ p. Fits n (param_trees p)) ps → Fits n (spell.arguments_trees nowhere (arguments ps))
  arguments_fit [] h = none_fits n
  arguments_fit (p ∷ ps) h =
      let between : Trees = spell.punct 44 nowhere in
      let each : List Trees = spell.each_argument nowhere (arguments_of (map argument (p ∷ ps))) in
      let all : Fits n (spell.spaced between true each) = spaced_fits true each (punct_fits n 44 refl) (each_argument_fits (p ∷ ps) h) in
      join_fits (none_fits n) (join_fits (punct_fits n 60 refl) (join_fits (join_fits all (none_fits n)) (punct_fits n 62 refl)))

-- ---- all of it

called_field : (i : Option Ident) → IsCalled i → NameFits (field_ident i)
called_field None h = absurd h
called_field (Some i) h = h

maybe_called : (i : Option Ident) → IsCalled i → fitting.IfThere NameFits i
maybe_called None h = tt
maybe_called (Some i) h = h

not_called : (i : Option Ident) → i ≡ None → fitting.IfThere NameFits i
not_called None e = tt
not_called (Some i) e = absurd cc

-- what holds of the fields of a case holds where each has its mark
marked_spellable : (leaves_out : List Attribute → Bool) (b : Bool) (fs : List FieldTree) → Each (λ f. NameFits (field_ident f.ident)) fs →
    Each FieldSpellable (cond b [] (map (mark_field leaves_out) fs))
marked_spellable leaves_out true fs h = tt
marked_spellable leaves_out false fs h = each_map FieldSpellable (mark_field leaves_out) fs h

-- the fields of a case that fits
module _ (n : ℕ) where
  names_fit : (fs : FieldsTree) → FieldsFit n fs → Each (λ f. fitting.IfThere NameFits f.ident) (field_list fs)
  names_fit (named fs) h = each_by (λ f g. maybe_called f.ident g.0) fs.items h
  names_fit (unnamed fs) h = each_by (λ f g. not_called f.ident g.0) fs.items h
  names_fit unit h = tt

  types_fit : (fs : FieldsTree) → FieldsFit n fs → Each (TypeFits n) (field_list fs)
  types_fit (named fs) h = each_by (λ f g. g.1) fs.items h
  types_fit (unnamed fs) h = each_by (λ f g. g.1) fs.items h
  types_fit unit h = tt

  spellable_fields : (leaves_out : List Attribute → Bool) (b : Bool) (fs : FieldsTree) → FieldsFit n fs → form_of fs ≡ forms.Named →
      Each FieldSpellable (cond b [] (map (mark_field leaves_out) (field_list fs)))
  spellable_fields leaves_out b (named fs) h e =
      marked_spellable leaves_out b fs.items (each_by (λ f g. called_field f.ident g.0) fs.items h)
  spellable_fields leaves_out b (unnamed fs) h e = absurd cc
  spellable_fields leaves_out b unit h e = absurd cc

  case_spellable : (leaves_out : List Attribute → Bool) (c : Case) → CaseFits n c → CaseSpellable (mark_case leaves_out c)
  case_spellable leaves_out c h = record { ident = h.0; named = spellable_fields leaves_out (leaves_out c.attrs) c.fields h.1 }

module _ (d : Declaration) (limit : ℕ) (ts : Trees) (m : Marks) (s : SpelledBy d limit ts m) (k : ℕ) (writable : AreWritable ts)
    (shallow : AreShallowWithin k ts) where
  declared : Declared k d.ident d.generics (cases d)
  declared =
      let w : Where = record { level = 0; limit = limit } in
      (yields_declaration k d w ts no_trees m s.spelled (record { writable = writable; shallow = shallow })).0

  -- the names of the declaration, of its variants and of its fields
  pub declared_name : NameFits d.ident
  declared_name = declared.ident

  pub declared_spellable : (leaves_out : List Attribute → Bool) → Each CaseSpellable (marked leaves_out d)
  declared_spellable leaves_out =
      each_map CaseSpellable (mark_case leaves_out) (cases d)
      (each_by (case_spellable k leaves_out) (cases d) declared.each_case)

  -- the types of the fields
  pub declared_types_fit : EachField (λ x. Fits k (type_trees x)) d
  declared_types_fit = each_by (λ c h. types_fit k c.fields h.1) (cases d) declared.each_case

  -- parameters and predicates
  bare_params_fit : Each (λ p. Fits k (param_trees p)) (params_of d)
  bare_params_fit = each_param (λ p. Fits k (param_trees p)) d.generics.params.items declared.params

  pub declared_params_fit : fitting.Each (Fits k) (map param_trees (params_of d))
  declared_params_fit = all_fit k param_trees (params_of d) bare_params_fit

  pub declared_predicates_fit : fitting.Each (Fits k) (map predicate_trees (predicates_of d))
  declared_predicates_fit = all_fit k predicate_trees (predicates_of d) declared.predicates
