-- What is declared is spelled alone, without its ranges: parameters, predicates, the types of fields, and the declared type with an
-- argument for each parameter.
use Rattle.std.proofs.Common.{◌≡◌, ℕ, zero, suc, ◌+◌, Bool, true, false, cond, List, [], ◌∷◌, ◌++◌, map, filter, slice_get, codes, Option, Some, None, IsTrue, refl, sym, ap, ◌∙◌, subst, append-nil, arith}
use Rattle.dm_stream.specs.declared.tokens.Span.{Span}
use Rattle.dm_stream.specs.declared.tokens.Delim.{Delim}
use Rattle.dm_stream.specs.declared.tokens.Ident.{Ident}
use Rattle.dm_stream.specs.declared.tokens.Lifetime.{Lifetime}
use Rattle.dm_stream.specs.Trees.{Trees, no_trees, join, join-no_trees}
use Rattle.dm_ast.specs.declared.plain.Attribute.{Attribute}
use Rattle.dm_ast.specs.Keywords.{is_name}
use Rattle.dm_ast.specs.Tree.{Lifetimes, TypeTree, BoundTree}
use Rattle.dm_ast.specs.Declarations.{Listed, FieldTree, FieldsTree, named, unnamed, unit, VariantTree, ShapeTree, struct_shape, enum_shape, union_shape, ParamTree, lifetime_param, type_param, const_param, PredicateTree, GenericsTree, Declaration}
use Rattle.dm_ast.specs.Spelling.{Where, deeper, Marks, Spelling, first_too_deep, at_end, sees, sees_colon, sees_equals, Nothing, ◌then◌, Provided, Before, RangedAt, lifetime, keyword, colon, GroupAt, perhaps, items_left, items}
use Rattle.dm_ast.specs.TypeGrammar.{name, type_spelled}
use Rattle.dm_ast.specs.DeclarationGrammar.{lifetime_bounds, bound_list, param, generics, predicate, ends_where, where_clause, named_field, slot, braced, slots, variant_fields, variant, variants, struct_body, shape, declaration}
use Rattle.dm_ast.specs.Runs.{run}
use Rattle.dm_ast.specs.Parsed.{SpelledBy}
use Rattle.dm_ast.specs.TypeTokens as spell
use Rattle.dm_ast.specs.Implementors.{is_lifetime, is_other, bare, params_of, predicates_in, predicates_of, implementor}
use Rattle.dm_output.specs.Values.{Case, case_of_variant, cases, cases_of_shape, field_list}
use Rattle.dm_output.specs.Tokens.{param_trees, predicate_trees}
use Rattle.dm_read.proofs.Deciding.{deep_behind}
use Rattle.dm_type_eq.proofs.Cutting.{Cut, cut_end}
use Rattle.dm_type_eq.proofs.Respelling.{Lower, Again, RespellsIf, Respells, respells_then, respells_name, respells_lifetime, respells_word, respells_colon, lowered_within}
use Rattle.dm_type_eq.specs.Unplaced.{unplaced_type}
use Rattle.dm_reread.specs.Bare.{bare_param, bare_predicate}
use Rattle.dm_reread.specs.Grammar.{IsName}
use Rattle.dm_reread.specs.HeadLeaves.{are_plain}
use Rattle.dm_reread.specs.TypeLeaves.{top, IsType}
use Rattle.dm_reread.proofs.HeadLeaf.{first_within, rest_within}
use Rattle.dm_reread.proofs.TypeLeafUnplaced.{read_is_type}
use Rattle.dm_read_laws.proofs.HeadAgain.{again_bare, maybe_lifetimes, maybe_list, predicate_again}
use Rattle.dm_head_laws.specs.Parts as parts
use Rattle.dm_head_laws.specs.Parts.{inner, ParamAlone, PredicateAlone, TypeAlone, Each}
use Rattle.dm_head_laws.proofs.HeadParts.{each_by}
use Rattle.dm_head_laws.proofs.NamedTypes.{written_alone, HasName, named_written}

-- ---- what stands in front of trees

-- the part is spelled there, and none of its tokens is too deep
pub record From (S : Spelling) (ts : Trees) : Type 0 where
  pub others : Trees
  pub marks : Marks
  pub spelled : S ts others marks
  pub within : first_too_deep marks ≡ None

-- it is so somewhere
record Stands (S : Spelling) : Type 0 where
  front : Trees
  there : From S front

stand : {S : Spelling} {ts : Trees} → From S ts → Stands S
stand {S} {ts} x = record { front = ts; there = x }

pub first_from : {A B : Spelling} {ts : Trees} → From (A then B) ts → From A ts
first_from x =
    record { others = x.spelled.middle; marks = x.spelled.first_marks; spelled = x.spelled.first; within = first_within x.spelled x.within }

pub rest_from : {A B : Spelling} {ts : Trees} → (x : From (A then B) ts) → From B x.spelled.middle
rest_from x =
    record { others = x.others; marks = x.spelled.rest_marks; spelled = x.spelled.rest; within = rest_within x.spelled x.within }

pub given_from : {F : Type 0} {A : Spelling} {ts : Trees} → From (Provided F A) ts → From A ts
given_from x = record { others = x.others; marks = x.marks; spelled = x.spelled.part; within = x.within }

pub ranged_from : {r : Span} {A : Spelling} {ts : Trees} → From (RangedAt r A) ts → From A ts
ranged_from x = record { others = x.others; marks = x.marks; spelled = x.spelled.part; within = x.within }

-- a part, and less than what stands behind it
less_from : {A B C : Spelling} {ts : Trees} → (x : From (A then B) ts) → From C x.spelled.middle → From (A then C) ts
less_from x y = record {
  others = y.others;
  marks = x.spelled.first_marks ++ y.marks;
  spelled = record {
    middle = x.spelled.middle;
    first_marks = x.spelled.first_marks;
    rest_marks = y.marks;
    first = x.spelled.first;
    rest = y.spelled;
    marks = refl;
  };
  within = deep_behind x.spelled.first_marks y.marks (first_within x.spelled x.within) ∙ y.within;
}

within_parts : (m k : Marks) → first_too_deep (m ++ k) ≡ None → (first_too_deep m ≡ None) × (first_too_deep k ≡ None)
within_parts m k h =
    let any : Spelling = λ ts others n. Unit {0} in
    let s : (any then any) no_trees no_trees (m ++ k) =
    record { middle = no_trees; first_marks = m; rest_marks = k; first = tt; rest = tt; marks = refl } in
    (first_within s h, rest_within s h)

-- inside a group that ends here
abbrev pub inside_of : Where → ℕ → Where
inside_of w n = record { level = w.level + 1; limit = n }

pub group_from : {w : Where} {d : Delim} {Inside : Where → Spelling} {ts : Trees} → (x : From (GroupAt w d Inside) ts) →
    From (Inside (inside_of w x.spelled.closer.start)) x.spelled.inside
group_from {w} x =
    let g = x.spelled in
    let rest : Marks = g.inner_marks ++ (w.level, g.closer) ∷ [] in
    let h = within_parts ((w.level, g.opener) ∷ []) rest (ap first_too_deep (sym g.marks) ∙ x.within) in
    let k = within_parts g.inner_marks ((w.level, g.closer) ∷ []) h.1 in
    record { others = no_trees; marks = g.inner_marks; spelled = g.whole; within = k.0 }

-- ---- lists

-- each item of a list is spelled somewhere, with marks that are part of the list's: so it has what follows from that
module _ {A : Type 0} (S : A → Spelling) (P : A → Type 0) (f : (x : A) (ts : Trees) → From (S x) ts → P x) where
  module _ (w : Where) (c : ℕ) (ends : Trees → Bool) where
    each_left : (xs : List A) (u : Bool) (ts : Trees) → From (items_left w c ends S xs u) ts → Each P xs
    each_left [] u ts x = tt
    each_left (y ∷ ys) u ts x =
        let r = rest_from x in (f y x.spelled.middle (first_from r), each_left ys u r.spelled.middle (rest_from r))

    pub each_item : (xs : List A) (u : Bool) (ts : Trees) → From (items w c ends S xs u) ts → Each P xs
    each_item [] u ts x = tt
    each_item (y ∷ ys) u ts x = (f y ts (first_from x), each_left ys u x.spelled.middle (rest_from x))

pub each_map : {A B : Type 0} (P : B → Type 0) (f : A → B) (xs : List A) → Each (λ x. P (f x)) xs → Each P (map f xs)
each_map P f [] e = tt
each_map P f (x ∷ xs) e = (e.0, each_map P f xs e.1)

pub each_both : {A : Type 0} (P : A → Type 0) (xs ys : List A) → Each P xs → Each P ys → Each P (xs ++ ys)
each_both P [] ys d e = e
each_both P (x ∷ xs) ys d e = (d.0, each_both P xs ys d.1 e)

pub each_if : {A : Type 0} (P : A → Type 0) (b : Bool) (x : A) (xs : List A) → P x → Each P xs → Each P (cond b (x ∷ xs) xs)
each_if P true x xs h e = (h, e)
each_if P false x xs h e = e

pub each_kept : {A : Type 0} (P : A → Type 0) (test : A → Bool) (xs : List A) → Each P xs → Each P (filter test xs)
each_kept P test [] e = tt
each_kept P test (x ∷ xs) e = each_if P (test x) x (filter test xs) e.0 (each_kept P test xs e.1)

-- what holds of each holds of what stands at some place
pub each_get : {A : Type 0} (P : A → Type 0) (xs : List A) (n : ℕ) (x : A) → Each P xs → slice_get xs n ≡ Some x → P x
each_get P [] n x e h = absurd (cc)
each_get P (y ∷ ys) zero x e h = let g : y ≡ x = cc in subst P g e.0
each_get P (y ∷ ys) (suc n) x e h = each_get P ys n x e.1 h

-- ---- what stands somewhere is spelled alone

module _ {G : Trees → Trees → Type 0} {S : Spelling} (R : Where → Spelling) (v : Where) (own : Trees) (f : RespellsIf G S (R v) own) where
  pub spelled_alone : (ts : Trees) → (x : From S ts) → G no_trees x.others → parts.Alone R v own
  spelled_alone ts x h =
      let a : Again (R v) own ts no_trees x.marks = f ts x.others x.marks x.spelled no_trees (cut_end x.others) h in
      record {
        marks = a.marks;
        spelled = subst (λ z. R v z no_trees a.marks) (join-no_trees own) a.spelled;
        within = lowered_within a.marks x.marks a.lower x.within;
      }

lower_top : (w : Where) → Lower top w
lower_top w = record { level = omega arith; limit = refl }

lower_inner : (w : Where) → Lower inner (deeper w)
lower_inner w = record { level = omega arith; limit = refl }

predicate_alone : (p : PredicateTree) (w : Where) (ts : Trees) → From (predicate p w) ts → PredicateAlone (bare_predicate p)
predicate_alone p w ts x =
    let b : PredicateTree = bare_predicate p in
    spelled_alone (predicate b) top (predicate_trees b) (predicate_again (lower_top w) p) ts x tt

-- a type that is spelled somewhere
abbrev Known : TypeTree → Type 0
Known x = IsType (unplaced_type x) × TypeAlone (unplaced_type x)

type_known : (x : TypeTree) (w : Where) (ts : Trees) → From (type_spelled x false w) ts → Known x
type_known x w ts s = (
  read_is_type x false w ts s.others s.marks s.spelled s.within,
  spelled_alone (type_spelled (unplaced_type x) false) top (spell.type_trees (unplaced_type x)) (again_bare (lower_top w) x) ts s tt,
)

-- ---- parameters, without attributes and defaults

-- nothing stands there
abbrev Absent : (Trees → Bool) → Spelling
Absent test = Before (λ others. test others ≡ false) Nothing

behind_nothing : {G : Trees → Trees → Type 0} {A C : Spelling} {a : Trees} (test : Trees → Bool) → ((o : Trees) → test (join a o) ≡ false) →
    RespellsIf G A C a →
    RespellsIf G A (Absent test then C) a
behind_nothing {G} {A} {C} {a} test h f ts others m s o c g =
    let x : Again C a ts o m = f ts others m s o c g in
    record {
      marks = x.marks;
      spelled = record {
        middle = join a o;
        first_marks = [];
        rest_marks = x.marks;
        first = record { part = record { spelled = refl; marks = refl }; fact = h o };
        rest = x.spelled;
        marks = refl;
      };
      lower = x.lower;
      cut = x.cut;
    }

-- where the others don't meet this test
abbrev Unmet : (Trees → Bool) → Trees → Trees → Type 0
Unmet test o others = test o ≡ false

before_nothing : {A C : Spelling} {a : Trees} (test : Trees → Bool) → Respells A C a →
    RespellsIf (Unmet test) A (C then Absent test) (join a no_trees)
before_nothing {A} {C} {a} test f ts others m s o c h =
    let x : Again C a ts o m = f ts others m s o c tt in
    record {
      marks = x.marks;
      spelled = record {
        middle = o;
        first_marks = x.marks;
        rest_marks = [];
        first = subst (λ z. C (join z o) o x.marks) (sym (join-no_trees a)) x.spelled;
        rest = record { part = record { spelled = refl; marks = refl }; fact = h };
        marks = sym (append-nil x.marks);
      };
      lower = x.lower;
      cut = subst (λ z. Cut (join z o) ts) (sym (join-no_trees a)) x.cut;
    }

-- the tokens of a parameter, without its ranges
abbrev own_of : ParamTree → Trees
own_of p = param_trees (bare_param p)

module _ {v w : Where} (l : Lower v w) where
  lifetime_again : (x : Lifetime) (bs : Lifetimes) →
      Respells (lifetime w x then perhaps sees_colon bs (λ ls. colon w then lifetime_bounds w ls))
      (param (bare_param (lifetime_param [] x bs)) v)
      (own_of (lifetime_param [] x bs))
  lifetime_again x bs = behind_nothing (sees 35) (λ o. refl) (respells_then (respells_lifetime l x) (maybe_lifetimes l bs))

  type_again : (i : Ident) (bs : Option (Listed BoundTree)) →
      RespellsIf (Unmet sees_equals) (name w i then perhaps sees_colon bs (λ b. colon w then bound_list w b))
      (param (bare_param (type_param [] i bs None)) v)
      (own_of (type_param [] i bs None))
  type_again i bs = behind_nothing (sees 35) (λ o. refl) (respells_then (respells_name l i) (before_nothing sees_equals (maybe_list l bs)))

  const_again : (i : Ident) (x : TypeTree) →
      RespellsIf (Unmet sees_equals) (keyword w (codes "const") then (name w i then (colon w then type_spelled x false w)))
      (param (bare_param (const_param [] i x None)) v)
      (own_of (const_param [] i x None))
  const_again i x =
      behind_nothing (sees 35) (λ o. refl)
      (respells_then (respells_word l (codes "const"))
      (respells_then (respells_name l i) (respells_then (respells_colon l) (before_nothing sees_equals (again_bare l x)))))

param_alone : (p : ParamTree) (w : Where) → Lower inner w → (ts : Trees) → From (param p w) ts → ParamAlone (bare_param (bare p))
param_alone (lifetime_param as' x bs) w l ts s =
    let p = lifetime_param [] x bs in
    spelled_alone (param (bare_param p)) inner (own_of p) (lifetime_again l x bs) s.spelled.middle (rest_from s) tt
param_alone (type_param as' i bs d) w l ts s =
    let p = type_param [] i bs None in
    let r = rest_from s in
    spelled_alone (param (bare_param p)) inner (own_of p) (type_again l i bs) s.spelled.middle (less_from r (first_from (rest_from r))) refl
param_alone (const_param as' i x d) w l ts s =
    let p = const_param [] i x None in
    let k = rest_from s in
    let n = rest_from k in
    let c = rest_from n in
    spelled_alone (param (bare_param p)) inner (own_of p) (const_again l i x) s.spelled.middle
    (less_from k (less_from n (less_from c (first_from (rest_from c))))) refl

-- what holds of the parameters, lifetimes first
pub each_param : (Q : ParamTree → Type 0) (ps : List ParamTree) → Each (λ p. Q (bare p)) ps →
    Each Q (map bare (filter is_lifetime ps) ++ map bare (filter is_other ps))
each_param Q ps e =
    each_both Q (map bare (filter is_lifetime ps)) (map bare (filter is_other ps))
    (each_map Q bare (filter is_lifetime ps) (each_kept (λ p. Q (bare p)) is_lifetime ps e))
    (each_map Q bare (filter is_other ps) (each_kept (λ p. Q (bare p)) is_other ps e))

-- lifetimes are in front
others_plain : (b : Bool) (ps : List ParamTree) → are_plain b (map bare_param (map bare (filter is_other ps))) ≡ true
others_plain b [] = refl
others_plain b (lifetime_param as' x bs ∷ ps) = others_plain b ps
others_plain true (type_param as' i bs d ∷ ps) = others_plain false ps
others_plain false (type_param as' i bs d ∷ ps) = others_plain false ps
others_plain true (const_param as' i x d ∷ ps) = others_plain false ps
others_plain false (const_param as' i x d ∷ ps) = others_plain false ps

lifetimes_plain : (ps qs : List ParamTree) →
    are_plain true (map bare_param (map bare (filter is_lifetime ps) ++ map bare (filter is_other qs))) ≡ true
lifetimes_plain [] qs = others_plain true qs
lifetimes_plain (lifetime_param as' x bs ∷ ps) qs = lifetimes_plain ps qs
lifetimes_plain (type_param as' i bs d ∷ ps) qs = lifetimes_plain ps qs
lifetimes_plain (const_param as' i x d ∷ ps) qs = lifetimes_plain ps qs

pub plain_params : (d : Declaration) → are_plain true (map bare_param (params_of d)) ≡ true
plain_params d = lifetimes_plain d.generics.params.items d.generics.params.items

-- ---- the parts of a declaration

pub each_declared : (P : ParamTree → Type 0) (w : Where) → ((p : ParamTree) (ts : Trees) → From (param p (deeper w)) ts → P p) →
    (angled : Bool) (ps : Listed ParamTree) (ts : Trees) →
    From (generics angled ps w) ts →
    Each P ps.items
each_declared P w f true ps ts x =
    each_item (λ p. param p (deeper w)) P f (deeper w) 44 (sees 62) ps.items ps.trailing _ (first_from (rest_from (given_from x)))
each_declared P w f false ps ts x = subst (λ (z : Listed ParamTree). Each P z.items) (sym (x.spelled.fact refl)) tt

each_predicate : (P : PredicateTree → Type 0) (w : Where) → ((p : PredicateTree) (ts : Trees) → From (predicate p w) ts → P p) →
    (c : Option (Listed PredicateTree)) (ts : Trees) →
    From (where_clause c w) ts →
    Each P (predicates_in c)
each_predicate P w f None ts x = tt
each_predicate P w f (Some ps) ts x = each_item (λ p. predicate p w) P f w 44 ends_where ps.items ps.trailing _ (rest_from x)

module _ (i : Ident) (g : GenericsTree) (w : Where) where
  name_stands : (x : ShapeTree) (ts : Trees) → From (shape run x i g w) ts → Stands (name w i)
  name_stands (struct_shape r fs) ts s = stand (first_from (rest_from s))
  name_stands (enum_shape r vs) ts s = stand (first_from (rest_from s))
  name_stands (union_shape r fs) ts s = stand (first_from (rest_from s))

  generics_stand : (x : ShapeTree) (ts : Trees) → From (shape run x i g w) ts → Stands (generics g.angled g.params w)
  generics_stand (struct_shape r fs) ts s = stand (first_from (rest_from (rest_from s)))
  generics_stand (enum_shape r vs) ts s = stand (first_from (rest_from (rest_from s)))
  generics_stand (union_shape r fs) ts s = stand (first_from (rest_from (rest_from s)))

  clause_stands : (x : ShapeTree) (ts : Trees) → From (shape run x i g w) ts → Stands (where_clause g.where_clause w)
  clause_stands (struct_shape r (named fs)) ts s = stand (first_from (rest_from (rest_from (rest_from s))))
  clause_stands (struct_shape r (unnamed fs)) ts s = stand (first_from (rest_from (rest_from (rest_from (rest_from s)))))
  clause_stands (struct_shape r unit) ts s = stand (first_from (rest_from (rest_from (rest_from s))))
  clause_stands (enum_shape r vs) ts s = stand (first_from (rest_from (rest_from (rest_from s))))
  clause_stands (union_shape r fs) ts s = stand (first_from (rest_from (rest_from (rest_from s))))

-- ---- fields: what holds of those that are spelled in a group holds of those of each case, whose name is one

-- what holds of the fields of a case
abbrev pub CaseOf : (FieldsTree → Type 0) → Case → Type 0
CaseOf OfFields c = IsName c.ident × OfFields c.fields

module _ (OfFields : FieldsTree → Type 0) (braces : (fs : Listed FieldTree) (w : Where) (ts : Trees) → From (braced fs w) ts → OfFields (named fs))
    (parens : (fs : Listed FieldTree) (w : Where) (ts : Trees) → From (slots fs w) ts → OfFields (unnamed fs)) (none : OfFields unit) where
  fields_hold : (fs : FieldsTree) (w : Where) (ts : Trees) → From (variant_fields fs w) ts → OfFields fs
  fields_hold (named fs) w ts x = braces fs w ts x
  fields_hold (unnamed fs) w ts x = parens fs w ts x
  fields_hold unit w ts x = none

  struct_hold : (fs : FieldsTree) (c : Option (Listed PredicateTree)) (w : Where) (ts : Trees) → From (struct_body fs c w) ts → OfFields fs
  struct_hold (named fs) c w ts x = braces fs w _ (rest_from x)
  struct_hold (unnamed fs) c w ts x = parens fs w _ (first_from x)
  struct_hold unit c w ts x = none

  variants_hold : (vs : Listed VariantTree) (w : Where) (ts : Trees) → From (variants run vs w) ts →
      Each (CaseOf OfFields) (map case_of_variant vs.items)
  variants_hold vs w ts x =
      let v = inside_of w x.spelled.closer.start in
      each_map (CaseOf OfFields) case_of_variant vs.items
      (each_item (λ y. variant run y v) (λ y. CaseOf OfFields (case_of_variant y))
      (λ y us s.
      let n = rest_from (rest_from (ranged_from s)) in (n.spelled.first.fact, fields_hold y.fields v _ (first_from (rest_from n))))
      v 44 at_end vs.items vs.trailing _ (group_from x))

  pub shape_holds : (as' : List Attribute) (i : Ident) (g : GenericsTree) (w : Where) (x : ShapeTree) (ts : Trees) →
      From (shape run x i g w) ts →
      IsName i × Each (CaseOf OfFields) (cases_of_shape as' i x)
  shape_holds as' i g w (struct_shape r fs) ts s =
      let n = rest_from s in
      let h : IsName i = n.spelled.first.fact in
      (h, ((h, struct_hold fs g.where_clause w _ (rest_from (rest_from n))), tt))
  shape_holds as' i g w (enum_shape r vs) ts s =
      let n = rest_from s in (n.spelled.first.fact, variants_hold vs w _ (rest_from (rest_from (rest_from n))))
  shape_holds as' i g w (union_shape r fs) ts s =
      let n = rest_from s in
      let h : IsName i = n.spelled.first.fact in
      (h, ((h, none), tt))

-- what holds of each type that is spelled inside a group holds of the type of each
module _ (Holds : TypeTree → Type 0)
    (holds : (x : TypeTree) (w : Where) (n : ℕ) (ts : Trees) → From (type_spelled x false (inside_of w n)) ts → Holds x) where
  abbrev OfField : FieldTree → Type 0
  OfField f = Holds f.ty

  braced_hold : (fs : Listed FieldTree) (w : Where) (ts : Trees) → From (braced fs w) ts → Each OfField fs.items
  braced_hold fs w ts x =
      let n : ℕ = x.spelled.closer.start in
      each_item (λ f. named_field f (inside_of w n)) OfField
      (λ f us s. holds f.ty w n _ (rest_from (rest_from (rest_from (ranged_from s))))) (inside_of w n) 44 at_end fs.items fs.trailing _
      (group_from x)

  slots_hold : (fs : Listed FieldTree) (w : Where) (ts : Trees) → From (slots fs w) ts → Each OfField fs.items
  slots_hold fs w ts x =
      let n : ℕ = x.spelled.closer.start in
      each_item (λ f. slot f (inside_of w n)) OfField
      (λ f us s. holds f.ty w n _ (rest_from (rest_from (ranged_from (given_from s))))) (inside_of w n) 44 at_end fs.items fs.trailing _
      (group_from x)

  pub cases_hold : (as' : List Attribute) (i : Ident) (g : GenericsTree) (w : Where) (x : ShapeTree) (ts : Trees) →
      From (shape run x i g w) ts →
      Each (λ c. Each OfField (field_list c.fields)) (cases_of_shape as' i x)
  cases_hold as' i g w x ts s =
      each_by {P = CaseOf (λ fs. Each OfField (field_list fs))} (λ c h. h.1) (cases_of_shape as' i x)
      (shape_holds (λ fs. Each OfField (field_list fs)) braced_hold slots_hold tt as' i g w x ts s).1

abbrev KnownField : FieldTree → Type 0
KnownField f = Known f.ty

abbrev KnownCase : Case → Type 0
KnownCase c = Each KnownField (field_list c.fields)

-- ---- the declared type

param_named : (p : ParamTree) (w : Where) (ts : Trees) → From (param p w) ts → HasName (bare p)
param_named (lifetime_param as' l bs) w ts s = tt
param_named (type_param as' i bs d) w ts s = (rest_from s).spelled.first.fact
param_named (const_param as' i x d) w ts s = (rest_from (rest_from s)).spelled.first.fact

-- ---- all of it

module _ (d : Declaration) (limit : ℕ) (ts : Trees) (m : Marks) (s : SpelledBy d limit ts m) (within : first_too_deep m ≡ None) where
  abbrev place : Where
  place = record { level = 0; limit = limit }

  there : Stands (shape run d.shape d.ident d.generics place)
  there =
      let x : From (declaration run d place) ts = record { others = no_trees; marks = m; spelled = s.spelled; within = within } in
      stand (rest_from (rest_from x))

  each_of_params : (P : ParamTree → Type 0) → ((p : ParamTree) (us : Trees) → From (param p (deeper place)) us → P (bare p)) →
      Each P (params_of d)
  each_of_params P f =
      let g = generics_stand d.ident d.generics place d.shape there.front there.there in
      each_param P d.generics.params.items
      (each_declared (λ p. P (bare p)) place f d.generics.angled d.generics.params g.front g.there)

  pub declared_params : Each ParamAlone (map bare_param (params_of d))
  declared_params =
      each_map ParamAlone bare_param (params_of d)
      (each_of_params (λ p. ParamAlone (bare_param p)) (λ p us x. param_alone p (deeper place) (lower_inner place) us x))

  pub declared_predicates : Each PredicateAlone (map bare_predicate (predicates_of d))
  declared_predicates =
      let c = clause_stands d.ident d.generics place d.shape there.front there.there in
      each_map PredicateAlone bare_predicate (predicates_of d)
      (each_predicate (λ p. PredicateAlone (bare_predicate p)) place (λ p us x. predicate_alone p place us x) d.generics.where_clause
      c.front c.there)

  pub declared_cases : Each (λ c. Each (λ f. IsType (unplaced_type f.ty) × TypeAlone (unplaced_type f.ty)) (field_list c.fields)) (cases d)
  declared_cases =
      cases_hold Known (λ x w n ts s. type_known x (inside_of w n) ts s) d.attrs d.ident d.generics place d.shape there.front there.there

  pub declared_types : (n k : ℕ) (c : Case) (f : FieldTree) → slice_get (cases d) n ≡ Some c → slice_get (field_list c.fields) k ≡ Some f →
      IsType (unplaced_type f.ty) × TypeAlone (unplaced_type f.ty)
  declared_types n k c f g h = each_get KnownField (field_list c.fields) k f (each_get KnownCase (cases d) n c declared_cases g) h

  -- its name, and those of its parameters
  pub declared_names : IsTrue (is_name d.ident) × Each HasName (params_of d)
  declared_names =
      let n = name_stands d.ident d.generics place d.shape there.front there.there in
      (n.there.spelled.fact, each_of_params HasName (λ p us x. param_named p (deeper place) us x))

  pub implementor_alone : TypeAlone (unplaced_type (implementor d))
  implementor_alone =
      written_alone (type_spelled (unplaced_type (implementor d)) false) top (spell.type_trees (unplaced_type (implementor d)))
      (named_written top refl refl refl d.ident declared_names.0 (params_of d) declared_names.1)
