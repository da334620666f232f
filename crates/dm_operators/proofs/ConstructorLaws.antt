-- What a constructor gives whose parts stand for terms: the value of its case with these terms, for any trait.
use Rattle.std.proofs.Common.{◌≡◌, ℕ, zero, suc, ◌+◌, List, [], ◌∷◌, length, true, false, Option, Some, None, slice_get, refl, sym, ap, ◌∙◌, subst, arith}
use Rattle.std.specs.Prelude.{option_and_then}
use Rattle.dm_stream.specs.declared.tokens.Ident.{Ident}
use Rattle.dm_ast.specs.Tree.{PathTree}
use Rattle.dm_ast.specs.Declarations.{Declaration, FieldTree, FieldsTree, named, unnamed, unit}
use Rattle.dm_output.specs.Output.{ExprTree, exprs_of, named_exprs_of}
use Rattle.dm_output.specs.Values.{Text, another, Thing, value, things_of, list_of, Case, cases, field_list}
use Rattle.dm_output.specs.Fits.{Env, names_type, path_names, constructor, path_case, paren_fields, brace_fields, fields_of_case}
use Rattle.dm_output.specs.Calls.{Setting, State, goes, as_term, as_terms, given_for, in_order}
use Rattle.dm_output.specs.Run.{run, run_each, run_named}
use Rattle.dm_operands.specs.declared.cases.Form.TheVariants as forms
use Rattle.dm_operands.specs.Marked.{MarkedField, form_of}
use Rattle.dm_operands.specs.Sides.{field_ident}
use Rattle.dm_operands.specs.Named.{AreDistinct, HasName, AreFieldsNamed, field_name}
use Rattle.dm_operands.proofs.NameLaws.{bytes_same, bytes_differ, distinct-rest}
use Rattle.dm_operands.proofs.BindingLaws.{eqb-same, unmarked}
use Rattle.dm_operators.specs.Meaning.{is_unit}
use Rattle.dm_operators.specs.Bodies as bodies
use Rattle.dm_operators.specs.Bodies.{parts, named_parts, in_parens}

-- ---- parts

-- an expression gives a thing that stands for this term, and leaves the state as it is
abbrev pub Stands : Setting → ExprTree → Env → State → Thing → Type 0
Stands s e env st t = (x : Thing) × (run s e env st ≡ Some (goes x st)) × (as_term s st x ≡ t)

-- the parts of the fields from number n on stand for these terms
abbrev pub ArePartsOf : Setting → Env → State → (ℕ → MarkedField → ExprTree) → ℕ → List MarkedField → List Thing → Type 0
ArePartsOf s env st part n [] [] = Unit {0}
ArePartsOf s env st part n [] (t ∷ ts) = ⊥
ArePartsOf s env st part n (f ∷ fs) [] = ⊥
ArePartsOf s env st part n (f ∷ fs) (t ∷ ts) = Stands s (part n f) env st t × ArePartsOf s env st part (n + 1) fs ts

list-things : (ts : List Thing) → list_of (things_of ts) ≡ ts
list-things [] = refl
list-things (t ∷ ts) = ap (λ (us : List Thing). t ∷ us) (list-things ts)

-- fields with the terms that are given for them
abbrev tagged : List MarkedField → List Thing → List (Text × Thing)
tagged [] ts = []
tagged (f ∷ fs) [] = []
tagged (f ∷ fs) (t ∷ ts) = (field_name f.field, t) ∷ tagged fs ts

module _ (s : Setting) (env : Env) (st : State) (part : ℕ → MarkedField → ExprTree) where
  parts-length : (n : ℕ) (fs : List MarkedField) (ts : List Thing) → ArePartsOf s env st part n fs ts → length ts ≡ length (unmarked fs)
  parts-length n [] [] h = refl
  parts-length n [] (t ∷ ts) h = absurd h
  parts-length n (f ∷ fs) [] h = absurd h
  parts-length n (f ∷ fs) (t ∷ ts) h = ap suc (parts-length (n + 1) fs ts h.1)

  each-run : (n : ℕ) (fs : List MarkedField) (ts : List Thing) → ArePartsOf s env st part n fs ts →
      (xs : List Thing) × (run_each s (exprs_of (parts part n fs)) env st ≡ Some (goes xs st)) ×
      (as_terms s st (things_of xs) ≡ things_of ts)
  each-run n [] [] h = ([], refl, refl)
  each-run n [] (t ∷ ts) h = absurd h
  each-run n (f ∷ fs) [] h = absurd h
  each-run n (f ∷ fs) (t ∷ ts) h =
      let here = h.0 in
      let behind = each-run (n + 1) fs ts h.1 in
      (here.0 ∷ behind.0, rw (here.1, behind.1) refl, rw (here.2, behind.2) refl)

  named-run : (n : ℕ) (fs : List MarkedField) (ts : List Thing) → ArePartsOf s env st part n fs ts →
      run_named s (named_exprs_of (named_parts part n fs)) env st ≡ Some (goes (tagged fs ts) st)
  named-run n [] [] h = refl
  named-run n [] (t ∷ ts) h = absurd h
  named-run n (f ∷ fs) [] h = absurd h
  named-run n (f ∷ fs) (t ∷ ts) h =
      let here = h.0 in
      let behind = named-run (n + 1) fs ts h.1 in
      rw (here.1, behind, here.2) refl

-- ---- terms by the names of fields

tagged-length : (fs : List MarkedField) (ts : List Thing) → length ts ≡ length (unmarked fs) → length (tagged fs ts) ≡ length (unmarked fs)
tagged-length [] ts l = refl
tagged-length (f ∷ fs) [] l = absurd (omega arith)
tagged-length (f ∷ fs) (t ∷ ts) l = ap suc (tagged-length fs ts (omega arith))

given-same : (x : Text) (t : Thing) (more : List (Text × Thing)) (i : Option Ident) → HasName i → x ≡ (field_ident i).name →
    given_for ((x, t) ∷ more) i ≡ Some t
given-same x t more None h e = absurd h
given-same x t more (Some i) h e = rw (e, bytes_same i.name) refl

given-other : (x : Text) (t : Thing) (more : List (Text × Thing)) (i : Option Ident) → (x ≡ (field_ident i).name → ⊥) →
    given_for ((x, t) ∷ more) i ≡ given_for more i
given-other x t more None ne = refl
given-other x t more (Some i) ne = rw (bytes_differ x i.name ne) refl

named-found : (fs : List MarkedField) (ts : List Thing) (i : ℕ) (f : FieldTree) (t : Thing) →
    AreDistinct field_name (unmarked fs) → HasName f.ident →
    slice_get (unmarked fs) i ≡ Some f → slice_get ts i ≡ Some t → given_for (tagged fs ts) f.ident ≡ Some t
named-found [] ts i f t d has at there = cc
named-found (g ∷ fs) [] i f t d has at there = cc
named-found (g ∷ fs) (u ∷ ts) zero f t d has at there =
    let e : g.field ≡ f = cc in
    let same : u ≡ t = cc in
    given-same (field_name g.field) u (tagged fs ts) f.ident has (ap field_name e) ∙ ap Some same
named-found (g ∷ fs) (u ∷ ts) (suc i) f t d has at there =
    given-other (field_name g.field) u (tagged fs ts) f.ident (λ e. let z : 0 ≡ suc i = d 0 (suc i) g.field f refl at e in cc) ∙
    named-found fs ts i f t (distinct-rest field_name g.field (unmarked fs) d) has at there

in-order : (all : List (Text × Thing)) (fs : List FieldTree) (ts : List Thing) → length ts ≡ length fs →
    ((i : ℕ) (f : FieldTree) (t : Thing) → slice_get fs i ≡ Some f → slice_get ts i ≡ Some t →
    given_for all f.ident ≡ Some t) → in_order all fs ≡ Some ts
in-order all [] [] l h = refl
in-order all [] (t ∷ ts) l h = absurd (omega arith)
in-order all (f ∷ fs) [] l h = absurd (omega arith)
in-order all (f ∷ fs) (t ∷ ts) l h =
    let here = h zero f t refl refl in
    let behind = in-order all fs ts (omega arith) (λ i g u. h (suc i) g u) in
    rw (here, behind) refl

-- ---- the constructor's path

-- the names of a path that leads to a case
pub record Leads (d : Declaration) (p : PathTree) (n : ℕ) : Type 0 where
  pub first : Text
  pub more : List Text
  pub names : path_names p ≡ Some (first ∷ more)
  pub own : names_type d first ≡ true
  pub found : constructor d (first ∷ more) ≡ Some n

own-one : (d : Declaration) (a : Text) (n : ℕ) → constructor d (a ∷ []) ≡ Some n → names_type d a ≡ true
own-one d a n h =
    (elim (names_type d a) as (λ b. names_type d a ≡ b → constructor d (a ∷ []) ≡ Some n → b ≡ true) [
      | true ↦ λ e k. refl
      | false ↦ λ e k. let z : constructor d (a ∷ []) ≡ None = rw e refl in cc
    ]) refl h

own-two : (d : Declaration) (a b : Text) (n : ℕ) → constructor d (a ∷ b ∷ []) ≡ Some n → names_type d a ≡ true
own-two d a b n h =
    (elim (names_type d a) as (λ t. names_type d a ≡ t → constructor d (a ∷ b ∷ []) ≡ Some n → t ≡ true) [
      | true ↦ λ e k. refl
      | false ↦ λ e k. let z : constructor d (a ∷ b ∷ []) ≡ None = rw e refl in cc
    ]) refl h

leads-by : (d : Declaration) (p : PathTree) (n : ℕ) (o : Option (List Text)) → path_names p ≡ o →
    option_and_then (constructor d) o ≡ Some n → Leads d p n
leads-by d p n None e h = absurd cc
leads-by d p n (Some []) e h = absurd cc
leads-by d p n (Some (a ∷ [])) e h = record { first = a; more = []; names = e; own = own-one d a n h; found = h }
leads-by d p n (Some (a ∷ b ∷ [])) e h = record { first = a; more = b ∷ []; names = e; own = own-two d a b n h; found = h }
leads-by d p n (Some (a ∷ b ∷ c ∷ more)) e h = absurd cc

pub leads : (d : Declaration) (p : PathTree) (n : ℕ) → path_case d p ≡ Some n → Leads d p n
leads d p n h = leads-by d p n (path_names p) refl h

-- ---- the value

-- what is known of a case whose fields these are
pub record IsCaseAt (d : Declaration) (n : ℕ) (c : Case) (fs : List MarkedField) : Type 0 where
  pub at : slice_get (cases d) n ≡ Some c
  pub are : unmarked fs ≡ field_list c.fields
  pub names : (gs : List FieldTree) → brace_fields c.fields ≡ Some gs → AreFieldsNamed gs

module _ (s : Setting) (env : Env) (st : State) (part : ℕ → MarkedField → ExprTree) (p : PathTree) (n : ℕ) (l : Leads s.decl p n) where
  has-fields : (kind : FieldsTree → Option (List FieldTree)) (c : Case) → slice_get (cases s.decl) n ≡ Some c →
      fields_of_case kind s.decl (Some n) ≡ kind c.fields
  has-fields kind c at = ap (option_and_then (λ (b : Case). kind b.fields)) at

  parens-run : (fs : List MarkedField) (ts : List Thing) → ArePartsOf s env st part 0 fs ts →
      fields_of_case paren_fields s.decl (Some n) ≡ Some (unmarked fs) →
      run s (in_parens p (parts part 0 fs)) env st ≡ Some (goes (value another n (things_of ts)) st)
  parens-run [] [] h has =
      let names = l.names in
      let own = l.own in
      let found = l.found in
      elim l.more as (λ (more : List Text). path_names p ≡ Some (l.first ∷ more) → constructor s.decl (l.first ∷ more) ≡ Some n →
      run s (in_parens p []) env st ≡ Some (goes (value another n (things_of [])) st)) [
        | [] ↦ λ a b. rw (a, b, own, has) refl
        | x ∷ xs ↦ λ a b. rw (a, b, own, has) refl
      ] names found
  parens-run [] (t ∷ ts) h has = absurd h
  parens-run (f ∷ fs) [] h has = absurd h
  parens-run (f ∷ fs) (t ∷ ts) h has =
      let each = each-run s env st part 0 (f ∷ fs) (t ∷ ts) h in
      let names = l.names in
      let own = l.own in
      let found = l.found in
      let len = parts-length s env st part 0 (f ∷ fs) (t ∷ ts) h in
      rw (each.1, names, own, each.2, list-things ts, found, has, len, eqb-same (length (unmarked (f ∷ fs)))) refl

  braces-run : (fs : List MarkedField) (ts : List Thing) → ArePartsOf s env st part 0 fs ts →
      fields_of_case brace_fields s.decl (Some n) ≡ Some (unmarked fs) →
      AreFieldsNamed (unmarked fs) → run s (bodies.constructor part p forms.Named fs) env st ≡
      Some (goes (value another n (things_of ts)) st)
  braces-run fs ts h has are =
      let each = named-run s env st part 0 fs ts h in
      let names = l.names in
      let found = l.found in
      let len = parts-length s env st part 0 fs ts h in
      let ordered = in-order (tagged fs ts) (unmarked fs) ts len (λ i f t f-at t-at. named-found fs ts i f t are.distinct
      (are.named i f f-at) f-at t-at) in
      rw (each, names, found, has, tagged-length fs ts len, eqb-same (length (unmarked fs)), ordered) refl

  fields-run : (k : FieldsTree) (fs : List MarkedField) (ts : List Thing) → is_unit k ≡ false →
      ((kind : FieldsTree → Option (List FieldTree)) → fields_of_case kind s.decl (Some n) ≡ kind k) → unmarked fs ≡ field_list k →
      ((gs : List FieldTree) → brace_fields k ≡ Some gs → AreFieldsNamed gs) → ArePartsOf s env st part 0 fs ts →
      run s (bodies.constructor part p (form_of k) fs) env st ≡ Some (goes (value another n (things_of ts)) st)
  fields-run (named gs) fs ts full has are names h =
      braces-run fs ts h (has brace_fields ∙ ap Some (sym are)) (subst AreFieldsNamed (sym are) (names gs.items refl))
  fields-run (unnamed gs) fs ts full has are names h = parens-run fs ts h (has paren_fields ∙ ap Some (sym are))
  fields-run unit fs ts full has are names h = absurd cc

  -- the constructor of a case that isn't a unit
  pub constructor-run : (c : Case) (fs : List MarkedField) (ts : List Thing) → IsCaseAt s.decl n c fs → is_unit c.fields ≡ false →
      ArePartsOf s env st part 0 fs ts → run s (bodies.constructor part p (form_of c.fields) fs) env st ≡
      Some (goes (value another n (things_of ts)) st)
  constructor-run c fs ts is full h = fields-run c.fields fs ts full (λ kind. has-fields kind c is.at) is.are is.names h
