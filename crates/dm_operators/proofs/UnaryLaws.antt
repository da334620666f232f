-- The method of `Not` or `Neg` gives what it means.
use Rattle.std.proofs.Common.{◌≡◌, ℕ, zero, suc, ◌+◌, ◌≤◌, ◌^◌, List, [], ◌∷◌, length, map, Bool, true, false, cond, ◌||◌, Option, Some, codes, slice_get, refl, sym, ap, ◌∙◌, subst, arith, append-nil}
use Rattle.std.specs.Prelude.{option_and_then}
use Rattle.std.specs.Str.{bytes_eq}
use Rattle.dm_ast.specs.declared.plain.Attribute.{Attribute}
use Rattle.dm_ast.specs.Declarations.{Declaration, FieldTree, FieldsTree, named, unnamed, unit}
use Rattle.dm_ast.specs.Implementors.{plain_path}
use Rattle.dm_output.specs.Output.{PatternTree, ExprTree, member, arms_of, expr_body, block_body, some_expr, last_expr}
use Rattle.dm_output.specs.declared.item.Receiver.TheVariants as receiver
use Rattle.dm_output.specs.Values.{Value, value_of, mine, of_side, another, Thing, value, place, success, failure, Things, things_of, Case, cases, is_enum, field_list, IsValue, no_input}
use Rattle.dm_output.specs.Fits.{plain, names_type, case_named, path_case, brace_fields, fits}
use Rattle.dm_output.specs.Calls as calls
use Rattle.dm_output.specs.Calls.{Setting, State, goes, as_term, field_number, within, going}
use Rattle.dm_output.specs.Run.{run, run_arms, run_body, setting_of, run_method}
use Rattle.dm_generics.specs.Words.{word}
use Rattle.dm_operands.specs.declared.cases.Form.{Form}
use Rattle.dm_operands.specs.declared.cases.Form.TheVariants as forms
use Rattle.dm_operands.specs.Marked.{MarkedField, form_of, mark_field, mark_case}
use Rattle.dm_operands.specs.Bodies.{name}
use Rattle.dm_operands.specs.Sides.{side_pattern}
use Rattle.dm_operands.specs.Named.{AreNamed, AreFieldsNamed}
use Rattle.dm_operands.proofs.FromLaws.{AreFrom, from-start, from-first, from-rest}
use Rattle.dm_operands.proofs.NameLaws.{bytes_same, path-found, only-case, AreFound, are-found}
use Rattle.dm_operands.proofs.BindingLaws.{Names, bound_side, Knows, knows, fields-marked, fields-kept, looked_at, looked-in, AreNamedIn, named-in, fits-side, misses-side}
use Rattle.dm_operands.proofs.ArmLaws.{arm-takes, arm-passes, arms-run}
use Rattle.dm_operators.specs.Operators as ops
use Rattle.dm_operators.specs.Operators.{Operator, IsOperator}
use Rattle.dm_operators.specs.Attributes.{skipped_by, skips, cases_for}
use Rattle.dm_operators.specs.Meaning as means
use Rattle.dm_operators.specs.Meaning.{operation, with_fields, is_unit, is_unit_in, case_of, some_unit, has_unit, of_one}
use Rattle.dm_operators.specs.Bodies as bodies
use Rattle.dm_operators.specs.Bodies.{arm, inner_name, inner_part, variant_path, some_unit_form, unary_given, unary_arm, member_of, own_part, own_value, unary_enum, unary_struct, in_ok}
use Rattle.dm_operators.specs.Implementations.{method_in}
use Rattle.dm_operators.specs.Laws.{AreFew}
use Rattle.dm_operators.proofs.TableLaws.{means-method, known-value, unary-value}
use Rattle.dm_operators.proofs.ConstructorLaws.{ArePartsOf, leads, constructor-run}
use Rattle.dm_operators.proofs.OperandLaws.{inner-inner, keeps_all, place-term, GivesValue, unary-parts}
use Rattle.dm_operators.proofs.BinaryArms.{every_case, AreOpen, all-arms}
use Rattle.dm_operators.proofs.BinaryLaws.{start, ok-run, unary-unit-run, unit-form, value-case, IsGiving}
use Rattle.dm_operators.proofs.ValueMethods.{method-gives}
use Rattle.dm_operators.proofs.MemberNumbers.{numeral-value}

-- ---- paths that begin with the type's own name

names-own : (d : Declaration) → names_type d d.ident.name ≡ true
names-own d =
    ap (λ (b : Bool). bytes_eq d.ident.name (codes "Self") || b) (bytes_same d.ident.name) ∙
    (elim (bytes_eq d.ident.name (codes "Self")) as (λ b. (b || true) ≡ true) [ true ↦ refl | false ↦ refl ])

own-path : (d : Declaration) (n : ℕ) (c : Case) → is_enum d ≡ false → slice_get (cases d) n ≡ Some c →
    path_case d (plain_path (d.ident ∷ [])) ≡ Some n
own-path d n c e at = let own = names-own d in rw (own, e) (ap (λ (k : ℕ). Some k) (sym (only-case d n c e at)))

case-found : (d : Declaration) (n : ℕ) (c : Case) → AreNamed d → is_enum d ≡ true → slice_get (cases d) n ≡ Some c →
    case_named (cases d) 0 c.ident.name ≡ Some n
case-found d n c names e at =
    (elim (is_enum d) as (λ b. b ≡ true → path_case d (cond b (plain_path (word (codes "Self") ∷ c.ident ∷ []))
    (plain_path (word (codes "Self") ∷ []))) ≡ Some n →
    case_named (cases d) 0 c.ident.name ≡ Some n) [
      | true ↦ λ k h. rw e at h
      | false ↦ λ k h. cc
    ]) e (path-found d n c names at)

variant-path : (d : Declaration) (n : ℕ) (c : Case) → AreNamed d → is_enum d ≡ true → slice_get (cases d) n ≡ Some c →
    path_case d (variant_path d c.ident) ≡ Some n
variant-path d n c names e at = let own = names-own d in rw (own, e) (case-found d n c names e at)

-- ---- fields of a struct

-- what stands behind the dot leads to the fields from number n on
abbrev AreMembers : Form → List FieldTree → ℕ → List FieldTree → Type 0
AreMembers k all n [] = Unit {0}
AreMembers k all n (f ∷ fs) = (within all (field_number all (member_of k n (mark_field keeps_all f))) ≡ Some n) ×
    AreMembers k all (n + 1) fs

named-members : (all : List FieldTree) (n : ℕ) (fs : List FieldTree) → AreFound all n fs → AreFrom all n fs →
    AreMembers forms.Named all n fs
named-members all n [] found from = tt
named-members all n (f ∷ fs) found from =
    let here = from-first all n f fs from in
    let number = found.0 in (
      rw (number, here) refl,
      named-members all (n + 1) fs found.1 (from-rest all n f fs from),
    )

numbered-members : (all : List FieldTree) (n : ℕ) (fs : List FieldTree) → n + length fs ≤ 2 ^ 64 → AreFrom all n fs →
    AreMembers forms.Unnamed all n fs
numbered-members all n [] few from = tt
numbered-members all n (f ∷ fs) few from =
    let here = from-first all n f fs from in
    let number = numeral-value n (omega arith) in (
      rw (number, here) refl,
      numbered-members all (n + 1) fs (omega arith) (from-rest all n f fs from),
    )

all-members : (k : FieldsTree) → is_unit k ≡ false → length (field_list k) ≤ 2 ^ 64 →
    ((gs : List FieldTree) → brace_fields k ≡ Some gs → AreFieldsNamed gs) →
    AreMembers (form_of k) (field_list k) 0 (field_list k)
all-members (named gs) full few names =
    let from = from-start gs.items in
    named-members gs.items 0 gs.items (are-found gs.items 0 gs.items (names gs.items refl) from) from
all-members (unnamed gs) full few names = numbered-members gs.items 0 gs.items (omega arith) (from-start gs.items)
all-members unit full few names = absurd cc

-- ---- all cases

-- self alone
abbrev pub self_alone : Value → Names
self_alone x = (codes "self", value_of mine x) ∷ []

some-unit : (l : List Attribute → Bool) (cs : List Case) → some_unit_form (map (mark_case l) cs) ≡ some_unit cs
some-unit l [] = refl
some-unit l (c ∷ cs) = rw (unit-form c.fields, some-unit l cs) refl

unit-among : (cs : List Case) (n : ℕ) (u : Case) → slice_get cs n ≡ Some u → is_unit u.fields ≡ true → some_unit cs ≡ true
unit-among [] n u at e = absurd cc
unit-among (c ∷ cs) zero u at e = let same : c ≡ u = cc in rw (same, e) refl
unit-among (c ∷ cs) (suc n) u at e =
    let more = unit-among cs n u at e in
    elim (is_unit c.fields) as (λ b. (b || some_unit cs) ≡ true) [ true ↦ refl | false ↦ more ]

first-case : (o : Operator) (d : Declaration) (cs : List Case) (n : ℕ) (u : Case) → n ≡ 0 → slice_get cs n ≡ Some u →
    unary_struct o d (map (mark_case (skips o)) cs) ≡ own_value o d (mark_case (skips o) u)
first-case o d [] n u zero_is at = absurd cc
first-case o d (c ∷ cs) zero u zero_is at = let same : c ≡ u = cc in ap (λ (v : Case). own_value o d (mark_case (skips o) v)) same
first-case o d (c ∷ cs) (suc n) u zero_is at = absurd (omega arith)

module _ (s : Setting) (o : Operator) (is : IsGiving s o) (form : o.form ≡ ops.unary) where
  skips-none : (attrs : List Attribute) → skips o attrs ≡ false
  skips-none attrs = ap (λ (f : ops.Form). skipped_by f o.method attrs) form

  all-fields : (u : Case) → (mark_case (skips o) u).fields ≡ map (mark_field (skips o)) (field_list u.fields)
  all-fields u = fields-marked (skips o) u (skips-none u.attrs)

  gives : GivesValue s o
  gives = record { foreign = is.named.foreign; unlisted = known-value o is.operator is.value }

  -- self's fields behind a dot
  members-stand : (x : Value) (u : Case) (k : Form) (n : ℕ) (fs : List FieldTree) (xs : List Thing) → is_enum s.decl ≡ false →
      slice_get (cases s.decl) x.variant ≡ Some u → AreMembers k (field_list u.fields) n fs → AreFrom x.fields n xs → length xs ≡ length fs →
      ArePartsOf s (plain (self_alone x)) (start x) (λ m f. member (name (codes "self")) (member_of k m f)) n
      (map (mark_field (skips o)) fs) xs
  members-stand x u k n [] [] struct at are from len = tt
  members-stand x u k n [] (t ∷ ts) struct at are from len = absurd (omega arith)
  members-stand x u k n (f ∷ fs) [] struct at are from len = absurd (omega arith)
  members-stand x u k n (f ∷ fs) (t ∷ ts) struct at are from len =
      let number : within (field_list u.fields) (field_number (field_list u.fields)
      (member_of k n (mark_field keeps_all f))) ≡ Some n = are.0 in
      let found : calls.member_of s.decl (member_of k n (mark_field (skips o) f)) (value_of mine x) ≡ Some (place mine n) =
      by-member k n f number in (
        (place mine n, ap (λ r. going r (start x)) found, place-term s (start x) mine n t (from-first x.fields n t ts from)),
        members-stand x u k (n + 1) fs ts struct at are.1 (from-rest x.fields n t ts from) (omega arith),
      )
    where
      by-member : (k : Form) (n : ℕ) (f : FieldTree) → within (field_list u.fields)
          (field_number (field_list u.fields) (member_of k n (mark_field keeps_all f))) ≡ Some n →
          calls.member_of s.decl (member_of k n (mark_field (skips o) f)) (value_of mine x) ≡ Some (place mine n)
      by-member forms.Named n f number = rw (struct, at, number) refl
      by-member forms.Unnamed n f number = rw (struct, at, number) refl
      by-member forms.Unit n f number = rw (struct, at, number) refl

  -- the value of a struct
  struct-run : (x : Value) (u : Case) → is_enum s.decl ≡ false → slice_get (cases s.decl) x.variant ≡ Some u → is_unit u.fields ≡ false →
      length (field_list u.fields) ≤ 2 ^ 64 → length x.fields ≡ length (field_list u.fields) →
      run s (own_value o s.decl (mark_case (skips o) u)) (plain (self_alone x)) (start x) ≡
      Some (goes (with_fields x (map (λ t. operation o (t ∷ [])) x.fields)) (start x))
  struct-run x u struct at full few len =
      let k = form_of u.fields in
      let names : (gs : List FieldTree) → brace_fields u.fields ≡ Some gs → AreFieldsNamed gs =
      λ gs e. is.named.fields x.variant u gs at e in
      let parts = members-stand x u k 0 (field_list u.fields) x.fields struct at
      (all-members u.fields full few names) (from-start x.fields) len in
      constructor-run s (plain (self_alone x)) (start x) (own_part o k) (plain_path (s.decl.ident ∷ [])) x.variant
      (leads s.decl (plain_path (s.decl.ident ∷ [])) x.variant (own-path s.decl x.variant u struct at)) u (mark_case (skips o) u).fields _
      (record { at = at; are = fields-kept (skips o) u (skips-none u.attrs); names = names }) full
      (subst (λ fs. ArePartsOf s (plain (self_alone x)) (start x) (own_part o k) 0 fs
      (map (λ t. operation o (t ∷ [])) x.fields)) (sym (all-fields u))
      (unary-parts s (plain (self_alone x)) (start x) o gives (λ m f. member (name (codes "self")) (member_of k m f)) 0
      (map (mark_field (skips o)) (field_list u.fields)) x.fields parts))

  -- ---- a variant

  inner-stand : (x : Value) (env : Names) (n : ℕ) (fs : List FieldTree) (xs : List Thing) →
      Knows inner_name mine env n (map (mark_field (skips o)) fs) →
      AreFrom x.fields n xs → length xs ≡ length fs →
      ArePartsOf s (plain env) (start x) (λ m f. name (inner_name m)) n (map (mark_field (skips o)) fs) xs
  inner-stand x env n [] [] known from len = tt
  inner-stand x env n [] (t ∷ ts) known from len = absurd (omega arith)
  inner-stand x env n (f ∷ fs) [] known from len = absurd (omega arith)
  inner-stand x env n (f ∷ fs) (t ∷ ts) known from len =
      let here = known.0 (skips-none f.attrs) in (
        (place mine n, rw here refl, place-term s (start x) mine n t (from-first x.fields n t ts from)),
        inner-stand x env (n + 1) fs ts known.1 (from-rest x.fields n t ts from) (omega arith),
      )

  -- what its arm gives
  given-run : (x : Value) (u : Case) (env : Names) (fails : Bool) → is_enum s.decl ≡ true → slice_get (cases s.decl) x.variant ≡ Some u →
      length x.fields ≡ length (field_list u.fields) → Knows inner_name mine env 0 (map (mark_field (skips o)) (field_list u.fields)) →
      run_body s (unary_given o s.decl fails (mark_case (skips o) u)) (plain env) (start x) ≡
      Some (goes (cond (is_unit u.fields) (means.unary_unit o) (means.ok_if fails
      (with_fields x (map (λ t. operation o (t ∷ [])) x.fields)))) (start x))
  given-run x u env fails enum at len known =
      let value : ExprTree = bodies.constructor (inner_part o) (variant_path s.decl u.ident) (form_of u.fields)
      (mark_case (skips o) u).fields in
      let result : Thing = with_fields x (map (λ t. operation o (t ∷ [])) x.fields) in
      let path = variant-path s.decl x.variant u is.named enum at in
      ap (λ (b : Bool). run_body s (cond b (expr_body (bodies.unary_unit o)) (block_body (last_expr (some_expr (in_ok fails value)))))
      (plain env) (start x)) (unit-form u.fields) ∙
      (elim (is_unit u.fields) as (λ b. is_unit u.fields ≡ b →
      run_body s (cond b (expr_body (bodies.unary_unit o)) (block_body (last_expr (some_expr (in_ok fails value))))) (plain env) (start x) ≡
      Some (goes (cond b (means.unary_unit o) (means.ok_if fails result)) (start x))) [
        | true ↦ λ e. unary-unit-run s (plain env) (start x) is.named.foreign o (means-method o is.operator)
        | false ↦ λ e. ok-run s (plain env) (start x) is.named.foreign fails value result refl
            (constructor-run s (plain env) (start x) (inner_part o) (variant_path s.decl u.ident) x.variant
            (leads s.decl (variant_path s.decl u.ident) x.variant path)
            u (mark_case (skips o) u).fields _
            (record { at = at; are = fields-kept (skips o) u (skips-none u.attrs); names = λ gs g. is.named.fields x.variant u gs at g }) e
            (subst (λ fs. ArePartsOf s (plain env) (start x) (inner_part o) 0 fs
            (map (λ t. operation o (t ∷ [])) x.fields)) (sym (all-fields u))
            (unary-parts s (plain env) (start x) o gives (λ m f. name (inner_name m)) 0
            (map (mark_field (skips o)) (field_list u.fields)) x.fields
            (inner-stand x env 0 (field_list u.fields) x.fields known (from-start x.fields) len))))
      ]) refl

  -- the pattern of a case
  abbrev side_of : Case → PatternTree
  side_of c = side_pattern inner_name (variant_path s.decl c.ident) (form_of c.fields) (mark_case (skips o) c).fields

  -- at a value of the case
  pattern-fits : (x : Value) (c : Case) (env : Names) → is_enum s.decl ≡ true → slice_get (cases s.decl) x.variant ≡ Some c →
      fits s.decl (side_of c) (value_of mine x) (plain env) ≡
      Some (plain (bound_side inner_name mine 0 (mark_case (skips o) c).fields env))
  pattern-fits x c env enum at =
      let all = fields-kept (skips o) c (skips-none c.attrs) in
      let P : List FieldTree → Type 0 = AreNamedIn (form_of c.fields) in
      fits-side s.decl inner_name mine (variant_path s.decl c.ident) (form_of c.fields) (mark_case (skips o) c).fields x.variant _ env
      (variant-path s.decl x.variant c is.named enum at)
      (ap (option_and_then (λ (b : Case). looked_at (form_of c.fields) b.fields)) at ∙ looked-in c.fields ∙
      ap (λ (fs : List FieldTree). Some fs) (sym all))
      (subst P (sym all) (named-in c.fields (λ gs e. is.named.fields x.variant c gs at e)))

  -- the match of all variants
  arms-given : (x : Value) (u : Case) (fails : Bool) → is_enum s.decl ≡ true → slice_get (cases s.decl) x.variant ≡ Some u →
      run_arms s (arms_of (map (unary_arm o s.decl fails) (cases_for o s.decl))) (value_of mine x) (plain (self_alone x)) (start x) ≡
      run_body s (unary_given o s.decl fails (mark_case (skips o) u)) (plain
      (bound_side inner_name mine 0 (mark_case (skips o) u).fields (self_alone x))) (start x)
  arms-given x u fails enum at =
      ap (λ as'. run_arms s (arms_of as') (value_of mine x) (plain (self_alone x)) (start x))
      (sym (append-nil (map (unary_arm o s.decl fails) (cases_for o s.decl))) ∙
      all-arms (mark_case (skips o)) (unary_arm o s.decl fails) (λ c. unary_arm o s.decl fails (mark_case (skips o) c))
      (cases s.decl) [] (λ i c c-at. refl)) ∙
      arms-run s (value_of mine x) (plain (self_alone x)) (start x) every_case
      (λ c. unary_arm o s.decl fails (mark_case (skips o) c)) _ [] u x.variant at
      (λ n c c-at ne. arm-passes s (side_of c) (unary_given o s.decl fails (mark_case (skips o) c)) (value_of mine x)
      (plain (self_alone x)) (start x)
      (misses-side s.decl inner_name (variant_path s.decl c.ident) (form_of c.fields) (mark_case (skips o) c).fields n (of_side mine)
      x.variant (things_of x.fields) (plain (self_alone x))
      (variant-path s.decl n c is.named enum c-at) ne))
      (λ h. arm-takes s (side_of u) (unary_given o s.decl fails (mark_case (skips o) u)) (value_of mine x) (plain (self_alone x)) _
      (start x) (pattern-fits x u (self_alone x) enum at))

  enum-run : (x : Value) (u : Case) → is_enum s.decl ≡ true → slice_get (cases s.decl) x.variant ≡ Some u →
      length x.fields ≡ length (field_list u.fields) →
      run s (unary_enum o s.decl (cases_for o s.decl)) (plain (self_alone x)) (start x) ≡
      Some (goes (cond (is_unit u.fields) (means.unary_unit o) (means.ok_if (some_unit (cases s.decl))
      (with_fields x (map (λ t. operation o (t ∷ [])) x.fields)))) (start x))
  enum-run x u enum at len =
      let kept : List MarkedField = map (mark_field (skips o)) (field_list u.fields) in
      let env : List MarkedField → Names = λ fs. bound_side inner_name mine 0 fs (self_alone x) in
      let known : Knows inner_name mine (env (mark_case (skips o) u).fields) 0 kept =
      subst (λ fs. Knows inner_name mine (env fs) 0 kept) (sym (all-fields u)) (knows inner_name inner-inner mine 0 kept (self_alone x)) in
      arms-given x u (some_unit_form (cases_for o s.decl)) enum at ∙
      given-run x u (env (mark_case (skips o) u).fields) (some_unit_form (cases_for o s.decl)) enum at len known ∙
      ap (λ (b : Bool). Some (goes (cond (is_unit u.fields) (means.unary_unit o)
      (means.ok_if b (with_fields x (map (λ t. operation o (t ∷ [])) x.fields)))) (start x)))
      (some-unit (skips o) (cases s.decl))

-- ---- the method

-- an enum's answer, put otherwise
joined : (a b : Bool) (e t : Thing) → (b ≡ true → a ≡ true) → cond b e (means.ok_if a t) ≡ cond a (cond b e (success t)) t
joined true true e t h = refl
joined true false e t h = refl
joined false false e t h = refl
joined false true e t h = absurd (let z : false ≡ true = h refl in cc)

one-term : (s : Setting) (st : State) (a b : Bool) (p q : Thing) (n : ℕ) (xs : Things) →
    as_term s st (cond a (cond b (failure p) (success q)) (value another n xs)) ≡
    cond a (cond b (failure p) (success q)) (value another n xs)
one-term s st true true p q n xs = refl
one-term s st true false p q n xs = refl
one-term s st false b p q n xs = refl

pub one-gives : (o : Operator) (d : Declaration) → AreNamed d → AreOpen o d → AreFew o d → IsOperator o → o.form ≡ ops.unary →
    (x : Value) (os : List Bool) → IsValue d x →
    (is_enum d ≡ false → is_unit_in (case_of d x) ≡ false) → run_method d os (method_in ops.unary o d (cases_for o d)) x
    no_input ≡ Some (of_one o d x)
one-gives o d names open_cases few operator form x os vx full =
    let s : Setting = setting_of d os (Some receiver.Value) no_input in
    let value_is = unary-value o operator form in
    let is : IsGiving s o = record { named = names; open_cases = open_cases; operator = operator; value = value_is } in
    let ux = value-case (slice_get (cases d) x.variant) (length x.fields) vx in
    let u : Case = ux.0 in
    let at : slice_get (cases d) x.variant ≡ Some u = ux.1 in
    let result : Thing = with_fields x (map (λ t. operation o (t ∷ [])) x.fields) in
    method-gives ops.unary o d os x no_input (of_one o d x) value_is refl
    (one-term s (start x) (has_unit d) (is_unit_in (case_of d x)) _ result x.variant _)
    ((elim (is_enum d) as (λ b. is_enum d ≡ b →
    run s (cond b (unary_enum o d (cases_for o d)) (unary_struct o d (cases_for o d))) (plain (self_alone x)) (start x) ≡
    Some (goes (cond (cond b (some_unit (cases d)) false) (cond (is_unit_in (case_of d x)) (means.unary_unit o)
    (success result)) result) (start x))) [
      | true ↦ λ e.
          enum-run s o is form x u e at (sym ux.2) ∙
          ap (λ (t : Thing). Some (goes t (start x)))
          (joined (some_unit (cases d)) (is_unit u.fields) (means.unary_unit o) result (unit-among (cases d) x.variant u at)) ∙
          ap (λ (c : Option Case). Some (goes (cond (some_unit (cases d)) (cond (is_unit_in c) (means.unary_unit o) (success result))
          result) (start x))) (sym at)
      | false ↦ λ e.
          ap (λ (a : ExprTree). run s a (plain (self_alone x)) (start x)) (first-case o d (cases d) x.variant u
          (only-case d x.variant u e at) at) ∙
          struct-run s o is form x u e at (sym (ap is_unit_in at) ∙ full e) (few form e x.variant u at) (sym ux.2)
    ]) refl)
