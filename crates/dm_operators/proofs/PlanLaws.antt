-- What the walk over the places gives is the plan of the declaration, or its first refusal.
use Rattle.std.proofs.Common.{◌≡◌, ℕ, zero, suc, List, [], ◌∷◌, ◌++◌, map, Bool, true, false, not, cond, ◌||◌, ◌&&◌, Option, Some, None, Result, Ok, Err, slice_get, refl, sym, ap, ◌∙◌}
use Rattle.std.specs.Prelude.{flat_map, Vec}
use Rattle.std.specs.Option.{option_or}
use Rattle.std.specs.declared.alloc.Global.{Global}
use Rattle.dm_stream.specs.declared.tokens.Span.{Span}
use Rattle.dm_stream.specs.declared.error.Kind.TheVariants.{WrongShape, AllSkipped}
use Rattle.dm_stream.specs.declared.error.Error.{Error}
use Rattle.dm_stream.specs.declared.error.Error.TheVariants.{NoMemory, Refused}
use Rattle.dm_stream.specs.declared.error.Refusal.{Refusal}
use Rattle.dm_ast.specs.declared.plain.Attribute.{Attribute}
use Rattle.dm_ast.specs.Declarations.{Declaration, FieldTree, VariantTree, ShapeTree, struct_shape, enum_shape, union_shape}
use Rattle.dm_output.specs.Values.{Case, cases, is_enum, field_list}
use Rattle.dm_attr.specs.Answers.{IsWalked}
use Rattle.dm_attr.specs.SkipRefusals.{unskipped_refusal}
use Rattle.dm_operands.specs.declared.cases.CaseRef.{CaseRef}
use Rattle.dm_operands.specs.Marked.{MarkedCase, form_of, mark_field, mark_case}
use Rattle.dm_operands.specs.Places.{attrs_of, first_by}
use Rattle.dm_operands.proofs.FirstLaws.{first-both}
use Rattle.dm_operands.proofs.PlaceLaws.{or_none}
use Rattle.dm_operators.specs.declared.operator.Form.TheVariants.{Structural, Unary}
use Rattle.dm_operators.specs.declared.places.Plan.{Plan}
use Rattle.dm_operators.specs.Operators.{Form, structural, scalar, unary, Operator}
use Rattle.dm_operators.specs.Table.{form_view}
use Rattle.dm_operators.specs.Attributes.{skipped_under, keeps_all, skipped_by, cases_for, forwards, form_by}
use Rattle.dm_operators.specs.Meaning.{is_unit}
use Rattle.dm_operators.specs.Refusals.{first, refused_if, given_refusal, examined, skip_refusal, unskipped_refusals, forward_refusal, word_of, is_union, is_unit_struct, wrong_if, field_refusal, all_skipped, fields_refusals, variant_refusals, shape_refusals, structural_refusals, scalar_refusals, refusals_by, refusal}
use Rattle.dm_operators.specs.Plans.{fields_refusal, own_refusal, variant_refusal, first_variant, parts_refusal, structural_refusal, scalar_refusal, whole_refusal, unary_refusal, opened, AreOpened, IsPlanned, planned}
use Rattle.dm_operators.proofs.RefusalLaws.{unrefused-open}

-- ---- the refusals step by step are the list of refusals

or-assoc : (a b c : Option Refusal) → option_or a (option_or b c) ≡ option_or (option_or a b) c
or-assoc None b c = refl
or-assoc (Some x) b c = refl

module _ (o : Operator) where
  each-field : (fs : List FieldTree) → first (map (field_refusal o) fs) ≡ first_by (skip_refusal o) (map attrs_of fs)
  each-field [] = refl
  each-field (f ∷ fs) = ap (option_or (skip_refusal o f.attrs)) (each-field fs)

  fields-steps : (at : Span) (fs : List FieldTree) → first (fields_refusals o at fs) ≡ fields_refusal o at fs
  fields-steps at fs =
      first-both (map (field_refusal o) fs) (refused_if (all_skipped o fs) AllSkipped at ∷ []) ∙
      ap (λ r. option_or r (option_or (refused_if (all_skipped o fs) AllSkipped at) None)) (each-field fs) ∙
      ap (option_or (first_by (skip_refusal o) (map attrs_of fs))) (or_none (refused_if (all_skipped o fs) AllSkipped at))

  unskipped-steps : (attrs : List Attribute) (rs : List (Option Refusal)) →
      first (unskipped_refusals o attrs ++ rs) ≡ option_or (unskipped_refusal o.method attrs) (first rs)
  unskipped-steps attrs rs = or-assoc (skip_refusal o attrs) (given_refusal (examined o attrs)) (first rs)

  own-steps : (v : VariantTree) → first (cond (is_unit v.fields) [] (fields_refusals o v.span (field_list v.fields))) ≡ own_refusal o v
  own-steps v =
      elim (is_unit v.fields) as (λ b. first (cond b [] (fields_refusals o v.span (field_list v.fields))) ≡
      cond b None (fields_refusal o v.span (field_list v.fields)))
      [ true ↦ refl | false ↦ fields-steps v.span (field_list v.fields) ]

  variants-steps : (vs : List VariantTree) → first (flat_map (variant_refusals o) vs) ≡ first_variant o vs
  variants-steps [] = refl
  variants-steps (v ∷ vs) =
      first-both (variant_refusals o v) (flat_map (variant_refusals o) vs) ∙
      ap (λ r. option_or r (first (flat_map (variant_refusals o) vs)))
      (unskipped-steps v.attrs (cond (is_unit v.fields) [] (fields_refusals o v.span (field_list v.fields))) ∙
      ap (option_or (unskipped_refusal o.method v.attrs)) (own-steps v)) ∙
      ap (option_or (variant_refusal o v)) (variants-steps vs)

  -- a union is refused before its parts are asked for
  behind-union : (k : ShapeTree) (b : Bool) (f : Option Refusal → Option Refusal) →
      option_or (refused_if (is_union k || b) WrongShape (word_of k)) (f (first (shape_refusals o k))) ≡
      option_or (refused_if (is_union k || b) WrongShape (word_of k)) (f (parts_refusal o k))
  behind-union (struct_shape w fs) b f = ap (λ r. option_or (refused_if b WrongShape w) (f r)) (fields-steps w (field_list fs))
  behind-union (enum_shape w vs) b f = ap (λ r. option_or (refused_if b WrongShape w) (f r)) (variants-steps vs.items)
  behind-union (union_shape w fs) b f = refl

  behind-unit : (k : ShapeTree) (b : Bool) (f : Option Refusal → Option Refusal) →
      option_or (refused_if ((is_union k || is_unit_struct k) || b) WrongShape (word_of k)) (f (first (shape_refusals o k))) ≡
      option_or (refused_if ((is_union k || is_unit_struct k) || b) WrongShape (word_of k)) (f (parts_refusal o k))
  behind-unit (struct_shape w fs) b f = ap (λ r. option_or (refused_if (is_unit fs || b) WrongShape w) (f r)) (fields-steps w (field_list fs))
  behind-unit (enum_shape w vs) b f = ap (λ r. option_or (refused_if b WrongShape w) (f r)) (variants-steps vs.items)
  behind-unit (union_shape w fs) b f = refl

  structural-steps : (d : Declaration) → first (structural_refusals o d) ≡ structural_refusal o d
  structural-steps d =
      ap (option_or (wrong_if (is_union d.shape || o.assigning && is_enum d) d))
      (unskipped-steps d.attrs (wrong_if (is_unit_struct d.shape) d ∷ shape_refusals o d.shape)) ∙
      behind-union d.shape (o.assigning && is_enum d)
      (λ r. option_or (unskipped_refusal o.method d.attrs) (option_or (wrong_if (is_unit_struct d.shape) d) r))

  scalar-steps : (d : Declaration) → first (scalar_refusals o d) ≡ scalar_refusal o d
  scalar-steps d =
      let shape : Option Refusal = wrong_if (is_union d.shape || is_unit_struct d.shape || o.assigning && is_enum d) d in
      let enum : Option Refusal = wrong_if (not (forwards o d.attrs) && is_enum d) d in
      behind-unit d.shape (o.assigning && is_enum d) (λ r. option_or (forward_refusal o d.attrs) (option_or enum r)) ∙
      ap (option_or shape) (or-assoc (forward_refusal o d.attrs) enum (parts_refusal o d.shape)) ∙
      or-assoc shape (option_or (forward_refusal o d.attrs) enum) (parts_refusal o d.shape)

  unary-steps : (d : Declaration) → first (refusals_by unary o d) ≡ unary_refusal d
  unary-steps d = by-shape d.shape
    where
      by-shape : (k : ShapeTree) → option_or (refused_if (is_union k || is_unit_struct k) WrongShape (word_of k)) None ≡
          option_or (refused_if (is_union k || is_unit_struct k) WrongShape (word_of k)) (whole_refusal k)
      by-shape (struct_shape w fs) = refl
      by-shape (enum_shape w vs) = refl
      by-shape (union_shape w fs) = refl

-- ---- cases

-- cases that aren't skipped themselves
open-same : (l : List Attribute → Bool) (cs : List Case) → ((n : ℕ) (c : Case) → slice_get cs n ≡ Some c → l c.attrs ≡ false) →
    map (opened l) cs ≡ map (mark_case l) cs
open-same l [] kept = refl
open-same l (c ∷ cs) kept =
    let mark : Bool → MarkedCase = λ b.
    record { ident = c.ident; form = form_of c.fields; left_out = b; fields = cond b [] (map (mark_field l) (field_list c.fields)) } in
    ap (λ (m : MarkedCase). m ∷ map (opened l) cs) (ap mark (sym (kept zero c refl))) ∙
    ap (λ (ms : List MarkedCase). mark_case l c ∷ ms) (open-same l cs (λ n. kept (suc n)))

module _ (o : Operator) (d : Declaration) where
  -- those of an operator in this form
  open-cases : (f : Form) → o.form ≡ f → refusal o d ≡ None → map (opened (skipped_by f o.method)) (cases d) ≡ cases_for o d
  open-cases f form none =
      open-same (skipped_by f o.method) (cases d) (λ n c at.
      ap (λ g. skipped_by g o.method c.attrs) (sym form) ∙ unrefused-open o d none n c at) ∙
      ap (λ g. map (mark_case (skipped_by g o.method)) (cases d)) (sym form)

  refused-by : (f : Form) → o.form ≡ f → refusal o d ≡ first (refusals_by f o d)
  refused-by f form = ap (λ g. first (refusals_by g o d)) form

  -- ---- plans

  pub structural-plan : (r : Result (Vec CaseRef Global) Error) → o.form ≡ structural →
      IsWalked (structural_refusal o d) (λ x. AreOpened (skipped_under o.method) (cases d) x.items) r → IsPlanned o d (planned Structural r)
  structural-plan (Ok cs) form h =
      let none : refusal o d ≡ None = refused-by structural form ∙ structural-steps o d ∙ h.0 in
      (none, record { form = ap (λ f. form_by f (forwards o d.attrs)) (sym form); cases = h.1 ∙ open-cases structural form none })
  structural-plan (Err NoMemory) form h = tt
  structural-plan (Err (Refused r)) form h = refused-by structural form ∙ structural-steps o d ∙ h

  pub scalar-plan : (r : Result Plan Error) → o.form ≡ scalar →
      IsWalked (scalar_refusal o d) (λ p. (form_view p.form ≡ form_by scalar (forwards o d.attrs)) ×
      AreOpened (skipped_under o.method) (cases d) p.cases.items) r → IsPlanned o d r
  scalar-plan (Ok p) form h =
      let none : refusal o d ≡ None = refused-by scalar form ∙ scalar-steps o d ∙ h.0 in
      (none, record { form = h.1.0 ∙ ap (λ f. form_by f (forwards o d.attrs)) (sym form); cases = h.1.1 ∙ open-cases scalar form none })
  scalar-plan (Err NoMemory) form h = tt
  scalar-plan (Err (Refused r)) form h = refused-by scalar form ∙ scalar-steps o d ∙ h

  pub unary-plan : (r : Result (Vec CaseRef Global) Error) → o.form ≡ unary →
      IsWalked (unary_refusal d) (λ x. AreOpened keeps_all (cases d) x.items) r → IsPlanned o d (planned Unary r)
  unary-plan (Ok cs) form h =
      let none : refusal o d ≡ None = refused-by unary form ∙ unary-steps o d ∙ h.0 in
      (none, record { form = ap (λ f. form_by f (forwards o d.attrs)) (sym form); cases = h.1 ∙ open-cases unary form none })
  unary-plan (Err NoMemory) form h = tt
  unary-plan (Err (Refused r)) form h = refused-by unary form ∙ unary-steps o d ∙ h
