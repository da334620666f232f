-- A declaration is refused nowhere exactly where the operator is derived for it.
use Rattle.std.proofs.Common.{◌≡◌, ◌≢◌, List, [], ◌∷◌, map, Bool, true, false, not, cond, ◌||◌, ◌&&◌, None, refl, ap}
use Rattle.std.specs.Prelude.{◌↔◌}
use Rattle.dm_stream.specs.declared.error.Kind.{Kind}
use Rattle.dm_stream.specs.declared.error.Kind.TheVariants.{WrongShape, AllSkipped, AttrSyntax}
use Rattle.dm_stream.specs.declared.tokens.Span.{Span}
use Rattle.dm_ast.specs.declared.plain.Attribute.{Attribute}
use Rattle.dm_ast.specs.Declarations.{Declaration, FieldTree, VariantTree, ShapeTree, struct_shape, enum_shape, union_shape}
use Rattle.dm_output.specs.Values.{is_enum, field_list}
use Rattle.dm_attr.specs.Skips.{no, yes, bad, reads_skip, skip_among, skip}
use Rattle.dm_attr.specs.SkipRefusals.{refusal_at}
use Rattle.dm_attr.proofs.Agreeing.{Agree, agree_none, agree_one, agree_two}
use Rattle.dm_operators.specs.Operators.{Form, structural, scalar, unary, Operator}
use Rattle.dm_operators.specs.Attributes.{reads_forward, forward_among, forwards}
use Rattle.dm_operators.specs.Meaning.{is_unit}
use Rattle.dm_operators.specs.Refusals.{refused_if, reading_refusal, given_refusal, examined, unskipped_refusals, word_of, is_union, is_unit_struct, wrong_if, field_refusal, all_skipped, fields_refusals, variant_refusals, shape_refusals, refusals_by, refusal}
use Rattle.dm_operators.specs.Valid.{IsPlain, AreGoodFields, IsGoodVariant, AreGoodParts, IsStructural, IsScalar, IsUnary, IsValidBy, IsValid}
use Rattle.dm_operands.proofs.FirstLaws.{AllNone, first-none, none-first, none-front, none-behind, none-both, each-none, map-none}
use Rattle.dm_operators.proofs.RefusalLaws.{not-refused, or-false, none-given}

-- ---- lists of refusals

unrefused-if : (b : Bool) (k : Kind) (at : Span) → b ≡ false → refused_if b k at ≡ None
unrefused-if true k at h = absurd cc
unrefused-if false k at h = refl

-- ---- attributes

agree-skip : (as' : List Attribute) → Agree (reading_refusal reads_skip as') (skip_among as')
agree-skip [] = agree_none no (λ e. cc)
agree-skip (a ∷ []) = agree_one (reads_skip a.args) (refusal_at AttrSyntax a)
agree-skip (a ∷ b ∷ more) = agree_two (reads_skip a.args) (refusal_at AttrSyntax a) _

agree-forward : (as' : List Attribute) → Agree (reading_refusal reads_forward as') (forward_among as')
agree-forward [] = agree_none no (λ e. cc)
agree-forward (a ∷ []) = agree_one (reads_forward a.args) (refusal_at AttrSyntax a)
agree-forward (a ∷ b ∷ more) = agree_two (reads_forward a.args) (refusal_at AttrSyntax a) _

no-skip : (as' : List Attribute) → skip_among as' ≡ no → as' ≡ []
no-skip [] h = refl
no-skip (a ∷ []) h = absurd ((elim (reads_skip a.args) as (λ b. cond b yes bad ≡ no → ⊥) [ true ↦ λ k. cc | false ↦ λ k. cc ]) h)
no-skip (a ∷ b ∷ more) h = absurd cc

plain-place : (o : Operator) (attrs : List Attribute) → AllNone (unskipped_refusals o attrs) ↔ IsPlain o attrs
plain-place o attrs = (
  λ h. ap skip_among (none-given (examined o attrs) h.1.0),
  λ h. let none = no-skip (examined o attrs) h in (ap (reading_refusal reads_skip) none, (ap given_refusal none, tt)),
)

-- ---- fields and variants

good-fields : (o : Operator) (at : Span) (fs : List FieldTree) → AllNone (fields_refusals o at fs) ↔ AreGoodFields o fs
good-fields o at fs =
    let each = map-none (field_refusal o) (λ f. skip f.attrs o.method ≢ bad) (λ f. agree-skip (examined o f.attrs)) fs in
    let last = refused_if (all_skipped o fs) AllSkipped at ∷ [] in (
      λ h. record {
        good = each.0 (none-front (map (field_refusal o) fs) last h);
        kept = not-refused (all_skipped o fs) AllSkipped at (none-behind (map (field_refusal o) fs) last h).0;
      },
      λ g. none-both (map (field_refusal o) fs) last (each.1 g.good) (unrefused-if (all_skipped o fs) AllSkipped at g.kept, tt),
    )

if-fields : (o : Operator) (at : Span) (fs : List FieldTree) (b : Bool) →
    AllNone (cond b [] (fields_refusals o at fs)) ↔ (b ≡ false → AreGoodFields o fs)
if-fields o at fs true = (λ h e. absurd cc, λ h. tt)
if-fields o at fs false = (λ h e. (good-fields o at fs).0 h, λ h. (good-fields o at fs).1 (h refl))

good-variant : (o : Operator) (v : VariantTree) → AllNone (variant_refusals o v) ↔ IsGoodVariant o v
good-variant o v =
    let inner = if-fields o v.span (field_list v.fields) (is_unit v.fields) in
    let more = cond (is_unit v.fields) [] (fields_refusals o v.span (field_list v.fields)) in (
      λ h. record {
        own = (plain-place o v.attrs).0 (none-front (unskipped_refusals o v.attrs) more h);
        fields = inner.0 (none-behind (unskipped_refusals o v.attrs) more h);
      },
      λ g. none-both (unskipped_refusals o v.attrs) more ((plain-place o v.attrs).1 g.own) (inner.1 g.fields),
    )

good-parts : (o : Operator) (k : ShapeTree) → AllNone (shape_refusals o k) ↔ AreGoodParts o k
good-parts o (struct_shape word fs) = good-fields o word (field_list fs)
good-parts o (enum_shape word vs) = each-none (variant_refusals o) (IsGoodVariant o) (good-variant o) vs.items
good-parts o (union_shape word fs) = (λ h. tt, λ h. tt)

-- ---- shapes

and-if : (a b : Bool) → (a && b) ≡ false → a ≡ true → b ≡ false
and-if true b h e = h
and-if false b h e = absurd cc

if-and : (a b : Bool) → (a ≡ true → b ≡ false) → (a && b) ≡ false
if-and true b h = h refl
if-and false b h = refl

not-if : (a b : Bool) → (not a && b) ≡ false → a ≡ false → b ≡ false
not-if true b h e = absurd cc
not-if false b h e = h

if-not : (a b : Bool) → (a ≡ false → b ≡ false) → (not a && b) ≡ false
if-not true b h = refl
if-not false b h = h refl

false-both : (a b : Bool) → a ≡ false → b ≡ false → (a || b) ≡ false
false-both true b h k = absurd cc
false-both false b h k = k

-- ---- the forms

good-structural : (o : Operator) (d : Declaration) → AllNone (refusals_by structural o d) ↔ IsStructural o d
good-structural o d =
    let more = wrong_if (is_unit_struct d.shape) d ∷ shape_refusals o d.shape in (
      λ h.
          let wrong = or-false (is_union d.shape) (o.assigning && is_enum d) (not-refused _ WrongShape (word_of d.shape) h.0) in
          let behind = none-behind (unskipped_refusals o d.attrs) more h.1 in
          record {
            shape = record {
              union = wrong.0;
              unit = not-refused (is_unit_struct d.shape) WrongShape (word_of d.shape) behind.0;
              enum = and-if o.assigning (is_enum d) wrong.1;
            };
            own = (plain-place o d.attrs).0 (none-front (unskipped_refusals o d.attrs) more h.1);
            parts = (good-parts o d.shape).0 behind.1;
          },
      λ g. (
        unrefused-if _ WrongShape (word_of d.shape) (false-both (is_union d.shape) (o.assigning && is_enum d) g.shape.union
            (if-and o.assigning (is_enum d) g.shape.enum)),
        none-both (unskipped_refusals o d.attrs) more ((plain-place o d.attrs).1 g.own)
            (unrefused-if (is_unit_struct d.shape) WrongShape (word_of d.shape) g.shape.unit, (good-parts o d.shape).1 g.parts),
      ),
    )

good-scalar : (o : Operator) (d : Declaration) → AllNone (refusals_by scalar o d) ↔ IsScalar o d
good-scalar o d = (
  λ h.
      let wrong = or-false (is_union d.shape || is_unit_struct d.shape) (o.assigning && is_enum d)
      (not-refused _ WrongShape (word_of d.shape) h.0) in
      let shape = or-false (is_union d.shape) (is_unit_struct d.shape) wrong.0 in
      record {
        shape = record { union = shape.0; unit = shape.1; enum = and-if o.assigning (is_enum d) wrong.1 };
        own = (agree-forward (examined o d.attrs)).0 h.1.0;
        enum = not-if (forwards o d.attrs) (is_enum d) (not-refused _ WrongShape (word_of d.shape) h.1.1.0);
        parts = (good-parts o d.shape).0 h.1.1.1;
      },
  λ g. (
    unrefused-if _ WrongShape (word_of d.shape) (false-both (is_union d.shape || is_unit_struct d.shape) (o.assigning && is_enum d)
        (false-both (is_union d.shape) (is_unit_struct d.shape) g.shape.union g.shape.unit) (if-and o.assigning (is_enum d) g.shape.enum)),
    (
      (agree-forward (examined o d.attrs)).1 g.own,
      (
        unrefused-if _ WrongShape (word_of d.shape) (if-not (forwards o d.attrs) (is_enum d) g.enum),
        (good-parts o d.shape).1 g.parts,
      ),
    ),
  ),
)

good-unary : (o : Operator) (d : Declaration) → AllNone (refusals_by unary o d) ↔ IsUnary d
good-unary o d = (
  λ h.
      let shape = or-false (is_union d.shape) (is_unit_struct d.shape) (not-refused _ WrongShape (word_of d.shape) h.0) in
      record { union = shape.0; unit = shape.1 },
  λ g. (unrefused-if _ WrongShape (word_of d.shape) (false-both (is_union d.shape) (is_unit_struct d.shape) g.union g.unit), tt),
)

good-by : (f : Form) (o : Operator) (d : Declaration) → AllNone (refusals_by f o d) ↔ IsValidBy f o d
good-by structural o d = good-structural o d
good-by scalar o d = good-scalar o d
good-by unary o d = good-unary o d

pub unrefused : (o : Operator) (d : Declaration) → (refusal o d ≡ None) ↔ IsValid o d
unrefused o d = (
  λ h. (good-by o.form o d).0 (first-none (refusals_by o.form o d) h),
  λ v. none-first (refusals_by o.form o d) ((good-by o.form o d).1 v),
)
