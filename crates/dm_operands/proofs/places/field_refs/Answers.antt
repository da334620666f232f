-- What the turn of a field says of those behind it.
use Rattle.std.proofs.Common.{◌≡◌, ℕ, suc, ◌+◌, ◌<◌, Bool, List, [], ◌∷◌, ◌++◌, length, get_or, map, drop, Option, Some, None, Err, sym, ap, ◌∙◌, add-one, append_assoc}
use Rattle.std.proofs.Math.Seq.{drop-cons}
use Rattle.std.proofs.lemmas.List.{map-append}
use Rattle.std.specs.Option.{option_or}
use Rattle.dm_stream.specs.declared.error.Refusal.{Refusal}
use Rattle.dm_stream.specs.declared.error.Error.{Error}
use Rattle.dm_stream.specs.declared.error.Error.TheVariants.{NoMemory, Refused}
use Rattle.dm_ast.specs.declared.plain.Attribute.{Attribute}
use Rattle.dm_ast.specs.declared.decl.Field.{Field}
use Rattle.dm_ast.specs.Declarations.{field_view}
use Rattle.dm_operands.specs.declared.cases.FieldRef.{FieldRef}
use Rattle.dm_operands.specs.Marked.{mark_field}
use Rattle.dm_operands.specs.CaseViews.{field_ref_view}
use Rattle.dm_operands.specs.Places.{attrs_of, first_by, IsWalked, AreFieldsMarked}
use Rattle.dm_operands.proofs.places.field_refs.Goals as goal

module _ (refuses : List Attribute → Option Refusal) (leaves : List Attribute → Bool) (all : List Field) (i : ℕ) (x : Field) (h : i < length all) (e : x ≡ get_or all i x) where
  fields_left : map field_view (drop i all) ≡ field_view x ∷ map field_view (drop (i + 1) all)
  fields_left =
      let parts : drop i all ≡ x ∷ drop (i + 1) all = rw add-one (drop-cons all i x h ∙ ap (λ y. y ∷ drop (suc i) all) (sym e)) in
      ap (map field_view) parts

  first_left : first_by refuses (map attrs_of (map field_view (drop i all))) ≡
      option_or (refuses x.attrs) (first_by refuses (map attrs_of (map field_view (drop (i + 1) all))))
  first_left = ap (λ fs. first_by refuses (map attrs_of fs)) fields_left

  -- where it is refused, so are all
  field_refused : (r : Error) → first_by refuses (map attrs_of (map field_view (drop i all))) ≡ first_by refuses (map attrs_of (map field_view all)) →
      IsWalked (refuses x.attrs) (λ f. field_ref_view f ≡ mark_field leaves (field_view x)) (Err r) → AreFieldsMarked refuses leaves (map field_view all) (Err r)
  field_refused NoMemory so_far refused = tt
  field_refused (Refused r) so_far refused =
      sym so_far ∙ first_left ∙ ap (λ o. option_or o (first_by refuses (map attrs_of (map field_view (drop (i + 1) all))))) refused

  -- where it isn't, the first refusal stands behind it
  field_passes : first_by refuses (map attrs_of (map field_view (drop i all))) ≡ first_by refuses (map attrs_of (map field_view all)) →
      refuses x.attrs ≡ None →
      first_by refuses (map attrs_of (map field_view (drop (i + 1) all))) ≡ first_by refuses (map attrs_of (map field_view all))
  field_passes so_far none =
      sym (ap (λ o. option_or o (first_by refuses (map attrs_of (map field_view (drop (i + 1) all))))) none) ∙ sym first_left ∙ so_far

  -- and it stands behind the fields that are marked
  field_added : (front made : List FieldRef) (r : FieldRef) → made ≡ front ++ r ∷ [] → field_ref_view r ≡ mark_field leaves (field_view x) →
      map field_ref_view front ++ map (mark_field leaves) (map field_view (drop i all)) ≡ map (mark_field leaves) (map field_view all) →
      map field_ref_view made ++ map (mark_field leaves) (map field_view (drop (i + 1) all)) ≡ map (mark_field leaves) (map field_view all)
  field_added front made r made_is same so_far =
      let rest = map (mark_field leaves) (map field_view (drop (i + 1) all)) in
      ap (λ fs. map field_ref_view fs ++ rest) made_is ∙ ap (λ fs. fs ++ rest) (map-append field_ref_view front (r ∷ [])) ∙
      append_assoc (map field_ref_view front) (field_ref_view r ∷ []) rest ∙ ap (λ f. map field_ref_view front ++ f ∷ rest) same ∙
      ap (λ fs. map field_ref_view front ++ map (mark_field leaves) fs) (sym fields_left) ∙ so_far

pub returns-in-Err : goal.returns-in-Err
returns-in-Err g c =
    field_refused (g.L.Leaving.refuses c.args.leaving.now) (g.L.Leaving.leaves_out c.args.leaving.now) c.args.fields.now c.loop-field.field-index c.field-item.result
    c.loop-field-test.true c.field-item.is c.in-Err.error c.loop-field.invariant.0 c.in-Err.ensures

pub loop-field-preserved : goal.loop-field-preserved
loop-field-preserved g c =
    let refuses = g.L.Leaving.refuses c.args.leaving.now in
    let leaves = g.L.Leaving.leaves_out c.args.leaving.now in
    let all = c.args.fields.now in
    let i = c.loop-field.field-index in
    let x = c.field-item.result in (
      field_passes refuses leaves all i x c.loop-field-test.true c.field-item.is c.loop-field.invariant.0 c.in-Ok.ensures.0,
      field_added refuses leaves all i x c.loop-field-test.true c.field-item.is c.loop-field.out.items c.add.new.out.items c.in-Ok.next
          c.in_ok-add-in-Ok.ensures c.in-Ok.ensures.1 c.loop-field.invariant.1,
    )
