-- Steps of the walk over the places that an operator looks at.
use Rattle.std.proofs.Common.{◌≡◌, ℕ, ◌+◌, ◌<◌, List, [], ◌∷◌, length, get_or, map, drop, true, false, not, ◌||◌, ◌&&◌, Option, Some, None, Err, refl, sym, ap, ◌∙◌}
use Rattle.std.proofs.lemmas.Grind.{common_steps}
use Rattle.std.specs.declared.alloc.Global.{Global}
use Rattle.std.specs.declared.vec.Vec.{Vec}
use Rattle.dm_stream.specs.declared.tokens.Span.{Span}
use Rattle.dm_stream.specs.declared.error.Kind.TheVariants.{AllSkipped}
use Rattle.dm_stream.specs.declared.error.Refusal.{Refusal}
use Rattle.dm_stream.specs.declared.error.Error.{Error}
use Rattle.dm_stream.specs.declared.error.Error.TheVariants.{NoMemory, Refused}
use Rattle.dm_ast.specs.declared.plain.Attribute.{Attribute}
use Rattle.dm_ast.specs.declared.decl.Variant.{Variant}
use Rattle.dm_ast.specs.Declarations.{FieldTree, variant_view}
use Rattle.dm_output.specs.Values.{case_of_variant}
use Rattle.dm_attr.specs.Answers.{IsWalked}
use Rattle.dm_operands.specs.declared.cases.CaseRef.{CaseRef}
use Rattle.dm_operands.specs.Marked.{MarkedField, mark_field}
use Rattle.dm_operands.specs.Kept.{keeps_some}
use Rattle.dm_operands.specs.Places.{first_by}
use Rattle.dm_operands.specs.CaseViews.{case_view}
use Rattle.dm_operands.proofs.PlaceLaws.{or_none, cases_from, TellsFirst, refused_so, passes_so}
use Rattle.dm_operators.specs.Operators.{Operator}
use Rattle.dm_operators.specs.Attributes.{skipped_under}
use Rattle.dm_operators.specs.Refusals.{refused_if, all_skipped}
use Rattle.dm_operators.specs.Plans.{variant_refusal, first_variant, opened, AreOpened}

-- ---- fields

-- none is left where no mark keeps one
pub all-skipped : (o : Operator) (fs : List FieldTree) → all_skipped o fs ≡ not (keeps_some (map (mark_field (skipped_under o.method)) fs))
all-skipped o [] = refl
all-skipped o (f ∷ fs) =
    elim (skipped_under o.method f.attrs) as (λ b. (b && all_skipped o fs) ≡ not (not b || keeps_some (map (mark_field (skipped_under o.method)) fs))) [
      | true ↦ all-skipped o fs
      | false ↦ refl
    ]

pub some-left : (o : Operator) (at : Span) (fs : List FieldTree) (marks : List MarkedField) → marks ≡ map (mark_field (skipped_under o.method)) fs →
    keeps_some marks ≡ true → refused_if (all_skipped o fs) AllSkipped at ≡ None
some-left o at fs marks same keeps =
    ap (λ b. refused_if b AllSkipped at) (all-skipped o fs ∙ ap (λ ms. not (keeps_some ms)) (sym same) ∙ ap not keeps)

pub none-left : (o : Operator) (at : Span) (fs : List FieldTree) (marks : List MarkedField) → marks ≡ map (mark_field (skipped_under o.method)) fs →
    keeps_some marks ≡ false → refused_if (all_skipped o fs) AllSkipped at ≡ Some (record { kind = AllSkipped; span = at })
none-left o at fs marks same keeps =
    ap (λ b. refused_if b AllSkipped at) (all-skipped o fs ∙ ap (λ ms. not (keeps_some ms)) (sym same) ∙ ap not keeps)

-- where nothing is looked at nothing is refused
pub none-by : (ps : List (List Attribute)) → first_by (λ _. None) ps ≡ None
none-by [] = refl
none-by (p ∷ ps) = none-by ps

-- ---- one variant more

-- the first refusal of variants
abbrev refusal_among : Operator → List Variant → Option Refusal
refusal_among o vs = first_variant o (map variant_view vs)

refusal-first : (o : Operator) → TellsFirst (λ v. variant_refusal o (variant_view v)) (refusal_among o)
refusal-first o v vs = refl

module _ (all : List Variant) (i : ℕ) (x : Variant) (h : i < length all) (e : x ≡ get_or all i x) (o : Operator) where
  -- where it is refused, so are all
  pub variant_refused : (r : Error) → refusal_among o (drop i all) ≡ refusal_among o all →
      IsWalked (variant_refusal o (variant_view x)) (λ (c : CaseRef). case_view c ≡ opened (skipped_under o.method) (case_of_variant (variant_view x)))
      (Err r) →
      IsWalked (refusal_among o all) (λ (cs : Vec CaseRef Global). AreOpened (skipped_under o.method) (cases_from all) cs.items) (Err r)
  variant_refused NoMemory so_far refused = tt
  variant_refused (Refused r) so_far refused =
      refused_so (λ v. variant_refusal o (variant_view v)) (refusal_among o) (refusal-first o) all i x h e r so_far refused

  -- where it isn't, the first refusal stands behind it
  pub variant_passes : refusal_among o (drop i all) ≡ refusal_among o all → variant_refusal o (variant_view x) ≡ None →
      refusal_among o (drop (i + 1) all) ≡ refusal_among o all
  variant_passes so_far none =
      passes_so (λ v. variant_refusal o (variant_view v)) (refusal_among o) (refusal-first o) all i x h e so_far none

pub ruleset walk_steps = (common_steps, or_none, none-by, some-left, none-left)
