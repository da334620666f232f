-- Refusals of places one after the other.
use Rattle.std.proofs.Common.{◌≡◌, ℕ, suc, ◌+◌, ◌<◌, List, [], ◌∷◌, ◌++◌, length, get_or, map, drop, Option, Some, None, Err, refl, sym, ap, ◌∙◌, add-one, append_assoc}
use Rattle.std.proofs.Math.Seq.{drop-cons}
use Rattle.std.proofs.lemmas.List.{map-append}
use Rattle.std.specs.Prelude.{flat_map}
use Rattle.std.specs.Option.{option_or}
use Rattle.std.proofs.lemmas.Grind.{common_steps}
use Rattle.dm_stream.specs.declared.error.Refusal.{Refusal}
use Rattle.dm_ast.specs.declared.plain.Attribute.{Attribute}
use Rattle.dm_attr.specs.Skips.{is_skipped}
use Rattle.dm_attr.specs.SkipRefusals.{place_refusal}
use Rattle.dm_stream.specs.declared.error.Error.{Error}
use Rattle.dm_stream.specs.declared.error.Error.TheVariants.{NoMemory, Refused}
use Rattle.dm_ast.specs.declared.decl.Variant.{Variant}
use Rattle.dm_ast.specs.Declarations.{variant_view}
use Rattle.dm_output.specs.Values.{Case, case_of_variant}
use Rattle.dm_operands.specs.declared.cases.CaseRef.{CaseRef}
use Rattle.dm_operands.specs.Marked.{MarkedCase, mark_case}
use Rattle.dm_operands.specs.CaseViews.{case_view}
use Rattle.dm_operands.specs.Places.{places, first, first_refusal, IsCaseWalked, AreCasesWalked}
use Rattle.dm_operands.proofs.FirstLaws.{first-both}

pub or_none : (o : Option Refusal) → option_or o None ≡ o
or_none None = refl
or_none (Some r) = refl

pub first-append : (ps qs : List (List Attribute)) → first_refusal (ps ++ qs) ≡ option_or (first_refusal ps) (first_refusal qs)
first-append ps qs = ap first (map-append place_refusal ps qs) ∙ first-both (map place_refusal ps) (map place_refusal qs)

-- ---- one variant more

abbrev pub cases_from : List Variant → List Case
cases_from vs = map case_of_variant (map variant_view vs)

module _ (all : List Variant) (i : ℕ) (x : Variant) (h : i < length all) (e : x ≡ get_or all i x) where
  left : drop i all ≡ x ∷ drop (i + 1) all
  left = rw add-one (drop-cons all i x h ∙ ap (λ y. y ∷ drop (suc i) all) (sym e))

  -- its case, marked so, stands behind those that are made
  pub variant_added : (mark : Case → MarkedCase) (front made : List CaseRef) (r : CaseRef) → made ≡ front ++ r ∷ [] →
      case_view r ≡ mark (case_of_variant (variant_view x)) →
      map case_view front ++ map mark (cases_from (drop i all)) ≡ map mark (cases_from all) →
      map case_view made ++ map mark (cases_from (drop (i + 1) all)) ≡ map mark (cases_from all)
  variant_added mark front made r made_is same so_far =
      let rest = map mark (cases_from (drop (i + 1) all)) in
      ap (λ cs. map case_view cs ++ rest) made_is ∙ ap (λ cs. cs ++ rest) (map-append case_view front (r ∷ [])) ∙
      append_assoc (map case_view front) (case_view r ∷ []) rest ∙ ap (λ c. map case_view front ++ c ∷ rest) same ∙
      ap (λ vs. map case_view front ++ map mark (cases_from vs)) (sym left) ∙ so_far

-- the first refusal of variants is that of the first one, or else that of those behind it
abbrev pub TellsFirst : (Variant → Option Refusal) → (List Variant → Option Refusal) → Type 0
TellsFirst own among = (x : Variant) (xs : List Variant) → among (x ∷ xs) ≡ option_or (own x) (among xs)

module _ (own : Variant → Option Refusal) (among : List Variant → Option Refusal) (first_is : TellsFirst own among)
    (all : List Variant) (i : ℕ) (x : Variant) (h : i < length all) (e : x ≡ get_or all i x) where
  first_left : among (drop i all) ≡ option_or (own x) (among (drop (i + 1) all))
  first_left = ap among (left all i x h e) ∙ first_is x (drop (i + 1) all)

  -- where it is refused, so are all
  pub refused_so : (r : Refusal) → among (drop i all) ≡ among all → own x ≡ Some r → among all ≡ Some r
  refused_so r so_far refused = sym so_far ∙ first_left ∙ ap (λ o. option_or o (among (drop (i + 1) all))) refused

  -- where it isn't, the first refusal stands behind it
  pub passes_so : among (drop i all) ≡ among all → own x ≡ None → among (drop (i + 1) all) ≡ among all
  passes_so so_far none = sym (ap (λ o. option_or o (among (drop (i + 1) all))) none) ∙ sym first_left ∙ so_far

-- ---- as `PartialEq` reads their attributes

abbrev pub marked_so : Case → MarkedCase
marked_so c = mark_case is_skipped c

abbrev own_refusal : Variant → Option Refusal
own_refusal v = first_refusal (places (case_of_variant (variant_view v)))

abbrev refusal_among : List Variant → Option Refusal
refusal_among vs = first_refusal (flat_map places (cases_from vs))

refusal-first : TellsFirst own_refusal refusal_among
refusal-first v vs = first-append (places (case_of_variant (variant_view v))) (flat_map places (cases_from vs))

module _ (all : List Variant) (i : ℕ) (x : Variant) (h : i < length all) (e : x ≡ get_or all i x) where
  pub variant_refused : (r : Error) → refusal_among (drop i all) ≡ refusal_among all →
      IsCaseWalked (case_of_variant (variant_view x)) (Err r) → AreCasesWalked (cases_from all) (Err r)
  variant_refused NoMemory so_far refused = tt
  variant_refused (Refused r) so_far refused = refused_so own_refusal refusal_among refusal-first all i x h e r so_far refused

  pub variant_passes : refusal_among (drop i all) ≡ refusal_among all → own_refusal x ≡ None → refusal_among (drop (i + 1) all) ≡ refusal_among all
  variant_passes so_far none = passes_so own_refusal refusal_among refusal-first all i x h e so_far none

pub ruleset place_steps = (common_steps, or_none)
