use Rattle.std.proofs.Common.{◌≡◌, ◌++◌, map, drop}
use Rattle.std.specs.Prelude.{flat_map}
use Rattle.dm_ast.specs.Declarations.{variant_view}
use Rattle.dm_output.specs.Values.{case_of_variant}
use Rattle.dm_attr.specs.Skips.{is_skipped}
use Rattle.dm_operands.specs.CaseViews.{case_view}
use Rattle.dm_operands.specs.Marked.{mark_case}
use Rattle.dm_operands.specs.Places.{places, first_refusal}
use Rattle.dm_operands.proofs.places.cases_of_variants.Given as goal

abbrev pub invariant-loop-variant : goal.invariant-loop-variant
invariant-loop-variant l =
    (first_refusal (flat_map places (map case_of_variant (map variant_view (drop l.variant-index l.variants)))) ≡
    first_refusal (flat_map places (map case_of_variant (map variant_view l.variants)))) ×
    (map case_view l.out.items ++ map (mark_case is_skipped) (map case_of_variant (map variant_view (drop l.variant-index l.variants))) ≡
    map (mark_case is_skipped) (map case_of_variant (map variant_view l.variants)))
