use Rattle.std.proofs.Common.{◌≡◌, ◌++◌, map, drop}
use Rattle.dm_ast.specs.Declarations.{variant_view}
use Rattle.dm_output.specs.Values.{case_of_variant}
use Rattle.dm_operands.specs.CaseViews.{case_view}
use Rattle.dm_operators.specs.Attributes.{keeps_all}
use Rattle.dm_operators.specs.Plans.{opened}
use Rattle.dm_operators.proofs.places.whole_variants.Given as goal

abbrev pub invariant-loop-variant : goal.invariant-loop-variant
invariant-loop-variant l =
    let mark = opened keeps_all in
    map case_view l.out.items ++ map mark (map case_of_variant (map variant_view (drop l.variant-index l.variants))) ≡
    map mark (map case_of_variant (map variant_view l.variants))
