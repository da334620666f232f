use Rattle.std.proofs.Common.{◌≡◌, ◌++◌, map, drop}
use Rattle.dm_ast.specs.Declarations.{variant_view}
use Rattle.dm_output.specs.Values.{case_of_variant}
use Rattle.dm_operands.specs.CaseViews.{case_view}
use Rattle.dm_operators.specs.Attributes.{skipped_under}
use Rattle.dm_operators.specs.Table.{operator_view}
use Rattle.dm_operators.specs.Plans.{first_variant, opened}
use Rattle.dm_operators.proofs.places.variant_cases.Given as goal

abbrev pub invariant-loop-variant : goal.invariant-loop-variant
invariant-loop-variant l =
    let o = operator_view l.operator in
    let mark = opened (skipped_under o.method) in
    (first_variant o (map variant_view (drop l.variant-index l.variants)) ≡ first_variant o (map variant_view l.variants)) ×
    (map case_view l.out.items ++ map mark (map case_of_variant (map variant_view (drop l.variant-index l.variants))) ≡
    map mark (map case_of_variant (map variant_view l.variants)))
