use Rattle.std.proofs.Common.{◌≡◌, map, drop}
use Rattle.dm_ast.specs.Declarations.{variant_view}
use Rattle.dm_output.specs.Values.{case_of_variant}
use Rattle.dm_operators.specs.Meaning as meaning
use Rattle.dm_operator_heads.proofs.outputs.some_unit.Given as goal

abbrev pub invariant-loop-variant : goal.invariant-loop-variant
invariant-loop-variant l =
    meaning.some_unit (map case_of_variant (map variant_view (drop l.variant-index l.variants))) ≡
    meaning.some_unit (map case_of_variant (map variant_view l.variants))
