use Rattle.std.proofs.Common.{◌≡◌, map, drop}
use Rattle.dm_print_types.specs.Laying.{lay}
use Rattle.dm_output.specs.Output.{named_exprs_of}
use Rattle.dm_output.specs.Tokens.{ended, each_named_expr}
use Rattle.dm_operands.specs.CaseViews.{field_ref_view}
use Rattle.dm_operators.specs.Bodies as spec
use Rattle.dm_operators.specs.Table.{operator_view}
use Rattle.dm_operator_prints.specs.Parts.{part_by}
use Rattle.dm_operator_prints.proofs.constructor.named_parts.Given as goal

abbrev pub invariant-loop-n : goal.invariant-loop-n
invariant-loop-n l =
    lay l.out (ended (each_named_expr (named_exprs_of (spec.named_parts (part_by l.part (operator_view l.operator)) l.n (map field_ref_view (drop l.n l.fields)))))) ≡
    lay l.initial.out (ended (each_named_expr (named_exprs_of (spec.named_parts (part_by l.part (operator_view l.operator)) 0 (map field_ref_view l.fields)))))
