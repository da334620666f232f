use Rattle.std.proofs.Common.{◌≡◌, map, drop}
use Rattle.dm_print_types.specs.Laying.{lay}
use Rattle.dm_output.specs.Output.{stmts_of}
use Rattle.dm_output.specs.Tokens.{stmts_trees}
use Rattle.dm_operands.specs.CaseViews.{field_ref_view}
use Rattle.dm_operators.specs.Bodies as spec
use Rattle.dm_operators.specs.Table.{form_view, operator_view}
use Rattle.dm_operator_prints.proofs.arms.calls.Given as goal

abbrev pub invariant-loop-n : goal.invariant-loop-n
invariant-loop-n l =
    lay l.out (stmts_trees (stmts_of (spec.assigning_calls (form_view l.implemented.form) (operator_view l.implemented.operator) l.n (map field_ref_view (drop l.n l.fields))))) ≡
    lay l.initial.out (stmts_trees (stmts_of (spec.assigning_calls (form_view l.implemented.form) (operator_view l.implemented.operator) 0 (map field_ref_view l.fields))))
