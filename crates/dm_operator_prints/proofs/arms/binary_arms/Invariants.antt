use Rattle.std.proofs.Common.{◌≡◌, ◌++◌, map, drop}
use Rattle.dm_ast.specs.Declarations.{declaration_view}
use Rattle.dm_print_types.specs.Laying.{lay}
use Rattle.dm_output.specs.Output.{arms_of}
use Rattle.dm_output.specs.Tokens.{arms_trees}
use Rattle.dm_operands.specs.CaseViews.{case_view}
use Rattle.dm_operators.specs.Bodies as spec
use Rattle.dm_operators.specs.Table.{form_view, operator_view}
use Rattle.dm_operator_prints.proofs.arms.binary_arms.Given as goal

abbrev pub invariant-loop-case : goal.invariant-loop-case
invariant-loop-case l =
    lay l.out (arms_trees (arms_of (map (spec.binary_arm (form_view l.implemented.form) (operator_view l.implemented.operator) (declaration_view l.input)) (map case_view (drop l.case-index l.cases)) ++
    spec.rest (form_view l.implemented.form) (operator_view l.implemented.operator) (map case_view l.cases)))) ≡
    lay l.initial.out (arms_trees (arms_of (map (spec.binary_arm (form_view l.implemented.form) (operator_view l.implemented.operator) (declaration_view l.input)) (map case_view l.cases) ++
    spec.rest (form_view l.implemented.form) (operator_view l.implemented.operator) (map case_view l.cases))))
