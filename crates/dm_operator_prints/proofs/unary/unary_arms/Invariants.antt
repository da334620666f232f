use Rattle.std.proofs.Common.{◌≡◌, map, drop}
use Rattle.dm_ast.specs.Declarations.{declaration_view}
use Rattle.dm_print_types.specs.Laying.{lay}
use Rattle.dm_output.specs.Output.{arms_of}
use Rattle.dm_output.specs.Tokens.{arms_trees}
use Rattle.dm_operands.specs.CaseViews.{case_view}
use Rattle.dm_operators.specs.Bodies as spec
use Rattle.dm_operators.specs.Table.{operator_view}
use Rattle.dm_operator_prints.proofs.unary.unary_arms.Given as goal

abbrev pub invariant-loop-case : goal.invariant-loop-case
invariant-loop-case l =
    lay l.out (arms_trees (arms_of (map (spec.unary_arm (operator_view l.operator) (declaration_view l.input) l.fails) (map case_view (drop l.case-index l.cases))))) ≡
    lay l.initial.out (arms_trees (arms_of (map (spec.unary_arm (operator_view l.operator) (declaration_view l.input) l.fails) (map case_view l.cases))))
