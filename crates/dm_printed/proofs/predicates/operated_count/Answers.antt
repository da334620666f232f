-- The predicates by an operator's plan.
use Rattle.dm_ast.specs.Declarations.{declaration_view}
use Rattle.dm_operators.specs.Table.{operator_view}
use Rattle.dm_printed.proofs.Counting.{count-operated}
use Rattle.dm_printed.proofs.predicates.operated_count.Goals as goal

pub returns : goal.returns
returns c = (
  c.in_ok-plan.ensures.0,
  count-operated (operator_view c.args.operator.now) (declaration_view c.args.input.now) c.in_ok-plan.plan c.all_predicates.result c.in_ok-number.field-0
      c.in_ok-plan.ensures.1 (rw c.as_slice-cases.ensures.value at c.all_predicates.ensures) c.in_ok-number.ensures,
)
