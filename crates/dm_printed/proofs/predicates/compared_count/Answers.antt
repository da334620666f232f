-- The predicates of the cases that are compared.
use Rattle.dm_ast.specs.Declarations.{declaration_view}
use Rattle.dm_printed.proofs.Counting.{count-compared}
use Rattle.dm_printed.proofs.predicates.compared_count.Goals as goal

pub returns : goal.returns
returns c = (
  c.in_ok-cases.ensures.0,
  count-compared (declaration_view c.args.input.now) c.in_ok-cases.cases.items c.with_needed.result c.in_ok-number.field-0 c.in_ok-cases.ensures.1
      (rw c.as_slice.ensures.value at c.with_needed.ensures) c.in_ok-number.ensures,
)
