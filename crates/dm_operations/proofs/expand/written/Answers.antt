use Rattle.std.proofs.Common.{map, refl}
use Rattle.dm_ast.specs.Declarations.{declaration_view}
use Rattle.dm_operands.specs.CaseViews.{case_view}
use Rattle.dm_operators.specs.Table.{form_view, operator_view}
use Rattle.dm_operations.specs.Items.{item_for}
use Rattle.dm_operations.proofs.Answering.{few, where-ok, prints}
use Rattle.dm_operations.proofs.expand.written.Goals as goal

pub returns-clause-text : goal.returns-clause-text
returns-clause-text c =
    let o = operator_view c.args.operator.now in
    let d = declaration_view c.args.input.now in
    let p = c.args.plan.now in
    prints o d p (item_for (form_view p.form) o d (map case_view p.cases.items)) c.printed_item.result
    c.requires.is_operator c.requires.readable c.requires.unrefused c.requires.planned refl (rw c.as_slice.ensures.value at c.printed_item.ensures)

pub returns-clause-few : goal.returns-clause-few
returns-clause-few c =
    where-ok c.printed_item.result (few (operator_view c.args.operator.now) (declaration_view c.args.input.now) c.args.plan.now.cases.items
    c.requires.unrefused c.requires.planned.cases)
