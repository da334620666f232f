-- What an operator prints is read back.
use Rattle.dm_ast.specs.Declarations.{declaration_view}
use Rattle.dm_operators.specs.Table.{operator_view}
use Rattle.dm_cmp_ops.proofs.Answering.{operated_read}
use Rattle.dm_cmp_ops.proofs.expand.derived.Goals as goal

pub returns : goal.returns
returns c =
    operated_read (operator_view c.args.operator.now) (declaration_view c.args.input.now) c.in_ok-text.text c.requires.of_text c.requires.is_operator
    c.in_ok-text.ensures.few c.in_ok-text.ensures.printed c.with_items.result c.with_items.ensures
