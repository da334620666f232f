-- What `PartialEq` prints is read back.
use Rattle.dm_ast.specs.Declarations.{declaration_view}
use Rattle.dm_cmp_ops.proofs.Answering.{compared_read}
use Rattle.dm_cmp_ops.proofs.partial_eq.expand.Goals as goal

pub returns : goal.returns
returns c =
    compared_read (declaration_view c.args.input.now) c.in_ok-text.text c.requires c.in_ok-text.ensures c.with_items.result c.with_items.ensures
