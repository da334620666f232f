-- What stands behind the `where` clause.
use Rattle.dm_ast.specs.Declarations.{fields_view}
use Rattle.dm_read.specs.DeclarationReaders.{read_where, read_named_or_unit}
use Rattle.dm_read_paths.specs.WholeReaders.{parts}
use Rattle.dm_read_decl.specs.ShapeViews.{clause_view}
use Rattle.dm_input.proofs.Sequels.{both_reads}
use Rattle.dm_read_decl.proofs.item.other_body.Goals as goal

pub returns : goal.returns
returns c =
    both_reads clause_view fields_view (read_where parts) (read_named_or_unit parts) c.args.input.now c.where_clause.new.input c.named_or_unit.new.input
    c.in_ok-clause.clause c.in_ok-clause.ensures c.named_or_unit.result c.named_or_unit.ensures c.joined.result c.joined.ensures
