-- What stands behind the parentheses.
use Rattle.dm_ast.specs.Declarations.{listed, field_view}
use Rattle.dm_read.specs.DeclarationReaders.{read_slots}
use Rattle.dm_read_paths.specs.WholeReaders.{parts}
use Rattle.dm_read_decl.specs.Rules.{read_ended_where}
use Rattle.dm_read_decl.specs.ShapeViews.{clause_view}
use Rattle.dm_input.proofs.Sequels.{both_reads}
use Rattle.dm_read_decl.proofs.item.slots_body.Goals as goal

pub returns : goal.returns
returns c =
    both_reads (listed field_view) clause_view (read_slots parts) read_ended_where c.args.input.now c.slots.new.input c.ended_where.new.input
    c.in_ok-found.found c.in_ok-found.ensures c.ended_where.result c.ended_where.ensures c.joined.result c.joined.ensures
