-- A `where` clause and what is in braces.
use Rattle.dm_stream.specs.declared.tokens.Delim.TheVariants.{Brace}
use Rattle.dm_ast.specs.Declarations.{listed}
use Rattle.dm_read.specs.DeclarationReaders.{read_where}
use Rattle.dm_read_paths.specs.WholeReaders.{parts}
use Rattle.dm_read_decl.specs.Rules.{enclosed}
use Rattle.dm_read_decl.specs.ShapeViews.{clause_view}
use Rattle.dm_input.proofs.Sequels.{both_reads}
use Rattle.dm_read_decl.proofs.item.braces.Goals as goal

pub returns : goal.returns
returns g c =
    both_reads clause_view (listed g.R.Rule.view) (read_where parts) (enclosed Brace (g.R.Rule.reader c.args.item.now)) c.args.input.now c.where_clause.new.input c.enclosed.new.input
    c.in_ok-clause.clause c.in_ok-clause.ensures c.enclosed.result c.enclosed.ensures c.joined.result c.joined.ensures
