-- What follows the generics.
use Rattle.dm_read.specs.DeclarationReaders.{read_generics}
use Rattle.dm_read_paths.specs.WholeReaders.{parts}
use Rattle.dm_read_decl.specs.ShapeViews.{angled_view}
use Rattle.dm_input.proofs.Sequels.{both_reads}
use Rattle.dm_read_decl.proofs.item.behind_name.Goals as goal

pub returns : goal.returns
returns g c =
    both_reads angled_view g.R.Rule.view (read_generics parts) (g.R.Rule.reader c.args.rule.now) c.args.input.now c.generics.new.input c.read.new.input
    c.in_ok-found.found c.in_ok-found.ensures c.read.result c.read.ensures c.joined.result c.joined.ensures
