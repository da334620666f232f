-- What follows the name.
use Rattle.dm_read.specs.DeclarationReaders.{read_name}
use Rattle.dm_read_decl.specs.Rules.{behind_name}
use Rattle.dm_read_decl.specs.ShapeViews.{both_views, angled_view}
use Rattle.dm_input.proofs.Sequels.{both_reads}
use Rattle.dm_read_decl.proofs.item.behind_word.Goals as goal

pub returns : goal.returns
returns g c =
    both_reads (λ i. i) (both_views angled_view g.R.Rule.view) read_name (behind_name (g.R.Rule.reader c.args.rule.now)) c.args.input.now c.name.new.self c.behind_name.new.input
    c.in_ok-name.name c.in_ok-name.ensures c.behind_name.result c.behind_name.ensures c.joined.result c.joined.ensures
