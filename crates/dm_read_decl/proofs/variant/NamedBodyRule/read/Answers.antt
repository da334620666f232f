-- What follows the name of a variant.
use Rattle.dm_read.specs.DeclarationReaders.{read_name}
use Rattle.dm_read_decl.specs.Rules.{read_body}
use Rattle.dm_read_decl.specs.ShapeViews.{body_view}
use Rattle.dm_input.proofs.Sequels.{both_reads}
use Rattle.dm_read_decl.proofs.variant.NamedBodyRule.read.Goals as goal

pub returns : goal.returns
returns c =
    both_reads (λ i. i) body_view read_name read_body c.args.input.now c.name.new.self c.body.new.input
    c.in_ok-name.name c.in_ok-name.ensures c.body.result c.body.ensures c.joined.result c.joined.ensures
