-- What follows the name of a constant parameter.
use Rattle.dm_read.specs.DeclarationReaders.{read_name}
use Rattle.dm_read_decl.specs.Rules.{read_typed_value}
use Rattle.dm_read_decl.specs.ShapeViews.{value_view}
use Rattle.dm_input.proofs.Sequels.{both_reads}
use Rattle.dm_read_decl.proofs.param.named_value.Goals as goal

pub returns : goal.returns
returns c =
    both_reads (λ i. i) value_view read_name read_typed_value c.args.input.now c.name.new.self c.typed_value.new.input
    c.in_ok-name.name c.in_ok-name.ensures c.typed_value.result c.typed_value.ensures c.joined.result c.joined.ensures
