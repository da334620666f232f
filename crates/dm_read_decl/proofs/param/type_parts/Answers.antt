-- What follows the name of a type parameter.
use Rattle.dm_read.specs.DeclarationReaders.{read_name}
use Rattle.dm_read_decl.specs.Rules.{read_bounds_default}
use Rattle.dm_read_decl.specs.ShapeViews.{bounds_default_view}
use Rattle.dm_input.proofs.Sequels.{both_reads}
use Rattle.dm_read_decl.proofs.param.type_parts.Goals as goal

pub returns : goal.returns
returns c =
    both_reads (λ i. i) bounds_default_view read_name read_bounds_default c.args.input.now c.name.new.self c.bounds_default.new.input
    c.in_ok-name.name c.in_ok-name.ensures c.bounds_default.result c.bounds_default.ensures c.joined.result c.joined.ensures
