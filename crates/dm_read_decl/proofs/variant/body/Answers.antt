-- The fields and the discriminant.
use Rattle.dm_ast.specs.Declarations.{fields_view}
use Rattle.dm_read.specs.DeclarationReaders.{read_variant_fields, read_discriminant}
use Rattle.dm_read_paths.specs.WholeReaders.{parts}
use Rattle.dm_input.proofs.Sequels.{both_reads}
use Rattle.dm_read_decl.proofs.variant.body.Goals as goal

pub returns : goal.returns
returns c =
    both_reads fields_view (λ o. o) (read_variant_fields parts) (read_discriminant parts) c.args.input.now c.variant_fields.new.input c.discriminant.new.input
    c.in_ok-fields.fields c.in_ok-fields.ensures c.discriminant.result c.discriminant.ensures c.joined.result c.joined.ensures
