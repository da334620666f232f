-- The bounds behind `:`.
use Rattle.dm_ast.specs.Readers.{read_colon}
use Rattle.dm_read.specs.DeclarationReaders.{read_lifetime_bounds}
use Rattle.dm_input.proofs.Sequels.{next_reads}
use Rattle.dm_read_decl.proofs.param.some_outlived.Goals as goal

pub returns : goal.returns
returns c =
    next_reads (λ v. v) read_colon read_lifetime_bounds c.args.input.now c.colon.new.self c.lifetime_bounds.new.self
    c.in_ok-colon.field-0 c.in_ok-colon.ensures c.lifetime_bounds.result c.lifetime_bounds.ensures
