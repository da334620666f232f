-- A lifetime and its bounds.
use Rattle.dm_ast.specs.Readers.{read_lifetime}
use Rattle.dm_read_decl.specs.Rules.{read_outlived}
use Rattle.dm_input.proofs.Sequels.{both_reads}
use Rattle.dm_read_decl.proofs.param.lifetime_parts.Goals as goal

pub returns : goal.returns
returns c =
    both_reads (λ l. l) (λ v. v) read_lifetime read_outlived c.args.input.now c.lifetime.new.self c.outlived.new.input
    c.in_ok-lifetime.lifetime c.in_ok-lifetime.ensures c.outlived.result c.outlived.ensures c.joined.result c.joined.ensures
