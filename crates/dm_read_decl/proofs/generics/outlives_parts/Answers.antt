-- A lifetime and those that it outlives.
use Rattle.dm_ast.specs.Readers.{read_lifetime}
use Rattle.dm_read_decl.specs.Rules.{read_some_outlived}
use Rattle.dm_input.proofs.Sequels.{both_reads}
use Rattle.dm_read_decl.proofs.generics.outlives_parts.Goals as goal

pub returns : goal.returns
returns c =
    both_reads (λ l. l) (λ v. v) read_lifetime read_some_outlived c.args.input.now c.lifetime.new.self c.some_outlived.new.input
    c.in_ok-lifetime.lifetime c.in_ok-lifetime.ensures c.some_outlived.result c.some_outlived.ensures c.joined.result c.joined.ensures
