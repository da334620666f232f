-- A type and a value.
use Rattle.dm_ast.specs.Tree.{ty_view}
use Rattle.dm_read_paths.specs.WholeReaders.{whole_type}
use Rattle.dm_read_decl.specs.Rules.{read_value}
use Rattle.dm_input.proofs.Sequels.{both_reads}
use Rattle.dm_read_decl.proofs.param.type_value.Goals as goal

pub returns : goal.returns
returns c =
    both_reads ty_view (λ v. v) whole_type read_value c.args.input.now c.ty.new.input c.default_value.new.input
    c.in_ok-found.found c.in_ok-found.ensures c.default_value.result c.default_value.ensures c.joined.result c.joined.ensures
