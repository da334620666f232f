-- A refusal of the type.
use Rattle.dm_ast.specs.Tree.{ty_view}
use Rattle.dm_read_paths.specs.WholeReaders.{whole_type}
use Rattle.dm_input.proofs.Sequels.{passed_on}
use Rattle.dm_meta.proofs.parse_parts.one_type.Goals as goal

pub returns-in_err-found-clause-reads : goal.returns-in_err-found-clause-reads
returns-in_err-found-clause-reads c =
    passed_on ty_view whole_type 0 c.args.c c.new-input.result c.ty.new.input c.new-input.ensures c.in_err-found.field-0.0 c.in_err-found.ensures
    c.from_residual.result c.from_residual.ensures.1
