-- What the new input reads.
use Rattle.dm_ast.specs.Tree.{path_view}
use Rattle.dm_read_paths.specs.TypeReaders.{read_type}
use Rattle.dm_read_paths.specs.BarePaths.{read_bare_path}
use Rattle.dm_input.proofs.Sequels.{read_from, passed_on}
use Rattle.dm_read_types.proofs.bare.nested_path.Goals as goal

pub returns-in_err-found-clause-reads : goal.returns-in_err-found-clause-reads
returns-in_err-found-clause-reads c =
    passed_on path_view (read_bare_path (read_type c.args.depth)) c.args.level c.args.c c.new-input.result c.path.new.input c.new-input.ensures
    c.in_err-found.field-0.0 c.in_err-found.ensures c.from_residual.result c.from_residual.ensures.1

pub returns-clause-reads : goal.returns-clause-reads
returns-clause-reads c =
    read_from path_view (read_bare_path (read_type c.args.depth)) c.args.level c.args.c c.new-input.result c.path.new.input c.new-input.ensures
    c.in_ok-found.found c.cursor.result c.in_ok-found.ensures.0 c.cursor.ensures.trees
