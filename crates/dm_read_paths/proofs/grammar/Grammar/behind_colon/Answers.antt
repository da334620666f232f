-- Bounds behind a colon.
use Rattle.dm_ast.specs.Readers.{read_colon}
use Rattle.dm_ast.specs.Tree.{bound_view}
use Rattle.dm_read.specs.Stops.{list_view}
use Rattle.dm_read_paths.specs.TypeReaders.{read_type, read_bounds, inner_path, bounds_pair}
use Rattle.dm_input.proofs.Sequels.{next_reads}
use Rattle.dm_read_paths.proofs.grammar.Grammar.behind_colon.Goals as goal

pub returns : goal.returns
returns g c =
    let inner = read_type c.args.self.now.depth in
    next_reads (λ v. bounds_pair (list_view bound_view v)) read_colon (read_bounds inner (inner_path inner)) c.args.input.now c.colon.new.self c.bounds.new.input
    c.in_ok-colon.field-0 c.in_ok-colon.ensures c.bounds.result c.bounds.ensures
