-- A type and its bounds.
use Rattle.dm_ast.specs.Tree.{ty_view, bound_view}
use Rattle.dm_ast.specs.Declarations.{listed}
use Rattle.dm_read_paths.specs.WholeReaders.{whole_type}
use Rattle.dm_read_decl.specs.Rules.{read_some_bounds}
use Rattle.dm_input.proofs.Sequels.{both_reads}
use Rattle.dm_read_decl.proofs.generics.bounded.Goals as goal

pub returns : goal.returns
returns c =
    both_reads ty_view (listed bound_view) whole_type read_some_bounds c.args.input.now c.ty.new.input c.some_bounds.new.input
    c.in_ok-found.found c.in_ok-found.ensures c.some_bounds.result c.some_bounds.ensures c.joined.result c.joined.ensures
