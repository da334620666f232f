-- Arguments one level deeper.
use Rattle.dm_ast.specs.Tree.{argument_view}
use Rattle.dm_read.specs.Stops.{list_view}
use Rattle.dm_read_paths.specs.TypeReaders.{read_type, read_arguments, arguments_pair}
use Rattle.dm_input.proofs.Sequels.{deep_here}
use Rattle.dm_read_paths.proofs.grammar.Grammar.deep_arguments.Goals as goal

pub returns : goal.returns
returns g c =
    deep_here (λ v. arguments_pair (list_view argument_view v)) (read_arguments (read_type c.args.self.now.depth)) c.args.input.now c.down.new.self c.down.ensures
    c.arguments.new.input c.up.new.self c.in_ok-found.found c.in_ok-found.ensures.0 c.in_ok-found.ensures.1 c.up.ensures
