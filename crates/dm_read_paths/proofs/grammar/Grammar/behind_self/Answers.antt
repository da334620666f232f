-- What stands before `>` and behind it.
use Rattle.std.proofs.Common.{map}
use Rattle.dm_ast.specs.Tree.{segment_view}
use Rattle.dm_read_paths.specs.Bindings.{as_view}
use Rattle.dm_read_paths.specs.TypeReaders.{read_type, read_as, read_behind_angle}
use Rattle.dm_input.proofs.Sequels.{both_reads}
use Rattle.dm_read_paths.proofs.grammar.Grammar.behind_self.Goals as goal

pub returns : goal.returns
returns g c =
    let inner = read_type c.args.self.now.depth in
    both_reads as_view (map segment_view) (read_as inner) (read_behind_angle inner) c.args.input.now c.maybe_as.new.input c.behind_angle.new.input
    c.in_ok-behind_as.behind_as c.in_ok-behind_as.ensures c.behind_angle.result c.behind_angle.ensures c.joined.result c.joined.ensures
