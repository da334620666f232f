-- The lifetimes, and what follows them.
use Rattle.dm_ast.specs.PlainReaders.{read_for}
use Rattle.dm_ast.specs.Tree.{Lifetimes}
use Rattle.dm_read_types.specs.FunctionViews.{unsafe_view}
use Rattle.dm_read_paths.specs.TypeReaders.{read_type, read_behind_for}
use Rattle.dm_input.proofs.Sequels.{both_reads}
use Rattle.dm_read_types.proofs.rules.Types.function_parts.Goals as goal

pub returns : goal.returns
returns g c =
    both_reads (λ (l : Lifetimes). l) unsafe_view read_for (read_behind_for (read_type c.args.self.now.grammar.depth)) c.args.input.now c.for_lifetimes.new.self
    c.behind_for.new.input c.in_ok-lifetimes.lifetimes c.in_ok-lifetimes.ensures c.behind_for.result c.behind_for.ensures c.joined.result c.joined.ensures
