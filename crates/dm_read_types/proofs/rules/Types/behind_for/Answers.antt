-- Whether it is unsafe, and what follows.
use Rattle.std.proofs.Common.{Bool, codes}
use Rattle.dm_read_types.specs.FunctionViews.{abi_view}
use Rattle.dm_read_paths.specs.TypeReaders.{read_type, read_keyword, read_behind_unsafe}
use Rattle.dm_input.proofs.Sequels.{both_reads}
use Rattle.dm_read_types.proofs.rules.Types.behind_for.Goals as goal

pub returns : goal.returns
returns g c =
    both_reads (λ (b : Bool). b) abi_view (read_keyword (codes "unsafe")) (read_behind_unsafe (read_type c.args.self.now.grammar.depth)) c.args.input.now c.keyword.new.input
    c.behind_unsafe.new.input c.in_ok-is_unsafe.is_unsafe c.in_ok-is_unsafe.ensures c.behind_unsafe.result c.behind_unsafe.ensures c.joined.result c.joined.ensures
