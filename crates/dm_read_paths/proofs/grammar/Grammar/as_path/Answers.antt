-- `::` where it comes, and segments.
use Rattle.std.proofs.Common.{Bool, map}
use Rattle.dm_ast.specs.PlainReaders.{read_leading}
use Rattle.dm_ast.specs.Tree.{segment_view}
use Rattle.dm_read_paths.specs.TypeReaders.{read_type, read_segments}
use Rattle.dm_input.proofs.Sequels.{both_reads}
use Rattle.dm_read_paths.proofs.grammar.Grammar.as_path.Goals as goal

pub returns : goal.returns
returns g c =
    both_reads (λ (b : Bool). b) (map segment_view) read_leading (read_segments (read_type c.args.self.now.depth)) c.args.input.now c.leading.new.self
    c.segments.new.input c.in_ok-leading_colon.leading_colon c.in_ok-leading_colon.ensures c.segments.result c.segments.ensures
    c.joined.result c.joined.ensures
