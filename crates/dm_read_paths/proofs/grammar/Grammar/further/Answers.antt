-- Segments behind `::`.
use Rattle.std.proofs.Common.{map}
use Rattle.dm_ast.specs.Readers.{read_colons}
use Rattle.dm_ast.specs.Tree.{segment_view}
use Rattle.dm_read_paths.specs.TypeReaders.{read_type, read_segments}
use Rattle.dm_input.proofs.Sequels.{next_reads}
use Rattle.dm_read_paths.proofs.grammar.Grammar.further.Goals as goal

pub returns : goal.returns
returns g c =
    next_reads (map segment_view) read_colons (read_segments (read_type c.args.self.now.depth)) c.args.input.now c.colons.new.self c.segments.new.input
    c.in_ok-colons.field-0 c.in_ok-colons.ensures.reads c.segments.result c.segments.ensures
