-- What follows `>`.
use Rattle.std.proofs.Common.{map}
use Rattle.dm_ast.specs.Readers.{read_punct}
use Rattle.dm_ast.specs.Tree.{segment_view}
use Rattle.dm_read_paths.specs.TypeReaders.{read_type, read_further}
use Rattle.dm_input.proofs.Sequels.{next_reads}
use Rattle.dm_read_paths.proofs.grammar.Grammar.behind_angle.Goals as goal

pub returns : goal.returns
returns g c =
    next_reads (map segment_view) (read_punct 62) (read_further (read_type c.args.self.now.depth)) c.args.input.now c.punct.new.self c.further.new.input
    c.in_ok-punct.field-0 c.in_ok-punct.ensures.reads c.further.result c.further.ensures
