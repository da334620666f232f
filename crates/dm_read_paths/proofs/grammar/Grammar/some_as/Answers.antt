-- A path behind `as`.
use Rattle.std.specs.Prelude.{codes}
use Rattle.dm_ast.specs.Readers.{read_word}
use Rattle.dm_read_paths.specs.TypeReaders.{read_type, read_as_path}
use Rattle.dm_input.proofs.Sequels.{next_reads}
use Rattle.dm_read_paths.proofs.QualifiedParts.{leading_view}
use Rattle.dm_read_paths.proofs.grammar.Grammar.some_as.Goals as goal

pub returns : goal.returns
returns g c =
    next_reads leading_view (read_word (codes "as")) (read_as_path (read_type c.args.self.now.depth)) c.args.input.now c.word.new.self c.as_path.new.input
    c.in_ok-word.field-0 c.in_ok-word.ensures.reads c.as_path.result c.as_path.ensures
