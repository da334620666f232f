-- What follows `fn`.
use Rattle.std.specs.Prelude.{codes}
use Rattle.dm_ast.specs.Readers.{read_word}
use Rattle.dm_read_types.specs.FunctionViews.{signature_view}
use Rattle.dm_read_paths.specs.TypeReaders.{read_type, read_deep_behind_fn}
use Rattle.dm_input.proofs.Sequels.{next_reads}
use Rattle.dm_read_types.proofs.rules.Types.signature.Goals as goal

pub returns : goal.returns
returns g c =
    next_reads signature_view (read_word (codes "fn")) (read_deep_behind_fn (read_type c.args.self.now.grammar.depth)) c.args.input.now c.word.new.self c.deep_behind_fn.new.input
    c.in_ok-word.field-0 c.in_ok-word.ensures.reads c.deep_behind_fn.result c.deep_behind_fn.ensures
