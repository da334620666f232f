-- What follows `const`.
use Rattle.std.proofs.Common.{codes}
use Rattle.dm_ast.specs.Readers.{read_word}
use Rattle.dm_read_decl.specs.Rules.{read_named_value}
use Rattle.dm_read_decl.specs.ShapeViews.{second_view, value_view}
use Rattle.dm_stream.specs.declared.tokens.Ident.{Ident}
use Rattle.dm_input.proofs.Sequels.{next_reads}
use Rattle.dm_read_decl.proofs.param.const_parts.Goals as goal

pub returns : goal.returns
returns c =
    next_reads (second_view {X = Ident} value_view) (read_word (codes "const")) read_named_value c.args.input.now c.word.new.self c.named_value.new.input
    c.in_ok-word.field-0 c.in_ok-word.ensures.reads c.named_value.result c.named_value.ensures
