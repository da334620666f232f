-- The predicates behind `where`.
use Rattle.std.proofs.Common.{codes}
use Rattle.dm_ast.specs.Readers.{read_word}
use Rattle.dm_ast.specs.Declarations.{listed, predicate_view}
use Rattle.dm_read_decl.specs.Rules.{read_predicates}
use Rattle.dm_input.proofs.Sequels.{next_reads}
use Rattle.dm_read_decl.proofs.generics.some_where.Goals as goal

pub returns : goal.returns
returns c =
    next_reads (listed predicate_view) (read_word (codes "where")) read_predicates c.args.input.now c.word.new.self c.predicates.new.input
    c.in_ok-word.field-0 c.in_ok-word.ensures.reads c.predicates.result c.predicates.ensures
