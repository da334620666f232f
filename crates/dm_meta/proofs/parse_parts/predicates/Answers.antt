-- A refusal of the predicates.
use Rattle.dm_ast.specs.Declarations.{listed, predicate_view}
use Rattle.dm_ast.specs.Spelling.{at_end}
use Rattle.dm_read.specs.DeclarationReaders.{read_listed, read_predicate}
use Rattle.dm_read_paths.specs.WholeReaders.{parts}
use Rattle.dm_input.proofs.Sequels.{passed_on}
use Rattle.dm_meta.proofs.parse_parts.predicates.Goals as goal

pub returns-in_err-found-clause-reads : goal.returns-in_err-found-clause-reads
returns-in_err-found-clause-reads c =
    passed_on (listed predicate_view) (read_listed at_end (read_predicate parts)) 0 c.args.c c.new-input.result c.commas.new.input c.new-input.ensures
    c.in_err-found.field-0.0 c.in_err-found.ensures c.from_residual.result c.from_residual.ensures.1
