-- The list, with nothing behind it, or refused.
use Rattle.std.proofs.Common.{ap, ◌∙◌, refl}
use Rattle.dm_stream.specs.declared.error.Error.TheVariants as error
use Rattle.dm_stream.specs.Cursors.{left, front_span}
use Rattle.dm_grammar_laws.proofs.Licensing.{syntax_by}
use Rattle.dm_ast.specs.Declarations as tree
use Rattle.dm_ast.specs.Spelling.{at_end}
use Rattle.dm_ast.specs.DeclarationGrammar.{listed, predicate}
use Rattle.dm_read.specs.DeclarationReaders.{read_listed, read_predicate}
use Rattle.dm_read_paths.specs.WholeReaders.{parts}
use Rattle.dm_ast.specs.Readers.{place}
use Rattle.dm_meta.proofs.FrontParts.{end_found, end_refused, end_missed, predicates_decided}
use Rattle.dm_grammar_laws.proofs.LicensedDeclarations.{licensed_predicates}
use Rattle.dm_meta.proofs.parse_parts.parse_predicates.Goals as goal

pub returns-in_err-found-clause-refused : goal.returns-in_err-found-clause-refused
returns-in_err-found-clause-refused c =
    let w = place 0 c.args.c in
    let ts = left c.args.c in
    end_refused (tree.listed tree.predicate_view) (λ ps. listed at_end predicate ps w) c.args.c w (read_listed at_end (read_predicate parts) w ts) (predicates_decided w ts)
    ((licensed_predicates w).at ts) refl c.in_err-found.field-0.0 c.in_err-found.ensures.reads c.from_residual.result c.from_residual.ensures.1

pub returns-in_err-close-clause-refused : goal.returns-in_err-close-clause-refused
returns-in_err-close-clause-refused c =
    let w = place 0 c.args.c in
    let ts = left c.args.c in
    end_missed (tree.listed tree.predicate_view) (λ ps. listed at_end predicate ps w) c.args.c w (read_listed at_end (read_predicate parts) w ts) (predicates_decided w ts)
    ((licensed_predicates w).at ts) refl c.in_ok-found.found c.in_ok-found.rest c.in_err-close.field-0.0 c.in_ok-found.ensures.reads
    c.in_err-close.ensures.0
    (c.in_err-close.ensures.1 ∙ ap (λ l. error.Refused (syntax_by (front_span (left c.in_ok-found.rest) l))) c.in_ok-found.ensures.place.same_limit)
    c.from_residual-in_err-close.result c.from_residual-in_err-close.ensures.1

pub returns-clause-found : goal.returns-clause-found
returns-clause-found c =
    let w = place 0 c.args.c in
    let ts = left c.args.c in
    end_found (tree.listed tree.predicate_view) (λ ps. listed at_end predicate ps w) c.args.c w (read_listed at_end (read_predicate parts) w ts) (predicates_decided w ts)
    ((licensed_predicates w).at ts) refl c.in_ok-found.found c.in_ok-found.rest c.in_ok-found.ensures.reads c.in_ok-close.ensures
