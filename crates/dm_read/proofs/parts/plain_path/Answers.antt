-- A refusal of the identifiers.
use Rattle.std.proofs.Common.{List, Err, subst}
use Rattle.dm_stream.specs.declared.tokens.Ident.{Ident}
use Rattle.dm_stream.specs.Cursors.{left}
use Rattle.dm_ast.specs.declared.plain.PlainPath.{PlainPath}
use Rattle.dm_ast.specs.Readers.{place, Reads}
use Rattle.dm_ast.specs.PlainReaders.{plain_path_of, read_leading, read_idents, read_plain}
use Rattle.dm_read.proofs.Loops.{place_same, reads_passed, and_refused}
use Rattle.dm_read.proofs.parts.plain_path.Goals as goal

pub returns-in_err-segments-clause-reads : goal.returns-in_err-segments-clause-reads
returns-in_err-segments-clause-reads c =
    let there = place_same c.args.level c.args.c c.in_ok-leading_colon.rest c.in_ok-leading_colon.ensures.place.same_limit in
    let cut = subst (λ w. Reads {A = List Ident} {X = List Ident} (λ l. l) (read_idents w (left c.in_ok-leading_colon.rest)) (Err c.in_err-segments.field-0.0)) there c.in_err-segments.ensures.reads in
    reads_passed (λ (p : PlainPath). p) (λ (l : List Ident). l) (read_plain (place c.args.level c.args.c) (left c.args.c))
    (read_idents (place c.args.level c.args.c) (left c.in_ok-leading_colon.rest)) c.in_err-segments.field-0.0 cut
    (λ r p.
    and_refused plain_path_of (read_leading (place c.args.level c.args.c) (left c.args.c)) (read_idents (place c.args.level c.args.c)) c.in_ok-leading_colon.leading_colon
    (left c.in_ok-leading_colon.rest) r c.in_ok-leading_colon.ensures.reads p)
    c.from_residual-in_err-segments.result c.from_residual-in_err-segments.ensures.1
