use Rattle.std.proofs.Common.{◌≡◌, true, false, None, Some, ap}
use Rattle.dm_lexer.specs.declared.lexing.Lexeme.TheVariants as lexeme
use Rattle.dm_stream.specs.declared.tokens.Token.TheVariants as t
use Rattle.dm_lexer.specs.Lexemes.{opened_by, closed_by, is_punct}
use Rattle.dm_lexer.proofs.RowSteps.{mark-open, mark-close, mark-punct, mark-other}
use Rattle.dm_lexer.proofs.rows.mark_row.Goals as goal

pub returns-in-Some-opens : goal.returns-in-Some-opens
returns-in-Some-opens c =
    let o : opened_by c.in-Some.c ≡ Some c.in-Some-opens.delim = cc in
    mark-open _ _ _ _ _ _ c.utf8.text c.in-Some.ensures.bytes c.in-Some.ensures.chars o c.span_at.ensures

pub returns-in-Some-closes : goal.returns-in-Some-closes
returns-in-Some-closes c =
    let n : opened_by c.in-Some.c ≡ None = cc (c.opens.ensures, c.in_default-opens.is) in
    let o : closed_by c.in-Some.c ≡ Some c.in-Some-closes.delim = cc in
    mark-close _ _ _ _ _ _ c.utf8.text c.in-Some.ensures.bytes c.in-Some.ensures.chars n o c.span_at-in-Some-closes.ensures

pub returns-then-is_punct_char : goal.returns-then-is_punct_char
returns-then-is_punct_char c =
    let n : opened_by c.in-Some.c ≡ None = cc (c.opens.ensures, c.in_default-opens.is) in
    let o : closed_by c.in-Some.c ≡ None = cc (c.closes.ensures, c.in_default-closes.is) in
    let p : is_punct c.in-Some.c ≡ true = cc in
    mark-punct _ _ _ _ _ c.utf8.text c.in-Some.ensures.bytes c.in-Some.ensures.chars n o p (ap (λ v. lexeme.Token (t.Punct v)) c.punct_of.ensures)

pub returns : goal.returns
returns c =
    let n : opened_by c.in-Some.c ≡ None = cc (c.opens.ensures, c.in_default-opens.is) in
    let o : closed_by c.in-Some.c ≡ None = cc (c.closes.ensures, c.in_default-closes.is) in
    let p : is_punct c.in-Some.c ≡ false = cc in
    rw c.len_utf8.ensures.value (mark-other _ _ _ _ c.utf8.text c.in-Some.ensures.bytes c.in-Some.ensures.chars n o p)
