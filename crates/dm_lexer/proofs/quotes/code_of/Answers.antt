use Rattle.std.proofs.Common.{◌≡◌, true, Some, sym}
use Rattle.std.proofs.lemmas.Str.{IsUtf8-past_char}
use Rattle.dm_lexer.specs.Quotes.{is_code, with_code}
use Rattle.dm_lexer.proofs.Codes.{code-next, stepped}
use Rattle.dm_lexer.proofs.quotes.code_of.Goals as goal

pub loop-c-preserved : goal.loop-c-preserved
loop-c-preserved c =
    let h : is_code c.in-Some.c ≡ true = cc in
    let s : with_code c.loop-c.code c.in-Some.c ≡ Some c.in_ok-code.code = sym c.in_ok-code.ensures in
    let u = IsUtf8-past_char _ _ _ c.loop-c.invariant.utf8 c.in-Some.ensures.bytes in
    code-next _ _ _ _ _ _ c.loop-c.invariant c.in-Some.ensures.chars u c.in-Some.ensures.shorter h (stepped _ _ _ s)
