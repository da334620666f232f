use Rattle.std.proofs.Common.{◌≡◌, true, false}
use Rattle.std.proofs.lemmas.Str.{IsUtf8-past_char}
use Rattle.std.specs.Str.{chars}
use Rattle.dm_lexer.specs.Quotes.{begins, begins_hex, is_scalar}
use Rattle.dm_lexer.proofs.Codes.{code-front, unicode-unclosed, unicode-closed, scalar-is}
use Rattle.dm_lexer.proofs.quotes.unicode_escape.Goals as goal

pub text_from-requires : goal.text_from-requires
text_from-requires c =
    let u = IsUtf8-past_char _ _ _ c.utf8.text c.in_ok-brace.ensures.bytes in
    (code-front _ _ u c.in_ok-code.ensures).boundary

pub returns-then-not-begins_with : goal.returns-then-not-begins_with
returns-then-not-begins_with c =
    let u = IsUtf8-past_char _ _ _ c.utf8.text c.in_ok-brace.ensures.bytes in
    let h : begins 125 (chars c.text_from.result.now) ≡ false = cc in
    unicode-unclosed _ _ _ _ _ c.in_ok-brace.ensures.chars u c.in_ok-code.ensures c.text_from.ensures h

pub returns : goal.returns
returns c =
    let u = IsUtf8-past_char _ _ _ c.utf8.text c.in_ok-brace.ensures.bytes in
    let h : begins 125 (chars c.text_from.result.now) ≡ true = cc in
    let x : begins_hex (chars c.in_ok-brace.after.now) ≡ true = cc in
    let s : is_scalar c.in_ok-code.code.value ≡ true = scalar-is c.in_ok-code.code.value c.in_ok-from_u32.ensures.value.0 in
    unicode-closed _ _ _ _ _ _ c.in_ok-brace.ensures.chars u c.if-brace-ne123.false x c.in_ok-code.ensures c.text_from.ensures h c.in_ok-from_u32.ensures.value.1 s
