use Rattle.std.proofs.Common.{◌≡◌, true, false}
use Rattle.std.specs.Str.{chars}
use Rattle.dm_lexer.specs.Quotes.{begins, is_plain}
use Rattle.dm_lexer.proofs.Escapes.{plain-segment}
use Rattle.dm_lexer.proofs.quotes.segment_of.Goals as goal

pub returns : goal.returns
returns c =
    let h : begins 92 (chars c.args.text.now) ≡ false = cc in
    let i : is_plain c.args.inside c.in_ok-c.c ≡ true = cc in
    rw c.len_utf8.ensures.value (plain-segment _ _ _ _ c.utf8.text c.in_ok-c.ensures.bytes c.in_ok-c.ensures.chars h i)
