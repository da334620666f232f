use Rattle.std.proofs.Common.{◌≡◌, true, false}
use Rattle.std.specs.Str.{chars}
use Rattle.dm_lexer.specs.Quotes.{begins}
use Rattle.dm_lexer.proofs.Openings.{lone-open, lone-closed}
use Rattle.dm_lexer.proofs.quotes.lone_closing_size.Goals as goal

pub text_from-requires : goal.text_from-requires
text_from-requires c = c.in_ok-segment.ensures.front.boundary

pub returns-then-not-begins_with : goal.returns-then-not-begins_with
returns-then-not-begins_with c =
    let h : begins 39 (chars c.text_from.result.now) ≡ false = cc in
    lone-open _ _ _ _ c.in_ok-segment.ensures c.text_from.ensures h

pub returns : goal.returns
returns c =
    let h : begins 39 (chars c.text_from.result.now) ≡ true = cc in
    lone-closed _ _ _ _ c.utf8.text c.in_ok-segment.ensures c.text_from.ensures h
