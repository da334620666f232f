use Rattle.std.proofs.Common.{◌≡◌, true, false}
use Rattle.std.specs.Str.{chars}
use Rattle.dm_lexer.specs.Quotes.{begins}
use Rattle.dm_lexer.proofs.Closings.{string_closing-start, string_closing-next, string_closing-open, string_closing-end}
use Rattle.dm_lexer.proofs.quotes.string_closing_size.Goals as goal

pub loop-at-init : goal.loop-at-init
loop-at-init c = string_closing-start _ _ c.utf8.text

pub returns-then-begins_with : goal.returns-then-begins_with
returns-then-begins_with c =
    let h : begins 34 (chars c.text_from-rest.result.now) ≡ true = cc in
    string_closing-end _ _ _ _ c.loop-at.invariant c.text_from-rest.ensures h

pub loop-at-preserved : goal.loop-at-preserved
loop-at-preserved c =
    let h : begins 34 (chars c.text_from-rest.result.now) ≡ false = cc in
    (string_closing-next _ _ _ _ _ c.loop-at.invariant c.text_from-rest.ensures h c.in_ok-at.ensures).0

pub returns : goal.returns
returns c = string_closing-open _ _ _ c.loop-at.invariant c.loop-at-test.false
