use Rattle.std.proofs.Common.{◌≡◌, true, false}
use Rattle.std.specs.Str.{chars}
use Rattle.dm_lexer.specs.Quotes.{begins}
use Rattle.dm_lexer.proofs.Meanings.{meant-start, meant-next, meant-quote, meant-stuck, meant-all}
use Rattle.dm_lexer.proofs.values.meaning_of.Goals as goal
use Rattle.dm_lexer.proofs.values.meaning_of.Goals.{else-loop-at-test, then-loop-at-test+then-begins_with, then-loop-at-test+else-begins_with+in_default}

pub loop-at-init : goal.loop-at-init
loop-at-init c = meant-start _ _ c.utf8.text c.new-out.ensures.bytes

pub loop-at-preserved : goal.loop-at-preserved
loop-at-preserved c =
    let h : begins 34 (chars c.text_from-rest.result.now) ≡ false = cc in
    (meant-next _ _ _ _ _ _ c.loop-at.invariant c.text_from-rest.ensures h c.in-Some.ensures c.in_ok-push_meant.ensures).0

pub returns : goal.returns
returns c = elim c.loop-at-test.branch [
  | else-loop-at-test w ↦ meant-all _ _ _ c.loop-at.invariant w.loop-at-test.false
  | then-loop-at-test+then-begins_with w ↦
      let h : begins 34 (chars w.text_from-rest.result.now) ≡ true = cc in
      meant-quote _ _ _ _ c.loop-at.invariant w.text_from-rest.ensures h
  | then-loop-at-test+else-begins_with+in_default w ↦
      let h : begins 34 (chars w.text_from-rest.result.now) ≡ false = cc in
      meant-stuck _ _ _ _ c.loop-at.invariant w.text_from-rest.ensures h w.in_default.ensures
]
