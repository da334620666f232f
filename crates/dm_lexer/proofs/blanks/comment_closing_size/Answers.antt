use Rattle.std.proofs.Common.{◌≡◌, ◌<◌, arith}
use Rattle.dm_lexer.specs.declared.blanks.Mark.TheVariants.{Opens, Closes, Other}
use Rattle.dm_lexer.specs.Blanks.{mark}
use Rattle.dm_lexer.proofs.BlankSteps.{two, comment_closing-start, comment_closing-opens, comment_closing-last, comment_closing-closes, comment_closing-other}
use Rattle.dm_lexer.proofs.blanks.comment_closing_size.Goals as goal

pub loop-c-init : goal.loop-c-init
loop-c-init c = comment_closing-start _ c.utf8.text

pub loop-c-preserved-in-Opens : goal.loop-c-preserved-in-Opens
loop-c-preserved-in-Opens c =
    let t = two _ _ _ _ _ c.in-Some.ensures.bytes c.in-Some.ensures.chars c.in-Some-first_char.ensures.bytes c.in-Some-first_char.ensures.chars in
    let h : mark c.in-Some.c c.in-Some-first_char.d ≡ Opens = cc in
    rw (c.len_utf8.ensures.value, c.len_utf8-in-Opens.ensures.value) (comment_closing-opens _ _ _ _ _ _ _ _ c.loop-c.invariant t h)

pub returns-then-deep-eq0 : goal.returns-then-deep-eq0
returns-then-deep-eq0 c =
    let t = two _ _ _ _ _ c.in-Some.ensures.bytes c.in-Some.ensures.chars c.in-Some-first_char.ensures.bytes c.in-Some-first_char.ensures.chars in
    let h : mark c.in-Some.c c.in-Some-first_char.d ≡ Closes = cc in
    rw (c.len_utf8-in-Closes.ensures.value, c.len_utf8-in-Closes-2.ensures.value)
    (comment_closing-last _ _ _ _ _ _ _ _ c.loop-c.invariant t h c.if-deep-eq0.true)

pub loop-c-preserved-in-Closes : goal.loop-c-preserved-in-Closes
loop-c-preserved-in-Closes c =
    let t = two _ _ _ _ _ c.in-Some.ensures.bytes c.in-Some.ensures.chars c.in-Some-first_char.ensures.bytes c.in-Some-first_char.ensures.chars in
    let h : mark c.in-Some.c c.in-Some-first_char.d ≡ Closes = cc in
    let z : 0 < c.loop-c.deep = omega arith in
    rw (c.len_utf8-in-Closes.ensures.value, c.len_utf8-in-Closes-2.ensures.value)
    (comment_closing-closes _ _ _ _ _ _ _ _ c.loop-c.invariant t h z)

pub loop-c-preserved : goal.loop-c-preserved
loop-c-preserved c =
    let t = two _ _ _ _ _ c.in-Some.ensures.bytes c.in-Some.ensures.chars c.in-Some-first_char.ensures.bytes c.in-Some-first_char.ensures.chars in
    let h : mark c.in-Some.c c.in-Some-first_char.d ≡ Other = cc in
    rw c.len_utf8-at.ensures.value (comment_closing-other _ _ _ _ _ _ _ _ c.loop-c.invariant t h)
