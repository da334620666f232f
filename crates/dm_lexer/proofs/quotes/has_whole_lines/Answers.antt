use Rattle.std.proofs.Common.{◌≡◌, true, false, refl, sym}
use Rattle.std.specs.Str.{chars}
use Rattle.dm_lexer.specs.Quotes.{keeps_line}
use Rattle.dm_lexer.proofs.RawStrings.{lines-next, lines-broken}
use Rattle.dm_lexer.proofs.quotes.has_whole_lines.Goals as goal

pub loop-c-init : goal.loop-c-init
loop-c-init c = record { utf8 = c.utf8.text; steps = refl }

pub loop-c-preserved : goal.loop-c-preserved
loop-c-preserved c =
    let h : keeps_line c.in-Some.c (chars c.in-Some.after.now) ≡ true = cc in
    lines-next _ _ _ _ c.loop-c.invariant h c.in-Some.ensures.bytes c.in-Some.ensures.chars

pub returns-then-not-keeps_line_before : goal.returns-then-not-keeps_line_before
returns-then-not-keeps_line_before c =
    let h : keeps_line c.in-Some.c (chars c.in-Some.after.now) ≡ false = cc in
    sym (lines-broken _ _ _ _ c.loop-c.invariant h c.in-Some.ensures.chars)
