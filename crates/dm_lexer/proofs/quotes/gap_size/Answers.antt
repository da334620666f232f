use Rattle.std.proofs.Common.{◌≡◌, true}
use Rattle.std.proofs.lemmas.Str.{IsUtf8-past_char}
use Rattle.dm_lexer.specs.Quotes.{is_gap}
use Rattle.dm_lexer.proofs.Segments.{counted-next}
use Rattle.dm_lexer.proofs.quotes.gap_size.Goals as goal

pub loop-c-preserved : goal.loop-c-preserved
loop-c-preserved c =
    let h : is_gap c.in-Some.c ≡ true = cc in
    let u = IsUtf8-past_char _ _ _ c.loop-c.invariant.utf8 c.in-Some.ensures.bytes in
    counted-next is_gap _ _ _ _ _ c.loop-c.invariant c.in-Some.ensures.chars u c.in-Some.ensures.shorter h
