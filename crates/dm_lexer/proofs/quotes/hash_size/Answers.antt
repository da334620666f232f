use Rattle.std.proofs.Common.{◌≡◌, true, arith}
use Rattle.std.proofs.lemmas.Bool.Decides.{nat_tests}
use Rattle.std.proofs.lemmas.Str.{IsUtf8-past_char}
use Rattle.dm_lexer.specs.Quotes.{is_hash}
use Rattle.dm_lexer.proofs.Segments.{counted-next}
use Rattle.dm_lexer.proofs.quotes.hash_size.Goals as goal

pub loop-c-preserved : goal.loop-c-preserved
loop-c-preserved c =
    let h : is_hash c.in-Some.c ≡ true = let e = c.if-c-ne35.false in grind (arith, nat_tests) in
    let u = IsUtf8-past_char _ _ _ c.loop-c.invariant.utf8 c.in-Some.ensures.bytes in
    counted-next is_hash _ _ _ _ _ c.loop-c.invariant c.in-Some.ensures.chars u c.in-Some.ensures.shorter h
