use Rattle.std.proofs.Common.{◌≡◌, true, false, arith}
use Rattle.std.specs.Prelude.{nat_eq}
use Rattle.std.proofs.lemmas.Bool.Decides.{nat_tests}
use Rattle.dm_lexer.specs.Quotes.{is_lone}
use Rattle.dm_lexer.proofs.Openings.{lone-escape, lone-plain}
use Rattle.dm_lexer.proofs.quotes.lone_segment_of.Goals as goal

pub returns-then-c-eq92 : goal.returns-then-c-eq92
returns-then-c-eq92 c =
    lone-escape c.args.in_bytes c.args.text.now _ _ c.escape_of.result c.utf8.text c.in_ok-c.ensures.chars c.if-c-eq92.true c.escape_of.ensures

pub returns : goal.returns
returns c =
    let n = c.if-c-eq92.false in
    let h : nat_eq c.in_ok-c.c 92 ≡ false = grind (arith, nat_tests) in
    let i : is_lone c.args.in_bytes c.in_ok-c.c ≡ true = cc in
    rw c.len_utf8.ensures.value (lone-plain _ _ _ _ c.utf8.text c.in_ok-c.ensures.bytes c.in_ok-c.ensures.chars h i)
