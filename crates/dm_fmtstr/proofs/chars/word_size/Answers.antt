use Rattle.std.proofs.Common.{◌≡◌, true}
use Rattle.unicode_ident.specs.Ident.{is_xid_continue}
use Rattle.dm_lexer.proofs.LexChars.{run-start, run-next}
use Rattle.dm_fmtstr.proofs.chars.word_size.Goals as goal

pub loop-c-init : goal.loop-c-init
loop-c-init c = run-start _ _ c.utf8.text

pub loop-c-preserved : goal.loop-c-preserved
loop-c-preserved c =
    let h : is_xid_continue c.in-Some.c ≡ true = cc in
    rw c.len_utf8-at.ensures.value (run-next _ _ _ _ _ _ c.loop-c.invariant h c.in-Some.ensures.bytes c.in-Some.ensures.chars)
