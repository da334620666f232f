use Rattle.std.proofs.Common.{◌≡◌, ◌≤◌, ◌+◌, false, arith, length, ap, length-append, encode_utf8}
use Rattle.std.proofs.lemmas.Str.{length-encode}
use Rattle.std.specs.Char.{len_utf8}
use Rattle.std.specs.Str.{chars}
use Rattle.dm_lexer.specs.Quotes.{closes_raw}
use Rattle.dm_lexer.proofs.Meanings.{kept-start, kept-next}
use Rattle.dm_lexer.proofs.values.raw_inside.Goals as goal

pub loop-c-init : goal.loop-c-init
loop-c-init c = kept-start _ _ c.utf8.text

pub loop-c-preserved : goal.loop-c-preserved
loop-c-preserved c =
    let h : closes_raw c.args.hashes c.in-Some.c (chars c.in-Some.after.now) ≡ false = cc in
    let f = c.loop-c.invariant.so_far.fits in
    let l : c.loop-c.at + len_utf8 c.in-Some.c + length c.in-Some.after.now ≤ length c.args.text.now =
    omega (arith, f, ap length c.in-Some.ensures.bytes, length-append (encode_utf8 c.in-Some.c) c.in-Some.after.now, length-encode c.in-Some.c) in
    rw c.len_utf8-at.ensures.value (kept-next _ _ _ _ _ _ c.loop-c.invariant h c.in-Some.ensures.bytes c.in-Some.ensures.chars l)
