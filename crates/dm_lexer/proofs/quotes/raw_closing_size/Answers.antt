use Rattle.std.proofs.Common.{◌≡◌, ◌≤◌, ◌+◌, true, false, arith, length, ap, length-append, encode_utf8}
use Rattle.std.proofs.lemmas.Str.{length-encode}
use Rattle.std.specs.Char.{len_utf8}
use Rattle.std.specs.Str.{chars}
use Rattle.dm_lexer.specs.Quotes.{closes_raw}
use Rattle.dm_lexer.proofs.RawStrings.{raw-start, raw-next, raw-end}
use Rattle.dm_lexer.proofs.quotes.raw_closing_size.Goals as goal

pub loop-c-init : goal.loop-c-init
loop-c-init c = raw-start _ _ c.utf8.text

pub loop-c-preserved : goal.loop-c-preserved
loop-c-preserved c =
    let h : closes_raw c.args.hashes c.in-Some.c (chars c.in-Some.after.now) ≡ false = cc in
    let f = c.loop-c.invariant.fits in
    let l : c.loop-c.at + len_utf8 c.in-Some.c + length c.in-Some.after.now ≤ length c.args.text.now =
    omega (arith, f, ap length c.in-Some.ensures.bytes, length-append (encode_utf8 c.in-Some.c) c.in-Some.after.now, length-encode c.in-Some.c) in
    rw c.len_utf8-at.ensures.value (raw-next _ _ _ _ _ _ c.loop-c.invariant h c.in-Some.ensures.bytes c.in-Some.ensures.chars l)

pub returns-then-is_raw_end : goal.returns-then-is_raw_end
returns-then-is_raw_end c =
    let h : closes_raw c.args.hashes c.in-Some.c (chars c.in-Some.after.now) ≡ true = cc in
    raw-end _ _ _ _ _ _ c.loop-c.invariant h c.in-Some.ensures.chars
