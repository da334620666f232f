use Rattle.std.proofs.Common.{◌≡◌, true, false}
use Rattle.std.specs.Str.{chars}
use Rattle.dm_lexer.specs.Quotes.{begins, begins_raw, begins_word}
use Rattle.dm_lexer.proofs.Openings.{lifetime-none, no-word, raw-word, lifetime-ticked, lifetime-some}
use Rattle.dm_lexer.proofs.quotes.lifetime_size.Goals as goal

pub returns-then-not-begins_word : goal.returns-then-not-begins_word
returns-then-not-begins_word c =
    let h : begins_word (chars c.in_ok-after.after.now) ≡ false = cc in
    lifetime-none _ _ _ c.in_ok-after.ensures.chars (no-word (chars c.in_ok-after.after.now) h)

pub returns-then-is_raw : goal.returns-then-is_raw
returns-then-is_raw c =
    let h : begins_word (chars c.in_ok-after.after.now) ≡ true = cc in
    let i : begins_raw (chars c.in_ok-after.after.now) ≡ true = cc in
    lifetime-none _ _ _ c.in_ok-after.ensures.chars (raw-word (chars c.in_ok-after.after.now) h i)

pub text_from-requires : goal.text_from-requires
text_from-requires c = c.run_size-size.ensures.boundary

pub returns-then-begins_with : goal.returns-then-begins_with
returns-then-begins_with c =
    let h : begins_word (chars c.in_ok-after.after.now) ≡ true = cc in
    let i : begins_raw (chars c.in_ok-after.after.now) ≡ false = cc in
    let t : begins 39 (chars c.text_from.result.now) ≡ true = cc in
    lifetime-ticked _ _ _ _ _ c.in_ok-after.ensures.chars h i c.run_size-size.ensures c.text_from.ensures t

pub returns : goal.returns
returns c =
    let h : begins_word (chars c.in_ok-after.after.now) ≡ true = cc in
    let i : begins_raw (chars c.in_ok-after.after.now) ≡ false = cc in
    let t : begins 39 (chars c.text_from.result.now) ≡ false = cc in
    lifetime-some _ _ _ _ _ c.utf8.text c.in_ok-after.ensures.bytes c.in_ok-after.ensures.chars c.requires h i c.run_size-size.ensures c.text_from.ensures t
