use Rattle.std.proofs.Common.{◌≡◌, ◌++◌, length, sym, ap, ◌∙◌, arith, length-append, encode_utf8}
use Rattle.dm_lexer.proofs.LexChars.{chars-none}
use Rattle.std.proofs.lemmas.Str.{chars_past_char, length-encode, len_utf8_bounds}
use Rattle.dm_lexer.proofs.front.first_char.Goals as goal

pub returns-in-Some-clause-chars : goal.returns-in-Some-clause-chars
returns-in-Some-clause-chars c =
    let e : c.args.text.now ≡ encode_utf8 c.in-Some.c ++ c.as_str.result.now =
    sym c.chars-chars.ensures.rest ∙ c.in-Some.ensures.steps.0 ∙ ap (λ t. encode_utf8 c.in-Some.c ++ t) (sym c.as_str.ensures) in
    chars_past_char _ c.as_str.result.now c.in-Some.c c.utf8.text e

pub returns-in-Some-clause-shorter : goal.returns-in-Some-clause-shorter
returns-in-Some-clause-shorter c =
    let e : c.args.text.now ≡ encode_utf8 c.in-Some.c ++ c.as_str.result.now =
    sym c.chars-chars.ensures.rest ∙ c.in-Some.ensures.steps.0 ∙ ap (λ t. encode_utf8 c.in-Some.c ++ t) (sym c.as_str.ensures) in
    omega (arith, ap length e, length-append (encode_utf8 c.in-Some.c) c.as_str.result.now, length-encode c.in-Some.c, len_utf8_bounds c.in-Some.c)

pub returns-in-None-clause-chars : goal.returns-in-None-clause-chars
returns-in-None-clause-chars c = chars-none _ _ c.chars-chars.ensures.rest c.in-None.ensures.steps.0.0
