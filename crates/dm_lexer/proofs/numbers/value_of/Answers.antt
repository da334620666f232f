use Rattle.std.proofs.lemmas.Str.{IsUtf8-past_char}
use Rattle.dm_lexer.proofs.NumberSteps.{told-too_big, told-digit}
use Rattle.dm_lexer.proofs.numbers.value_of.Goals as goal

pub returns-in_default-with_digit : goal.returns-in_default-with_digit
returns-in_default-with_digit c =
    told-too_big _ _ _ _ _ _ _ _ _ c.loop-c.invariant c.in-Some.ensures.chars c.radix-radix.ensures.value c.in-Some-to_digit.ensures.value.0
    c.in-Some-to_digit.ensures.value.1 c.in_default-with_digit.ensures

pub loop-c-preserved : goal.loop-c-preserved
loop-c-preserved c =
    told-digit _ _ _ _ _ _ _ _ _ _ c.loop-c.invariant (IsUtf8-past_char _ _ _ c.loop-c.invariant.utf8 c.in-Some.ensures.bytes) c.in-Some.ensures.chars
    c.radix-radix.ensures.value c.in-Some-to_digit.ensures.value.0 c.in-Some-to_digit.ensures.value.1 c.in-Some-with_digit.ensures.0
    c.in-Some-with_digit.ensures.1
