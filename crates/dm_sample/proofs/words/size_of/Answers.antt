use Rattle.std.proofs.Common.{arith}
use Rattle.dm_sample.proofs.Sizes.{begins, read_is, too_large, unread}
use Rattle.dm_sample.proofs.words.size_of.Goals as goal

-- the word begins with no digit, or with 0
pub returns-then-not-begins_number : goal.returns-then-not-begins_number
returns-then-not-begins_number c = λ n s. c.if-not-begins_number.ensures (begins _ n s)

-- it is a number
pub returns-in-Ok : goal.returns-in-Ok
returns-in-Ok c =
    read_is _ _ _ c.if-not-begins_number.ensures c.parse.ensures.value.0 c.in-Ok.is c.if-n-le-LARGEST_SAMPLE.true

-- the number is too large
pub returns-in_default : goal.returns-in_default
returns-in_default c = too_large _ _ _ c.parse.ensures.value.0 c.in-Ok.is (λ most. omega (arith, most, c.if-n-le-LARGEST_SAMPLE.false))

-- it is no number
pub returns-in_default-2 : goal.returns-in_default-2
returns-in_default-2 c = unread _ _ _ c.parse.ensures.value.0 c.in_default.is
