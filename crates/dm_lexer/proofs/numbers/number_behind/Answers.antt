use Rattle.std.proofs.Common.{◌≡◌, false}
use Rattle.std.specs.Str.{chars}
use Rattle.dm_lexer.specs.Numbers.{spoils}
use Rattle.dm_lexer.proofs.NumberSteps.{number-valueless, number-read}
use Rattle.dm_lexer.proofs.numbers.number_behind.Goals as goal

pub returns-in_default : goal.returns-in_default
returns-in_default c =
    let h : spoils c.args.base (chars c.text_from-after.result.now) ≡ false = cc in
    number-valueless _ _ _ _ _ c.utf8.text c.run_size-digits.ensures c.text_from-after.ensures c.text_to.ensures h c.in_default.ensures

pub returns : goal.returns
returns c =
    let h : spoils c.args.base (chars c.text_from-after.result.now) ≡ false = cc in
    number-read _ _ _ _ _ _ _ c.utf8.text c.run_size-digits.ensures c.text_from-after.ensures c.text_to.ensures h c.in-Some.ensures.0 c.in-Some.ensures.1
    c.suffix_size.ensures
