use Rattle.std.proofs.Common.{◌≡◌, true}
use Rattle.std.specs.Str.{chars}
use Rattle.dm_lexer.specs.Numbers.{begins_digit}
use Rattle.dm_lexer.proofs.NumberSteps.{number-prefixed}
use Rattle.dm_lexer.proofs.numbers.number.Goals as goal

pub returns : goal.returns
returns c =
    let d : begins_digit (chars c.args.text.now) ≡ true = cc in
    number-prefixed _ _ _ _ _ _ d c.base_prefix_of-prefix.ensures c.in-Some.ensures
