use Rattle.std.proofs.Common.{◌≡◌, true, false, take}
use Rattle.std.specs.Str.{chars}
use Rattle.dm_lexer.specs.Words.{begins_word, is_never_raw}
use Rattle.dm_lexer.proofs.WordSteps.{sized-raw}
use Rattle.dm_lexer.proofs.words.raw_word_size.Goals as goal

pub returns : goal.returns
returns c =
    let w : begins_word (chars c.in_ok-rest.rest.now) ≡ true = cc in
    let n : is_never_raw (take c.run_size-size.result c.in_ok-rest.rest.now) ≡ false = cc in
    sized-raw _ _ _ c.in_ok-rest.ensures.0 c.in_ok-rest.ensures.1 w c.run_size-size.ensures n
