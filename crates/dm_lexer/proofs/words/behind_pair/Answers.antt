use Rattle.dm_lexer.proofs.WordSteps.{pair-behind}
use Rattle.dm_lexer.proofs.words.behind_pair.Goals as goal

pub returns-then-d-second : goal.returns-then-d-second
returns-then-d-second c =
    pair-behind _ _ _ _ _ _ _ c.utf8.text c.requires.first_is_ascii c.requires.second_is_ascii c.if-c-first.true c.if-d-second.true c.in_ok-c.ensures.bytes
    c.in_ok-c.ensures.chars c.in_ok-d.ensures.bytes c.in_ok-d.ensures.chars
