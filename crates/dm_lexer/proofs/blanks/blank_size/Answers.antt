use Rattle.dm_lexer.proofs.BlankSteps.{blank-block}
use Rattle.dm_lexer.proofs.blanks.blank_size.Goals as goal

pub returns-in-Some-comment_closing_size : goal.returns-in-Some-comment_closing_size
returns-in-Some-comment_closing_size c =
    blank-block _ _ _ c.in_default.ensures c.in_default-behind_pair.ensures c.in-Some-behind_pair-2.ensures.0 c.in-Some-behind_pair-2.ensures.1
    c.in-Some-comment_closing_size.ensures
