use Rattle.dm_lexer.proofs.RowSteps.{row-stands}
use Rattle.dm_lexer.proofs.LexSteps.{step-given, step-refused}
use Rattle.dm_lexer.proofs.lexing.step_row.Goals as goal

pub returns-in-None : goal.returns-in-None
returns-in-None g c =
    step-given _ _ _ _ _ _ _ c.utf8.text c.requires.some c.requires.no_blank c.in-Gives.ensures c.in_ok-take-in-Gives.ensures c.in-None.is

pub returns-in-Refuses : goal.returns-in-Refuses
returns-in-Refuses g c =
    step-refused (g.N.TakesLexemes.nesting c.args.nesting.now) _ _ _ _ c.utf8.text c.requires.some c.requires.no_blank c.in-Refuses.ensures c.span_at.ensures

pub returns-in-Passes : goal.returns-in-Passes
returns-in-Passes g c = absurd (row-stands _ _ c.utf8.text c.requires.some c.in-Passes.ensures)
