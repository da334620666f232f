use Rattle.std.proofs.Common.{◌≤◌, length, arith}
use Rattle.dm_lexer.proofs.LexSteps.{step-blank, unclosed-front}
use Rattle.dm_lexer.proofs.lexing.step.Goals as goal

pub span_at-requires : goal.span_at-requires
span_at-requires g c =
    let b : 2 ≤ length c.args.text.now = (unclosed-front _ c.utf8.text c.in-Unclosed.ensures).boundary.0 in
    omega arith

pub returns-in-Size : goal.returns-in-Size
returns-in-Size g c =
    step-blank _ _ _ c.in-Size.ensures.1.0 _ c.in-Size.ensures.0 c.in-Size.ensures.1.1 c.in-Size.ensures.1.2
