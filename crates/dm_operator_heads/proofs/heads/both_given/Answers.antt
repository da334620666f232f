use Rattle.dm_ast.specs.Tree.{ty_view}
use Rattle.dm_operator_heads.proofs.HeadSteps.{given-laid, both-laid}
use Rattle.dm_operator_heads.proofs.heads.both_given.Goals as goal

pub returns : goal.returns
returns c =
    let t = ty_view c.args.of.now in
    given-laid c.punct.result t _ _ _ c.punct.new.out _ c.in_ok-fixed.ensures c.in_ok-ty.ensures c.punct.ensures (both-laid c.args.out.now t)
