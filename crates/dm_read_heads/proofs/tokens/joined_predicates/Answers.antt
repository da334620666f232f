-- Written as in declarations.
use Rattle.dm_read_heads.proofs.TokenSteps.{predicates_same, written_as}
use Rattle.dm_read_heads.proofs.tokens.joined_predicates.Goals as goal

pub returns-clause-added : goal.returns-clause-added
returns-clause-added c =
    written_as c.write_separated.result c.write_separated.new.out.trees c.args.out.now.trees c.nowhere.result _ _ c.nowhere.ensures
    (predicates_same c.args.all.now) c.write_separated.ensures.added
