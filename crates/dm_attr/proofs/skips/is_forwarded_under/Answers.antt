use Rattle.dm_attr.specs.Kinds.{forward_in}
use Rattle.dm_attr.proofs.OnceSteps.{under}
use Rattle.dm_attr.proofs.skips.is_forwarded_under.Goals as goal

pub returns : goal.returns
returns c = under forward_in c.args.name.now c.args.attrs.now c.is_given.result c.is_given.ensures
