use Rattle.dm_attr.specs.Skips.{skip_in}
use Rattle.dm_attr.proofs.OnceSteps.{under}
use Rattle.dm_attr.proofs.skips.is_skipped_under.Goals as goal

pub returns : goal.returns
returns c = under skip_in c.args.name.now c.args.attrs.now c.is_given.result c.is_given.ensures
