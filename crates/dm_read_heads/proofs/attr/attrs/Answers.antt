-- The turns are enough.
use Rattle.dm_read_heads.proofs.AttrLists.{all_read}
use Rattle.dm_read_heads.proofs.attr.attrs.Goals as goal

pub returns : goal.returns
returns c = all_read c.enough-fuel.result c.args.place.now c.turned.new.place c.turned.result c.enough-fuel.ensures c.turned.ensures
