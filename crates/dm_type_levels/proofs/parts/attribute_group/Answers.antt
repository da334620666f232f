use Rattle.std.proofs.Common.{◌+◌, ◌++◌}
use Rattle.dm_type_levels.specs.TypeLevels.{plain_levels, attr_args_levels}
use Rattle.dm_type_levels.proofs.Grouped.{passes_group}
use Rattle.dm_type_levels.proofs.parts.attribute_group.Goals as goal

pub returns : goal.returns
returns c =
    passes_group c.args.level (plain_levels (c.args.level + 1) c.args.attribute.now.path ++ attr_args_levels (c.args.level + 1) c.args.attribute.now.args)
    c.args.rest.now c.in_ok-rest.rest.now c.in_ok-rest-2.rest.now c.token-2.result
    c.in_ok-rest.ensures.gives c.in_ok-rest-2.ensures c.token-2.ensures.gives
