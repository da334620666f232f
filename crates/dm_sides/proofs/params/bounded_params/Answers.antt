use Rattle.std.proofs.Common.{map}
use Rattle.dm_ast.specs.Declarations.{param_view}
use Rattle.dm_output.specs.Tokens.{params_trees}
use Rattle.dm_sides.proofs.MadeLaws.{made-laid}
use Rattle.dm_sides.proofs.params.bounded_params.Goals as goal

pub returns : goal.returns
returns c = made-laid c.with_bounds.result c.made_params.result (map param_view) params_trees _ _ _ c.with_bounds.ensures c.made_params.ensures
