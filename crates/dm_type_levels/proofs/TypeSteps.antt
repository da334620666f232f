-- Steps of the functions that follow types.
use Rattle.dm_ast.proofs.Split.{take_more, take_none, drop_more, drop_none, drop_later}
use Rattle.dm_ast.proofs.View.{view_steps}
use Rattle.dm_type_levels.proofs.Passes.{pass_both}

pub ruleset type_steps = (view_steps, pass_both, take_more, take_none, drop_more, drop_none, drop_later)
