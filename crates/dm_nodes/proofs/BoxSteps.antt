-- The last expression of a block, as it is read and as the block holds it.
use Rattle.std.proofs.Common.{◌≡◌, Option, Some, None, ap}
use Rattle.std.specs.declared.boxed.Box.{Box}
use Rattle.std.specs.declared.alloc.Global.{Global}
use Rattle.dm_output.specs.declared.expr.Expr.{Expr}
use Rattle.dm_output.specs.Output.{some_expr}
use Rattle.dm_output.specs.Views.{expr_view}
use Rattle.dm_output.proofs.View as output
use Rattle.dm_output.proofs.View.{view_steps}
use Rattle.dm_nodes.specs.Boxes.{last_view, IsBoxed}

pub boxed_same : (o : Option Expr) (b : Option (Box Expr Global)) → IsBoxed o b → output.boxed_view b ≡ last_view o
boxed_same None b e = ap output.boxed_view e
boxed_same (Some x) None e = absurd e
boxed_same (Some x) (Some b) e = ap (λ y. some_expr (expr_view y)) e

pub ruleset box_steps = (view_steps, boxed_same)
