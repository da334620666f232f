-- The last expression of a block.
use Rattle.std.specs.Prelude.{◌≡◌, Option, Some, None}
use Rattle.std.specs.declared.boxed.Box.{Box}
use Rattle.std.specs.declared.alloc.Global.{Global}
use Rattle.dm_output.specs.declared.expr.Expr.{Expr}
use Rattle.dm_output.specs.Output.{MaybeExpr, no_expr, some_expr}
use Rattle.dm_output.specs.Views.{expr_view}

-- an expression that may be there
abbrev pub last_view : Option Expr → MaybeExpr
last_view None = no_expr
last_view (Some x) = some_expr (expr_view x)

-- the same in its box
abbrev pub IsBoxed : Option Expr → Option (Box Expr Global) → Type 0
IsBoxed None o = o ≡ None
IsBoxed (Some x) None = ⊥
IsBoxed (Some x) (Some b) = b.value ≡ x
