-- The call of a method, of its parts.
use Rattle.std.proofs.Common.{◌≡◌, ◌∙◌, List, map, Result, Ok, Err, IfOk, ap, ap₂}
use Rattle.std.specs.declared.boxed.Box.{Box}
use Rattle.std.specs.declared.alloc.Global.{Global}
use Rattle.dm_stream.specs.declared.tokens.Ident.{Ident}
use Rattle.dm_output.specs.declared.expr.Expr.{Expr}
use Rattle.dm_output.specs.declared.expr.Expr.TheVariants as e
use Rattle.dm_output.specs.Output.{method_call, exprs_of}
use Rattle.dm_output.specs.Views.{expr_view}
use Rattle.dm_output.proofs.View.{view_Expr-MethodCall}

pub called : {E : Type 0} (r : Result Expr E) (b : Box Expr Global) (i : Ident) (all : List Expr) (x : Expr) (args : List Expr) →
    IfOk r (λ n. n ≡ e.MethodCall b i all) → b.value ≡ x → all ≡ args →
    IfOk r (λ n. expr_view n ≡ method_call (expr_view x) i (exprs_of (map expr_view args)))
called (Ok n) b i all x args made boxed same =
    ap expr_view made ∙ view_Expr-MethodCall b i all ∙ ap₂ (λ y l. method_call (expr_view y) i (exprs_of (map expr_view l))) boxed same
called (Err _) b i all x args made boxed same = tt
