-- The call of a method, of copies of its parts.
use Rattle.std.proofs.Common.{◌≡◌, ◌∙◌, List, map, Result, Ok, Err, IfOk, IsOkAnd, sym, ap, ap₂}
use Rattle.std.specs.declared.boxed.Box.{Box}
use Rattle.std.specs.declared.alloc.Global.{Global}
use Rattle.dm_stream.specs.declared.tokens.Ident.{Ident}
use Rattle.dm_output.specs.declared.expr.Expr.{Expr}
use Rattle.dm_output.specs.declared.expr.Expr.TheVariants as e
use Rattle.dm_output.specs.Output.{ExprTree, method_call, exprs_of}
use Rattle.dm_output.specs.Views.{expr_view}
use Rattle.dm_output.proofs.View.{view_Expr-MethodCall}

abbrev call_view : Expr → Ident → List Expr → ExprTree
call_view x i all = method_call (expr_view x) i (exprs_of (map expr_view all))

same_call : (x y : Expr) (i j : Ident) (l m : List Expr) → expr_view x ≡ expr_view y → i ≡ j → map expr_view l ≡ map expr_view m →
    call_view x i l ≡ call_view y j m
same_call x y i j l m receiver name args =
    ap₂ (λ v n. method_call v n (exprs_of (map expr_view l))) receiver name ∙ ap (λ a. method_call (expr_view y) j (exprs_of a)) args

-- what a maker ensures stands beside the allocator that it was handed
pub call_copied : {E : Type 0} (inner : Expr) (name : Ident) (all : List Expr) (receiver : Result Expr E) (label : Result Ident E)
    (args : Result (List Expr) E) (made : Result Expr E) →
    IfOk made (λ r. IsOkAnd receiver (λ x. IsOkAnd label (λ i. IsOkAnd args (λ l. Global × (expr_view r ≡ call_view x i l))))) →
    IfOk receiver (λ x. expr_view x ≡ expr_view inner) → IfOk label (λ i. i ≡ name) →
    IfOk args (λ l. map expr_view l ≡ map expr_view all) → IfOk made (λ r. expr_view r ≡ call_view inner name all)
call_copied inner name all receiver label args (Err e) h p q s = tt
call_copied inner name all (Err e) label args (Ok r) h p q s = absurd h
call_copied inner name all (Ok x) (Err e) args (Ok r) h p q s = absurd h
call_copied inner name all (Ok x) (Ok i) (Err e) (Ok r) h p q s = absurd h
call_copied inner name all (Ok x) (Ok i) (Ok l) (Ok r) h p q s = h.1 ∙ same_call x inner i name l all p q s

-- what it shows of the expression that was copied
pub call_shown : {E : Type 0} (r : Result Expr E) (x : Expr) (b : Box Expr Global) (i : Ident) (l : List Expr) → x ≡ e.MethodCall b i l →
    IfOk r (λ y. expr_view y ≡ call_view b.value i l) → IfOk r (λ y. expr_view y ≡ expr_view x)
call_shown (Err _) x b i l is h = tt
call_shown (Ok y) x b i l is h = h ∙ sym (ap expr_view is ∙ view_Expr-MethodCall b i l)
