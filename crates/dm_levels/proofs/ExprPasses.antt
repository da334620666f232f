-- How the functions that follow expressions go on: what their parts pass, one behind the other, and the equation of a variant's view.
use Rattle.std.proofs.Common.{◌≡◌, ℕ, List, ◌++◌, Result, Ok, Err, sym, ap, ◌∙◌}
use Rattle.std.specs.Prelude.{IsErrAnd}
use denote.Ref.{Bor}
use Rattle.dm_stream.specs.declared.tokens.Span.{Span}
use Rattle.dm_stream.specs.declared.tokens.Entry.{Entry}
use Rattle.dm_output.specs.declared.expr.Expr.{Expr}
use Rattle.dm_output.specs.Output.{ExprTree}
use Rattle.dm_output.specs.Views.{expr_view}
use Rattle.dm_levels.specs.Levels.{expr_levels}
use Rattle.dm_type_levels.specs.Passing.{pass, Passes}
use Rattle.dm_type_levels.proofs.PartPasses.{first_stops}
use Rattle.dm_type_levels.proofs.TypePasses.{passes_equal, passes_next}

-- ---- an expression as its variant is written

pub expr_shown : (k : ℕ) (x y : Expr) (v : ExprTree) → x ≡ y → expr_view y ≡ v → expr_levels k (expr_view x) ≡ expr_levels k v
expr_shown k x y v e f = ap (λ z. expr_levels k (expr_view z)) e ∙ ap (expr_levels k) f

pub expr_passes : (k : ℕ) (x y : Expr) (v : ExprTree) (es : List Entry) (r : Result (Bor (List Entry)) Span) → x ≡ y → expr_view y ≡ v →
    Passes (expr_levels k v) es r → Passes (expr_levels k (expr_view x)) es r
expr_passes k x y v es r e f p = passes_equal _ _ es r (expr_shown k x y v e f) p

-- ---- a first part, and what stands behind it

pub first_passes : (k : ℕ) (x y : Expr) (v : ExprTree) (ls ms : List ℕ) (es e1 : List Entry) (r : Result (Bor (List Entry)) Span) →
    x ≡ y → expr_view y ≡ v → expr_levels k v ≡ ls ++ ms → pass ls es ≡ Ok e1 → Passes ms e1 r → Passes (expr_levels k (expr_view x)) es r
first_passes k x y v ls ms es e1 r e f g h p = passes_equal _ _ es r (expr_shown k x y v e f ∙ g) (passes_next ls ms es e1 r h p)

pub first_fails : (k : ℕ) (x y : Expr) (v : ExprTree) (ls ms : List ℕ) (es : List Entry) (s : Span) (r : Result (Bor (List Entry)) Span) →
    x ≡ y → expr_view y ≡ v → expr_levels k v ≡ ls ++ ms → pass ls es ≡ Err s → IsErrAnd r (λ d. d ≡ s) → Passes
    (expr_levels k (expr_view x)) es r
first_fails k x y v ls ms es s r e f g h i = passes_equal _ _ es r (expr_shown k x y v e f ∙ g) (first_stops ls ms es s r h i)

-- ---- a first part that is an expression in a box, and what stands behind it

pub left_passes : (k : ℕ) (x y : Expr) (v : ExprTree) (z left : Expr) (ms : List ℕ) (es e1 : List Entry)
    (r : Result (Bor (List Entry)) Span) →
    x ≡ y → expr_view y ≡ v → expr_levels k v ≡ expr_levels k (expr_view left) ++ ms → z ≡ left → pass (expr_levels k (expr_view z)) es ≡ Ok
    e1 →
    Passes ms e1 r → Passes (expr_levels k (expr_view x)) es r
left_passes k x y v z left ms es e1 r e f g d h p =
    first_passes k x y v (expr_levels k (expr_view z)) ms es e1 r e f (g ∙ ap (λ w. expr_levels k (expr_view w) ++ ms) (sym d)) h p

pub left_fails : (k : ℕ) (x y : Expr) (v : ExprTree) (z left : Expr) (ms : List ℕ) (es : List Entry) (s : Span)
    (r : Result (Bor (List Entry)) Span) →
    x ≡ y → expr_view y ≡ v → expr_levels k v ≡ expr_levels k (expr_view left) ++ ms → z ≡ left → pass (expr_levels k (expr_view z)) es ≡
    Err s →
    IsErrAnd r (λ d. d ≡ s) → Passes (expr_levels k (expr_view x)) es r
left_fails k x y v z left ms es s r e f g d h i =
    first_fails k x y v (expr_levels k (expr_view z)) ms es s r e f (g ∙ ap (λ w. expr_levels k (expr_view w) ++ ms) (sym d)) h i
