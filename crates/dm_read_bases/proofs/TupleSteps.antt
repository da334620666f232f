-- One part without a comma in parentheses, and a tuple.
use Rattle.std.proofs.Common.{◌≡◌, ◌≢◌, Bool, true, false, List, [], ◌∷◌, ◌++◌, length, map, Some, None, refl, ap}
use Rattle.std.proofs.lemmas.Grind.{common_steps}
use Rattle.std.specs.Option.{option_to_list}
use Rattle.dm_output.specs.declared.expr.Expr.{Expr}
use Rattle.dm_output.specs.Output.{paren, tuple, exprs_of}
use Rattle.dm_output.specs.Views.{expr_view}
use Rattle.dm_read_paths.proofs.Bindings.{alone_is}
use Rattle.dm_read_bases.specs.Rows.{tuple_only}

pub no_parts : (l : List Expr) (b : Bool) → l ≡ [] → tuple_only b (exprs_of (map expr_view l)) ≡ Some (tuple (exprs_of (map expr_view l)))
no_parts [] true e = refl
no_parts [] false e = refl
no_parts (x ∷ l) b e = absurd (cc)

pub ended_parts : (l : List Expr) (b : Bool) → (l ≡ [] → ⊥) → b ≡ true → tuple_only b (exprs_of (map expr_view l)) ≡ None
ended_parts [] b n e = absurd (n refl)
ended_parts (x ∷ l) true n e = refl
ended_parts (x ∷ l) false n e = absurd (cc)

pub many_parts : (l : List Expr) (b : Bool) → b ≡ false → length l ≢ 1 → tuple_only b (exprs_of (map expr_view l)) ≡ Some (tuple (exprs_of (map expr_view l)))
many_parts l true e n = absurd (cc)
many_parts [] false e n = refl
many_parts (x ∷ []) false e n = absurd (n refl)
many_parts (x ∷ y ∷ l) false e n = refl

pub one_part : (l rest : List Expr) (x : Expr) → length l ≡ 1 → l ≡ rest ++ option_to_list (Some x) →
    tuple_only false (exprs_of (map expr_view l)) ≡ Some (paren (expr_view x))
one_part l rest x n e = ap (λ k. tuple_only false (exprs_of (map expr_view k))) (alone_is l rest x n e)

pub ruleset tuple_steps = (common_steps, no_parts, ended_parts, many_parts, one_part)
