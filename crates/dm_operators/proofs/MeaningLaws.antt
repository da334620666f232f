-- When an operator of two values of an enum succeeds.
use Rattle.std.proofs.Common.{◌≡◌, Bool, true, false, cond, eqb, refl, sym, ap, ◌∙◌}
use Rattle.std.proofs.lemmas.Bool.{eqb-true}
use Rattle.dm_ast.specs.Declarations.{Declaration}
use Rattle.dm_output.specs.Values.{Value, Thing, success, failure, is_enum}
use Rattle.dm_operands.proofs.BindingLaws.{eqb-same}
use Rattle.dm_operators.specs.Operators.{Operator}
use Rattle.dm_operators.specs.Meaning.{is_unit_in, case_of, ok_if, changed, of_two}

chosen : (same fails enum : Bool) (p q t u : Thing) → cond same (cond fails (failure p) (ok_if enum t)) (failure q) ≡ success u →
    (same ≡ true) × (fails ≡ false)
chosen true true enum p q t u h = absurd cc
chosen true false enum p q t u h = (refl, refl)
chosen false fails enum p q t u h = absurd cc

-- it gives `Ok` only for two values of one variant that isn't a unit
pub ok-only : (o : Operator) (d : Declaration) (x y : Value) (t : Thing) → of_two o d x y ≡ success t →
    (x.variant ≡ y.variant) × (is_unit_in (case_of d x) ≡ false)
ok-only o d x y t h =
    let both = chosen (eqb x.variant y.variant) (is_unit_in (case_of d x)) (is_enum d) _ _ (changed o d x y.fields) t h in
    (eqb-true x.variant y.variant both.0, both.1)

-- and for these it does
pub ok-there : (o : Operator) (d : Declaration) (x y : Value) → is_enum d ≡ true → x.variant ≡ y.variant →
    is_unit_in (case_of d x) ≡ false →
    of_two o d x y ≡ success (changed o d x y.fields)
ok-there o d x y enum same full =
    let e : eqb x.variant y.variant ≡ true = ap (λ n. eqb x.variant n) (sym same) ∙ eqb-same x.variant in
    rw (e, full, enum) refl
