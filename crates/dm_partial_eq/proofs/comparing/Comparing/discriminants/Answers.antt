use Rattle.std.proofs.Common.{◌≡◌, OnOk, sym, subst}
use Rattle.dm_print_types.specs.Laying.{lay}
use Rattle.dm_output.specs.Tokens.{expr_trees}
use Rattle.dm_partial_eq.specs.Emitted.{discriminants}
use Rattle.dm_partial_eq.proofs.comparing.Comparing.discriminants.Goals as goal

pub returns-in-Equal : goal.returns-in-Equal
returns-in-Equal c =
    subst (λ way. OnOk c.fixed.result (c.fixed.new.out ≡ lay c.args.out.now (expr_trees (discriminants way)))) (sym c.in-Equal.is) c.fixed.ensures

pub returns-in-Unequal : goal.returns-in-Unequal
returns-in-Unequal c =
    subst (λ way. OnOk c.fixed-in-Unequal.result (c.fixed-in-Unequal.new.out ≡ lay c.args.out.now (expr_trees (discriminants way))))
    (sym c.in-Unequal.is) c.fixed-in-Unequal.ensures
