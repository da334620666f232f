use Rattle.std.proofs.Common.{◌≡◌, OnOk, sym, subst}
use Rattle.dm_ast.specs.Declarations.{declaration_view}
use Rattle.dm_ast.specs.TypeTokens.{type_trees}
use Rattle.dm_print_types.specs.Laying.{lay}
use Rattle.dm_operators.specs.Heads.{returned}
use Rattle.dm_operators.specs.Table.{form_view}
use Rattle.dm_operator_heads.proofs.outputs.returned_type.Goals as goal

pub returns-in-Structural : goal.returns-in-Structural
returns-in-Structural c =
    subst (λ form. OnOk c.fixed.result (c.fixed.new.out ≡ lay c.args.out.now (type_trees (returned (form_view form) (declaration_view c.args.input.now)))))
    (sym c.in-Structural.is) c.fixed.ensures

pub returns-in-Scalar : goal.returns-in-Scalar
returns-in-Scalar c =
    subst (λ form. OnOk c.fixed-in-Scalar.result (c.fixed-in-Scalar.new.out ≡ lay c.args.out.now (type_trees (returned (form_view form) (declaration_view c.args.input.now)))))
    (sym c.in-Scalar.is) c.fixed-in-Scalar.ensures
