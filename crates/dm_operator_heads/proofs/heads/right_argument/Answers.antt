use Rattle.std.proofs.Common.{◌≡◌, OnOk, sym, subst}
use Rattle.dm_stream.specs.Layout.{nowhere}
use Rattle.dm_ast.specs.TypeTokens.{arguments_trees}
use Rattle.dm_print_types.specs.Laying.{lay}
use Rattle.dm_operators.specs.Predicates.{angled, right_argument}
use Rattle.dm_operators.specs.Table.{form_view}
use Rattle.dm_operator_heads.proofs.heads.right_argument.Goals as goal

pub returns-in-Scalar : goal.returns-in-Scalar
returns-in-Scalar c =
    subst (λ form. OnOk c.fixed.result (c.fixed.new.out ≡ lay c.args.out.now (arguments_trees nowhere (angled (right_argument (form_view form))))))
    (sym c.in-Scalar.is) c.fixed.ensures
