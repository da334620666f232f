use Rattle.std.proofs.Common.{◌≡◌, OnOk, map, sym, ◌∙◌, subst}
use Rattle.dm_ast.specs.Declarations.{declaration_view}
use Rattle.dm_print_types.specs.Laying.{lay}
use Rattle.dm_output.specs.Tokens.{expr_trees}
use Rattle.dm_operands.specs.CaseViews.{case_view}
use Rattle.dm_partial_eq.proofs.PrintLaws.{uncompared-body}
use Rattle.dm_partial_eq.proofs.printing.body.Goals as goal

pub returns : goal.returns
returns c =
    let vs = map case_view c.args.cases.now in
    subst (λ e. OnOk c.uncompared.result (c.uncompared.new.out ≡ lay c.args.out.now (expr_trees e)))
    (uncompared-body c.args.comparing (declaration_view c.args.input.now) vs (sym c.some_compared.ensures ∙ c.if-some_compared.false)) c.uncompared.ensures
