use Rattle.std.proofs.Common.{◌≡◌, OnOk, map, cond, eqb, sym, ap, ◌∙◌, subst}
use Rattle.std.proofs.lemmas.List.{length-map}
use Rattle.dm_ast.specs.Declarations.{declaration_view}
use Rattle.dm_print_types.specs.Laying.{lay}
use Rattle.dm_output.specs.Output.{bool}
use Rattle.dm_output.specs.Tokens.{expr_trees}
use Rattle.dm_operands.specs.Bodies.{no_match}
use Rattle.dm_operands.specs.CaseViews.{case_view}
use Rattle.dm_partial_eq.specs.Emitted.{neutral_of, discriminants, needs_discriminants}
use Rattle.dm_partial_eq.proofs.printing.uncompared.Goals as goal

pub returns-then-is_empty : goal.returns-then-is_empty
returns-then-is_empty c =
    let way = c.args.comparing in
    let other = cond (needs_discriminants (declaration_view c.args.input.now) (map case_view c.args.cases.now)) (discriminants way) (bool (neutral_of way)) in
    subst (λ b. OnOk c.fixed.result (c.fixed.new.out ≡ lay c.args.out.now (expr_trees (cond b no_match other))))
    (sym (ap (λ n. eqb n 0) (length-map c.args.cases.now case_view) ∙ (sym c.is_empty.ensures ∙ c.if-is_empty.true))) c.fixed.ensures
