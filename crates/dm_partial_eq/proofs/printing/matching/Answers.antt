use Rattle.std.proofs.Common.{map, ap, ◌∙◌}
use Rattle.dm_stream.specs.declared.tokens.Delim.TheVariants.{Brace}
use Rattle.dm_stream.specs.Layout.{Laid}
use Rattle.dm_ast.specs.Declarations.{declaration_view}
use Rattle.dm_print_types.specs.Laying.{lay, begun, done}
use Rattle.dm_output.specs.Output.{arms_of}
use Rattle.dm_output.specs.Tokens.{expr_trees, arms_trees}
use Rattle.dm_operands.specs.CaseViews.{case_view}
use Rattle.dm_partial_eq.specs.Emitted.{arms, both, rest}
use Rattle.dm_layout.proofs.Fixing.{on-ok}
use Rattle.dm_partial_eq.proofs.printing.matching.Goals as goal

pub returns : goal.returns
returns c =
    let vs = map case_view c.args.cases.now in
    let all = arms_trees (arms_of (arms c.args.comparing (declaration_view c.args.input.now) vs (rest c.args.comparing vs))) in
    let operands = c.in_ok-subject.ensures ∙ ap (λ (l : Laid). lay l (expr_trees both)) c.in_ok-word.ensures in
    let inside = c.in_ok-arms.ensures ∙ ap (λ (l : Laid). lay l all) (c.in_ok-open.ensures ∙ ap (λ (l : Laid). begun l Brace) operands) in
    on-ok c.close.result (λ e. e ∙ ap (λ (l : Laid). done l Brace) inside) c.close.ensures
