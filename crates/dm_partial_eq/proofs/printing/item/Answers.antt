use Rattle.std.proofs.Common.{map, ap, ◌∙◌}
use Rattle.dm_stream.specs.declared.tokens.Delim.TheVariants.{Brace}
use Rattle.dm_stream.specs.Layout.{Laid}
use Rattle.dm_ast.specs.Declarations.{declaration_view}
use Rattle.dm_print_types.specs.Laying.{lay, begun, done}
use Rattle.dm_output.specs.Tokens.{in_turn, method_trees}
use Rattle.dm_operands.specs.CaseViews.{case_view}
use Rattle.dm_partial_eq.specs.Emitted.{methods}
use Rattle.dm_layout.proofs.Fixing.{on-ok}
use Rattle.dm_partial_eq.proofs.PrintLaws.{item-laid}
use Rattle.dm_partial_eq.proofs.printing.item.Goals as goal

pub returns : goal.returns
returns c =
    let d = declaration_view c.args.input.now in
    let vs = map case_view c.args.cases.now in
    let inside = c.in_ok-methods.ensures ∙ ap (λ (l : Laid). lay l (in_turn (map method_trees (methods d vs)))) (c.in_ok-open.ensures ∙ ap (λ (l : Laid). begun l Brace) c.in_ok-item_head.ensures) in
    on-ok c.close.result (λ e. e ∙ ap (λ (l : Laid). done l Brace) inside ∙ item-laid c.args.out.now d vs) c.close.ensures
