use Rattle.std.proofs.Common.{◌≡◌, ◌+◌, ◌∷◌, List, map, drop, sym, ap, ◌∙◌}
use Rattle.std.proofs.lemmas.List.{drop_more}
use Rattle.dm_stream.specs.Layout.{Laid}
use Rattle.dm_print_types.specs.Laying.{lay}
use Rattle.dm_output.specs.Output.{stmts_of}
use Rattle.dm_output.specs.Tokens.{stmts_trees}
use Rattle.dm_operands.specs.declared.cases.FieldRef.{FieldRef}
use Rattle.dm_operands.specs.CaseViews.{field_ref_view}
use Rattle.dm_operators.specs.Bodies.{assigning_calls}
use Rattle.dm_operators.specs.Table.{form_view, operator_view}
use Rattle.dm_operator_prints.proofs.Values.{calls-laid}
use Rattle.dm_operator_prints.proofs.arms.calls.Goals as goal

pub loop-n-preserved : goal.loop-n-preserved
loop-n-preserved c =
    let i = c.args.implemented.now in
    let all = c.args.fields.now in
    let field = c.index-fields-n.result in
    let n = c.loop-n.n in
    let behind = map field_ref_view (drop (n + 1) all) in
    let left : drop n all ≡ field ∷ drop (n + 1) all =
    drop_more all n field c.loop-n-test.true ∙ ap (λ (f : FieldRef). f ∷ drop (n + 1) all) (sym c.index-fields-n.is) in
    ap (λ (l : Laid). lay l (stmts_trees (stmts_of (assigning_calls (form_view i.form) (operator_view i.operator) (n + 1) behind)))) c.in_ok-call.ensures ∙
    calls-laid c.loop-n.out (form_view i.form) (operator_view i.operator) n (field_ref_view field) behind ∙
    ap (λ (fs : List FieldRef). lay c.loop-n.out (stmts_trees (stmts_of (assigning_calls (form_view i.form) (operator_view i.operator) n (map field_ref_view fs))))) (sym left) ∙
    c.loop-n.invariant
