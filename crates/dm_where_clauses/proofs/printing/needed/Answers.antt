use Rattle.std.proofs.Common.{ap, ◌∙◌}
use Rattle.dm_stream.specs.Layout.{Laid, nowhere}
use Rattle.dm_ast.specs.Tree.{ty_view}
use Rattle.dm_ast.specs.TypeTokens.{path_trees}
use Rattle.dm_layout.proofs.Fixing.{on-ok}
use Rattle.dm_output.specs.Tokens.{colon}
use Rattle.dm_print_types.specs.Laying.{lay}
use Rattle.dm_where_clauses.proofs.ClauseSteps.{bounded-laid}
use Rattle.dm_where_clauses.proofs.printing.needed.Goals as goal

pub returns : goal.returns
returns g c =
    let t = ty_view c.args.of.now in
    let p = (g.A.Asks.asking c.args.asks.now).path t in
    on-ok c.print_path.result
    (λ e. e ∙ ap (λ (l : Laid). lay l (path_trees nowhere p)) (c.in_ok-punct.ensures ∙ ap (λ (l : Laid). lay l colon) c.in_ok-ty.ensures) ∙
    bounded-laid c.args.out.now p t) c.print_path.ensures
