use Rattle.std.proofs.Common.{◌≡◌, ap₂, ◌∙◌}
use Rattle.std.proofs.lemmas.Result.{IfOk-at_ok}
use Rattle.dm_ast.specs.Tree.{array, ty_view}
use Rattle.dm_ast.proofs.View.{view_TyNode-Array}
use Rattle.dm_copy.proofs.nodes.array_of.Goals as goal

pub returns-in-Ok : goal.returns-in-Ok
returns-in-Ok c x known =
    let parts = IfOk-at_ok _ c.in-Ok.is c.both.ensures in
    let made = IfOk-at_ok _ parts.0 c.boxed.ensures in
    view_TyNode-Array c.in-Ok.inner c.in-Ok.size ∙
    ap₂ (λ y z. array y z) (IfOk-at_ok (λ p. ty_view p ≡ x) made known) (IfOk-at_ok _ parts.1 c.clone_in.ensures)
