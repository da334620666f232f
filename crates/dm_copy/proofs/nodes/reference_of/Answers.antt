use Rattle.std.proofs.Common.{◌≡◌, ap₂, ◌∙◌}
use Rattle.std.proofs.lemmas.Result.{IfOk-at_ok}
use Rattle.dm_ast.specs.Tree.{reference, ty_view}
use Rattle.dm_ast.proofs.View.{view_TyNode-Reference}
use Rattle.dm_copy.proofs.Copies.{same_option}
use Rattle.dm_copy.proofs.nodes.reference_of.Goals as goal

pub returns-in-Ok : goal.returns-in-Ok
returns-in-Ok c x known =
    let parts = IfOk-at_ok _ c.in-Ok.is c.both.ensures in
    let made = IfOk-at_ok _ parts.0 c.boxed.ensures in
    view_TyNode-Reference c.in-Ok.name c.args.is_mut c.in-Ok.inner ∙
    ap₂ (λ y z. reference z c.args.is_mut y) (IfOk-at_ok (λ p. ty_view p ≡ x) made known)
    (same_option _ _ (IfOk-at_ok _ parts.1 c.clone_in.ensures))
