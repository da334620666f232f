use Rattle.std.proofs.Common.{◌≡◌}
use Rattle.std.proofs.lemmas.Result.{IfOk-at_ok}
use Rattle.dm_ast.specs.Tree.{self_view, path_view}
use Rattle.dm_copy.proofs.Replacing.{qualified}
use Rattle.dm_copy.proofs.nodes.qualified_of.Goals as goal

pub returns-in-Ok : goal.returns-in-Ok
returns-in-Ok c x y known =
    let k = IfOk-at_ok (λ p. (self_view p.0.value ≡ x) × (path_view p.1 ≡ y)) c.in-Ok.is known in
    qualified c.in-Ok.qself c.in-Ok.path x y k.0 k.1
