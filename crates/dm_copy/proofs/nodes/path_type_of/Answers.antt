use Rattle.std.proofs.Common.{◌≡◌, None, ap, ◌∙◌}
use Rattle.std.proofs.lemmas.Result.{IfOk-at_ok}
use Rattle.dm_ast.specs.Tree.{path, no_self, path_view}
use Rattle.dm_ast.proofs.View.{view_TyNode-Path}
use Rattle.dm_copy.proofs.nodes.path_type_of.Goals as goal

pub returns-in-Ok : goal.returns-in-Ok
returns-in-Ok c x known = view_TyNode-Path None c.in-Ok.path ∙ ap (λ z. path no_self z) (IfOk-at_ok (λ p. path_view p ≡ x) c.in-Ok.is known)
