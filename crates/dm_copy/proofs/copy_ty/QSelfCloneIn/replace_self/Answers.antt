use Rattle.std.proofs.Common.{ℕ, ap, option_copied}
use Rattle.dm_ast.specs.Tree.{TypeTree, self_view}
use Rattle.dm_ast.proofs.View.{view-QSelf}
use Rattle.dm_copy.specs.Segments.{own_segment}
use Rattle.dm_copy.specs.Replaced.{replaced_type}
use Rattle.dm_copy.proofs.Copies.{shown_as}
use Rattle.dm_copy.proofs.copy_ty.QSelfCloneIn.replace_self.Goals as goal

pub returns : goal.returns
returns c =
    shown_as _ self_view _ _ (ap (λ (q : TypeTree × ℕ). (replaced_type (own_segment (option_copied c.args.own)) q.0, q.1)) (view-QSelf c.args.self.now))
    (c.qself_of.ensures _ c.replace_self.ensures)
