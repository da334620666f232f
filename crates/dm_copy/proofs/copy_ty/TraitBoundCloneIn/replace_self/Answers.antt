use Rattle.std.proofs.Common.{ap, option_copied}
use Rattle.dm_ast.specs.Tree.{trait_view}
use Rattle.dm_ast.proofs.View.{view-TraitBound}
use Rattle.dm_copy.specs.Segments.{own_segment}
use Rattle.dm_copy.specs.Replaced.{replaced_trait}
use Rattle.dm_copy.proofs.Copies.{shown_as}
use Rattle.dm_copy.proofs.Known.{both_known, listed_known}
use Rattle.dm_copy.proofs.copy_ty.TraitBoundCloneIn.replace_self.Goals as goal

pub returns : goal.returns
returns c =
    shown_as _ trait_view _ _ (ap (λ z. replaced_trait (own_segment (option_copied c.args.own)) z) (view-TraitBound c.args.self.now))
    (c.trait_of.ensures _ _ (both_known _ _ _ _ _ c.both-parts.ensures c.replace_self.ensures (listed_known _ _ c.clone_in.ensures)))
