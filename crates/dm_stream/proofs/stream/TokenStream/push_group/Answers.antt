use Rattle.std.proofs.Common.{refl, ap, ◌∙◌}
use Rattle.dm_stream.specs.Trees.{group, no_trees}
use Rattle.dm_stream.proofs.Trees.{flat-result, unflatten-result, flat-group, unflatten-group}
use Rattle.dm_stream.specs.Layout.{nowhere}
use Rattle.dm_stream.proofs.stream.TokenStream.push_group.Goals as goal

pub invariant_of-self : goal.invariant_of-self
invariant_of-self c =
    flat-result _ _ _ _ c.self.invariant (flat-group _ _ _ _ _ c.inner.invariant refl) c.append_group.ensures.ok c.append_group.ensures.err

pub returns-clause-pushed : goal.returns-clause-pushed
returns-clause-pushed c =
    unflatten-result _ _ _ _ _ _ c.self.invariant c.append_group.ensures.ok (ap (λ s. s.trees) c.self.view_is)
    (unflatten-group _ _ _ 0 _ c.inner.invariant ∙ ap (λ s. group c.args.delim nowhere s.trees nowhere no_trees) c.inner.view_is)
