use Rattle.std.proofs.Common.{ap, refl}
use Rattle.dm_stream.proofs.Trees.{flat-result, unflatten-result}
use Rattle.dm_stream.proofs.stream.TokenStream.extend.Goals as goal

pub invariant_of-self : goal.invariant_of-self
invariant_of-self c =
    flat-result _ _ _ _ c.self.invariant c.requires c.append_copies.ensures.ok c.append_copies.ensures.err

pub returns-clause-pushed : goal.returns-clause-pushed
returns-clause-pushed c =
    unflatten-result _ _ _ _ _ _ c.self.invariant c.append_copies.ensures.ok (ap (λ s. s.trees) c.self.view_is) refl
