use Rattle.std.proofs.Common.{refl, ap}
use Rattle.dm_stream.proofs.Trees.{flat-grown, unflatten-grown}
use Rattle.dm_stream.proofs.stream.TokenStream.push.Goals as goal
use Rattle.dm_stream.proofs.stream.TokenStream.push.Goals.{in-Ok, in-Err+in-Token}

pub invariant_of-self : goal.invariant_of-self
invariant_of-self c =
    elim c.match-push.branch [ in-Ok w ↦ flat-grown _ _ _ c.self.invariant refl w.in-Ok.ensures.items | in-Err+in-Token w ↦ rw w.in-Err.ensures.items c.self.invariant ]

pub returns-clause-pushed : goal.returns-clause-pushed
returns-clause-pushed c =
    elim c.match-push.branch [
      | in-Ok w ↦ rw w.result-is (unflatten-grown _ _ _ _ c.self.invariant w.in-Ok.ensures.items (ap (λ s. s.trees) c.self.view_is))
      | in-Err+in-Token w ↦ rw w.result-is tt
    ]
