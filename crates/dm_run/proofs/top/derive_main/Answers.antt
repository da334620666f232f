use Rattle.std.proofs.Common.{length, ap, subst, arith}
use Rattle.dm_run.specs.Sampled.{Sampled}
use Rattle.dm_run.proofs.RunLemmas.{told, complete}
use Rattle.dm_run.proofs.Sampling.{one_sample, usage-unknown}
use Rattle.dm_run.proofs.top.derive_main.Goals as goal

pub returns-in-empty-clause-told : goal.returns-in-empty-clause-told
returns-in-empty-clause-told g c = λ _. told _ _ _ _ c.run.result c.run.ensures.ran

pub returns-in-empty-clause-complete : goal.returns-in-empty-clause-complete
returns-in-empty-clause-complete g c = λ _. complete _ _ _ _ c.run.result c.run.ensures.ran

-- the words ask for one sample
pub returns-in-Some-clause-sampled : goal.returns-in-Some-clause-sampled
returns-in-Some-clause-sampled g c = λ n asked.
    subst (λ m. Sampled m (g.K.Sink.written c.args.sink.now) (g.K.Sink.written c.sample.new.sink) c.sample.result)
    (one_sample c.args.words.now n c.in-Some.n asked c.in-Some.ensures) c.sample.ensures.sampled

-- there are words, and they ask for none
pub returns-in-None-clause-usage : goal.returns-in-None-clause-usage
returns-in-None-clause-usage g c =
    usage-unknown c.args.words.now (λ empty. omega (arith, c.in_default.len_at_least, ap length empty)) c.in-None.ensures
