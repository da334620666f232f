use Rattle.std.proofs.Common.{drop, ap, ◌∙◌}
use Rattle.dm_run.proofs.Ending.{ended}
use Rattle.dm_run.proofs.ended.ended_run.Goals as goal

-- the words are there
pub returns-in-Ok : goal.returns-in-Ok
returns-in-Ok g c =
    let run = c.derive_main.ensures in
    ended _ c.in-Ok.words c.after_name.result.now _ _ _ _ _ _ _ c.derive_main.result c.in-Ok.is
    (c.after_name.ensures ∙ ap (drop 1) c.deref.ensures.value) c.code_of.ensures (record {
      usage = run.usage;
      idle = run.idle;
      silent = run.silent;
      ran = run.ran;
      turns = run.turns;
      offers = run.offers;
      told = run.told;
      complete = run.complete;
      sampled = run.sampled;
      unread = run.unread;
      read = run.read;
      write = run.write;
    })
