use Rattle.std.proofs.Common.{IfOk, string_bytes, subst, ◌∙◌}
use Rattle.dm_run.specs.Sampled.{AreLines, derived_names}
use Rattle.dm_run.proofs.summary.sample_lines.Goals as goal

pub returns : goal.returns
returns c =
    subst (λ text. IfOk c.answers.result (λ lines. AreLines derived_names text (string_bytes lines))) (c.as_str.ensures.value ∙ c.in_ok-text.ensures)
    c.answers.ensures
