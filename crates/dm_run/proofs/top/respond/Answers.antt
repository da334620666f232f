use Rattle.std.proofs.Common.{Err, inr, subst, ◌∙◌}
use Rattle.dm_printed.specs.Derived.{Prints}
use Rattle.dm_run.proofs.top.respond.Goals as goal

-- the sink failed within the refusal's line
pub returns-in-Ok-refusal_line-clause-responds : goal.returns-in-Ok-refusal_line-clause-responds
returns-in-Ok-refusal_line-clause-responds g c = (
  c.as_bytes-in-Ok-refusal_line.result.now,
  inr (record {
    name = _;
    declaration = _;
    refusal = c.in-Err-Refused.refusal;
    split = c.in-Some.ensures;
    refused = subst (λ e. Prints c.in-Some.parts.0.now c.in-Some.parts.1.now (Err e)) c.in-Err-Refused.field-0-is c.in-Err-Refused.ensures.prints;
    told = c.as_bytes-in-Ok-refusal_line.ensures.value ∙ c.in-Ok-refusal_line.ensures;
  }),
  c.in-Err-write_all.ensures.front,
)
