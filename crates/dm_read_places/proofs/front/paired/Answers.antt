-- Two puncts that are a sign.
use Rattle.std.proofs.Common.{ap, ◌∙◌}
use Rattle.dm_stream.specs.Cursors.{left}
use Rattle.dm_reread.specs.Next.{last_next}
use Rattle.dm_read_places.proofs.Seeing.{second_punct}
use Rattle.dm_read_places.proofs.front.paired.Goals as goal

pub returns-in_ok-pair-in-Alone-clause-gives : goal.returns-in_ok-pair-in-Alone-clause-gives
returns-in_ok-pair-in-Alone-clause-gives c =
    second_punct c.args.first (left c.args.c) (left c.in_ok-punct.rest) c.in_ok-punct.punct.now c.in_ok-punct.ensures.gives ∙
    ap (λ s. last_next s c.args.first c.in_ok-punct.punct.now.ch (left c.in_ok-punct.rest)) c.in-Alone.is ∙
    c.in_ok-pair-in-Alone.ensures (left c.in_ok-punct.rest)
