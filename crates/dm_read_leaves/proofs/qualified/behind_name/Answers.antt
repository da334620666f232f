-- Three tokens that are `::` and a name, or aren't.
use Rattle.std.proofs.Common.{sym}
use Rattle.dm_stream.specs.Cursors.{left}
use Rattle.dm_read_leaves.proofs.PathSteps.{a_name_more, no_name_more, three_size}
use Rattle.dm_read_leaves.proofs.qualified.behind_name.Goals as goal

pub returns-then-not-is_separator-clause-gives : goal.returns-then-not-is_separator-clause-gives
returns-then-not-is_separator-clause-gives c =
    no_name_more (left c.args.c) (left c.in_ok-first.rest) (left c.in_ok-second.rest) (left c.in_ok-rest.rest) c.in_ok-first.first.now
    c.in_ok-second.second.now c.in_ok-rest.field-0-0.now c.in_ok-first.ensures.gives c.in_ok-second.ensures.gives c.in_ok-rest.ensures.gives
    (sym c.if-not-is_separator.ensures)

pub returns-clause-gives : goal.returns-clause-gives
returns-clause-gives c =
    a_name_more (left c.args.c) (left c.in_ok-first.rest) (left c.in_ok-second.rest) (left c.in_ok-rest.rest) c.in_ok-first.first.now
    c.in_ok-second.second.now c.in_ok-rest.field-0-0.now c.in_ok-first.ensures.gives c.in_ok-second.ensures.gives c.in_ok-rest.ensures.gives
    (sym c.if-not-is_separator.ensures)

pub returns-clause-counts : goal.returns-clause-counts
returns-clause-counts c =
    three_size (left c.args.c) (left c.in_ok-first.rest) (left c.in_ok-second.rest) (left c.in_ok-rest.rest) c.in_ok-first.first.now
    c.in_ok-second.second.now c.in_ok-rest.field-0-0.now c.in_ok-first.ensures.gives c.in_ok-second.ensures.gives c.in_ok-rest.ensures.gives
