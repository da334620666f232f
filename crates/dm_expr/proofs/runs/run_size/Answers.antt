use Rattle.std.proofs.Common.{◌≡◌, ◌+◌, ◌<◌, true, false, refl, ap, arith, ◌∙◌}
use Rattle.dm_stream.specs.Cursors.{left}
use Rattle.dm_stream.specs.Sizes.{size}
use Rattle.dm_expr.specs.Cuts.{run_from}
use Rattle.dm_expr.proofs.Running.{unit_positive, run-step, run-end, run-found, run-empty, behind_unit, passed-zero}
use Rattle.dm_expr.proofs.Reaching.{passes, reach_fits, none_behind}
use Rattle.dm_expr.specs.Reach.{reach}
use Rattle.dm_expr.specs.declared.units.Pairs.{Pairs}
use Rattle.dm_expr.proofs.runs.run_size.Goals as goal

pub loop-unit-smaller : goal.loop-unit-smaller
loop-unit-smaller c =
    let p : 0 < c.in-Some.more = unit_positive c.args.with_bars (left c.loop-unit.at) (left c.in-Some.rest) c.in-Some.unit c.in-Some.more c.in-Some.ensures.gives in
    let n : c.in-Some.more + size (left c.in-Some.rest) ≡ size (left c.loop-unit.at) = c.in-Some.ensures.counts in
    omega (arith, p, n)

pub loop-unit-preserved : goal.loop-unit-preserved
loop-unit-preserved c =
    let n : c.in-Some.more + size (left c.in-Some.rest) ≡ size (left c.loop-unit.at) = c.in-Some.ensures.counts in
    let b = behind_unit c.args.with_bars (left c.loop-unit.at) (left c.in-Some.rest) c.in-Some.unit c.in-Some.more c.in-Some.ensures.gives in
    record {
      place = record { is_sound = c.in-Some.ensures.place.is_sound; same_limit = c.in-Some.ensures.place.same_limit ∙ c.loop-unit.invariant.place.same_limit };
      reads = run-step c.args.with_bars (left c.args.c) (left c.loop-unit.at) (left c.in-Some.rest) c.in-Some.unit c.loop-unit.count c.in-Some.more c.loop-unit.invariant.reads c.in-Some.ensures.gives;
      counts = omega (arith, n, c.loop-unit.invariant.counts);
      last = passes false (left c.loop-unit.at) (left c.in-Some.rest) c.in-Some.more c.loop-unit.count c.after_unit-ends.result.last b c.after_unit-ends.ensures.last;
      last_before_sep = passes true (left c.loop-unit.at) (left c.in-Some.rest) c.in-Some.more c.loop-unit.count c.after_unit-ends.result.last_before_sep b c.after_unit-ends.ensures.last_before_sep;
    }

pub loop-unit-init : goal.loop-unit-init
loop-unit-init c = record {
  place = record { is_sound = c.requires; same_limit = refl };
  reads = passed-zero (run_from c.args.with_bars 0 (left c.args.c));
  counts = omega arith;
  last = reach_fits false (left c.args.c) c.len-most.result c.len-most.ensures.trees;
  last_before_sep = reach_fits true (left c.args.c) c.len-most.result c.len-most.ensures.trees;
}

pub len-most-requires : goal.len-most-requires
len-most-requires c = c.requires

pub unit_here-requires-clause-sound : goal.unit_here-requires-clause-sound
unit_here-requires-clause-sound c = c.loop-unit.invariant.place.is_sound

pub unit_here-requires-clause-none : goal.unit_here-requires-clause-none
unit_here-requires-clause-none c =
    none_behind c.behind.result.closed c.loop-unit.count c.loop-unit.ends.last (reach false (left c.loop-unit.at))
    (ap (λ (p : Pairs). p.closed) c.behind.ensures) c.loop-unit.invariant.last

pub unit_here-requires-clause-none_before_sep : goal.unit_here-requires-clause-none_before_sep
unit_here-requires-clause-none_before_sep c =
    none_behind c.behind.result.closed_before_sep c.loop-unit.count c.loop-unit.ends.last_before_sep (reach true (left c.loop-unit.at))
    (ap (λ (p : Pairs). p.closed_before_sep) c.behind.ensures) c.loop-unit.invariant.last_before_sep

pub after_unit-ends-requires-clause-sound : goal.after_unit-ends-requires-clause-sound
after_unit-ends-requires-clause-sound c = c.loop-unit.invariant.place.is_sound

pub after_unit-ends-requires-clause-fits : goal.after_unit-ends-requires-clause-fits
after_unit-ends-requires-clause-fits c = omega (arith, c.loop-unit.invariant.counts, c.len-most.ensures.trees, c.len-most.type_inv)

pub after_unit-ends-requires-clause-last : goal.after_unit-ends-requires-clause-last
after_unit-ends-requires-clause-last c = c.loop-unit.invariant.last

pub after_unit-ends-requires-clause-last_before_sep : goal.after_unit-ends-requires-clause-last_before_sep
after_unit-ends-requires-clause-last_before_sep c = c.loop-unit.invariant.last_before_sep

pub overflow_add-count : goal.overflow_add-count
overflow_add-count c =
    let n : c.in-Some.more + size (left c.in-Some.rest) ≡ size (left c.loop-unit.at) = c.in-Some.ensures.counts in
    omega (arith, n, c.loop-unit.invariant.counts, c.len-most.ensures.trees, c.len-most.type_inv)

pub returns-then-count-eq0-clause-gives : goal.returns-then-count-eq0-clause-gives
returns-then-count-eq0-clause-gives c =
    run-empty c.args.with_bars (left c.args.c) (left c.loop-unit.at) c.loop-unit.count
    (run-end c.args.with_bars (left c.args.c) (left c.loop-unit.at) c.loop-unit.count c.loop-unit.invariant.reads c.in_default.ensures.gives)
    c.if-count-eq0.true

pub returns-clause-gives : goal.returns-clause-gives
returns-clause-gives c =
    run-found c.args.with_bars (left c.args.c) (left c.loop-unit.at) c.loop-unit.count
    (run-end c.args.with_bars (left c.args.c) (left c.loop-unit.at) c.loop-unit.count c.loop-unit.invariant.reads c.in_default.ensures.gives)
    (omega (arith, c.if-count-eq0.false))

pub returns-clause-place : goal.returns-clause-place
returns-clause-place c = c.loop-unit.invariant.place
