-- All that says what is read: the begin, the turns and the end of the chain.
use Rattle.std.proofs.Common.{◌≡◌, ◌∙◌, ◌+◌, ◌-◌, map, length, Ok, Err, refl, sym, ap, subst, arith}
use Rattle.dm_stream.specs.Trees.{flatten}
use Rattle.dm_stream.specs.Cursors.{left}
use Rattle.dm_ast.specs.Readers.{place, Reads, ◌next◌, repeat_from, read_repeated}
use Rattle.dm_read.specs.Stops.{begins_link, reads_link}
use Rattle.dm_read.proofs.Deciding.{pair}
use Rattle.dm_read.proofs.Loops.{map_added, place_same, reads_passed, no_memory, refused_there, repeat_ends, repeat_refused, repeat_next, repeat_out}
use Rattle.dm_read.proofs.list.continued.Goals as goal

pub loop-turn-init : goal.loop-turn-init
loop-turn-init g c = (
  record { is_sound = c.requires.here; same_limit = refl },
  let turns : length (flatten (left c.args.c)) + 1 ≡ c.len-turn-end.result + 1 - 0 = omega (arith, c.len-turn-end.ensures.entries) in
      ap (λ n. repeat_from (place c.args.level c.args.c) (begins_link c.args.link) (reads_link c.args.link (place c.args.level c.args.c) next g.R.Rule.reader c.args.rule.now (place c.args.level c.args.c)) n (map g.R.Rule.view c.args.begun) (left c.args.c)) turns,
)

pub returns-then-not-begins : goal.returns-then-not-begins
returns-then-not-begins g c =
    let inv = c.loop-turn.invariant in record {
      reads = repeat_ends (place c.args.level c.args.c) (begins_link c.args.link) (reads_link c.args.link (place c.args.level c.args.c) next g.R.Rule.reader c.args.rule.now (place c.args.level c.args.c)) _ _ c.loop-turn._turn
          (map g.R.Rule.view c.loop-turn.items) (left c.loop-turn.rest) c.loop-turn-test.true inv.1 (sym c.begins.ensures ∙ c.if-not-begins.true);
      place = inv.0;
    }

pub returns-in_err-item-clause-reads : goal.returns-in_err-item-clause-reads
returns-in_err-item-clause-reads g c =
    let inv = c.loop-turn.invariant in
    let here = place_same c.args.level c.args.c c.loop-turn.rest inv.0.same_limit in
    let cut = subst (λ w. Reads g.R.Rule.view ((reads_link c.args.link w next g.R.Rule.reader c.args.rule.now w) (left c.loop-turn.rest)) (Err c.in_err-item.field-0.0)) here c.in_err-item.ensures.reads in
    reads_passed (map g.R.Rule.view) g.R.Rule.view (read_repeated (place c.args.level c.args.c) (begins_link c.args.link) (reads_link c.args.link (place c.args.level c.args.c) next g.R.Rule.reader c.args.rule.now (place c.args.level c.args.c)) (map g.R.Rule.view c.args.begun) (left c.args.c))
    ((reads_link c.args.link (place c.args.level c.args.c) next g.R.Rule.reader c.args.rule.now (place c.args.level c.args.c)) (left c.loop-turn.rest)) c.in_err-item.field-0.0 cut
    (λ r p.
    repeat_refused (place c.args.level c.args.c) (begins_link c.args.link) (reads_link c.args.link (place c.args.level c.args.c) next g.R.Rule.reader c.args.rule.now (place c.args.level c.args.c)) _ _ c.loop-turn._turn
    (map g.R.Rule.view c.loop-turn.items) (left c.loop-turn.rest) c.loop-turn-test.true inv.1 (sym c.begins.ensures ∙ c.if-not-begins.false) r p)
    c.from_residual.result c.from_residual.ensures.1

pub returns-in_err-add-clause-reads : goal.returns-in_err-add-clause-reads
returns-in_err-add-clause-reads g c =
    no_memory (map g.R.Rule.view) (read_repeated (place c.args.level c.args.c) (begins_link c.args.link) (reads_link c.args.link (place c.args.level c.args.c) next g.R.Rule.reader c.args.rule.now (place c.args.level c.args.c)) (map g.R.Rule.view c.args.begun) (left c.args.c))
    c.from_residual-in_err-add.result c.from_residual-in_err-add.ensures.1

pub loop-turn-preserved : goal.loop-turn-preserved
loop-turn-preserved g c =
    let inv = c.loop-turn.invariant in
    let here = place_same c.args.level c.args.c c.loop-turn.rest inv.0.same_limit in
    let item = subst (λ w. (reads_link c.args.link w next g.R.Rule.reader c.args.rule.now w) (left c.loop-turn.rest) ≡ Ok (pair (g.R.Rule.view c.in_ok-item.item) (left c.in_ok-item.next))) here c.in_ok-item.ensures.reads in
    let added = map_added g.R.Rule.view c.loop-turn.items c.add.new.self c.in_ok-item.item c.in_ok-add.ensures.added in (
      record {
        is_sound = c.in_ok-item.ensures.place.is_sound;
        same_limit = c.in_ok-item.ensures.place.same_limit ∙ inv.0.same_limit;
      },
      repeat_next (place c.args.level c.args.c) (begins_link c.args.link) (reads_link c.args.link (place c.args.level c.args.c) next g.R.Rule.reader c.args.rule.now (place c.args.level c.args.c)) _ _ c.loop-turn._turn
          (map g.R.Rule.view c.loop-turn.items) (left c.loop-turn.rest) c.loop-turn-test.true inv.1 (sym c.begins.ensures ∙ c.if-not-begins.false)
          (g.R.Rule.view c.in_ok-item.item) (left c.in_ok-item.next) item ∙
          ap (λ l. repeat_from (place c.args.level c.args.c) (begins_link c.args.link) (reads_link c.args.link (place c.args.level c.args.c) next g.R.Rule.reader c.args.rule.now (place c.args.level c.args.c)) (c.len-turn-end.result + 1 - (c.loop-turn._turn + 1)) l (left c.in_ok-item.next))
          (sym added),
    )

pub returns : goal.returns
returns g c =
    let inv = c.loop-turn.invariant in record {
      reads = refused_there (map g.R.Rule.view) (read_repeated (place c.args.level c.args.c) (begins_link c.args.link) (reads_link c.args.link (place c.args.level c.args.c) next g.R.Rule.reader c.args.rule.now (place c.args.level c.args.c)) (map g.R.Rule.view c.args.begun) (left c.args.c))
          c.args.level c.args.c c.loop-turn.rest c.refused.result
          (repeat_out (place c.args.level c.args.c) (begins_link c.args.link) (reads_link c.args.link (place c.args.level c.args.c) next g.R.Rule.reader c.args.rule.now (place c.args.level c.args.c)) _ _ c.loop-turn._turn
          (map g.R.Rule.view c.loop-turn.items) (left c.loop-turn.rest) c.loop-turn-test.false inv.1)
          inv.0.same_limit c.refused.ensures;
      place = tt;
    }
