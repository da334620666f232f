-- All that says what is read: the begin, the turns and the end of the list.
use Rattle.std.proofs.Common.{◌≡◌, ◌∙◌, ◌+◌, ◌-◌, map, length, [], true, false, Ok, Err, refl, sym, ap, subst, arith}
use Rattle.dm_stream.specs.Trees.{flatten}
use Rattle.dm_stream.specs.Cursors.{left}
use Rattle.dm_ast.specs.Readers.{place, Reads, Passes, read_punct, list_from, read_list}
use Rattle.dm_read.specs.Stops.{stops, list_view}
use Rattle.dm_read.proofs.Deciding.{pair}
use Rattle.dm_read.proofs.Loops.{map_added, place_same, passed, reads_passed, no_memory, refused_there, list_ends, list_refused, list_last, list_cut, list_next, list_out}
use Rattle.dm_read.proofs.list.listed.Goals as goal

pub loop-turn-init : goal.loop-turn-init
loop-turn-init g c = (
  record { is_sound = c.requires.here; same_limit = refl },
  let turns : length (flatten (left c.args.c)) + 1 ≡ c.len-turn-end.result + 1 - 0 = omega (arith, c.len-turn-end.ensures.entries) in
      ap (λ n. list_from (place c.args.level c.args.c) c.args.separator (stops c.args.stop) (g.R.Rule.reader c.args.rule.now (place c.args.level c.args.c)) n [] false (left c.args.c)) turns ∙
      ap (λ l. list_from (place c.args.level c.args.c) c.args.separator (stops c.args.stop) (g.R.Rule.reader c.args.rule.now (place c.args.level c.args.c)) (c.len-turn-end.result + 1 - 0) (map g.R.Rule.view l) false (left c.args.c)) (sym c.new-items.ensures),
)

pub returns-then-ends : goal.returns-then-ends
returns-then-ends g c =
    let inv = c.loop-turn.invariant in record {
      reads = list_ends (place c.args.level c.args.c) c.args.separator (stops c.args.stop) (g.R.Rule.reader c.args.rule.now (place c.args.level c.args.c)) _ _ c.loop-turn._turn
          (map g.R.Rule.view c.loop-turn.items) c.loop-turn.trailing (left c.loop-turn.rest) c.loop-turn-test.true inv.1 (sym c.ends.ensures ∙ c.if-ends.true);
      place = inv.0;
    }

pub returns-in_err-item-clause-reads : goal.returns-in_err-item-clause-reads
returns-in_err-item-clause-reads g c =
    let inv = c.loop-turn.invariant in
    let here = place_same c.args.level c.args.c c.loop-turn.rest inv.0.same_limit in
    let cut = subst (λ w. Reads g.R.Rule.view (g.R.Rule.reader c.args.rule.now w (left c.loop-turn.rest)) (Err c.in_err-item.field-0.0)) here c.in_err-item.ensures.reads in
    reads_passed (list_view g.R.Rule.view) g.R.Rule.view (read_list (place c.args.level c.args.c) c.args.separator (stops c.args.stop) (g.R.Rule.reader c.args.rule.now (place c.args.level c.args.c)) (left c.args.c))
    (g.R.Rule.reader c.args.rule.now (place c.args.level c.args.c) (left c.loop-turn.rest)) c.in_err-item.field-0.0 cut
    (λ r p.
    list_refused (place c.args.level c.args.c) c.args.separator (stops c.args.stop) (g.R.Rule.reader c.args.rule.now (place c.args.level c.args.c)) _ _ c.loop-turn._turn
    (map g.R.Rule.view c.loop-turn.items) c.loop-turn.trailing (left c.loop-turn.rest) c.loop-turn-test.true inv.1 (sym c.ends.ensures ∙ c.if-ends.false) r p)
    c.from_residual.result c.from_residual.ensures.1

pub returns-in_err-add-clause-reads : goal.returns-in_err-add-clause-reads
returns-in_err-add-clause-reads g c =
    no_memory (list_view g.R.Rule.view) (read_list (place c.args.level c.args.c) c.args.separator (stops c.args.stop) (g.R.Rule.reader c.args.rule.now (place c.args.level c.args.c)) (left c.args.c))
    c.from_residual-in_err-add.result c.from_residual-in_err-add.ensures.1

pub returns-then-not-sees : goal.returns-then-not-sees
returns-then-not-sees g c =
    let inv = c.loop-turn.invariant in
    let here = place_same c.args.level c.args.c c.loop-turn.rest inv.0.same_limit in
    let item = subst (λ w. g.R.Rule.reader c.args.rule.now w (left c.loop-turn.rest) ≡ Ok (pair (g.R.Rule.view c.in_ok-item.item) (left c.in_ok-item.next))) here c.in_ok-item.ensures.reads in
    let added = map_added g.R.Rule.view c.loop-turn.items c.add.new.self c.in_ok-item.item c.in_ok-add.ensures.added in record {
      reads = list_last (place c.args.level c.args.c) c.args.separator (stops c.args.stop) (g.R.Rule.reader c.args.rule.now (place c.args.level c.args.c)) _ _ c.loop-turn._turn
          (map g.R.Rule.view c.loop-turn.items) c.loop-turn.trailing (left c.loop-turn.rest) c.loop-turn-test.true inv.1 (sym c.ends.ensures ∙ c.if-ends.false)
          (g.R.Rule.view c.in_ok-item.item) (left c.in_ok-item.next) item (sym c.sees.ensures ∙ c.if-not-sees.true) ∙
          ap (λ l. Ok (pair (pair l false) (left c.in_ok-item.next))) (sym added);
      place = record {
        is_sound = c.in_ok-item.ensures.place.is_sound;
        same_limit = c.in_ok-item.ensures.place.same_limit ∙ inv.0.same_limit;
      };
    }

pub returns-in_err-rest-clause-reads : goal.returns-in_err-rest-clause-reads
returns-in_err-rest-clause-reads g c =
    let inv = c.loop-turn.invariant in
    let here = place_same c.args.level c.args.c c.loop-turn.rest inv.0.same_limit in
    let there = place_same c.args.level c.args.c c.in_ok-item.next (c.in_ok-item.ensures.place.same_limit ∙ inv.0.same_limit) in
    let item = subst (λ w. g.R.Rule.reader c.args.rule.now w (left c.loop-turn.rest) ≡ Ok (pair (g.R.Rule.view c.in_ok-item.item) (left c.in_ok-item.next))) here c.in_ok-item.ensures.reads in
    let cut = subst (λ w. Passes (read_punct c.args.separator w (left c.in_ok-item.next)) (Err c.in_err-rest.field-0.0)) there c.in_err-rest.ensures.reads in
    passed (list_view g.R.Rule.view)
    (read_list (place c.args.level c.args.c) c.args.separator (stops c.args.stop) (g.R.Rule.reader c.args.rule.now (place c.args.level c.args.c)) (left c.args.c))
    (read_punct c.args.separator (place c.args.level c.args.c) (left c.in_ok-item.next)) c.in_err-rest.field-0.0 cut
    (λ r p.
    list_cut (place c.args.level c.args.c) c.args.separator (stops c.args.stop) (g.R.Rule.reader c.args.rule.now (place c.args.level c.args.c)) _ _ c.loop-turn._turn
    (map g.R.Rule.view c.loop-turn.items) c.loop-turn.trailing (left c.loop-turn.rest) c.loop-turn-test.true inv.1 (sym c.ends.ensures ∙ c.if-ends.false)
    (g.R.Rule.view c.in_ok-item.item) (left c.in_ok-item.next) item (sym c.sees.ensures ∙ c.if-not-sees.false) r p)
    c.from_residual-in_err-rest.result c.from_residual-in_err-rest.ensures.1

pub loop-turn-preserved : goal.loop-turn-preserved
loop-turn-preserved g c =
    let inv = c.loop-turn.invariant in
    let here = place_same c.args.level c.args.c c.loop-turn.rest inv.0.same_limit in
    let there = place_same c.args.level c.args.c c.in_ok-item.next (c.in_ok-item.ensures.place.same_limit ∙ inv.0.same_limit) in
    let item = subst (λ w. g.R.Rule.reader c.args.rule.now w (left c.loop-turn.rest) ≡ Ok (pair (g.R.Rule.view c.in_ok-item.item) (left c.in_ok-item.next))) here c.in_ok-item.ensures.reads in
    let next = subst (λ w. read_punct c.args.separator w (left c.in_ok-item.next) ≡ Ok (tt, left c.in_ok-rest.rest)) there c.in_ok-rest.ensures.reads in
    let added = map_added g.R.Rule.view c.loop-turn.items c.add.new.self c.in_ok-item.item c.in_ok-add.ensures.added in (
      record {
        is_sound = c.in_ok-rest.ensures.place.is_sound;
        same_limit = c.in_ok-rest.ensures.place.same_limit ∙ c.in_ok-item.ensures.place.same_limit ∙ inv.0.same_limit;
      },
      list_next (place c.args.level c.args.c) c.args.separator (stops c.args.stop) (g.R.Rule.reader c.args.rule.now (place c.args.level c.args.c)) _ _ c.loop-turn._turn
          (map g.R.Rule.view c.loop-turn.items) c.loop-turn.trailing (left c.loop-turn.rest) c.loop-turn-test.true inv.1 (sym c.ends.ensures ∙ c.if-ends.false)
          (g.R.Rule.view c.in_ok-item.item) (left c.in_ok-item.next) item (sym c.sees.ensures ∙ c.if-not-sees.false) (left c.in_ok-rest.rest) next ∙
          ap (λ l. list_from (place c.args.level c.args.c) c.args.separator (stops c.args.stop) (g.R.Rule.reader c.args.rule.now (place c.args.level c.args.c)) (c.len-turn-end.result + 1 - (c.loop-turn._turn + 1)) l true (left c.in_ok-rest.rest))
          (sym added),
    )

pub returns : goal.returns
returns g c =
    let inv = c.loop-turn.invariant in record {
      reads = refused_there (list_view g.R.Rule.view) (read_list (place c.args.level c.args.c) c.args.separator (stops c.args.stop) (g.R.Rule.reader c.args.rule.now (place c.args.level c.args.c)) (left c.args.c))
          c.args.level c.args.c c.loop-turn.rest c.refused.result
          (list_out (place c.args.level c.args.c) c.args.separator (stops c.args.stop) (g.R.Rule.reader c.args.rule.now (place c.args.level c.args.c)) _ _ c.loop-turn._turn
          (map g.R.Rule.view c.loop-turn.items) c.loop-turn.trailing (left c.loop-turn.rest) c.loop-turn-test.false inv.1)
          inv.0.same_limit c.refused.ensures;
      place = tt;
    }
