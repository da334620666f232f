-- A turn that goes on.
use Rattle.std.proofs.Common.{◌≡◌, ◌∙◌, ◌+◌, ◌-◌, map, Ok, sym, ap, subst}
use Rattle.dm_ast.specs.Readers.{◌next◌, repeat_from}
use Rattle.dm_read.specs.Stops.{begins_link, reads_link}
use Rattle.dm_read.proofs.Deciding.{pair}
use Rattle.dm_read.proofs.Loops.{map_added, repeat_next}
use Rattle.dm_input.proofs.list.continued.Goals as goal

pub loop-turn-preserved : goal.loop-turn-preserved
loop-turn-preserved g c =
    let inv = c.loop-turn.invariant in
    let w = c.args.input.now.at in
    let item = subst (λ v. (reads_link c.args.link v next g.R.Rule.reader c.args.rule.now v) c.loop-turn.input.trees ≡ Ok (pair (g.R.Rule.view c.in_ok-item.item) c.linked.new.input.trees)) inv.0 c.in_ok-item.ensures.0 in
    let added = map_added g.R.Rule.view c.loop-turn.items c.add.new.self c.in_ok-item.item c.in_ok-add.ensures.added in (
      c.in_ok-item.ensures.1 ∙ inv.0,
      repeat_next w (begins_link c.args.link) (reads_link c.args.link w next g.R.Rule.reader c.args.rule.now w) _ _ c.loop-turn._turn
          (map g.R.Rule.view c.loop-turn.items) c.loop-turn.input.trees c.loop-turn-test.true inv.1 (sym c.begins.ensures ∙ c.if-not-begins.false)
          (g.R.Rule.view c.in_ok-item.item) c.linked.new.input.trees item ∙
          ap (λ l. repeat_from w (begins_link c.args.link) (reads_link c.args.link w next g.R.Rule.reader c.args.rule.now w) (c.turns-turn-end.result - (c.loop-turn._turn + 1)) l c.linked.new.input.trees) (sym added),
    )
