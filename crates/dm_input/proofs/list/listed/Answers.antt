-- The end of the list, a turn that goes on, and what is refused.
use Rattle.std.proofs.Common.{◌≡◌, ◌∙◌, ◌+◌, ◌-◌, map, true, Ok, sym, ap, subst}
use Rattle.dm_ast.specs.Readers.{read_punct, list_from}
use Rattle.dm_read.proofs.Deciding.{pair}
use Rattle.dm_read.specs.Stops.{stops}
use Rattle.dm_read.proofs.Loops.{map_added, list_ends, list_next}
use Rattle.dm_input.proofs.list.listed.Goals as goal

pub returns-then-ends : goal.returns-then-ends
returns-then-ends g c =
    let inv = c.loop-turn.invariant in (
      list_ends c.args.input.now.at c.args.separator (stops c.args.stop) (g.R.Rule.reader c.args.rule.now c.args.input.now.at) _ _ c.loop-turn._turn
          (map g.R.Rule.view c.loop-turn.items) c.loop-turn.trailing c.loop-turn.input.trees c.loop-turn-test.true inv.1 (sym c.ends.ensures ∙ c.if-ends.true),
      inv.0,
    )

pub loop-turn-preserved : goal.loop-turn-preserved
loop-turn-preserved g c =
    let inv = c.loop-turn.invariant in
    let w = c.args.input.now.at in
    let there = c.in_ok-item.ensures.1 ∙ inv.0 in
    let item = subst (λ v. g.R.Rule.reader c.args.rule.now v c.loop-turn.input.trees ≡ Ok (pair (g.R.Rule.view c.in_ok-item.item) c.read.new.input.trees)) inv.0 c.in_ok-item.ensures.0 in
    let next = subst (λ v. read_punct c.args.separator v c.read.new.input.trees ≡ Ok (tt, c.punct.new.self.trees)) there c.in_ok-punct.ensures.reads.0 in
    let added = map_added g.R.Rule.view c.loop-turn.items c.add.new.self c.in_ok-item.item c.in_ok-add.ensures.added in (
      c.in_ok-punct.ensures.reads.1 ∙ there,
      list_next w c.args.separator (stops c.args.stop) (g.R.Rule.reader c.args.rule.now w) _ _ c.loop-turn._turn (map g.R.Rule.view c.loop-turn.items)
          c.loop-turn.trailing c.loop-turn.input.trees c.loop-turn-test.true inv.1 (sym c.ends.ensures ∙ c.if-ends.false)
          (g.R.Rule.view c.in_ok-item.item) c.read.new.input.trees item (sym c.sees.ensures ∙ c.if-not-sees.false) c.punct.new.self.trees next ∙
          ap (λ l. list_from w c.args.separator (stops c.args.stop) (g.R.Rule.reader c.args.rule.now w) (c.turns-turn-end.result - (c.loop-turn._turn + 1)) l true c.punct.new.self.trees) (sym added),
    )
