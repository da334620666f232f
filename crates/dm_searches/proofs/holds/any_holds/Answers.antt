use Rattle.std.proofs.Common.{refl, ap, ◌∙◌}
use Rattle.std.specs.List.{list_any}
use Rattle.dm_searches.proofs.Steps.{found, goes_on, not_found}
use Rattle.dm_searches.proofs.holds.any_holds.Goals as goal

pub loop-item-init : goal.loop-item-init
loop-item-init g c = refl

pub returns-then-holds : goal.returns-then-holds
returns-then-holds g c =
    found (g.T.Holds.held c.args.sought) (list_any (g.T.Holds.held c.args.sought)) (λ y ys. refl) c.as_slice-item-items.result.now c.item-item.result
    c.loop-item.item-index c.loop-item-test.true c.item-item.is c.loop-item.invariant c.if-holds.ensures ∙
    ap (list_any (g.T.Holds.held c.args.sought)) c.as_slice-item-items.ensures

pub loop-item-preserved : goal.loop-item-preserved
loop-item-preserved g c =
    goes_on (g.T.Holds.held c.args.sought) (list_any (g.T.Holds.held c.args.sought)) (λ y ys. refl) c.as_slice-item-items.result.now c.item-item.result
    c.loop-item.item-index c.loop-item-test.true c.item-item.is c.loop-item.invariant c.if-holds.ensures

pub returns : goal.returns
returns g c =
    not_found (list_any (g.T.Holds.held c.args.sought)) c.as_slice-item-items.result.now c.loop-item.item-index c.loop-item-test.false refl
    c.loop-item.invariant ∙ ap (list_any (g.T.Holds.held c.args.sought)) c.as_slice-item-items.ensures
