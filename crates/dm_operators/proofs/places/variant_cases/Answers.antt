use Rattle.dm_operands.proofs.PlaceLaws.{variant_added}
use Rattle.dm_operators.specs.Attributes.{skipped_under}
use Rattle.dm_operators.specs.Table.{operator_view}
use Rattle.dm_operators.specs.Plans.{opened}
use Rattle.dm_operators.proofs.WalkLaws.{variant_refused, variant_passes}
use Rattle.dm_operators.proofs.places.variant_cases.Goals as goal

pub returns-in-Err : goal.returns-in-Err
returns-in-Err c =
    variant_refused c.args.variants.now c.loop-variant.variant-index c.variant-item.result c.loop-variant-test.true c.variant-item.is
    (operator_view c.args.operator.now) c.in-Err.error c.loop-variant.invariant.0 c.in-Err.ensures

pub loop-variant-preserved : goal.loop-variant-preserved
loop-variant-preserved c =
    let all = c.args.variants.now in
    let i = c.loop-variant.variant-index in
    let x = c.variant-item.result in
    let o = operator_view c.args.operator.now in (
      variant_passes all i x c.loop-variant-test.true c.variant-item.is o c.loop-variant.invariant.0 c.in-Ok.ensures.0,
      variant_added all i x c.loop-variant-test.true c.variant-item.is (opened (skipped_under o.method)) c.loop-variant.out.items c.add.new.out.items
          c.in-Ok.next c.in_ok-add-in-Ok.ensures c.in-Ok.ensures.1 c.loop-variant.invariant.1,
    )
