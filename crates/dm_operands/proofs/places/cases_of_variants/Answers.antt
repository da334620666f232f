use Rattle.dm_operands.proofs.PlaceLaws.{marked_so, variant_refused, variant_passes, variant_added}
use Rattle.dm_operands.proofs.places.cases_of_variants.Goals as goal

pub returns-in-Err : goal.returns-in-Err
returns-in-Err c =
    variant_refused c.args.variants.now c.loop-variant.variant-index c.variant-item.result c.loop-variant-test.true c.variant-item.is c.in-Err.error
    c.loop-variant.invariant.0 c.in-Err.ensures

pub loop-variant-preserved : goal.loop-variant-preserved
loop-variant-preserved c =
    let all = c.args.variants.now in
    let i = c.loop-variant.variant-index in
    let x = c.variant-item.result in (
      variant_passes all i x c.loop-variant-test.true c.variant-item.is c.loop-variant.invariant.0 c.in-Ok.ensures.0,
      variant_added all i x c.loop-variant-test.true c.variant-item.is marked_so c.loop-variant.out.items c.add.new.out.items c.in-Ok.next c.in_ok-add-in-Ok.ensures
          c.in-Ok.ensures.1 c.loop-variant.invariant.1,
    )
