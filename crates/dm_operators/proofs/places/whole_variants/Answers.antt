use Rattle.dm_operands.proofs.PlaceLaws.{variant_added}
use Rattle.dm_operators.specs.Attributes.{keeps_all}
use Rattle.dm_operators.specs.Plans.{opened}
use Rattle.dm_operators.proofs.places.whole_variants.Goals as goal

pub loop-variant-preserved : goal.loop-variant-preserved
loop-variant-preserved c =
    variant_added c.args.variants.now c.loop-variant.variant-index c.variant-item.result c.loop-variant-test.true c.variant-item.is (opened keeps_all)
    c.loop-variant.out.items c.add.new.out.items c.in-Ok.next c.in_ok-add-in-Ok.ensures c.in-Ok.ensures.1 c.loop-variant.invariant
