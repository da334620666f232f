use Rattle.std.proofs.Common.{refl}
use Rattle.dm_where_clauses.proofs.Needing.{declared_more, declared_all}
use Rattle.dm_where_clauses.proofs.needed.listed.Goals as goal

pub loop-one-preserved : goal.loop-one-preserved
loop-one-preserved c =
    λ a. declared_more a c.args.all.now c.loop-one.one-index c.one-item.result c.loop-one-test.true c.one-item.is c.loop-one.out.items c.add.new.out.items
    _ _ c.in_ok-add.ensures refl (c.loop-one.invariant a)

pub returns : goal.returns
returns c = λ a. declared_all a c.args.all.now c.loop-one.one-index c.loop-one-test.false c.loop-one.out.items _ (c.loop-one.invariant a)
