use Rattle.std.proofs.Common.{arith, take}
use Rattle.pb_database.specs.inner.Indexed.{IsNaming}
use Rattle.pb_database.proofs.Least.{least_none, least_next, least_all, named_first}
use Rattle.pb_database.proofs.database.Database.naming.Goals as goal

pub ids_of-id-items-requires : goal.ids_of-id-items-requires
ids_of-id-items-requires c = omega (arith, c.if-index-original.false, c.index.ensures.value, c.original.ensures)

pub loop-id-init : goal.loop-id-init
loop-id-init c = least_none (IsNaming c.args.self.now.live c.args.var c.args.from) c.ids_of-id-items.result.now

pub loop-id-preserved : goal.loop-id-preserved
loop-id-preserved c =
    let ids = c.ids_of-id-items.result.now in
    least_next (IsNaming c.args.self.now.live c.args.var c.args.from) ids c.loop-id.id-index c.earlier_naming-best.result c.loop-id-test.true (c.earlier_naming-best.ensures (take c.loop-id.id-index ids) c.loop-id.invariant)

pub returns : goal.returns
returns c =
    let ids = c.ids_of-id-items.result.now in
    named_first c.args.self.now c.args.var c.args.from ids c.loop-id.best c.ids_of-id-items.ensures (least_all (IsNaming c.args.self.now.live c.args.var c.args.from) ids c.loop-id.id-index c.loop-id.best c.loop-id-test.false c.loop-id.invariant)
