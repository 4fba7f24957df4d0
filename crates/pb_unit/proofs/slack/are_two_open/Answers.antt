use Rattle.std.proofs.Common.{◌+◌, arith}
use Rattle.pb_unit.proofs.Easy.{room_next, room_part}
use Rattle.pb_unit.proofs.slack.are_two_open.Goals as goal

pub loop-lit-preserved : goal.loop-lit-preserved
loop-lit-preserved c =
    let next = room_next c.args.held.now.lits c.args.lits.now c.loop-lit.lit-index c.lit-item.result c.loop-lit-test.true c.lit-item.is in
    record {
      sum = omega (arith, next, c.loop-lit.invariant.sum, c.open_unit.ensures);
      few = omega (arith, c.if-open-gt1.false);
    }

pub returns-then-open-gt1 : goal.returns-then-open-gt1
returns-then-open-gt1 c = λ _.
    let next = room_next c.args.held.now.lits c.args.lits.now c.loop-lit.lit-index c.lit-item.result c.loop-lit-test.true c.lit-item.is in
    omega (arith, next, c.loop-lit.invariant.sum, c.open_unit.ensures, c.if-open-gt1.true, room_part c.args.held.now.lits c.args.lits.now (c.loop-lit.lit-index + 1))
