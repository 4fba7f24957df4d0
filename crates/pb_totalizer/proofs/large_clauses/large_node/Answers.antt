use Rattle.std.proofs.Common.{arith}
use Rattle.pb_totalizer.proofs.LargeHanding.{side_rooms}
use Rattle.pb_totalizer.proofs.large_clauses.large_node.Goals as goal

pub invariant_of-result : goal.invariant_of-result
invariant_of-result c =
    let n = c.args.node.now in
    let row = n.row in
    let one = side_rooms n.left c.args.lefts c.requires.left in
    let two = side_rooms n.right c.args.rights c.requires.right in
    record {
      left_some = omega (arith, c.count.ensures, one.0);
      right_some = omega (arith, c.count-2.ensures, two.0);
      left_within = omega (arith, c.count.ensures, n.left_within);
      right_within = omega (arith, c.count-2.ensures, n.right_within);
      counted = omega (arith, c.count.ensures, c.count-2.ensures, n.counted);
      few = n.few;
      room = omega (arith, row.room);
      left_narrow_room = omega (arith, c.count.ensures, c.narrows.ensures, one.1);
      right_narrow_room = omega (arith, c.count-2.ensures, c.narrows-2.ensures, two.1);
      left_room = omega (arith, c.count.ensures, c.block_others.ensures, one.2);
      right_room = omega (arith, c.count-2.ensures, c.block_others-2.ensures, two.2);
    }
