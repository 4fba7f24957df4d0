use Rattle.std.proofs.Common.{arith}
use Rattle.pb_opb.proofs.Heads.{index-kind, index-rest}
use Rattle.pb_opb.proofs.head.index.Goals as goal

pub returns-in-Some : goal.returns-in-Some
returns-in-Some c = record {
  kind = index-kind c.args.bytes.now c.in-Some.digits c.in-Some.ensures c.args.positive (omega arith);
  rest = index-rest c.args.bytes.now c.in-Some.digits c.in-Some.ensures c.args.positive;
  reach = (omega arith, omega arith);
}
