use Rattle.pb_opb.proofs.Heads.{negative-kind, negative-rest}
use Rattle.pb_opb.proofs.head.negative.Goals as goal

pub returns-in-Some : goal.returns-in-Some
returns-in-Some c = record {
  kind = negative-kind c.args.bytes.now c.in-Some.digits c.in-Some.ensures;
  rest = negative-rest c.args.bytes.now c.in-Some.digits c.in-Some.ensures;
  reach = tt;
}
