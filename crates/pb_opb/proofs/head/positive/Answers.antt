use Rattle.pb_opb.proofs.Heads.{positive-kind, positive-rest}
use Rattle.pb_opb.proofs.head.positive.Goals as goal

pub returns-in-Some : goal.returns-in-Some
returns-in-Some c = record {
  kind = positive-kind c.args.bytes.now c.in-Some.digits c.in-Some.ensures;
  rest = positive-rest c.args.bytes.now c.in-Some.digits c.in-Some.ensures;
  reach = tt;
}
