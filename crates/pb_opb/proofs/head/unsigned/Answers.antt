use Rattle.pb_opb.proofs.Heads.{unsigned-kind}
use Rattle.pb_opb.proofs.head.unsigned.Goals as goal

pub returns-in-Some : goal.returns-in-Some
returns-in-Some c = record {
  kind = unsigned-kind c.args.bytes.now c.in-Some.digits c.in-Some.ensures;
  rest = c.in-Some.ensures.rest;
  reach = tt;
}
