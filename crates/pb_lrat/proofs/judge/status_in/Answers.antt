use Rattle.pb_lrat.specs.Hints.{left_of}
use Rattle.pb_lrat.proofs.Judging.{kind_after, nothing_no, settled}
use Rattle.pb_lrat.proofs.judge.status_in.Goals as goal

pub loop-lit-init : goal.loop-lit-init
loop-lit-init c = record {
  kind = kind_after (left_of c.args.trail.now c.args.clause.now);
  undecided = λ k e. absurd (nothing_no k e);
}

pub returns-in-More-clause-kind : goal.returns-in-More-clause-kind
returns-in-More-clause-kind c = settled c.args.trail.now c.args.clause.now c.loop-lit.lit-index c.lit-item.result c.loop-lit.left c.with_next-left.result c.loop-lit-test.true c.lit-item.is c.loop-lit.invariant.kind c.with_next-left.ensures c.in-More.is
