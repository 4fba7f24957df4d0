use Rattle.std.proofs.Common.{◌^◌, arith}
use Rattle.pb_diagram.proofs.GuardedHanding.{claiming_ends, claiming_from, claiming_next, off_fault, off_few, on_fault, on_few}
use Rattle.pb_diagram.proofs.tier.Tier.derive_clauses.Goals as goal

pub loop-place-init : goal.loop-place-init
loop-place-init g c = claiming_from c.args.self.now.lit.now c.args.self.now.after c.args.self.now.var c.args.self.now.counts c.args.self.now.nodes.now (g.T.StepSink.state c.args.sink.now)

pub derive_off_at-requires : goal.derive_off_at-requires
derive_off_at-requires g c = record { within = c.loop-place-test.true; few = off_few c.args.self.now.lit.now c.args.self.now.after c.args.self.now.var c.args.self.now.counts c.args.self.now.nodes.now c.loop-place.place (g.T.StepSink.state c.args.sink.now) (g.T.StepSink.state c.loop-place.sink) c.loop-place-test.true c.loop-place.invariant (2 ^ 62) c.requires.few }

pub returns-in_err-derive_off_at : goal.returns-in_err-derive_off_at
returns-in_err-derive_off_at g c = off_fault c.args.self.now.lit.now c.args.self.now.after c.args.self.now.var c.args.self.now.counts c.args.self.now.nodes.now c.loop-place.place (g.T.StepSink.state c.args.sink.now) (g.T.StepSink.state c.loop-place.sink) c.loop-place-test.true c.loop-place.invariant c.from_residual.result _ (g.T.StepSink.state c.derive_off_at.new.sink) c.from_residual.ensures.1 c.in_err-derive_off_at.ensures

pub derive_on_at-requires : goal.derive_on_at-requires
derive_on_at-requires g c = record { within = c.loop-place-test.true; few = on_few c.args.self.now.lit.now c.args.self.now.after c.args.self.now.var c.args.self.now.counts c.args.self.now.nodes.now c.loop-place.place (g.T.StepSink.state c.args.sink.now) (g.T.StepSink.state c.loop-place.sink) c.loop-place-test.true c.loop-place.invariant (g.T.StepSink.state c.derive_off_at.new.sink) c.in_ok-derive_off_at.ensures (2 ^ 62) c.requires.few }

pub returns-in_err-derive_on_at : goal.returns-in_err-derive_on_at
returns-in_err-derive_on_at g c = on_fault c.args.self.now.lit.now c.args.self.now.after c.args.self.now.var c.args.self.now.counts c.args.self.now.nodes.now c.loop-place.place (g.T.StepSink.state c.args.sink.now) (g.T.StepSink.state c.loop-place.sink) c.loop-place-test.true c.loop-place.invariant (g.T.StepSink.state c.derive_off_at.new.sink) c.in_ok-derive_off_at.ensures c.from_residual-in_err-derive_on_at.result _ (g.T.StepSink.state c.derive_on_at.new.sink) c.from_residual-in_err-derive_on_at.ensures.1 c.in_err-derive_on_at.ensures

pub loop-place-preserved : goal.loop-place-preserved
loop-place-preserved g c = claiming_next c.args.self.now.lit.now c.args.self.now.after c.args.self.now.var c.args.self.now.counts c.args.self.now.nodes.now c.loop-place.place (g.T.StepSink.state c.args.sink.now) (g.T.StepSink.state c.loop-place.sink) c.loop-place-test.true c.loop-place.invariant (g.T.StepSink.state c.derive_off_at.new.sink) c.in_ok-derive_off_at.ensures (g.T.StepSink.state c.derive_on_at.new.sink) c.in_ok-derive_on_at.ensures

pub returns : goal.returns
returns g c = claiming_ends c.args.self.now.lit.now c.args.self.now.after c.args.self.now.var c.args.self.now.counts c.args.self.now.nodes.now c.loop-place.place (g.T.StepSink.state c.args.sink.now) (g.T.StepSink.state c.loop-place.sink) (omega arith) c.loop-place.invariant
