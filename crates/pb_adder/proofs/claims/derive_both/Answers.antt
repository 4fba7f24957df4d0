use Rattle.std.proofs.Common.{arith, length-append}
use Rattle.pb_adder.proofs.Walks.{claims_ids, rups_handed, rups_stopped}
use Rattle.pb_adder.proofs.claims.derive_both.Goals as goal

pub derive_each-requires : goal.derive_each-requires
derive_each-requires g c = (omega (arith, g.N.fits), omega (arith, c.requires.few, length-append c.args.long.now c.args.short.now))

pub derive_each-requires-2 : goal.derive_each-requires-2
derive_each-requires-2 g c =
    let old = g.T.StepSink.state c.args.sink.now in
    (omega (arith, g.M.fits), omega (arith, c.requires.few, length-append c.args.long.now c.args.short.now, c.in_ok-derive_each.ensures.ids, claims_ids old.next c.args.ids.now c.args.long.now))

pub returns-in_err-derive_each : goal.returns-in_err-derive_each
returns-in_err-derive_each g c =
    rups_stopped c.from_residual.result _ c.args.ids.now c.args.long.now c.args.short.now (g.T.StepSink.state c.args.sink.now) (g.T.StepSink.state c.derive_each.new.sink) c.from_residual.ensures.1 c.in_err-derive_each.ensures

pub returns : goal.returns
returns g c =
    rups_handed c.derive_each-2.result c.args.ids.now c.args.long.now c.args.short.now (g.T.StepSink.state c.args.sink.now) (g.T.StepSink.state c.derive_each.new.sink) (g.T.StepSink.state c.derive_each-2.new.sink) c.in_ok-derive_each.ensures c.derive_each-2.ensures
