use Rattle.std.proofs.Common.{arith}
use Rattle.pb_counter.proofs.FurtherHanding.{narrow_stopped, rows_stopped, order_1, next_1, both_stopped, next_2, all_handed, end_low, order_fits}
use Rattle.pb_counter.proofs.further.derive_further.Goals as goal

pub returns-in_err-derive_narrow : goal.returns-in_err-derive_narrow
returns-in_err-derive_narrow g c =
    let r = c.args.rows in
    let us = c.args.after.now in
    let old = g.T.StepSink.state c.args.sink.now in
    let mid_1 = g.T.StepSink.state c.derive_narrow.new.sink in
    narrow_stopped r.terms.now us r.first r.last r.order r.whole old c.requires.one c.from_residual.result _ mid_1 c.from_residual.ensures.1 c.in_err-derive_narrow.ensures

pub returns-in_err-end : goal.returns-in_err-end
returns-in_err-end g c =
    let r = c.args.rows in
    let us = c.args.after.now in
    let old = g.T.StepSink.state c.args.sink.now in
    let mid_1 = g.T.StepSink.state c.derive_narrow.new.sink in
    let mid_2 = g.T.StepSink.state c.derive_rows.new.sink in
    rows_stopped r.terms.now us r.first r.last r.order r.whole old c.requires.one mid_1 c.in_ok-derive_narrow.ensures c.next_id-narrowed.result c.next_id-narrowed.ensures c.from_residual-in_err-end.result _ mid_2 c.from_residual-in_err-end.ensures.1 c.in_err-end.ensures.hands

pub derive_both-requires : goal.derive_both-requires
derive_both-requires g c =
    let r = c.args.rows in
    let us = c.args.after.now in
    let old = g.T.StepSink.state c.args.sink.now in
    let mid_1 = g.T.StepSink.state c.derive_narrow.new.sink in
    let mid_2 = g.T.StepSink.state c.derive_rows.new.sink in
    record { few = omega (arith, c.requires.room, end_low r.terms.now us r.first r.last r.order r.whole old c.requires.one c.requires.some c.requires.few, next_1 r.terms.now us r.first r.last r.order r.whole old c.requires.one mid_1 c.in_ok-derive_narrow.ensures c.next_id-narrowed.result c.next_id-narrowed.ensures mid_2 c.in_ok-end.end.order c.in_ok-end.end.climb c.in_ok-end.ensures.hands c.in_ok-end.ensures.ends) }

pub returns-in_err-derive_both : goal.returns-in_err-derive_both
returns-in_err-derive_both g c =
    let r = c.args.rows in
    let us = c.args.after.now in
    let old = g.T.StepSink.state c.args.sink.now in
    let mid_1 = g.T.StepSink.state c.derive_narrow.new.sink in
    let mid_2 = g.T.StepSink.state c.derive_rows.new.sink in
    let mid_3 = g.T.StepSink.state c.derive_both.new.sink in
    both_stopped r.terms.now us r.first r.last r.order r.whole old c.requires.one mid_1 c.in_ok-derive_narrow.ensures c.next_id-narrowed.result c.next_id-narrowed.ensures mid_2 c.in_ok-end.end.order c.in_ok-end.end.climb c.in_ok-end.ensures.hands c.in_ok-end.ensures.ends c.from_residual-in_err-derive_both.result _ mid_3 c.from_residual-in_err-derive_both.ensures.1 c.in_err-derive_both.ensures

pub derive_last-requires : goal.derive_last-requires
derive_last-requires g c =
    let r = c.args.rows in
    let us = c.args.after.now in
    let old = g.T.StepSink.state c.args.sink.now in
    let mid_1 = g.T.StepSink.state c.derive_narrow.new.sink in
    let mid_2 = g.T.StepSink.state c.derive_rows.new.sink in
    let mid_3 = g.T.StepSink.state c.derive_both.new.sink in
    record { fits = omega (arith, c.requires.room, end_low r.terms.now us r.first r.last r.order r.whole old c.requires.one c.requires.some c.requires.few, order_1 r.terms.now us r.first r.last r.order r.whole old c.requires.one mid_1 c.in_ok-derive_narrow.ensures c.next_id-narrowed.result c.next_id-narrowed.ensures mid_2 c.in_ok-end.end.order c.in_ok-end.end.climb c.in_ok-end.ensures.hands c.in_ok-end.ensures.ends, order_fits r.terms.now us r.first r.last r.order r.whole old c.requires.one); few = omega (arith, c.requires.room, end_low r.terms.now us r.first r.last r.order r.whole old c.requires.one c.requires.some c.requires.few, next_2 r.terms.now us r.first r.last r.order r.whole old c.requires.one mid_1 c.in_ok-derive_narrow.ensures c.next_id-narrowed.result c.next_id-narrowed.ensures mid_2 c.in_ok-end.end.order c.in_ok-end.end.climb c.in_ok-end.ensures.hands c.in_ok-end.ensures.ends mid_3 c.in_ok-derive_both.ensures) }

pub returns : goal.returns
returns g c =
    let r = c.args.rows in
    let us = c.args.after.now in
    let old = g.T.StepSink.state c.args.sink.now in
    let mid_1 = g.T.StepSink.state c.derive_narrow.new.sink in
    let mid_2 = g.T.StepSink.state c.derive_rows.new.sink in
    let mid_3 = g.T.StepSink.state c.derive_both.new.sink in
    all_handed r.terms.now us r.first r.last r.order r.whole old c.requires.one mid_1 c.in_ok-derive_narrow.ensures c.next_id-narrowed.result c.next_id-narrowed.ensures mid_2 c.in_ok-end.end.order c.in_ok-end.end.climb c.in_ok-end.ensures.hands c.in_ok-end.ensures.ends mid_3 c.in_ok-derive_both.ensures c.derive_last.result c.next_id-middle.result (g.T.StepSink.state c.derive_last.new.sink) c.next_id-middle.ensures c.derive_last.ensures
