use Rattle.std.proofs.Common.{suc, ap, arith}
use Rattle.pb_totalizer.specs.inner.Larges.{large_of}
use Rattle.pb_totalizer.specs.inner.Windows.{last_block}
use Rattle.pb_totalizer.proofs.LargeHanding.{large_form, all_ids, blocks_taking}
use Rattle.pb_totalizer.proofs.NodeHanding.{lefts_stopped, rights_stopped, body_stopped, form_handed}
use Rattle.pb_totalizer.proofs.large_clauses.derive_by_blocks.Goals as goal

pub returns-in_err-derive_blocks : goal.returns-in_err-derive_blocks
returns-in_err-derive_blocks g c =
    let old = g.T.StepSink.state c.args.sink.now in
    lefts_stopped (large_form c.args.node.now) old c.from_residual.result _ (g.T.StepSink.state c.derive_blocks.new.sink) c.from_residual.ensures.1 c.in_err-derive_blocks.ensures.hands

pub returns-in_err-derive_blocks-2 : goal.returns-in_err-derive_blocks-2
returns-in_err-derive_blocks-2 g c =
    let old = g.T.StepSink.state c.args.sink.now in
    let mid = g.T.StepSink.state c.derive_blocks.new.sink in
    let mid_2 = g.T.StepSink.state c.derive_blocks-2.new.sink in
    rights_stopped (large_form c.args.node.now) old mid c.in_ok-derive_blocks.ensures.hands c.in_ok-derive_blocks.ensures.next c.from_residual-in_err-derive_blocks-2.result _ mid_2 c.from_residual-in_err-derive_blocks-2.ensures.1 c.in_err-derive_blocks-2.ensures.hands

pub derive_all_blocks-requires : goal.derive_all_blocks-requires
derive_all_blocks-requires g c =
    let n = c.large_node-large.result in
    record { room = omega (arith, c.requires.room, c.in_ok-derive_blocks.ensures.next, c.in_ok-derive_blocks-2.ensures.next, ap all_ids c.large_node-large.ensures) }

pub returns-in_err-derive_all_blocks : goal.returns-in_err-derive_all_blocks
returns-in_err-derive_all_blocks g c =
    let old = g.T.StepSink.state c.args.sink.now in
    let mid = g.T.StepSink.state c.derive_blocks.new.sink in
    let mid_2 = g.T.StepSink.state c.derive_blocks-2.new.sink in
    body_stopped (large_form c.args.node.now) old mid c.in_ok-derive_blocks.ensures.hands c.in_ok-derive_blocks.ensures.next mid_2 c.in_ok-derive_blocks-2.ensures.hands c.in_ok-derive_blocks-2.ensures.next c.next_id-next.result c.next_id-middle.result c.next_id-next.ensures c.next_id-middle.ensures
    (large_of c.large_node-large.result) c.large_node-large.ensures c.from_residual-in_err-derive_all_blocks.result _ (g.T.StepSink.state c.derive_all_blocks.new.sink) c.from_residual-in_err-derive_all_blocks.ensures.1 c.in_err-derive_all_blocks.ensures

pub derive_deletion-requires-clause-few : goal.derive_deletion-requires-clause-few
derive_deletion-requires-clause-few g c =
    let w = large_of c.large_node-large.result in
    let mid_2 = g.T.StepSink.state c.derive_blocks-2.new.sink in
    omega (
      arith,
      c.requires.room,
      c.in_ok-derive_blocks.ensures.next,
      c.in_ok-derive_blocks-2.ensures.next,
      ap all_ids c.large_node-large.ensures,
      c.in_ok-derive_all_blocks.ensures.ids,
      blocks_taking w 0 (suc (last_block w.left)) mid_2.next,
    )

pub returns : goal.returns
returns g c =
    let old = g.T.StepSink.state c.args.sink.now in
    let mid = g.T.StepSink.state c.derive_blocks.new.sink in
    let mid_2 = g.T.StepSink.state c.derive_blocks-2.new.sink in
    form_handed (large_form c.args.node.now) old mid c.in_ok-derive_blocks.ensures.hands c.in_ok-derive_blocks.ensures.next mid_2 c.in_ok-derive_blocks-2.ensures.hands c.in_ok-derive_blocks-2.ensures.next c.next_id-next.result c.next_id-middle.result c.next_id-next.ensures c.next_id-middle.ensures
    (large_of c.large_node-large.result) c.large_node-large.ensures (g.T.StepSink.state c.derive_all_blocks.new.sink) c.in_ok-derive_all_blocks.ensures c.derive_deletion.result (g.T.StepSink.state c.derive_deletion.new.sink) c.next_id-end.result c.next_id-end.ensures c.derive_deletion.ensures
