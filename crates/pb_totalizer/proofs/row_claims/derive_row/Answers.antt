use Rattle.std.proofs.Common.{◌+◌, arith}
use Rattle.pb_family.proofs.Looping.{looping_from, pieces_next, pieces_fault, pieces_end}
use Rattle.pb_family.proofs.Sequence.{justification_piece}
use Rattle.pb_totalizer.specs.inner.Rows.{one_beside}
use Rattle.pb_totalizer.proofs.Handed.{row_are, row_counted}
use Rattle.pb_totalizer.proofs.row_claims.derive_row.Goals as goal

pub invariant_of-counts : goal.invariant_of-counts
invariant_of-counts g c =
    let node = c.args.node.now in
    record { left_within = node.left_within; right_within = node.right_within; counted = node.counted; few = node.few }

pub numbers-low-requires : goal.numbers-low-requires
numbers-low-requires g c = c.requires.within

pub overflow_add-low : goal.overflow_add-low
overflow_add-low g c = omega (arith, c.loop-place-test.true, c.numbers-low.ensures.few)

pub loop-place-init : goal.loop-place-init
loop-place-init g c =
    looping_from (justification_piece (λ k. one_beside c.args.direction c.args.node.now c.args.i (c.numbers-low.result.0 + k))) 1 c.numbers-low.result.1 (g.T.StepSink.state c.args.sink.now)

pub derive_number-requires-clause-together : goal.derive_number-requires-clause-together
derive_number-requires-clause-together g c = c.numbers-low.ensures.together (c.numbers-low.result.0 + c.loop-place.place) (omega arith) (omega arith)

pub derive_number-requires-clause-few : goal.derive_number-requires-clause-few
derive_number-requires-clause-few g c =
    let count = row_counted c.args.direction c.args.node.now c.args.i c.numbers-low.result.0 c.numbers-low.result.1 c.numbers-low.ensures.row in
    omega (arith, c.loop-place.invariant.count, c.requires.room, count)

pub returns-in_err-derive_number : goal.returns-in_err-derive_number
returns-in_err-derive_number g c =
    let row = row_are c.args.direction c.args.node.now c.args.i c.numbers-low.result.0 c.numbers-low.result.1 c.numbers-low.ensures.row in
    pieces_fault row c.loop-place.invariant c.from_residual.result _ (g.T.StepSink.state c.derive_number.new.sink) (omega arith) c.from_residual.ensures.1 c.in_err-derive_number.ensures

pub loop-place-preserved : goal.loop-place-preserved
loop-place-preserved g c =
    let row = row_are c.args.direction c.args.node.now c.args.i c.numbers-low.result.0 c.numbers-low.result.1 c.numbers-low.ensures.row in
    pieces_next row c.loop-place.invariant (g.T.StepSink.state c.derive_number.new.sink) (omega arith) c.in_ok-derive_number.ensures

pub returns : goal.returns
returns g c = pieces_end (row_are c.args.direction c.args.node.now c.args.i c.numbers-low.result.0 c.numbers-low.result.1 c.numbers-low.ensures.row) c.loop-place.invariant (omega arith)
