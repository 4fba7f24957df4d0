use Rattle.std.proofs.Common.{◌++◌, arith}
use Rattle.pb_family.proofs.FlatPieces.{justifications_then, justifications_stopped, justifications_next}
use Rattle.pb_gentot.specs.inner.Sources.{ones_given, pairs_given}
use Rattle.pb_gentot.proofs.Handed.{ones_length, node_length}
use Rattle.pb_gentot.proofs.Over.{has_sums}
use Rattle.pb_gentot.proofs.claims.derive_node.Goals as goal

pub derive_ones-requires-clause-few : goal.derive_ones-requires-clause-few
derive_ones-requires-clause-few g c =
    let n = c.args.node.now in
    omega (arith, node_length n c.args.lefts.now c.args.rights.now, c.requires)

pub returns-in_err-derive_ones : goal.returns-in_err-derive_ones
returns-in_err-derive_ones g c =
    let n = c.args.node.now in
    justifications_stopped c.from_residual.result _ (ones_given n n.left.now c.args.rights.now) (ones_given n n.right.now c.args.lefts.now ++ pairs_given n) (g.T.StepSink.state c.args.sink.now) (g.T.StepSink.state c.derive_ones.new.sink) c.from_residual.ensures.1 c.in_err-derive_ones.ensures

pub derive_ones-requires-2-clause-few : goal.derive_ones-requires-2-clause-few
derive_ones-requires-2-clause-few g c =
    let n = c.args.node.now in
    let next = justifications_next (ones_given n n.left.now c.args.rights.now) (g.T.StepSink.state c.args.sink.now) (g.T.StepSink.state c.derive_ones.new.sink) c.in_ok-derive_ones.ensures in
    omega (arith, next, ones_length n n.left.now c.args.rights.now, node_length n c.args.lefts.now c.args.rights.now, c.requires)

pub returns-in_err-derive_ones-2 : goal.returns-in_err-derive_ones-2
returns-in_err-derive_ones-2 g c =
    let n = c.args.node.now in
    let ys = ones_given n n.right.now c.args.lefts.now in
    let result = c.from_residual-in_err-derive_ones-2.result in
    let mid = g.T.StepSink.state c.derive_ones.new.sink in
    let after = g.T.StepSink.state c.derive_ones-2.new.sink in
    justifications_then result (ones_given n n.left.now c.args.rights.now) (ys ++ pairs_given n) (g.T.StepSink.state c.args.sink.now) mid after c.in_ok-derive_ones.ensures
    (justifications_stopped result _ ys (pairs_given n) mid after c.from_residual-in_err-derive_ones-2.ensures.1 c.in_err-derive_ones-2.ensures)

pub derive_pairs-requires : goal.derive_pairs-requires
derive_pairs-requires g c =
    let n = c.args.node.now in
    let mid = g.T.StepSink.state c.derive_ones.new.sink in
    let one = justifications_next (ones_given n n.left.now c.args.rights.now) (g.T.StepSink.state c.args.sink.now) mid c.in_ok-derive_ones.ensures in
    let two = justifications_next (ones_given n n.right.now c.args.lefts.now) mid (g.T.StepSink.state c.derive_ones-2.new.sink) c.in_ok-derive_ones-2.ensures in
    let more = ones_length n n.left.now c.args.rights.now in
    omega (arith, one, two, more, ones_length n n.right.now c.args.lefts.now, node_length n c.args.lefts.now c.args.rights.now, c.requires)

pub returns : goal.returns
returns g c =
    let n = c.args.node.now in
    let ys = ones_given n n.right.now c.args.lefts.now in
    let result = c.derive_pairs.result in
    let mid = g.T.StepSink.state c.derive_ones.new.sink in
    let two = g.T.StepSink.state c.derive_ones-2.new.sink in
    let new = g.T.StepSink.state c.derive_pairs.new.sink in
    justifications_then result (ones_given n n.left.now c.args.rights.now) (ys ++ pairs_given n) (g.T.StepSink.state c.args.sink.now) mid new c.in_ok-derive_ones.ensures (justifications_then result ys (pairs_given n) mid two new c.in_ok-derive_ones-2.ensures c.derive_pairs.ensures)

pub derive_ones-requires-clause-has : goal.derive_ones-requires-clause-has
derive_ones-requires-clause-has g c = let n = c.args.node.now in (has_sums n.cap n.left.now.values.items n.right.now.values.items n.own.now.values.items n.left_within n.right_within n.made).lefts

pub derive_ones-requires-2-clause-has : goal.derive_ones-requires-2-clause-has
derive_ones-requires-2-clause-has g c = let n = c.args.node.now in (has_sums n.cap n.left.now.values.items n.right.now.values.items n.own.now.values.items n.left_within n.right_within n.made).rights
