use Rattle.std.proofs.Common.{◌-◌, ◌/◌, length, take, drop, arith}
use Rattle.pb_norm.specs.Constraints.{weights}
use Rattle.pb_tree.specs.Tree.{tree_of}
use Rattle.pb_totalizer.proofs.RootHanding.{halved_whole, whole_room, sums_stopped, sums_next, root_bound, sums_few, clauses_stopped, clauses_counted, within_handed}
use Rattle.pb_totalizer.proofs.derivation.derive_within.Goals as goal

pub derive_sums-requires-clause-ids : goal.derive_sums-requires-clause-ids
derive_sums-requires-clause-ids g c = omega (arith, c.requires.known, c.requires.low)

pub derive_sums-requires-clause-given : goal.derive_sums-requires-clause-given
derive_sums-requires-clause-given g c = omega (arith, c.requires.known, c.requires.given)

pub derive_sums-requires-clause-room : goal.derive_sums-requires-clause-room
derive_sums-requires-clause-room g c = omega (arith, c.requires.low, (whole_room c.args.whole.now.whole).0)

pub returns-in_err-root : goal.returns-in_err-root
returns-in_err-root g c =
    let w = c.args.whole.now in
    let t = tree_of (weights w.terms.now) in
    let old = g.T.StepSink.state c.args.sink.now in
    let half = halved_whole w.whole in
    let l = tree_of (weights (take (length w.terms.now / 2) w.terms.now)) in
    let r = tree_of (weights (drop (length w.terms.now / 2) w.terms.now)) in
    sums_stopped w.bound t l r half.tree w.first c.args.own c.args.id old c.from_residual.result _ (g.T.StepSink.state c.derive_sums.new.sink) c.from_residual.ensures.1 c.in_err-root.ensures.hands

pub derive_clauses-requires-clause-ids : goal.derive_clauses-requires-clause-ids
derive_clauses-requires-clause-ids g c = omega (arith, c.requires.known, c.requires.low)

pub derive_clauses-requires-clause-small : goal.derive_clauses-requires-clause-small
derive_clauses-requires-clause-small g c =
    let w = c.args.whole.now in
    let t = tree_of (weights w.terms.now) in
    let old = g.T.StepSink.state c.args.sink.now in
    let half = halved_whole w.whole in
    let l = tree_of (weights (take (length w.terms.now / 2) w.terms.now)) in
    let r = tree_of (weights (drop (length w.terms.now / 2) w.terms.now)) in
    omega (arith, root_bound w.bound t l r half.tree w.first c.args.own c.args.id old (g.T.StepSink.state c.derive_sums.new.sink) c.in_ok-root.ensures.hands c.in_ok-root.root c.in_ok-root.ensures.root, w.whole.more, w.whole.few)

pub derive_clauses-requires-clause-given : goal.derive_clauses-requires-clause-given
derive_clauses-requires-clause-given g c = omega (arith, c.requires.known, c.requires.given, c.in_ok-root.ensures.hands.ids)

pub derive_clauses-requires-clause-room : goal.derive_clauses-requires-clause-room
derive_clauses-requires-clause-room g c =
    let w = c.args.whole.now in
    let t = tree_of (weights w.terms.now) in
    let old = g.T.StepSink.state c.args.sink.now in
    let half = halved_whole w.whole in
    let l = tree_of (weights (take (length w.terms.now / 2) w.terms.now)) in
    let r = tree_of (weights (drop (length w.terms.now / 2) w.terms.now)) in
    let room = whole_room w.whole in
    omega (arith, sums_few w.bound t l r half.tree w.first c.args.own c.args.id old (g.T.StepSink.state c.derive_sums.new.sink) c.in_ok-root.ensures.hands c.in_ok-root.root c.in_ok-root.ensures.root, room.0, room.2, c.requires.low)

pub returns-in_err-derive_clauses : goal.returns-in_err-derive_clauses
returns-in_err-derive_clauses g c =
    let w = c.args.whole.now in
    let t = tree_of (weights w.terms.now) in
    let old = g.T.StepSink.state c.args.sink.now in
    let half = halved_whole w.whole in
    let l = tree_of (weights (take (length w.terms.now / 2) w.terms.now)) in
    let r = tree_of (weights (drop (length w.terms.now / 2) w.terms.now)) in
    clauses_stopped w.bound t l r half.tree w.first c.args.own c.args.id old (g.T.StepSink.state c.derive_sums.new.sink) c.in_ok-root.ensures.hands c.in_ok-root.root c.in_ok-root.ensures.root c.from_residual-in_err-derive_clauses.result _ (g.T.StepSink.state c.derive_clauses.new.sink) c.from_residual-in_err-derive_clauses.ensures.1 c.in_err-derive_clauses.ensures

pub overflow_sub-end : goal.overflow_sub-end
overflow_sub-end g c = omega (arith, c.next_id-start.ensures, c.next_id-end.ensures, c.in_ok-root.ensures.hands.ids)

pub derive_deletions-requires-clause-fits : goal.derive_deletions-requires-clause-fits
derive_deletions-requires-clause-fits g c =
    let w = c.args.whole.now in
    let t = tree_of (weights w.terms.now) in
    let old = g.T.StepSink.state c.args.sink.now in
    let half = halved_whole w.whole in
    let l = tree_of (weights (take (length w.terms.now / 2) w.terms.now)) in
    let r = tree_of (weights (drop (length w.terms.now / 2) w.terms.now)) in
    let room = whole_room w.whole in
    omega (arith, c.next_id-start.ensures, c.next_id-end.ensures, sums_few w.bound t l r half.tree w.first c.args.own c.args.id old (g.T.StepSink.state c.derive_sums.new.sink) c.in_ok-root.ensures.hands c.in_ok-root.root c.in_ok-root.ensures.root, room.0, c.requires.low)

pub derive_deletions-requires-clause-few : goal.derive_deletions-requires-clause-few
derive_deletions-requires-clause-few g c =
    let w = c.args.whole.now in
    let t = tree_of (weights w.terms.now) in
    let old = g.T.StepSink.state c.args.sink.now in
    let half = halved_whole w.whole in
    let l = tree_of (weights (take (length w.terms.now / 2) w.terms.now)) in
    let r = tree_of (weights (drop (length w.terms.now / 2) w.terms.now)) in
    let room = whole_room w.whole in
    let mid = g.T.StepSink.state c.derive_sums.new.sink in
    omega (arith, c.in_ok-derive_clauses.ensures.ids, clauses_counted w.bound t w.first c.args.id c.in_ok-root.root mid, sums_few w.bound t l r half.tree w.first c.args.own c.args.id old (g.T.StepSink.state c.derive_sums.new.sink) c.in_ok-root.ensures.hands c.in_ok-root.root c.in_ok-root.ensures.root, room.0, room.2, c.requires.low)

pub returns : goal.returns
returns g c =
    let w = c.args.whole.now in
    let t = tree_of (weights w.terms.now) in
    let old = g.T.StepSink.state c.args.sink.now in
    let half = halved_whole w.whole in
    let l = tree_of (weights (take (length w.terms.now / 2) w.terms.now)) in
    let r = tree_of (weights (drop (length w.terms.now / 2) w.terms.now)) in
    let next = sums_next w.bound t l r half.tree w.first c.args.own c.args.id old (g.T.StepSink.state c.derive_sums.new.sink) c.in_ok-root.ensures.hands c.in_ok-root.root c.in_ok-root.ensures.root in
    within_handed w.bound t l r half.tree w.first c.args.own c.args.id old (g.T.StepSink.state c.derive_sums.new.sink) c.in_ok-root.ensures.hands c.in_ok-root.root c.in_ok-root.ensures.root c.derive_deletions.result (g.T.StepSink.state c.derive_clauses.new.sink) (g.T.StepSink.state c.derive_deletions.new.sink) c.in_ok-derive_clauses.ensures c.next_id-start.result (c.next_id-end.result - c.next_id-start.result)
    c.next_id-start.ensures (omega (arith, c.next_id-start.ensures, c.next_id-end.ensures, next)) c.derive_deletions.ensures
