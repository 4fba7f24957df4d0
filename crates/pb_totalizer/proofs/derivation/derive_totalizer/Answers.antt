use Rattle.std.proofs.Common.{◌/◌, length, take, drop, arith}
use Rattle.pb_norm.specs.Constraints.{weights}
use Rattle.pb_tree.specs.Tree.{tree_of}
use Rattle.pb_totalizer.proofs.RootHanding.{halved_whole, whole_room, meanings_stopped, meant_next, within_counted, within_stopped, all_handed}
use Rattle.pb_totalizer.proofs.derivation.derive_totalizer.Goals as goal

pub derive_all-requires-clause-ids : goal.derive_all-requires-clause-ids
derive_all-requires-clause-ids g c = omega (arith, c.next_id-base.ensures, c.requires.low, (whole_room c.args.whole.now.whole).1)

pub derive_all-requires-clause-room : goal.derive_all-requires-clause-room
derive_all-requires-clause-room g c = omega (arith, c.requires.low, (whole_room c.args.whole.now.whole).1)

pub returns-in_err-fresh : goal.returns-in_err-fresh
returns-in_err-fresh g c =
    let w = c.args.whole.now in
    let t = tree_of (weights w.terms.now) in
    let old = g.T.StepSink.state c.args.sink.now in
    let half = halved_whole w.whole in
    let l = tree_of (weights (take (length w.terms.now / 2) w.terms.now)) in
    let r = tree_of (weights (drop (length w.terms.now / 2) w.terms.now)) in
    meanings_stopped w.bound t l r half.tree w.first c.args.id old c.from_residual.result _ c.next_id-base.result (g.T.StepSink.state c.derive_all.new.sink) c.from_residual.ensures.1 c.in_err-fresh.ensures.hands

pub derive_within-requires-clause-given : goal.derive_within-requires-clause-given
derive_within-requires-clause-given g c = omega (arith, c.next_id-base.ensures, c.requires.given)

pub derive_within-requires-clause-known : goal.derive_within-requires-clause-known
derive_within-requires-clause-known g c =
    let w = c.args.whole.now in
    let t = tree_of (weights w.terms.now) in
    let old = g.T.StepSink.state c.args.sink.now in
    let half = halved_whole w.whole in
    let l = tree_of (weights (take (length w.terms.now / 2) w.terms.now)) in
    let r = tree_of (weights (drop (length w.terms.now / 2) w.terms.now)) in
    omega (arith, c.next_id-base.ensures, meant_next w.bound t l r half.tree w.first c.args.id old c.next_id-base.result (g.T.StepSink.state c.derive_all.new.sink) c.in_ok-fresh.ensures.hands)

pub derive_within-requires-clause-low : goal.derive_within-requires-clause-low
derive_within-requires-clause-low g c =
    let w = c.args.whole.now in
    let t = tree_of (weights w.terms.now) in
    let old = g.T.StepSink.state c.args.sink.now in
    let half = halved_whole w.whole in
    let l = tree_of (weights (take (length w.terms.now / 2) w.terms.now)) in
    let r = tree_of (weights (drop (length w.terms.now / 2) w.terms.now)) in
    omega (arith, c.requires.low, meant_next w.bound t l r half.tree w.first c.args.id old c.next_id-base.result (g.T.StepSink.state c.derive_all.new.sink) c.in_ok-fresh.ensures.hands, (whole_room w.whole).1)

pub returns-in_err-derive_within : goal.returns-in_err-derive_within
returns-in_err-derive_within g c =
    let w = c.args.whole.now in
    let t = tree_of (weights w.terms.now) in
    let old = g.T.StepSink.state c.args.sink.now in
    let half = halved_whole w.whole in
    let l = tree_of (weights (take (length w.terms.now / 2) w.terms.now)) in
    let r = tree_of (weights (drop (length w.terms.now / 2) w.terms.now)) in
    within_stopped w.bound t l r half.tree w.first c.args.id old c.next_id-base.result (g.T.StepSink.state c.derive_all.new.sink) c.in_ok-fresh.ensures.hands c.next_id-base.result c.next_id-base.ensures c.from_residual-in_err-derive_within.result _ (g.T.StepSink.state c.derive_within.new.sink) c.from_residual-in_err-derive_within.ensures.1 c.in_err-derive_within.ensures

pub derive_deletions-requires-clause-fits : goal.derive_deletions-requires-clause-fits
derive_deletions-requires-clause-fits g c = omega (arith, c.next_id-base.ensures, c.requires.low, c.in_ok-fresh.ensures.fresh, (whole_room c.args.whole.now.whole).1)

pub derive_deletions-requires-clause-few : goal.derive_deletions-requires-clause-few
derive_deletions-requires-clause-few g c =
    let w = c.args.whole.now in
    let t = tree_of (weights w.terms.now) in
    let old = g.T.StepSink.state c.args.sink.now in
    let half = halved_whole w.whole in
    let l = tree_of (weights (take (length w.terms.now / 2) w.terms.now)) in
    let r = tree_of (weights (drop (length w.terms.now / 2) w.terms.now)) in
    let room = whole_room w.whole in
    let mid = g.T.StepSink.state c.derive_all.new.sink in
    omega (arith, c.requires.low, meant_next w.bound t l r half.tree w.first c.args.id old c.next_id-base.result (g.T.StepSink.state c.derive_all.new.sink) c.in_ok-fresh.ensures.hands, c.in_ok-derive_within.ensures.ids, within_counted w.bound t l r half.tree w.first c.args.id c.next_id-base.result mid, room.0, room.1, room.2)

pub returns : goal.returns
returns g c =
    let w = c.args.whole.now in
    let t = tree_of (weights w.terms.now) in
    let old = g.T.StepSink.state c.args.sink.now in
    let half = halved_whole w.whole in
    let l = tree_of (weights (take (length w.terms.now / 2) w.terms.now)) in
    let r = tree_of (weights (drop (length w.terms.now / 2) w.terms.now)) in
    all_handed w.bound t l r half.tree w.first c.args.id old c.next_id-base.result (g.T.StepSink.state c.derive_all.new.sink) c.in_ok-fresh.ensures.hands c.next_id-base.result c.next_id-base.ensures c.derive_deletions.result (g.T.StepSink.state c.derive_within.new.sink) (g.T.StepSink.state c.derive_deletions.new.sink) c.in_ok-derive_within.ensures c.in_ok-fresh.fresh c.in_ok-fresh.ensures.fresh c.derive_deletions.ensures
