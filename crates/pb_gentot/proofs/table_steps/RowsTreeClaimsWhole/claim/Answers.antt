use Rattle.std.proofs.Common.{length, arith, length-append}
use Rattle.pb_norm.specs.Constraints.{weights}
use Rattle.pb_family.proofs.Deriving.{steps_same}
use Rattle.pb_family.proofs.FlatPieces.{justifications_then, justifications_stopped, justifications_next}
use Rattle.pb_tree.specs.Tree.{tree_of}
use Rattle.pb_gentot.specs.inner.KeptTables.{neighbour_justifications, rises_of}
use Rattle.pb_gentot.specs.inner.Sources.{part_justifications}
use Rattle.pb_gentot.proofs.RisingSteps.{rises_last}
use Rattle.pb_gentot.proofs.table_steps.RowsTreeClaimsWhole.claim.Goals as goal

pub derive_nodes-requires-clause-room : goal.derive_nodes-requires-clause-room
derive_nodes-requires-clause-room g c =
    let w = c.args.self.now.whole.now in
    omega (arith, length-append (part_justifications w.bound w.terms.now c.args.id) (neighbour_justifications w.bound (tree_of (weights w.terms.now)) 0 c.args.id), c.requires.room)

pub derive_neighbours-requires : goal.derive_neighbours-requires
derive_neighbours-requires g c =
    let w = c.args.self.now.whole.now in
    let root = c.in_ok-root.root in
    let nodes = part_justifications w.bound w.terms.now c.args.id in
    let next = justifications_next nodes (g.T.StepSink.state c.args.sink.now) (g.T.StepSink.state c.derive_nodes.new.sink) c.in_ok-root.ensures.hands in
    let same = rises_last w.bound w.terms.now c.args.id root c.in_ok-root.ensures.handed.values_are c.in_ok-root.ensures.handed.ids_are in
    omega (arith, next, same.count, length-append nodes (rises_of root.source (length root.values.items)), c.requires.room)

pub returns-in_err-root : goal.returns-in_err-root
returns-in_err-root g c =
    let w = c.args.self.now.whole.now in
    justifications_stopped c.from_residual.result _ (part_justifications w.bound w.terms.now c.args.id) (neighbour_justifications w.bound (tree_of (weights w.terms.now)) 0 c.args.id) (g.T.StepSink.state c.args.sink.now) (g.T.StepSink.state c.derive_nodes.new.sink) c.from_residual.ensures.1 c.in_err-root.ensures.hands

pub returns : goal.returns
returns g c =
    let w = c.args.self.now.whole.now in
    let root = c.in_ok-root.root in
    let old = g.T.StepSink.state c.args.sink.now in
    let new = g.T.StepSink.state c.derive_neighbours.new.sink in
    let same = rises_last w.bound w.terms.now c.args.id root c.in_ok-root.ensures.handed.values_are c.in_ok-root.ensures.handed.ids_are in
    steps_same c.derive_neighbours.result _ _ old new (same.steps old.next)
    (justifications_then c.derive_neighbours.result (part_justifications w.bound w.terms.now c.args.id) (rises_of root.source (length root.values.items)) old (g.T.StepSink.state c.derive_nodes.new.sink) new c.in_ok-root.ensures.hands c.derive_neighbours.ensures)
