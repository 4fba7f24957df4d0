use Rattle.std.proofs.Common.{◌+◌, [], ◌∷◌, arith}
use Rattle.pb_family.proofs.Deriving.{steps_same}
use Rattle.pb_family.proofs.FlatPieces.{justifications_then, justifications_stopped, justifications_next}
use Rattle.pb_totalizer.specs.inner.ExactSources.{nodes_justifications}
use Rattle.pb_totalizer.specs.inner.LimitSources.{least_given}
use Rattle.pb_totalizer.specs.inner.Sources.{root_given}
use Rattle.pb_totalizer.proofs.ExactHanded.{exact_all_counted, exact_ends_last}
use Rattle.pb_totalizer.proofs.exact_derivation.ExactlyTreeClaimsWhole.claim.Goals as goal

pub derive_nodes-requires-clause-room : goal.derive_nodes-requires-clause-room
derive_nodes-requires-clause-room g c =
    let self = c.args.self.now in
    let w = self.whole.now in
    omega (arith, exact_all_counted w.bound w.terms.now c.args.id self.lower self.upper, c.requires.room)

pub returns-in_err-root : goal.returns-in_err-root
returns-in_err-root g c =
    let self = c.args.self.now in
    let w = self.whole.now in
    justifications_stopped c.from_residual.result _ (nodes_justifications w.bound w.terms.now c.args.id) _ (g.T.StepSink.state c.args.sink.now) (g.T.StepSink.state c.derive_nodes.new.sink) c.from_residual.ensures.1 c.in_err-root.ensures.hands

pub derive_ends-requires-clause-few : goal.derive_ends-requires-clause-few
derive_ends-requires-clause-few g c =
    let self = c.args.self.now in
    let w = self.whole.now in
    let next = justifications_next (nodes_justifications w.bound w.terms.now c.args.id) (g.T.StepSink.state c.args.sink.now) (g.T.StepSink.state c.derive_nodes.new.sink) c.in_ok-root.ensures.hands in
    omega (arith, next, exact_all_counted w.bound w.terms.now c.args.id self.lower self.upper, c.requires.room)

pub returns : goal.returns
returns g c =
    let self = c.args.self.now in
    let w = self.whole.now in
    let root = c.in_ok-root.root.part.source in
    let old = g.T.StepSink.state c.args.sink.now in
    let new = g.T.StepSink.state c.derive_ends.new.sink in
    let same = exact_ends_last w.bound w.terms.now c.args.id self.lower self.upper root c.in_ok-root.ensures.stand.ids in
    steps_same c.derive_ends.result _ _ old new (same.steps old.next)
    (justifications_then c.derive_ends.result (nodes_justifications w.bound w.terms.now c.args.id) (least_given root w.bound self.lower ∷ root_given root (w.bound + 1) self.upper ∷ []) old (g.T.StepSink.state c.derive_nodes.new.sink) new c.in_ok-root.ensures.hands c.derive_ends.ensures)
