use Rattle.std.proofs.Common.{arith}
use Rattle.pb_norm.specs.Constraints.{weights}
use Rattle.pb_tree.specs.Tree.{tree_of}
use Rattle.pb_totalizer.specs.declared.phase.Phase.TheVariants.{Clauses}
use Rattle.pb_totalizer.proofs.PhaseSteps.{phase_counted}
use Rattle.pb_totalizer.proofs.RootHanding.{nodes_stopped, root_handed}
use Rattle.pb_totalizer.proofs.derivation.derive_clauses.Goals as goal

pub returns-in_err-derive_all : goal.returns-in_err-derive_all
returns-in_err-derive_all g c =
    let w = c.args.whole.now in
    let t = tree_of (weights w.terms.now) in
    let old = g.T.StepSink.state c.args.sink.now in
    nodes_stopped w.bound t w.first c.args.id c.args.root.now old c.from_residual.result _ (g.T.StepSink.state c.derive_all.new.sink) c.from_residual.ensures.1 c.in_err-derive_all.ensures.hands

pub derive_root-requires-clause-few : goal.derive_root-requires-clause-few
derive_root-requires-clause-few g c =
    let w = c.args.whole.now in
    let t = tree_of (weights w.terms.now) in
    let old = g.T.StepSink.state c.args.sink.now in
    omega (arith, c.in_ok-derive_all.ensures.hands.ids, phase_counted Clauses w.bound t w.first c.args.id old.next, c.requires.room)

pub returns : goal.returns
returns g c =
    let w = c.args.whole.now in
    let t = tree_of (weights w.terms.now) in
    let old = g.T.StepSink.state c.args.sink.now in
    root_handed w.bound t w.first c.args.id c.args.root.now old c.derive_root.result (g.T.StepSink.state c.derive_all.new.sink) (g.T.StepSink.state c.derive_root.new.sink) c.in_ok-derive_all.ensures.hands c.derive_root.ensures
