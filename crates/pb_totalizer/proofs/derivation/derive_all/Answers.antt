use Rattle.std.proofs.Common.{◌≡◌, ◌+◌, ◌*◌, arith}
use Rattle.pb_norm.specs.Constraints.{weights}
use Rattle.pb_family.proofs.Deriving.{steps_same}
use Rattle.pb_tree.specs.Tree.{tree_of}
use Rattle.pb_tree.proofs.TreeHanded.{steps_stopped}
use Rattle.pb_totalizer.specs.inner.Phases.{phase_steps}
use Rattle.pb_totalizer.proofs.JointHanding.{taken_as}
use Rattle.pb_totalizer.proofs.WholeTrees.{whole_suits}
use Rattle.pb_totalizer.proofs.derivation.derive_all.Goals as goal

pub derive_along_tree-requires-clause-some : goal.derive_along_tree-requires-clause-some
derive_along_tree-requires-clause-some g c = omega (arith, c.args.whole.now.whole.more)

pub derive_along_tree-requires-clause-suits : goal.derive_along_tree-requires-clause-suits
derive_along_tree-requires-clause-suits g c = whole_suits c.args.whole.now.whole

pub returns-in_err-all-clause-hands : goal.returns-in_err-all-clause-hands
returns-in_err-all-clause-hands g c =
    let w = c.args.whole.now in
    let old = g.T.StepSink.state c.args.sink.now in
    let new = g.T.StepSink.state c.derive_along_tree.new.sink in
    let first : w.first + 0 ≡ w.first = omega arith in
    let id : c.args.id + 2 * 0 ≡ c.args.id = omega arith in
    steps_same c.from_residual.result _ _ old new (λ k. phase_steps c.args.phase w.bound (tree_of (weights w.terms.now)) (first k) (id k) old.next) (steps_stopped c.from_residual.result _ _ old new c.from_residual.ensures.1 c.in_err-all.ensures.hands)

pub returns-clause-hands : goal.returns-clause-hands
returns-clause-hands g c =
    let w = c.args.whole.now in
    let old = g.T.StepSink.state c.args.sink.now in
    let first : w.first + 0 ≡ w.first = omega arith in
    let id : c.args.id + 2 * 0 ≡ c.args.id = omega arith in
    taken_as (λ k. phase_steps c.args.phase w.bound (tree_of (weights w.terms.now)) (first k) (id k) old.next) c.in_ok-all.ensures.hands

pub returns-clause-fresh : goal.returns-clause-fresh
returns-clause-fresh g c = omega (arith, c.in_ok-all.ensures.next)
