use Rattle.std.proofs.Common.{◌+◌, ◌∙◌, List, ap, length, subst, sym, arith, Ok}
use Rattle.std.specs.Prelude.{Result}
use Rattle.pb_base.specs.declared.literal.Term.{Term}
use Rattle.pb_norm.specs.Constraints.{weights}
use Rattle.pb_derive.specs.Reifications.{reification_steps}
use Rattle.pb_family.specs.declared.sink.SinkFault.{SinkFault}
use Rattle.pb_family.proofs.Deriving.{steps_same}
use Rattle.pb_tree.specs.Scheme.{along}
use Rattle.pb_tree.specs.Tree.{tree_of}
use Rattle.pb_tree.specs.TreeSteps.{own_reifications, reifications}
use Rattle.pb_tree.specs.Walks.{Suits, fresh_over}
use Rattle.pb_tree.proofs.TreeHanded.{steps_stopped}
use Rattle.pb_tree.proofs.TreeReifications.{length-reifications}
use Rattle.pb_tree.proofs.Walking.{from_first, sum_suits}
use Rattle.pb_tree.proofs.meanings.derive_meanings.Goals as goal

pub walk_along-requires-clause-some : goal.walk_along-requires-clause-some
walk_along-requires-clause-some g c = omega (arith, ap length c.terms.ensures, (g.met.V.TreeSum.holds c.args.of.now).some)

pub walk_along-requires-clause-suits : goal.walk_along-requires-clause-suits
walk_along-requires-clause-suits g c =
    let v = g.V.TreeSum in
    subst (λ (ts : List Term). Suits (v.scheme c.args.of.now) (fresh_over (v.scheme c.args.of.now) (v.all c.args.of.now)) ts 0) (sym c.terms.ensures) (sum_suits (g.met.V.TreeSum.holds c.args.of.now))

pub walk_along-requires-clause-room : goal.walk_along-requires-clause-room
walk_along-requires-clause-room g c =
    let s = g.V.TreeSum.scheme c.args.of.now in
    let first = g.V.TreeSum.start c.args.of.now in
    let t = tree_of (weights c.terms.result.now) in
    let whole = ap (fresh_over s) c.terms.ensures in
    omega (arith, ap length (from_first s (own_reifications s) t first), length-reifications s t first, whole, (g.met.V.TreeSum.holds c.args.of.now).fits, c.requires)

pub returns-in_err-root-clause-hands : goal.returns-in_err-root-clause-hands
returns-in_err-root-clause-hands g c =
    let s = g.V.TreeSum.scheme c.args.of.now in
    let first = g.V.TreeSum.start c.args.of.now in
    let t = tree_of (weights c.terms.result.now) in
    let old = g.T.StepSink.state c.args.sink.now in
    let new = g.T.StepSink.state c.walk_along.new.sink in
    let all = from_first s (own_reifications s) t first ∙ ap (λ (ts : List Term). reifications s (tree_of (weights ts)) first) c.terms.ensures in
    steps_same c.from_residual.result _ _ old new (ap (reification_steps old.next) all)
    (steps_stopped c.from_residual.result _ (reification_steps old.next (along s (λ l r n. own_reifications s l r (first + n)) t 0)) old new c.from_residual.ensures.1 c.in_err-root.ensures.hands)

pub returns-clause-hands : goal.returns-clause-hands
returns-clause-hands g c =
    let s = g.V.TreeSum.scheme c.args.of.now in
    let first = g.V.TreeSum.start c.args.of.now in
    let old = g.T.StepSink.state c.args.sink.now in
    let all = from_first s (own_reifications s) (tree_of (weights c.terms.result.now)) first ∙ ap (λ (ts : List Term). reifications s (tree_of (weights ts)) first) c.terms.ensures in
    let done : Result (Unit {0}) SinkFault = Ok tt in
    steps_same done _ _ old (g.T.StepSink.state c.walk_along.new.sink) (ap (reification_steps old.next) all) c.in_ok-root.ensures.hands

pub returns-clause-count : goal.returns-clause-count
returns-clause-count g c = omega (arith, c.in_ok-root.ensures.next, ap (fresh_over (g.V.TreeSum.scheme c.args.of.now)) c.terms.ensures)
