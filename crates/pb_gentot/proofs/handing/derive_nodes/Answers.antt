use Rattle.std.proofs.Common.{◌≡◌, ◌+◌, ◌*◌, List, map, ap, ◌∙◌, length, arith, Ok}
use Rattle.std.specs.Prelude.{Result}
use Rattle.pb_norm.specs.Constraints.{weights}
use Rattle.pb_derive.specs.Claims.{claim_steps}
use Rattle.pb_derive.specs.Justifications.{Justification, by_justification}
use Rattle.pb_family.specs.declared.sink.SinkFault.{SinkFault}
use Rattle.pb_family.proofs.Deriving.{steps_same}
use Rattle.pb_tree.specs.Scheme.{along}
use Rattle.pb_tree.specs.Tree.{tree_of}
use Rattle.pb_tree.specs.TreeSteps.{output_ids, pair_justifications}
use Rattle.pb_tree.proofs.TreeHanded.{steps_stopped}
use Rattle.pb_tree.proofs.Walking.{from_id}
use Rattle.pb_gentot.specs.Generalized.{generalized}
use Rattle.pb_gentot.specs.GeneralizedSteps.{generalized_pairs}
use Rattle.pb_gentot.proofs.WholeTrees.{whole_suits}
use Rattle.pb_gentot.proofs.handing.derive_nodes.Goals as goal

pub walk_along-requires-clause-suits : goal.walk_along-requires-clause-suits
walk_along-requires-clause-suits g c = whole_suits c.args.whole.now.whole

pub walk_along-requires-clause-room : goal.walk_along-requires-clause-room
walk_along-requires-clause-room g c =
    let w = c.args.whole.now in
    omega (arith, ap length (from_id (generalized w.bound) (pair_justifications (generalized w.bound) generalized_pairs) (tree_of (weights w.terms.now)) c.args.id), c.requires.room)

pub returns-in_err-root-clause-hands : goal.returns-in_err-root-clause-hands
returns-in_err-root-clause-hands g c =
    let w = c.args.whole.now in
    let s = generalized w.bound in
    let t = tree_of (weights w.terms.now) in
    let own = pair_justifications (generalized w.bound) generalized_pairs in
    let old = g.T.StepSink.state c.args.sink.now in
    let new = g.T.StepSink.state c.walk_along.new.sink in
    steps_same c.from_residual.result _ _ old new (ap (λ (rs : List Justification). claim_steps old.next (map by_justification rs)) (from_id s own t c.args.id))
    (steps_stopped c.from_residual.result _ (claim_steps old.next (map by_justification (along s (λ l r n. own l r n (c.args.id + 2 * n)) t 0))) old new c.from_residual.ensures.1 c.in_err-root.ensures.hands)

pub returns-clause-hands : goal.returns-clause-hands
returns-clause-hands g c =
    let w = c.args.whole.now in
    let own = pair_justifications (generalized w.bound) generalized_pairs in
    let old = g.T.StepSink.state c.args.sink.now in
    let done : Result (Unit {0}) SinkFault = Ok tt in
    steps_same done _ _ old (g.T.StepSink.state c.walk_along.new.sink) (ap (λ (rs : List Justification). claim_steps old.next (map by_justification rs)) (from_id (generalized w.bound) own (tree_of (weights w.terms.now)) c.args.id)) c.in_ok-root.ensures.hands

pub returns-clause-handed : goal.returns-clause-handed
returns-clause-handed g c =
    let w = c.args.whole.now in
    let root = c.in_ok-root.ensures.leaves in
    let start : c.args.id + 2 * 0 ≡ c.args.id = omega arith in
    record { values_are = root.values_are; ids_are = root.ids_are ∙ ap (output_ids (generalized w.bound) (tree_of (weights w.terms.now))) start; within = root.within }
