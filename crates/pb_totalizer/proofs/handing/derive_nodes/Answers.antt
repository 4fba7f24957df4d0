use Rattle.std.proofs.Common.{◌≡◌, ◌+◌, ◌*◌, ℕ, List, map, ap, subst, length, arith}
use Rattle.std.specs.Prelude.{IfOk}
use Rattle.pb_norm.specs.Constraints.{weights}
use Rattle.pb_derive.specs.Claims.{claim_steps}
use Rattle.pb_derive.specs.Justifications.{Justification, by_justification}
use Rattle.pb_family.proofs.Deriving.{steps_same}
use Rattle.pb_tree.specs.Tree.{tree_of}
use Rattle.pb_tree.proofs.Walking.{from_id}
use Rattle.pb_totalizer.specs.ExactSteps.{own_justifications}
use Rattle.pb_totalizer.specs.Totalizer.{totalizer}
use Rattle.pb_totalizer.specs.inner.Sources.{StandAt}
use Rattle.pb_totalizer.proofs.WholeTrees.{whole_suits}
use Rattle.pb_totalizer.proofs.handing.derive_nodes.Goals as goal

pub walk_along-requires-clause-some : goal.walk_along-requires-clause-some
walk_along-requires-clause-some g c = omega (arith, c.args.whole.now.whole.more)

pub walk_along-requires-clause-suits : goal.walk_along-requires-clause-suits
walk_along-requires-clause-suits g c = whole_suits c.args.whole.now.whole

pub walk_along-requires-clause-room : goal.walk_along-requires-clause-room
walk_along-requires-clause-room g c =
    let w = c.args.whole.now in
    omega (arith, ap length (from_id (totalizer w.bound) (own_justifications w.bound) (tree_of (weights w.terms.now)) c.args.id), c.requires.room)

pub returns-clause-hands : goal.returns-clause-hands
returns-clause-hands g c =
    let w = c.args.whole.now in
    let own = own_justifications w.bound in
    let old = g.T.StepSink.state c.args.sink.now in
    steps_same c.walk_along.result _ _ old _ (ap (λ (rs : List Justification). claim_steps old.next (map by_justification rs)) (from_id (totalizer w.bound) own (tree_of (weights w.terms.now)) c.args.id)) c.walk_along.ensures.hands

pub returns-clause-stand : goal.returns-clause-stand
returns-clause-stand g c =
    let w = c.args.whole.now in
    let start : c.args.id + 2 * 0 ≡ c.args.id = omega arith in
    subst (λ (n : ℕ). IfOk c.walk_along.result (λ root. StandAt w.bound w.terms.now n root.part)) start c.walk_along.ensures.leaves
