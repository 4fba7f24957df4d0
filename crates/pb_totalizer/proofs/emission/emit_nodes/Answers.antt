use Rattle.std.proofs.Common.{◌≡◌, ◌+◌, ℕ, subst, arith}
use Rattle.std.specs.Prelude.{IfOk}
use Rattle.pb_norm.specs.Constraints.{weights}
use Rattle.pb_family.proofs.Emission.{hands_same}
use Rattle.pb_tree.specs.Tree.{tree_of}
use Rattle.pb_tree.proofs.Walking.{from_first}
use Rattle.pb_totalizer.specs.Totalizer.{totalizer}
use Rattle.pb_totalizer.specs.inner.Outputs.{AreOutputs}
use Rattle.pb_totalizer.specs.laws.Polarity.{own_by}
use Rattle.pb_totalizer.proofs.WholeTrees.{whole_suits}
use Rattle.pb_totalizer.proofs.emission.emit_nodes.Goals as goal

pub walk_along-requires-clause-some : goal.walk_along-requires-clause-some
walk_along-requires-clause-some g c = omega (arith, c.args.whole.now.whole.more)

pub walk_along-requires-clause-suits : goal.walk_along-requires-clause-suits
walk_along-requires-clause-suits g c = whole_suits c.args.whole.now.whole

pub returns-clause-hands : goal.returns-clause-hands
returns-clause-hands g c =
    let w = c.args.whole.now in
    hands_same c.walk_along.result _ _ _ _ (from_first (totalizer w.bound) (own_by c.args.polarity w.bound) (tree_of (weights w.terms.now)) w.first) c.walk_along.ensures.hands

pub returns-clause-outputs : goal.returns-clause-outputs
returns-clause-outputs g c =
    let w = c.args.whole.now in
    let start : w.first + 0 ≡ w.first = omega arith in
    subst (λ (n : ℕ). IfOk c.walk_along.result (λ root. AreOutputs w.bound w.terms.now n root.part)) start c.walk_along.ensures.leaves
