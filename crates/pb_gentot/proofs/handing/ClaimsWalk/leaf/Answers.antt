use Rattle.pb_norm.specs.Constraints.{weights}
use Rattle.pb_family.proofs.Deriving.{steps_lack_first, takes_no_steps}
use Rattle.pb_tree.specs.Tree.{tree_of}
use Rattle.pb_tree.proofs.SplitTerms.{leaf_of, some_term}
use Rattle.pb_gentot.proofs.Emitting.{rising_values}
use Rattle.pb_gentot.proofs.Parts.{all_within}
use Rattle.pb_gentot.proofs.handing.ClaimsWalk.leaf.Goals as goal

pub returns-clause-leaves : goal.returns-clause-leaves
returns-clause-leaves g c =
    let bound = c.args.self.now.whole.now.bound in
    let us = c.in_ok-values.values.items in
    record {
      values_are = c.in_ok-values.ensures;
      ids_are = rw (leaf_of c.args.terms.now some_term c.requires.one);
      within = all_within bound (tree_of (weights c.args.terms.now)) us c.in_ok-values.ensures;
    }

pub returns-in_err-values-clause-hands : goal.returns-in_err-values-clause-hands
returns-in_err-values-clause-hands g c sink = steps_lack_first _ (g.T.StepSink.state sink) c.from_residual.result c.from_residual.ensures.1

pub invariant_of-part : goal.invariant_of-part
invariant_of-part g c =
    let us = c.in_ok-values.values.items in
    record { rising = rising_values c.args.self.now.whole.now.bound (tree_of (weights c.args.terms.now)) us c.in_ok-values.ensures; ids = tt }

pub returns-clause-hands : goal.returns-clause-hands
returns-clause-hands g c sink = takes_no_steps (g.T.StepSink.state sink)
