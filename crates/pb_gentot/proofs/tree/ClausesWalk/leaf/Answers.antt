use Rattle.std.proofs.Common.{[]}
use Rattle.pb_norm.specs.Constraints.{weights}
use Rattle.pb_family.proofs.Emission.{emitting_starts}
use Rattle.pb_family.proofs.Stopping.{stops_between}
use Rattle.pb_family.proofs.Taking.{takes_nothing}
use Rattle.pb_tree.specs.Tree.{tree_of}
use Rattle.pb_tree.proofs.SplitTerms.{leaf_of}
use Rattle.pb_gentot.proofs.Emitting.{rising_values}
use Rattle.pb_gentot.proofs.Parts.{all_within}
use Rattle.pb_gentot.proofs.tree.ClausesWalk.leaf.Goals as goal

pub returns-in_err-values-clause-hands : goal.returns-in_err-values-clause-hands
returns-in_err-values-clause-hands g c sink = stops_between {all = []} {left = []} c.from_residual.result c.from_residual.ensures.1 (emitting_starts [] (g.S.ClauseSink.state sink))

pub returns-clause-leaves : goal.returns-clause-leaves
returns-clause-leaves g c =
    let bound = c.args.self.now.whole.now.bound in
    let t = tree_of (weights c.args.terms.now) in
    let us = c.in_ok-values.values.items in
    record {
      values_are = c.in_ok-values.ensures;
      outputs_are = rw (leaf_of c.args.terms.now c.index-terms-0.result c.requires.one);
      within = all_within bound t us c.in_ok-values.ensures;
    }

pub invariant_of-part : goal.invariant_of-part
invariant_of-part g c =
    let us = c.in_ok-values.values.items in
    record { rising = rising_values c.args.self.now.whole.now.bound (tree_of (weights c.args.terms.now)) us c.in_ok-values.ensures; room = tt }

pub returns-clause-hands : goal.returns-clause-hands
returns-clause-hands g c sink = takes_nothing (g.S.ClauseSink.state sink)
