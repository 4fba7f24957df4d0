use Rattle.std.proofs.Common.{◌+◌, ◌*◌, ◌∙◌, List, refl, subst, arith}
use Rattle.std.proofs.lemmas.Result.{IfOk-from_err}
use Rattle.pb_norm.specs.Constraints.{weights}
use Rattle.pb_steps.specs.declared.step.Step.{Step}
use Rattle.pb_family.specs.StepSinks.{TakesSteps}
use Rattle.pb_family.proofs.Deriving.{steps_lack_first}
use Rattle.pb_family.proofs.SameSteps.{HaveSameSteps}
use Rattle.pb_tree.specs.Tree.{tree_of}
use Rattle.pb_tree.specs.Walks.{fresh_over}
use Rattle.pb_tree.proofs.TreeHanded.{steps_stopped, stopped_as}
use Rattle.pb_gentot.specs.Generalized.{generalized}
use Rattle.pb_gentot.specs.declared.node_ids.NodeIds.{NodeIds}
use Rattle.pb_gentot.specs.inner.Sources.{node_given}
use Rattle.pb_gentot.proofs.Emitting.{rising_values}
use Rattle.pb_gentot.proofs.HandedParts.{own_pairs, own_source, own_steps}
use Rattle.pb_gentot.proofs.Over.{values_made}
use Rattle.pb_gentot.proofs.Parts.{IsNode, all_within, node_of}
use Rattle.pb_gentot.proofs.handing.ClaimsWalk.node.Given.{Over}
use Rattle.pb_gentot.proofs.handing.ClaimsWalk.node.Goals.{In_ok-own}
use Rattle.pb_gentot.proofs.handing.ClaimsWalk.node.Goals as goal

pub ranked_over-requires-clause-fits : goal.ranked_over-requires-clause-fits
ranked_over-requires-clause-fits g c =
    let own = node_of c.requires.parts c.requires.suits (c.as_slice-lefts.ensures.value ∙ c.requires.left.values_are) (c.as_slice-rights.ensures.value ∙ c.requires.right.values_are) refl in
    omega (arith, own.within, c.args.self.now.whole.now.whole.fits)

-- the node's values
node_is : (g : Over) (c : In_ok-own g) → IsNode c.args.self.now.whole.now.bound (fresh_over (generalized c.args.self.now.whole.now.bound) c.args.self.now.whole.now.terms.now) c.args.parts.now.before c.args.parts.now.next c.args.parts.now.terms.now c.in_ok-own.own.values.items
node_is g c = node_of c.requires.parts c.requires.suits (c.as_slice-lefts.ensures.value ∙ c.requires.left.values_are) (c.as_slice-rights.ensures.value ∙ c.requires.right.values_are) c.in_ok-own.ensures

-- the node over its parts
abbrev joined : (g : Over) (c : In_ok-own g) → NodeIds
joined g c =
    let parts = c.args.parts.now in
    let self = c.args.self.now in
    record {
      left = parts.left;
      right = parts.right;
      own = record { ref_ptr = parts.left.ref_ptr; now = c.in_ok-own.own };
      id = self.id + 2 * parts.next;
      cap = self.whole.now.bound + 1;
      left_within = c.requires.left.within;
      right_within = c.requires.right.within;
      made = values_made (self.whole.now.bound + 1) _ _ _ parts.left.now.values.items parts.right.now.values.items c.as_slice-lefts.ensures.value c.as_slice-rights.ensures.value c.in_ok-own.ensures;
      few = omega (arith, self.whole.now.whole.small);
      ids = omega (arith, (node_is g c).within, self.ids);
    }

-- what is handed over of it has the steps of its own clauses
same : (g : Over) (c : In_ok-own g) → HaveSameSteps (node_given (joined g c) c.args.parts.now.lefts.now c.args.parts.now.rights.now) (own_pairs c.args.self.now.whole.now.bound c.args.parts.now.lefts.now c.args.parts.now.rights.now c.args.parts.now.before c.args.self.now.id)
same g c = own_steps c.requires.parts c.requires.suits.positive c.args.self.now.id (joined g c) refl refl c.requires.left c.requires.right

pub invariant_of-node : goal.invariant_of-node
invariant_of-node g c =
    let n = joined g (goal.at.invariant_of-node g c).In_ok-own in
    record { left_within = n.left_within; right_within = n.right_within; made = n.made; few = n.few; ids = n.ids }

pub derive_node-requires : goal.derive_node-requires
derive_node-requires g c = omega (arith, (same g (goal.at.derive_node-requires g c).In_ok-own).count, c.requires.room)

pub returns-in_err-own : goal.returns-in_err-own
returns-in_err-own g c =
    let no = c.from_residual.ensures.0 in
    record { hands = steps_lack_first _ (g.T.StepSink.state c.args.sink.now) c.from_residual.result c.from_residual.ensures.1; next = IfOk-from_err _ _ no; leaves = IfOk-from_err _ _ no }

pub returns-in_err-derive_node : goal.returns-in_err-derive_node
returns-in_err-derive_node g c =
    let old = g.T.StepSink.state c.args.sink.now in
    let new = g.T.StepSink.state c.derive_node.new.sink in
    let result = c.from_residual-in_err-derive_node.result in
    let part = stopped_as ((same g (goal.at.returns-in_err-derive_node g c).In_ok-own).steps old.next) c.in_err-derive_node.ensures in
    let no = c.from_residual-in_err-derive_node.ensures.0 in
    record { hands = steps_stopped result _ _ old new c.from_residual-in_err-derive_node.ensures.1 part; next = IfOk-from_err _ _ no; leaves = IfOk-from_err _ _ no }

pub overflow_add-next : goal.overflow_add-next
overflow_add-next g c = omega (arith, (node_is g (goal.at.overflow_add-next g c).In_ok-own).within, c.args.self.now.ids)

pub invariant_of-part : goal.invariant_of-part
invariant_of-part g c =
    let own = node_is g (goal.at.invariant_of-part g c).In_ok-own in
    record {
      rising = rising_values c.args.self.now.whole.now.bound (tree_of (weights c.args.parts.now.terms.now)) c.in_ok-own.own.values.items own.values_are;
      ids = omega (arith, own.within, c.args.self.now.ids);
    }

pub returns : goal.returns
returns g c =
    let parts = c.args.parts.now in
    let self = c.args.self.now in
    let w = self.whole.now in
    let us = c.in_ok-own.own.values.items in
    let own = node_is g (goal.at.returns g c).In_ok-own in
    let old = g.T.StepSink.state c.args.sink.now in
    record {
      hands = subst (λ (ss : List Step). TakesSteps ss old (g.T.StepSink.state c.derive_node.new.sink)) ((same g (goal.at.returns g c).In_ok-own).steps old.next) c.in_ok-derive_node.ensures;
      next = omega (arith, own.after);
      leaves = record {
        values_are = own.values_are;
        ids_are = own_source w.bound c.requires.parts self.id us own.values_are;
        within = all_within w.bound (tree_of (weights parts.terms.now)) us own.values_are;
      };
    }
