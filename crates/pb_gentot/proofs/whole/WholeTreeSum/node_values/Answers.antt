use Rattle.std.proofs.Common.{◌≡◌, ℕ, List, refl, sym, ap, subst, ◌∙◌, arith}
use Rattle.std.specs.Prelude.{IfOk}
use Rattle.pb_norm.specs.Constraints.{weights}
use Rattle.pb_tree.specs.Scheme.{values}
use Rattle.pb_tree.specs.Tree.{tree_of}
use Rattle.pb_gentot.specs.Generalized.{generalized}
use Rattle.pb_gentot.proofs.Parts.{all_within, node_of, values_are_over}
use Rattle.pb_gentot.proofs.whole.WholeTreeSum.node_values.Goals as goal

pub values_over-requires-clause-left_small : goal.values_over-requires-clause-left_small
values_over-requires-clause-left_small c =
    all_within c.args.self.now.bound (tree_of (weights c.args.parts.now.lefts.now)) c.as_slice.result.now (c.as_slice.ensures.value ∙ c.requires.left)

pub values_over-requires-clause-right_small : goal.values_over-requires-clause-right_small
values_over-requires-clause-right_small c =
    all_within c.args.self.now.bound (tree_of (weights c.args.parts.now.rights.now)) c.as_slice-2.result.now (c.as_slice-2.ensures.value ∙ c.requires.right)

pub values_over-requires-clause-fits : goal.values_over-requires-clause-fits
values_over-requires-clause-fits c =
    let own = node_of c.requires.parts c.requires.suits (c.as_slice.ensures.value ∙ c.requires.left) (c.as_slice-2.ensures.value ∙ c.requires.right) refl in
    omega (arith, own.within, c.args.self.now.whole.fits)

pub returns : goal.returns
returns c =
    let bound = c.args.self.now.bound in
    let parts = c.args.parts.now in
    let over = values_are_over bound (tree_of (weights parts.lefts.now)) (tree_of (weights parts.rights.now)) _ _ (c.as_slice.ensures.value ∙ c.requires.left) (c.as_slice-2.ensures.value ∙ c.requires.right) in
    subst (λ (us : List ℕ). IfOk c.values_over.result (λ made. made.items ≡ us)) (over ∙ ap (values (generalized bound)) (sym c.requires.parts.halves.tree)) c.values_over.ensures
