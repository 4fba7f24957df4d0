-- A node's own justifications, by what the code has of its parts.
use Rattle.std.proofs.Common.{◌≡◌, ◌+◌, ◌*◌, ℕ, List, ap, ◌∙◌, [], ◌∷◌, subst, arith}
use Rattle.pb_base.specs.declared.literal.Term.{Term}
use Rattle.pb_norm.specs.Constraints.{AllPositive, weights}
use Rattle.pb_derive.specs.Justifications.{Justification}
use Rattle.pb_family.proofs.SameSteps.{HaveSameSteps}
use Rattle.pb_tree.specs.Places.{place_of}
use Rattle.pb_tree.specs.Scheme.{values, fresh_of}
use Rattle.pb_tree.specs.Tree.{tree_of}
use Rattle.pb_tree.specs.TreeSteps.{output_ids, pair_justifications}
use Rattle.pb_tree.specs.Walks.{AreParts, fresh_over}
use Rattle.pb_tree.proofs.HandingLaws.{same_then}
use Rattle.pb_tree.proofs.TreeHanded.{pairs_first_free}
use Rattle.pb_gentot.specs.Generalized.{generalized, ascending, sums}
use Rattle.pb_gentot.specs.GeneralizedSteps.{generalized_pairs}
use Rattle.pb_gentot.specs.declared.node_ids.NodeIds.{NodeIds}
use Rattle.pb_gentot.specs.inner.Sources.{IsHanded, node_given}
use Rattle.pb_gentot.proofs.Handed.{node_same, source_is}
use Rattle.pb_gentot.proofs.Parts.{AreLeavesPositive, leaves_add, values_are_over}

-- its own justifications
abbrev pub own_pairs : ℕ → List Term → List Term → ℕ → ℕ → List Justification
own_pairs bound lefts rights before id = pair_justifications (generalized bound) generalized_pairs (tree_of (weights lefts)) (tree_of (weights rights)) before (id + 2 * before)

-- what the code hands over of the node itself has the steps of its own
pub own_steps : {bound before next : ℕ} {ts lefts rights : List Term} → AreParts (generalized bound) ts lefts rights before next → AllPositive (weights ts) → (id : ℕ) (made : NodeIds) → made.cap ≡ bound + 1 → made.id ≡ id + 2 * next
    → IsHanded bound lefts (id + 2 * before) made.left.now → IsHanded bound rights (id + 2 * (before + fresh_over (generalized bound) lefts)) made.right.now
    → HaveSameSteps (node_given made lefts rights) (own_pairs bound lefts rights before id)
own_steps {bound} {before} {ts = ts} {lefts} {rights} parts positive id made cap at lh rh =
    let s = generalized bound in
    let l = tree_of (weights lefts) in
    let r = tree_of (weights rights) in
    let us = made.left.now.values.items in
    let vs = made.right.now.values.items in
    let is : made.own.now.values.items ≡ ascending (bound + 1) (sums (bound + 1) us vs) = made.made ∙ ap (λ (n : ℕ). ascending n (sums n us vs)) cap in
    let middle : id + 2 * (before + fresh_over s lefts) ≡ id + 2 * before + 2 * fresh_of s l = omega arith in
    same_then
    (node_same bound lefts rights (id + 2 * before) made cap lh.values_are rh.values_are lh.ids_are (rh.ids_are ∙ ap (output_ids s r) middle) (is ∙ values_are_over bound l r us vs lh.values_are rh.values_are)
    (omega (arith, at, parts.behind)) (subst AreLeavesPositive parts.halves.tree (leaves_add ts positive)))
    (pairs_first_free s generalized_pairs l r 0 before (id + 2 * before))

-- where its outputs have their constraints
pub own_source : (bound : ℕ) {ts lefts rights : List Term} {before next : ℕ} → AreParts (generalized bound) ts lefts rights before next → (id : ℕ) (us : List ℕ) → us ≡ values (generalized bound) (tree_of (weights ts))
    → (λ (u : ℕ). (id + 2 * next + 2 * place_of u us) ∷ []) ≡ output_ids (generalized bound) (tree_of (weights ts)) (id + 2 * before)
own_source bound {ts} {lefts} {rights} {before} {next} parts id us own =
    source_is bound ts (tree_of (weights lefts)) (tree_of (weights rights)) (id + 2 * before) (id + 2 * next) us parts.halves.tree (own ∙ ap (values (generalized bound)) parts.halves.tree) (omega (arith, parts.behind))
