use Rattle.std.proofs.Common.{refl, arith}
use Rattle.std.proofs.lemmas.Result.{IfOk-weaker}
use Rattle.pb_norm.specs.Constraints.{weights}
use Rattle.pb_tree.specs.Tree.{tree_of}
use Rattle.pb_tree.proofs.SplitTerms.{leaf_of, fresh_parts, some_term}
use Rattle.pb_gentot.specs.Generalized.{generalized}
use Rattle.pb_gentot.proofs.Bounds.{sizes_of, node_measured}
use Rattle.pb_gentot.proofs.Parts.{all_within}
use Rattle.pb_gentot.proofs.measure.+measure.Goals as goal

pub returns-then-terms-eq1 : goal.returns-then-terms-eq1
returns-then-terms-eq1 t c =
    let leaf = leaf_of c.args.terms.now some_term c.if-terms-eq1.true in
    rw leaf (record { values_are = rw leaf at c.in_ok-values.ensures; fresh_is = refl; clauses_are = refl; fits = omega arith })

pub returns-in-None : goal.returns-in-None
returns-in-None t c =
    let fresh = fresh_parts (generalized c.args.bound) c.args.terms.now c.halves.result.0.now c.halves.result.1.now c.halves.ensures.tree in
    let over = rw c.in-None.is at c.in_ok-part.ensures in
    omega arith

pub returns-in-None-2 : goal.returns-in-None-2
returns-in-None-2 t c =
    let fresh = fresh_parts (generalized c.args.bound) c.args.terms.now c.halves.result.0.now c.halves.result.1.now c.halves.ensures.tree in
    let left = rw c.in-Some.is at c.in_ok-part.ensures in
    let over = rw c.in-None-2.is at c.in_ok-part-2.ensures in
    omega (arith, left.fresh_is, left.fits)

pub measure_node-requires : goal.measure_node-requires
measure_node-requires t c =
    let left = rw c.in-Some.is at c.in_ok-part.ensures in
    let right = rw c.in-Some-2.is at c.in_ok-part-2.ensures in
    let parts = c.halves.ensures in
    let sizes = sizes_of c.args.bound c.args.budget c.halves.result.0.now c.halves.result.1.now _ _ parts.front_some parts.back_some (omega (arith, parts.whole, c.requires.few)) c.requires.modest left right in
    record {
      left_within = all_within c.args.bound (tree_of (weights c.halves.result.0.now)) _ left.values_are;
      right_within = all_within c.args.bound (tree_of (weights c.halves.result.1.now)) _ right.values_are;
      small = c.requires.small;
      modest = omega (arith, left.fresh_is, left.fits, right.fresh_is, right.fits, c.requires.modest);
      left_few = sizes.left_small;
      right_few = sizes.right_small;
      fit = sizes.all_fit;
    }

pub returns : goal.returns
returns t c =
    let left = rw c.in-Some.is at c.in_ok-part.ensures in
    let right = rw c.in-Some-2.is at c.in_ok-part-2.ensures in
    IfOk-weaker c.measure_node.result _ _ (λ found. node_measured c.args.bound c.args.budget c.args.terms.now _ _ _ _ found c.halves.ensures.tree left right) c.measure_node.ensures
