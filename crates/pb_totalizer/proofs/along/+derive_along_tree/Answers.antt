use Rattle.std.proofs.Common.{◌≡◌, ◌+◌, ◌-◌, ◌*◌, ℕ, ap, refl, sym, subst, arith}
use Rattle.std.specs.Prelude.{slice_index_or}
use Rattle.pb_norm.specs.Constraints.{weighted, weights}
use Rattle.pb_family.specs.StepSinks.{TakesSteps}
use Rattle.pb_family.proofs.Deriving.{takes_no_steps}
use Rattle.pb_tree.specs.Scheme.{fresh_of}
use Rattle.pb_tree.specs.Tree.{Tree, tree_of}
use Rattle.pb_tree.proofs.SplitTerms.{leaf_of, some_term}
use Rattle.pb_tree.proofs.Walking.{leaf_fresh, front_suits, back_suits}
use Rattle.pb_totalizer.specs.Totalizer.{totalizer}
use Rattle.pb_totalizer.specs.declared.side.Side.TheVariants.{Leaf, Node}
use Rattle.pb_totalizer.specs.inner.Phases.{phase_steps}
use Rattle.pb_totalizer.specs.inner.Sides.{IsSide}
use Rattle.pb_totalizer.specs.laws.TotalizerLaws.{node_length, values_length}
use Rattle.pb_totalizer.proofs.PhaseHanding.{left_room, left_stopped, right_room, right_stopped, own_room, own_stopped, own_taken}
use Rattle.pb_totalizer.proofs.SidesOf.{IsJoint, joint_is, joint_side, leaf_side}
use Rattle.pb_totalizer.proofs.along.+derive_along_tree.Goals as goal

pub returns-then-terms-eq1-clause-hands : goal.returns-then-terms-eq1-clause-hands
returns-then-terms-eq1-clause-hands g t c =
    let of = c.args.of.now in
    let w = of.whole.now in
    let old = g.T.StepSink.state c.args.sink.now in
    subst (λ (u : Tree). TakesSteps (phase_steps of.phase w.bound u (w.first + c.args.before) (of.id + 2 * c.args.before) old.next) old old) (sym (leaf_of c.args.terms.now some_term c.if-terms-eq1.true)) (takes_no_steps old)

pub returns-then-terms-eq1-clause-next : goal.returns-then-terms-eq1-clause-next
returns-then-terms-eq1-clause-next g t c = omega (arith, leaf_fresh (totalizer c.args.of.now.whole.now.bound) c.args.terms.now c.if-terms-eq1.true)

pub returns-then-terms-eq1-clause-side : goal.returns-then-terms-eq1-clause-side
returns-then-terms-eq1-clause-side g t c =
    let of = c.args.of.now in
    let w = of.whole.now in
    let first : ℕ = w.first + c.args.before in
    let id : ℕ = of.id + 2 * c.args.before in
    let term = slice_index_or c.args.terms.now 0 c.index-terms-0.result in
    let leaf = leaf_of c.args.terms.now c.index-terms-0.result c.if-terms-eq1.true in
    subst (λ (u : Tree). IsSide w.bound u first id (Leaf term.lit)) (sym leaf) (leaf_side w.bound (weighted term) first id term.lit refl)

pub derive_along_tree-requires : goal.derive_along_tree-requires
derive_along_tree-requires g t' c κs within =
    let of = c.args.of.now in
    let w = of.whole.now in
    let half = c.halves.ensures in
    let room = left_room of.phase w.bound (tree_of (weights c.args.terms.now)) (tree_of (weights c.halves.result.0.now)) (tree_of (weights c.halves.result.1.now)) half.tree (w.first + c.args.before) (of.id + 2 * c.args.before)
    (g.T.StepSink.state c.args.sink.now) c.requires.room in
    (omega (arith, half.whole, half.back_some), (within, (half.front_some, (front_suits half c.requires.suits, (c.requires.given, room)))))

pub returns-in_err-left-clause-hands : goal.returns-in_err-left-clause-hands
returns-in_err-left-clause-hands g t' c =
    let of = c.args.of.now in
    let w = of.whole.now in
    let bound : ℕ = w.bound in
    let ts = c.args.terms.now in
    let half = c.halves.ensures in
    let t = tree_of (weights ts) in
    let l = tree_of (weights c.halves.result.0.now) in
    let r = tree_of (weights c.halves.result.1.now) in
    let first : ℕ = w.first + c.args.before in
    let id : ℕ = of.id + 2 * c.args.before in
    let old = g.T.StepSink.state c.args.sink.now in
    left_stopped of.phase bound t l r half.tree first id old c.from_residual.result _ (g.T.StepSink.state c.derive_along_tree.new.sink) c.from_residual.ensures.1 c.in_err-left.ensures.hands

pub derive_along_tree-requires-2 : goal.derive_along_tree-requires-2
derive_along_tree-requires-2 g t' c κs within =
    let of = c.args.of.now in
    let w = of.whole.now in
    let bound : ℕ = w.bound in
    let ts = c.args.terms.now in
    let half = c.halves.ensures in
    let t = tree_of (weights ts) in
    let l = tree_of (weights c.halves.result.0.now) in
    let r = tree_of (weights c.halves.result.1.now) in
    let first : ℕ = w.first + c.args.before in
    let id : ℕ = of.id + 2 * c.args.before in
    let old = g.T.StepSink.state c.args.sink.now in
    let mid = g.T.StepSink.state c.derive_along_tree.new.sink in
    let f : ℕ = w.first + c.in_ok-left.left.next in
    let i : ℕ = of.id + 2 * c.in_ok-left.left.next in
    let first_is : f ≡ first + fresh_of (totalizer bound) l = omega (arith, c.in_ok-left.ensures.next) in
    let id_is : i ≡ id + 2 * fresh_of (totalizer bound) l = omega (arith, c.in_ok-left.ensures.next) in
    let room = right_room of.phase bound t l r half.tree first id old mid c.in_ok-left.ensures.hands f i first_is id_is c.requires.room in (
      omega (arith, half.whole, half.front_some),
      (within, (half.back_some, (back_suits half c.requires.suits c.in_ok-left.left.next c.in_ok-left.ensures.next, (omega (arith, c.in_ok-left.ensures.hands.ids, c.requires.given), room)))),
    )

pub returns-in_err-right-clause-hands : goal.returns-in_err-right-clause-hands
returns-in_err-right-clause-hands g t' c =
    let of = c.args.of.now in
    let w = of.whole.now in
    let bound : ℕ = w.bound in
    let ts = c.args.terms.now in
    let half = c.halves.ensures in
    let t = tree_of (weights ts) in
    let l = tree_of (weights c.halves.result.0.now) in
    let r = tree_of (weights c.halves.result.1.now) in
    let first : ℕ = w.first + c.args.before in
    let id : ℕ = of.id + 2 * c.args.before in
    let old = g.T.StepSink.state c.args.sink.now in
    let mid = g.T.StepSink.state c.derive_along_tree.new.sink in
    let f : ℕ = w.first + c.in_ok-left.left.next in
    let i : ℕ = of.id + 2 * c.in_ok-left.left.next in
    let first_is : f ≡ first + fresh_of (totalizer bound) l = omega (arith, c.in_ok-left.ensures.next) in
    let id_is : i ≡ id + 2 * fresh_of (totalizer bound) l = omega (arith, c.in_ok-left.ensures.next) in
    right_stopped of.phase bound t l r half.tree first id old mid c.in_ok-left.ensures.hands f i first_is id_is c.from_residual-in_err-right.result _ (g.T.StepSink.state c.derive_along_tree-2.new.sink) c.from_residual-in_err-right.ensures.1 c.in_err-right.ensures.hands

pub joint_of-node-requires-clause-left : goal.joint_of-node-requires-clause-left
joint_of-node-requires-clause-left g t c = omega (arith, c.in_ok-left.ensures.side.count, values_length c.args.of.now.whole.now.bound (tree_of (weights c.halves.result.0.now)))

pub joint_of-node-requires-clause-right : goal.joint_of-node-requires-clause-right
joint_of-node-requires-clause-right g t c = omega (arith, c.in_ok-right.ensures.side.count, values_length c.args.of.now.whole.now.bound (tree_of (weights c.halves.result.1.now)))

pub joint_of-node-requires-clause-fits : goal.joint_of-node-requires-clause-fits
joint_of-node-requires-clause-fits g t c =
    let bound : ℕ = c.args.of.now.whole.now.bound in
    let l = tree_of (weights c.halves.result.0.now) in
    let r = tree_of (weights c.halves.result.1.now) in
    omega (
      arith,
      c.in_ok-left.ensures.next,
      c.in_ok-right.ensures.next,
      c.in_ok-left.ensures.side.count,
      c.in_ok-right.ensures.side.count,
      ap (fresh_of (totalizer bound)) c.halves.ensures.tree,
      node_length bound l r,
      c.requires.suits.fits,
    )

pub derive_node-requires : goal.derive_node-requires
derive_node-requires g t' c =
    let of = c.args.of.now in
    let w = of.whole.now in
    let bound : ℕ = w.bound in
    let ts = c.args.terms.now in
    let half = c.halves.ensures in
    let t = tree_of (weights ts) in
    let l = tree_of (weights c.halves.result.0.now) in
    let r = tree_of (weights c.halves.result.1.now) in
    let first : ℕ = w.first + c.args.before in
    let id : ℕ = of.id + 2 * c.args.before in
    let old = g.T.StepSink.state c.args.sink.now in
    let mid = g.T.StepSink.state c.derive_along_tree.new.sink in
    let f : ℕ = w.first + c.in_ok-left.left.next in
    let i : ℕ = of.id + 2 * c.in_ok-left.left.next in
    let first_is : f ≡ first + fresh_of (totalizer bound) l = omega (arith, c.in_ok-left.ensures.next) in
    let id_is : i ≡ id + 2 * fresh_of (totalizer bound) l = omega (arith, c.in_ok-left.ensures.next) in
    let mid_2 = g.T.StepSink.state c.derive_along_tree-2.new.sink in
    let n = c.joint_of-node.result in
    let made = c.joint_of-node.ensures in
    let joint : IsJoint bound l r first id n = joint_is c.in_ok-left.left.part c.in_ok-right.right.part n c.in_ok-left.ensures.side c.in_ok-right.ensures.side first_is id_is made.left made.right made.cap
    (omega (arith, made.first, c.in_ok-left.ensures.next, c.in_ok-right.ensures.next)) (omega (arith, made.id, c.in_ok-left.ensures.next, c.in_ok-right.ensures.next)) made.last n.inputs in
    record { room = own_room of.phase bound t l r half.tree first id old mid c.in_ok-left.ensures.hands f i first_is id_is mid_2 c.in_ok-right.ensures.hands n joint c.requires.room }

pub returns-in_err-derive_node-clause-hands : goal.returns-in_err-derive_node-clause-hands
returns-in_err-derive_node-clause-hands g t' c =
    let of = c.args.of.now in
    let w = of.whole.now in
    let bound : ℕ = w.bound in
    let ts = c.args.terms.now in
    let half = c.halves.ensures in
    let t = tree_of (weights ts) in
    let l = tree_of (weights c.halves.result.0.now) in
    let r = tree_of (weights c.halves.result.1.now) in
    let first : ℕ = w.first + c.args.before in
    let id : ℕ = of.id + 2 * c.args.before in
    let old = g.T.StepSink.state c.args.sink.now in
    let mid = g.T.StepSink.state c.derive_along_tree.new.sink in
    let f : ℕ = w.first + c.in_ok-left.left.next in
    let i : ℕ = of.id + 2 * c.in_ok-left.left.next in
    let first_is : f ≡ first + fresh_of (totalizer bound) l = omega (arith, c.in_ok-left.ensures.next) in
    let id_is : i ≡ id + 2 * fresh_of (totalizer bound) l = omega (arith, c.in_ok-left.ensures.next) in
    let mid_2 = g.T.StepSink.state c.derive_along_tree-2.new.sink in
    let n = c.joint_of-node.result in
    let made = c.joint_of-node.ensures in
    let joint : IsJoint bound l r first id n = joint_is c.in_ok-left.left.part c.in_ok-right.right.part n c.in_ok-left.ensures.side c.in_ok-right.ensures.side first_is id_is made.left made.right made.cap
    (omega (arith, made.first, c.in_ok-left.ensures.next, c.in_ok-right.ensures.next)) (omega (arith, made.id, c.in_ok-left.ensures.next, c.in_ok-right.ensures.next)) made.last n.inputs in
    let one : c.next_id-one.result - 1 ≡ mid.next - 1 = ap (λ (k : ℕ). k - 1) c.next_id-one.ensures in
    let other : c.next_id-other.result - 1 ≡ mid_2.next - 1 = ap (λ (k : ℕ). k - 1) c.next_id-other.ensures in
    let after = g.T.StepSink.state c.derive_node.new.sink in
    own_stopped of.phase bound t l r half.tree first id old mid c.in_ok-left.ensures.hands f i first_is id_is mid_2 c.in_ok-right.ensures.hands n joint (c.next_id-one.result - 1) (c.next_id-other.result - 1) one other after c.from_residual-in_err-derive_node.result _ c.from_residual-in_err-derive_node.ensures.1 c.in_err-derive_node.ensures

pub returns-clause-hands : goal.returns-clause-hands
returns-clause-hands g t' c =
    let of = c.args.of.now in
    let w = of.whole.now in
    let bound : ℕ = w.bound in
    let ts = c.args.terms.now in
    let half = c.halves.ensures in
    let t = tree_of (weights ts) in
    let l = tree_of (weights c.halves.result.0.now) in
    let r = tree_of (weights c.halves.result.1.now) in
    let first : ℕ = w.first + c.args.before in
    let id : ℕ = of.id + 2 * c.args.before in
    let old = g.T.StepSink.state c.args.sink.now in
    let mid = g.T.StepSink.state c.derive_along_tree.new.sink in
    let f : ℕ = w.first + c.in_ok-left.left.next in
    let i : ℕ = of.id + 2 * c.in_ok-left.left.next in
    let first_is : f ≡ first + fresh_of (totalizer bound) l = omega (arith, c.in_ok-left.ensures.next) in
    let id_is : i ≡ id + 2 * fresh_of (totalizer bound) l = omega (arith, c.in_ok-left.ensures.next) in
    let mid_2 = g.T.StepSink.state c.derive_along_tree-2.new.sink in
    let n = c.joint_of-node.result in
    let made = c.joint_of-node.ensures in
    let joint : IsJoint bound l r first id n = joint_is c.in_ok-left.left.part c.in_ok-right.right.part n c.in_ok-left.ensures.side c.in_ok-right.ensures.side first_is id_is made.left made.right made.cap
    (omega (arith, made.first, c.in_ok-left.ensures.next, c.in_ok-right.ensures.next)) (omega (arith, made.id, c.in_ok-left.ensures.next, c.in_ok-right.ensures.next)) made.last n.inputs in
    let one : c.next_id-one.result - 1 ≡ mid.next - 1 = ap (λ (k : ℕ). k - 1) c.next_id-one.ensures in
    let other : c.next_id-other.result - 1 ≡ mid_2.next - 1 = ap (λ (k : ℕ). k - 1) c.next_id-other.ensures in
    let after = g.T.StepSink.state c.derive_node.new.sink in
    own_taken of.phase bound t l r half.tree first id old mid c.in_ok-left.ensures.hands f i first_is id_is mid_2 c.in_ok-right.ensures.hands n joint (c.next_id-one.result - 1) (c.next_id-other.result - 1) one other after c.in_ok-derive_node.ensures

pub returns-clause-next : goal.returns-clause-next
returns-clause-next g t c =
    let bound : ℕ = c.args.of.now.whole.now.bound in
    let l = tree_of (weights c.halves.result.0.now) in
    let r = tree_of (weights c.halves.result.1.now) in
    omega (
      arith,
      c.joint_of-node.ensures.last,
      c.in_ok-left.ensures.next,
      c.in_ok-right.ensures.next,
      c.in_ok-left.ensures.side.count,
      c.in_ok-right.ensures.side.count,
      ap (fresh_of (totalizer bound)) c.halves.ensures.tree,
      node_length bound l r,
    )

pub returns-clause-side : goal.returns-clause-side
returns-clause-side g t' c =
    let of = c.args.of.now in
    let w = of.whole.now in
    let bound : ℕ = w.bound in
    let ts = c.args.terms.now in
    let half = c.halves.ensures in
    let t = tree_of (weights ts) in
    let l = tree_of (weights c.halves.result.0.now) in
    let r = tree_of (weights c.halves.result.1.now) in
    let first : ℕ = w.first + c.args.before in
    let id : ℕ = of.id + 2 * c.args.before in
    let old = g.T.StepSink.state c.args.sink.now in
    let mid = g.T.StepSink.state c.derive_along_tree.new.sink in
    let f : ℕ = w.first + c.in_ok-left.left.next in
    let i : ℕ = of.id + 2 * c.in_ok-left.left.next in
    let first_is : f ≡ first + fresh_of (totalizer bound) l = omega (arith, c.in_ok-left.ensures.next) in
    let id_is : i ≡ id + 2 * fresh_of (totalizer bound) l = omega (arith, c.in_ok-left.ensures.next) in
    let mid_2 = g.T.StepSink.state c.derive_along_tree-2.new.sink in
    let n = c.joint_of-node.result in
    let made = c.joint_of-node.ensures in
    let joint : IsJoint bound l r first id n = joint_is c.in_ok-left.left.part c.in_ok-right.right.part n c.in_ok-left.ensures.side c.in_ok-right.ensures.side first_is id_is made.left made.right made.cap
    (omega (arith, made.first, c.in_ok-left.ensures.next, c.in_ok-right.ensures.next)) (omega (arith, made.id, c.in_ok-left.ensures.next, c.in_ok-right.ensures.next)) made.last n.inputs in
    subst (λ (u : Tree). IsSide bound u first id (Node n.row)) (sym half.tree) (joint_side bound l r first id n joint)
