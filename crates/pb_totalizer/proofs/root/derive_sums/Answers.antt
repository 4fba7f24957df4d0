use Rattle.std.proofs.Common.{◌≡◌, ◌≤◌, ◌+◌, ◌-◌, ◌*◌, ◌^◌, ℕ, ap, refl, arith, Ok}
use Rattle.std.specs.Prelude.{Result}
use Rattle.pb_norm.specs.Constraints.{weights}
use Rattle.pb_family.specs.declared.sink.SinkFault.{SinkFault}
use Rattle.pb_tree.specs.Scheme.{fresh_of}
use Rattle.pb_tree.specs.Tree.{tree_of}
use Rattle.pb_tree.proofs.TreeHanded.{steps_stopped}
use Rattle.pb_tree.proofs.Walking.{front_suits, back_suits}
use Rattle.pb_totalizer.specs.TotalizerSteps.{nodes_in}
use Rattle.pb_totalizer.specs.Totalizer.{totalizer}
use Rattle.pb_totalizer.proofs.RootHanding.{left_sums_stopped, left_next, right_sums_handed, is_root}
use Rattle.pb_totalizer.proofs.WholeTrees.{whole_suits}
use Rattle.pb_totalizer.proofs.root.derive_sums.Goals as goal

pub halves-requires : goal.halves-requires
halves-requires g c = omega (arith, c.args.whole.now.whole.from, c.args.whole.now.whole.more)

pub derive_along_tree-requires-clause-some : goal.derive_along_tree-requires-clause-some
derive_along_tree-requires-clause-some g c = c.halves.ensures.front_some

pub derive_along_tree-requires-clause-suits : goal.derive_along_tree-requires-clause-suits
derive_along_tree-requires-clause-suits g c = front_suits c.halves.ensures (whole_suits c.args.whole.now.whole)

pub derive_along_tree-requires-clause-room : goal.derive_along_tree-requires-clause-room
derive_along_tree-requires-clause-room g c =
    let whole : nodes_in (tree_of (weights c.args.whole.now.terms.now)) ≡ nodes_in (tree_of (weights c.halves.result.0.now)) + nodes_in (tree_of (weights c.halves.result.1.now)) + 1 = ap nodes_in c.halves.ensures.tree in
    omega (arith, whole, c.requires.room)

pub returns-in_err-left-clause-hands : goal.returns-in_err-left-clause-hands
returns-in_err-left-clause-hands g c =
    let w = c.args.whole.now in
    let t = tree_of (weights w.terms.now) in
    let half = c.halves.ensures in
    let l = tree_of (weights c.halves.result.0.now) in
    let r = tree_of (weights c.halves.result.1.now) in
    let old = g.T.StepSink.state c.args.sink.now in
    let id_is : c.args.id + 2 * 0 ≡ c.args.id = omega arith in
    left_sums_stopped w.bound t l r half.tree c.args.id old (w.first + 0) (c.args.id + 2 * 0) id_is c.from_residual.result _ (g.T.StepSink.state c.derive_along_tree.new.sink) c.from_residual.ensures.1 c.in_err-left.ensures.hands

pub overflow_sub-left_sum : goal.overflow_sub-left_sum
overflow_sub-left_sum g c = omega (arith, c.next_id-left_sum.ensures, c.in_ok-left.ensures.hands.ids, c.requires.given)

pub derive_along_tree-requires-2-clause-some : goal.derive_along_tree-requires-2-clause-some
derive_along_tree-requires-2-clause-some g c = c.halves.ensures.back_some

pub derive_along_tree-requires-2-clause-suits : goal.derive_along_tree-requires-2-clause-suits
derive_along_tree-requires-2-clause-suits g c = back_suits c.halves.ensures (whole_suits c.args.whole.now.whole) c.in_ok-left.left.next c.in_ok-left.ensures.next

pub derive_along_tree-requires-2-clause-given : goal.derive_along_tree-requires-2-clause-given
derive_along_tree-requires-2-clause-given g c = omega (arith, c.in_ok-left.ensures.hands.ids, c.requires.given)

pub derive_along_tree-requires-2-clause-room : goal.derive_along_tree-requires-2-clause-room
derive_along_tree-requires-2-clause-room g c =
    let w = c.args.whole.now in
    let t = tree_of (weights w.terms.now) in
    let half = c.halves.ensures in
    let l = tree_of (weights c.halves.result.0.now) in
    let r = tree_of (weights c.halves.result.1.now) in
    let old = g.T.StepSink.state c.args.sink.now in
    let id_is : c.args.id + 2 * 0 ≡ c.args.id = omega arith in
    let mid = g.T.StepSink.state c.derive_along_tree.new.sink in
    let whole : nodes_in t ≡ nodes_in l + nodes_in r + 1 = ap nodes_in half.tree in
    omega (arith, left_next w.bound t l r half.tree c.args.id old (w.first + 0) (c.args.id + 2 * 0) id_is mid c.in_ok-left.ensures.hands, whole, c.requires.room)

pub returns-in_err-right-clause-hands : goal.returns-in_err-right-clause-hands
returns-in_err-right-clause-hands g c =
    let w = c.args.whole.now in
    let t = tree_of (weights w.terms.now) in
    let half = c.halves.ensures in
    let l = tree_of (weights c.halves.result.0.now) in
    let r = tree_of (weights c.halves.result.1.now) in
    let old = g.T.StepSink.state c.args.sink.now in
    let id_is : c.args.id + 2 * 0 ≡ c.args.id = omega arith in
    let mid = g.T.StepSink.state c.derive_along_tree.new.sink in
    let last = g.T.StepSink.state c.derive_along_tree-2.new.sink in
    let right_is : c.args.id + 2 * c.in_ok-left.left.next ≡ c.args.id + 2 * fresh_of (totalizer w.bound) l = omega (arith, c.in_ok-left.ensures.next) in
    let result = c.from_residual-in_err-right.result in
    right_sums_handed w.bound t l r half.tree c.args.id old (w.first + 0) (c.args.id + 2 * 0) id_is mid c.in_ok-left.ensures.hands (w.first + c.in_ok-left.left.next) (c.args.id + 2 * c.in_ok-left.left.next) right_is result last (steps_stopped result _ _ mid last c.from_residual-in_err-right.ensures.1 c.in_err-right.ensures.hands)

pub overflow_sub-right_sum : goal.overflow_sub-right_sum
overflow_sub-right_sum g c = omega (arith, c.next_id-right_sum.ensures, c.in_ok-left.ensures.hands.ids, c.in_ok-right.ensures.hands.ids, c.requires.given)

pub overflow_mul-output : goal.overflow_mul-output
overflow_mul-output g c =
    let w = c.args.whole.now in
    let room : fresh_of (totalizer w.bound) (tree_of (weights w.terms.now)) ≤ 2 ^ 31 = omega (arith, w.whole.fits) in
    omega (arith, c.in_ok-left.ensures.next, c.in_ok-right.ensures.next, ap (fresh_of (totalizer w.bound)) c.halves.ensures.tree, room, c.requires.ids, w.whole.more, w.whole.few)

pub overflow_add-output : goal.overflow_add-output
overflow_add-output g c =
    let w = c.args.whole.now in
    let room : fresh_of (totalizer w.bound) (tree_of (weights w.terms.now)) ≤ 2 ^ 31 = omega (arith, w.whole.fits) in
    omega (arith, c.in_ok-left.ensures.next, c.in_ok-right.ensures.next, ap (fresh_of (totalizer w.bound)) c.halves.ensures.tree, room, c.requires.ids, w.whole.more, w.whole.few)

pub overflow_mul-output-2 : goal.overflow_mul-output-2
overflow_mul-output-2 g c =
    let w = c.args.whole.now in
    let room : fresh_of (totalizer w.bound) (tree_of (weights w.terms.now)) ≤ 2 ^ 31 = omega (arith, w.whole.fits) in
    omega (arith, c.in_ok-left.ensures.next, c.in_ok-right.ensures.next, ap (fresh_of (totalizer w.bound)) c.halves.ensures.tree, room, c.requires.ids, w.whole.more, w.whole.few)

pub overflow_add-output-2 : goal.overflow_add-output-2
overflow_add-output-2 g c =
    let w = c.args.whole.now in
    let room : fresh_of (totalizer w.bound) (tree_of (weights w.terms.now)) ≤ 2 ^ 31 = omega (arith, w.whole.fits) in
    omega (arith, c.in_ok-left.ensures.next, c.in_ok-right.ensures.next, ap (fresh_of (totalizer w.bound)) c.halves.ensures.tree, room, c.requires.ids, w.whole.more, w.whole.few)

pub returns-clause-hands : goal.returns-clause-hands
returns-clause-hands g c =
    let w = c.args.whole.now in
    let t = tree_of (weights w.terms.now) in
    let half = c.halves.ensures in
    let l = tree_of (weights c.halves.result.0.now) in
    let r = tree_of (weights c.halves.result.1.now) in
    let old = g.T.StepSink.state c.args.sink.now in
    let id_is : c.args.id + 2 * 0 ≡ c.args.id = omega arith in
    let mid = g.T.StepSink.state c.derive_along_tree.new.sink in
    let last = g.T.StepSink.state c.derive_along_tree-2.new.sink in
    let right_is : c.args.id + 2 * c.in_ok-left.left.next ≡ c.args.id + 2 * fresh_of (totalizer w.bound) l = omega (arith, c.in_ok-left.ensures.next) in
    let done : Result (Unit {0}) SinkFault = Ok tt in
    right_sums_handed w.bound t l r half.tree c.args.id old (w.first + 0) (c.args.id + 2 * 0) id_is mid c.in_ok-left.ensures.hands (w.first + c.in_ok-left.left.next) (c.args.id + 2 * c.in_ok-left.left.next) right_is done last c.in_ok-right.ensures.hands

pub returns-clause-root : goal.returns-clause-root
returns-clause-root g c =
    let w = c.args.whole.now in
    let t = tree_of (weights w.terms.now) in
    let half = c.halves.ensures in
    let l = tree_of (weights c.halves.result.0.now) in
    let r = tree_of (weights c.halves.result.1.now) in
    let old = g.T.StepSink.state c.args.sink.now in
    let id_is : c.args.id + 2 * 0 ≡ c.args.id = omega arith in
    let mid = g.T.StepSink.state c.derive_along_tree.new.sink in
    let last = g.T.StepSink.state c.derive_along_tree-2.new.sink in
    let right_is : c.args.id + 2 * c.in_ok-left.left.next ≡ c.args.id + 2 * fresh_of (totalizer w.bound) l = omega (arith, c.in_ok-left.ensures.next) in
    is_root w.bound t l r half.tree c.args.id old (w.first + 0) (c.args.id + 2 * 0) id_is mid c.in_ok-left.ensures.hands (w.first + c.in_ok-left.left.next) (c.args.id + 2 * c.in_ok-left.left.next) right_is last c.in_ok-right.ensures.hands c.args.own _ c.in_ok-left.ensures.side c.in_ok-right.ensures.side (ap (λ (k : ℕ). k - 1) c.next_id-left_sum.ensures) (ap (λ (k : ℕ). k - 1) c.next_id-right_sum.ensures)
    refl (omega (arith, c.in_ok-left.ensures.next, c.in_ok-right.ensures.next)) refl
