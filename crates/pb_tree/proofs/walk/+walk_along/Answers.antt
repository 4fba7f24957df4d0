use Rattle.std.proofs.Common.{arith, ◌≡◌, ◌+◌, ℕ, List, length, refl, subst}
use Rattle.std.proofs.lemmas.Result.{IfOk-from_err}
use Rattle.std.specs.Prelude.{IfOk}
use Rattle.pb_norm.specs.Constraints.{weights}
use Rattle.pb_tree.specs.Scheme.{along}
use Rattle.pb_tree.specs.Tree.{tree_of}
use Rattle.pb_tree.specs.Walks.{fresh_over}
use Rattle.pb_tree.proofs.Walking.{leaf_along, leaf_fresh, front_suits, back_suits, node_count, left_stopped, right_stopped, all_handed}
use Rattle.pb_tree.proofs.walk.+walk_along.Goals as goal

pub leaf-requires-clause-one : goal.leaf-requires-clause-one
leaf-requires-clause-one g t c = c.if-terms-eq1.true

pub leaf-requires-clause-suits : goal.leaf-requires-clause-suits
leaf-requires-clause-suits g t c = c.requires.suits

pub returns-then-terms-eq1-clause-hands : goal.returns-then-terms-eq1-clause-hands
returns-then-terms-eq1-clause-hands g t c =
    let w = g.W.Walk in
    subst (λ (xs : List w.Item). w.hands xs c.leaf.result c.args.sink.now c.args.sink.now) (leaf_along (w.scheme c.args.of.now) (w.own c.args.of.now) c.args.terms.now c.args.before c.if-terms-eq1.true) (c.leaf.ensures.hands c.args.sink.now)

pub returns-then-terms-eq1-clause-next : goal.returns-then-terms-eq1-clause-next
returns-then-terms-eq1-clause-next g t c =
    let none : c.args.before ≡ c.args.before + fresh_over (g.W.Walk.scheme c.args.of.now) c.args.terms.now = omega (arith, leaf_fresh (g.W.Walk.scheme c.args.of.now) c.args.terms.now c.if-terms-eq1.true) in
    subst (λ (n : ℕ). IfOk c.leaf.result (λ placed. placed.next ≡ n)) none c.leaf.ensures.next

pub returns-then-terms-eq1-clause-leaves : goal.returns-then-terms-eq1-clause-leaves
returns-then-terms-eq1-clause-leaves g t c = c.leaf.ensures.leaves

pub walk_along-requires : goal.walk_along-requires
walk_along-requires g t c κs within =
    let w = g.W.Walk in
    let s = w.scheme c.args.of.now in
    let own = w.own c.args.of.now in
    let parts = c.halves.ensures in
    let room = g.met.W.Walk.room_first (length (along s own (tree_of (weights c.halves.result.0.now)) c.args.before)) _ c.args.sink.now
    (subst (λ (n : ℕ). w.has_room n c.args.sink.now) (node_count parts s own c.args.before (c.args.before + fresh_over s c.halves.result.0.now) refl) c.requires.room) in
    (omega (arith, parts.whole, parts.back_some), (within.0, (within.1.0, (within.1.1.0, (within.1.1.1, (parts.front_some, (front_suits parts c.requires.suits, room)))))))

pub walk_along-requires-2 : goal.walk_along-requires-2
walk_along-requires-2 g t c κs within =
    let w = g.W.Walk in
    let s = w.scheme c.args.of.now in
    let own = w.own c.args.of.now in
    let parts = c.halves.ensures in
    let at = c.in_ok-left.ensures.next in
    let rest = g.met.W.Walk.room_then (along s own (tree_of (weights c.halves.result.0.now)) c.args.before) _ c.in_ok-left.left c.args.sink.now c.walk_along.new.sink
    (subst (λ (n : ℕ). w.has_room n c.args.sink.now) (node_count parts s own c.args.before c.in_ok-left.left.next at) c.requires.room) c.in_ok-left.ensures.hands in
    let room = g.met.W.Walk.room_first (length (along s own (tree_of (weights c.halves.result.1.now)) c.in_ok-left.left.next)) _ c.walk_along.new.sink rest in
    (omega (arith, parts.whole, parts.front_some), (within.0, (within.1.0, (within.1.1.0, (within.1.1.1, (parts.back_some, (back_suits parts c.requires.suits c.in_ok-left.left.next at, room)))))))

pub returns-in_err-left-clause-hands : goal.returns-in_err-left-clause-hands
returns-in_err-left-clause-hands g t c =
    let w = g.W.Walk in
    let s = w.scheme c.args.of.now in
    left_stopped w.hands g.met.W.Walk.then g.met.W.Walk.stops c.halves.ensures s (w.own c.args.of.now) c.args.before (c.args.before + fresh_over s c.halves.result.0.now) refl
    c.from_residual.result c.in_err-left.field-0.0 c.args.sink.now c.walk_along.new.sink c.from_residual.ensures.1 c.in_err-left.ensures.hands

pub returns-in_err-left-clause-next : goal.returns-in_err-left-clause-next
returns-in_err-left-clause-next g t c = IfOk-from_err _ _ c.from_residual.ensures.0

pub returns-in_err-left-clause-leaves : goal.returns-in_err-left-clause-leaves
returns-in_err-left-clause-leaves g t c = IfOk-from_err _ _ c.from_residual.ensures.0

pub returns-in_err-right-clause-hands : goal.returns-in_err-right-clause-hands
returns-in_err-right-clause-hands g t c =
    let w = g.W.Walk in
    right_stopped w.hands g.met.W.Walk.then g.met.W.Walk.stops c.halves.ensures (w.scheme c.args.of.now) (w.own c.args.of.now) c.args.before c.in_ok-left.left.next c.in_ok-left.ensures.next
    c.from_residual-in_err-right.result c.in_err-right.field-0.0 c.in_ok-left.left c.args.sink.now c.walk_along.new.sink c.walk_along-2.new.sink c.from_residual-in_err-right.ensures.1
    c.in_ok-left.ensures.hands c.in_err-right.ensures.hands

pub returns-in_err-right-clause-next : goal.returns-in_err-right-clause-next
returns-in_err-right-clause-next g t c = IfOk-from_err _ _ c.from_residual-in_err-right.ensures.0

pub returns-in_err-right-clause-leaves : goal.returns-in_err-right-clause-leaves
returns-in_err-right-clause-leaves g t c = IfOk-from_err _ _ c.from_residual-in_err-right.ensures.0

pub node-requires-clause-suits : goal.node-requires-clause-suits
node-requires-clause-suits g t c = c.requires.suits

pub node-requires-clause-parts : goal.node-requires-clause-parts
node-requires-clause-parts g t c = record { halves = c.halves.ensures; behind = omega (arith, c.in_ok-left.ensures.next, c.in_ok-right.ensures.next) }

pub node-requires-clause-left : goal.node-requires-clause-left
node-requires-clause-left g t c = c.in_ok-left.ensures.leaves

pub node-requires-clause-right : goal.node-requires-clause-right
node-requires-clause-right g t c = subst (λ (n : ℕ). g.W.Walk.leaves c.args.of.now c.halves.result.1.now n c.in_ok-right.right.part) c.in_ok-left.ensures.next c.in_ok-right.ensures.leaves

pub node-requires-clause-room : goal.node-requires-clause-room
node-requires-clause-room g t c =
    let w = g.W.Walk in
    let s = w.scheme c.args.of.now in
    let own = w.own c.args.of.now in
    let parts = c.halves.ensures in
    let at = c.in_ok-left.ensures.next in
    let rest = g.met.W.Walk.room_then (along s own (tree_of (weights c.halves.result.0.now)) c.args.before) _ c.in_ok-left.left c.args.sink.now c.walk_along.new.sink
    (subst (λ (n : ℕ). w.has_room n c.args.sink.now) (node_count parts s own c.args.before c.in_ok-left.left.next at) c.requires.room) c.in_ok-left.ensures.hands in
    g.met.W.Walk.room_then (along s own (tree_of (weights c.halves.result.1.now)) c.in_ok-left.left.next) _ c.in_ok-right.right c.walk_along.new.sink c.walk_along-2.new.sink rest c.in_ok-right.ensures.hands

pub returns-clause-hands : goal.returns-clause-hands
returns-clause-hands g t c =
    let w = g.W.Walk in
    all_handed w.hands g.met.W.Walk.then g.met.W.Walk.stops c.halves.ensures (w.scheme c.args.of.now) (w.own c.args.of.now) c.args.before c.in_ok-left.left.next c.in_ok-left.ensures.next
    c.node.result c.in_ok-left.left c.in_ok-right.right c.args.sink.now c.walk_along.new.sink c.walk_along-2.new.sink c.node.new.sink c.in_ok-left.ensures.hands c.in_ok-right.ensures.hands c.node.ensures.hands

pub returns-clause-next : goal.returns-clause-next
returns-clause-next g t c = c.node.ensures.next

pub returns-clause-leaves : goal.returns-clause-leaves
returns-clause-leaves g t c = c.node.ensures.leaves
