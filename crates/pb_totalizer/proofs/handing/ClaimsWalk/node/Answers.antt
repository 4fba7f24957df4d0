use Rattle.std.proofs.Common.{◌+◌, ◌*◌, refl, arith, Ok}
use Rattle.std.specs.Prelude.{Result}
use Rattle.pb_family.specs.declared.sink.SinkFault.{SinkFault}
use Rattle.pb_family.proofs.Deriving.{steps_same}
use Rattle.pb_tree.proofs.TreeHanded.{steps_stopped}
use Rattle.pb_totalizer.proofs.Halved.{halved, node_of}
use Rattle.pb_totalizer.proofs.PartsHanded.{node_same, node_source}
use Rattle.pb_totalizer.proofs.handing.ClaimsWalk.node.Goals as goal

pub overflow_add-parts : goal.overflow_add-parts
overflow_add-parts g c =
    let w = c.args.self.now.whole.now in
    let half = halved w.bound c.requires.parts.halves in
    omega (arith, half.left_within, half.right_within, c.requires.left.count, c.requires.right.count, w.whole.more, w.whole.few)

pub invariant_of-node : goal.invariant_of-node
invariant_of-node g c =
    let w = c.args.self.now.whole.now in
    let own = node_of c.requires.parts c.requires.suits c.min-count.ensures c.requires.left.count c.requires.right.count in
    record {
      room = omega (arith, own.within, c.args.self.now.ids);
      left_within = omega (arith, own.half.left_within, c.requires.left.count);
      right_within = omega (arith, own.half.right_within, c.requires.right.count);
      counted = c.min-count.ensures;
      few = omega (arith, w.whole.more, w.whole.few);
    }

pub derive_own-requires : goal.derive_own-requires
derive_own-requires g c =
    let parts = c.args.parts.now in
    let self = c.args.self.now in
    let own = node_of c.requires.parts c.requires.suits c.min-count.ensures c.requires.left.count c.requires.right.count in
    let same = node_same self.whole.now.bound c.requires.parts self.id (self.id + 2 * parts.next) refl c.min-count.result parts.left.now parts.right.now own.own c.requires.left c.requires.right in
    omega (arith, same.count, c.requires.room)

pub returns-in_err-derive_own-clause-hands : goal.returns-in_err-derive_own-clause-hands
returns-in_err-derive_own-clause-hands g c =
    let parts = c.args.parts.now in
    let self = c.args.self.now in
    let old = g.T.StepSink.state c.args.sink.now in
    let new = g.T.StepSink.state c.derive_own.new.sink in
    let own = node_of c.requires.parts c.requires.suits c.min-count.ensures c.requires.left.count c.requires.right.count in
    let same = node_same self.whole.now.bound c.requires.parts self.id (self.id + 2 * parts.next) refl c.min-count.result parts.left.now parts.right.now own.own c.requires.left c.requires.right in
    steps_same c.from_residual.result _ _ old new (same.steps old.next)
    (steps_stopped c.from_residual.result _ _ old new c.from_residual.ensures.1 c.in_err-derive_own.ensures)

pub returns-clause-hands : goal.returns-clause-hands
returns-clause-hands g c =
    let parts = c.args.parts.now in
    let self = c.args.self.now in
    let old = g.T.StepSink.state c.args.sink.now in
    let new = g.T.StepSink.state c.derive_own.new.sink in
    let own = node_of c.requires.parts c.requires.suits c.min-count.ensures c.requires.left.count c.requires.right.count in
    let same = node_same self.whole.now.bound c.requires.parts self.id (self.id + 2 * parts.next) refl c.min-count.result parts.left.now parts.right.now own.own c.requires.left c.requires.right in
    let done : Result (Unit {0}) SinkFault = Ok tt in
    steps_same done _ _ old new (same.steps old.next) c.in_ok-derive_own.ensures

pub returns-clause-next : goal.returns-clause-next
returns-clause-next g c = (node_of c.requires.parts c.requires.suits c.min-count.ensures c.requires.left.count c.requires.right.count).after

pub returns-clause-leaves : goal.returns-clause-leaves
returns-clause-leaves g c =
    let parts = c.args.parts.now in
    let self = c.args.self.now in
    let own = node_of c.requires.parts c.requires.suits c.min-count.ensures c.requires.left.count c.requires.right.count in
    record { ids = node_source self.whole.now.bound c.requires.parts self.id (self.id + 2 * parts.next) refl; count = own.counted }
