use Rattle.std.proofs.Common.{◌≡◌, ◌<◌, ◌+◌, ◌^◌, ap, subst, sym, arith, length, Ok}
use Rattle.std.proofs.lemmas.Result.{IfOk-from_err}
use Rattle.std.specs.Prelude.{All, Result}
use Rattle.pb_norm.specs.Constraints.{weights}
use Rattle.pb_derive.specs.Reifications.{reification_steps}
use Rattle.pb_family.specs.declared.sink.SinkFault.{SinkFault}
use Rattle.pb_family.proofs.Deriving.{steps_lack_first, steps_same}
use Rattle.pb_tree.specs.Tree.{tree_of}
use Rattle.pb_tree.specs.TreeSteps.{reifications_from}
use Rattle.pb_tree.proofs.TreeHanded.{steps_stopped}
use Rattle.pb_tree.proofs.Walking.{length-own_reifications, node_of, own_meant}
use Rattle.pb_tree.proofs.meanings.MeaningsWalk.node.Goals as goal

pub returns-in_err-part-clause-hands : goal.returns-in_err-part-clause-hands
returns-in_err-part-clause-hands g c = steps_lack_first _ (g.T.StepSink.state c.args.sink.now) c.from_residual.result c.from_residual.ensures.1

pub overflow_add-first : goal.overflow_add-first
overflow_add-first g c =
    let own = node_of c.requires.parts c.requires.suits c.in_ok-part.ensures in
    omega (arith, own.within, c.first.ensures, (g.met.V.TreeSum.holds c.args.self.now.of.now).fits)

pub derive_outputs-requires-clause-small : goal.derive_outputs-requires-clause-small
derive_outputs-requires-clause-small g c =
    subst (All (λ u. u < 2 ^ 101)) (sym c.in_ok-part.ensures) ((g.met.V.TreeSum.holds c.args.self.now.of.now).small (tree_of (weights c.args.parts.now.terms.now)))

pub derive_outputs-requires-clause-low : goal.derive_outputs-requires-clause-low
derive_outputs-requires-clause-low g c = omega (arith, c.first.ensures, (g.met.V.TreeSum.holds c.args.self.now.of.now).low)

pub derive_outputs-requires-clause-fits : goal.derive_outputs-requires-clause-fits
derive_outputs-requires-clause-fits g c =
    let own = node_of c.requires.parts c.requires.suits c.in_ok-part.ensures in
    omega (arith, own.within, c.first.ensures, (g.met.V.TreeSum.holds c.args.self.now.of.now).fits)

pub derive_outputs-requires-clause-few : goal.derive_outputs-requires-clause-few
derive_outputs-requires-clause-few g c =
    let parts = c.args.parts.now in
    let own = node_of c.requires.parts c.requires.suits c.in_ok-part.ensures in
    let count = length-own_reifications (g.V.TreeSum.scheme c.args.self.now.of.now) (tree_of (weights parts.lefts.now)) (tree_of (weights parts.rights.now)) (g.V.TreeSum.start c.args.self.now.of.now + parts.before) in
    omega (arith, ap length own.own, count, c.requires.room)

pub returns-in_err-derive_outputs-clause-hands : goal.returns-in_err-derive_outputs-clause-hands
returns-in_err-derive_outputs-clause-hands g c =
    let parts = c.args.parts.now in
    let start = g.V.TreeSum.start c.args.self.now.of.now in
    let old = g.T.StepSink.state c.args.sink.now in
    let new = g.T.StepSink.state c.derive_outputs.new.sink in
    let us = g.V.TreeSum.list c.in_ok-part.part in
    let own = node_of c.requires.parts c.requires.suits c.in_ok-part.ensures in
    let at : c.first.result + parts.next ≡ start + parts.next = omega (arith, c.first.ensures) in
    let result = c.from_residual-in_err-derive_outputs.result in
    steps_same result _ _ old new (ap (reification_steps old.next) (own_meant c.requires.parts start (c.first.result + parts.next) us at own.own))
    (steps_stopped result _ (reification_steps old.next (reifications_from (c.first.result + parts.next) (weights parts.terms.now) us)) old new c.from_residual-in_err-derive_outputs.ensures.1 c.in_err-derive_outputs.ensures)

pub overflow_add-next : goal.overflow_add-next
overflow_add-next g c =
    let own = node_of c.requires.parts c.requires.suits c.in_ok-part.ensures in
    omega (arith, own.within, c.count.ensures, (g.met.V.TreeSum.holds c.args.self.now.of.now).fits)

pub returns-clause-hands : goal.returns-clause-hands
returns-clause-hands g c =
    let parts = c.args.parts.now in
    let start = g.V.TreeSum.start c.args.self.now.of.now in
    let old = g.T.StepSink.state c.args.sink.now in
    let own = node_of c.requires.parts c.requires.suits c.in_ok-part.ensures in
    let at : c.first.result + parts.next ≡ start + parts.next = omega (arith, c.first.ensures) in
    let done : Result (Unit {0}) SinkFault = Ok tt in
    steps_same done _ _ old (g.T.StepSink.state c.derive_outputs.new.sink) (ap (reification_steps old.next) (own_meant c.requires.parts start (c.first.result + parts.next) (g.V.TreeSum.list c.in_ok-part.part) at own.own)) c.in_ok-derive_outputs.ensures

pub returns-clause-next : goal.returns-clause-next
returns-clause-next g c =
    let own = node_of c.requires.parts c.requires.suits c.in_ok-part.ensures in
    omega (arith, own.after, c.count.ensures)

pub node_values-requires-clause-suits : goal.node_values-requires-clause-suits
node_values-requires-clause-suits g c = c.requires.suits

pub node_values-requires-clause-parts : goal.node_values-requires-clause-parts
node_values-requires-clause-parts g c = c.requires.parts

pub node_values-requires-clause-left : goal.node_values-requires-clause-left
node_values-requires-clause-left g c = c.requires.left

pub node_values-requires-clause-right : goal.node_values-requires-clause-right
node_values-requires-clause-right g c = c.requires.right

pub returns-in_err-part-clause-next : goal.returns-in_err-part-clause-next
returns-in_err-part-clause-next g c = IfOk-from_err _ _ c.from_residual.ensures.0

pub returns-in_err-part-clause-leaves : goal.returns-in_err-part-clause-leaves
returns-in_err-part-clause-leaves g c = IfOk-from_err _ _ c.from_residual.ensures.0

pub derive_outputs-requires-clause-light : goal.derive_outputs-requires-clause-light
derive_outputs-requires-clause-light g c = c.requires.suits.light

pub returns-in_err-derive_outputs-clause-next : goal.returns-in_err-derive_outputs-clause-next
returns-in_err-derive_outputs-clause-next g c = IfOk-from_err _ _ c.from_residual-in_err-derive_outputs.ensures.0

pub returns-in_err-derive_outputs-clause-leaves : goal.returns-in_err-derive_outputs-clause-leaves
returns-in_err-derive_outputs-clause-leaves g c = IfOk-from_err _ _ c.from_residual-in_err-derive_outputs.ensures.0

pub returns-clause-leaves : goal.returns-clause-leaves
returns-clause-leaves g c = c.in_ok-part.ensures
