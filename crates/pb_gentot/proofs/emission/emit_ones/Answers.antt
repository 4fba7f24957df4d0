use Rattle.std.proofs.Common.{arith}
use Rattle.pb_family.proofs.Emission.{emitting_starts}
use Rattle.pb_gentot.specs.inner.Nodes.{one_over}
use Rattle.pb_gentot.proofs.Steps.{value_step, value_fault, values_taken}
use Rattle.pb_gentot.proofs.emission.emit_ones.Goals as goal

pub loop-i-init : goal.loop-i-init
loop-i-init g c =
    emitting_starts _ _

pub returns-in_err-clause : goal.returns-in_err-clause
returns-in_err-clause g c =
    value_fault c.from_residual.result _ (one_over c.args.node.now c.args.part.now) c.args.part.now.values.items c.loop-i.i _ _ c.from_residual.ensures.1 (omega arith) c.one_literals-one.ensures c.loop-i.invariant c.in_err-clause.ensures

pub loop-i-preserved : goal.loop-i-preserved
loop-i-preserved g c =
    value_step (one_over c.args.node.now c.args.part.now) c.args.part.now.values.items c.loop-i.i _ _ (omega arith) c.one_literals-one.ensures c.loop-i.invariant c.in_ok-clause.ensures

pub returns : goal.returns
returns g c =
    values_taken (one_over c.args.node.now c.args.part.now) c.args.part.now.values.items c.loop-i.i (omega arith) c.loop-i.invariant
