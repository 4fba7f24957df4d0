use Rattle.std.proofs.Common.{arith}
use Rattle.pb_adder.proofs.Inputs.{inputs_next, inputs_last}
use Rattle.pb_adder.proofs.level.push_inputs.Goals as goal

pub loop-term-preserved : goal.loop-term-preserved
loop-term-preserved c =
    inputs_next c.args.terms.now c.loop-term.term-index c.term-item.result c.args.level c.args.queue.now.items c.loop-term.queue.items c.push_input.new.queue.items (omega arith) c.term-item.is c.loop-term.invariant c.in_ok-push_input.ensures

pub returns : goal.returns
returns c = inputs_last c.args.terms.now c.loop-term.term-index c.args.level c.args.queue.now.items c.loop-term.queue.items (omega arith) c.loop-term.invariant
