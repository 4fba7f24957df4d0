use Rattle.std.proofs.Common.{arith, ◌+◌, pos, refl}
use Rattle.pb_steps.specs.StepGrammar.StepSymbol.{integer}
use Rattle.pb_steps.proofs.Shorts.{behind_front, number_here, plain_told}
use Rattle.pb_lrat.proofs.quick.literal_at.Goals as goal

pub returns-clause-short : goal.returns-clause-short
returns-clause-short c =
    let told = plain_told _ c.in_ok-var.var c.in_ok-var.ensures.number.digits c.in_ok-var.ensures.number.value in
    number_here c.args.left.now _ c.in_ok-var.var c.in_ok-var.count (c.in_ok-var.count + 1) (integer (pos c.in_ok-var.var)) c.in-32.len_at_least (omega arith) (behind_front c.args.left.now 1) c.in_ok-var.ensures.number refl told
