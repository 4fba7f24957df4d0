use Rattle.std.proofs.Common.{arith, true, ◌+◌, refl}
use Rattle.pb_steps.specs.StepGrammar.StepSymbol.{literal}
use Rattle.pb_steps.proofs.Shorts.{behind_front, number_here_one, literal_told}
use Rattle.pb_steps.proofs.short.plain_at.Goals as goal

pub returns-clause-short : goal.returns-clause-short
returns-clause-short c =
    let told = literal_told true _ c.in_ok-var.var c.in_ok-var.ensures.number.value c.in_ok-var.ensures.named.0 in
    number_here_one 120 c.args.left.now _ c.in_ok-var.var c.in_ok-var.count (c.in_ok-var.count + 2) (literal record { var = c.in_ok-var.var; positive = true }) c.in-32.len_at_least (omega arith) (omega arith) (behind_front c.args.left.now 2) c.in_ok-var.ensures.number refl refl told
