use Rattle.std.proofs.Common.{arith, ◌+◌, pos, refl, ap}
use Rattle.std.specs.Prelude.{neg_ℤ}
use Rattle.std.specs.Option.{option_map}
use Rattle.pb_steps.specs.StepGrammar.StepSymbol.{integer}
use Rattle.pb_steps.proofs.Shorts.{behind_front, number_here_one}
use Rattle.pb_lrat.proofs.quick.negated_at.Goals as goal

pub returns-clause-short : goal.returns-clause-short
returns-clause-short c =
    let told = ap (option_map (λ n. neg_ℤ (pos n))) c.in_ok-var.ensures.number.value in
    number_here_one 45 c.args.left.now _ c.in_ok-var.var c.in_ok-var.count (c.in_ok-var.count + 2) (integer (neg_ℤ (pos c.in_ok-var.var))) c.in-32.len_at_least (omega arith) (omega arith) (behind_front c.args.left.now 2) c.in_ok-var.ensures.number refl refl told
