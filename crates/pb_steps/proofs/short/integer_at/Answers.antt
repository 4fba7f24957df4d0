use Rattle.std.proofs.Common.{arith, ◌+◌, Some, refl, ap, ◌∙◌}
use Rattle.std.specs.Prelude.{ℤ}
use Rattle.std.proofs.lemmas.Int.{ints}
use Rattle.pb_steps.specs.StepGrammar.StepSymbol.{integer}
use Rattle.pb_steps.proofs.Shorts.{behind_front, number_here, plain_told}
use Rattle.pb_steps.proofs.short.integer_at.Goals as goal

pub returns-clause-short : goal.returns-clause-short
returns-clause-short c =
    let told = plain_told _ c.in_ok-number.number c.in_ok-number.ensures.digits c.in_ok-number.ensures.value in
    number_here c.args.left.now _ c.in_ok-number.number c.in_ok-number.count (c.in_ok-number.count + 1) (integer _) c.in-32.len_at_least (omega arith) (behind_front c.args.left.now 1) c.in_ok-number.ensures refl (told ∙ ap (λ (z : ℤ). Some z) (omega (arith, ints)))
