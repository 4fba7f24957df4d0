use Rattle.std.proofs.Common.{arith, ◌+◌, Some, refl, ap, ◌∙◌}
use Rattle.std.specs.Prelude.{ℤ, pos, neg_ℤ}
use Rattle.std.specs.Option.{option_map}
use Rattle.std.proofs.lemmas.Int.{ints}
use Rattle.pb_steps.specs.StepGrammar.StepSymbol.{coefficient}
use Rattle.pb_steps.proofs.Shorts.{behind_front, number_here_one}
use Rattle.pb_steps.proofs.short.coefficient_at.Goals as goal

pub returns-in-43-clause-short : goal.returns-in-43-clause-short
returns-in-43-clause-short c =
    let told = ap (option_map pos) c.in_ok-number.ensures.value in
    number_here_one 43 c.args.left.now _ c.in_ok-number.number c.in_ok-number.count (c.in_ok-number.count + 2) (coefficient _) c.in-32.len_at_least (omega arith) (omega arith) (behind_front c.args.left.now 2) c.in_ok-number.ensures refl refl (told ∙ ap (λ (z : ℤ). Some z) (omega (arith, ints)))

pub returns-in-45-clause-short : goal.returns-in-45-clause-short
returns-in-45-clause-short c =
    let told = ap (option_map (λ n. neg_ℤ (pos n))) c.in_ok-number.ensures.value in
    number_here_one 45 c.args.left.now _ c.in_ok-number.number c.in_ok-number.count (c.in_ok-number.count + 2) (coefficient _) c.in-32.len_at_least (omega arith) (omega arith) (behind_front c.args.left.now 2) c.in_ok-number.ensures refl refl (told ∙ ap (λ (z : ℤ). Some z) (omega (arith, ints)))
