use Rattle.std.proofs.Common.{◌≡◌, arith, ℕ, ◌+◌, Some, refl, sym, ap, ◌∙◌}
use Rattle.pb_steps.specs.StepGrammar.StepSymbol.{number}
use Rattle.pb_steps.proofs.Shorts.{behind_front, number_here}
use Rattle.pb_steps.proofs.short.id_at.Goals as goal

pub returns-clause-short : goal.returns-clause-short
returns-clause-short c =
    let same : c.in_ok-id.id ≡ c.in_ok-number.number = omega (arith, c.in_ok-id.ensures.same) in
    let told = c.in_ok-number.ensures.value ∙ ap (λ (n : ℕ). Some n) (sym same) in
    number_here c.args.left.now _ c.in_ok-number.number c.in_ok-number.count (c.in_ok-number.count + 1) (number c.in_ok-id.id) c.in-32.len_at_least (omega arith) (behind_front c.args.left.now 1) c.in_ok-number.ensures refl told
