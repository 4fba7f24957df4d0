use Rattle.std.proofs.Common.{arith, rules, FitsSigned, to_z, of_z, ℕ, ◌+◌, Some, pos, codes, refl, sym, ap, ◌∙◌}
use mir.Syntax.{w128}
use Rattle.std.specs.Prelude.{ℤ}
use Rattle.std.proofs.lemmas.Int.{to_z-of_z}
use Rattle.std.specs.Option.{option_map}
use Rattle.pb_steps.specs.StepGrammar.StepSymbol.{factor, number}
use Rattle.pb_steps.proofs.Shorts.{behind_front, number_here}
use Rattle.pb_steps.proofs.ShortLines.{factor-short}
use Rattle.pb_steps.proofs.front_op.number_op_at.Goals as goal

pub returns-then-mark_at-clause-short : goal.returns-then-mark_at-clause-short
returns-then-mark_at-clause-short c =
    let z = c.in_ok-factor.factor in
    let fits : FitsSigned w128 z = search rules in
    let told = ap (option_map pos) c.in_ok-value.ensures.value ∙ ap (λ (y : ℤ). Some y) (sym c.in_ok-factor.ensures.same) ∙ ap (λ (y : ℤ). Some y) (sym (to_z-of_z w128 z fits)) in
    let number = number_here c.args.left.now _ c.in_ok-value.value c.in_ok-value.count (c.in_ok-value.count + 1) (factor (to_z w128 (of_z w128 z))) c.in-32.len_at_least (omega arith) (behind_front c.args.left.now 1) c.in_ok-value.ensures refl told in
    factor-short c.args.left.now (codes "*") (to_z w128 (of_z w128 z)) c.in_ok-value.count number (c.mark_at.ensures c.if-mark_at.true)

pub returns-then-mark_at-2-clause-short : goal.returns-then-mark_at-2-clause-short
returns-then-mark_at-2-clause-short c =
    let z = c.in_ok-factor-2.factor in
    let fits : FitsSigned w128 z = search rules in
    let told = ap (option_map pos) c.in_ok-value.ensures.value ∙ ap (λ (y : ℤ). Some y) (sym c.in_ok-factor-2.ensures.same) ∙ ap (λ (y : ℤ). Some y) (sym (to_z-of_z w128 z fits)) in
    let number = number_here c.args.left.now _ c.in_ok-value.value c.in_ok-value.count (c.in_ok-value.count + 1) (factor (to_z w128 (of_z w128 z))) c.in-32.len_at_least (omega arith) (behind_front c.args.left.now 1) c.in_ok-value.ensures refl told in
    factor-short c.args.left.now (codes "d") (to_z w128 (of_z w128 z)) c.in_ok-value.count number (c.mark_at-2.ensures c.if-mark_at-2.true)

pub returns-clause-short : goal.returns-clause-short
returns-clause-short c =
    let told = c.in_ok-value.ensures.value ∙ ap (λ (n : ℕ). Some n) (sym c.in_ok-id.ensures.same) in
    number_here c.args.left.now _ c.in_ok-value.value c.in_ok-value.count (c.in_ok-value.count + 1) (number c.in_ok-id.id) c.in-32.len_at_least (omega arith) (behind_front c.args.left.now 1) c.in_ok-value.ensures refl told
