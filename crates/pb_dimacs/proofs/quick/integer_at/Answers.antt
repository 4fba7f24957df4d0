use Rattle.std.proofs.Common.{◌+◌, List, ℕ, rules, arith, subst}
use Rattle.std.specs.Prelude.{ℤ}
use Rattle.std.proofs.lemmas.Int.{ints}
use Rattle.pb_steps.specs.Fronts.{IsNumberAt}
use Rattle.pb_steps.proofs.Shorts.{behind_front}
use Rattle.pb_dimacs.specs.inner.Fronts.{IsIntegerAt}
use Rattle.pb_dimacs.proofs.QuickWords.{negative_integer, plain_integer}
use Rattle.pb_dimacs.proofs.quick.integer_at.Goals as goal

pub returns-then-begins_with : goal.returns-then-begins_with
returns-then-begins_with c =
    let bytes = c.args.bytes.now in
    let number = subst (λ (w : List ℕ). IsNumberAt w c.in_ok-number.number c.in_ok-number.count) (behind_front bytes 1) c.in_ok-number.ensures in
    subst (λ (z : ℤ). IsIntegerAt bytes z (c.in_ok-number.count + 1)) (omega (arith, ints))
    (negative_integer bytes c.in_ok-number.number c.in_ok-number.count (c.begins_with.ensures (search rules)) (omega arith) number)

pub returns : goal.returns
returns c =
    subst (λ (z : ℤ). IsIntegerAt c.args.bytes.now z c.in_ok-number-2.count) (omega (arith, ints))
    (plain_integer c.args.bytes.now c.in_ok-number-2.number c.in_ok-number-2.count (omega arith) c.in_ok-number-2.ensures)
