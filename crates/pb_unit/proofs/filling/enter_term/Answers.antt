use Rattle.std.proofs.Common.{inl, inr, arith}
use Rattle.std.proofs.lemmas.Bool.{OnTrue_at, OnTrue_from}
use Rattle.pb_unit.proofs.Fillings.{added_term, skipped_term}
use Rattle.pb_unit.proofs.filling.enter_term.Goals as goal

pub returns-then-number-codes-clause-added : goal.returns-then-number-codes-clause-added
returns-then-number-codes-clause-added c =
    skipped_term c.args.codes.low c.args.codes.high c.args.place (record { coef = c.args.coef; lit = c.args.lit.now }) c.args.lists.now (λ r. elim c.then-number-codes.either [
      | inl less ↦ omega (arith, less, r.from, c.code-number.ensures)
      | inr more ↦ omega (arith, more.1, r.below, c.code-number.ensures)
    ])

pub returns-clause-added : goal.returns-clause-added
returns-clause-added c = OnTrue_from c.push.result _ (λ yes.
    added_term c.args.codes.low c.args.codes.high c.args.place (record { coef = c.args.coef; lit = c.args.lit.now }) c.args.lists.now c.push.new.self (record { from = omega (arith, c.if-number-codes.false, c.code-number.ensures); below = omega (arith, c.if-number-codes-2.false, c.code-number.ensures) }) (OnTrue_at yes c.push.ensures.pushed))
