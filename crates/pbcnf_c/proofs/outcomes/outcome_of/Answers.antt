use Rattle.std.proofs.Common.{◌≡◌, Option, subst, sym}
use Rattle.std.specs.Prelude.{IfSome}
use Rattle.pb_suite.specs.declared.outcome.Outcome.{Outcome}
use Rattle.pbcnf_c.specs.Refusals.{refusal_of}
use Rattle.pbcnf_c.specs.inner.Outcomes.{outcome_at}
use Rattle.pbcnf_c.proofs.Numbered.{has_numbers, not_other}
use Rattle.pbcnf_c.proofs.outcomes.outcome_of.Goals as goal

pub returns-then-eq-clause-some : goal.returns-then-eq-clause-some
returns-then-eq-clause-some c =
    subst (λ (found : Option Outcome). IfSome found (λ o. c.args.refusal.now ≡ refusal_of o)) (sym c.outcome_at.ensures)
    (has_numbers c.args.refusal.now c.in-Some.told (outcome_at c.args.refusal.now) c.numbers_at.result c.eq.result c.numbers_at.ensures c.in-Some.is c.eq.ensures c.if-eq.true)

pub returns-else-eq-clause-none : goal.returns-else-eq-clause-none
returns-else-eq-clause-none c = λ none o proper is. not_other c.args.refusal.now c.in-Some.told o c.numbers_at.result c.eq.result proper is c.numbers_at.ensures c.in-Some.is c.eq.ensures c.if-eq.false
