use Rattle.std.proofs.Common.{rules, Some}
use Rattle.pb_steps.proofs.pol.number_op.Goals as goal

pub returns-in_err-factor : goal.returns-in_err-factor
returns-in_err-factor c = λ n is. let e = c.number_between.ensures.value (Some n) is in search rules

pub returns-then-eq : goal.returns-then-eq
returns-then-eq c = λ n is. let e = c.number_between.ensures.value (Some n) is in search rules

pub returns-in_err-factor-2 : goal.returns-in_err-factor-2
returns-in_err-factor-2 c = λ n is. let e = c.number_between-then-eq-2.ensures.value (Some n) is in search rules

pub returns-then-eq-2 : goal.returns-then-eq-2
returns-then-eq-2 c = λ n is. let e = c.number_between-then-eq-2.ensures.value (Some n) is in search rules

pub returns-in_err-id : goal.returns-in_err-id
returns-in_err-id c = λ n is. let e = c.number_between-2.ensures.value (Some n) is in search rules

pub returns : goal.returns
returns c = λ n is. let e = c.number_between-2.ensures.value (Some n) is in search rules
