use Rattle.std.proofs.Common.{◌≡◌, ◌∙◌, sym, subst, ℕ, None, Some}
use Rattle.std.specs.Prelude.{find, nat_lt, nat_le}
use Rattle.pb_steps.specs.Steps.{vars_of_terms, vars_of_sets}
use Rattle.pb_rules.proofs.Obliged.{causes_original}
use Rattle.pb_rules.proofs.red.seen_denial.Goals as goal

pub returns-in-Some-set_original : goal.returns-in-Some-set_original
returns-in-Some-set_original c =
    causes_original c.args.db.now c.args.terms.now c.args.right.now c.args.sets.now c.in-Some-set_original.var
    (subst (λ (n : ℕ). None ≡ find (λ v. nat_lt n v) (vars_of_terms c.args.terms.now)) c.vars.ensures.value c.in_default.ensures)
    (subst (λ (n : ℕ). None ≡ find (λ v. nat_lt n v) (vars_of_sets c.args.sets.now)) c.vars-2.ensures.value c.in_default-set_above.ensures)
    (sym c.is_slim.ensures ∙ c.if-not-is_slim.false)
    (subst (λ (n : ℕ). Some c.in-Some-set_original.var ≡ find (λ v. nat_le v n) (vars_of_sets c.args.sets.now)) c.original.ensures c.in-Some-set_original.ensures)
