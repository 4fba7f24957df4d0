use Rattle.std.proofs.Common.{sym, subst}
use Rattle.pb_norm.specs.Constraints.{Constraint, HasVarsWithin}
use Rattle.pb_rules.proofs.Withins.{negation-within}
use Rattle.pb_rules.proofs.rup.is_shown.Goals as goal

pub refutes-requires-clause-more : goal.refutes-requires-clause-more
refutes-requires-clause-more c = subst (λ (d : Constraint). HasVarsWithin c.args.db.now.vars d.terms) (sym c.in_ok-denial.ensures) (negation-within c.args.db.now.vars c.args.claim.now c.requires.within)

pub refutes_listed-requires : goal.refutes_listed-requires
refutes_listed-requires c = subst (λ (d : Constraint). HasVarsWithin c.args.db.now.vars d.terms) (sym c.in_ok-denial.ensures) (negation-within c.args.db.now.vars c.args.claim.now c.requires.within)
