use Rattle.std.proofs.Common.{sym, subst}
use Rattle.pb_norm.specs.Constraints.{Constraint, HasVarsWithin}
use Rattle.pb_steps.specs.Operations.{IsNarrow}
use Rattle.pb_rules.proofs.Withins.{written-within, written-narrow}
use Rattle.pb_rules.proofs.rows.claim_of.Goals as goal

pub returns-clause-narrow : goal.returns-clause-narrow
returns-clause-narrow c = subst IsNarrow (sym c.in_ok-claim.ensures) (written-narrow c.args.terms.now c.args.right.now c.requires)

pub returns-clause-within : goal.returns-clause-within
returns-clause-within c = λ vars known. subst (λ (claim : Constraint). HasVarsWithin vars claim.terms) (sym c.in_ok-claim.ensures) (written-within vars c.args.terms.now c.args.right.now known)
