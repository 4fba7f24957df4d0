use Rattle.std.proofs.Common.{◌∙◌, sym, subst}
use Rattle.pb_norm.specs.Constraints.{Constraint, HasVarsWithin}
use Rattle.pb_steps.specs.Operations.{IsNarrow}
use Rattle.pb_steps.specs.Substitutions.{restriction}
use Rattle.pb_rules.specs.inner.Obligations.{TellsShown}
use Rattle.pb_rules.proofs.Obliged.{shown_at_once}
use Rattle.pb_rules.proofs.Withins.{restriction-narrow, restriction-within}
use Rattle.pb_rules.proofs.red.own_is_met.Goals as goal

pub is_shown-requires-clause-goal : goal.is_shown-requires-clause-goal
is_shown-requires-clause-goal c = subst IsNarrow (sym c.in_ok-goal.ensures) (restriction-narrow c.args.sets.now c.args.claim.now c.requires.claim)

pub is_shown-requires-clause-goal_within : goal.is_shown-requires-clause-goal_within
is_shown-requires-clause-goal_within c =
    subst (λ (g : Constraint). HasVarsWithin c.args.db.now.vars g.terms) (sym c.in_ok-goal.ensures) (restriction-within c.args.db.now.vars c.args.sets.now c.args.claim.now c.requires.within)

pub returns-clause-met : goal.returns-clause-met
returns-clause-met c =
    subst (λ (g : Constraint). TellsShown c.args.db.now.live c.args.claim.now g c.in_ok-found.found) c.in_ok-goal.ensures c.in_ok-found.ensures.shown

pub returns-then-degree_left-eq0-clause-met : goal.returns-then-degree_left-eq0-clause-met
returns-then-degree_left-eq0-clause-met c =
    shown_at_once c.args.db.now.live c.args.claim.now (restriction c.args.sets.now c.args.claim.now) (sym c.degree_left.ensures ∙ c.if-degree_left-eq0.true)
