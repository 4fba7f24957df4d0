use Rattle.std.proofs.Common.{◌≡◌, ◌∙◌, Some, ap, sym, subst}
use Rattle.pb_norm.specs.Constraints.{Constraint, HasVarsWithin}
use Rattle.pb_steps.specs.Database.{constraint_at}
use Rattle.pb_steps.specs.Operations.{IsNarrow}
use Rattle.pb_rules.proofs.Withins.{restriction-narrow, restriction-within}
use Rattle.pb_database.proofs.SoundLemmas.{at-sound}
use Rattle.pb_rules.proofs.red.goal_of.Goals as goal

pub returns-clause-narrow : goal.returns-clause-narrow
returns-clause-narrow c =
    let found : constraint_at c.args.db.now.live c.args.id ≡ Some c.in_ok-constraint.constraint = sym c.in-Some.ensures.found ∙ ap (λ (d : Constraint). Some d) (sym c.in_ok-constraint.ensures) in
    let sound = at-sound c.args.db.now.vars c.args.db.now.live c.args.id c.in_ok-constraint.constraint c.in-Some.ensures.sound found in
    subst IsNarrow (sym c.restricted.ensures) (restriction-narrow c.args.sets.now c.in_ok-constraint.constraint sound.0)

pub returns-clause-within : goal.returns-clause-within
returns-clause-within c =
    let found : constraint_at c.args.db.now.live c.args.id ≡ Some c.in_ok-constraint.constraint = sym c.in-Some.ensures.found ∙ ap (λ (d : Constraint). Some d) (sym c.in_ok-constraint.ensures) in
    let sound = at-sound c.args.db.now.vars c.args.db.now.live c.args.id c.in_ok-constraint.constraint c.in-Some.ensures.sound found in
    subst (λ (g : Constraint). HasVarsWithin c.args.db.now.vars g.terms) (sym c.restricted.ensures) (restriction-within c.args.db.now.vars c.args.sets.now c.in_ok-constraint.constraint sound.1)
