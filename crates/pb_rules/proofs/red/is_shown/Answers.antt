use Rattle.std.proofs.Common.{◌≡◌, ◌∙◌, ap, sym, subst, false, ◌∷◌}
use Rattle.pb_norm.specs.Constraints.{Constraint, HasVarsWithin}
use Rattle.pb_steps.specs.Operations.{implies, negation}
use Rattle.pb_steps.specs.Database.{live_constraints}
use Rattle.pb_rules.proofs.Withins.{negation-within}
use Rattle.pb_rules.proofs.Obliged.{shown_from}
use Rattle.pb_rules.proofs.red.is_shown.Goals as goal

pub refutes-requires-clause-more : goal.refutes-requires-clause-more
refutes-requires-clause-more c = subst (λ (d : Constraint). HasVarsWithin c.args.db.now.vars d.terms) (sym c.in_ok-denial.ensures) (negation-within c.args.db.now.vars c.args.claim.now c.requires.claim_within)

pub refutes-requires-clause-second : goal.refutes-requires-clause-second
refutes-requires-clause-second c = subst (λ (d : Constraint). HasVarsWithin c.args.db.now.vars d.terms) (sym c.in_ok-opposite.ensures) (negation-within c.args.db.now.vars c.args.goal.now c.requires.goal_within)

pub returns-clause-shown : goal.returns-clause-shown
returns-clause-shown c =
    let live = live_constraints c.args.db.now.live in
    let list : c.in_ok-denial.denial ∷ c.in_ok-opposite.opposite ∷ live ≡ negation c.args.claim.now ∷ negation c.args.goal.now ∷ live =
    ap (λ (d : Constraint). d ∷ c.in_ok-opposite.opposite ∷ live) c.in_ok-denial.ensures ∙ ap (λ (d : Constraint). negation c.args.claim.now ∷ d ∷ live) c.in_ok-opposite.ensures in
    let fails : implies (negation c.args.claim.now) c.args.goal.now ≡ false = sym c.negation_implies.ensures ∙ c.if-negation_implies.false in
    shown_from c.in_ok-found.found c.args.db.now.live c.args.claim.now c.args.goal.now (c.in_ok-denial.denial ∷ c.in_ok-opposite.opposite ∷ live) list fails c.in_ok-found.ensures.answer
