use Rattle.std.proofs.Common.{◌∙◌, ap, sym, subst}
use Rattle.pb_steps.specs.declared.step.Step.TheVariants.{Red}
use Rattle.pb_steps.specs.Database.{Database, grown}
use Rattle.pb_steps.specs.Allowed.{Allowed}
use Rattle.pb_rules.proofs.applying.add_redundant.Goals as goal

pub returns-in_ok-id-in-Ok-clause-allowed : goal.returns-in_ok-id-in-Ok-clause-allowed
returns-in_ok-id-in-Ok-clause-allowed c = λ clause.
    let after = c.in_ok-id-in-Ok.ensures.ok ∙ (ap (λ (db : Database). grown db c.in-Ok.claim) c.in-Ok.ensures.same ∙ ap (grown c.args.db.now) c.in-Ok.ensures.claim) in
    subst (Allowed c.args.db.now (Red c.args.terms.now c.args.right.now c.args.sets.now) clause) (sym after) (c.in-Ok.ensures.allowed clause)
