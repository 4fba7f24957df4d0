use Rattle.std.proofs.Common.{◌≡◌, subst}
use Rattle.std.specs.Prelude.{IfErr}
use Rattle.std.specs.Option.{option_copied}
use Rattle.pb_steps.specs.declared.step.Step.{Step}
use Rattle.pb_steps.specs.declared.step.Step.TheVariants.{Pol, Rup, Red, Del}
use Rattle.pb_rules.specs.Faults.{IsFault}
use Rattle.pb_rules.proofs.applying.apply.Goals as goal

pub returns-in-Pol-clause-fault : goal.returns-in-Pol-clause-fault
returns-in-Pol-clause-fault c =
    let same : Pol c.as_slice.result.now ≡ c.args.step.now = cc in
    subst (λ (s : Step). IfErr c.add_sum.result (IsFault c.args.db.now s (option_copied c.args.next))) same (c.add_sum.ensures.fault (option_copied c.args.next))

pub returns-in-Rup-clause-fault : goal.returns-in-Rup-clause-fault
returns-in-Rup-clause-fault c =
    let same : Rup c.as_slice-in-Rup.result.now c.in-Rup.right c.as_slice-in-Rup-2.result.now ≡ c.args.step.now = cc in
    subst (λ (s : Step). IfErr c.add_propagated.result (IsFault c.args.db.now s (option_copied c.args.next))) same (c.add_propagated.ensures.fault (option_copied c.args.next))

pub returns-in-Red-clause-fault : goal.returns-in-Red-clause-fault
returns-in-Red-clause-fault c =
    let same : Red c.as_slice-in-Red.result.now c.in-Red.right c.as_slice-in-Red-2.result.now ≡ c.args.step.now = cc in
    subst (λ (s : Step). IfErr c.add_redundant.result (IsFault c.args.db.now s (option_copied c.args.next))) same (c.add_redundant.ensures.fault (option_copied c.args.next))

pub returns-in-Del-clause-fault : goal.returns-in-Del-clause-fault
returns-in-Del-clause-fault c =
    let same : Del c.as_slice-in-Del.result.now ≡ c.args.step.now = cc in
    subst (λ (s : Step). IfErr c.delete.result (IsFault c.args.db.now s (option_copied c.args.next))) same (c.delete.ensures.fault (option_copied c.args.next))
