use Rattle.std.proofs.Common.{◌≡◌, ◌∙◌, sym, true, subst}
use Rattle.pb_norm.specs.ClauseForm.{clause_form}
use Rattle.pb_norm.specs.Constraints.{Constraint}
use Rattle.pb_steps.specs.Operations.{implies}
use Rattle.pb_database.specs.declared.packed.Form.TheVariants.{Two, Three, Four}
use Rattle.pb_database.proofs.PartClauses.{part-implies}
use Rattle.pb_database.proofs.UnitLemmas.{kept_as}
use Rattle.pb_database.proofs.packed.Packed.is_part_of.Goals as goal

pub returns-in-Two : goal.returns-in-Two
returns-in-Two c = λ found.
    subst (λ (d : Constraint). implies d (clause_form c.args.others.now) ≡ true) (kept_as c.deref.result.now c.self.inside.form.value (Two c.in-Two.lits) c.args.self.now c.in-Two.is c.deref.ensures c.self.view_is)
    (part-implies c.in-Two.lits c.args.others.now (sym c.are_among.ensures ∙ found))

pub returns-in-Three : goal.returns-in-Three
returns-in-Three c = λ found.
    subst (λ (d : Constraint). implies d (clause_form c.args.others.now) ≡ true) (kept_as c.deref.result.now c.self.inside.form.value (Three c.in-Three.lits) c.args.self.now c.in-Three.is c.deref.ensures c.self.view_is)
    (part-implies c.in-Three.lits c.args.others.now (sym c.are_among-in-Three.ensures ∙ found))

pub returns-in-Four : goal.returns-in-Four
returns-in-Four c = λ found.
    subst (λ (d : Constraint). implies d (clause_form c.args.others.now) ≡ true) (kept_as c.deref.result.now c.self.inside.form.value (Four c.in-Four.lits) c.args.self.now c.in-Four.is c.deref.ensures c.self.view_is)
    (part-implies c.in-Four.lits c.args.others.now (sym c.are_among-in-Four.ensures ∙ found))
