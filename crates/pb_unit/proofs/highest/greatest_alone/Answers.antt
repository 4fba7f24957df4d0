use Rattle.std.proofs.Common.{◌≡◌, ◌∙◌, ap, subst, sym}
use Rattle.pb_norm.specs.Constraints.{Constraint, weights}
use Rattle.pb_unit.specs.Reaching.{IsUpTo}
use Rattle.pb_unit.specs.inner.Slots.{IsAloneUpTo}
use Rattle.pb_unit.proofs.UpTo.{of_terms}
use Rattle.pb_unit.proofs.highest.greatest_alone.Goals as goal

pub returns-in-General-clause-within : goal.returns-in-General-clause-within
returns-in-General-clause-within c =
    let e : weights c.terms.result.now ≡ c.in-General.alone.value.terms = c.terms.ensures.weights ∙ ap (λ (d : Constraint). d.terms) c.deref.ensures in
    subst (IsAloneUpTo c.greatest_in.result) (sym c.in-General.is) (of_terms (IsUpTo c.greatest_in.result) c.terms.result.now c.in-General.alone.value.terms e c.greatest_in.ensures.within)
