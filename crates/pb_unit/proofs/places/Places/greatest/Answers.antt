use Rattle.std.proofs.Common.{List, Option, subst}
use Rattle.std.specs.Prelude.{All}
use Rattle.std.proofs.lemmas.List.Elements.{All-weaker}
use Rattle.pb_norm.specs.Constraints.{Constraint}
use Rattle.pb_unit.specs.Reaching.{IsUpTo, OfConstraint, OfLit}
use Rattle.pb_unit.specs.States.{standing}
use Rattle.pb_unit.specs.inner.Slots.{IsAloneUpTo}
use Rattle.pb_unit.proofs.Alone.{slots_up_to}
use Rattle.pb_unit.proofs.UpTo.{up_to}
use Rattle.pb_unit.proofs.places.Places.greatest.Goals as goal

pub returns-clause-within : goal.returns-clause-within
returns-clause-within c =
    let most = c.greatest_of_slots.result in
    let first = c.greatest_from.result in
    let lits = c.self.inside.lits.items in
    let slots = c.self.inside.slots.items in
    let all : All (OfLit (IsUpTo first)) lits = subst (All (OfLit (IsUpTo first))) c.deref-2.ensures.value c.greatest_from.ensures.within in
    let alone : All (IsAloneUpTo most) slots = subst (All (IsAloneUpTo most)) c.deref.ensures.value c.greatest_of_slots.ensures.within in
    subst (λ (ps : List (Option Constraint)). All (OfConstraint (IsUpTo most)) (standing ps)) c.self.view_is
    (slots_up_to most lits slots (All-weaker (OfLit (IsUpTo first)) (OfLit (IsUpTo most)) (λ l h. up_to first most c.greatest_of_slots.ensures.no_less l.var h) lits all) alone)
