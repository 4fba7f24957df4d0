use Rattle.std.proofs.Common.{◌≡◌, ◌<◌, ◌≤◌, ◌∙◌, List, length, get_or, reverse, ap, sym, subst, arith}
use Rattle.std.specs.Prelude.{Contains}
use Rattle.std.proofs.lemmas.List.{get_or_default}
use Rattle.std.proofs.lemmas.List.Elements.{Contains-get_or}
use Rattle.pb_diagram.specs.declared.interval.Interval.{Interval}
use Rattle.pb_diagram.specs.inner.Known.{AreKnown}
use Rattle.pb_diagram.specs.laws.Search.{IsUnknown}
use Rattle.pb_diagram.proofs.RunFacts.{not_found, turned}
use Rattle.pb_diagram.proofs.run.Run.find.Goals.{After-place_of-place}
use Rattle.pb_diagram.proofs.run.Run.find.Goals as goal

abbrev none : Interval
none = record { low = 0; top = 0 }

pub place_of-place-requires : goal.place_of-place-requires
place_of-place-requires c = subst AreKnown (sym c.as_slice-falling.ensures.value) c.self.invariant

pub returns-then-residue-interval : goal.returns-then-residue-interval
returns-then-residue-interval c =
    let gs = c.as_slice-falling.result.now in
    let place = c.place_of-place.result in
    let same : reverse gs ≡ c.args.self.now = ap reverse c.as_slice-falling.ensures.value ∙ c.self.view_is in (
      subst (λ (l : List Interval). Contains l (get_or gs place none)) same (turned gs (get_or gs place none) (Contains-get_or gs place none c.if-place-falling.true)),
      (c.place_of-place.ensures.others place none (omega arith) c.if-place-falling.true, c.if-residue-interval.true),
    )

-- where no interval at the place ends above the residue, none has it
unknown : (c : After-place_of-place) → (let gs = c.as_slice-falling.result.now in let place = c.place_of-place.result in
    ((d : Interval) → place < length gs → (get_or gs place d).top ≤ c.args.residue) → IsUnknown c.args.self.now c.args.residue)
unknown c ends =
    let gs = c.as_slice-falling.result.now in
    subst (λ (l : List Interval). IsUnknown l c.args.residue) (ap reverse c.as_slice-falling.ensures.value ∙ c.self.view_is)
    (not_found gs c.args.residue (subst AreKnown (sym c.as_slice-falling.ensures.value) c.self.invariant) c.place_of-place.result c.place_of-place.ensures ends)

pub returns-else-residue-interval : goal.returns-else-residue-interval
returns-else-residue-interval c =
    let gs = c.as_slice-falling.result.now in
    let place = c.place_of-place.result in
    unknown (goal.at.returns-else-residue-interval c).After-place_of-place (λ d within. let at = ap (λ (j : Interval). j.top) (get_or_default gs place d none within) in omega (arith, c.if-residue-interval.false))

pub returns-else-place-falling : goal.returns-else-place-falling
returns-else-place-falling c = unknown (goal.at.returns-else-place-falling c).After-place_of-place (λ d within. absurd (omega (arith, c.if-place-falling.false)))
