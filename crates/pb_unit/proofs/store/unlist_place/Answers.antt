use Rattle.std.proofs.Common.{◌≡◌, ◌<◌, inl, inr, ℕ, List, ap, sym, subst, length, get_or}
use Rattle.std.specs.Prelude.{Contains}
use Rattle.pb_unit.specs.States.{at_place}
use Rattle.pb_unit.proofs.Unlisting.{contains_remove}
use Rattle.pb_unit.proofs.store.unlist_place.Goals as goal

pub returns-in-Some : goal.returns-in-Some
returns-in-Some c =
    let below : c.in-Some.index < length c.args.tight.now.items = subst (λ (ts : List ℕ). c.in-Some.index < length ts) c.deref-2.ensures.value c.in-Some.ensures.below in
    let here : get_or c.args.tight.now.items c.in-Some.index c.args.spot.now.place ≡ c.args.spot.now.place = subst (λ (ts : List ℕ). get_or ts c.in-Some.index c.args.spot.now.place ≡ c.args.spot.now.place) c.deref-2.ensures.value (c.in-Some.ensures.at c.args.spot.now.place) in
    record {
      counts = c.requires.counts;
      listed = λ p d at. elim (c.requires.listed p d at) [
        | inl enough ↦ inl enough
        | inr there ↦ inr (subst (λ (ts : List ℕ). Contains ts p) (sym c.remove.ensures.items)
            (contains_remove c.args.tight.now.items c.in-Some.index c.args.spot.now.place p below here (λ same. let no : ⊥ = cc (ap (at_place c.args.spot.now.places.now) same, at, c.args.spot.now.empty) in no) there))
      ];
      even = c.requires.even;
    }
