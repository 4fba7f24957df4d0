use Rattle.std.proofs.Common.{◌<◌, ◌∙◌, ℕ, List, map, length, refl, subst, sym}
use Rattle.std.specs.Prelude.{All}
use Rattle.std.proofs.lemmas.List.{take_all}
use Rattle.pb_norm.specs.Constraints.{Weighted}
use Rattle.pb_unit.specs.Index.{code}
use Rattle.pb_unit.specs.declared.places.Slot.{Slot}
use Rattle.pb_unit.specs.inner.Slots.{slot_at, IsSlot}
use Rattle.pb_unit.specs.inner.Filling.{terms_in, AreNumbered, IsFilling}
use Rattle.pb_unit.proofs.Fillings.{filling_none, filling_more}
use Rattle.pb_unit.proofs.filling.fill_range.Goals as goal

pub loop-place-init : goal.loop-place-init
loop-place-init c = record { size = refl; filling = filling_none c.args.codes.low c.args.codes.high c.args.lists.now c.requires.empty }

pub enter_slot-requires-clause-slot : goal.enter_slot-requires-clause-slot
enter_slot-requires-clause-slot c = subst (IsSlot (length c.args.lits.now)) (sym c.index-slots-place.is) (c.requires.slots c.loop-place.place c.index-slots-place.result c.loop-place-test.true)

pub enter_slot-requires-clause-numbered : goal.enter_slot-requires-clause-numbered
enter_slot-requires-clause-numbered c =
    let here : AreNumbered c.args.lists.now (terms_in (slot_at c.args.lits.now c.index-slots-place.result)) =
    subst (λ (s : Slot). AreNumbered c.args.lists.now (terms_in (slot_at c.args.lits.now s))) (sym c.index-slots-place.is) (c.requires.numbered c.loop-place.place c.index-slots-place.result c.loop-place-test.true) in
    subst (λ (n : ℕ). All (λ (t : Weighted). code t.lit < n) (terms_in (slot_at c.args.lits.now c.index-slots-place.result))) (sym c.loop-place.invariant.size) here

pub loop-place-preserved : goal.loop-place-preserved
loop-place-preserved c = record {
  size = c.enter_slot.ensures.size ∙ c.loop-place.invariant.size;
  filling = filling_more c.args.codes.low c.args.codes.high c.args.slots.now c.args.lits.now c.loop-place.place c.index-slots-place.result c.args.lists.now c.loop-place.lists c.enter_slot.new.lists c.loop-place-test.true c.index-slots-place.is c.loop-place.invariant.filling c.if-not-enter_slot.ensures.added;
}

pub returns : goal.returns
returns c = subst (λ (slots : List Slot). IsFilling c.args.codes.low c.args.codes.high c.args.lists.now c.loop-place.lists (map terms_in (map (slot_at c.args.lits.now) slots))) (take_all c.loop-place.place c.args.slots.now c.loop-place-test.false) c.loop-place.invariant.filling
