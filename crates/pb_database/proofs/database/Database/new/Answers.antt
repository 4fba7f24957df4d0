use Rattle.std.proofs.Common.{◌≡◌, ◌∙◌, List, length, take, ap, sym, subst, arith}
use Rattle.pb_unit.specs.Trails.{Held}
use Rattle.pb_database.specs.declared.slots.Slot.{Slot}
use Rattle.pb_database.specs.inner.Indexed.{IsIndexed}
use Rattle.pb_database.specs.inner.Mirrors.{IsMirrored}
use Rattle.pb_database.proofs.SlotLemmas.{sound-loaded_database, loaded_database-slots, length-placed_from}
use Rattle.pb_database.proofs.database.Database.new.Goals as goal

pub invariant_of-result : goal.invariant_of-result
invariant_of-result c =
    let slots = c.in_ok-slots.slots.items in
    let most = c.most_of-most.result in
    let count : length slots ≡ length c.args.loaded.now = ap length c.in_ok-slots.ensures ∙ length-placed_from 0 c.args.loaded.now in
    record {
      sound = sound-loaded_database c.args.vars c.in_ok-slots.slots.items c.args.loaded.now c.in_ok-slots.ensures c.requires.within c.requires.narrow;
      few = omega (arith, count, c.in_ok-engine.ensures.few);
      mirrored = subst (λ (ss : List Slot). IsMirrored most (take c.in_ok-engine.entered ss) c.in_ok-engine.engine) (sym c.in_ok-slots.ensures) c.in_ok-engine.ensures.mirrored;
      is_idle = c.new-idle.ensures;
      beside = ap (λ (h : Held). h.vars) c.in_ok-rounds.ensures;
      indexed = subst (λ (ss : List Slot). IsIndexed c.args.original ss c.in_ok-named.named.items) (sym c.in_ok-slots.ensures) c.in_ok-named.ensures;
    }

pub returns : goal.returns
returns c = loaded_database-slots c.args.original c.args.vars c.in_ok-slots.slots.items c.args.loaded.now c.in_ok-slots.ensures
