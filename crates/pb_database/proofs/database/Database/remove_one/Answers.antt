use Rattle.std.proofs.Common.{◌≡◌, ◌∙◌, ap, sym, length, ◌∷◌, [], Some, None, ℕ, arith}
use Rattle.std.specs.Option.{option_map}
use Rattle.pb_norm.specs.Constraints.{Constraint}
use Rattle.pb_steps.specs.Database.{Database, reduced, without}
use Rattle.pb_database.specs.inner.Slots.{entries_from, place_of, slot_of}
use Rattle.pb_database.proofs.SlotLemmas.{sound-without, slots_without-entries, length-slots_without, same_database}
use Rattle.pb_database.proofs.Fronts.{front-without_none}
use Rattle.pb_database.proofs.Indexing.{indexed-without, indexed-lost}
use Rattle.pb_database.proofs.database.Database.remove_one.Goals as goal

pub invariant_of-self : goal.invariant_of-self
invariant_of-self c =
    let old = c.self.inside.slots.items in
    let new = c.take-gone.new.slots.items in
    let place : ℕ = c.take-gone.result.place in
    let at : Some place ≡ place_of (slot_of old c.args.id) = sym (ap (option_map (λ (d : Constraint). place)) c.in-Some.is) ∙ ap place_of c.take-gone.ensures.gone in
    let live : entries_from 1 new ≡ without (c.args.id ∷ []) (entries_from 1 old) = ap (entries_from 1) c.take-gone.ensures.after ∙ slots_without-entries c.args.id old in
    record {
      sound = sound-without c.self.inside.vars (c.args.id ∷ []) (entries_from 1 old) (entries_from 1 new) live c.self.invariant.sound;
      few = omega (arith, c.self.invariant.few, ap length c.take-gone.ensures.after, length-slots_without old c.args.id);
      mirrored = c.leave.ensures c.self.inside.most old new (record { hole_left = c.take-gone.ensures.after; at = at }) c.self.invariant.mirrored;
      is_idle = c.self.invariant.is_idle;
      beside = c.self.invariant.beside;
      indexed = indexed-lost c.self.inside.original c.args.id old new c.self.inside.named.items c.unlist-left.new.lists.items c.take-gone.ensures.after c.unlist-left.ensures c.self.invariant.indexed;
    }

pub invariant_of-self-in-None : goal.invariant_of-self-in-None
invariant_of-self-in-None c =
    let old = c.self.inside.slots.items in
    let new = c.take-gone.new.slots.items in
    let at : None ≡ place_of (slot_of old c.args.id) = sym (ap (option_map (λ (d : Constraint). c.take-gone.result.place)) c.in-None.is) ∙ ap place_of c.take-gone.ensures.gone in
    let live : entries_from 1 new ≡ without (c.args.id ∷ []) (entries_from 1 old) = ap (entries_from 1) c.take-gone.ensures.after ∙ slots_without-entries c.args.id old in
    record {
      sound = sound-without c.self.inside.vars (c.args.id ∷ []) (entries_from 1 old) (entries_from 1 new) live c.self.invariant.sound;
      few = omega (arith, c.self.invariant.few, ap length c.take-gone.ensures.after, length-slots_without old c.args.id);
      mirrored = front-without_none c.self.inside.most c.self.inside.entered c.args.id old new c.self.inside.engine c.take-gone.ensures.after at c.self.invariant.mirrored;
      is_idle = c.self.invariant.is_idle;
      beside = c.self.invariant.beside;
      indexed = indexed-without c.self.inside.original c.args.id old new c.self.inside.named.items c.take-gone.ensures.after c.self.invariant.indexed;
    }

pub returns-in-Some : goal.returns-in-Some
returns-in-Some c =
    let old = c.self.inside.slots.items in
    same_database c.self.inside.original c.self.inside.vars _ (without (c.args.id ∷ []) (entries_from 1 old)) _ (ap (entries_from 1) c.take-gone.ensures.after ∙ slots_without-entries c.args.id old) (ap length c.take-gone.ensures.after ∙ length-slots_without old c.args.id) ∙
    ap (λ (db : Database). reduced db (c.args.id ∷ [])) c.self.view_is

pub returns-in-None : goal.returns-in-None
returns-in-None c =
    let old = c.self.inside.slots.items in
    same_database c.self.inside.original c.self.inside.vars _ (without (c.args.id ∷ []) (entries_from 1 old)) _ (ap (entries_from 1) c.take-gone.ensures.after ∙ slots_without-entries c.args.id old) (ap length c.take-gone.ensures.after ∙ length-slots_without old c.args.id) ∙
    ap (λ (db : Database). reduced db (c.args.id ∷ [])) c.self.view_is
