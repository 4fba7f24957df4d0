use Rattle.std.proofs.Common.{◌∙◌, ap, length, map, arith}
use Rattle.pb_steps.specs.Database.{Database, marked, mark}
use Rattle.pb_database.specs.inner.Slots.{entries_from}
use Rattle.pb_database.proofs.SlotLemmas.{sound-marked, same_database, marked-slots, length-marked}
use Rattle.pb_database.proofs.Fronts.{front-marked}
use Rattle.pb_database.proofs.Indexing.{indexed-marked}
use Rattle.pb_database.proofs.database.Database.mark.Goals as goal

pub invariant_of-self : goal.invariant_of-self
invariant_of-self c = record {
  sound = sound-marked c.self.inside.vars c.args.id (entries_from 1 c.self.inside.slots.items) _ (ap (entries_from 1) c.mark.ensures ∙ marked-slots c.args.id c.self.inside.slots.items) c.self.invariant.sound;
  few = omega (arith, c.self.invariant.few, ap length c.mark.ensures, length-marked c.self.inside.slots.items c.args.id);
  mirrored = front-marked c.self.inside.most c.self.inside.entered c.args.id c.self.inside.slots.items c.mark.new.slots.items c.self.inside.engine c.mark.ensures c.self.invariant.mirrored;
  is_idle = c.self.invariant.is_idle;
  beside = c.self.invariant.beside;
  indexed = indexed-marked c.self.inside.original c.args.id c.self.inside.slots.items c.mark.new.slots.items c.self.inside.named.items c.mark.ensures c.self.invariant.indexed;
}

pub returns : goal.returns
returns c =
    same_database c.self.inside.original c.self.inside.vars _ (map (mark c.args.id) (entries_from 1 c.self.inside.slots.items)) _ (ap (entries_from 1) c.mark.ensures ∙ marked-slots c.args.id c.self.inside.slots.items) (ap length c.mark.ensures ∙ length-marked c.self.inside.slots.items c.args.id) ∙ ap (λ (db : Database). marked db c.args.id) c.self.view_is
