use Rattle.std.proofs.Common.{◌≡◌, ◌<◌, ◌^◌, ◌∙◌, List, Option, Some, map, length, ap, sym, subst, rules}
use Rattle.pb_base.specs.declared.literal.Lit.{Lit}
use Rattle.pb_norm.specs.Constraints.{Constraint}
use Rattle.pb_unit.specs.States.{at_place}
use Rattle.pb_unit.specs.inner.Slots.{clause_of, slot_at}
use Rattle.pb_unit.specs.inner.Filling.{IsKeptOf}
use Rattle.pb_unit.proofs.Slotting.{at_slot}
use Rattle.pb_unit.proofs.Laying.{clause_kept}
use Rattle.pb_unit.proofs.places.kept_in.Goals as goal

pub returns-in-Clause : goal.returns-in-Clause
returns-in-Clause c =
    let ls : List Lit = c.part-lits.result.now in
    let short : length c.part-lits.result.now < 2 ^ 64 = search rules in
    let at : at_place (map (slot_at c.args.lits.now) c.args.slots.now) c.args.place ≡ Some (clause_of ls) =
    at_slot c.args.lits.now c.args.slots.now c.args.place c.index-slots-place.result c.requires.known c.index-slots-place.is ∙ (ap (slot_at c.args.lits.now) c.in-Clause.is ∙ ap (λ (ks : List Lit). Some (clause_of ks)) (sym c.part-lits.ensures)) in
    subst (λ (o : Option Constraint). IsKeptOf o (record { room = length ls; alert = 2 })) (sym at) (clause_kept ls short)
