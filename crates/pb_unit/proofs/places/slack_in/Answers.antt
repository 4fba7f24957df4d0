use Rattle.std.proofs.Common.{◌∙◌, sym, ap, Some, List, map}
use Rattle.std.proofs.lemmas.Bool.{ltb-true}
use Rattle.pb_base.specs.declared.literal.Lit.{Lit}
use Rattle.pb_norm.specs.Constraints.{Constraint}
use Rattle.pb_unit.specs.States.{Stands}
use Rattle.pb_unit.specs.inner.Slots.{clause_of, slot_at}
use Rattle.pb_unit.proofs.Slotting.{at_slot}
use Rattle.pb_unit.proofs.places.slack_in.Goals as goal

clause_at : (c : goal.After-part) → Stands (map (slot_at c.args.lits.now) c.args.slots.now) c.args.place (clause_of c.part.result.now)
clause_at c =
    let e = c.in-Some-Clause.ensures.lookup in
    at_slot c.args.lits.now c.args.slots.now c.args.place c.in-Some-Clause.field-0.now (ltb-true _ _ (sym e.0)) e.1 ∙ (ap (slot_at c.args.lits.now) c.in-Some-Clause.field-0-is ∙ ap (λ (ls : List Lit). Some (clause_of ls)) (sym c.part.ensures))

pub slack_of_clause-requires-clause-told : goal.slack_of_clause-requires-clause-told
slack_of_clause-requires-clause-told c = λ told. c.requires.told told (clause_of c.part.result.now) (clause_at c)

pub slack_of_clause-requires-clause-narrow : goal.slack_of_clause-requires-clause-narrow
slack_of_clause-requires-clause-narrow c = c.requires.narrow (clause_of c.part.result.now) (clause_at c)

pub slack_of-requires : goal.slack_of-requires
slack_of-requires c = λ told.
    let e = c.in-Some-General.ensures.lookup in
    c.requires.told told c.deref.result.now
    (at_slot c.args.lits.now c.args.slots.now c.args.place c.in-Some-General.field-0.now (ltb-true _ _ (sym e.0)) e.1 ∙
    (ap (slot_at c.args.lits.now) c.in-Some-General.field-0-is ∙
    ap (λ (d : Constraint). Some d) (sym c.deref.ensures)))
