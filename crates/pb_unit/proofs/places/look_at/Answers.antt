use Rattle.std.proofs.Common.{◌∙◌, sym, ap, Some, List, map}
use Rattle.std.proofs.lemmas.Bool.{ltb-true}
use Rattle.pb_base.specs.declared.literal.Lit.{Lit}
use Rattle.pb_norm.specs.Constraints.{Constraint}
use Rattle.pb_unit.specs.States.{Stands}
use Rattle.pb_unit.specs.inner.Slots.{part, clause_of, slot_at}
use Rattle.pb_unit.proofs.Slotting.{at_slot, lits_within}
use Rattle.pb_unit.proofs.Visits.{visit_advanced, visit_calm, visit_short}
use Rattle.pb_unit.proofs.places.look_at.Goals as goal

pub visit_clause-requires : goal.visit_clause-requires
visit_clause-requires c =
    let e = c.in-Some-Clause.ensures.lookup in
    let at : Stands (map (slot_at c.args.lits.now) c.args.slots.now) c.args.place (clause_of (part c.args.lits.now c.in-Some-Clause.start c.in-Some-Clause.len)) =
    at_slot c.args.lits.now c.args.slots.now c.args.place c.in-Some-Clause.field-0.now (ltb-true _ _ (sym e.0)) e.1 ∙ ap (slot_at c.args.lits.now) c.in-Some-Clause.field-0-is in
    lits_within c.args.held.now.vars c.part.result.now (c.requires.within (clause_of c.part.result.now) (at ∙ ap (λ (ls : List Lit). Some (clause_of ls)) (sym c.part.ensures)))

clause_at : (c : goal.After-visit_clause) → Stands (map (slot_at c.args.lits.now) c.args.slots.now) c.args.place (clause_of c.part.result.now)
clause_at c =
    let e = c.in-Some-Clause.ensures.lookup in
    at_slot c.args.lits.now c.args.slots.now c.args.place c.in-Some-Clause.field-0.now (ltb-true _ _ (sym e.0)) e.1 ∙ (ap (slot_at c.args.lits.now) c.in-Some-Clause.field-0-is ∙ ap (λ (ls : List Lit). Some (clause_of ls)) (sym c.part.ensures))

pub returns-in-Some-Clause-clause-advances : goal.returns-in-Some-Clause-clause-advances
returns-in-Some-Clause-clause-advances c = λ given.
    visit_advanced c.visit_clause.result (map (slot_at c.args.lits.now) c.args.slots.now) given c.args.place c.args.left (clause_of c.part.result.now) c.args.held.now c.visit_clause.new.held (clause_at c) (c.requires.bound (clause_of c.part.result.now) (clause_at c)) c.visit_clause.ensures.short c.visit_clause.ensures.joined

pub returns-in-Some-Clause-clause-calm : goal.returns-in-Some-Clause-clause-calm
returns-in-Some-Clause-clause-calm c =
    visit_calm c.visit_clause.result (map (slot_at c.args.lits.now) c.args.slots.now) c.args.place c.args.left (clause_of c.part.result.now) c.args.held.now.lits c.visit_clause.new.held.lits (clause_at c) c.visit_clause.ensures.joined

pub returns-in-Some-Clause-clause-short : goal.returns-in-Some-Clause-clause-short
returns-in-Some-Clause-clause-short c =
    visit_short c.visit_clause.result (map (slot_at c.args.lits.now) c.args.slots.now) c.args.place c.args.left (clause_of c.part.result.now) c.args.held.now c.visit_clause.new.held (clause_at c) (c.requires.bound (clause_of c.part.result.now) (clause_at c)) c.visit_clause.ensures.short

at : (c : goal.After-visit) → Stands (map (slot_at c.args.lits.now) c.args.slots.now) c.args.place c.deref.result.now
at c =
    let e = c.in-Some-General.ensures.lookup in
    at_slot c.args.lits.now c.args.slots.now c.args.place c.in-Some-General.field-0.now (ltb-true _ _ (sym e.0)) e.1 ∙
    (ap (slot_at c.args.lits.now) c.in-Some-General.field-0-is ∙
    ap (λ (d : Constraint). Some d) (sym c.deref.ensures))

pub returns-in-Some-General-clause-advances : goal.returns-in-Some-General-clause-advances
returns-in-Some-General-clause-advances c = λ given.
    visit_advanced c.visit.result (map (slot_at c.args.lits.now) c.args.slots.now) given c.args.place c.args.left c.deref.result.now c.args.held.now c.visit.new.held (at c) (c.requires.bound c.deref.result.now (at c)) c.visit.ensures.short c.visit.ensures.joined

pub returns-in-Some-General-clause-calm : goal.returns-in-Some-General-clause-calm
returns-in-Some-General-clause-calm c =
    visit_calm c.visit.result (map (slot_at c.args.lits.now) c.args.slots.now) c.args.place c.args.left c.deref.result.now c.args.held.now.lits c.visit.new.held.lits (at c) c.visit.ensures.joined

pub returns-in-Some-General-clause-short : goal.returns-in-Some-General-clause-short
returns-in-Some-General-clause-short c =
    visit_short c.visit.result (map (slot_at c.args.lits.now) c.args.slots.now) c.args.place c.args.left c.deref.result.now c.args.held.now c.visit.new.held (at c) (c.requires.bound c.deref.result.now (at c)) c.visit.ensures.short
