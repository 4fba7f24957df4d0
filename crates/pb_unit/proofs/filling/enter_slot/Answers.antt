use Rattle.std.proofs.Common.{◌≡◌, ◌<◌, ◌∙◌, List, Option, Some, ap, subst, sym}
use Rattle.pb_base.specs.declared.literal.Lit.{Lit}
use Rattle.pb_norm.specs.Constraints.{Constraint}
use Rattle.pb_unit.specs.Index.{code, size_of}
use Rattle.pb_unit.specs.inner.Slots.{clause_of, slot_at}
use Rattle.pb_unit.specs.inner.Filling.{terms_in, AddsPlace, AreNumbered}
use Rattle.pb_unit.proofs.Slotting.{units_all}
use Rattle.pb_unit.proofs.Fillings.{added_none}
use Rattle.pb_unit.proofs.filling.enter_slot.Goals as goal

pub enter_clause-requires : goal.enter_clause-requires
enter_clause-requires c =
    let is : slot_at c.args.lits.now c.args.slot.now ≡ Some (clause_of c.part.result.now) = ap (slot_at c.args.lits.now) c.in-Clause.is ∙ ap (λ (ls : List Lit). Some (clause_of ls)) (sym c.part.ensures) in
    units_all (λ (l : Lit). code l < size_of c.args.lists.now) c.part.result.now (subst (λ (o : Option Constraint). AreNumbered c.args.lists.now (terms_in o)) is c.requires.numbered)

pub enter_terms-requires : goal.enter_terms-requires
enter_terms-requires c =
    let is : slot_at c.args.lits.now c.args.slot.now ≡ Some c.deref.result.now =
    ap (slot_at c.args.lits.now) c.in-General.is ∙ ap (λ (d : Constraint). Some d) (sym c.deref.ensures) in
    subst (AreNumbered c.args.lists.now) (sym c.terms.ensures.weights) (subst (λ (o : Option Constraint). AreNumbered c.args.lists.now (terms_in o)) is c.requires.numbered)

pub returns-in-Empty-clause-added : goal.returns-in-Empty-clause-added
returns-in-Empty-clause-added c =
    subst (λ (o : Option Constraint). AddsPlace c.args.codes.low c.args.codes.high c.args.place (terms_in o) c.args.lists.now c.args.lists.now) (sym (ap (slot_at c.args.lits.now) c.in-Empty.is)) (added_none c.args.codes.low c.args.codes.high c.args.place c.args.lists.now)
