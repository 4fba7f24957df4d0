use Rattle.std.proofs.Common.{◌≡◌, ◌∙◌, ◌∷◌, ◌++◌, ap, arith, sym, subst, List, ℕ}
use Rattle.std.specs.Prelude.{IfOk, filter_map}
use Rattle.pb_norm.specs.Constraints.{Constraint, HasVarsWithin}
use Rattle.pb_steps.specs.Database.{Database, constraint_at}
use Rattle.pb_database.specs.declared.slots.Slot.{Slot}
use Rattle.pb_database.specs.inner.Slots.{listed_slots, database_of}
use Rattle.pb_database.specs.inner.Mirrors.{AreWithin}
use Rattle.pb_database.specs.Refutations.{TellsConflict}
use Rattle.pb_database.proofs.SlotLemmas.{listed-slots}
use Rattle.pb_database.proofs.Mirroring.{slots-within, slots-more, within-more}
use Rattle.pb_database.proofs.database.Database.refutes_listed.Goals as goal

pub is_refuted_by_few-requires-clause-more : goal.is_refuted_by_few-requires-clause-more
is_refuted_by_few-requires-clause-more c =
    let within = subst (λ (n : ℕ). HasVarsWithin n c.args.more.now.terms) (λ i. (sym c.self.view_is i).vars) c.requires in
    within-more c.self.inside.vars c.self.inside.most c.self.inside.rounds.vars c.args.more.now.terms (omega (arith, c.if-self.false)) c.self.invariant.beside within

pub is_refuted_by_few-requires-clause-within : goal.is_refuted_by_few-requires-clause-within
is_refuted_by_few-requires-clause-within c =
    subst (λ (ss : List Slot). AreWithin c.self.inside.rounds.vars ss) (sym c.deref-2.ensures.value)
    (slots-more c.self.inside.vars c.self.inside.most c.self.inside.rounds.vars c.self.inside.slots.items (omega (arith, c.if-self.false)) c.self.invariant.beside (slots-within c.self.inside.vars c.self.inside.slots.items c.self.invariant.sound))

pub refutes-requires-clause-more : goal.refutes-requires-clause-more
refutes-requires-clause-more c =
    let within = subst (λ (n : ℕ). HasVarsWithin n c.args.more.now.terms) (λ i. (sym c.self.view_is i).vars) c.requires in
    within-more c.self.inside.vars c.self.inside.most c.self.inside.idle c.args.more.now.terms (omega (arith, c.if-self.false)) c.self.invariant.is_idle within

pub refutes-requires-clause-within : goal.refutes-requires-clause-within
refutes-requires-clause-within c =
    subst (λ (ss : List Slot). AreWithin c.self.inside.idle ss) (sym c.deref-3.ensures.value)
    (slots-more c.self.inside.vars c.self.inside.most c.self.inside.idle c.self.inside.slots.items (omega (arith, c.if-self.false)) c.self.invariant.is_idle (slots-within c.self.inside.vars c.self.inside.slots.items c.self.invariant.sound))

listed_live : (original vars : ℕ) (ss ts : List Slot) (db : Database) (ids : List ℕ) → ts ≡ ss → database_of original vars ss ≡ db → listed_slots ts ids ≡ filter_map (constraint_at db.live) ids
listed_live original vars ss ts db ids e view =
    ap (λ (us : List Slot). listed_slots us ids) e ∙ (listed-slots ss ids ∙ λ i. filter_map (constraint_at (view i).live) ids)

pub returns-in-Some-clause-answer : goal.returns-in-Some-clause-answer
returns-in-Some-clause-answer c =
    subst (λ (cs : List Constraint). TellsConflict (c.args.more.now ∷ cs) c.in-Some.found)
    (listed_live c.self.inside.original c.self.inside.vars c.self.inside.slots.items c.deref-2.result.now c.args.self.now c.args.ids.now c.deref-2.ensures.value c.self.view_is) c.in-Some.ensures.answer

pub returns-clause-answer : goal.returns-clause-answer
returns-clause-answer c =
    subst (λ (cs : List Constraint). IfOk c.refutes.result (TellsConflict (c.args.more.now ∷ cs)))
    (listed_live c.self.inside.original c.self.inside.vars c.self.inside.slots.items c.deref-3.result.now c.args.self.now c.args.ids.now c.deref-3.ensures.value c.self.view_is) c.refutes.ensures.answer

pub returns-then-self-clause-answer : goal.returns-then-self-clause-answer
returns-then-self-clause-answer c =
    let front = c.in_ok-front.front in
    subst (λ (cs : List Constraint). TellsConflict (cs ++ filter_map (constraint_at c.args.self.now.live) c.args.ids.now) c.in_ok-found.found) c.in_ok-front.ensures
    (subst (λ (cs : List Constraint). TellsConflict (front ++ cs) c.in_ok-found.found)
    (listed_live c.self.inside.original c.self.inside.vars c.self.inside.slots.items c.deref.result.now c.args.self.now c.args.ids.now c.deref.ensures.value c.self.view_is) c.in_ok-found.ensures)
