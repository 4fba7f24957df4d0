-- Readers that go on, beside one another.
use Rattle.std.proofs.Common.{◌≡◌, ℕ, List, Bool, true, false, Option, Some, None, Ok, Err, refl, sym, ap, ◌∙◌, subst}
use Rattle.std.specs.Prelude.{◌≢◌, IsTrue, Result, OnOk, IfOk}
use Rattle.pb_base.specs.declared.literal.Lit.{Lit}
use Rattle.pb_desk.specs.View.{View}
use Rattle.pb_desk.specs.Desk.{DeskState}
use Rattle.pb_desk.specs.LineReading.{Knows, TakesAhead}
use Rattle.pb_desk.specs.LineReaders.{GivesLine, Reader}
use Rattle.pb_desk.proofs.ReadLemmas.{knows_after, still_open}
use Rattle.pb_desk.proofs.BothSlots.{knows_beside}
use Rattle.pb_dimacs.specs.CnfReaders.{CnfReader, GivesClause}
use Rattle.pb_steps.specs.declared.step.Step.{Step}
use Rattle.pb_steps.specs.Database.{Database}
use Rattle.pb_check.specs.declared.kept.CollectedClauses.{CollectedClauses}
use Rattle.pb_check.specs.declared.session.Session.{Session}
use Rattle.pb_check.specs.declared.taking.Taken.{Taken}
use Rattle.pb_check.specs.declared.verdict.CheckFault.{CheckFault}
use Rattle.pb_check.specs.inner.Calls.{TakesStep}
use Rattle.pb_check.specs.inner.Readers.{CanBegin, CanRead, ReadBoth, ReadsClauses, ReadsLines}
use Rattle.pb_check.specs.inner.Sessions.{IsNew, IsReady}

-- the reader has read
pub can_go_on : (F : Type 0) (fault fault' : Option F) (old new : Reader) (a b : DeskState) (P : List ℕ → List ℕ → Type 0) → new.slot ≡ old.slot → fault' ≡ None → TakesAhead old.slot old.ahead new.ahead a b P → CanRead F fault old a → CanRead F fault' new b
can_go_on F fault fault' old new a b P slot fine reads can = record {
  fine = fine;
  is_open = subst (λ (s : ℕ). IsTrue (b.view.reading s)) (sym slot) (still_open old.slot old.ahead new.ahead a b P reads can.is_open);
  knows = subst (λ (s : ℕ). Knows s new.ahead b) (sym slot) (knows_after old.slot old.ahead new.ahead a b P reads);
}

-- the reader of another slot has read
pub can_wait : (F : Type 0) (fault : Option F) (r old new : Reader) (a b : DeskState) (P : List ℕ → List ℕ → Type 0) → r.slot ≢ old.slot → TakesAhead old.slot old.ahead new.ahead a b P → CanRead F fault r a → CanRead F fault r b
can_wait F fault r old new a b P apart reads can = record {
  fine = can.fine;
  is_open = ap (λ (v : View). v.reading r.slot) reads.takes.reached.view ∙ can.is_open;
  knows = knows_beside old.slot r.slot old.ahead new.ahead r.ahead a b P apart reads can.knows;
}

-- a line was read, or there was none
pub row_ready : (more : Bool) (old new : Reader) (a b : DeskState) → ReadsLines old a → GivesLine more old new a b → ReadsLines new b
row_ready true old new a b can given = can_go_on _ old.fault new.fault old new a b _ given.0.slot (given.0.fault ∙ can.fine) given.3 can
row_ready false old new a b can given = can_go_on _ old.fault new.fault old new a b _ given.0.slot (given.0.fault ∙ can.fine) given.4 can

-- a clause was read, or there was none
pub clause_ready : (next : Option (List Lit)) (old new : CnfReader) (a b : DeskState) → new.lines.slot ≡ old.lines.slot → new.fault ≡ None → GivesClause next old new a b → ReadsClauses old a → ReadsClauses new b
clause_ready None old new a b slot fine given can = can_go_on _ old.fault new.fault old.lines new.lines a b _ slot fine given can
clause_ready (Some ls) old new a b slot fine given can = can_go_on _ old.fault new.fault old.lines new.lines a b _ slot fine given can

-- the step of a line was taken
pub step_ready : (got : Result Taken CheckFault) (s : Step) (cnf cnf' : CnfReader) (db db' : Database) (proof : Reader) (a b : DeskState) → cnf.lines.slot ≢ proof.slot → ReadsLines proof a → OnOk got (ReadsClauses cnf' b)
    → IfOk got (λ t. TakesStep t s proof cnf db cnf' db' a b) → OnOk got (ReadBoth cnf' proof b)
step_ready (Ok t) s cnf cnf' db db' proof a b apart can ready takes = record { clauses = ready; lines = can_wait _ proof.fault proof cnf.lines cnf'.lines a b _ (λ e. apart (sym e)) takes can }
step_ready (Err f) s cnf cnf' db db' proof a b apart can ready takes = tt

-- nothing was read yet
pub new_ready : (x y : ℕ) (k : CollectedClauses) (s : Session) (a : DeskState) → IsNew x y k s → CanBegin x y a → IsReady s a
new_ready x y k s a new can = record {
  clauses = subst (λ (r : CnfReader). ReadsClauses r a) (sym new.cnf_new) (record { fine = refl; is_open = can.cnf_open; knows = can.cnf_begun });
  lines = subst (λ (r : Reader). ReadsLines r a) (sym new.lines_new) (record { fine = refl; is_open = can.proof_open; knows = can.proof_begun });
}
