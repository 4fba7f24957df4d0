-- What follows from what an engine answers (our own).
use Rattle.std.specs.Prelude.{◌≡◌, ◌↔◌, ℕ, true, List, Contains, map}
use Rattle.pb_base.specs.declared.literal.Lit.{Lit}
use Rattle.pb_base.specs.Literals.{negated, is_among}
use Rattle.pb_norm.specs.ClauseForm.{clause_form}
use Rattle.pb_norm.specs.Propagation as propagation
use Rattle.pb_norm.specs.PropagationLaws.{AreAmong}
use Rattle.pb_norm.specs.ClausePropagation.{ClausesReach, ClauseConflict}
use Rattle.pb_unit.specs.declared.engine.Outcome.TheVariants.{Conflict, Fixed}
use Rattle.pb_unit.specs.States.{EngineState, standing, IsReached}
use Rattle.pb_unit.specs.Outcomes.{AnswersOf}

-- where a conflict was answered, no state with the same constraints and what was assumed, or more, answers that there is none
abbrev pub AConflictStays : Type 0
AConflictStays =
    (before after : EngineState) (place : ℕ) → AnswersOf before (Conflict place) → standing after.places ≡ standing before.places
    → AreAmong before.given after.given → ¬ AnswersOf after Fixed

-- where the negation of a literal holds, the literal and what is assumed are a conflict
abbrev pub ARefusedLiteralConflicts : Type 0
ARefusedLiteralConflicts =
    (s : EngineState) (l : Lit) (more : List Lit) → IsReached s → is_among s.held (negated l) ≡ true
    → AreAmong s.given more → Contains more l → propagation.Conflict (standing s.places) more

-- over the forms of clauses, the answers are those of propagation over the clauses
pub record AnswersOverClauses : Type 0 where
  pub conflict : (s : EngineState) (clauses : List (List Lit)) (place : ℕ) → standing s.places ≡ map clause_form clauses → AnswersOf s (Conflict place) → ClauseConflict clauses s.given
  pub no_conflict : (s : EngineState) (clauses : List (List Lit)) → standing s.places ≡ map clause_form clauses → AnswersOf s Fixed → ¬ ClauseConflict clauses s.given
  pub exact : (s : EngineState) (clauses : List (List Lit)) → standing s.places ≡ map clause_form clauses → AnswersOf s Fixed → (l : Lit) → (is_among s.held l ≡ true) ↔ ClausesReach clauses s.given l
