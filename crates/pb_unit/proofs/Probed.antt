-- What an engine answers that has assumed given literals.
use Rattle.std.proofs.Common.{◌≡◌, ◌≤◌, ◌↔◌, ℕ, List, map, refl, sym, subst, inl, inr}
use Rattle.std.specs.Prelude.{Contains, All, IfOk, Option, Some, None, Result, Ok, Err}
use Rattle.std.specs.Option.{MatchOption}
use Rattle.std.proofs.lemmas.List.Elements.{All-contains, All-weaker}
use Rattle.pb_base.specs.declared.literal.Lit.{Lit}
use Rattle.pb_norm.specs.Constraints.{AreVarsWithin, Constraint}
use Rattle.pb_norm.specs.ClauseForm.{clause_form}
use Rattle.pb_norm.specs.ClausePropagation.{ClauseConflict}
use Rattle.pb_norm.specs.Propagation.{Conflict, IsReachable}
use Rattle.pb_norm.proofs.ClauseDescent.{conflict_descends, reach_descends}
use Rattle.pb_norm.proofs.ClauseLift.{conflict_lifts, reach_lifts}
use Rattle.pb_norm.proofs.PropagationMore.{Conflict-given, Reached-given}
use Rattle.pb_unit.specs.declared.engine.Outcome.{Outcome}
use Rattle.pb_unit.specs.declared.engine.Outcome.TheVariants as outcome
use Rattle.pb_unit.specs.declared.engine.Outcome.TheVariants.{Conflict as conflict, Fixed as fixed}
use Rattle.pb_unit.specs.Outcomes.{AnswersOf}
use Rattle.pb_unit.specs.States.{EngineState, IsReached, standing}
use Rattle.pb_unit.specs.Reached.{AreReached}
use Rattle.pb_unit.specs.Reaching.{held_to, AreReachedOver, AreSorted, IsUpTo, OfConstraint, OfLit, OfTerm}
use Rattle.pb_unit.proofs.HeldLists.{held_to-ascending, held_to-from, held_to-has}
use Rattle.pb_unit.proofs.Renaming.{reached_of}

-- ---- over constraints

pub within_most : (vars : ℕ) (cs : List Constraint) → All (OfConstraint (IsUpTo vars)) cs → AreVarsWithin vars cs
within_most vars cs within = All-weaker (OfConstraint (IsUpTo vars)) (OfConstraint (λ v. v ≤ vars)) (λ c h. All-weaker (OfTerm (IsUpTo vars)) (OfTerm (λ v. v ≤ vars)) (λ t k. k.high) c.terms h) cs within

module _ (vars : ℕ) (cs : List Constraint) (given : List Lit) (within : All (OfConstraint (IsUpTo vars)) cs) (near : All (OfLit (IsUpTo vars)) given) (s : EngineState) (over : standing s.places ≡ cs) (same : (l : Lit) → Contains s.given l ↔ Contains given l) where
  pub conflict_held : (place : ℕ) → AnswersOf s (conflict place) → Conflict cs given
  conflict_held place answered = Conflict-given cs s.given given (λ l h. (same l).0 h) (subst (λ (ds : List Constraint). Conflict ds s.given) over answered.0)

  -- the same, of any outcome but the other one
  pub conflict_else : (o : Outcome) → ¬ (o ≡ fixed) → AnswersOf s o → Conflict cs given
  conflict_else (outcome.Conflict place) other answered = conflict_held place answered
  conflict_else outcome.Fixed other answered = absurd (other refl)

  pub reached_held : AnswersOf s fixed → IsReached s → AreReachedOver cs given (held_to s.held vars)
  reached_held answered reached = record {
    no_conflict = λ c. answered.no_conflict (subst (λ (ds : List Constraint). Conflict ds s.given) (sym over) (Conflict-given cs given s.given (λ l h. (same l).1 h) c));
    ascending = held_to-ascending s.held vars;
    exact = λ l. (
      (λ h.
          let r = subst (λ (ds : List Constraint). IsReachable ds s.given l) over ((answered.exact l).0 (held_to-has s.held vars l h).2) in
          (r.0, Reached-given cs s.given given (λ k j. (same k).0 j) r.0 r.1, r.2)),
      (λ r.
          let of_l : IsUpTo vars l.var = All-contains (OfLit (IsUpTo vars)) r.0 l (reached_of (IsUpTo vars) cs given within near r.0 r.1) r.2 in
          let again = subst (λ (ds : List Constraint). IsReachable ds s.given l) (sym over) (r.0, Reached-given cs given s.given (λ k j. (same k).1 j) r.0 r.1, r.2) in
          held_to-from s.held reached.consistent vars l of_l.low of_l.high ((answered.exact l).1 again)),
    );
  }

-- ---- over clauses, and from the literals as they are given

module _ (forms : List Constraint) (clauses : List (List Lit)) (are : forms ≡ map clause_form clauses) (lits sorted : List Lit) (is_sorted : AreSorted lits sorted) where
  pub clauses_conflict : Conflict forms sorted → ClauseConflict clauses lits
  clauses_conflict c = conflict_descends clauses lits (subst (λ (cs : List Constraint). Conflict cs lits) are (Conflict-given forms sorted lits (λ l h. (is_sorted.same l).0 h) c))

  again : ClauseConflict clauses lits → Conflict forms sorted
  again c = Conflict-given forms lits sorted (λ l h. (is_sorted.same l).1 h) (subst (λ (cs : List Constraint). Conflict cs lits) (sym are) (conflict_lifts clauses lits c))

  pub clauses_reached : (ls : List Lit) → AreReachedOver forms sorted ls → AreReached clauses lits ls
  clauses_reached ls is = record {
    no_conflict = λ c. is.no_conflict (again c);
    ascending = is.ascending;
    exact = λ l. (
      (λ h.
          let r = (is.exact l).0 h in
          let over : IsReachable forms lits l = (r.0, Reached-given forms sorted lits (λ k j. (is_sorted.same k).0 j) r.0 r.1, r.2) in
          reach_descends clauses lits l (subst (λ (cs : List Constraint). IsReachable cs lits l) are over)),
      (λ r. elim (reach_lifts clauses lits l r) as (λ _. Contains ls l) [
        | inl reaches ↦
            let over = subst (λ (cs : List Constraint). IsReachable cs lits l) (sym are) reaches in
            (is.exact l).1 (over.0, Reached-given forms lits sorted (λ k j. (is_sorted.same k).1 j) over.0 over.1, over.2)
        | inr c ↦ absurd (is.no_conflict (Conflict-given forms lits sorted (λ k j. (is_sorted.same k).1 j) (subst (λ (cs : List Constraint). Conflict cs lits) (sym are) c)))
      ]),
    );
  }

  -- how a search over the forms ends, over the clauses
  pub clauses_answer : {X E : Type 0} (r : Result (Option X) E) (items : X → List Lit) → IfOk r (λ found. MatchOption found (Conflict forms sorted) (λ v. AreReachedOver forms sorted (items v)))
      → IfOk r (λ found. MatchOption found (ClauseConflict clauses lits) (λ v. AreReached clauses lits (items v)))
  clauses_answer (Ok None) items h = clauses_conflict h
  clauses_answer (Ok (Some v)) items h = clauses_reached (items v) h
  clauses_answer (Err e) items h = tt
