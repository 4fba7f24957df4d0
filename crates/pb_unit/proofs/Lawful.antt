-- The laws of an engine's answers.
use Rattle.std.proofs.Common.{◌≡◌, ◌≤◌, ◌↔◌, ℕ, true, List, [], ◌∷◌, map, All, sym, subst, inl, inr}
use Rattle.std.proofs.lemmas.List.Elements.{All-nil, All-cons, All-head, All-tail}
use Rattle.pb_base.specs.declared.literal.Lit.{Lit}
use Rattle.pb_base.specs.Literals.{negated, is_among}
use Rattle.pb_base.proofs.Members.{from_among}
use Rattle.pb_norm.specs.Constraints.{Constraint, HasVarsWithin, AreVarsWithin}
use Rattle.pb_norm.specs.ClauseForm.{clause_form}
use Rattle.pb_norm.specs.Propagation.{Conflict, IsReachable}
use Rattle.pb_norm.specs.ClausePropagation.{ClausesReach, ClauseConflict}
use Rattle.pb_norm.proofs.ClauseDescent.{conflict_descends, reach_descends}
use Rattle.pb_norm.proofs.ClauseLift.{conflict_lifts, reach_lifts}
use Rattle.pb_norm.proofs.ClauseTerms.{form-within}
use Rattle.pb_norm.proofs.PropagationMore.{Reached-given, Conflict-given, opposite-conflict}
use Rattle.pb_unit.specs.States.{EngineState, standing}
use Rattle.pb_unit.specs.Outcomes.{IsLeastFixedPoint}
use Rattle.pb_unit.specs.Laws.{AConflictStays, ARefusedLiteralConflicts, AnswersOverClauses}

pub conflict_stays : AConflictStays
conflict_stays before after place answered same more fixed =
    fixed.no_conflict (subst (λ (cs : List Constraint). Conflict cs after.given) (sym same) (Conflict-given (standing before.places) before.given after.given more answered.0))

pub refused_literal_conflicts : ARefusedLiteralConflicts
refused_literal_conflicts s l more reached opposite has given =
    opposite-conflict (standing s.places) more s.held l (Reached-given (standing s.places) s.given more has s.held reached.reached) given (from_among s.held (negated l) opposite)

-- ---- over clauses

over : (s : EngineState) (clauses : List (List Lit)) → (standing s.places) ≡ map clause_form clauses → ClauseConflict clauses s.given → Conflict (standing s.places) s.given
over s clauses forms conflict = subst (λ (cs : List Constraint). Conflict cs s.given) (sym forms) (conflict_lifts clauses s.given conflict)

exact_over : (s : EngineState) (clauses : List (List Lit)) → (standing s.places) ≡ map clause_form clauses → IsLeastFixedPoint s → (l : Lit) → (is_among s.held l ≡ true) ↔ ClausesReach clauses s.given l
exact_over s clauses forms fixed l = (
  (λ h. reach_descends clauses s.given l (subst (λ (cs : List Constraint). IsReachable cs s.given l) forms ((fixed.exact l).0 h))),
  (λ reach.
      elim (reach_lifts clauses s.given l reach) as (λ _. is_among s.held l ≡ true) [
        | inl reaches ↦ (fixed.exact l).1 (subst (λ (cs : List Constraint). IsReachable cs s.given l) (sym forms) reaches)
        | inr conflict ↦ absurd (fixed.no_conflict (subst (λ (cs : List Constraint). Conflict cs s.given) (sym forms) conflict))
      ]),
)

pub answers_over_clauses : AnswersOverClauses
answers_over_clauses = record {
  conflict = λ s clauses place forms answered. conflict_descends clauses s.given (subst (λ (cs : List Constraint). Conflict cs s.given) forms answered.0);
  no_conflict = λ s clauses forms fixed conflict. fixed.no_conflict (over s clauses forms conflict);
  exact = exact_over;
}

-- the forms of clauses name no other variables
pub forms_within : (vars : ℕ) (clauses : List (List Lit)) → All (λ ls. All (λ l. l.var ≤ vars) ls) clauses → AreVarsWithin vars (map clause_form clauses)
forms_within vars [] h = All-nil {X = Constraint} (λ c. HasVarsWithin vars c.terms)
forms_within vars (ls ∷ clauses) h =
    let Within : List Lit → Type 0 = λ ks. All (λ l. l.var ≤ vars) ks in
    All-cons {X = Constraint} (λ c. HasVarsWithin vars c.terms) (clause_form ls) (map clause_form clauses) (form-within vars ls (All-head Within ls clauses h)) (forms_within vars clauses (All-tail Within ls clauses h))
