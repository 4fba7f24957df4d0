-- What an engine keeps, and what its answers mean.
use Rattle.std.proofs.Common.{◌≡◌, ◌-◌, ◌⊎◌, inl, inr, ℕ, Bool, true, false, cond, List, [], ◌∷◌, arith, get_or, refl, subst, Option}
use Rattle.std.specs.Prelude.{Contains}
use Rattle.std.proofs.lemmas.Bool.{or_cases, or_left, or_right, both_ways}
use Rattle.std.proofs.lemmas.List.{get_or_default}
use Rattle.std.proofs.lemmas.List.Elements.{All-contains}
use Rattle.pb_base.specs.declared.literal.Lit.{Lit}
use Rattle.pb_base.specs.Literals.{negated, is_same, is_among}
use Rattle.pb_base.proofs.LiteralLemmas.{same_lit, is_same-refl}
use Rattle.pb_base.proofs.Members.{among_from, from_among, not_among_from}
use Rattle.pb_norm.specs.Constraints.{Weighted, Constraint}
use Rattle.pb_norm.specs.Forced.{IsConsistent}
use Rattle.pb_norm.specs.Propagation.{room, Reached, IsFixed}
use Rattle.pb_norm.proofs.Consistent.{consistent-cons, consistent-nil}
use Rattle.pb_norm.proofs.PropagationFixed.{fixed-no_conflict, reached-within}
use Rattle.pb_norm.proofs.PropagationMore.{Reached-given}
use Rattle.pb_unit.specs.declared.engine.Outcome.{Outcome}
use Rattle.pb_unit.specs.declared.engine.Outcome.TheVariants as outcome
use Rattle.pb_unit.specs.States.{EngineState, standing, Stands, IsReached, assumed, with_lit}
use Rattle.pb_unit.specs.Ends.{Ends}
use Rattle.pb_unit.proofs.Standing.{contains_stands, stands_contains}
use Rattle.pb_unit.specs.Steps.{IsDecided, IsAtRest, IsCalm, Advances}
use Rattle.pb_unit.specs.Outcomes.{AnswersOf}

-- ---- a fixed list

pub fixed_over : (cs : List Constraint) (given ls : List Lit) → IsConsistent ls → ((c : Constraint) → Contains cs c → IsCalm (room ls c.terms) ls c) → ((l : Lit) → is_among given l ≡ true → is_among ls l ≡ true) → IsFixed cs given ls
fixed_over cs given ls consistent calm has = record {
  has_given = λ l h. has l (among_from given l h);
  consistent = λ l h. not_among_from ls (negated l) (consistent l (from_among ls l h));
  closed = λ l n.
      let quiet : IsCalm (room ls n.by.terms) ls n.by = calm n.by n.known in
      let t : Weighted = record { coef = n.coef; lit = l } in
      let decided : IsDecided ls l = All-contains (IsAtRest ls (room ls n.by.terms - n.by.degree)) n.by.terms t quiet.closed n.term (omega (arith, n.short, quiet.enough)) in
      elim decided [
        | inl there ↦ both_ways (is_among ls l) n.absent there
        | inr opposite ↦ both_ways (is_among ls (negated l)) n.undecided opposite
      ];
  enough = λ k d below. (calm (get_or cs k d) (k, below, get_or_default cs k (get_or cs k d) d below)).enough;
}

fixed_from : (ps : List (Option Constraint)) (given ls : List Lit) → IsConsistent ls → ((p : ℕ) (c : Constraint) → Stands ps p c → IsCalm (room ls c.terms) ls c) → ((l : Lit) → is_among given l ≡ true → is_among ls l ≡ true) → IsFixed (standing ps) given ls
fixed_from ps given ls consistent calm has = fixed_over (standing ps) given ls consistent (λ c known. let at = contains_stands ps c known in calm at.0 c at.1) has

-- the answer, from how propagation ends
pub answers_from : (s : EngineState) (o : Outcome) → IsReached s → Ends s.places s.held o → AnswersOf s o
answers_from s (outcome.Conflict place) r e =
    let known : Contains (standing s.places) e.constraint = stands_contains s.places place e.constraint e.at in (
      inr (s.held, e.constraint, r.reached, known, e.short),
      record { list = s.held; constraint = e.constraint; at = e.at; reached = r.reached; short = e.short },
    )
answers_from s outcome.Fixed r e =
    let fixed = fixed_from s.places s.given s.held r.consistent e r.assumed in
    record {
      no_conflict = fixed-no_conflict (standing s.places) s.given s.held fixed;
      exact = λ l. (
        (λ h. (s.held, r.reached, from_among s.held l h)),
        (λ reaches. reached-within (standing s.places) s.given reaches.0 s.held fixed reaches.1 l (among_from reaches.0 l reaches.2)),
      );
    }

-- ---- assuming

pub with_lit-has : (l : Lit) (ls : List Lit) → is_among (with_lit l ls) l ≡ true
with_lit-has l ls = by_cases (is_among ls l) refl where
  by_cases : (b : Bool) → is_among ls l ≡ b → is_among (cond b ls (l ∷ ls)) l ≡ true
  by_cases true e = e
  by_cases false e = or_left (is_same l l) (is_among ls l) (is_same-refl l)

pub with_lit-keeps : (l : Lit) (ls : List Lit) (k : Lit) → is_among ls k ≡ true → is_among (with_lit l ls) k ≡ true
with_lit-keeps l ls k h = by_cases (is_among ls l) where
  by_cases : (b : Bool) → is_among (cond b ls (l ∷ ls)) k ≡ true
  by_cases true = h
  by_cases false = or_right (is_same l k) (is_among ls k) h

pub with_lit-cases : (l : Lit) (ls : List Lit) (k : Lit) → is_among (with_lit l ls) k ≡ true → (l ≡ k) ⊎ (is_among ls k ≡ true)
with_lit-cases l ls k = by_cases (is_among ls l) where
  by_cases : (b : Bool) → is_among (cond b ls (l ∷ ls)) k ≡ true → (l ≡ k) ⊎ (is_among ls k ≡ true)
  by_cases true h = inr h
  by_cases false h = elim (or_cases (is_same l k) (is_among ls k) h) [ inl same ↦ inl (same_lit l k same) | inr rest ↦ inr rest ]

pub assumed_reached : (s : EngineState) (l : Lit) → IsReached s → is_among s.held (negated l) ≡ false → IsReached (assumed l s)
assumed_reached s l r undecided = record {
  reached = by_cases (is_among s.held l);
  assumed = λ k h. elim (with_lit-cases l s.given k h) [
    | inl same ↦ subst (λ (m : Lit). is_among (with_lit l s.held) m ≡ true) same (with_lit-has l s.held)
    | inr old ↦ with_lit-keeps l s.held k (r.assumed k old)
  ];
  consistent = still (is_among s.held l);
}
  where
    more : Reached (standing s.places) (with_lit l s.given) s.held
    more = Reached-given (standing s.places) s.given (with_lit l s.given) (λ k h. from_among (with_lit l s.given) k (with_lit-keeps l s.given k (among_from s.given k h))) s.held r.reached

    by_cases : (b : Bool) → Reached (standing s.places) (with_lit l s.given) (cond b s.held (l ∷ s.held))
    by_cases true = more
    by_cases false = (inl (from_among (with_lit l s.given) l (with_lit-has l s.given)), more)

    still : (b : Bool) → IsConsistent (cond b s.held (l ∷ s.held))
    still true = r.consistent
    still false = consistent-cons l s.held r.consistent undecided

pub started_reached : (vars : ℕ) (ps : List (Option Constraint)) → IsReached (record { vars = vars; places = ps; given = []; held = [] })
started_reached vars ps = record {
  reached = tt;
  assumed = λ l h. h;
  consistent = consistent-nil;
}

pub advanced : (s : EngineState) (ls : List Lit) → IsReached s → Advances (standing s.places) s.given s.held ls → IsReached (record s { held = ls })
advanced s ls r f = record {
  reached = f.reached r.reached;
  assumed = λ l h. f.kept l (r.assumed l h);
  consistent = f.consistent r.consistent;
}
