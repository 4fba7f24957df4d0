-- The clauses of a constraint say what it says.
use Rattle.std.proofs.Common.{◌≡◌, ◌≤◌, ◌<◌, ◌+◌, ℕ, List, map, length, All, arith, inl}
use Rattle.std.specs.Prelude.{Contains}
use Rattle.std.proofs.lemmas.List.{length-append, length-map}
use Rattle.std.proofs.lemmas.List.Elements.{All-append, All-weaker, All-contains_itself}
use Rattle.pb_base.specs.declared.literal.Lit.{Lit}
use Rattle.pb_base.specs.Literals.{Assignment, AgreeBelow, IsModel}
use Rattle.pb_base.proofs.Members.{All-append_both, Contains-map}
use Rattle.pb_norm.specs.Constraints.{Weighted, Constraint, IsLinear, Holds}
use Rattle.pb_norm.specs.BoundedSums.{vars_of}
use Rattle.pb_norm.specs.Reduction.{units_of, rest_of}
use Rattle.pb_norm.proofs.Agreement.{IsModel-agree}
use Rattle.pb_norm.proofs.ReductionLaws.{split_holds}
use Rattle.pb_norm.proofs.RestClasses.{rest_is, rest-over}
use Rattle.pb_norm.proofs.Variables.{OfTerm, OfLit, IsOver, units_of-vars}
use Rattle.pb_family.specs.Families.{IsNamed, NamesOnly, VarsBelow}
use Rattle.pb_base.specs.declared.options.Options.{Options}
use Rattle.pb_choice.specs.declared.treatment.Treatment.{Treatment}
use Rattle.pb_choice.specs.Choice.{treatment_of}
use Rattle.pb_choice.specs.Clauses.{unit_clause, rest_clauses, constraint_clauses, constraint_count, constraint_fresh}
use Rattle.pb_choice.specs.ConstraintLaws.{ClausesEncode}
use Rattle.pb_choice.specs.inner.Suits.{RestSuits}
use Rattle.pb_choice.proofs.Suits.{treatment_suits}
use Rattle.pb_choice.proofs.Composition.{IsOneBelow}
use Rattle.pb_choice.proofs.RestLaws.{IsTrueClause, named_over, rest_sound, rest_extends, rest_names, rest_counts}
use Rattle.pb_choice.proofs.UnitClauses.{units_model, units-all}

-- the chosen treatment suits what is left
pub chosen_suits : (o : Options) (c : Constraint) → IsLinear c → RestSuits (treatment_of o (rest_of c)) (rest_of c)
chosen_suits o c linear = treatment_suits o (rest_of c) (rest_is c linear)

pub own_vars : (ts : List Weighted) → All (OfTerm (Contains (vars_of ts))) ts
own_vars ts = All-weaker (Contains ts) (OfTerm (Contains (vars_of ts))) (λ t among. Contains-map (λ (u : Weighted). u.lit.var) ts t among) ts (All-contains_itself ts)

module _ (o : Options) (c : Constraint) (first : ℕ) (linear : IsLinear c) where
  abbrev units : List (List Lit)
  units = map unit_clause (units_of c)

  abbrev chosen : Treatment
  chosen = treatment_of o (rest_of c)

  abbrev left : List (List Lit)
  left = rest_clauses chosen (rest_of c) first

  pub clauses-sound : (a : Assignment) → IsModel a (constraint_clauses o c first) → Holds a c
  clauses-sound a model =
      let both = All-append_both (IsTrueClause a) units left model in
      (split_holds a c linear).1 ((units_model a (units_of c)).1 both.0, rest_sound chosen (rest_of c) first (chosen_suits o c linear) a both.1)

  -- the units keep their values
  pub clauses-extend : VarsBelow first c.terms → (a : Assignment) → Holds a c → (b : Assignment) × AgreeBelow first a b × IsModel b (constraint_clauses o c first)
  clauses-extend below a holds =
      let both = (split_holds a c linear).0 holds in
      let more = rest_extends chosen (rest_of c) first (chosen_suits o c linear) (rest-over (λ v. v < first) c below) a both.1 in
      let low = units-all (λ l. l.var < first) (units_of c) (units_of-vars (λ v. v < first) c below) in
      let stay = IsModel-agree first a more.0 more.1 units low ((units_model a (units_of c)).0 both.0) in
      (more.0, more.1, All-append (IsTrueClause more.0) units left stay more.2)

  pub clauses-name : NamesOnly c.terms first (constraint_fresh o c) (constraint_clauses o c first)
  clauses-name =
      let Named : Lit → Type 0 = IsNamed c.terms first (constraint_fresh o c) in
      let over : IsOver (Contains (vars_of c.terms)) c = own_vars c.terms in
      All-append (All Named) units left
      (units-all Named (units_of c) (All-weaker (OfLit (Contains (vars_of c.terms))) Named (λ l among. inl among) (units_of c) (units_of-vars (Contains (vars_of c.terms)) c over)))
      (rest_names c.terms chosen (rest_of c) first (chosen_suits o c linear) (rest-over (Contains (vars_of c.terms)) c over))

  pub clauses-count : length (constraint_clauses o c first) ≡ constraint_count o c
  clauses-count =
      omega (arith, length-append units left, length-map (units_of c) unit_clause, rest_counts chosen (rest_of c) first (chosen_suits o c linear))

pub clauses_encode : ClausesEncode
clauses_encode o c first linear below = record {
  sound = clauses-sound o c first linear;
  extends = clauses-extend o c first linear below;
  names = clauses-name o c first linear;
  counts = clauses-count o c first linear;
}

-- ---- the variables, for the layers above

-- each is from 1 and below the first number after the fresh ones, where those of the terms are from 1 and below the first fresh one
pub named_within : (ts : List Weighted) (first fresh : ℕ) (clauses : List (List Lit)) → 1 ≤ first → All (OfTerm (IsOneBelow first)) ts → NamesOnly ts first fresh clauses → All (All (OfLit (IsOneBelow (first + fresh)))) clauses
named_within ts first fresh clauses from within names =
    let over = All-weaker (OfTerm (IsOneBelow first)) (OfTerm (IsOneBelow (first + fresh))) (λ t h. (h.0, omega (arith, h.1))) ts within in
    named_over (IsOneBelow (first + fresh)) ts first fresh clauses over (λ v low high. (omega (arith, from, low), high)) names

pub clauses-within : (o : Options) (c : Constraint) (first : ℕ) → IsLinear c → 1 ≤ first → All (OfTerm (IsOneBelow first)) c.terms → All (All (OfLit (IsOneBelow (first + constraint_fresh o c)))) (constraint_clauses o c first)
clauses-within o c first linear from within = named_within c.terms first (constraint_fresh o c) (constraint_clauses o c first) from within (clauses-name o c first linear)
