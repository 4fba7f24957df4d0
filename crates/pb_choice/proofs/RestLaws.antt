-- The laws of the clauses of what is left of a constraint.
use Rattle.std.proofs.Common.{◌≡◌, ◌≤◌, ◌<◌, ◌+◌, ◌⊎◌, ℕ, true, List, [], length, All, refl, inl, inr}
use Rattle.std.specs.Prelude.{Contains}
use Rattle.std.proofs.lemmas.Bool.{false≢true}
use Rattle.std.proofs.lemmas.List.Elements.{All-nil, All-cons, All-head, All-weaker, All-map, All-contains}
use Rattle.std.proofs.lemmas.List.Folds.{Any-from_list_any, list_any-from_Any}
use Rattle.pb_base.specs.declared.literal.Lit.{Lit}
use Rattle.pb_base.specs.Literals.{Assignment, lit_value, clause_value, AgreeBelow, IsModel}
use Rattle.pb_norm.specs.declared.reduction.Rest.{Rest}
use Rattle.pb_norm.specs.declared.reduction.Rest.TheVariants as rest
use Rattle.pb_norm.specs.Constraints.{Weighted}
use Rattle.pb_norm.specs.BoundedSums.{vars_of}
use Rattle.pb_norm.specs.Reduction.{RestHolds}
use Rattle.pb_norm.proofs.RestClasses.{RestOver}
use Rattle.pb_norm.proofs.Variables.{OfTerm, OfLit}
use Rattle.pb_family.specs.Families.{IsNamed, NamesOnly}
use Rattle.pb_choice.specs.declared.treatment.Treatment.{Treatment}
use Rattle.pb_choice.specs.Clauses.{rest_clauses, rest_fresh, rest_count}
use Rattle.pb_choice.specs.inner.Suits.{RestSuits}
use Rattle.pb_choice.specs.laws.SumLaws.{sum_sound, sum_extends, sum_names, sum_counts}

abbrev pub IsTrueClause : Assignment → List Lit → Type 0
IsTrueClause a ls = clause_value a ls ≡ true

pub rest_sound : (t : Treatment) (r : Rest) (first : ℕ) → RestSuits t r → (a : Assignment) → IsModel a (rest_clauses t r first) → RestHolds a r
rest_sound t rest.Nothing first h a model = tt
rest_sound t rest.Empty first h a model = absurd (false≢true (All-head (IsTrueClause a) [] [] model))
rest_sound t (rest.Clause ls) first h a model = Any-from_list_any (lit_value a) ls (All-head (IsTrueClause a) ls [] model)
rest_sound t (rest.One m) first h a model = sum_sound t m first h a model
rest_sound t (rest.Card m) first h a model = sum_sound t m first h a model
rest_sound t (rest.General m) first h a model = sum_sound t m first h a model

pub rest_extends : (t : Treatment) (r : Rest) (first : ℕ) → RestSuits t r → RestOver (λ v. v < first) r → (a : Assignment) → RestHolds a r → (b : Assignment) × AgreeBelow first a b × IsModel b (rest_clauses t r first)
rest_extends t rest.Nothing first h below a holds = (a, (λ n k. refl), All-nil (IsTrueClause a))
rest_extends t rest.Empty first h below a holds = absurd holds
rest_extends t (rest.Clause ls) first h below a holds = (a, (λ n k. refl), All-cons (IsTrueClause a) ls [] (list_any-from_Any (lit_value a) ls holds) (All-nil (IsTrueClause a)))
rest_extends t (rest.One m) first h below a holds = sum_extends t m first h below a holds
rest_extends t (rest.Card m) first h below a holds = sum_extends t m first h below a holds
rest_extends t (rest.General m) first h below a holds = sum_extends t m first h below a holds

-- ---- the literals that are named

-- what holds of the variables of some terms and of fresh ones holds of all variables that are named
pub named_over : (P : ℕ → Type 0) (ts : List Weighted) (first fresh : ℕ) (clauses : List (List Lit)) → All (OfTerm P) ts → ((v : ℕ) → first ≤ v → v < first + fresh → P v) → NamesOnly ts first fresh clauses → All (All (OfLit P)) clauses
named_over P ts first fresh clauses over new names =
    let Named : Lit → Type 0 = IsNamed ts first fresh in
    let each = λ (l : Lit) (h : Named l).
    elim h as (λ _. P l.var) [
      | inl among ↦ All-contains P (vars_of ts) l.var (All-map P (λ (t : Weighted). t.lit.var) ts over) among
      | inr is_fresh ↦ new l.var is_fresh.0 is_fresh.1
    ] in
    All-weaker (All Named) (All (OfLit P)) (λ ls h. All-weaker Named (OfLit P) each ls h) clauses names

-- a variable of some terms, or a fresh one
abbrev pub IsOf : List Weighted → ℕ → ℕ → ℕ → Type 0
IsOf ts first fresh v = Contains (vars_of ts) v ⊎ ((first ≤ v) × (v < first + fresh))

-- what names only variables of some terms names only those of others that have them
names-among : (us ts : List Weighted) (first fresh : ℕ) (clauses : List (List Lit)) → All (OfTerm (Contains (vars_of ts))) us → NamesOnly us first fresh clauses → NamesOnly ts first fresh clauses
names-among us ts first fresh clauses over names =
    named_over (IsOf ts first fresh) us first fresh clauses (All-weaker (OfTerm (Contains (vars_of ts))) (OfTerm (IsOf ts first fresh)) (λ t among. inl among) us over) (λ v from to. inr (from, to)) names

pub rest_names : (ts : List Weighted) (t : Treatment) (r : Rest) (first : ℕ) → RestSuits t r → RestOver (Contains (vars_of ts)) r → NamesOnly ts first (rest_fresh t r) (rest_clauses t r first)
rest_names ts t rest.Nothing first h over = All-nil (All (IsNamed ts first 0))
rest_names ts t rest.Empty first h over = All-cons (All (IsNamed ts first 0)) [] [] (All-nil (IsNamed ts first 0)) (All-nil (All (IsNamed ts first 0)))
rest_names ts t (rest.Clause ls) first h over =
    All-cons (All (IsNamed ts first 0)) ls [] (All-weaker (OfLit (Contains (vars_of ts))) (IsNamed ts first 0) (λ l among. inl among) ls over) (All-nil (All (IsNamed ts first 0)))
rest_names ts t (rest.One m) first h over = names-among m.terms ts first (rest_fresh t (rest.One m)) (rest_clauses t (rest.One m) first) over (sum_names t m first h)
rest_names ts t (rest.Card m) first h over = names-among m.terms ts first (rest_fresh t (rest.Card m)) (rest_clauses t (rest.Card m) first) over (sum_names t m first h)
rest_names ts t (rest.General m) first h over = names-among m.terms ts first (rest_fresh t (rest.General m)) (rest_clauses t (rest.General m) first) over (sum_names t m first h)

-- ---- counts

pub rest_counts : (t : Treatment) (r : Rest) (first : ℕ) → RestSuits t r → length (rest_clauses t r first) ≡ rest_count t r
rest_counts t (rest.One m) first h = sum_counts t m first h
rest_counts t (rest.Card m) first h = sum_counts t m first h
rest_counts t (rest.General m) first h = sum_counts t m first h
rest_counts t other first h = refl
