-- Clauses that follow from clauses of some of their literals.
use Rattle.std.proofs.Common.{◌≡◌, ◌≤◌, ◌-◌, ◌+◌, ◌∙◌, ◌⊎◌, inl, inr, ℕ, Bool, true, false, cond, List, [], ◌∷◌, map, sum_by, leb, arith, refl, ap, subst}
use Rattle.std.specs.Prelude.{Contains}
use Rattle.std.specs.List.{list_all}
use Rattle.std.proofs.lemmas.Bool.{and_parts, cases_Bool}
use Rattle.std.proofs.lemmas.List.Sums.{sum_by-cons}
use Rattle.pb_base.specs.declared.literal.Lit.{Lit}
use Rattle.pb_base.specs.Literals.{is_same, is_among}
use Rattle.pb_base.proofs.LiteralLemmas.{is_same-refl}
use Rattle.pb_base.proofs.Members.{Contains-nil, Contains-here, Contains-there, Contains-cons_cases, from_among}
use Rattle.pb_norm.specs.Addition.{coef_of}
use Rattle.pb_norm.specs.ClauseForm.{distinct, is_tautology, one_of, clause_form}
use Rattle.pb_norm.specs.Constraints.{Weighted, Constraint}
use Rattle.pb_norm.specs.Halves.{normal_terms}
use Rattle.pb_norm.proofs.AdditionValues.{coef_of-cons}
use Rattle.pb_norm.proofs.ClauseTerms.{form-term, form-is}
use Rattle.pb_steps.specs.Operations.{implies}
use Rattle.pb_database.specs.inner.Units.{unit, clause_of}

member-coef : (ts : List Weighted) (l : Lit) → Contains ts (unit l) → 1 ≤ coef_of ts l
member-coef [] l h = absurd (Contains-nil (unit l) h)
member-coef (t ∷ ts) l h =
    elim (Contains-cons_cases t ts (unit l) h) as (λ _. 1 ≤ coef_of (t ∷ ts) l) [
      | inl here ↦
          let first : cond (is_same t.lit l) t.coef 0 ≡ 1 = ap (λ (u : Weighted). cond (is_same u.lit l) u.coef 0) here ∙ ap (λ (b : Bool). cond b 1 0) (is_same-refl l) in
          omega (arith, coef_of-cons l t ts, first)
      | inr there ↦ omega (arith, coef_of-cons l t ts, member-coef ts l there)
    ]

no_excess : (us : List Weighted) (some : List Lit) → ((l : Lit) → Contains some l → 1 ≤ coef_of us l) → sum_by {X = Weighted} (λ t. t.coef - coef_of us t.lit) (map unit some) ≡ 0
no_excess us [] h = refl
no_excess us (l ∷ some) h =
    omega (arith, sum_by-cons {X = Weighted} (λ t. t.coef - coef_of us t.lit) (unit l) (map unit some), h l (Contains-here l some), no_excess us some (λ k m. h k (Contains-there l some k m)))

all_among-contains : (ls some : List Lit) → list_all (is_among ls) some ≡ true → (l : Lit) → Contains some l → Contains ls l
all_among-contains ls [] e l h = absurd (Contains-nil l h)
all_among-contains ls (k ∷ some) e l h =
    let parts = and_parts (is_among ls k) (list_all (is_among ls) some) e in
    elim (Contains-cons_cases k some l h) as (λ _. Contains ls l) [
      | inl here ↦ subst (Contains ls) here (from_among ls k parts.0)
      | inr there ↦ all_among-contains ls some parts.1 l there
    ]

pub part-implies : (some ls : List Lit) → list_all (is_among ls) some ≡ true → implies (clause_of some) (clause_form ls) ≡ true
part-implies some ls e = by_test (cases_Bool (is_tautology ls))
  where
    us : List Weighted
    us = normal_terms (map one_of (distinct ls))

    by_test : (is_tautology ls ≡ true) ⊎ (is_tautology ls ≡ false) → implies (clause_of some) (clause_form ls) ≡ true
    by_test (inl both) = ap (λ (b : Bool). implies (clause_of some) (cond {A = Constraint} b (record { terms = []; degree = 0 }) (record { terms = us; degree = 1 }))) both
    by_test (inr apart) =
        ap (implies (clause_of some)) (form-is ls apart) ∙
        ap (λ (n : ℕ). leb (1 + n) 1) (no_excess us some (λ l h. member-coef us l (form-term ls apart l (all_among-contains ls some e l h))))
