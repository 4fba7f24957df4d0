-- Constraints of which each literal alone reaches the degree and none is forced: they are clauses.
use Rattle.std.proofs.Common.{◌≡◌, ◌<◌, ◌≤◌, ◌-◌, ◌*◌, ◌==◌, nat_lt, ℕ, true, false, not, List, [], ◌∷◌, map, filter, min, arith, refl, ap, sym, ◌∙◌, inl, inr}
use Rattle.std.specs.List.{list_all}
use Rattle.std.proofs.lemmas.Bool.{and_parts, cases_lt, ltb-false, le-ltb, not-true}
use Rattle.std.proofs.lemmas.Bool.Decides.{nat_tests}
use Rattle.pb_base.specs.declared.literal.Lit.{Lit}
use Rattle.pb_base.specs.declared.literal.Term.{Term}
use Rattle.pb_norm.specs.declared.reduction.Rest.TheVariants.{Clause}
use Rattle.pb_norm.specs.Constraints.{Weighted, Constraint, weight, weights, slack}
use Rattle.pb_norm.specs.inner.Kept.{on_weight}
use Rattle.pb_norm.specs.inner.Tight.{is_tight}
use Rattle.pb_norm.specs.Reduction.{is_above, is_within, is_too_light, forcing_terms, lits_of, units_of, without_units, cut_to, saturated, first_coef, all_weigh, single, quotient_up, divided, core, class_of, rest_of, split}
use Rattle.pb_norm.proofs.KeptTerms.{all-weights}
use Rattle.pb_norm.proofs.Opened.{quotient_up-enough, quotient_up-least}

-- ---- terms that each reach n and stay within m

pub record Tight (n m : ℕ) (t : Weighted) : Type 0 where
  pub cut : min t.coef n ≡ n
  pub above : is_above m t ≡ false
  pub within : is_within m t ≡ true

tight : (n m : ℕ) (t : Weighted) → is_tight n m t ≡ true → Tight n m t
tight n m t h =
    let parts = and_parts (not (nat_lt t.coef n)) (is_within m t) h in
    record {
      cut = omega (arith, ltb-false t.coef n (not-true (nat_lt t.coef n) parts.0));
      above = not-true (is_above m t) parts.1;
      within = parts.1;
    }

above-none : (n m : ℕ) (ts : List Weighted) → list_all (is_tight n m) ts ≡ true → filter (is_above m) ts ≡ []
above-none n m [] h = refl
above-none n m (t ∷ ts) h =
    let parts = and_parts (is_tight n m t) (list_all (is_tight n m) ts) h in
    let none = (tight n m t parts.0).above in
    rw none (above-none n m ts parts.1)

within-all : (n m : ℕ) (ts : List Weighted) → list_all (is_tight n m) ts ≡ true → filter (is_within m) ts ≡ ts
within-all n m [] h = refl
within-all n m (t ∷ ts) h =
    let parts = and_parts (is_tight n m t) (list_all (is_tight n m) ts) h in
    let none = (tight n m t parts.0).above in
    let rest = within-all n m ts parts.1 in
    rw none (ap (λ (us : List Weighted). t ∷ us) rest)

cut-weigh : (n m : ℕ) (ts : List Weighted) → list_all (is_tight n m) ts ≡ true → all_weigh n (map (cut_to n) ts) ≡ true
cut-weigh n m [] h = refl
cut-weigh n m (t ∷ ts) h =
    let parts = and_parts (is_tight n m t) (list_all (is_tight n m) ts) h in
    let cut = (tight n m t parts.0).cut in
    let same : (min t.coef n == n) ≡ true = grind (arith, nat_tests, cut) in
    rw same (cut-weigh n m ts parts.1)

first-cut : (n m : ℕ) (ts : List Weighted) → list_all (is_tight n m) ts ≡ true → 0 < weight ts → first_coef (map (cut_to n) ts) ≡ n
first-cut n m [] h some = absurd (omega (arith, some))
first-cut n m (t ∷ ts) h some = (tight n m t (and_parts (is_tight n m t) (list_all (is_tight n m) ts) h).0).cut

single-weigh : (ts : List Weighted) → all_weigh 1 (map single ts) ≡ true
single-weigh [] = refl
single-weigh (t ∷ ts) = single-weigh ts

single-lits : (n : ℕ) (ts : List Weighted) → lits_of (map single (map (cut_to n) ts)) ≡ lits_of ts
single-lits n [] = refl
single-lits n (t ∷ ts) = ap (λ (ls : List Lit). t.lit ∷ ls) (single-lits n ts)

quotient-one : (n : ℕ) → 0 < n → quotient_up n n ≡ 1
quotient-one n some =
    let least = quotient_up-least n n 1 some (omega arith) in
    elim (cases_lt 0 (quotient_up n n)) [
      | inl more ↦ omega (arith, least, more)
      | inr none ↦
          let zero : quotient_up n n ≡ 0 = omega (arith, none) in
          let enough = quotient_up-enough n n some in
          absurd (omega (arith, some, ap (λ (k : ℕ). n * k) zero, enough))
    ]

-- ---- the whole

tight-without : (c : Constraint) → list_all (is_tight c.degree (slack c)) c.terms ≡ true → without_units c ≡ c
tight-without c h =
    let terms = within-all c.degree (slack c) c.terms h in
    let none = above-none c.degree (slack c) c.terms h in
    let degree : c.degree - weight (forcing_terms c) ≡ c.degree = omega (arith, ap weight none) in
    λ i. record { terms = terms i; degree = degree i }

abbrev ones : Constraint → Constraint
ones c = record { terms = map single (map (cut_to c.degree) c.terms); degree = 1 }

tight-core : (c : Constraint) → 0 < c.degree → c.degree ≤ weight c.terms → list_all (is_tight c.degree (slack c)) c.terms ≡ true → divided (saturated c) ≡ ones c
tight-core c some enough h =
    let first = first-cut c.degree (slack c) c.terms h (omega (arith, some, enough)) in
    let all : all_weigh (first_coef (map (cut_to c.degree) c.terms)) (map (cut_to c.degree) c.terms) ≡ true =
    ap (λ (k : ℕ). all_weigh k (map (cut_to c.degree) c.terms)) first ∙ cut-weigh c.degree (slack c) c.terms h in
    let degree : quotient_up (first_coef (map (cut_to c.degree) c.terms)) c.degree ≡ 1 =
    ap (λ (k : ℕ). quotient_up k c.degree) first ∙ quotient-one c.degree some in
    rw all (λ i. record { terms = map single (map (cut_to c.degree) c.terms); degree = degree i })

ones-class : (c : Constraint) → class_of (ones c) ≡ Clause (lits_of c.terms)
ones-class c = rw (single-weigh (map (cut_to c.degree) c.terms)) (ap Clause (single-lits c.degree c.terms))

pub tight-split : (c : Constraint) → 0 < c.degree → c.degree ≤ weight c.terms → list_all (is_tight c.degree (slack c)) c.terms ≡ true → split c ≡ record { units = []; rest = Clause (lits_of c.terms) }
tight-split c some enough h =
    let light : is_too_light c ≡ false = le-ltb (weight c.terms) c.degree enough in
    let without = tight-without c h in
    let open_ : ((without_units c).degree == 0) ≡ false = ap (λ (d : Constraint). d.degree == 0) without ∙ grind (arith, nat_tests, some) in
    let class : class_of (core c) ≡ Clause (lits_of c.terms) =
    ap (λ (d : Constraint). class_of (divided (saturated d))) without ∙ ap class_of (tight-core c some enough h) ∙ ones-class c in
    let units : units_of c ≡ [] = rw light (ap lits_of (above-none c.degree (slack c) c.terms h)) in
    let rest : rest_of c ≡ Clause (lits_of c.terms) = rw light (rw open_ class) in
    λ i. record { units = units i; rest = rest i }

-- the same, of terms as the code keeps them
pub tight_splits : (c : Constraint) (ts : List Term) (degree spare : ℕ) → weights ts ≡ c.terms → degree ≡ c.degree → spare ≡ slack c → c.degree ≤ weight c.terms → 0 < degree → list_all (on_weight (is_tight degree spare)) ts ≡ true →
    split c ≡ record { units = []; rest = Clause (lits_of c.terms) }
tight_splits c ts degree spare kept degree_is slack_is enough some all =
    let every : list_all (is_tight c.degree (slack c)) c.terms ≡ true =
    ap (λ (n : ℕ). list_all (is_tight n (slack c)) c.terms) (sym degree_is) ∙ ap (λ (n : ℕ). list_all (is_tight degree n) c.terms) (sym slack_is)
    ∙ ap (list_all (is_tight degree spare)) (sym kept) ∙ sym (all-weights (is_tight degree spare) ts) ∙ all in
    tight-split c (omega (arith, some, degree_is)) enough every
