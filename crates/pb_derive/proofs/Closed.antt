-- What closing leaves implies the clause.
use Rattle.std.proofs.Common.{◌≡◌, ◌≤◌, ◌<◌, ◌+◌, ◌-◌, ◌*◌, ◌⊎◌, inl, inr, ℕ, Bool, true, false, cond, List, [], ◌∷◌, ◌++◌, refl, ap, sym, ◌∙◌, subst, arith, ltb, get_or}
use Rattle.std.specs.Prelude.{All, Contains, map, sum_by}
use Rattle.std.proofs.lemmas.Bool.{cases_Bool, both_ways, cases_lt, le-leb, ltb-true, false_from_ne_true}
use Rattle.std.proofs.lemmas.List.Elements.{All-nil, All-cons, All-head, All-tail, All-weaker, All-map, All-contains, All-append, All-contains_itself}
use Rattle.std.proofs.lemmas.List.Folds.{list_any_at}
use Rattle.std.proofs.lemmas.List.Sums.{sum_by-cons}
use Rattle.pb_base.specs.declared.literal.Lit.{Lit}
use Rattle.pb_base.specs.Literals.{Assignment, negated, lit_value, is_same, is_among}
use Rattle.pb_base.proofs.Members.{from_among, not_among_from}
use Rattle.pb_norm.specs.Constraints.{Weighted, Constraint, AllPositive, IsAscending, weight, value, term_value}
use Rattle.pb_norm.specs.Addition.{coef_of, combined, with_term, joined, sum_of}
use Rattle.pb_norm.specs.ClauseForm.{is_tautology, clause_form}
use Rattle.pb_norm.specs.Reduction.{quotient_up}
use Rattle.pb_norm.proofs.AdditionSizes.{weight-cons}
use Rattle.pb_norm.proofs.AdditionValues.{value-cons}
use Rattle.pb_norm.proofs.AllBut.{coef_of-at}
use Rattle.pb_norm.proofs.ClauseTerms.{form_terms, form-term, form-is}
use Rattle.pb_norm.proofs.Opened.{quotient_up-enough, quotient_up-least}
use Rattle.pb_norm.proofs.WrittenForm.{normal_terms-ascending}
use Rattle.pb_norm.specs.ClauseForm.{one_of, distinct}
use Rattle.pb_steps.specs.Operations.{division, shrunk, excess, Implies}
use Rattle.pb_derive.specs.Justifications.{Justification, widest}
use Rattle.pb_derive.specs.inner.Follows.{FollowsFrom}
use Rattle.pb_derive.proofs.Closing.{sum_from, AllAscending, sum_from-ascending, sum_from-lacks, sum_from-weight, sum_from-degree, term_left, against, against-false, against-true, weaken_from, weaken_from-all, weaken_from-lacks, weaken_from_lighter, degrees-cons, value_in-cons, weight_in-cons}

-- ---- coefficients stay above 0

abbrev pub Positive : Weighted → Type 0
Positive t = 0 < t.coef

combined-positive : (t u : Weighted) → Positive t → Positive u → AllPositive (combined t u)
combined-positive t u h k = by_tests (is_same t.lit u.lit) (ltb t.coef u.coef) (ltb u.coef t.coef) refl refl
  where
    by_tests : (same less more : Bool) → ltb t.coef u.coef ≡ less → ltb u.coef t.coef ≡ more → AllPositive (cond {A = List Weighted} same (record { coef = t.coef + u.coef; lit = u.lit } ∷ [])
        (cond {A = List Weighted} less (record { coef = u.coef - t.coef; lit = u.lit } ∷ []) (cond {A = List Weighted} more (record { coef = t.coef - u.coef; lit = t.lit } ∷ []) [])))
    by_tests true less more e f = All-cons Positive (record { coef = t.coef + u.coef; lit = u.lit }) [] (omega arith) (All-nil Positive)
    by_tests false true more e f = All-cons Positive (record { coef = u.coef - t.coef; lit = u.lit }) [] (omega (arith, ltb-true t.coef u.coef e)) (All-nil Positive)
    by_tests false false true e f = All-cons Positive (record { coef = t.coef - u.coef; lit = t.lit }) [] (omega (arith, ltb-true u.coef t.coef f)) (All-nil Positive)
    by_tests false false false e f = All-nil Positive

with_term-positive : (t : Weighted) (us : List Weighted) → Positive t → AllPositive us → AllPositive (with_term t us)
with_term-positive t [] h all = All-cons Positive t [] h all
with_term-positive t (u ∷ us) h all = placed (ltb t.lit.var u.lit.var) (ltb u.lit.var t.lit.var) (with_term-positive t us h (All-tail Positive u us all))
  where
    placed : (before after : Bool) → AllPositive (with_term t us) → AllPositive (cond {A = List Weighted} before (t ∷ u ∷ us) (cond {A = List Weighted} after (u ∷ with_term t us) (combined t u ++ us)))
    placed true after ih = All-cons Positive t (u ∷ us) h all
    placed false true ih = All-cons Positive u (with_term t us) (All-head Positive u us all) ih
    placed false false ih = All-append Positive (combined t u) us (combined-positive t u h (All-head Positive u us all)) (All-tail Positive u us all)

pub joined-positive : (ts us : List Weighted) → AllPositive ts → AllPositive us → AllPositive (joined ts us)
joined-positive [] us h k = k
joined-positive (t ∷ ts) us h k = with_term-positive t (joined ts us) (All-head Positive t ts h) (joined-positive ts us (All-tail Positive t ts h) k)

abbrev pub ArePositive : List Constraint → Type 0
ArePositive cs = All (λ c. AllPositive c.terms) cs

pub sum_from-positive : (c : Constraint) (ds : List Constraint) → AllPositive c.terms → ArePositive ds → AllPositive (sum_from c ds).terms
sum_from-positive c [] h hs = h
sum_from-positive c (d ∷ ds) h hs =
    sum_from-positive (sum_of c d) ds (joined-positive c.terms d.terms h (All-head (λ (c : Constraint). AllPositive c.terms) d ds hs)) (All-tail (λ (c : Constraint). AllPositive c.terms) d ds hs)

-- ---- what is left

value-none : (a : Assignment) (ts : List Weighted) → All (λ t. lit_value a t.lit ≡ false) ts → value a ts ≡ 0
value-none a [] h = refl
value-none a (t ∷ ts) h =
    let nothing : term_value a t ≡ 0 = ap (λ (b : Bool). cond b t.coef 0) (All-head (λ (t : Weighted). lit_value a t.lit ≡ false) t ts h) in
    omega (arith, value-cons a t ts, nothing, value-none a ts (All-tail (λ (t : Weighted). lit_value a t.lit ≡ false) t ts h))

pub no_excess : (ts fs : List Weighted) → All (λ t. t.coef ≤ coef_of fs t.lit) ts → sum_by (λ t. t.coef - coef_of fs t.lit) ts ≡ 0
no_excess [] fs h = refl
no_excess (t ∷ ts) fs h =
    omega (arith, sum_by-cons (λ (t : Weighted). t.coef - coef_of fs t.lit) t ts, All-head (λ (t : Weighted). t.coef ≤ coef_of fs t.lit) t ts h, no_excess ts fs (All-tail (λ (t : Weighted). t.coef ≤ coef_of fs t.lit) t ts h))

coef-le-weight : (ts : List Weighted) → All (λ t. t.coef ≤ weight ts) ts
coef-le-weight [] = All-nil (λ (t : Weighted). t.coef ≤ 0)
coef-le-weight (t ∷ ts) =
    All-cons (λ (u : Weighted). u.coef ≤ weight (t ∷ ts)) t ts (omega (arith, weight-cons t ts))
    (All-weaker (λ (u : Weighted). u.coef ≤ weight ts) (λ (u : Weighted). u.coef ≤ weight (t ∷ ts)) (λ u h. omega (arith, h, weight-cons t ts)) ts (coef-le-weight ts))

-- a divisor above all numbers leaves 1 of each
quotient_up-one : (n k : ℕ) → 0 < k → k ≤ n → quotient_up n k ≡ 1
quotient_up-one n k some fits =
    let most = quotient_up-least n k 1 (omega arith) (omega arith) in
    let enough = quotient_up-enough n k (omega arith) in
    elim (cases_lt 0 (quotient_up n k)) as (λ _. quotient_up n k ≡ 1) [
      | inl one ↦ omega arith
      | inr none ↦
          let nothing : quotient_up n k ≡ 0 = omega arith in
          let lost : n * quotient_up n k ≡ 0 = ap (λ (m : ℕ). n * m) nothing ∙ omega arith in
          absurd (omega arith)
    ]

-- one of each of some literals of a clause implies the clause
pub units-imply : (e : Constraint) (ls : List Lit) → All (λ t. (t.coef ≤ 1) × Contains ls t.lit) e.terms → (is_tautology ls ≡ false → 1 ≤ e.degree) → Implies e (clause_form ls)
units-imply e ls units some =
    elim (cases_Bool (is_tautology ls)) as (λ _. Implies e (clause_form ls)) [
      | inl both ↦ rw both refl
      | inr none ↦
          let fs : List Weighted = form_terms ls in
          let least = some none in
          let each : All (λ t. t.coef ≤ coef_of fs t.lit) e.terms =
          λ k d h.
          let t : Weighted = get_or e.terms k d in
          let unit = units k d h in
          let term = form-term ls none t.lit unit.1 in
          let found : coef_of fs t.lit ≡ 1 = All-contains {X = Weighted} (λ t. coef_of fs t.lit ≡ t.coef) fs (record { coef = 1; lit = t.lit }) (coef_of-at fs (normal_terms-ascending (map one_of (distinct ls)))) term in
          omega (arith, unit.0, found) in
          let nothing : excess e (record { terms = fs; degree = 1 }) ≡ 0 = no_excess e.terms fs each in
          subst (λ (d : Constraint). Implies e d) (sym (form-is ls none))
          (le-leb (1 + excess e (record { terms = fs; degree = 1 })) e.degree (omega (arith, least, nothing)))
    ]

-- what is left of a constraint over literals of a clause implies the clause, where its degree is not 0
divided-implies : (e : Constraint) (ls : List Lit) → AllPositive e.terms → All (λ t. Contains ls t.lit) e.terms → weight e.terms ≤ widest → e.degree ≤ widest → (is_tautology ls ≡ false → 0 < e.degree) → Implies (division widest e) (clause_form ls)
divided-implies e ls positive among light narrow some =
    units-imply (division widest e) ls
    (All-map (λ (t : Weighted). (t.coef ≤ 1) × Contains ls t.lit) (shrunk widest) e.terms (λ k d h.
    let t : Weighted = get_or e.terms k d in
    let least : 0 < t.coef = positive k d h in
    let coef : quotient_up widest t.coef ≡ 1 = quotient_up-one widest t.coef least (omega (arith, coef-le-weight e.terms k d h, light)) in
    (omega (arith, coef), among k d h)))
    (λ none. let one : quotient_up widest e.degree ≡ 1 = quotient_up-one widest e.degree (some none) narrow in omega (arith, one))

-- ---- the whole

abbrev pub closed_sum : Constraint → List Constraint → List ℕ → Constraint
closed_sum c ds vs = weaken_from (sum_from c ds) vs

-- the clause is not a tautology: no literal's negation is among it
pub one_way : (ls : List Lit) → is_tautology ls ≡ false → (l : Lit) → Contains ls l → is_among ls (negated l) ≡ false
one_way ls none l h =
    false_from_ne_true (is_among ls (negated l)) (λ both.
    both_ways (is_tautology ls) none (list_any_at (λ (k : Lit). is_among ls (negated k)) ls h.0 l h.1 (ap (λ (k : Lit). is_among ls (negated k)) h.2 ∙ both)))

module _ (c : Constraint) (ds : List Constraint) (r : Justification) (follows : FollowsFrom (c ∷ ds) r)
    (up : IsAscending c.terms) (ups : AllAscending ds) (positive : AllPositive c.terms) (positives : ArePositive ds) where
  abbrev whole : Constraint
  whole = sum_from c ds

  -- each term of the sum is of the clause, or goes
  sorted_out : (t : Weighted) → Contains whole.terms t → Contains r.clause t.lit ⊎ Contains r.weakened t.lit.var
  sorted_out t h =
      let more = term_left c ds up ups t h in
      let some : 0 < t.coef = All-contains Positive whole.terms t (sum_from-positive c ds positive positives) h in
      elim (follows.within t.lit) as (λ _. Contains r.clause t.lit ⊎ Contains r.weakened t.lit.var) [
        | inl among ↦ inl (from_among r.clause t.lit among)
        | inr rest ↦ elim rest as (λ _. Contains r.clause t.lit ⊎ Contains r.weakened t.lit.var) [
          | inl goes ↦ inr goes
          | inr less ↦ absurd (omega arith)
        ]
      ]

  all_sorted : All (λ t. Positive t × (Contains r.clause t.lit ⊎ Contains r.weakened t.lit.var)) whole.terms
  all_sorted = λ k d h.
      (sum_from-positive c ds positive positives k d h, sorted_out (get_or whole.terms k d) (All-contains_itself whole.terms k d h))

  -- what is left is over literals of the clause
  pub closed-among : All (λ t. Positive t × Contains r.clause t.lit) (closed_sum c ds r.weakened).terms
  closed-among =
      All-weaker (λ (t : Weighted). (Positive t × (Contains r.clause t.lit ⊎ Contains r.weakened t.lit.var)) × ¬ Contains r.weakened t.lit.var) (λ (t : Weighted). Positive t × Contains r.clause t.lit)
      (λ t h. (h.0.0, (elim h.0.1 as (λ _. Contains r.clause t.lit) [ inl among ↦ among | inr goes ↦ absurd (h.1 goes) ])))
      (closed_sum c ds r.weakened).terms
      (weaken_from-all (λ t. Positive t × (Contains r.clause t.lit ⊎ Contains r.weakened t.lit.var)) whole r.weakened all_sorted)

  -- and asks for one at least
  closed-some : is_tautology r.clause ≡ false → 0 < (closed_sum c ds r.weakened).degree
  closed-some none =
      let a : Assignment = against r.clause whole.terms in
      let ascending = sum_from-ascending c ds up ups in
      let false_there : (l : Lit) → Contains r.clause l → lit_value a l ≡ false = against-false r.clause whole.terms (one_way r.clause none) in
      let short = follows.short a (λ k d h. false_there (get_or r.clause k d) (All-contains_itself r.clause k d h)) in
      let goes_true : All (λ t. Contains r.weakened t.lit.var → lit_value a t.lit ≡ true) whole.terms =
      λ k d h goes.
      let t : Weighted = get_or whole.terms k d in
      against-true r.clause whole.terms ascending t (All-contains_itself whole.terms k d h)
      (λ p. not_among_from r.clause (record { var = t.lit.var; positive = p }) (λ among. follows.apart (record { var = t.lit.var; positive = p }) among goes)) in
      let left_false : value a (closed_sum c ds r.weakened).terms ≡ 0 =
      value-none a (closed_sum c ds r.weakened).terms (All-weaker (λ (t : Weighted). Positive t × Contains r.clause t.lit) (λ (t : Weighted). lit_value a t.lit ≡ false) (λ t h. false_there t.lit h.1) (closed_sum c ds r.weakened).terms closed-among) in
      omega (arith, short, sum_from-lacks a c ds ups, weaken_from-lacks a whole r.weakened goes_true, left_false, degrees-cons c ds, value_in-cons a c ds)

  closed-light : (weight (closed_sum c ds r.weakened).terms ≤ widest) × ((closed_sum c ds r.weakened).degree ≤ widest)
  closed-light =
      let lighter = weaken_from_lighter whole r.weakened in
      (omega (arith, lighter.0, sum_from-weight c ds, weight_in-cons c ds, follows.weight_fits), omega (arith, lighter.1, sum_from-degree c ds, degrees-cons c ds, follows.degree_fits))

  pub closed-implies : Implies (division widest (closed_sum c ds r.weakened)) (clause_form r.clause)
  closed-implies =
      divided-implies (closed_sum c ds r.weakened) r.clause
      (All-weaker (λ (t : Weighted). Positive t × Contains r.clause t.lit) Positive (λ t h. h.0) (closed_sum c ds r.weakened).terms closed-among)
      (All-weaker (λ (t : Weighted). Positive t × Contains r.clause t.lit) (λ (t : Weighted). Contains r.clause t.lit) (λ t h. h.1) (closed_sum c ds r.weakened).terms closed-among)
      closed-light.0 closed-light.1 closed-some

  -- and still of it once it is divided
  pub divided-among : All (λ t. Contains r.clause t.lit) (division widest (closed_sum c ds r.weakened)).terms
  divided-among =
      All-map (λ (t : Weighted). Contains r.clause t.lit) (shrunk widest) (closed_sum c ds r.weakened).terms
      (All-weaker (λ (t : Weighted). Positive t × Contains r.clause t.lit) (λ (t : Weighted). Contains r.clause t.lit) (λ t h. h.1) (closed_sum c ds r.weakened).terms closed-among)
