-- What is left of added constraints, once the other variables are gone and it is divided by a great number: one of each literal, and 1.
use Rattle.std.proofs.Common.{◌≡◌, ◌≢◌, ◌≤◌, ◌<◌, ◌+◌, inl, inr, ℕ, Bool, true, false, not, cond, List, [], ◌∷◌, refl, ap, sym, ◌∙◌, subst, arith, eqb, ◌&&◌, pos, ◌+ℤ◌, ◌-ℤ◌, neg_ℤ}
use mathlib.Core.Bool.{beq}
use Rattle.std.specs.Prelude.{All, Contains, filter, sum_by}
use Rattle.std.proofs.lemmas.Int.{ints}
use Rattle.std.proofs.lemmas.Bool.{eqb-true, eqb-false, eq-eqb, ne_eqb}
use Rattle.std.proofs.lemmas.List.Elements.{All-nil, All-cons, All-head, All-tail, All-weaker, All-contains, All-filter}
use Rattle.std.proofs.lemmas.List.Sums.{sum_by-cons}
use Rattle.pb_base.specs.declared.literal.Lit.{Lit}
use Rattle.pb_base.specs.Literals.{Assignment, negated, lit_value, is_same, is_among}
use Rattle.pb_base.proofs.LiteralLemmas.{is_same-negated, is_same-other_var}
use Rattle.pb_base.proofs.Members.{Contains-nil, Contains-here, Contains-there, Contains-cons_cases, among_from}
use Rattle.pb_base.proofs.Pairs.{AllPairs-head, AllPairs-tail}
use Rattle.pb_norm.specs.Constraints.{Weighted, Constraint, IsAscending, weight, value, term_value, terms_of}
use Rattle.pb_norm.specs.Addition.{coef_of, joined, sum_of}
use Rattle.pb_norm.specs.NormalForms.{net}
use Rattle.pb_norm.proofs.AdditionNets.{joined-net}
use Rattle.pb_norm.proofs.AdditionOrder.{Before, joined-ascending}
use Rattle.pb_norm.proofs.AdditionSizes.{weight-joined, weight-cons}
use Rattle.pb_norm.proofs.AdditionValues.{value-cons, joined-value, coef_of-cons, coef_of-none}
use Rattle.pb_norm.proofs.AllBut.{coef_of-at}
use Rattle.pb_steps.specs.Operations.{weakening, is_other, coef_at}
use Rattle.pb_derive.specs.inner.Follows.{degrees, weight_in, value_in, coef_in}

-- ---- sums of constraints

-- the constraints added to one, one after the other
abbrev pub sum_from : Constraint → List Constraint → Constraint
sum_from c [] = c
sum_from c (d ∷ ds) = sum_from (sum_of c d) ds

abbrev pub AllAscending : List Constraint → Type 0
AllAscending cs = All (λ c. IsAscending c.terms) cs

pub sum_from-ascending : (c : Constraint) (ds : List Constraint) → IsAscending c.terms → AllAscending ds → IsAscending (sum_from c ds).terms
sum_from-ascending c [] up ups = up
sum_from-ascending c (d ∷ ds) up ups =
    sum_from-ascending (sum_of c d) ds (joined-ascending c.terms d.terms (All-head (λ (c : Constraint). IsAscending c.terms) d ds ups)) (All-tail (λ (c : Constraint). IsAscending c.terms) d ds ups)

pub degrees-cons : (c : Constraint) (ds : List Constraint) → degrees (c ∷ ds) ≡ c.degree + degrees ds
degrees-cons c ds = sum_by-cons (λ (s : Constraint). s.degree) c ds

pub weight_in-cons : (c : Constraint) (ds : List Constraint) → weight_in (c ∷ ds) ≡ weight c.terms + weight_in ds
weight_in-cons c ds = sum_by-cons (λ (s : Constraint). weight s.terms) c ds

pub value_in-cons : (a : Assignment) (c : Constraint) (ds : List Constraint) → value_in a (c ∷ ds) ≡ value a c.terms + value_in a ds
value_in-cons a c ds = sum_by-cons (λ (s : Constraint). value a s.terms) c ds

pub coef_in-cons : (l : Lit) (c : Constraint) (ds : List Constraint) → coef_in (c ∷ ds) l ≡ coef_of c.terms l + coef_in ds l
coef_in-cons l c ds = sum_by-cons (λ (s : Constraint). coef_of s.terms l) c ds

-- what is lacking is added too
pub sum_from-lacks : (a : Assignment) (c : Constraint) (ds : List Constraint) → AllAscending ds →
    (c.degree + degrees ds) + value a (sum_from c ds).terms ≤ (sum_from c ds).degree + (value a c.terms + value_in a ds)
sum_from-lacks a c [] ups = omega arith
sum_from-lacks a c (d ∷ ds) ups =
    let up : IsAscending d.terms = All-head (λ (c : Constraint). IsAscending c.terms) d ds ups in
    let rest = sum_from-lacks a (sum_of c d) ds (All-tail (λ (c : Constraint). IsAscending c.terms) d ds ups) in
    omega (arith, rest, joined-value a c.terms d.terms up, degrees-cons d ds, value_in-cons a d ds)

pub sum_from-weight : (c : Constraint) (ds : List Constraint) → weight (sum_from c ds).terms ≤ weight c.terms + weight_in ds
sum_from-weight c [] = omega arith
sum_from-weight c (d ∷ ds) = omega (arith, sum_from-weight (sum_of c d) ds, weight-joined c.terms d.terms, weight_in-cons d ds)

pub sum_from-degree : (c : Constraint) (ds : List Constraint) → (sum_from c ds).degree ≤ c.degree + degrees ds
sum_from-degree c [] = omega arith
sum_from-degree c (d ∷ ds) = omega (arith, sum_from-degree (sum_of c d) ds, degrees-cons d ds)

-- ---- the coefficients of a sum

-- the net coefficient of a variable, by those of its two literals
pub net-coefs : (v : ℕ) (ts : List Weighted) → net (terms_of ts) v ≡ pos (coef_of ts (record { var = v; positive = true })) -ℤ pos (coef_of ts (record { var = v; positive = false }))
net-coefs v [] = refl
net-coefs v (t ∷ ts) =
    let plus : Lit = record { var = v; positive = true } in
    let minus : Lit = record { var = v; positive = false } in
    by_tests (eqb t.lit.var v) t.lit.positive (coef_of-cons plus t ts) (coef_of-cons minus t ts) (net-coefs v ts)
  where
    by_tests : (b p : Bool)
        → coef_of (t ∷ ts) (record { var = v; positive = true }) ≡ cond (b && beq p true) t.coef 0 + coef_of ts (record { var = v; positive = true })
        → coef_of (t ∷ ts) (record { var = v; positive = false }) ≡ cond (b && beq p false) t.coef 0 + coef_of ts (record { var = v; positive = false })
        → net (terms_of ts) v ≡ pos (coef_of ts (record { var = v; positive = true })) -ℤ pos (coef_of ts (record { var = v; positive = false }))
        → cond b (cond p (pos t.coef) (neg_ℤ (pos t.coef))) (pos 0) +ℤ net (terms_of ts) v ≡ pos (coef_of (t ∷ ts) (record { var = v; positive = true })) -ℤ pos (coef_of (t ∷ ts) (record { var = v; positive = false }))
    by_tests true true e f ih = omega (arith, ints, e, f, ih)
    by_tests true false e f ih = omega (arith, ints, e, f, ih)
    by_tests false p e f ih = omega (arith, ints, e, f, ih)

-- what a literal has above its negation is added
joined-coefs : (ts us : List Weighted) (l : Lit) → coef_of (joined ts us) l + (coef_of ts (negated l) + coef_of us (negated l)) ≡ coef_of (joined ts us) (negated l) + (coef_of ts l + coef_of us l)
joined-coefs ts us l = by_sign l.positive
  where
    by_sign : (p : Bool) → coef_of (joined ts us) (record { var = l.var; positive = p }) + (coef_of ts (record { var = l.var; positive = not p }) + coef_of us (record { var = l.var; positive = not p }))
        ≡ coef_of (joined ts us) (record { var = l.var; positive = not p }) + (coef_of ts (record { var = l.var; positive = p }) + coef_of us (record { var = l.var; positive = p }))
    by_sign true = omega (arith, ints, joined-net l.var ts us, net-coefs l.var (joined ts us), net-coefs l.var ts, net-coefs l.var us)
    by_sign false = omega (arith, ints, joined-net l.var ts us, net-coefs l.var (joined ts us), net-coefs l.var ts, net-coefs l.var us)

pub sum_from-coefs : (c : Constraint) (ds : List Constraint) (l : Lit) →
    coef_of (sum_from c ds).terms l + (coef_of c.terms (negated l) + coef_in ds (negated l)) ≡ coef_of (sum_from c ds).terms (negated l) + (coef_of c.terms l + coef_in ds l)
sum_from-coefs c [] l = omega arith
sum_from-coefs c (d ∷ ds) l =
    omega (arith, sum_from-coefs (sum_of c d) ds l, joined-coefs c.terms d.terms l, coef_in-cons l d ds, coef_in-cons (negated l) d ds)

-- of a term's variable the other literal has no coefficient
negated-none : (ts : List Weighted) → IsAscending ts → (t : Weighted) → Contains ts t → coef_of ts (negated t.lit) ≡ 0
negated-none [] up t h = refl
negated-none (u ∷ ts) up t h =
    let later = AllPairs-head Before u ts up in
    elim (Contains-cons_cases u ts t h) as (λ _. coef_of (u ∷ ts) (negated t.lit) ≡ 0) [
      | inl same ↦
          let here : cond (is_same u.lit (negated t.lit)) u.coef 0 ≡ 0 =
          ap (λ (b : Bool). cond b u.coef 0) (subst (λ (w : Weighted). is_same u.lit (negated w.lit) ≡ false) same (is_same-negated u.lit)) in
          let none : coef_of ts (negated t.lit) ≡ 0 = subst (λ (w : Weighted). coef_of ts (negated w.lit) ≡ 0) same (coef_of-none (negated u.lit) ts later) in
          omega (arith, coef_of-cons (negated t.lit) u ts, here, none)
      | inr rest ↦
          let above : u.lit.var < t.lit.var = All-contains (Before u) ts t later rest in
          let here : cond (is_same u.lit (negated t.lit)) u.coef 0 ≡ 0 = ap (λ (b : Bool). cond b u.coef 0) (is_same-other_var u.lit (negated t.lit) (λ e. omega (arith, above, e))) in
          omega (arith, coef_of-cons (negated t.lit) u ts, here, negated-none ts (AllPairs-tail Before u ts up) t rest)
    ]

-- a term that is left of a sum has more of its literal than of its negation there
pub term_left : (c : Constraint) (ds : List Constraint) → IsAscending c.terms → AllAscending ds → (t : Weighted) → Contains (sum_from c ds).terms t →
    t.coef + coef_in (c ∷ ds) (negated t.lit) ≡ coef_in (c ∷ ds) t.lit
term_left c ds up ups t h =
    let ascending = sum_from-ascending c ds up ups in
    let here : coef_of (sum_from c ds).terms t.lit ≡ t.coef = All-contains {X = Weighted} (λ t. coef_of (sum_from c ds).terms t.lit ≡ t.coef) (sum_from c ds).terms t (coef_of-at (sum_from c ds).terms ascending) h in
    omega (arith, sum_from-coefs c ds t.lit, here, negated-none (sum_from c ds).terms ascending t h, coef_in-cons t.lit c ds, coef_in-cons (negated t.lit) c ds)

-- ---- an assignment that makes a clause false, and the other literals that are left true

abbrev pub sign_in : List Weighted → ℕ → Bool
sign_in [] v = false
sign_in (t ∷ ts) v = cond (eqb t.lit.var v) t.lit.positive (sign_in ts v)

sign_in-at : (ts : List Weighted) → IsAscending ts → (t : Weighted) → Contains ts t → sign_in ts t.lit.var ≡ t.lit.positive
sign_in-at [] up t h = absurd (Contains-nil t h)
sign_in-at (u ∷ ts) up t h =
    elim (Contains-cons_cases u ts t h) as (λ _. sign_in (u ∷ ts) t.lit.var ≡ t.lit.positive) [
      | inl same ↦ subst (λ (w : Weighted). sign_in (u ∷ ts) w.lit.var ≡ w.lit.positive) same (ap (λ (b : Bool). cond b u.lit.positive (sign_in ts u.lit.var)) (eq-eqb u.lit.var u.lit.var refl))
      | inr rest ↦
          let above : u.lit.var < t.lit.var = All-contains (Before u) ts t (AllPairs-head Before u ts up) rest in
          ap (λ (b : Bool). cond b u.lit.positive (sign_in ts t.lit.var)) (ne_eqb u.lit.var t.lit.var (λ e. omega (arith, above, e))) ∙ sign_in-at ts (AllPairs-tail Before u ts up) t rest
    ]

abbrev pub against : List Lit → List Weighted → Assignment
against ls ts v = cond (is_among ls (record { var = v; positive = true })) false (cond (is_among ls (record { var = v; positive = false })) true (sign_in ts v))

pub against-false : (ls : List Lit) (ts : List Weighted) → ((l : Lit) → Contains ls l → is_among ls (negated l) ≡ false) → (l : Lit) → Contains ls l → lit_value (against ls ts) l ≡ false
against-false ls ts one l h = by_sign l.positive (among_from ls l h) (one l h)
  where
    by_sign : (p : Bool) → is_among ls (record { var = l.var; positive = p }) ≡ true → is_among ls (record { var = l.var; positive = not p }) ≡ false → cond p (against ls ts l.var) (not (against ls ts l.var)) ≡ false
    by_sign true e f = ap (λ (b : Bool). cond b false (cond (is_among ls (record { var = l.var; positive = false })) true (sign_in ts l.var))) e
    by_sign false e f =
        ap not (ap (λ (b : Bool). cond b false (cond (is_among ls (record { var = l.var; positive = false })) true (sign_in ts l.var))) f ∙ ap (λ (b : Bool). cond b true (sign_in ts l.var)) e)

pub against-true : (ls : List Lit) (ts : List Weighted) → IsAscending ts → (t : Weighted) → Contains ts t → ((p : Bool) → is_among ls (record { var = t.lit.var; positive = p }) ≡ false) → lit_value (against ls ts) t.lit ≡ true
against-true ls ts up t h none =
    ap (λ (b : Bool). cond t.lit.positive b (not b)) (
    ap (λ (b : Bool). cond b false (cond (is_among ls (record { var = t.lit.var; positive = false })) true (sign_in ts t.lit.var))) (none true)
    ∙ ap (λ (b : Bool). cond b true (sign_in ts t.lit.var)) (none false)
    ∙ sign_in-at ts up t h)
    ∙ same_sign t.lit.positive
  where
    same_sign : (p : Bool) → cond p p (not p) ≡ true
    same_sign true = refl
    same_sign false = refl

-- ---- variables that go

abbrev pub weaken_from : Constraint → List ℕ → Constraint
weaken_from c [] = c
weaken_from c (v ∷ vs) = weaken_from (weakening v c) vs

-- what holds of each term stays, and none of the variables is left
pub weaken_from-all : (Q : Weighted → Type 0) (c : Constraint) (vs : List ℕ) → All Q c.terms → All (λ t. Q t × ¬ Contains vs t.lit.var) (weaken_from c vs).terms
weaken_from-all Q c [] h = All-weaker Q (λ t. Q t × ¬ Contains [] t.lit.var) (λ t k. (k, Contains-nil t.lit.var)) c.terms h
weaken_from-all Q c (v ∷ vs) h =
    All-weaker (λ (t : Weighted). (Q t × (t.lit.var ≢ v)) × ¬ Contains vs t.lit.var) (λ (t : Weighted). Q t × ¬ Contains (v ∷ vs) t.lit.var)
    (λ t k. (k.0.0, (λ m. elim (Contains-cons_cases v vs t.lit.var m) as (λ _. ⊥) [ inl e ↦ k.0.1 (sym e) | inr r ↦ k.1 r ])))
    (weaken_from (weakening v c) vs).terms
    (weaken_from-all (λ t. Q t × (t.lit.var ≢ v)) (weakening v c) vs (kept c.terms h))
  where
    kept : (ts : List Weighted) → All Q ts → All (λ t. Q t × (t.lit.var ≢ v)) (filter (is_other v) ts)
    kept [] h = All-nil (λ (t : Weighted). Q t × (t.lit.var ≢ v))
    kept (t ∷ ts) h = by_test (eqb t.lit.var v) refl (kept ts (All-tail Q t ts h))
      where
        by_test : (b : Bool) → eqb t.lit.var v ≡ b → All (λ t. Q t × (t.lit.var ≢ v)) (filter (is_other v) ts) → All (λ t. Q t × (t.lit.var ≢ v)) (cond {A = List Weighted} (not b) (t ∷ filter (is_other v) ts) (filter (is_other v) ts))
        by_test true e ih = ih
        by_test false e ih = All-cons (λ (t : Weighted). Q t × (t.lit.var ≢ v)) t (filter (is_other v) ts) (All-head Q t ts h, eqb-false t.lit.var v e) ih

-- where the terms that go are true, what is lacking stays
weakened-value : (a : Assignment) (v : ℕ) (ts : List Weighted) → All (λ t. t.lit.var ≡ v → lit_value a t.lit ≡ true) ts → value a (filter (is_other v) ts) + sum_by (coef_at v) ts ≡ value a ts
weakened-value a v [] h = omega arith
weakened-value a v (t ∷ ts) h =
    by_test (eqb t.lit.var v) refl (sum_by-cons (coef_at v) t ts) (weakened-value a v ts (All-tail (λ (t : Weighted). t.lit.var ≡ v → lit_value a t.lit ≡ true) t ts h))
  where
    by_test : (b : Bool) → eqb t.lit.var v ≡ b → sum_by (coef_at v) (t ∷ ts) ≡ cond b t.coef 0 + sum_by (coef_at v) ts → value a (filter (is_other v) ts) + sum_by (coef_at v) ts ≡ value a ts →
        value a (cond {A = List Weighted} (not b) (t ∷ filter (is_other v) ts) (filter (is_other v) ts)) + sum_by (coef_at v) (t ∷ ts) ≡ value a (t ∷ ts)
    by_test true e f ih =
        let true_there = All-head (λ (t : Weighted). t.lit.var ≡ v → lit_value a t.lit ≡ true) t ts h (eqb-true t.lit.var v e) in
        let counts : term_value a t ≡ t.coef = ap (λ (b : Bool). cond b t.coef 0) true_there in
        omega (arith, f, ih, value-cons a t ts, counts)
    by_test false e f ih = omega (arith, f, ih, value-cons a t ts, value-cons a t (filter (is_other v) ts))

pub weaken_from-lacks : (a : Assignment) (c : Constraint) (vs : List ℕ) → All (λ t. Contains vs t.lit.var → lit_value a t.lit ≡ true) c.terms →
    c.degree + value a (weaken_from c vs).terms ≤ (weaken_from c vs).degree + value a c.terms
weaken_from-lacks a c [] h = omega arith
weaken_from-lacks a c (v ∷ vs) h =
    let now = weakened-value a v c.terms (All-weaker (λ (t : Weighted). Contains (v ∷ vs) t.lit.var → lit_value a t.lit ≡ true) (λ (t : Weighted). t.lit.var ≡ v → lit_value a t.lit ≡ true)
    (λ t k e. k (subst (λ (w : ℕ). Contains (v ∷ vs) w) (sym e) (Contains-here v vs))) c.terms h) in
    let rest = weaken_from-lacks a (weakening v c) vs (All-filter (is_other v) (λ (t : Weighted). Contains vs t.lit.var → lit_value a t.lit ≡ true) c.terms
    (All-weaker (λ (t : Weighted). Contains (v ∷ vs) t.lit.var → lit_value a t.lit ≡ true) (λ (t : Weighted). Contains vs t.lit.var → lit_value a t.lit ≡ true)
    (λ t k m. k (Contains-there v vs t.lit.var m)) c.terms h)) in
    omega (arith, now, rest)

weakened-weight : (v : ℕ) (ts : List Weighted) → weight (filter (is_other v) ts) ≤ weight ts
weakened-weight v [] = omega arith
weakened-weight v (t ∷ ts) = by_test (eqb t.lit.var v) (weakened-weight v ts)
  where
    by_test : (b : Bool) → weight (filter (is_other v) ts) ≤ weight ts → weight (cond {A = List Weighted} (not b) (t ∷ filter (is_other v) ts) (filter (is_other v) ts)) ≤ weight (t ∷ ts)
    by_test true ih = omega (arith, ih, weight-cons t ts)
    by_test false ih = omega (arith, ih, weight-cons t ts, weight-cons t (filter (is_other v) ts))

pub weakened_lighter : (v : ℕ) (c : Constraint) → (weight (weakening v c).terms ≤ weight c.terms) × ((weakening v c).degree ≤ c.degree)
weakened_lighter v c = (weakened-weight v c.terms, omega arith)

pub weaken_from_lighter : (c : Constraint) (vs : List ℕ) → (weight (weaken_from c vs).terms ≤ weight c.terms) × ((weaken_from c vs).degree ≤ c.degree)
weaken_from_lighter c [] = (omega arith, omega arith)
weaken_from_lighter c (v ∷ vs) =
    let rest = weaken_from_lighter (weakening v c) vs in
    (omega (arith, rest.0, weakened-weight v c.terms), omega (arith, rest.1))
