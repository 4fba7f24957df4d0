-- Terms that are weakened away, one variable after the other.
use Rattle.std.proofs.Common.{◌≡◌, ◌<◌, ◌-◌, ℕ, Bool, true, false, not, cond, List, [], ◌∷◌, refl, ap, ◌∙◌, arith, eqb}
use Rattle.std.specs.Prelude.{All, filter, sum_by}
use Rattle.std.proofs.lemmas.Bool.{eq-eqb, ne_eqb}
use Rattle.std.proofs.lemmas.List.Elements.{All-head, All-tail, All-map, All-filter}
use Rattle.std.proofs.lemmas.List.Sums.{sum_by-cons}
use Rattle.pb_base.proofs.Pairs.{AllPairs-head, AllPairs-tail}
use Rattle.pb_norm.specs.Constraints.{Weighted, Constraint, IsAscending, weight}
use Rattle.pb_norm.specs.BoundedSums.{vars_of}
use Rattle.pb_norm.proofs.AdditionOrder.{Before}
use Rattle.pb_norm.proofs.AdditionSizes.{weight-cons}
use Rattle.pb_steps.specs.Operations.{is_other, coef_at, weakening}
use Rattle.pb_derive.proofs.Closing.{weaken_from}

abbrev sum_of : List Weighted → ℕ → Constraint
sum_of ts d = record { terms = ts; degree = d }

with_degree : (ts : List Weighted) (d e : ℕ) → d ≡ e → sum_of ts d ≡ sum_of ts e
with_degree ts d e same = ap (sum_of ts) same

-- a variable that no term has
none_goes : (v : ℕ) (us : List Weighted) → All (λ u. v < u.lit.var) us → filter (is_other v) us ≡ us
none_goes v [] h = refl
none_goes v (u ∷ us) h =
    let other : eqb u.lit.var v ≡ false = ne_eqb u.lit.var v (λ e. omega (arith, e, All-head {X = Weighted} (λ u. v < u.lit.var) u us h)) in
    ap (λ (b : Bool). cond {A = List Weighted} (not b) (u ∷ filter (is_other v) us) (filter (is_other v) us)) other
    ∙ ap (λ (ts : List Weighted). u ∷ ts) (none_goes v us (All-tail {X = Weighted} (λ u. v < u.lit.var) u us h))

none_lost : (v : ℕ) (us : List Weighted) → All (λ u. v < u.lit.var) us → sum_by (coef_at v) us ≡ 0
none_lost v [] h = refl
none_lost v (u ∷ us) h =
    let other : eqb u.lit.var v ≡ false = ne_eqb u.lit.var v (λ e. omega (arith, e, All-head {X = Weighted} (λ u. v < u.lit.var) u us h)) in
    let own : coef_at v u ≡ 0 = ap (λ (b : Bool). cond b u.coef 0) other in
    omega (arith, sum_by-cons (coef_at v) u us, own, none_lost v us (All-tail {X = Weighted} (λ u. v < u.lit.var) u us h))

-- the first term goes
first_goes : (t : Weighted) (us : List Weighted) (d : ℕ) → All (λ u. t.lit.var < u.lit.var) us → weakening t.lit.var (sum_of (t ∷ us) d) ≡ sum_of us (d - t.coef)
first_goes t us d above =
    let v = t.lit.var in
    let own : eqb v v ≡ true = eq-eqb v v refl in
    let lost : coef_at v t ≡ t.coef = ap (λ (b : Bool). cond b t.coef 0) own in
    let all : sum_by (coef_at v) (t ∷ us) ≡ t.coef = omega (arith, sum_by-cons (coef_at v) t us, lost, none_lost v us above) in
    let kept : filter (is_other v) (t ∷ us) ≡ us =
    ap (λ (b : Bool). cond {A = List Weighted} (not b) (t ∷ filter (is_other v) us) (filter (is_other v) us)) own ∙ none_goes v us above in
    ap (λ (ts : List Weighted). sum_of ts (d - sum_by (coef_at v) (t ∷ us))) kept ∙ ap (λ (n : ℕ). sum_of us (d - n)) all

abbrev behind : Weighted → Constraint → Constraint
behind t c = record { terms = t ∷ c.terms; degree = c.degree }

-- the first term stays, where later variables go
first_stays : (t : Weighted) (us : List Weighted) (d : ℕ) (vs : List ℕ) → All (λ v. t.lit.var < v) vs → weaken_from (sum_of (t ∷ us) d) vs ≡ behind t (weaken_from (sum_of us d) vs)
first_stays t us d [] above = refl
first_stays t us d (v ∷ vs) above =
    let other : eqb t.lit.var v ≡ false = ne_eqb t.lit.var v (λ e. omega (arith, e, All-head {X = ℕ} (λ v. t.lit.var < v) v vs above)) in
    let none : coef_at v t ≡ 0 = ap (λ (b : Bool). cond b t.coef 0) other in
    let lost : sum_by (coef_at v) (t ∷ us) ≡ sum_by (coef_at v) us = omega (arith, sum_by-cons (coef_at v) t us, none) in
    let kept : filter (is_other v) (t ∷ us) ≡ t ∷ filter (is_other v) us = ap (λ (b : Bool). cond {A = List Weighted} (not b) (t ∷ filter (is_other v) us) (filter (is_other v) us)) other in
    ap (λ (c : Constraint). weaken_from c vs)
    (ap (λ (ts : List Weighted). sum_of ts (d - sum_by (coef_at v) (t ∷ us))) kept ∙ ap (λ (n : ℕ). sum_of (t ∷ filter (is_other v) us) (d - n)) lost)
    ∙ first_stays t (filter (is_other v) us) (d - sum_by (coef_at v) us) vs (All-tail {X = ℕ} (λ v. t.lit.var < v) v vs above)

-- what passes a test goes, and its weight from the degree
pub weakened : (p : Weighted → Bool) (ts : List Weighted) (d : ℕ) → IsAscending ts → weaken_from (sum_of ts d) (vars_of (filter p ts)) ≡ sum_of (filter (λ t. not (p t)) ts) (d - weight (filter p ts))
weakened p [] d up = with_degree [] d (d - weight []) (omega arith)
weakened p (t ∷ us) d up = by_test (p t) (λ e. weakened p us e (AllPairs-tail Before t us up))
  where
    above : All (λ u. t.lit.var < u.lit.var) us
    above = AllPairs-head Before t us up

    by_test : (b : Bool) → ((e : ℕ) → weaken_from (sum_of us e) (vars_of (filter p us)) ≡ sum_of (filter (λ t. not (p t)) us) (e - weight (filter p us)))
        → weaken_from (sum_of (t ∷ us) d) (vars_of (cond {A = List Weighted} b (t ∷ filter p us) (filter p us)))
        ≡ sum_of (cond {A = List Weighted} (not b) (t ∷ filter (λ t. not (p t)) us) (filter (λ t. not (p t)) us)) (d - weight (cond {A = List Weighted} b (t ∷ filter p us) (filter p us)))
    by_test true later =
        let whole : d - t.coef - weight (filter p us) ≡ d - weight (t ∷ filter p us) = omega (arith, weight-cons t (filter p us)) in
        ap (λ (c : Constraint). weaken_from c (vars_of (filter p us))) (first_goes t us d above)
        ∙ later (d - t.coef)
        ∙ with_degree (filter (λ t. not (p t)) us) (d - t.coef - weight (filter p us)) (d - weight (t ∷ filter p us)) whole
    by_test false later =
        first_stays t us d (vars_of (filter p us)) (All-map (λ (v : ℕ). t.lit.var < v) {Y = Weighted} (λ u. u.lit.var) (filter p us) (All-filter p (λ (u : Weighted). t.lit.var < u.lit.var) us above))
        ∙ ap (behind t) (later d)
