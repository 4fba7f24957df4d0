-- What the lines of a row leave that are about two of its places: that a place is reached after the one before it, and the clauses.
use Rattle.std.proofs.Common.{◌≢◌, ◌<◌, ◌+◌, ℕ, zero, suc, [], ◌∷◌, refl, arith}
use Rattle.std.specs.Prelude.{All}
use Rattle.std.proofs.lemmas.List.Elements.{All-nil, All-cons}
use Rattle.std.proofs.lemmas.List.Kept.{AllPairs-cons}
use Rattle.std.proofs.lemmas.List.Sums.{sum_by-cons}
use Rattle.pb_base.specs.declared.literal.Lit.{Lit}
use Rattle.pb_base.specs.Literals.{negated}
use Rattle.pb_base.proofs.Pairs.{AllPairs-nil}
use Rattle.pb_norm.specs.Constraints.{Weighted, Constraint, AllPositive}
use Rattle.pb_norm.specs.Addition.{sum_of}
use Rattle.pb_norm.proofs.AdditionValues.{value-cons}
use Rattle.pb_steps.specs.Operations.{multiple, division, weakening}
use Rattle.pb_derive.specs.Forms.{AreSameTerms, AreApartTerms, IsFormOf}
use Rattle.pb_derive.specs.Later.{IsOther}
use Rattle.pb_derive.specs.Reifications.{forward_of, reverse_of}
use Rattle.pb_derive.proofs.FormOperations.{form_sum, form_multiple, form_division, form_weakening, form_as}
use Rattle.pb_derive.proofs.UnaryRows.{Other, weighing, reached, missed, reached-value, missed-value, scaled-value, order_of}
use Rattle.pb_counter.specs.CounterRows.{next_count}

-- where a place is reached, the one before it was in the row before
abbrev pub fall_of : ℕ → ℕ → ℕ → Constraint
fall_of p q j = record { terms = missed 1 (q + suc j) ∷ reached 1 (p + j) ∷ []; degree = 1 }

-- the first constraint of a place
abbrev pub next_of : Lit → ℕ → ℕ → ℕ → Constraint
next_of l p q j = forward_of (next_count l p q (suc j))

-- ---- one place of the next row

module _ (l : Lit) (p q j : ℕ) (low : l.var < p) (apart : p + suc j < q) where
  abbrev b : ℕ
  b = q + suc j

  fall_sum : Constraint
  fall_sum = record { terms = weighing 1 l ∷ missed 2 b ∷ reached 3 (p + j) ∷ []; degree = 2 }

  two_others : (m n : ℕ) → All (Other (weighing 1 l)) (missed m b ∷ reached n (p + j) ∷ [])
  two_others m n = All-cons (Other (weighing 1 l)) (missed m b) (reached n (p + j) ∷ []) (λ e. omega (arith, low, apart, e)) (All-cons (Other (weighing 1 l)) (reached n (p + j)) [] (λ e. omega (arith, low, e)) (All-nil (Other (weighing 1 l))))

  pub fall_form : (c d : Constraint) → IsFormOf (next_of l p q j) c → IsFormOf (order_of p j) d → IsFormOf (fall_of p q j) (division 3 (weakening l.var (sum_of c (multiple 2 d))))
  unfolding fall_sum
  fall_form c d hc hd =
      form_division 3 (record { terms = missed 2 b ∷ reached 3 (p + j) ∷ []; degree = 1 }) (weakening l.var (sum_of c (multiple 2 d))) (omega arith)
      (form_weakening (weighing 1 l) (missed 2 b ∷ reached 3 (p + j) ∷ []) 2 (sum_of c (multiple 2 d)) (two_others 2 3)
      (form_sum (next_of l p q j) (multiple 2 (order_of p j)) fall_sum c (multiple 2 d) 2 hc (form_multiple 2 (order_of p j) d (omega arith) hd)
      (AllPairs-cons Other (weighing 1 l) (missed 2 b ∷ reached 3 (p + j) ∷ []) (two_others 2 3)
      (AllPairs-cons Other (missed 2 b) (reached 3 (p + j) ∷ []) (All-cons (Other (missed 2 b)) (reached 3 (p + j)) [] (λ e. omega (arith, apart, e)) (All-nil (Other (missed 2 b))))
      (AllPairs-cons Other (reached 3 (p + j)) [] (All-nil (Other (reached 3 (p + j)))) (AllPairs-nil Other))))
      (All-cons (λ (t : Weighted). 0 < t.coef) (weighing 1 l) (missed 2 b ∷ reached 3 (p + j) ∷ []) (omega arith)
      (All-cons (λ (t : Weighted). 0 < t.coef) (missed 2 b) (reached 3 (p + j) ∷ []) (omega arith)
      (All-cons (λ (t : Weighted). 0 < t.coef) (reached 3 (p + j)) [] (omega arith) (All-nil (λ (t : Weighted). 0 < t.coef)))))
      (λ a. omega (
        arith,
        scaled-value a 2 (order_of p j).terms,
        value-cons a (missed 1 (p + suc j)) (reached 1 (p + j) ∷ []),
        value-cons a (reached 1 (p + j)) [],
        missed-value a 1 (p + suc j),
        reached-value a 1 (p + j),
        value-cons a (missed 2 b) (weighing 1 l ∷ reached 1 (p + j) ∷ reached 2 (p + suc j) ∷ []),
        value-cons a (weighing 1 l) (reached 1 (p + j) ∷ reached 2 (p + suc j) ∷ []),
        value-cons a (reached 1 (p + j)) (reached 2 (p + suc j) ∷ []),
        value-cons a (reached 2 (p + suc j)) [],
        reached-value a 2 (p + suc j),
        value-cons a (weighing 1 l) (missed 2 b ∷ reached 3 (p + j) ∷ []),
        value-cons a (missed 2 b) (reached 3 (p + j) ∷ []),
        value-cons a (reached 3 (p + j)) [],
        reached-value a 3 (p + j),
      ))
      refl))

pub order_apart : (p j : ℕ) → AreApartTerms (order_of p j).terms
order_apart p j =
    AllPairs-cons Other (missed 1 (p + suc j)) (reached 1 (p + j) ∷ []) (All-cons (Other (missed 1 (p + suc j))) (reached 1 (p + j)) [] (λ e. omega (arith, e)) (All-nil (Other (missed 1 (p + suc j)))))
    (AllPairs-cons Other (reached 1 (p + j)) [] (All-nil (Other (reached 1 (p + j)))) (AllPairs-nil Other))

pub fall_apart : (p q j : ℕ) → p + suc j < q → AreApartTerms (fall_of p q j).terms
fall_apart p q j apart =
    AllPairs-cons Other (missed 1 (q + suc j)) (reached 1 (p + j) ∷ []) (All-cons (Other (missed 1 (q + suc j))) (reached 1 (p + j)) [] (λ e. omega (arith, e, apart)) (All-nil (Other (missed 1 (q + suc j)))))
    (AllPairs-cons Other (reached 1 (p + j)) [] (All-nil (Other (reached 1 (p + j)))) (AllPairs-nil Other))

pub fall_positive : (p q j : ℕ) → AllPositive (fall_of p q j).terms
fall_positive p q j = All-cons (λ (t : Weighted). 0 < t.coef) (missed 1 (q + suc j)) (reached 1 (p + j) ∷ []) (omega arith) (All-cons (λ (t : Weighted). 0 < t.coef) (reached 1 (p + j)) [] (omega arith) (All-nil (λ (t : Weighted). 0 < t.coef)))

-- a place that is reached stays so
abbrev pub keep_of : ℕ → ℕ → ℕ → Constraint
keep_of p q j = record { terms = reached 1 (q + j) ∷ missed 1 (p + j) ∷ []; degree = 1 }

pub order_step_form : (p q j : ℕ) (c d : Constraint) → IsFormOf (fall_of p q j) c → IsFormOf (keep_of p q j) d → IsFormOf (order_of q j) (sum_of c d)
order_step_form p q j c d hc hd =
    form_sum (fall_of p q j) (keep_of p q j) (order_of q j) c d 1 hc hd
    (AllPairs-cons Other (missed 1 (q + suc j)) (reached 1 (q + j) ∷ []) (All-cons (Other (missed 1 (q + suc j))) (reached 1 (q + j)) [] (λ e. omega (arith, e)) (All-nil (Other (missed 1 (q + suc j)))))
    (AllPairs-cons Other (reached 1 (q + j)) [] (All-nil (Other (reached 1 (q + j)))) (AllPairs-nil Other)))
    (All-cons (λ (t : Weighted). 0 < t.coef) (missed 1 (q + suc j)) (reached 1 (q + j) ∷ []) (omega arith) (All-cons (λ (t : Weighted). 0 < t.coef) (reached 1 (q + j)) [] (omega arith) (All-nil (λ (t : Weighted). 0 < t.coef))))
    (λ a. omega (
      arith,
      value-cons a (missed 1 (q + suc j)) (reached 1 (p + j) ∷ []),
      value-cons a (reached 1 (p + j)) [],
      reached-value a 1 (p + j),
      value-cons a (reached 1 (q + j)) (missed 1 (p + j) ∷ []),
      value-cons a (missed 1 (p + j)) [],
      missed-value a 1 (p + j),
      value-cons a (missed 1 (q + suc j)) (reached 1 (q + j) ∷ []),
      value-cons a (reached 1 (q + j)) [],
    ))
    refl

-- ---- the clauses

-- one more is reached, where the literal is true
abbrev pub more_of : Lit → ℕ → ℕ → ℕ → Constraint
more_of l p q zero = record { terms = reached 1 (q + 0) ∷ weighing 1 (negated l) ∷ []; degree = 1 }
more_of l p q (suc j) = record { terms = reached 1 (q + suc j) ∷ weighing 1 (negated l) ∷ missed 1 (p + j) ∷ []; degree = 1 }

others_of : (t u v w : Weighted) → t.lit.var ≢ u.lit.var → t.lit.var ≢ v.lit.var → t.lit.var ≢ w.lit.var → All (IsOther t.lit.var) (u ∷ v ∷ w ∷ [])
others_of t u v w h k m = All-cons (IsOther t.lit.var) u (v ∷ w ∷ []) h (All-cons (IsOther t.lit.var) v (w ∷ []) k (All-cons (IsOther t.lit.var) w [] m (All-nil (IsOther t.lit.var))))

module _ (l : Lit) (p q j : ℕ) (low : l.var < p) (apart : p + suc j < q) where
  pub keep_form : (c : Constraint) → IsFormOf (reverse_of (next_count l p q (suc j))) c → IsFormOf (keep_of p q (suc j)) (division 3 (weakening (p + j) (weakening l.var c)))
  keep_form c h =
      let x : Weighted = weighing 1 (negated l) in
      let b : Weighted = reached 3 (q + suc j) in
      let s : Weighted = missed 1 (p + j) in
      let t : Weighted = missed 2 (p + suc j) in
      let c1 = weakening l.var c in
      let first : AreSameTerms (b ∷ x ∷ s ∷ t ∷ []) (x ∷ b ∷ s ∷ t ∷ []) = λ f. omega (arith, sum_by-cons f b (x ∷ s ∷ t ∷ []), sum_by-cons f x (s ∷ t ∷ []), sum_by-cons f x (b ∷ s ∷ t ∷ []), sum_by-cons f b (s ∷ t ∷ [])) in
      let second : AreSameTerms (b ∷ s ∷ t ∷ []) (s ∷ b ∷ t ∷ []) = λ f. omega (arith, sum_by-cons f b (s ∷ t ∷ []), sum_by-cons f s (t ∷ []), sum_by-cons f s (b ∷ t ∷ []), sum_by-cons f b (t ∷ [])) in
      let gone : IsFormOf (record { terms = b ∷ s ∷ t ∷ []; degree = 2 }) c1 = form_weakening x (b ∷ s ∷ t ∷ []) 3 c (others_of x b s t (λ e. omega (arith, low, apart, e)) (λ e. omega (arith, low, e)) (λ e. omega (arith, low, e)))
      (form_as (reverse_of (next_count l p q (suc j))) (record { terms = x ∷ b ∷ s ∷ t ∷ []; degree = 3 }) c first refl h) in
      form_division 3 (record { terms = b ∷ t ∷ []; degree = 1 }) (weakening (p + j) c1) (omega arith)
      (form_weakening s (b ∷ t ∷ []) 2 c1 (All-cons (IsOther s.lit.var) b (t ∷ []) (λ e. omega (arith, apart, e)) (All-cons (IsOther s.lit.var) t [] (λ e. omega (arith, e)) (All-nil (IsOther s.lit.var))))
      (form_as (record { terms = b ∷ s ∷ t ∷ []; degree = 2 }) (record { terms = s ∷ b ∷ t ∷ []; degree = 2 }) c1 second refl gone))

  pub more_form : (c : Constraint) → IsFormOf (reverse_of (next_count l p q (suc j))) c → IsFormOf (more_of l p q (suc j)) (division 3 (weakening (p + suc j) c))
  more_form c h =
      let x : Weighted = weighing 1 (negated l) in
      let b : Weighted = reached 3 (q + suc j) in
      let s : Weighted = missed 1 (p + j) in
      let t : Weighted = missed 2 (p + suc j) in
      let same : AreSameTerms (b ∷ x ∷ s ∷ t ∷ []) (t ∷ b ∷ x ∷ s ∷ []) = λ f.
      omega (arith, sum_by-cons f b (x ∷ s ∷ t ∷ []), sum_by-cons f x (s ∷ t ∷ []), sum_by-cons f s (t ∷ []), sum_by-cons f t [], sum_by-cons f t (b ∷ x ∷ s ∷ []), sum_by-cons f b (x ∷ s ∷ []), sum_by-cons f x (s ∷ []), sum_by-cons f s []) in
      form_division 3 (record { terms = b ∷ x ∷ s ∷ []; degree = 1 }) (weakening (p + suc j) c) (omega arith)
      (form_weakening t (b ∷ x ∷ s ∷ []) 3 c (others_of t b x s (λ e. omega (arith, apart, e)) (λ e. omega (arith, low, e)) (λ e. omega (arith, e)))
      (form_as (reverse_of (next_count l p q (suc j))) (record { terms = t ∷ b ∷ x ∷ s ∷ []; degree = 3 }) c same refl h))

module _ (l : Lit) (p q : ℕ) (low : l.var < p) (apart : p + 0 < q) where
  pub keep_first : (c : Constraint) → IsFormOf (reverse_of (next_count l p q 0)) c → IsFormOf (keep_of p q 0) (division 3 (weakening l.var c))
  keep_first c h =
      let x : Weighted = weighing 1 (negated l) in
      let b : Weighted = reached 2 (q + 0) in
      let s : Weighted = missed 1 (p + 0) in
      let same : AreSameTerms (b ∷ x ∷ s ∷ []) (x ∷ b ∷ s ∷ []) = λ f. omega (arith, sum_by-cons f b (x ∷ s ∷ []), sum_by-cons f x (s ∷ []), sum_by-cons f x (b ∷ s ∷ []), sum_by-cons f b (s ∷ [])) in
      form_division 3 (record { terms = b ∷ s ∷ []; degree = 1 }) (weakening l.var c) (omega arith)
      (form_weakening x (b ∷ s ∷ []) 2 c (All-cons (IsOther x.lit.var) b (s ∷ []) (λ e. omega (arith, low, apart, e)) (All-cons (IsOther x.lit.var) s [] (λ e. omega (arith, low, e)) (All-nil (IsOther x.lit.var))))
      (form_as (reverse_of (next_count l p q 0)) (record { terms = x ∷ b ∷ s ∷ []; degree = 2 }) c same refl h))

  pub one_form : (c : Constraint) → IsFormOf (reverse_of (next_count l p q 0)) c → IsFormOf (more_of l p q 0) (division 3 (weakening (p + 0) c))
  one_form c h =
      let x : Weighted = weighing 1 (negated l) in
      let b : Weighted = reached 2 (q + 0) in
      let s : Weighted = missed 1 (p + 0) in
      let same : AreSameTerms (b ∷ x ∷ s ∷ []) (s ∷ b ∷ x ∷ []) = λ f. omega (arith, sum_by-cons f b (x ∷ s ∷ []), sum_by-cons f x (s ∷ []), sum_by-cons f s [], sum_by-cons f s (b ∷ x ∷ []), sum_by-cons f b (x ∷ []), sum_by-cons f x []) in
      form_division 3 (record { terms = b ∷ x ∷ []; degree = 1 }) (weakening (p + 0) c) (omega arith)
      (form_weakening s (b ∷ x ∷ []) 2 c (All-cons (IsOther s.lit.var) b (x ∷ []) (λ e. omega (arith, apart, e)) (All-cons (IsOther s.lit.var) x [] (λ e. omega (arith, low, e)) (All-nil (IsOther s.lit.var))))
      (form_as (reverse_of (next_count l p q 0)) (record { terms = s ∷ b ∷ x ∷ []; degree = 2 }) c same refl h))
