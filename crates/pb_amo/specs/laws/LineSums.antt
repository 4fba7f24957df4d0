-- What the lines of a side add up to.
use Rattle.std.proofs.Common.{◌≡◌, ◌≢◌, ◌≤◌, ◌<◌, ◌+◌, ◌^◌, ℕ, Bool, false, cond, List, [], ◌∷◌, length, refl, ap, sym, ◌∙◌, subst, arith, eqb, inl, inr, get_or, zero, suc}
use Rattle.std.specs.Prelude.{All, Contains, map, sum_by}
use Rattle.std.specs.List.{range_with_len}
use Rattle.std.proofs.lemmas.Bool.{eqb-true, cases_Bool, not-false}
use Rattle.std.proofs.lemmas.List.Elements.{All-cons, All-head, All-tail, All-map, All-weaker, All-contains_itself}
use Rattle.std.proofs.lemmas.List.Kept.{AllPairs-cons}
use Rattle.std.proofs.lemmas.List.FromFn.{get_or-map-range_with_len}
use Rattle.std.proofs.lemmas.List.Sums.{sum_by-cons}
use Rattle.pb_base.specs.declared.literal.Lit.{Lit}
use Rattle.pb_base.specs.Literals.{Assignment, negated, lit_value, is_same}
use Rattle.pb_base.proofs.LiteralLemmas.{negated-negated, lit_value-negated}
use Rattle.pb_base.proofs.Members.{Contains-here, Contains-there}
use Rattle.pb_base.proofs.Pairs.{AllPairs-head, AllPairs-tail, AllPairs-map}
use Rattle.pb_base.proofs.Sums.{sum_by-map, sum_by_two}
use Rattle.pb_norm.specs.Constraints.{Weighted, Constraint, value, term_value}
use Rattle.pb_norm.specs.Addition.{coef_of}
use Rattle.pb_norm.specs.Reduction.{opposite}
use Rattle.pb_derive.specs.Derivations.{as_constraint}
use Rattle.pb_derive.specs.inner.Exact.{IsSum}
use Rattle.pb_derive.specs.Reifications.{forward_of}
use Rattle.pb_derive.specs.Ones.{unit_of, ones}
use Rattle.pb_derive.specs.inner.Follows.{degrees}
use Rattle.pb_derive.proofs.ClauseClaims.{ones-apart}
use Rattle.pb_derive.proofs.Closing.{degrees-cons, weight_in-cons, value_in-cons, coef_in-cons, against, against-false}
use Rattle.pb_derive.proofs.Opposites.{value-opposite, weight-opposite, coef_of-opposite}
use Rattle.pb_derive.proofs.PinLemmas.{AreApartLits}
use Rattle.pb_derive.proofs.Rups.{ones-weight}
use Rattle.pb_derive.proofs.UnitTerms.{ones-all, ones-sum, value-none, apart-consistent}
use Rattle.pb_family.specs.Fresh.{fresh_at}
use Rattle.pb_family.proofs.Ranges.{range_each}
use Rattle.pb_amo.specs.laws.LineLaws.{length-line}
use Rattle.pb_amo.specs.Passing.{passing, in_line}
use Rattle.pb_amo.specs.laws.PassingSums.{at_most, passing-cons, passing-le, lines-all}
use Rattle.pb_amo.specs.Product.{line}
use Rattle.pb_amo.specs.inner.AtMostOne.{at_most_one}
use Rattle.pb_amo.specs.ProductSteps.{line_reification}

-- the variables of a line are different
pub line-other : (first n : ℕ) → AreApartLits (line first n)
line-other first n = λ i j d before within.
    let size = length-line first n in
    let at_i = get_or-map-range_with_len (fresh_at first) 0 n i i d (omega arith) (omega arith) in
    let at_j = get_or-map-range_with_len (fresh_at first) 0 n j j d (omega arith) (omega arith) in
    rw (at_i, at_j) (λ e. omega (arith, e, before))

module _ (side : ℕ → ℕ) (ms : List Lit) (first w : ℕ) where
  abbrev firsts : List Constraint
  firsts = map (λ k. forward_of (line_reification side ms first k)) (range_with_len 0 w)

  -- the lines' variables, and each literal once
  firsts_sum : (c : Weighted → ℕ) → ((e : ℕ) → e < length ms → side e < w) →
      sum_by (λ s. sum_by c s.terms) firsts ≡ sum_by c (map opposite (ones (line first w))) + sum_by c (ones ms)
  firsts_sum c within =
      let range : List ℕ = range_with_len 0 w in
      let fresh : ℕ → ℕ = λ k. c (opposite (unit_of (fresh_at first k))) in
      let rest : ℕ → ℕ = λ k. sum_by c (ones (passing (in_line side k) 0 ms)) in
      let mapped : sum_by (λ s. sum_by c s.terms) firsts ≡ sum_by (λ k. sum_by c (forward_of (line_reification side ms first k)).terms) range = sum_by-map (λ (s : Constraint). sum_by c s.terms) (λ (k : ℕ). forward_of (line_reification side ms first k)) range in
      let both = sum_by_two (λ k. sum_by c (forward_of (line_reification side ms first k)).terms) fresh rest range (λ k. sum_by-cons c (opposite (unit_of (fresh_at first k))) (ones (passing (in_line side k) 0 ms))) in
      let lits : sum_by rest range ≡ sum_by (λ k. sum_by (λ l. c (unit_of l)) (passing (in_line side k) 0 ms)) range = (λ i. sum_by (λ k. ones-sum c (passing (in_line side k) 0 ms) i) range) in
      let all = lines-all (λ (l : Lit). c (unit_of l)) side w 0 ms (λ j h. within j (omega arith)) in
      let heads : sum_by c (map opposite (ones (line first w))) ≡ sum_by fresh range =
      sum_by-map c opposite (ones (line first w)) ∙ sum_by-map (λ (t : Weighted). c (opposite t)) unit_of (line first w) ∙ sum_by-map (λ (l : Lit). c (opposite (unit_of l))) (fresh_at first) range in
      omega (arith, mapped, both, lits, all, ones-sum c ms, heads)

  firsts_degrees : (a n : ℕ) → degrees (map (λ k. forward_of (line_reification side ms first k)) (range_with_len a n)) ≡ n
  firsts_degrees a zero = refl
  firsts_degrees a (suc n) = omega (arith, degrees-cons (forward_of (line_reification side ms first a)) (map (λ k. forward_of (line_reification side ms first k)) (range_with_len (a + 1) n)), firsts_degrees (a + 1) n)

-- with one literal and its line true, no constraint has more than its degree
module _ (side : ℕ → ℕ) (m : Lit) (rest : List Lit) (first w : ℕ) (other : AreApartLits (m ∷ rest)) (below : All (λ l. l.var < first) (m ∷ rest)) where
  abbrev falses : List Lit
  falses = negated (fresh_at first (side 0)) ∷ negated m ∷ rest

  under : Assignment
  under = against falses []

  falses-other : AreApartLits falses
  falses-other =
      AllPairs-cons (λ (k l : Lit). k.var ≢ l.var) (negated (fresh_at first (side 0))) (negated m ∷ rest)
      (All-cons (λ (l : Lit). first + side 0 ≢ l.var) (negated m) rest (λ e. omega (arith, e, All-head (λ (l : Lit). l.var < first) m rest below))
      (All-weaker (λ (l : Lit). l.var < first) (λ (l : Lit). first + side 0 ≢ l.var) (λ l h e. omega (arith, e, h)) rest (All-tail (λ (l : Lit). l.var < first) m rest below)))
      (AllPairs-cons (λ (k l : Lit). k.var ≢ l.var) (negated m) rest (AllPairs-head (λ (k l : Lit). k.var ≢ l.var) m rest other) (AllPairs-tail (λ (k l : Lit). k.var ≢ l.var) m rest other))

  is_false : (l : Lit) → Contains falses l → lit_value under l ≡ false
  unfolding under
  is_false l h = against-false falses [] (apart-consistent falses falses-other) l h

  line_false : lit_value under (negated (fresh_at first (side 0))) ≡ false
  line_false = is_false (negated (fresh_at first (side 0))) (Contains-here (negated (fresh_at first (side 0))) (negated m ∷ rest))

  own_true : term_value under (unit_of m) ≡ 1
  own_true =
      let no : lit_value under (negated m) ≡ false = is_false (negated m) (Contains-there (negated (fresh_at first (side 0))) (negated m ∷ rest) (negated m) (Contains-here (negated m) rest)) in
      ap (λ (b : Bool). cond b 1 0) (not-false (lit_value under m) (sym (lit_value-negated under m) ∙ no))

  rest_false : value under (ones rest) ≡ 0
  rest_false = value-none under rest (λ i d within. is_false (get_or rest i d) (Contains-there (negated (fresh_at first (side 0))) (negated m ∷ rest) (get_or rest i d) (Contains-there (negated m) rest (get_or rest i d) (All-contains_itself rest i d within))))

  line_value : (k : ℕ) → value under (ones (passing (in_line side k) 0 (m ∷ rest))) ≤ cond (eqb (side 0) k) 1 0
  line_value k =
      let tv : Lit → ℕ = λ l. term_value under (unit_of l) in
      let all = ones-sum (term_value under) (passing (in_line side k) 0 (m ∷ rest)) in
      let parts = passing-cons tv (in_line side k) 0 m rest in
      let none = passing-le tv (in_line side k) 1 rest in
      let zero_rest = ones-sum (term_value under) rest in
      let here : cond (eqb (side 0) k) (tv m) 0 ≡ cond (eqb (side 0) k) 1 0 = ap (λ (n : ℕ). cond (eqb (side 0) k) n 0) own_true in
      omega (arith, all, parts, none, zero_rest, rest_false, here)

  tight_first : (k : ℕ) → value under (forward_of (line_reification side (m ∷ rest) first k)).terms ≤ 1
  tight_first k =
      let t : Weighted = opposite (unit_of (fresh_at first k)) in
      let sum = sum_by-cons (term_value under) t (ones (passing (in_line side k) 0 (m ∷ rest))) in
      let most = line_value k in
      elim (cases_Bool (eqb (side 0) k)) as (λ _. value under (forward_of (line_reification side (m ∷ rest) first k)).terms ≤ 1) [
        | inl same ↦
            let here : term_value under t ≡ 0 = ap (λ (b : Bool). cond b 1 0) (subst (λ (j : ℕ). lit_value under (negated (fresh_at first j)) ≡ false) (eqb-true (side 0) k same) line_false) in
            omega (arith, sum, most, at_most (eqb (side 0) k) 1, here)
        | inr apart ↦
            let none : cond {A = ℕ} (eqb (side 0) k) 1 0 ≡ 0 = ap (λ (b : Bool). cond b 1 0) apart in
            omega (arith, sum, most, none, at_most (lit_value under t.lit) 1)
      ]

  pub lines-sum : ((e : ℕ) → e < length (m ∷ rest) → side e < w) → length (m ∷ rest) < 2 ^ 31 → w < 2 ^ 31 →
      IsSum (as_constraint (at_most_one (m ∷ rest)) ∷ map (λ k. forward_of (line_reification side (m ∷ rest) first k)) (range_with_len 0 w)) (as_constraint (at_most_one (line first w)))
  lines-sum within few narrow =
      let ms : List Lit = m ∷ rest in
      let own : Constraint = as_constraint (at_most_one ms) in
      let lines : List Constraint = map (λ k. forward_of (line_reification side ms first k)) (range_with_len 0 w) in
      let size = length-line first w in
      let some : 0 < w = (let h = within 0 (omega arith) in omega arith) in
      let sums = λ (c : Weighted → ℕ). firsts_sum side ms first w c within in
      let units = ones-weight ms in
      let line_units = ones-weight (line first w) in
      record {
        apart = AllPairs-map (λ (s t : Weighted). s.lit.var ≢ t.lit.var) (λ (s t : Weighted). s.lit.var ≢ t.lit.var) opposite (λ s t h. h) (ones (line first w)) (ones-apart (line first w) (line-other first w));
        positive = All-map (λ (t : Weighted). 0 < t.coef) opposite (ones (line first w)) (ones-all (λ (t : Weighted). 0 < t.coef) (line first w) (λ i d h. omega arith));
        coefs = λ l.
            let c = λ (l : Lit) (t : Weighted). cond (is_same t.lit l) t.coef 0 in
            omega (arith, coef_in-cons l own lines, coef_in-cons (negated l) own lines, sums (c l), sums (c (negated l)), coef_of-opposite (ones ms) l, coef_of-opposite (ones ms) (negated l), ap (coef_of (ones ms)) (negated-negated l));
        under = under;
        tight = All-cons (λ (s : Constraint). value under s.terms ≤ s.degree) own lines
            (omega (arith, value-opposite under (ones ms), sum_by-cons (term_value under) (unit_of m) (ones rest), own_true, rest_false))
            (range_each (λ (s : Constraint). value under s.terms ≤ s.degree) (λ k. forward_of (line_reification side ms first k)) 0 w (λ k low high. tight_first k));
        degree = omega (arith, degrees-cons own lines, firsts_degrees side ms first w 0 w, value_in-cons under own lines, sums (term_value under), value-opposite under (ones ms), units, line_units, size, some);
        weight_fits = omega (arith, weight_in-cons own lines, sums (λ t. t.coef), weight-opposite (ones ms), weight-opposite (ones (line first w)), units, line_units, size, few, narrow);
        degree_fits = omega (arith, degrees-cons own lines, firsts_degrees side ms first w 0 w, units, few, narrow);
      }
