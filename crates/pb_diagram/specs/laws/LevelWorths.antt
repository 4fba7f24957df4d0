-- What the sums over a level's nodes and over the next level's places are worth.
use Rattle.std.proofs.Common.{◌≡◌, ◌≢◌, ◌≤◌, ◌<◌, ◌+◌, ◌*◌, ◌-◌, ◌⊎◌, inl, inr, ℕ, suc, Bool, true, false, cond, List, [], ◌∷◌, ◌++◌, length, refl, ap, sym, ◌∙◌, subst, append-nil, append_assoc, arith, pos, eqb}
use Rattle.std.specs.Prelude.{Option, None, Some, max, min}
use Rattle.std.proofs.Math.Nat.{mul-add}
use Rattle.std.proofs.lemmas.Bool.{eq-eqb, ne_eqb, cases_eq, eqb-true, both_ways}
use Rattle.pb_base.specs.declared.literal.Lit.{Lit}
use Rattle.pb_base.specs.Literals.{Assignment, negated}
use Rattle.pb_norm.specs.Constraints.{Constraint, value}
use Rattle.pb_steps.specs.declared.op.PolOp.{PolOp}
use Rattle.pb_steps.specs.declared.op.PolOp.TheVariants.{Push, Axiom, Add, Div}
use Rattle.pb_steps.specs.Database.{Database}
use Rattle.pb_derive.specs.Later.{Knows}
use Rattle.pb_derive.specs.Reifications.{reverse_of}
use Rattle.pb_family.specs.Fresh.{positive_of}
use Rattle.pb_diagram.specs.declared.node.Node.{Node}
use Rattle.pb_diagram.specs.Guards.{missed_of, child_terms, child_least, child_reification, plus_times, off_ops, on_ops, off_sums, on_sums, place_ops, place_sums, between}
use Rattle.pb_diagram.specs.laws.NodeWorths.{IsOrdered, order_of, off_miss, off_sum, on_sum, IsPair}
use Rattle.pb_diagram.specs.laws.FewTerms.{value-two}
use Rattle.pb_diagram.specs.laws.StepSums.{at_child, place_total}
use Rattle.pb_diagram.specs.laws.WorthSums.{holds, holds-negated, IsSumBy, sum_known, sum_literal, sum_as, sum_ops, sum_plus}

-- ---- the nodes, where the literal is false

abbrev pub off_worth : Assignment → Lit → ℕ → ℕ → ℕ → List Node → ℕ
off_worth a l q p low [] = 0
off_worth a l q p low (n ∷ ns) = (n.top - low) * (holds a (positive_of p) + off_miss a q n.off + holds a l) + off_worth a l q (p + 1) n.top ns

-- the whole of the steps
abbrev pub climbed : ℕ → List Node → ℕ
climbed low [] = 0
climbed low (n ∷ ns) = (n.top - low) * 1 + climbed n.top ns

-- after each of them the sum is not above its degree, under one assignment
abbrev pub IsTight : Assignment → Lit → ℕ → ℕ → ℕ → ℕ → ℕ → List Node → Type 0
IsTight a l q p low v d [] = Unit {0}
IsTight a l q p low v d (n ∷ ns) =
    let w : ℕ = (n.top - low) * (holds a (positive_of p) + off_miss a q n.off + holds a l) in
    (v + w ≤ d + (n.top - low) * 1) × IsTight a l q (p + 1) n.top (v + w) (d + (n.top - low) * 1) ns

abbrev pub IsPlaceOf : ℕ → ℕ → Option ℕ → Type 0
IsPlaceOf vars q None = Unit {0}
IsPlaceOf vars q (Some t) = q + t ≤ vars

-- their second constraints are known
abbrev pub AreNodesKnown : Database → Lit → ℕ → ℕ → ℕ → List Node → Type 0
AreNodesKnown db l q p counts [] = Unit {0}
AreNodesKnown db l q p counts (n ∷ ns) = Knows db (counts + 1) (reverse_of (child_reification l q p n)) × AreNodesKnown db l q (p + 1) (counts + 2) ns

abbrev pub AreChildren : (Node → Type 0) → List Node → Type 0
AreChildren P [] = Unit {0}
AreChildren P (n ∷ ns) = P n × AreChildren P ns

module _ (db : Database) (l : Lit) (q : ℕ) (fits : q ≤ db.vars + 1) (under : Assignment) where
  pub off_all : (ops : List PolOp) (V : Assignment → ℕ) (d m p low counts : ℕ) (ns : List Node) → l.var < p → p + length ns ≤ q → AreNodesKnown db l q p counts ns → AreChildren (λ n. IsPlaceOf db.vars q n.on) ns → IsTight under l q p low (V under) d ns
      → IsSumBy db ops V d m 3 → IsSumBy db (ops ++ off_sums q counts low ns) (λ a. V a + off_worth a l q p low ns) (d + climbed low ns) (m + 9 * climbed low ns) 3
  off_all ops V d m p low counts [] before within known places tight x =
      sum_ops db ops (ops ++ []) (λ a. V a + 0) (d + 0) (m + 9 * 0) 3 (sym (append-nil ops)) (sum_as db ops V (λ a. V a + 0) d (d + 0) m (m + 9 * 0) 3 3 x (λ a. omega arith) (omega arith) (omega arith))
  off_all ops V d m p low counts (n ∷ ns) before within known places tight x =
      let c : ℕ = n.top - low in
      let W : Assignment → ℕ = λ a. holds a (positive_of p) + off_miss a q n.off + holds a l in
      let one : IsSumBy db (ops ++ plus_times c (off_ops q (counts + 1) n)) (λ a. V a + c * W a) (d + c * 1) (m + c * 9) 3 =
      sum_plus db under c ops (off_ops q (counts + 1) n) V W d 1 m 9 2 x (off_sum db l q p (counts + 1) before (omega (arith, within)) fits n.off n.on places.0 known.0) tight.0 in
      let rest = off_all (ops ++ plus_times c (off_ops q (counts + 1) n)) (λ a. V a + c * W a) (d + c * 1) (m + c * 9) (p + 1) n.top (counts + 2) ns (omega (arith, before)) (omega (arith, within)) known.1 places.1 tight.1 one in
      sum_ops db ((ops ++ plus_times c (off_ops q (counts + 1) n)) ++ off_sums q (counts + 2) n.top ns) (ops ++ off_sums q counts low (n ∷ ns)) (λ a. V a + off_worth a l q p low (n ∷ ns)) (d + climbed low (n ∷ ns)) (m + 9 * climbed low (n ∷ ns)) 3
      (append_assoc ops (plus_times c (off_ops q (counts + 1) n)) (off_sums q (counts + 2) n.top ns))
      (sum_as db ((ops ++ plus_times c (off_ops q (counts + 1) n)) ++ off_sums q (counts + 2) n.top ns) (λ a. V a + c * W a + off_worth a l q (p + 1) n.top ns) (λ a. V a + off_worth a l q p low (n ∷ ns)) (d + c * 1 + climbed n.top ns) (d + climbed low (n ∷ ns)) (m + c * 9 + 9 * climbed n.top ns) (m + 9 * climbed low (n ∷ ns)) 3 3 rest
      (λ a. omega arith) (omega arith) (omega arith))

-- ---- the places

-- 1 where the place is one of the next level's and false
abbrev pub gap : Assignment → ℕ → ℕ → ℕ → ℕ
gap a q count i = cond (eqb i count) 0 (holds a (missed_of (q + i)))

abbrev pub place_worth : (ℕ → ℕ) → (ℕ → ℕ) → ℕ → List Node → ℕ
place_worth reach h j [] = 0
place_worth reach h j (n ∷ ns) = (n.top - reach j) * (h j + (1 - h (suc j))) + place_worth reach h (suc j) ns

abbrev pub place_degree : (ℕ → ℕ) → ℕ → List Node → ℕ
place_degree reach j [] = 0
place_degree reach j (n ∷ ns) = (n.top - reach j) * 1 + place_degree reach (suc j) ns

pub place-balance : (reach h : ℕ → ℕ) (j : ℕ) (ns : List Node) → ((i : ℕ) → h i ≤ 1) → place_worth reach h j ns + place_total reach (λ i. h (suc i)) j ns ≡ place_total reach h j ns + place_degree reach j ns
place-balance reach h j [] low = refl
place-balance reach h j (n ∷ ns) low =
    let c : ℕ = n.top - reach j in
    let k : ℕ = h (suc j) in
    let whole : h j + (1 - k) + k ≡ h j + 1 = omega (arith, low (suc j)) in
    omega (arith, mul-add c (h j + (1 - k)) k, mul-add c (h j) 1, ap (λ (i : ℕ). c * i) whole, place-balance reach h (suc j) ns low)

module _ (db : Database) (order q count : ℕ) (ordered : IsOrdered db order q count) (fits : q + count ≤ db.vars + 1) where
  pub gap-le : (a : Assignment) (i : ℕ) → gap a q count i ≤ 1
  gap-le a i = by_test (eqb i count) (holds-negated a (positive_of (q + i)))
    where
      by_test : (b : Bool) → holds a (missed_of (q + i)) + holds a (positive_of (q + i)) ≡ 1 → cond b 0 (holds a (missed_of (q + i))) ≤ 1
      by_test true h = omega arith
      by_test false h = omega (arith, h)

  pub gap-inside : (a : Assignment) (i : ℕ) → i < count → gap a q count i ≡ holds a (missed_of (q + i))
  gap-inside a i within = ap (λ (b : Bool). cond b 0 (holds a (missed_of (q + i)))) (ne_eqb i count (λ e. omega (arith, within, e)))

  pub gap-end : (a : Assignment) (i : ℕ) → i ≡ count → gap a q count i ≡ 0
  gap-end a i e = ap (λ (b : Bool). cond b 0 (holds a (missed_of (q + i)))) (eq-eqb i count e)

  one_place : (j : ℕ) (b : Bool) → eqb j (count - 1) ≡ b → j < count → (j ≡ count - 1) ⊎ (suc j < count)
      → IsSumBy db (cond b (Axiom (missed_of (q + j)) ∷ []) (Push (order + j) ∷ [])) (λ a. gap a q count j + (1 - gap a q count (suc j))) 1 3 1
  one_place j true same within (inl last) =
      let z : Lit = missed_of (q + j) in
      sum_as db (Axiom z ∷ []) (λ a. holds a z) (λ a. gap a q count j + (1 - gap a q count (suc j))) 0 1 1 3 1 1 (sum_literal db z (omega (arith, within, fits)))
      (λ a. omega (arith, gap-inside a j within, gap-end a (suc j) (omega (arith, last, within)))) (omega arith) (omega arith)
  one_place j true same within (inr more) = absurd (omega (arith, more, eqb-true j (count - 1) same))
  one_place j false same within (inl last) = absurd (both_ways (eqb j (count - 1)) same (eq-eqb j (count - 1) last))
  one_place j false same within (inr more) =
      let s : Constraint = order_of q j in
      sum_as db (Push (order + j) ∷ []) (λ a. value a s.terms) (λ a. gap a q count j + (1 - gap a q count (suc j))) 1 1 3 3 1 1 (sum_known db (order + j) s (ordered j (order + j) refl more))
      (λ a. omega (arith, value-two a 1 (missed_of (q + j)) 1 (positive_of (q + suc j)), gap-inside a j within, gap-inside a (suc j) more, holds-negated a (positive_of (q + suc j)))) (omega arith) (omega arith)

  last_or_more : (j : ℕ) → j < count → (j ≡ count - 1) ⊎ (suc j < count)
  last_or_more j within =
      elim (cases_eq j (count - 1)) as (λ _. (j ≡ count - 1) ⊎ (suc j < count)) [
        | inl last ↦ inl last
        | inr other ↦ inr (let e : suc j ≢ count = λ e. other (omega (arith, e)) in below e)
      ]
    where
      below : suc j ≢ count → suc j < count
      below e = grind (arith, e, within)

  module _ (under : Assignment) (reach : ℕ → ℕ) where
    -- under one assignment each place gives 1, but for the last one; what that gives more is allowed for
    pub place_all : (k : ℕ) (ops : List PolOp) (V : Assignment → ℕ) (d m j : ℕ) (ns : List Node) → j + length ns ≡ count → V under + place_worth reach (gap under q count) j ns ≤ d + place_degree reach j ns → ((i : ℕ) → i < count → 1 ≤ gap under q count i + (1 - gap under q count (suc i)))
        → IsSumBy db ops V d m (suc (suc (suc k))) → IsSumBy db (ops ++ place_sums reach order q (count - 1) j ns) (λ a. V a + place_worth reach (gap a q count) j ns) (d + place_degree reach j ns) (m + 3 * place_degree reach j ns) (suc (suc (suc k)))
    place_all k ops V d m j [] whole tight each x =
        sum_ops db ops (ops ++ []) (λ a. V a + 0) (d + 0) (m + 3 * 0) (suc (suc (suc k))) (sym (append-nil ops)) (sum_as db ops V (λ a. V a + 0) d (d + 0) m (m + 3 * 0) (suc (suc (suc k))) (suc (suc (suc k))) x (λ a. omega arith) (omega arith) (omega arith))
    place_all k ops V d m j (n ∷ ns) whole tight each x =
        let c : ℕ = n.top - reach j in
        let W : Assignment → ℕ = λ a. gap a q count j + (1 - gap a q count (suc j)) in
        let within : j < count = omega (arith, whole) in
        let item : List PolOp = place_ops order q (count - 1) j in
        let later = least_places (suc j) ns (omega (arith, whole)) each in
        let one : IsSumBy db (ops ++ plus_times c item) (λ a. V a + c * W a) (d + c * 1) (m + c * 3) (suc (suc (suc k))) =
        sum_plus db under c ops item V W d 1 m 3 (suc (suc k)) x
        (sum_as db item W W 1 1 3 3 1 (suc (suc k)) (one_place j (eqb j (count - 1)) refl within (last_or_more j within)) (λ a. refl) (omega arith) (omega arith)) (omega (arith, tight, later)) in
        let rest = place_all k (ops ++ plus_times c item) (λ a. V a + c * W a) (d + c * 1) (m + c * 3) (suc j) ns (omega (arith, whole)) (omega (arith, tight)) each one in
        sum_ops db ((ops ++ plus_times c item) ++ place_sums reach order q (count - 1) (j + 1) ns) (ops ++ place_sums reach order q (count - 1) j (n ∷ ns)) (λ a. V a + place_worth reach (gap a q count) j (n ∷ ns)) (d + place_degree reach j (n ∷ ns)) (m + 3 * place_degree reach j (n ∷ ns)) (suc (suc (suc k)))
        (append_assoc ops (plus_times c item) (place_sums reach order q (count - 1) (j + 1) ns))
        (sum_as db ((ops ++ plus_times c item) ++ place_sums reach order q (count - 1) (j + 1) ns) (λ a. V a + c * W a + place_worth reach (gap a q count) (suc j) ns) (λ a. V a + place_worth reach (gap a q count) j (n ∷ ns)) (d + c * 1 + place_degree reach (suc j) ns) (d + place_degree reach j (n ∷ ns)) (m + c * 3 + 3 * place_degree reach (suc j) ns) (m + 3 * place_degree reach j (n ∷ ns)) (suc (suc (suc k))) (suc (suc (suc k)))
        (subst (λ (i : ℕ). IsSumBy db ((ops ++ plus_times c item) ++ place_sums reach order q (count - 1) i ns) (λ a. V a + c * W a + place_worth reach (gap a q count) (suc j) ns) (d + c * 1 + place_degree reach (suc j) ns) (m + c * 3 + 3 * place_degree reach (suc j) ns) (suc (suc (suc k)))) (let e : suc j ≡ j + 1 = omega arith in e) rest)
        (λ a. omega arith) (omega arith) (omega arith))
      where
        least_places : (j : ℕ) (ns : List Node) → j + length ns ≡ count → ((i : ℕ) → i < count → 1 ≤ gap under q count i + (1 - gap under q count (suc i))) → place_degree reach j ns ≤ place_worth reach (gap under q count) j ns
        least_places j [] whole each = omega arith
        least_places j (n ∷ ns) whole each =
            let w : ℕ = gap under q count j + (1 - gap under q count (suc j)) in
            omega (arith, times-le (n.top - reach j) 1 w (each j (omega (arith, whole))), least_places (suc j) ns (omega (arith, whole)) each)
          where
            times-le : (n i j : ℕ) → i ≤ j → n * i ≤ n * j
            times-le n i j h = grind (arith, h)

-- ---- the nodes, where the literal is true

-- what the literal reaches by itself, and what the children reach
abbrev pub on_worth : Assignment → (ℕ → ℕ) → ℕ → ℕ → ℕ → List Node → ℕ
on_worth a h own p low [] = 0
on_worth a h own p low (n ∷ ns) =
    (min n.top own - low) * holds a (positive_of p) + (n.top - max own low) * (holds a (positive_of p) + at_child h n.on) + on_worth a h own (p + 1) n.top ns

abbrev pub on_degree : ℕ → ℕ → List Node → ℕ
on_degree own low [] = 0
on_degree own low (n ∷ ns) = (n.top - max own low) * 1 + on_degree own n.top ns

-- the numbers on the way
abbrev pub on_size : ℕ → ℕ → ℕ → List Node → ℕ
on_size one own low [] = 0
on_size one own low (n ∷ ns) = (min n.top own - low) * 1 + (n.top - max own low) * one + on_size one own n.top ns

-- A true child stands among the places of the next level and not behind the false one. Where there is none, the literal reaches the node's end.
abbrev pub IsOnChild : ℕ → ℕ → ℕ → Option ℕ → Option ℕ → Type 0
IsOnChild count own top f None = top ≤ own
IsOnChild count own top None (Some t) = t < count
IsOnChild count own top (Some f) (Some t) = (t ≤ f) × (f < count)

module _ (db : Database) (l : Lit) (order q count own : ℕ) (ordered : IsOrdered db order q count) (fits : q + count ≤ db.vars + 1) (under : Assignment) (falses : (i : ℕ) → i < count → gap under q count i ≡ 1) where
  abbrev one : ℕ
  one = 10 + 6 * count

  -- one node's children
  by_child : (p counts c low : ℕ) (n : Node) (ops : List PolOp) (V : Assignment → ℕ) (d m : ℕ) → c ≡ n.top - max own low → l.var < p → p < q → l.var ≤ db.vars → holds under (positive_of p) ≡ 0 → (t : Option ℕ) → n.on ≡ t → IsOnChild count own n.top n.off t
      → Knows db (counts + 1) (reverse_of (child_reification l q p n)) → V under ≤ d → IsSumBy db ops V d m 4
      → IsSumBy db (ops ++ plus_times c (on_ops l order (counts + 1) n)) (λ a. V a + c * (holds a (positive_of p) + at_child (gap a q count) t)) (d + c * 1) (m + c * one) 4
  by_child p counts c low n ops V d m is before within known_lit none None same child known tight x =
      let zero_times : c ≡ 0 = omega (arith, is, child) in
      subst (λ (k : ℕ). IsSumBy db (ops ++ plus_times k (on_ops l order (counts + 1) n)) (λ a. V a + k * (holds a (positive_of p) + 0)) (d + k * 1) (m + k * one) 4) (sym zero_times)
      (sum_ops db ops (ops ++ []) (λ a. V a + 0 * (holds a (positive_of p) + 0)) (d + 0 * 1) (m + 0 * one) 4 (sym (append-nil ops)) (sum_as db ops V (λ a. V a + 0 * (holds a (positive_of p) + 0)) d (d + 0 * 1) m (m + 0 * one) 4 4 x (λ a. omega arith) (omega arith) (omega arith)))
  by_child p counts c low n ops V d m is before within known_lit none (Some t) same child known tight x =
      let place : t < count = is_in n.off child in
      let fits_q : q ≤ db.vars + 1 = omega (arith, fits) in
      let item : IsSumBy db (on_ops l order (counts + 1) n) (λ a. holds a (positive_of p) + holds a (missed_of (q + t))) 1 one 3 =
      subst (λ (k : Option ℕ). IsSumBy db (Push (counts + 1) ∷ between order n.off k ++ (Axiom (negated l) ∷ Add ∷ Div (pos 3) ∷ [])) (λ a. holds a (positive_of p) + holds a (missed_of (q + t))) 1 one 3) (sym same)
      (on_sum db l q p (counts + 1) before within fits_q order count ordered known_lit n.off t (pair n.off child)
      (subst (λ (k : Option ℕ). Knows db (counts + 1) (reverse_of (record { var = p; sum = child_terms l q n.off k; least = child_least n.off }))) same known)) in
      let W : Assignment → ℕ = λ a. holds a (positive_of p) + gap a q count t in
      sum_plus db under c ops (on_ops l order (counts + 1) n) V W d 1 m one 3 x
      (sum_as db (on_ops l order (counts + 1) n) (λ a. holds a (positive_of p) + holds a (missed_of (q + t))) W 1 1 one one 3 3 item (λ a. omega (arith, gap-inside db order q count ordered fits a t place)) (omega arith) (omega arith))
      (let w : c * W under ≡ c * 1 = ap (λ (k : ℕ). c * k) (let e : W under ≡ 1 = omega (arith, none, falses t place) in e) in omega (arith, w, tight))
    where
      is_in : (f : Option ℕ) → IsOnChild count own n.top f (Some t) → t < count
      is_in None h = h
      is_in (Some f) h = omega (arith, h.0, h.1)

      pair : (f : Option ℕ) (h : IsOnChild count own n.top f (Some t)) → IsPair db l q p (counts + 1) before within (omega (arith, fits)) order count ordered known_lit f t
      pair None h = tt
      pair (Some f) h = h

  pub on_all : (ops : List PolOp) (V : Assignment → ℕ) (d m p low counts : ℕ) (ns : List Node) → l.var < p → p + length ns ≤ q → l.var ≤ db.vars → ((v : ℕ) → p ≤ v → v < q → holds under (positive_of v) ≡ 0) → AreChildren (λ n. IsOnChild count own n.top n.off n.on) ns → AreNodesKnown db l q p counts ns
      → V under ≤ d → IsSumBy db ops V d m 4 → IsSumBy db (ops ++ on_sums l order own p counts low ns) (λ a. V a + on_worth a (gap a q count) own p low ns) (d + on_degree own low ns) (m + on_size one own low ns) 4
  on_all ops V d m p low counts [] before within known_lit none children known tight x =
      sum_ops db ops (ops ++ []) (λ a. V a + 0) (d + 0) (m + 0) 4 (sym (append-nil ops)) (sum_as db ops V (λ a. V a + 0) d (d + 0) m (m + 0) 4 4 x (λ a. omega arith) (omega arith) (omega arith))
  on_all ops V d m p low counts (n ∷ ns) before within known_lit none children known tight x =
      let c : ℕ = min n.top own - low in
      let k : ℕ = n.top - max own low in
      let y : Lit = positive_of p in
      let h : Assignment → ℕ → ℕ = λ a. gap a q count in
      let zero_here : holds under y ≡ 0 = none p (omega arith) (omega (arith, within)) in
      let zero_times : c * holds under y ≡ 0 = ap (λ (i : ℕ). c * i) zero_here ∙ (omega arith) in
      let A : List PolOp = ops ++ plus_times c (Axiom y ∷ []) in
      let V1 : Assignment → ℕ = λ a. V a + c * holds a y in
      let first : IsSumBy db A V1 (d + c * 0) (m + c * 1) 4 =
      sum_plus db under c ops (Axiom y ∷ []) V (λ a. holds a y) d 0 m 1 3 x (sum_as db (Axiom y ∷ []) (λ a. holds a y) (λ a. holds a y) 0 0 1 1 1 3 (sum_literal db y (omega (arith, within, fits))) (λ a. refl) (omega arith) (omega arith)) (omega (arith, tight, zero_times)) in
      let second = by_child p counts k low n A V1 (d + c * 0) (m + c * 1) refl before (omega (arith, within)) known_lit zero_here n.on refl children.0 known.0 (omega (arith, tight, zero_times)) first in
      let B : List PolOp = A ++ plus_times k (on_ops l order (counts + 1) n) in
      let V2 : Assignment → ℕ = λ a. V1 a + k * (holds a y + at_child (h a) n.on) in
      let d2 : ℕ = d + c * 0 + k * 1 in
      let m2 : ℕ = m + c * 1 + k * one in
      let tight2 : V2 under ≤ d2 = by_place k n.on children.0 zero_times zero_here in
      let rest = on_all B V2 d2 m2 (p + 1) n.top (counts + 2) ns (omega (arith, before)) (omega (arith, within)) known_lit (λ v from to. none v (omega (arith, from)) to) children.1 known.1 tight2 second in
      let tail : List PolOp = on_sums l order own (p + 1) (counts + 2) n.top ns in
      sum_ops db (B ++ tail) (ops ++ on_sums l order own p counts low (n ∷ ns)) (λ a. V a + on_worth a (h a) own p low (n ∷ ns)) (d + on_degree own low (n ∷ ns)) (m + on_size one own low (n ∷ ns)) 4
      (append_assoc A (plus_times k (on_ops l order (counts + 1) n)) tail ∙ append_assoc ops (plus_times c (Axiom y ∷ [])) (plus_times k (on_ops l order (counts + 1) n) ++ tail))
      (sum_as db (B ++ tail) (λ a. V2 a + on_worth a (h a) own (p + 1) n.top ns) (λ a. V a + on_worth a (h a) own p low (n ∷ ns)) (d2 + on_degree own n.top ns) (d + on_degree own low (n ∷ ns)) (m2 + on_size one own n.top ns) (m + on_size one own low (n ∷ ns)) 4 4 rest (λ a. omega arith) (omega arith) (omega arith))
    where
      by_place : (k : ℕ) (t : Option ℕ) → IsOnChild count own n.top n.off t → (min n.top own - low) * holds under (positive_of p) ≡ 0 → holds under (positive_of p) ≡ 0
          → V under + (min n.top own - low) * holds under (positive_of p) + k * (holds under (positive_of p) + at_child (gap under q count) t) ≤ d + (min n.top own - low) * 0 + k * 1
      by_place k t child zero_times zero_here =
          let less : holds under (positive_of p) + at_child (gap under q count) t ≤ 1 = omega (arith, zero_here, at-le t) in
          omega (arith, tight, zero_times, times-le k (holds under (positive_of p) + at_child (gap under q count) t) 1 less)
        where
          times-le : (n i j : ℕ) → i ≤ j → n * i ≤ n * j
          times-le n i j h = grind (arith, h)

          at-le : (t : Option ℕ) → at_child (gap under q count) t ≤ 1
          at-le None = omega arith
          at-le (Some t) = gap-le db order q count ordered fits under t
