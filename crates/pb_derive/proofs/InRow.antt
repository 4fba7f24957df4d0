-- Reifications whose variables stand in a row, over sums of lower variables.
use Rattle.std.proofs.Common.{◌≡◌, ◌≤◌, ◌<◌, ◌+◌, ◌^◌, ℕ, zero, suc, false, List, [], ◌∷◌, ◌++◌, length, subst, arith}
use Rattle.std.specs.Prelude.{All, AllPairs, map}
use Rattle.std.specs.List.{range_with_len}
use Rattle.std.proofs.lemmas.List.Elements.{All-nil, All-cons, All-head, All-tail, All-weaker}
use Rattle.std.proofs.lemmas.List.Kept.{AllPairs-cons}
use Rattle.pb_base.proofs.Pairs.{AllPairs-nil}
use Rattle.pb_norm.specs.Constraints.{Weighted, AllPositive, weight}
use Rattle.pb_steps.specs.Database.{Database}
use Rattle.pb_derive.specs.Forms.{AreApartTerms}
use Rattle.pb_derive.specs.Later.{IsOther, IsUnnamed}
use Rattle.pb_derive.specs.Reifications.{Reification, forward_of}
use Rattle.pb_derive.specs.inner.Meant.{IsReification, NamesNot, AreReifications}

-- the variables are the numbers from one on
abbrev pub AreInRow : ℕ → List Reification → Type 0
AreInRow first [] = Unit {0}
AreInRow first (m ∷ ms) = (m.var ≡ first) × AreInRow (first + 1) ms

-- a sum of variables below the fresh ones
pub record IsFitReification (low : ℕ) (m : Reification) : Type 0 where
  pub below : All (λ t. t.lit.var < low) m.sum
  pub apart : AreApartTerms m.sum
  pub positive : AllPositive m.sum
  pub some : 1 ≤ m.least
  pub light : weight m.sum + m.least < 2 ^ 124

pub row-append : (first : ℕ) (ms ns : List Reification) → AreInRow first ms → AreInRow (first + length ms) ns → AreInRow first (ms ++ ns)
row-append first [] ns h k = let e : first + 0 ≡ first = omega arith in subst (λ (n : ℕ). AreInRow n ns) e k
row-append first (m ∷ ms) ns h k =
    let e : first + length (m ∷ ms) ≡ first + 1 + length ms = omega arith in
    (h.0, row-append (first + 1) ms ns h.1 (subst (λ (n : ℕ). AreInRow n ns) e k))

row_bounds : (first : ℕ) (ms : List Reification) → AreInRow first ms → All (λ m. (first ≤ m.var) × (m.var < first + length ms)) ms
row_bounds first [] h = All-nil (λ (m : Reification). (first ≤ m.var) × (m.var < first + 0))
row_bounds first (m ∷ ms) h =
    let is = h.0 in
    All-cons (λ (n : Reification). (first ≤ n.var) × (n.var < first + length (m ∷ ms))) m ms (omega arith, omega arith)
    (All-weaker (λ (n : Reification). (first + 1 ≤ n.var) × (n.var < first + 1 + length ms)) (λ (n : Reification). (first ≤ n.var) × (n.var < first + length (m ∷ ms))) (λ n b. let low = b.0 in let high = b.1 in (omega arith, omega arith)) ms (row_bounds (first + 1) ms h.1))

abbrev all_both : {X : Type 0} (P Q : X → Type 0) (xs : List X) → All P xs → All Q xs → All (λ x. P x × Q x) xs
all_both P Q xs h k = λ i d within. (h i d within, k i d within)

-- each names lower variables alone, so none names a later one
row_in_order : (low first : ℕ) (ms : List Reification) → low ≤ first → AreInRow first ms → All (IsFitReification low) ms → AllPairs NamesNot ms
row_in_order low first [] le h fit = AllPairs-nil NamesNot
row_in_order low first (m ∷ ms) le h fit =
    let is = h.0 in
    let own = All-head (IsFitReification low) m ms fit in
    AllPairs-cons NamesNot m ms
    (All-weaker (λ (n : Reification). (first + 1 ≤ n.var) × (n.var < first + 1 + length ms)) (NamesNot m) (λ n b.
    let above = b.0 in
    All-cons (IsOther n.var) (record { coef = m.least; lit = record { var = m.var; positive = false } }) m.sum (λ e. omega arith)
    (All-weaker (λ (t : Weighted). t.lit.var < low) (IsOther n.var) (λ t under e. omega arith) m.sum own.below)) ms (row_bounds (first + 1) ms h.1))
    (row_in_order low (first + 1) ms (omega arith) h.1 (All-tail (IsFitReification low) m ms fit))

-- reifications by their places are in a row
pub row_by_places : (f : ℕ → Reification) (first a n : ℕ) → ((k : ℕ) → (f k).var ≡ first + k) → AreInRow (first + a) (map f (range_with_len a n))
row_by_places f first a zero h = tt
row_by_places f first a (suc n) h = (h a, subst (λ (v : ℕ). AreInRow v (map f (range_with_len (a + 1) n))) (let e : first + (a + 1) ≡ first + a + 1 = omega arith in e) (row_by_places f first (a + 1) n h))

-- reifications in a row may be added, where their variables are fresh
pub row_reifications : (P : ℕ → Type 0) (db : Database) (first : ℕ) (ms : List Reification) → AreInRow first ms → All (IsFitReification first) ms
    → db.original < first → first + length ms ≤ db.vars + 1 → ((v : ℕ) → first ≤ v → v < first + length ms → P v × IsUnnamed v db) → All (λ m. All (λ t. P t.lit.var) m.sum) ms
    → AreReifications P db ms
row_reifications P db first ms row fit original vars fresh named =
    let bounds = row_bounds first ms row in
    let both = all_both (λ (m : Reification). (first ≤ m.var) × (m.var < first + length ms)) (IsFitReification first) ms bounds fit in
    record {
      each = All-weaker (λ (m : Reification). ((first ≤ m.var) × (m.var < first + length ms)) × IsFitReification first m) (IsReification db.original db.vars) (λ m h.
          let low = h.0.0 in
          let high = h.0.1 in
          let light = h.1.light in
          record {
            fresh = omega arith;
            known = omega arith;
            sum_known = All-weaker (λ (t : Weighted). t.lit.var < first) (λ (t : Weighted). t.lit.var ≤ db.vars) (λ t under. omega arith) m.sum h.1.below;
            apart = h.1.apart;
            positive = h.1.positive;
            other = All-weaker (λ (t : Weighted). t.lit.var < first) (IsOther m.var) (λ t under e. omega arith) m.sum h.1.below;
            some = h.1.some;
            light = omega arith;
          }) ms both;
      named = All-weaker (λ (m : Reification). ((first ≤ m.var) × (m.var < first + length ms)) × All (λ t. P t.lit.var) m.sum) (λ (m : Reification). All (λ t. P t.lit.var) (forward_of m).terms) (λ m h.
          All-cons (λ (t : Weighted). P t.lit.var) (record { coef = m.least; lit = record { var = m.var; positive = false } }) m.sum (fresh m.var h.0.0 h.0.1).0 h.1) ms
          (all_both (λ (m : Reification). (first ≤ m.var) × (m.var < first + length ms)) (λ (m : Reification). All (λ t. P t.lit.var) m.sum) ms bounds named);
      unnamed = All-weaker (λ (m : Reification). (first ≤ m.var) × (m.var < first + length ms)) (λ (m : Reification). IsUnnamed m.var db) (λ m h. (fresh m.var h.0 h.1).1) ms bounds;
      in_order = row_in_order first first ms (omega arith) row fit;
    }
