-- The outputs along a tree may be reified, each over outputs of lower variables.
use Rattle.std.proofs.Common.{◌≡◌, ◌≤◌, ◌<◌, ◌+◌, ◌*◌, ◌^◌, ℕ, zero, suc, false, List, [], ◌∷◌, ◌++◌, length, refl, subst, arith}
use Rattle.std.specs.Prelude.{All, AllPairs, min}
use Rattle.std.specs.List.{range_with_len}
use Rattle.std.proofs.lemmas.List.Elements.{All-nil, All-cons, All-head, All-tail, All-append, All-weaker}
use Rattle.std.proofs.lemmas.List.Kept.{AllPairs-cons}
use Rattle.pb_base.proofs.Pairs.{AllPairs-nil}
use Rattle.pb_norm.specs.Constraints.{Weighted, AllPositive, weight}
use Rattle.pb_steps.specs.Database.{Database}
use Rattle.pb_derive.specs.Derivations.{HasRoom}
use Rattle.pb_derive.specs.Forms.{AreApartTerms}
use Rattle.pb_derive.specs.Later.{IsOther, IsUnnamed, Knows}
use Rattle.pb_derive.specs.Reifications.{Reification, forward_of}
use Rattle.pb_derive.specs.inner.Meant.{IsReification, NamesNot, AreReifications, IsMeant, AreMeant}
use Rattle.pb_derive.proofs.InRow.{AreInRow, row-append}
use Rattle.pb_derive.proofs.Justified.{ReificationsKnown}
use Rattle.pb_derive.proofs.Meant.{meant_at}
use Rattle.pb_tree.specs.Scheme.{fresh_of}
use Rattle.pb_tree.specs.Tree.{Tree, empty, leaf, node}
use Rattle.pb_tree.specs.TreeSteps.{reifications_from}
use Rattle.pb_tree.proofs.TreeParts.{IsOver, over_left, over_right}
use Rattle.pb_totalizer.specs.Exact.{outputs_of}
use Rattle.pb_totalizer.specs.OutputSteps.{inputs, before, node_meanings, meanings}
use Rattle.pb_totalizer.specs.Totalizer.{totalizer}
use Rattle.pb_totalizer.specs.laws.OutputKnown.{length-meanings}
use Rattle.pb_totalizer.specs.laws.OutputParts.{inputs-weight, inputs-apart, inputs-positive, inputs-low}
use Rattle.pb_totalizer.specs.laws.TotalizerLaws.{values_length}

-- ---- reifications in a row, each over lower variables

pub record IsRising (m : Reification) : Type 0 where
  pub below : All (λ t. t.lit.var < m.var) m.sum
  pub apart : AreApartTerms m.sum
  pub positive : AllPositive m.sum
  pub some : 1 ≤ m.least
  pub reached : m.least ≤ weight m.sum
  pub light : weight m.sum ≤ 2 ^ 40

bounds : (first : ℕ) (ms : List Reification) → AreInRow first ms → All (λ m. (first ≤ m.var) × (m.var < first + length ms)) ms
bounds first [] h = All-nil (λ (m : Reification). (first ≤ m.var) × (m.var < first + 0))
bounds first (m ∷ ms) h =
    All-cons (λ (n : Reification). (first ≤ n.var) × (n.var < first + length (m ∷ ms))) m ms (omega (arith, h.0), omega (arith, h.0))
    (All-weaker (λ (n : Reification). (first + 1 ≤ n.var) × (n.var < first + 1 + length ms)) (λ (n : Reification). (first ≤ n.var) × (n.var < first + length (m ∷ ms))) (λ n b. (omega (arith, b.0), omega (arith, b.1))) ms (bounds (first + 1) ms h.1))

in-order : (first : ℕ) (ms : List Reification) → AreInRow first ms → All IsRising ms → AllPairs NamesNot ms
in-order first [] h rising = AllPairs-nil NamesNot
in-order first (m ∷ ms) h rising =
    let own = All-head IsRising m ms rising in
    AllPairs-cons NamesNot m ms
    (All-weaker (λ (n : Reification). (first + 1 ≤ n.var) × (n.var < first + 1 + length ms)) (NamesNot m) (λ n b.
    All-cons (IsOther n.var) (record { coef = m.least; lit = record { var = m.var; positive = false } }) m.sum (λ e. omega (arith, e, h.0, b.0))
    (All-weaker (λ (t : Weighted). t.lit.var < m.var) (IsOther n.var) (λ t under e. omega (arith, under, e, h.0, b.0)) m.sum own.below)) ms (bounds (first + 1) ms h.1))
    (in-order (first + 1) ms h.1 (All-tail IsRising m ms rising))

-- they may be added, where their variables are fresh
pub rising_reifications : (db : Database) (first : ℕ) (ms : List Reification) → AreInRow first ms → All IsRising ms → HasRoom first (length ms) db → AreReifications (λ v. v < first + length ms) db ms
rising_reifications db first ms row rising room =
    let bound = bounds first ms row in
    let At : Reification → Type 0 = λ m. (first ≤ m.var) × (m.var < first + length ms) in
    let both : All (λ m. At m × IsRising m) ms = λ i d within. (bound i d within, rising i d within) in
    record {
      each = All-weaker (λ (m : Reification). At m × IsRising m) (IsReification db.original db.vars) (λ m h. record {
        fresh = omega (arith, h.0.0, room.original);
        known = omega (arith, h.0.1, room.vars);
        sum_known = All-weaker (λ (t : Weighted). t.lit.var < m.var) (λ (t : Weighted). t.lit.var ≤ db.vars) (λ t under. omega (arith, under, h.0.1, room.vars)) m.sum h.1.below;
        apart = h.1.apart;
        positive = h.1.positive;
        other = All-weaker (λ (t : Weighted). t.lit.var < m.var) (IsOther m.var) (λ t under e. omega (arith, under, e)) m.sum h.1.below;
        some = h.1.some;
        light = omega (arith, h.1.light, h.1.reached);
      }) ms both;
      named = All-weaker (λ (m : Reification). At m × IsRising m) (λ (m : Reification). All (λ t. t.lit.var < first + length ms) (forward_of m).terms) (λ m h.
          All-cons (λ (t : Weighted). t.lit.var < first + length ms) (record { coef = m.least; lit = record { var = m.var; positive = false } }) m.sum (omega (arith, h.0.1))
          (All-weaker (λ (t : Weighted). t.lit.var < m.var) (λ (t : Weighted). t.lit.var < first + length ms) (λ t under. omega (arith, under, h.0.1)) m.sum h.1.below)) ms both;
      unnamed = All-weaker At (λ (m : Reification). IsUnnamed m.var db) (λ m h. room.unnamed m.var h.0 h.1) ms bound;
      in_order = in-order first ms row rising;
    }

-- both constraints of each are known then
pub rising_known : (db : Database) (id : ℕ) (ms : List Reification) → All IsRising ms → AreMeant db id ms → ReificationsKnown (Knows db) id ms
rising_known db id ms rising meant k m at =
    let here = subst (λ (n : Reification). IsMeant db (id + 2 * k) n) at.here (meant_at db id ms k m at.within meant) in
    let reached : m.least ≤ weight m.sum = (subst IsRising at.here (rising k m at.within)).reached in
    (here.first, here.second reached)

-- ---- those of a tree

row_from : (var : ℕ) (ts : List Weighted) (us : List ℕ) → AreInRow var (reifications_from var ts us)
row_from var ts [] = tt
row_from var ts (u ∷ us) = (refl, row_from (var + 1) ts us)

run-rising : (low var j n : ℕ) (ts : List Weighted) → low ≤ var → 1 ≤ j → j + n ≤ weight ts + 1 → weight ts ≤ 2 ^ 40 → All (λ t. t.lit.var < low) ts → AreApartTerms ts → AllPositive ts
    → All IsRising (reifications_from var ts (range_with_len j n))
run-rising low var j zero ts le some within light below apart positive = All-nil IsRising
run-rising low var j (suc n) ts le some within light below apart positive =
    All-cons IsRising (record { var = var; sum = ts; least = j }) (reifications_from (var + 1) ts (range_with_len (j + 1) n))
    (record { below = All-weaker (λ (t : Weighted). t.lit.var < low) (λ (t : Weighted). t.lit.var < var) (λ t k. omega (arith, k, le)) ts below; apart = apart; positive = positive; some = some; reached = omega (arith, within); light = light })
    (run-rising low (var + 1) (j + 1) n ts (omega (arith, le)) (omega arith) (omega (arith, within)) light below apart positive)

module _ (bound : ℕ) (few : bound + 1 ≤ 2 ^ 31) where
  pub meanings-row : (t : Tree) (first : ℕ) → AreInRow first (meanings bound t first)
  meanings-row empty first = tt
  meanings-row (leaf t) first = tt
  meanings-row (node l r) first =
      let middle : ℕ = first + fresh_of (totalizer bound) l in
      let start : ℕ = first + before bound l r in
      let rights = meanings bound r middle in
      let own = node_meanings bound l r first in
      row-append first (meanings bound l first) (rights ++ own) (meanings-row l first)
      (subst (λ (n : ℕ). AreInRow n (rights ++ own)) (let e : middle ≡ first + length (meanings bound l first) = omega (arith, length-meanings bound l first) in e)
      (row-append middle rights own (meanings-row r middle)
      (subst (λ (n : ℕ). AreInRow n own) (let e : start ≡ middle + length rights = omega (arith, length-meanings bound r middle) in e) (row_from start (inputs bound l r first) (range_with_len 1 (min (outputs_of bound l + outputs_of bound r) (bound + 1)))))))

  pub meanings-rising : (t : Tree) (low first : ℕ) → low ≤ first → IsOver (totalizer bound) low t → All IsRising (meanings bound t first)
  meanings-rising empty low first le over = All-nil IsRising
  meanings-rising (leaf t) low first le over = All-nil IsRising
  meanings-rising (node l r) low first le over =
      let middle : ℕ = first + fresh_of (totalizer bound) l in
      let start : ℕ = first + before bound l r in
      let rights = meanings bound r middle in
      let own = node_meanings bound l r first in
      let n : ℕ = min (outputs_of bound l + outputs_of bound r) (bound + 1) in
      All-append IsRising (meanings bound l first) (rights ++ own) (meanings-rising l low first le (over_left (totalizer bound) low l r over))
      (All-append IsRising rights own (meanings-rising r low middle (omega (arith, le)) (over_right (totalizer bound) low l r over))
      (run-rising start start 1 n (inputs bound l r first) (omega arith) (omega arith) (omega (arith, inputs-weight bound l r first)) (omega (arith, inputs-weight bound l r first, values_length bound l, values_length bound r, few))
      (inputs-low bound l r low first le over) (inputs-apart bound l r low first le over) (inputs-positive bound l r first)))
