-- The lines about a row of outputs and the line of a clause, each where the constraints that it names are known.
use Rattle.std.proofs.Common.{◌≡◌, ◌≤◌, ◌<◌, ◌+◌, ◌-◌, ◌*◌, ◌^◌, ℕ, suc, true, List, [], ◌∷◌, arith}
use Rattle.std.specs.Prelude.{All, AllPairs, map}
use Rattle.std.proofs.Math.Nat.{mul-le-mul_right}
use Rattle.std.proofs.lemmas.List.Elements.{All-nil, All-cons, All-append, All-weaker}
use Rattle.std.proofs.lemmas.List.Kept.{AllPairs-cons}
use Rattle.pb_base.specs.declared.literal.Lit.{Lit}
use Rattle.pb_base.proofs.Pairs.{AllPairs-nil}
use Rattle.pb_norm.specs.Constraints.{Weighted, Constraint, weight}
use Rattle.pb_norm.specs.Reduction.{opposite}
use Rattle.pb_norm.proofs.AdditionSizes.{weight-cons}
use Rattle.pb_steps.specs.declared.op.PolOp.TheVariants.{Axiom, Weaken}
use Rattle.pb_steps.specs.declared.step.Step.TheVariants.{Pol}
use Rattle.pb_steps.specs.Database.{Database}
use Rattle.pb_norm.specs.Addition.{sum_of}
use Rattle.pb_steps.specs.Operations.{axiom_of, division}
use Rattle.pb_derive.specs.Later.{IsOther, Knows, IsLater}
use Rattle.pb_derive.specs.Reifications.{spare, forward_of, reverse_of}
use Rattle.pb_derive.proofs.Appends.{weight-append}
use Rattle.pb_derive.proofs.Expressions.{known, literal, plus, times, over, without, IsNormal, expression_adds}
use Rattle.pb_derive.proofs.FormOperations.{form_weakening}
use Rattle.pb_derive.proofs.Laters.{later_knows}
use Rattle.pb_derive.proofs.Lines.{Adds}
use Rattle.pb_derive.proofs.Opposites.{weight-opposite}
use Rattle.pb_derive.proofs.UnaryRows.{Other, weighing, reached, missed, places_of, front_of, front_step_form, places_within, places-weight, front-size, places_apart, places_positive}
use Rattle.pb_family.specs.Fresh.{positive_of}
use Rattle.pb_totalizer.specs.OutputRows.{front_line, tail_line, others_line}
use Rattle.pb_totalizer.specs.laws.OutputForms.{Some, meaning_at, order_form, axiom-form, tail_of, tail_form, others_of, others_form, front-below, front-apart, front-positive, others-apart, others-positive}

abbrev pub Below : ℕ → ℕ → Type 0
Below top v = v < top

abbrev pub Named : ℕ → Weighted → Type 0
Named top t = t.lit.var < top

-- what is known of a row of outputs: both constraints of each, over terms that weigh so much
pub record IsReified (db : Database) (p row last m : ℕ) (ts : List Weighted) : Type 0 where
  pub size : weight ts ≡ m
  pub within : suc last ≤ m
  pub forward : (j : ℕ) → j < suc last → Knows db (row + 2 * j) (forward_of (meaning_at p ts j))
  pub reverse : (j : ℕ) → j < suc last → Knows db (row + 2 * j + 1) (reverse_of (meaning_at p ts j))

pub reified_later : (P : ℕ → Type 0) (db end : Database) (p row last m : ℕ) (ts : List Weighted) → IsLater P db end → row + 2 * suc last ≤ db.next → IsReified db p row last m ts → IsReified end p row last m ts
reified_later P db end p row last m ts later below h = record {
  size = h.size;
  within = h.within;
  forward = λ j within. later_knows P db end (row + 2 * j) (forward_of (meaning_at p ts j)) later (omega (arith, below, within)) (h.forward j within);
  reverse = λ j within. later_knows P db end (row + 2 * j + 1) (reverse_of (meaning_at p ts j)) later (omega (arith, below, within)) (h.reverse j within);
}

-- ---- a line that says nothing

abbrev pub nothing : Constraint
nothing = record { terms = []; degree = 0 }

pub nothing_adds : (top : ℕ) (l : Lit) (db : Database) → l.var ≤ db.vars → Adds (Below top) db (Pol (Axiom l ∷ Weaken l.var ∷ [])) nothing
nothing_adds top l db var =
    let none : IsNormal (Below top) nothing = record { apart = AllPairs-nil Other; positive = All-nil Some; named = All-nil (Named top) } in
    expression_adds (Below top) db (without l.var (literal l)) nothing (var, var) (omega arith) (omega arith) (form_weakening (weighing 1 l) [] 0 (axiom_of l) (All-nil (IsOther l.var)) (axiom-form l)) none

pub axiom_adds : (top : ℕ) (l : Lit) (db : Database) → l.var ≤ db.vars → l.var < top → Adds (Below top) db (Pol (Axiom l ∷ [])) (record { terms = weighing 1 l ∷ []; degree = 0 })
axiom_adds top l db var under =
    expression_adds (Below top) db (literal l) (record { terms = weighing 1 l ∷ []; degree = 0 }) var (omega arith) (omega arith) (axiom-form l)
    (record { apart = places-one; positive = All-cons Some (weighing 1 l) [] (omega arith) (All-nil Some); named = All-cons (Named top) (weighing 1 l) [] under (All-nil (Named top)) })
  where
    places-one : AllPairs Other (weighing 1 l ∷ [])
    places-one = AllPairs-cons Other (weighing 1 l) [] (All-nil (Other (weighing 1 l))) (AllPairs-nil Other)

pub times-small : (n k : ℕ) → n ≤ 2 ^ 32 → k ≤ 2 ^ 40 → n * k ≤ 2 ^ 72
times-small n k few less = omega (arith, mul-le-mul_right k few, less)

-- places of a row are below a number
pub places-named : (top n p j : ℕ) → p + j ≤ top → All (Named top) (places_of true n p j)
places-named top n p j le =
    All-weaker (λ (u : Weighted). (p ≤ u.lit.var) × (u.lit.var < p + j)) (Named top) (λ u h. omega (arith, h.1, le)) (places_of true n p j) (places_within true n p j j (omega arith))

module _ (top p row last m : ℕ) (ts : List Weighted) (db : Database) (few : m ≤ 2 ^ 32) (under : p + suc last ≤ top) (vars : top ≤ db.vars + 1) where
  -- ---- those before one

  front-named : (j : ℕ) → p + suc j ≤ top → All (Named top) (front_of p j).terms
  front-named j le = All-weaker (λ (t : Weighted). t.lit.var < p + suc j) (Named top) (λ t h. omega (arith, h, le)) (front_of p j).terms (front-below p j)

  pub front_adds : (fronts j : ℕ) → j < last → IsReified db p row last m ts → Knows db (fronts + j) (front_of p j) → Adds (Below top) db (front_line row m fronts j) (front_of p (suc j))
  front_adds fronts j within reified front =
      let one = reified.forward (suc j) (omega (arith, within)) in
      let other = reified.reverse j (omega (arith, within)) in
      let next = forward_of (meaning_at p ts (suc j)) in
      let same = reverse_of (meaning_at p ts j) in
      let inner : ℕ = weight next.terms + next.degree + (weight same.terms + same.degree) in
      let rest : ℕ = spare (meaning_at p ts j) in
      let sized : inner ≤ 2 ^ 40 = omega (
        arith,
        weight-cons (missed (suc (suc j)) (p + suc j)) ts,
        weight-cons (reached rest (p + j)) (map opposite ts),
        weight-opposite ts,
        reified.size,
        reified.within,
        within,
        few,
      ) in
      let product : suc j * inner ≤ 2 ^ 72 = times-small (suc j) inner (omega (arith, within, few, reified.within)) sized in
      expression_adds (Below top) db (plus (known (fronts + j) (front_of p j) front) (times (suc j) (over m (plus (known (row + 2 * suc j) next one) (known (row + 2 * j + 1) same other))))) (front_of p (suc j))
      (tt, (omega arith, (omega (arith, reified.within), (tt, tt)))) (omega arith) (omega (arith, front-size p j, product, within, few, reified.within))
      (front_step_form p j front.0 (division m (sum_of one.0 other.0)) front.2 (order_form p ts j m reified.size (omega (arith, within, reified.within)) one.0 other.0 one.2 other.2))
      (record { apart = front-apart p (suc j); positive = front-positive p (suc j); named = front-named (suc j) (omega (arith, within, under)) })

  -- ---- those behind

  tail-named : (k : ℕ) → k ≤ suc last → All (Named top) (tail_of p last k).terms
  tail-named k le = places-named top 1 (p + (suc last - k)) k (omega (arith, le, under))

  pub tail_adds : (tails k : ℕ) → k < suc last → suc last ≤ 2 ^ 32 → Knows db (tails + k) (tail_of p last k) → Adds (Below top) db (tail_line p last tails k) (tail_of p last (suc k))
  tail_adds tails k within less tail =
      expression_adds (Below top) db (plus (known (tails + k) (tail_of p last k) tail) (literal (positive_of (p + (last - k))))) (tail_of p last (suc k))
      (tt, omega (arith, within, under, vars)) (omega arith) (omega (arith, places-weight true 1 (p + (suc last - k)) k, within, less)) (tail_form p last k tail.0 (omega (arith, within)) tail.2)
      (record {
        apart = places_apart true 1 (p + (suc last - suc k)) (suc k);
        positive = places_positive true 1 (p + (suc last - suc k)) (suc k) (omega arith);
        named = tail-named (suc k) (omega (arith, within));
      })

  -- ---- all but one

  pub others-size : (j : ℕ) → weight (others_of p last (suc j)).terms + (others_of p last (suc j)).degree ≡ 3 * j + (last - j)
  others-size j = omega (arith, weight-append (front_of p j).terms (places_of true 1 (p + suc j) (last - j)), front-size p j, places-weight true 1 (p + suc j) (last - j))

  pub others_adds : (fronts tails j : ℕ) → j < suc last → suc last ≤ 2 ^ 32 → Knows db (fronts + j) (front_of p j) → Knows db (tails + (last - j)) (tail_of p last (last - j)) → Adds (Below top) db (others_line last fronts tails j) (others_of p last (suc j))
  others_adds fronts tails j within less front tail =
      expression_adds (Below top) db (plus (known (fronts + j) (front_of p j) front) (known (tails + (last - j)) (tail_of p last (last - j)) tail)) (others_of p last (suc j))
      (tt, tt) (omega arith) (omega (arith, front-size p j, places-weight true 1 (p + (suc last - (last - j))) (last - j), within, less)) (others_form p last j front.0 tail.0 (omega (arith, within)) front.2 tail.2)
      (record {
        apart = others-apart p last j;
        positive = others-positive p last j;
        named = All-append (Named top) (front_of p j).terms (places_of true 1 (p + suc j) (last - j)) (front-named j (omega (arith, within, under))) (places-named top 1 (p + suc j) (last - j) (omega (arith, within, under)));
      })
