-- The lines of a row, each where the constraints that it names are known.
use Rattle.std.proofs.Common.{◌≡◌, ◌≢◌, ◌≤◌, ◌<◌, ◌+◌, ◌*◌, ◌^◌, ◌++◌, ℕ, zero, suc, true, false, [], ◌∷◌, refl, ap, subst, arith}
use Rattle.std.specs.Prelude.{All}
use Rattle.std.proofs.Math.Nat.{mul-le-mul_right}
use Rattle.std.proofs.lemmas.List.Elements.{All-nil, All-cons, All-append, All-weaker}
use Rattle.std.proofs.lemmas.List.Kept.{AllPairs-cons}
use Rattle.pb_base.specs.declared.literal.Lit.{Lit}
use Rattle.pb_base.specs.Literals.{negated}
use Rattle.pb_base.proofs.Pairs.{AllPairs-nil}
use Rattle.pb_norm.specs.Constraints.{Weighted, weight}
use Rattle.pb_norm.proofs.AdditionOrder.{Before}
use Rattle.pb_norm.proofs.AdditionSizes.{weight-cons}
use Rattle.pb_steps.specs.declared.op.PolOp.TheVariants.{Push}
use Rattle.pb_steps.specs.declared.step.Step.TheVariants.{Pol}
use Rattle.pb_steps.specs.Database.{Database}
use Rattle.pb_steps.specs.Operations.{axiom_of}
use Rattle.pb_derive.specs.Forms.{AreApartTerms, IsFormOf}
use Rattle.pb_derive.specs.Later.{Knows}
use Rattle.pb_derive.specs.Reifications.{forward_of, reverse_of}
use Rattle.pb_derive.proofs.Appends.{weight-append}
use Rattle.pb_derive.proofs.Expressions.{known, literal, plus, times, over, without, IsNormal, expression_adds}
use Rattle.pb_derive.proofs.FormOperations.{form_weakening}
use Rattle.pb_derive.proofs.Lines.{Adds}
use Rattle.pb_derive.proofs.UnaryRows.{Other, weighing, reached, missed, places_of, order_of, front_of, front_step_form, front_of-apart, front_of-positive, places_within, places-weight, front-size}
use Rattle.pb_family.specs.Fresh.{positive_of}
use Rattle.pb_counter.specs.CounterRows.{next_count, first_front, front_line, more_line, keep_line, fall_line, order_line, part_line, stop_line}
use Rattle.pb_counter.specs.laws.RowLines.{fall_of, next_of, fall_form, order_apart, fall_apart, fall_positive, keep_of, order_step_form, more_of, keep_form, more_form, keep_first, one_form}
use Rattle.pb_counter.specs.laws.RowParts.{part_of, part_step_form, part_first}
use Rattle.pb_counter.specs.laws.RowTotals.{AreLow, total_of, climb-apart, climb-positive, stop_of, stop_form}

abbrev pub Below : ℕ → ℕ → Type 0
Below top v = v < top

abbrev Named : ℕ → Weighted → Type 0
Named top t = t.lit.var < top

abbrev Some : Weighted → Type 0
Some t = 0 < t.coef

pub pair-apart : (s t : Weighted) → s.lit.var ≢ t.lit.var → AreApartTerms (s ∷ t ∷ [])
pair-apart s t ne = AllPairs-cons Other s (t ∷ []) (All-cons (Other s) t [] ne (All-nil (Other s))) (AllPairs-cons Other t [] (All-nil (Other t)) (AllPairs-nil Other))

pub pair-all : (Q : Weighted → Type 0) (s t : Weighted) → Q s → Q t → All Q (s ∷ t ∷ [])
pair-all Q s t h k = All-cons Q s (t ∷ []) h (All-cons Q t [] k (All-nil Q))

-- two terms of different variables
pair-normal : (top : ℕ) (s t : Weighted) (k : ℕ) → s.lit.var ≢ t.lit.var → 0 < s.coef → 0 < t.coef → s.lit.var < top → t.lit.var < top → IsNormal (Below top) (record { terms = s ∷ t ∷ []; degree = k })
pair-normal top s t k ne some more low under = record { apart = pair-apart s t ne; positive = pair-all Some s t some more; named = pair-all (Named top) s t low under }

-- places of a row are below a number
pub places-named : (top n : ℕ) (p j : ℕ) → p + j ≤ top → All (Named top) (places_of true n p j) × All (Named top) (places_of false n p j)
places-named top n p j le =
    let within : (u : Weighted) → (p ≤ u.lit.var) × (u.lit.var < p + j) → u.lit.var < top = λ u h. omega (arith, h.1, le) in (
      All-weaker (λ (u : Weighted). (p ≤ u.lit.var) × (u.lit.var < p + j)) (Named top) within (places_of true n p j) (places_within true n p j j (omega arith)),
      All-weaker (λ (u : Weighted). (p ≤ u.lit.var) × (u.lit.var < p + j)) (Named top) within (places_of false n p j) (places_within false n p j j (omega arith)),
    )

-- ---- fronts

pub first_front_adds : (top p : ℕ) (db : Database) → p ≤ db.vars → Adds (Below top) db (first_front p) (front_of p 0)
first_front_adds top p db var =
    let t : Weighted = reached 1 p in
    let itself : IsFormOf (record { terms = t ∷ []; degree = 0 }) (axiom_of (positive_of p)) = record {
      terms = λ f. refl;
      degree = refl;
      positive = All-cons Some t [] (omega arith) (All-nil Some);
      ascending = AllPairs-cons Before t [] (All-nil (Before t)) (AllPairs-nil Before);
    } in
    let none : IsNormal (Below top) (front_of p 0) = record { apart = AllPairs-nil Other; positive = All-nil Some; named = All-nil (Named top) } in
    expression_adds (Below top) db (without p (literal (positive_of p))) (front_of p 0) (var, var) (omega arith) (omega arith) (form_weakening t [] 0 (axiom_of (positive_of p)) (All-nil (Other t)) itself) none

pub front_adds : (top p : ℕ) (db : Database) (order fronts j : ℕ) → p + suc j < top → j < 2 ^ 31 → Knows db (fronts + j) (front_of p j) → Knows db (order + j) (order_of p j) → Adds (Below top) db (front_line order fronts j) (front_of p (suc j))
front_adds top p db order fronts j under small front in_order =
    expression_adds (Below top) db (plus (known (fronts + j) (front_of p j) front) (times (suc j) (known (order + j) (order_of p j) in_order))) (front_of p (suc j))
    (tt, (omega arith, tt)) (omega arith) (omega (arith, front-size p j, small)) (front_step_form p j front.0 in_order.0 front.2 in_order.2)
    (record {
      apart = front_of-apart p j;
      positive = front_of-positive p j;
      named = All-cons (Named top) (missed (suc j) (p + suc j)) (places_of true 1 p (suc j)) under (places-named top 1 p (suc j) (omega (arith, under))).0;
    })

module _ (top : ℕ) (l : Lit) (p q : ℕ) (low : l.var < p) (db : Database) (vars : top ≤ db.vars + 1) where
  -- ---- falls and order

  pub fall_adds : (order counts j : ℕ) → p + suc j < q → q + suc j < top → Knows db (counts + 2 * suc j) (next_of l p q j) → Knows db (order + j) (order_of p j) → Adds (Below top) db (fall_line l.var order counts j) (fall_of p q j)
  fall_adds order counts j apart under forward in_order =
      expression_adds (Below top) db (over 3 (without l.var (plus (known (counts + 2 * suc j) (next_of l p q j) forward) (times 2 (known (order + j) (order_of p j) in_order))))) (fall_of p q j)
      (omega arith, (omega (arith, low, apart, under, vars), (tt, (omega arith, tt)))) (omega arith) (omega arith) (fall_form l p q j low apart forward.0 in_order.0 forward.2 in_order.2)
      (record { apart = fall_apart p q j apart; positive = fall_positive p q j; named = pair-all (Named top) (missed 1 (q + suc j)) (reached 1 (p + j)) under (omega (arith, apart, under)) })

  pub order_adds : (falls keeps j : ℕ) → q + suc j < top → Knows db (falls + j) (fall_of p q j) → Knows db (keeps + j) (keep_of p q j) → Adds (Below top) db (order_line falls keeps j) (order_of q j)
  order_adds falls keeps j under fall keep =
      expression_adds (Below top) db (plus (known (falls + j) (fall_of p q j) fall) (known (keeps + j) (keep_of p q j) keep)) (order_of q j) (tt, tt) (omega arith) (omega arith) (order_step_form p q j fall.0 keep.0 fall.2 keep.2)
      (record { apart = order_apart q j; positive = fall_positive q q j; named = pair-all (Named top) (missed 1 (q + suc j)) (reached 1 (q + j)) under (omega (arith, under)) })

  -- ---- clauses

  pub keep_adds : (counts j : ℕ) → p + j < q → q + j < top → Knows db (counts + 2 * j + 1) (reverse_of (next_count l p q j)) → Adds (Below top) db (keep_line l.var p counts j) (keep_of p q j)
  keep_adds counts zero apart under reverse =
      let e : counts + 2 * zero + 1 ≡ counts + 1 = omega arith in
      let here : Knows db (counts + 1) (reverse_of (next_count l p q 0)) = subst (λ (k : ℕ). Knows db k (reverse_of (next_count l p q 0))) e reverse in
      expression_adds (Below top) db (over 3 (without l.var (known (counts + 1) (reverse_of (next_count l p q 0)) here))) (keep_of p q 0) (omega arith, (omega (arith, low, apart, under, vars), tt)) (omega arith) (omega arith)
      (keep_first l p q low apart here.0 here.2) (pair-normal top (reached 1 (q + 0)) (missed 1 (p + 0)) 1 (λ e. omega (arith, e, apart)) (omega arith) (omega arith) under (omega (arith, apart, under)))
  keep_adds counts (suc j) apart under reverse =
      expression_adds (Below top) db (over 3 (without (p + j) (without l.var (known (counts + 2 * suc j + 1) (reverse_of (next_count l p q (suc j))) reverse)))) (keep_of p q (suc j))
      (omega arith, (omega (arith, apart, under, vars), (omega (arith, low, apart, under, vars), tt))) (omega arith) (omega arith)
      (keep_form l p q j low apart reverse.0 reverse.2) (pair-normal top (reached 1 (q + suc j)) (missed 1 (p + suc j)) 1 (λ e. omega (arith, e, apart)) (omega arith) (omega arith) under (omega (arith, apart, under)))

  pub more_adds : (counts j : ℕ) → p + j < q → q + j < top → Knows db (counts + 2 * j + 1) (reverse_of (next_count l p q j)) → Adds (Below top) db (more_line p counts j) (more_of l p q j)
  more_adds counts zero apart under reverse =
      expression_adds (Below top) db (over 3 (without (p + 0) (known (counts + 2 * zero + 1) (reverse_of (next_count l p q 0)) reverse))) (more_of l p q 0) (omega arith, (omega (arith, apart, under, vars), tt)) (omega arith) (omega arith)
      (one_form l p q low apart reverse.0 reverse.2) (pair-normal top (reached 1 (q + 0)) (weighing 1 (negated l)) 1 (λ e. omega (arith, e, low, apart)) (omega arith) (omega arith) under (omega (arith, low, apart, under)))
  more_adds counts (suc j) apart under reverse =
      let b : Weighted = reached 1 (q + suc j) in
      let x : Weighted = weighing 1 (negated l) in
      let s : Weighted = missed 1 (p + j) in
      expression_adds (Below top) db (over 3 (without (p + suc j) (known (counts + 2 * suc j + 1) (reverse_of (next_count l p q (suc j))) reverse))) (more_of l p q (suc j)) (omega arith, (omega (arith, apart, under, vars), tt)) (omega arith) (omega arith)
      (more_form l p q j low apart reverse.0 reverse.2)
      (record {
        apart = AllPairs-cons Other b (x ∷ s ∷ []) (pair-all (Other b) x s (λ e. omega (arith, e, low, apart)) (λ e. omega (arith, e, apart))) (pair-apart x s (λ e. omega (arith, e, low)));
        positive = All-cons Some b (x ∷ s ∷ []) (omega arith) (pair-all Some x s (omega arith) (omega arith));
        named = All-cons (Named top) b (x ∷ s ∷ []) under (pair-all (Named top) x s (omega (arith, low, apart, under)) (omega (arith, apart, under)));
      })

  -- the literal is not true where the last place of the row before is reached
  pub stop_adds : (last whole fronts : ℕ) → p + last < top → last < 2 ^ 31 → Knows db whole (total_of (weighing 1 l ∷ []) p (suc last)) → Knows db (fronts + last) (front_of p last) → Adds (Below top) db (stop_line last fronts whole) (stop_of l p last)
  stop_adds last whole fronts under small total front =
      let sized : weight (total_of (weighing 1 l ∷ []) p (suc last)).terms ≡ 1 + suc last = omega (arith, weight-cons (weighing 1 (negated l)) (places_of false 1 p (suc last)), places-weight false 1 p (suc last)) in
      expression_adds (Below top) db (over (suc last) (plus (known whole (total_of (weighing 1 l ∷ []) p (suc last)) total) (known (fronts + last) (front_of p last) front))) (stop_of l p last) (omega arith, (tt, tt)) (omega arith)
      (omega (arith, sized, front-size p last, small)) (stop_form l p last total.0 front.0 low total.2 front.2)
      (pair-normal top (missed 1 (p + last)) (weighing 1 (negated l)) 1 (λ e. omega (arith, e, low)) (omega arith) (omega arith) under (omega (arith, low, under)))

  -- ---- parts

  own-low : AreLow (weighing 1 l ∷ []) p
  own-low = record {
    apart = AllPairs-cons Other (weighing 1 l) [] (All-nil (Other (weighing 1 l))) (AllPairs-nil Other);
    positive = All-cons Some (weighing 1 l) [] (omega arith) (All-nil Some);
    below = All-cons (λ (t : Weighted). t.lit.var < p) (weighing 1 l) [] low (All-nil (λ (t : Weighted). t.lit.var < p));
  }

  part-normal : (j : ℕ) → p + suc j ≤ q → q + j < top → IsNormal (Below top) (part_of l p q j)
  part-normal j apart under = record {
    apart = climb-apart (weighing 1 l ∷ []) p q (suc j) own-low apart;
    positive = climb-positive (weighing 1 l ∷ []) p q (suc j) own-low;
    named = All-cons (Named top) (weighing 1 l) (places_of true 1 p (suc j) ++ places_of false 1 q (suc j)) (omega (arith, low, apart, under))
        (All-append (Named top) (places_of true 1 p (suc j)) (places_of false 1 q (suc j)) (places-named top 1 p (suc j) (omega (arith, apart, under))).0 (places-named top 1 q (suc j) (omega (arith, under))).1);
  }

  pub part_first_adds : (counts : ℕ) → p + 1 ≤ q → q < top → Knows db counts (forward_of (next_count l p q 0)) → Adds (Below top) db (Pol (Push counts ∷ [])) (part_of l p q 0)
  part_first_adds counts apart under forward =
      expression_adds (Below top) db (known counts (forward_of (next_count l p q 0)) forward) (part_of l p q 0) tt (omega arith) (omega arith) (part_first l p q forward.0 forward.2) (part-normal 0 (omega (arith, apart)) (omega (arith, under)))

  part-size : (j : ℕ) → weight (part_of l p q j).terms + suc j ≡ 3 * j + 4
  part-size j =
      let ps = places_of true 1 p (suc j) in
      let qs = places_of false 1 q (suc j) in
      omega (arith, weight-cons (weighing 1 l) (ps ++ qs), weight-append ps qs, places-weight true 1 p (suc j), places-weight false 1 q (suc j))

  pub part_adds : (fronts counts falls parts j : ℕ) → p + suc j < q → q + suc j < top → j < 2 ^ 31 → Knows db (parts + j) (part_of l p q j) → Knows db (fronts + j) (front_of p j) → Knows db (falls + j) (fall_of p q j) → Knows db (counts + 2 * suc j) (next_of l p q j)
      → Adds (Below top) db (part_line p fronts counts falls parts j) (part_of l p q (suc j))
  part_adds fronts counts falls parts j apart under small part front fall next =
      let n : ℕ = suc j in
      let product : n * (weight (part_of l p q j).terms + n) ≤ 2 ^ 72 = omega (arith, ap (λ (k : ℕ). n * k) (part-size j), times-small n (3 * j + 4) (omega (arith, small)) (omega (arith, small))) in
      expression_adds (Below top) db
      (over (suc n) (plus (plus (plus (times n (known (parts + j) (part_of l p q j) part)) (known (fronts + j) (front_of p j) front)) (times n (known (falls + j) (fall_of p q j) fall))) (over 2 (without (p + j) (known (counts + 2 * n) (next_of l p q j) next)))))
      (part_of l p q n) (omega arith, ((((omega arith, tt), tt), (omega arith, tt)), (omega arith, (omega (arith, apart, under, vars), tt)))) (omega arith)
      (omega (arith, product, front-size p j, small)) (part_step_form l p q j low apart part.0 front.0 fall.0 next.0 part.2 front.2 fall.2 next.2) (part-normal n (omega (arith, apart)) under)
    where
      times-small : (n k : ℕ) → n ≤ 2 ^ 32 → k ≤ 2 ^ 40 → n * k ≤ 2 ^ 72
      times-small n k few less = omega (arith, mul-le-mul_right k few, less)
