-- The first row runs: its first place is the first literal, and no other place is reached.
use Rattle.std.proofs.Common.{◌≡◌, ◌≤◌, ◌<◌, ◌+◌, ◌-◌, ◌*◌, ◌^◌, ◌++◌, ℕ, zero, suc, false, List, [], ◌∷◌, length, refl, sym, subst, arith}
use Rattle.std.specs.Prelude.{All, map}
use Rattle.std.specs.List.{range_with_len}
use Rattle.std.proofs.lemmas.List.Elements.{All-nil, All-cons, All-head}
use Rattle.std.proofs.lemmas.List.FromFn.{length-map-range_with_len, get_or-map-range_with_len}
use Rattle.std.proofs.lemmas.List.Kept.{AllPairs-cons}
use Rattle.pb_base.specs.declared.literal.Lit.{Lit}
use Rattle.pb_base.specs.Literals.{negated}
use Rattle.pb_base.proofs.Pairs.{AllPairs-nil}
use Rattle.pb_norm.specs.Constraints.{Weighted, Constraint, weight}
use Rattle.pb_norm.specs.Reduction.{opposite}
use Rattle.pb_norm.proofs.AdditionOrder.{Before}
use Rattle.pb_norm.proofs.AdditionSizes.{weight-cons}
use Rattle.pb_norm.proofs.AdditionValues.{value-cons}
use Rattle.pb_steps.specs.declared.step.Step.{Step}
use Rattle.pb_steps.specs.Database.{Database}
use Rattle.pb_steps.specs.Operations.{axiom_of}
use Rattle.pb_derive.specs.Forms.{IsFormOf}
use Rattle.pb_derive.specs.Later.{IsNumbered, IsLater, IsUnnamed, Knows}
use Rattle.pb_derive.specs.Ones.{unit_of, ones}
use Rattle.pb_derive.specs.Reifications.{Reification, forward_of, reverse_of, reification_steps}
use Rattle.pb_derive.specs.inner.Meant.{AreReifications, IsMeant}
use Rattle.pb_derive.proofs.Appends.{value-append}
use Rattle.pb_derive.proofs.Expressions.{Expression, known, literal, plus, sum_up, below_more, last_below, left_of, IsNormal, expression_adds, sum_up_adds}
use Rattle.pb_derive.proofs.FormOperations.{form_sum}
use Rattle.pb_derive.proofs.InRow.{IsFitReification, AreInRow, row_by_places, row_reifications}
use Rattle.pb_derive.proofs.Laters.{later_then, later_knows}
use Rattle.pb_derive.proofs.Lines.{AreKnown, still_known, Added, Adds, added_as, added_then, MeantFrom, meant_from, LineRan, line_ran, LinesRan, lines_ran, ChainRan, chain_ran}
use Rattle.pb_derive.proofs.Meant.{reifications_ran, meant_at}
use Rattle.pb_derive.proofs.Opposites.{value-opposite, weight-opposite}
use Rattle.pb_derive.proofs.Rups.{ones-weight}
use Rattle.pb_derive.proofs.UnaryRows.{Other, weighing, reached, missed, missed-value, places_of, places-false, order_of, front_of}
use Rattle.pb_family.specs.Fresh.{positive_of}
use Rattle.pb_counter.specs.CounterRows.{front_line, front_lines, first_front}
use Rattle.pb_counter.specs.CounterHalves.{first_count, first_counts, first_line, first_order_line, total_line, first_at, first_order_at, first_fronts_at, total_at, first_lines}
use Rattle.pb_counter.specs.laws.RowAdds.{Below, pair-apart, pair-all, first_front_adds, front_adds}
use Rattle.pb_counter.specs.laws.RowLines.{order_apart, fall_positive}
use Rattle.pb_counter.specs.laws.RowRuns.{IsRow}
use Rattle.pb_counter.specs.laws.RowTotals.{AreLow, total_of, total-apart, total-positive}
use Rattle.pb_counter.specs.laws.RowsAdds.{low_parts, total-normal}

-- ---- what its variables mean

abbrev Some : Weighted → Type 0
Some t = 0 < t.coef

abbrev Low : ℕ → Weighted → Type 0
Low p t = t.lit.var < p

count-fit : (l : Lit) (p j : ℕ) → l.var < p → IsFitReification p (first_count l p j)
count-fit l p zero low = record {
  below = All-cons (Low p) (weighing 1 l) [] low (All-nil (Low p));
  apart = AllPairs-cons Other (weighing 1 l) [] (All-nil (Other (weighing 1 l))) (AllPairs-nil Other);
  positive = All-cons Some (weighing 1 l) [] (omega arith) (All-nil Some);
  some = omega arith;
  light = omega arith;
}
count-fit l p (suc j) low = record { below = All-nil (Low p); apart = AllPairs-nil Other; positive = All-nil Some; some = omega arith; light = omega arith }

count-var : (l : Lit) (p j : ℕ) → (first_count l p j).var ≡ p + j
count-var l p zero = refl
count-var l p (suc j) = refl

pub counts-all : (Q : Reification → Type 0) (l : Lit) (p last : ℕ) → ((j : ℕ) → j < suc last → Q (first_count l p j)) → All Q (first_counts l p last)
counts-all Q l p last h = λ k d within.
    let below : k < suc last = omega (arith, within, length-map-range_with_len (first_count l p) 0 (suc last)) in
    subst Q (sym (get_or-map-range_with_len (first_count l p) 0 (suc last) k k d below (omega arith))) (h k below)

-- ---- its lines

-- the constraint that gives the clause of a place
abbrev pub start_of : Lit → ℕ → ℕ → Constraint
start_of l p zero = reverse_of (first_count l p 0)
start_of l p (suc j) = forward_of (first_count l p (suc j))

missed-normal : (top v : ℕ) → v < top → IsNormal (Below top) (record { terms = missed 1 v ∷ []; degree = 1 })
missed-normal top v under = record {
  apart = AllPairs-cons Other (missed 1 v) [] (All-nil (Other (missed 1 v))) (AllPairs-nil Other);
  positive = All-cons Some (missed 1 v) [] (omega arith) (All-nil Some);
  named = All-cons (Low top) (missed 1 v) [] under (All-nil (Low top));
}

start_adds : (top p : ℕ) (l : Lit) (db : Database) (counts j : ℕ) → l.var < p → p + j < top → Knows db (counts + 1) (reverse_of (first_count l p 0)) → Knows db (counts + 2 * j) (forward_of (first_count l p j)) → Adds (Below top) db (first_line counts j) (start_of l p j)
start_adds top p l db counts zero low under reverse forward =
    let b : Weighted = reached 1 (p + 0) in
    let x : Weighted = weighing 1 (negated l) in
    expression_adds (Below top) db (known (counts + 1) (reverse_of (first_count l p 0)) reverse) (reverse_of (first_count l p 0)) tt (omega arith) (omega arith) reverse.2
    (record {
      apart = pair-apart b x (λ e. omega (arith, e, low));
      positive = pair-all Some b x (omega arith) (omega arith);
      named = pair-all (Low top) b x under (omega (arith, low, under));
    })
start_adds top p l db counts (suc j) low under reverse forward =
    expression_adds (Below top) db (known (counts + 2 * suc j) (forward_of (first_count l p (suc j))) forward) (forward_of (first_count l p (suc j))) tt (omega arith) (omega arith) forward.2 (missed-normal top (p + suc j) under)

literal-form : (v : ℕ) → IsFormOf (record { terms = reached 1 v ∷ []; degree = 0 }) (axiom_of (positive_of v))
literal-form v =
    let t : Weighted = reached 1 v in
    record { terms = λ f. refl; degree = refl; positive = All-cons Some t [] (omega arith) (All-nil Some); ascending = AllPairs-cons Before t [] (All-nil (Before t)) (AllPairs-nil Before) }

order_adds : (top p : ℕ) (l : Lit) (db : Database) (counts j : ℕ) → p + suc j < top → top ≤ db.vars + 1 → Knows db (counts + 2 * suc j) (forward_of (first_count l p (suc j))) → Adds (Below top) db (first_order_line p counts j) (order_of p j)
order_adds top p l db counts j under vars forward =
    let s : Constraint = forward_of (first_count l p (suc j)) in
    let t : Constraint = record { terms = reached 1 (p + j) ∷ []; degree = 0 } in
    expression_adds (Below top) db (plus (known (counts + 2 * suc j) s forward) (literal (positive_of (p + j)))) (order_of p j) (tt, omega (arith, under, vars)) (omega arith) (omega arith)
    (form_sum s t (order_of p j) forward.0 (axiom_of (positive_of (p + j))) 0 forward.2 (literal-form (p + j)) (order_apart p j) (fall_positive p p j)
    (λ a. omega (arith, value-cons a (missed 1 (p + suc j)) [], value-cons a (reached 1 (p + j)) [], value-cons a (missed 1 (p + suc j)) (reached 1 (p + j) ∷ [])))
    refl)
    (record { apart = order_apart p j; positive = fall_positive p p j; named = pair-all (Low top) (missed 1 (p + suc j)) (reached 1 (p + j)) under (omega (arith, under)) })

-- ---- the total: the sum's own constraint with the first constraints of all places

-- of the first literals of a sum no more than a row is wide are true
abbrev pub whole_of : Lit → List Lit → ℕ → Constraint
whole_of l us last = record { terms = map opposite (ones (l ∷ us)); degree = weight (ones (l ∷ us)) - suc last }

abbrev partial_of : Lit → List Lit → ℕ → ℕ → ℕ → Constraint
partial_of l us p last zero = whole_of l us last
partial_of l us p last (suc j) = record { terms = map opposite (ones us) ++ places_of false 1 p (suc j); degree = weight (ones (l ∷ us)) - suc last + j }

module _ (l : Lit) (us : List Lit) (p last : ℕ) (low : AreLow (ones us) p) (db : Database) (id counts : ℕ) (whole : Knows db id (whole_of l us last)) where
  abbrev at : ℕ → ℕ
  at j = counts + 2 * j

  abbrev forward_at : ℕ → Constraint
  forward_at j = forward_of (first_count l p j)

  abbrev start : Expression db
  start = known id (whole_of l us last) whole

  partial-form : (n : ℕ) (h : (j : ℕ) → j < n → Knows db (at j) (forward_at j)) → IsFormOf (partial_of l us p last n) (left_of (sum_up start at forward_at n h))
  partial-form zero h = whole.2
  partial-form (suc zero) h =
      let ts = ones us in
      let now = h 0 (last_below 0) in
      form_sum (whole_of l us last) (forward_at 0) (partial_of l us p last 1) whole.0 now.0 1 whole.2 now.2 (total-apart ts p 1 low) (total-positive ts p 1 low)
      (λ a. omega (
        arith,
        value-opposite a (ones (l ∷ us)),
        value-opposite a ts,
        value-cons a (unit_of l) ts,
        weight-cons (unit_of l) ts,
        value-cons a (missed 1 (p + 0)) (weighing 1 l ∷ []),
        value-cons a (weighing 1 l) [],
        missed-value a 1 (p + 0),
        value-append a (map opposite ts) (places_of false 1 p 1),
        places-false a 1 p 1,
      ))
      (omega arith)
  partial-form (suc (suc j)) h =
      let ts = ones us in
      let now = h (suc j) (last_below (suc j)) in
      form_sum (partial_of l us p last (suc j)) (forward_at (suc j)) (partial_of l us p last (suc (suc j))) (left_of (sum_up start at forward_at (suc j) (λ i within. h i (below_more i (suc j) within)))) now.0 0
      (partial-form (suc j) (λ i within. h i (below_more i (suc j) within))) now.2 (total-apart ts p (suc (suc j)) low) (total-positive ts p (suc (suc j)) low)
      (λ a. omega (
        arith,
        value-append a (map opposite ts) (places_of false 1 p (suc j)),
        value-append a (map opposite ts) (places_of false 1 p (suc (suc j))),
        value-cons a (missed 1 (p + suc j)) (places_of false 1 p (suc j)),
        value-cons a (missed 1 (p + suc j)) [],
      ))
      (omega arith)

  light-each : (j : ℕ) → weight (forward_at j).terms + (forward_at j).degree ≤ 3
  light-each zero = omega arith
  light-each (suc j) = omega arith

  total_line_adds : (top : ℕ) → p + suc last ≤ top → suc last ≤ length (l ∷ us) → length (l ∷ us) < 2 ^ 31 → ((j : ℕ) → j < suc last → Knows db (at j) (forward_at j)) → Adds (Below top) db (total_line last id counts) (total_of (ones us) p (suc last))
  total_line_adds top le fits few h =
      let ts = ones (l ∷ us) in
      let sized : weight ts ≡ length (l ∷ us) = ones-weight (l ∷ us) in
      let degree : weight ts - suc last + last ≡ weight (ones us) = omega (arith, sized, fits, weight-cons (unit_of l) (ones us)) in
      let form : IsFormOf (total_of (ones us) p (suc last)) (left_of (sum_up start at forward_at (suc last) h)) =
      subst (λ (n : ℕ). IsFormOf (record { terms = map opposite (ones us) ++ places_of false 1 p (suc last); degree = n }) (left_of (sum_up start at forward_at (suc last) h))) degree (partial-form (suc last) h) in
      sum_up_adds (Below top) db start at forward_at 3 (suc last) h (total_of (ones us) p (suc last)) tt (omega arith) (λ j within. light-each j) (omega (arith, weight-opposite ts, sized, few, fits)) form (total-normal top (ones us) p (suc last) low le)

-- ---- the first row

-- what a counter starts from: the constraint of its sum, and variables that are new
pub record MayCount (db : Database) (l : Lit) (us : List Lit) (p last id next : ℕ) : Type 0 where
  pub low : AreLow (ones (l ∷ us)) p
  pub fits : suc last ≤ length (l ∷ us)
  pub few : length (l ∷ us) < 2 ^ 31
  pub original : db.original < p
  pub vars : p + suc last ≤ db.vars + 1
  pub numbered : IsNumbered db
  pub at : db.next ≡ next
  pub whole : Knows db id (whole_of l us last)
  pub whole_before : id < next
  pub unnamed : (v : ℕ) → p ≤ v → v < p + suc last → IsUnnamed v db

-- and what its first row leaves
pub record FirstRan (db : Database) (l : Lit) (us : List Lit) (p last id next : ℕ) : Type 0 where
  pub added : Added (Below (p + suc last)) db (first_lines l p last id next) (5 * last + 5)
  pub at : added.ran.end.next ≡ total_at last next + 1
  pub starts_known : AreKnown added.ran.end (first_at last next) (start_of l p) (suc last)
  pub row : IsRow added.ran.end p last (first_order_at last next)
  pub total : Knows added.ran.end (total_at last next) (total_of (ones us) p (suc last))

module _ (db : Database) (l : Lit) (us : List Lit) (p last id next : ℕ) (h : MayCount db l us p last id next) where
  abbrev top : ℕ
  top = p + suc last

  abbrev P : ℕ → Type 0
  P = Below top

  abbrev counts : List Reification
  counts = first_counts l p last

  size : length counts ≡ suc last
  size = length-map-range_with_len (first_count l p) 0 (suc last)

  own : l.var < p
  own = All-head (Low p) (unit_of l) (ones us) h.low.below

  rest : AreLow (ones us) p
  rest = (low_parts (unit_of l ∷ []) (ones us) p h.low).1

  count-named : (j : ℕ) → All (λ t. P t.lit.var) (first_count l p j).sum
  count-named j = λ k d within. let under = (count-fit l p j own).below k d within in omega (arith, under)

  may_add : AreReifications P db counts
  may_add =
      row_reifications P db p counts
      (subst (λ (v : ℕ). AreInRow v counts) (let e : p + 0 ≡ p = omega arith in e) (row_by_places (first_count l p) p 0 (suc last) (count-var l p)))
      (counts-all (IsFitReification p) l p last (λ j within. count-fit l p j own))
      h.original (omega (arith, size, h.vars)) (λ v from high. let under : v < top = omega (arith, high, size) in (under, h.unnamed v from under))
      (counts-all (λ (m : Reification). All (λ t. P t.lit.var) m.sum) l p last (λ j within. count-named j))

  start_1 : MeantFrom P db next counts
  start_1 = meant_from P db next counts h.at (reifications_ran P db counts h.numbered may_add)

  abbrev d1 : Database
  d1 = start_1.added.ran.end

  to_1 : IsLater P db d1
  to_1 = start_1.added.ran.later

  at_1 : d1.next ≡ first_at last next
  at_1 = omega (arith, start_1.added.ran.next, h.at, size)

  meant : (j : ℕ) → j < suc last → IsMeant d1 (next + 2 * j) (first_count l p j)
  meant j within =
      subst (IsMeant d1 (next + 2 * j)) (get_or-map-range_with_len (first_count l p) 0 (suc last) j j (first_count l p j) within (omega arith))
      (meant_at d1 next counts j (first_count l p j) (omega (arith, within, size)) start_1.meant)

  forward : (j : ℕ) → j < suc last → Knows d1 (next + 2 * j) (forward_of (first_count l p j))
  forward j within = (meant j within).first

  reverse : Knows d1 (next + 1) (reverse_of (first_count l p 0))
  reverse = subst (λ (k : ℕ). Knows d1 k (reverse_of (first_count l p 0))) (let e : next + 2 * 0 + 1 ≡ next + 1 = omega arith in e) ((meant 0 (omega arith)).second (omega arith))

  vars_at : (mid : Database) → IsLater P d1 mid → top ≤ mid.vars + 1
  vars_at mid later = omega (arith, h.vars, to_1.vars, later.vars)

  forward_later : (mid : Database) → IsLater P d1 mid → (j : ℕ) → j < suc last → Knows mid (next + 2 * j) (forward_of (first_count l p j))
  forward_later mid later j within = later_knows P d1 mid (next + 2 * j) (forward_of (first_count l p j)) later (omega (arith, within, at_1)) (forward j within)

  starts : LinesRan P d1 (map (first_line next) (range_with_len 0 (suc last))) (first_at last next) (start_of l p) (suc last)
  starts = lines_ran P d1 (first_at last next) (first_line next) (start_of l p) (suc last) to_1.numbered at_1 (λ j within mid later known.
      start_adds top p l mid next j own (omega (arith, within)) (later_knows P d1 mid (next + 1) (reverse_of (first_count l p 0)) later (omega (arith, at_1)) reverse) (forward_later mid later j within))

  abbrev d2 : Database
  d2 = starts.added.ran.end

  to_2 : IsLater P d1 d2
  to_2 = starts.added.ran.later

  at_2 : d2.next ≡ first_order_at last next
  at_2 = omega (arith, starts.added.ran.next, at_1)

  orders : LinesRan P d2 (map (first_order_line p next) (range_with_len 0 last)) (first_order_at last next) (order_of p) last
  orders = lines_ran P d2 (first_order_at last next) (first_order_line p next) (order_of p) last to_2.numbered at_2 (λ j within mid later known.
      let all = later_then P d1 d2 mid to_2 later in
      order_adds top p l mid next j (omega (arith, within)) (vars_at mid all) (forward_later mid all (suc j) (omega (arith, within))))

  abbrev d3 : Database
  d3 = orders.added.ran.end

  to_3 : IsLater P d1 d3
  to_3 = later_then P d1 d2 d3 to_2 orders.added.ran.later

  at_3 : d3.next ≡ first_fronts_at last next
  at_3 = omega (arith, orders.added.ran.next, at_2)

  fronts : ChainRan P d3 (front_lines p last (first_order_at last next) (first_fronts_at last next)) (first_fronts_at last next) (front_of p) last
  fronts = chain_ran P d3 (first_fronts_at last next) (first_front p) (front_line (first_order_at last next) (first_fronts_at last next)) (front_of p) last to_3.numbered at_3
      (first_front_adds top p d3 (omega (arith, vars_at d3 to_3)))
      (λ j within mid later before.
      front_adds top p mid (first_order_at last next) (first_fronts_at last next) j (omega (arith, within)) (omega (arith, within, h.fits, h.few)) before
      (later_knows P d3 mid (first_order_at last next + j) (order_of p j) later (omega (arith, within, at_3)) (orders.known j within)))

  abbrev d4 : Database
  d4 = fronts.added.ran.end

  to_4 : IsLater P d1 d4
  to_4 = later_then P d1 d3 d4 to_3 fronts.added.ran.later

  at_4 : d4.next ≡ total_at last next
  at_4 = omega (arith, fronts.added.ran.next, at_3)

  total : LineRan P d4 (total_line last id next) (total_at last next) (total_of (ones us) p (suc last))
  total = line_ran P d4 (total_line last id next) (total_at last next) (total_of (ones us) p (suc last)) to_4.numbered at_4
      (total_line_adds l us p last rest d4 id next (later_knows P db d4 id (whole_of l us last) (later_then P db d1 d4 to_1 to_4) (omega (arith, h.whole_before, h.at)) h.whole) top (omega arith) h.fits h.few (forward_later d4 to_4))

  abbrev d5 : Database
  d5 = total.added.ran.end

  at_5 : d5.next ≡ total_at last next + 1
  at_5 = omega (arith, total.added.ran.next, at_4)

  abbrev lines_3 : List Step
  lines_3 = front_lines p last (first_order_at last next) (first_fronts_at last next) ++ total_line last id next ∷ []

  abbrev lines_1 : List Step
  lines_1 = map (first_line next) (range_with_len 0 (suc last)) ++ (map (first_order_line p next) (range_with_len 0 last) ++ lines_3)

  abbrev added_all : Added P db (first_lines l p last id next) (2 * length counts + (suc last + (last + (1 + last + 1))))
  added_all = added_then P db (reification_steps next counts) lines_1 (2 * length counts) (suc last + (last + (1 + last + 1))) start_1.added
      (added_then P d1 (map (first_line next) (range_with_len 0 (suc last))) (map (first_order_line p next) (range_with_len 0 last) ++ lines_3) (suc last) (last + (1 + last + 1)) starts.added
      (added_then P d2 (map (first_order_line p next) (range_with_len 0 last)) lines_3 last (1 + last + 1) orders.added
      (added_then P d3 (front_lines p last (first_order_at last next) (first_fronts_at last next)) (total_line last id next ∷ []) (1 + last) 1 fronts.added total.added)))

  pub first_ran : FirstRan db l us p last id next
  first_ran =
      let since_4 = total.added.ran.later in
      let since_3 = later_then P d3 d4 d5 fronts.added.ran.later since_4 in
      let since_2 = later_then P d2 d3 d5 orders.added.ran.later since_3 in
      record {
        added = added_as P db (first_lines l p last id next) (2 * length counts + (suc last + (last + (1 + last + 1)))) (5 * last + 5) (omega (arith, size)) added_all;
        at = at_5;
        starts_known = still_known P d2 d5 (first_at last next) (start_of l p) (suc last) since_2 (omega (arith, at_2)) starts.known;
        row = record {
          order_known = still_known P d3 d5 (first_order_at last next) (order_of p) last since_3 (omega (arith, at_3)) orders.known;
          fronts_known = still_known P d4 d5 (first_fronts_at last next) (front_of p) (suc last) since_4 (omega (arith, at_4)) fronts.known;
        };
        total = total.known;
      }
