-- At the root the sum's own constraint takes the guard's place: where the root is false, its literal and the next level's false nodes weigh less
-- than the root's end, since they weigh no more than the bound.
use Rattle.std.proofs.Common.{◌≡◌, ◌≢◌, ◌≤◌, ◌<◌, ◌+◌, ◌*◌, ◌-◌, ◌^◌, ℕ, suc, List, [], ◌∷◌, length, map, refl, ap, sym, ◌∙◌, subst, arith, inl, inr}
use Rattle.std.specs.Prelude.{Option, None, Some}
use Rattle.std.proofs.lemmas.Bool.{cases_lt}
use Rattle.pb_base.specs.declared.literal.Lit.{Lit}
use Rattle.pb_base.specs.Literals.{Assignment}
use Rattle.pb_norm.specs.Constraints.{Weighted, Constraint, value, weight}
use Rattle.pb_norm.specs.Reduction.{opposite}
use Rattle.pb_norm.proofs.AdditionValues.{value-cons}
use Rattle.pb_steps.specs.declared.op.PolOp.TheVariants.{Push, Axiom, Add}
use Rattle.pb_steps.specs.Database.{Database}
use Rattle.pb_derive.specs.Later.{Knows}
use Rattle.pb_derive.proofs.Lines.{Adds}
use Rattle.pb_derive.proofs.Opposites.{value-opposite}
use Rattle.pb_family.specs.Fresh.{positive_of}
use Rattle.pb_diagram.specs.declared.node.Node.{Node}
use Rattle.pb_diagram.specs.Guards.{Rung, last_top, own_of, off_of, on_of, reach_by, plus_times, split_line, if_false_ops, if_true_ops}
use Rattle.pb_diagram.specs.GuardedSteps.{root_goal}
use Rattle.pb_diagram.specs.laws.ClimbLines.{climb_of, both-rises, climb-value}
use Rattle.pb_diagram.specs.laws.GuardSplit.{IsRung, IsIn, nodes_true, nodes_false, true-lit, true-guard, true-node, false-lit, false-node}
use Rattle.pb_diagram.specs.laws.LevelWorths.{climbed, gap, gap-inside, gap-end, AreChildren, IsTight, on_size, place_degree}
use Rattle.pb_diagram.specs.laws.NodeWorths.{off_miss}
use Rattle.pb_diagram.specs.laws.RungLines.{unit_clause, split_adds, false_rise-value}
use Rattle.pb_diagram.specs.laws.SplitWorths.{true_rise, IsGoal, off_split, on_split}
use Rattle.pb_diagram.specs.laws.StepSums.{at_child, rise_total}
use Rattle.pb_diagram.specs.laws.WorthSums.{holds, holds-negated, term-holds, sum_known, sum_more, sum_as, sum_ops}

module _ (db : Database) (r : Rung) (n : Node) (ts : List Weighted) (bound own before : ℕ) (here : IsRung db r) (alone : r.nodes ≡ n ∷ []) (less : bound < n.top) (heavy : bound < weight (r.term ∷ ts)) (within : r.term.coef ≤ bound) where
  abbrev us : List Weighted
  us = r.term ∷ ts

  abbrev l : Lit
  l = r.term.lit

  abbrev x : Lit
  x = positive_of r.var

  abbrev top : ℕ
  top = n.top

  -- the sum as a constraint
  abbrev pub own_of_sum : Constraint
  own_of_sum = record { terms = map opposite (r.term ∷ ts); degree = weight (r.term ∷ ts) - bound }

  abbrev pub root_value : Assignment → ℕ
  root_value a = value a (map opposite (r.term ∷ ts)) + value a (climb_of ts r.after r.next).terms

  abbrev pub root_degree : ℕ
  root_degree = weight (r.term ∷ ts) - bound + last_top r.next

  one-top : climbed 0 r.nodes ≡ top
  one-top = ap (climbed 0) alone ∙ (omega arith)

  all-own : own_of r ≡ r.term.coef
  all-own = omega (arith, here.top, one-top, less, within)

  root-rise : (a : Assignment) → true_rise a r.var 0 r.nodes ≡ top * holds a x
  root-rise a = ap (true_rise a r.var 0) alone ∙ (let e : (top - 0) * holds a x + 0 ≡ top * holds a x = one_step (top - 0) (holds a x) (omega arith) in e)
    where
      one_step : (c k : ℕ) → c ≡ top → c * k + 0 ≡ top * k
      one_step c k e = omega (arith, ap (λ (i : ℕ). i * k) e)

  none-rise : (a : Assignment) (p low : ℕ) (ns : List Node) → ((w : ℕ) → p ≤ w → holds a (positive_of w) ≡ 0) → true_rise a p low ns ≡ 0
  none-rise a p low [] each = refl
  none-rise a p low (m ∷ ns) each = omega (arith, ap (λ (k : ℕ). (m.top - low) * k) (each p (omega arith)), none-rise a (p + 1) m.top ns (λ w from. each w (omega (arith, from))))

  abbrev count : ℕ
  count = length r.next

  false_rises : (a : Assignment) → rise_total (gap a r.after count) 0 0 r.next + true_rise a r.after 0 r.next ≡ climbed 0 r.next
  false_rises a = omega (arith, both-rises a r.after 0 r.next, false_rise-value db r.order r.after count here.ordered here.fits a r.after 0 0 r.next (omega arith) (omega arith))

  root-is : (a : Assignment) → root_value a + own_of r * holds a l + rise_total (gap a r.after count) 0 0 r.next + true_rise a r.var 0 r.nodes + (top - bound) ≡ top * holds a x + root_degree + climbed 0 r.nodes
  root-is a =
      omega (
        arith,
        value-opposite a us,
        value-cons a r.term ts,
        term-holds a r.term.coef l,
        climb-value a ts r.after r.next,
        false_rises a,
        root-rise a,
        one-top,
        ap (λ (k : ℕ). k * holds a l) all-own,
        less,
        heavy,
        here.last,
      )

  other : r.var ≢ r.term.lit.var
  other e = omega (arith, e, here.low)

  abbrev on : Assignment
  on = nodes_true l r.var other

  abbrev off : Assignment
  off = nodes_false l r.var other

  far : (i : ℕ) → r.var + 1 ≤ r.after + i
  far i = omega (arith, here.high, ap (λ (ns : List Node). length ns) alone)

  on-gap : (i : ℕ) → i < count → gap on r.after count i ≡ 0
  on-gap i inside =
      let above = far i in
      omega (
        arith,
        gap-inside db r.order r.after count here.ordered here.fits on i inside,
        true-node l r.var other (r.after + i) (λ e. omega (arith, e, above, here.low)) (λ e. omega (arith, e, above)),
        holds-negated on (positive_of (r.after + i)),
      )

  off-node : (w : ℕ) → r.var ≤ w → holds off (positive_of w) ≡ 0
  off-node w from = false-node l r.var other w (λ e. omega (arith, from, e, here.low))

  off-gap : (i : ℕ) → i < count → gap off r.after count i ≡ 1
  off-gap i inside = omega (arith, gap-inside db r.order r.after count here.ordered here.fits off i inside, off-node (r.after + i) (omega (arith, far i)), holds-negated off (positive_of (r.after + i)))

  on-each : (i : ℕ) → i < count → 1 ≤ gap on r.after count i + (1 - gap on r.after count (suc i))
  on-each i inside =
      elim (cases_lt (suc i) count) as (λ _. 1 ≤ gap on r.after count i + (1 - gap on r.after count (suc i))) [
        | inl more ↦ omega (arith, on-gap (suc i) more)
        | inr last ↦ omega (arith, gap-end db r.order r.after count here.ordered here.fits on (suc i) (omega (arith, last, inside)))
      ]

  misses : (a : Assignment) (ns : List Node) → AreChildren (λ m. IsIn count m.off) ns → AreChildren (λ m. off_miss a r.after m.off ≡ at_child (gap a r.after count) m.off) ns
  misses a [] h = tt
  misses a (m ∷ ns) h = (by_child m.off h.0, misses a ns h.1)
    where
      by_child : (f : Option ℕ) → IsIn count f → off_miss a r.after f ≡ at_child (gap a r.after count) f
      by_child None k = refl
      by_child (Some f) k = sym (gap-inside db r.order r.after count here.ordered here.fits a f k)

  off-low : root_value off ≤ root_degree
  off-low =
      omega (
        arith,
        root-is off,
        ap (λ (k : ℕ). own_of r * k) (false-lit l r.var other),
        ap (λ (k : ℕ). top * k) (off-node r.var (omega arith)),
        none-rise off r.var 0 r.nodes off-node,
        none-rise off r.after 0 r.next (λ w from. off-node w (omega (arith, from, far 0))),
        false_rises off,
        here.covered,
        one-top,
        less,
      )

  on-even : root_value on ≤ root_degree + bound
  on-even =
      omega (arith, root-is on, ap (λ (k : ℕ). own_of r * k) (true-lit l r.var other), ap (λ (k : ℕ). top * k) (true-guard l r.var other), root-rise on, one-top, less)

  tight_one : (m : Node) → m.top ≡ n.top → AreChildren (λ m. IsIn count m.off) (m ∷ []) → IsTight on l r.after r.var 0 (root_value on) root_degree (m ∷ [])
  tight_one m same h =
      let nothing : holds on (positive_of r.var) + off_miss on r.after m.off + holds on l ≡ 0 = omega (arith, true-guard l r.var other, true-lit l r.var other, none m.off h.0) in
      (omega (arith, on-even, less, same, ap (λ (k : ℕ). (m.top - 0) * k) nothing), tt)
    where
      none : (f : Option ℕ) → IsIn count f → off_miss on r.after f ≡ 0
      none None k = refl
      none (Some f) k = omega (arith, on-gap f k, gap-inside db r.order r.after count here.ordered here.fits on f k)

  abbrev pub root_bytes : ℕ
  root_bytes = weight (map opposite (r.term ∷ ts)) + (weight (r.term ∷ ts) - bound) + (weight (climb_of ts r.after r.next).terms + last_top r.next)

  root_is_goal : Knows db own own_of_sum → Knows db before (climb_of ts r.after r.next)
      → IsGoal db l r.order r.after count r.var r.counts (own_of r) here.ordered here.fits r.nodes r.next refl here.up here.rise here.low here.high here.known_lit here.enough (root_goal r own before) x top (top - bound) root_degree root_value root_bytes
  root_is_goal ho hb = record {
    sum =
        let VO : Assignment → ℕ = λ a. value a (map opposite us) in
        let VB : Assignment → ℕ = λ a. value a (climb_of ts r.after r.next).terms in
        let mo : ℕ = weight (map opposite us) + (weight us - bound) in
        let mb : ℕ = weight (climb_of ts r.after r.next).terms + last_top r.next in
        let none : 0 ≡ r.term.coef - own_of r = omega (arith, all-own) in
        sum_ops db (Push own ∷ Push before ∷ Add ∷ []) (root_goal r own before) root_value root_degree root_bytes 3 (ap (λ (k : ℕ). Push own ∷ Push before ∷ Add ∷ plus_times k (Axiom l ∷ [])) none)
        (sum_more db off (Push own ∷ []) (Push before ∷ []) VO VB (weight us - bound) (last_top r.next) mo mb 2
        (sum_as db (Push own ∷ []) VO VO (weight us - bound) (weight us - bound) mo mo 1 3 (sum_known db own own_of_sum ho) (λ a. refl) (omega arith) (omega arith))
        (sum_as db (Push before ∷ []) VB VB (last_top r.next) (last_top r.next) mb mb 1 2 (sum_known db before (climb_of ts r.after r.next) hb) (λ a. refl) (omega arith) (omega arith))
        off-low);
    other = other;
    some = omega (arith, less);
    positive = omega (arith, less);
    is = root-is;
  }

  abbrev pub root_size : ℕ
  root_size =
      root_bytes + 9 * climbed 0 r.nodes + 3 * place_degree (reach_by off_of r.nodes) 0 r.next + 1
      + (root_bytes + on_size (10 + 6 * length r.next) (own_of r) 0 r.nodes + 3 * place_degree (λ j. reach_by on_of r.nodes j - own_of r) 0 r.next)

  -- the root is true
  pub root_split : (P : ℕ → Type 0) → Knows db own own_of_sum → Knows db before (climb_of ts r.after r.next) → P r.var → root_size < 2 ^ 126
      → Adds P db (split_line r (root_goal r own before) (r.term.coef + last_top r.next + last_top r.nodes + 1)) (unit_clause r.var)
  root_split P ho hb named small =
      let widest : ℕ = r.term.coef + last_top r.next + last_top r.nodes + 1 in
      let goal = root_is_goal ho hb in
      let wide : top ≤ widest = omega (arith, one-top, here.top) in
      let wider : climbed 0 r.nodes + 1 ≤ widest = omega (arith, here.top) in
      let below : top - bound ≤ widest = omega (arith, one-top, here.top) in
      split_adds P db l r.var (root_bytes + 9 * climbed 0 r.nodes + 3 * place_degree (reach_by off_of r.nodes) 0 r.next + 1)
      (root_bytes + on_size (10 + 6 * length r.next) (own_of r) 0 r.nodes + 3 * place_degree (λ j. reach_by on_of r.nodes j - own_of r) 0 r.next)
      (if_false_ops r (root_goal r own before) widest) (if_true_ops r (root_goal r own before) widest)
      (off_split db l r.order r.after count r.var r.counts (own_of r) here.ordered here.fits r.nodes r.next refl here.up here.rise here.low here.high here.known_lit here.enough (root_goal r own before) x top (top - bound) root_degree root_value root_bytes widest goal wide wider below
      (λ a. misses a r.nodes here.offs) (λ a. here.off_steps (gap a r.after count)) here.off_above here.known here.places on
      (subst (λ (ns : List Node). IsTight on l r.after r.var 0 (root_value on) root_degree ns) (sym alone) (tight_one n refl (subst (AreChildren (λ m. IsIn count m.off)) alone here.offs)))
      (true-guard l r.var other) (true-lit l r.var other) on-each)
      (on_split db l r.order r.after count r.var r.counts (own_of r) here.ordered here.fits r.nodes r.next refl here.up here.rise here.low here.high here.known_lit here.enough (root_goal r own before) x top (top - bound) root_degree root_value root_bytes widest goal wide wider below here.counted
      (λ a. here.on_steps (gap a r.after count)) here.on_above here.known here.ons off (λ w from to. off-node w from) off-gap off-low (off-node r.var (omega arith)) (omega (arith, false-lit l r.var other, holds-negated off l)))
      named small
