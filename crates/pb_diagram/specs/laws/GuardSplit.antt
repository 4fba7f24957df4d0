-- A level's split line shows that its guard is true.
use Rattle.std.proofs.Common.{◌≡◌, ◌≢◌, ◌≤◌, ◌<◌, ◌+◌, ◌*◌, ◌-◌, ◌^◌, ℕ, suc, Bool, true, false, not, cond, List, [], ◌∷◌, length, refl, ap, sym, ◌∙◌, arith, eqb, inl, inr}
use Rattle.std.specs.Prelude.{Option, None, Some}
use Rattle.std.proofs.lemmas.Bool.{eq-eqb, ne_eqb, cases_lt}
use Rattle.pb_base.specs.declared.literal.Lit.{Lit}
use Rattle.pb_base.specs.Literals.{Assignment}
use Rattle.pb_norm.specs.Constraints.{weight}
use Rattle.pb_steps.specs.declared.op.PolOp.TheVariants.{Push}
use Rattle.pb_steps.specs.Database.{Database}
use Rattle.pb_derive.specs.Later.{Knows}
use Rattle.pb_derive.specs.Reifications.{reverse_of}
use Rattle.pb_derive.proofs.Lines.{Adds}
use Rattle.pb_family.specs.Fresh.{positive_of}
use Rattle.pb_diagram.specs.declared.node.Node.{Node}
use Rattle.pb_diagram.specs.Guards.{Rung, guard, last_top, own_of, off_of, on_of, reach_by, split_line, if_false_ops, if_true_ops, guard_width}
use Rattle.pb_diagram.specs.laws.LevelWorths.{climbed, gap, gap-inside, gap-end, IsTight, IsPlaceOf, AreChildren, AreNodesKnown, IsOnChild, on_size, place_degree}
use Rattle.pb_diagram.specs.laws.NodeWorths.{IsOrdered, off_miss}
use Rattle.pb_diagram.specs.laws.RungLines.{unit_clause, split_adds, guard_goal, goal_value}
use Rattle.pb_diagram.specs.laws.SplitWorths.{true_rise, IsGoal, off_split, on_split}
use Rattle.pb_diagram.specs.laws.StepSums.{at_child, AreUp, AreSteps, AreAbove, rise_total}
use Rattle.pb_diagram.specs.laws.WorthSums.{holds, holds-negated}

-- a child stands among the places of the next level
abbrev pub IsIn : ℕ → Option ℕ → Type 0
IsIn count None = Unit {0}
IsIn count (Some f) = f < count

-- a level whose nodes have children in the next level, whose order is known
pub record IsRung (db : Database) (r : Rung) : Type 0 where
  pub ordered : IsOrdered db r.order r.after (length r.next)
  pub fits : r.after + length r.next ≤ db.vars + 1
  pub up : AreUp 0 r.nodes
  pub rise : AreUp 0 r.next
  pub low : r.term.lit.var < r.var
  pub high : r.var + length r.nodes ≤ r.after
  pub known_lit : r.term.lit.var ≤ db.vars
  pub counted : 0 < own_of r
  pub enough : own_of r ≤ climbed 0 r.nodes
  pub top : last_top r.nodes ≡ climbed 0 r.nodes
  pub last : last_top r.next ≡ climbed 0 r.next
  pub covered : climbed 0 r.nodes ≤ own_of r + climbed 0 r.next
  pub known : AreNodesKnown db r.term.lit r.after r.var r.counts r.nodes
  pub offs : AreChildren (λ n. IsIn (length r.next) n.off) r.nodes
  pub places : AreChildren (λ n. IsPlaceOf db.vars r.after n.on) r.nodes
  pub ons : AreChildren (λ n. IsOnChild (length r.next) (own_of r) n.top n.off n.on) r.nodes
  pub off_steps : (h : ℕ → ℕ) → AreSteps h off_of (length r.next) 0 r.nodes
  pub on_steps : (h : ℕ → ℕ) → AreSteps h on_of (length r.next) (own_of r) r.nodes
  pub off_above : AreAbove (reach_by off_of r.nodes) 0 r.next
  pub on_above : AreAbove (λ j. reach_by on_of r.nodes j - own_of r) 0 r.next

-- ---- the literal is false, the guard too, and the nodes are true

module _ (l : Lit) (v : ℕ) (other : v ≢ l.var) where
  pub nodes_true : Assignment
  nodes_true w = cond (eqb w l.var) (not l.positive) (not (eqb w v))

  pub nodes_false : Assignment
  nodes_false w = cond (eqb w l.var) l.positive false

  pub true-lit : holds nodes_true l ≡ 0
  unfolding nodes_true
  true-lit = ap (λ (b : Bool). cond (cond l.positive (cond b (not l.positive) (not (eqb l.var v))) (not (cond b (not l.positive) (not (eqb l.var v))))) 1 0) (eq-eqb l.var l.var refl) ∙ by_sign l.positive
    where
      by_sign : (b : Bool) → cond {A = ℕ} (cond b (not b) (not (not b))) 1 0 ≡ 0
      by_sign true = refl
      by_sign false = refl

  pub true-guard : holds nodes_true (positive_of v) ≡ 0
  unfolding nodes_true
  true-guard = ap (λ (b : Bool). cond (cond b (not l.positive) (not (eqb v v))) 1 0) (ne_eqb v l.var other) ∙ ap (λ (b : Bool). cond (not b) 1 0) (eq-eqb v v refl)

  pub true-node : (w : ℕ) → w ≢ l.var → w ≢ v → holds nodes_true (positive_of w) ≡ 1
  unfolding nodes_true
  true-node w h k = ap (λ (b : Bool). cond (cond b (not l.positive) (not (eqb w v))) 1 0) (ne_eqb w l.var h) ∙ ap (λ (b : Bool). cond (not b) 1 0) (ne_eqb w v k)

  pub false-lit : holds nodes_false l ≡ 1
  unfolding nodes_false
  false-lit = ap (λ (b : Bool). cond (cond l.positive (cond b l.positive false) (not (cond b l.positive false))) 1 0) (eq-eqb l.var l.var refl) ∙ by_sign l.positive
    where
      by_sign : (b : Bool) → cond {A = ℕ} (cond b b (not b)) 1 0 ≡ 1
      by_sign true = refl
      by_sign false = refl

  pub false-node : (w : ℕ) → w ≢ l.var → holds nodes_false (positive_of w) ≡ 0
  unfolding nodes_false
  false-node w h = ap (λ (b : Bool). cond (cond b l.positive false) 1 0) (ne_eqb w l.var h)

-- ---- under these

all-rise : (a : Assignment) (p low : ℕ) (ns : List Node) (k : ℕ) → ((w : ℕ) → p ≤ w → w < p + length ns → holds a (positive_of w) ≡ k) → true_rise a p low ns ≡ climbed low ns * k
all-rise a p low [] k each = omega arith
all-rise a p low (n ∷ ns) k each =
    let c : ℕ = n.top - low in
    let e : holds a (positive_of p) ≡ k = each p (omega arith) (omega arith) in
    omega (arith, ap (λ (i : ℕ). c * i) e, all-rise a (p + 1) n.top ns k (λ w from to. each w (omega (arith, from)) (omega (arith, to))), plus-times c (climbed n.top ns) k)
  where
    plus-times : (i j k : ℕ) → (i * 1 + j) * k ≡ i * k + j * k
    plus-times i j k = grind arith

all-gaps : (h : ℕ → ℕ) (low j : ℕ) (ns : List Node) → ((i : ℕ) → j ≤ i → i < j + length ns → h i ≡ 1) → rise_total h low j ns ≡ climbed low ns
all-gaps h low j [] each = refl
all-gaps h low j (n ∷ ns) each =
    let c : ℕ = n.top - low in
    omega (arith, ap (λ (i : ℕ). c * i) (each j (omega arith) (omega arith)), all-gaps h n.top (suc j) ns (λ i from to. each i (omega (arith, from)) (omega (arith, to))))

module _ (db : Database) (r : Rung) (v id : ℕ) (here : IsRung db r) (first : v < r.var) (other : v ≢ r.term.lit.var) (known : Knows db id (reverse_of (guard v r))) where
  abbrev l : Lit
  l = r.term.lit

  abbrev count : ℕ
  count = length r.next

  abbrev on : Assignment
  on = nodes_true l v other

  abbrev off : Assignment
  off = nodes_false l v other

  w_le : (w : ℕ) → r.var ≤ w → w ≢ l.var
  w_le w from = λ e. omega (arith, from, e, here.low)

  w_other : (w : ℕ) → r.var ≤ w → w ≢ v
  w_other w from = λ e. omega (arith, from, e, first)

  on-gap : (i : ℕ) → i < count → gap on r.after count i ≡ 0
  on-gap i within =
      let far : r.var ≤ r.after + i = omega (arith, here.high) in
      omega (arith, gap-inside db r.order r.after count here.ordered here.fits on i within, true-node l v other (r.after + i) (w_le (r.after + i) far) (w_other (r.after + i) far), holds-negated on (positive_of (r.after + i)))

  off-gap : (i : ℕ) → i < count → gap off r.after count i ≡ 1
  off-gap i within =
      let far : r.var ≤ r.after + i = omega (arith, here.high) in
      omega (arith, gap-inside db r.order r.after count here.ordered here.fits off i within, false-node l v other (r.after + i) (w_le (r.after + i) far), holds-negated off (positive_of (r.after + i)))

  on-each : (i : ℕ) → i < count → 1 ≤ gap on r.after count i + (1 - gap on r.after count (suc i))
  on-each i within =
      elim (cases_lt (suc i) count) as (λ _. 1 ≤ gap on r.after count i + (1 - gap on r.after count (suc i))) [
        | inl more ↦ omega (arith, on-gap (suc i) more)
        | inr last ↦ omega (arith, gap-end db r.order r.after count here.ordered here.fits on (suc i) (omega (arith, last, within)))
      ]

  misses : (a : Assignment) (ns : List Node) → AreChildren (λ n. IsIn count n.off) ns → AreChildren (λ n. off_miss a r.after n.off ≡ at_child (gap a r.after count) n.off) ns
  misses a [] h = tt
  misses a (n ∷ ns) h = (by_child n.off h.0, misses a ns h.1)
    where
      by_child : (f : Option ℕ) → IsIn count f → off_miss a r.after f ≡ at_child (gap a r.after count) f
      by_child None k = refl
      by_child (Some f) k = sym (gap-inside db r.order r.after count here.ordered here.fits a f k)

  tight_all : (p low vu du : ℕ) (ns : List Node) → r.var ≤ p → p + length ns ≤ r.after → AreChildren (λ n. IsIn count n.off) ns → vu ≤ du → IsTight on l r.after p low vu du ns
  tight_all p low vu du [] from to h le = tt
  tight_all p low vu du (n ∷ ns) from to h le =
      let c : ℕ = n.top - low in
      let one : holds on (positive_of p) + off_miss on r.after n.off + holds on l ≡ 1 = omega (arith, true-node l v other p (w_le p from) (w_other p from), none n.off h.0, true-lit l v other) in
      let whole : c * (holds on (positive_of p) + off_miss on r.after n.off + holds on l) ≡ c * 1 = ap (λ (k : ℕ). c * k) one in
      (omega (arith, whole, le), tight_all (p + 1) n.top (vu + c * (holds on (positive_of p) + off_miss on r.after n.off + holds on l)) (du + c * 1) ns (omega (arith, from)) (omega (arith, to)) h.1 (omega (arith, whole, le)))
    where
      none : (f : Option ℕ) → IsIn count f → off_miss on r.after f ≡ 0
      none None k = refl
      none (Some f) k = omega (arith, on-gap f k, gap-inside db r.order r.after count here.ordered here.fits on f k)

  goal : IsGoal db l r.order r.after count r.var r.counts (own_of r) here.ordered here.fits r.nodes r.next refl here.up here.rise here.low here.high here.known_lit here.enough (Push id ∷ []) (positive_of v) (own_of r + climbed 0 r.next + 1) 1 (own_of r + climbed 0 r.next + 1)
      (goal_value db r v id here.ordered here.fits here.up here.rise here.low here.high here.known_lit here.enough here.top other) (weight (reverse_of (guard v r)).terms + (reverse_of (guard v r)).degree)
  goal = guard_goal db r v id here.ordered here.fits here.up here.rise here.low here.high here.known_lit here.enough here.top other known

  abbrev width : ℕ
  width = own_of r + climbed 0 r.next + 1

  on-low : goal_value db r v id here.ordered here.fits here.up here.rise here.low here.high here.known_lit here.enough here.top other on ≤ width
  on-low =
      omega (
        arith,
        goal.is on,
        ap (λ (k : ℕ). own_of r * k) (true-lit l v other),
        ap (λ (k : ℕ). width * k) (true-guard l v other),
        all-rise on r.var 0 r.nodes 1 (λ w from to. true-node l v other w (w_le w from) (w_other w from)),
      )

  off-low : goal_value db r v id here.ordered here.fits here.up here.rise here.low here.high here.known_lit here.enough here.top other off ≤ width
  off-low =
      omega (
        arith,
        goal.is off,
        ap (λ (k : ℕ). own_of r * k) (false-lit l v other),
        ap (λ (k : ℕ). width * k) (false-node l v other v other),
        all-rise off r.var 0 r.nodes 0 (λ w from to. false-node l v other w (w_le w from)),
        all-gaps (gap off r.after count) 0 0 r.next (λ i from to. off-gap i (omega (arith, to))),
        here.covered,
      )

  -- the numbers on the way have room
  abbrev pub split_size : ℕ
  split_size =
      weight (reverse_of (guard v r)).terms + (reverse_of (guard v r)).degree + 9 * climbed 0 r.nodes + 3 * place_degree (reach_by off_of r.nodes) 0 r.next + 1
      + (weight (reverse_of (guard v r)).terms + (reverse_of (guard v r)).degree + on_size (10 + 6 * length r.next) (own_of r) 0 r.nodes + 3 * place_degree (λ j. reach_by on_of r.nodes j - own_of r) 0 r.next)

  pub guard_split : (P : ℕ → Type 0) → P v → split_size < 2 ^ 126 → Adds P db (split_line r (Push id ∷ []) (guard_width r)) (unit_clause v)
  guard_split P named small =
      let V : Assignment → ℕ = goal_value db r v id here.ordered here.fits here.up here.rise here.low here.high here.known_lit here.enough here.top other in
      let size : ℕ = weight (reverse_of (guard v r)).terms + (reverse_of (guard v r)).degree in
      let wide : width ≤ guard_width r = omega (arith, here.last) in
      let wider : climbed 0 r.nodes + 1 ≤ guard_width r = omega (arith, here.top) in
      let below : 1 ≤ guard_width r = omega arith in
      split_adds P db l v
      (size + 9 * climbed 0 r.nodes + 3 * place_degree (reach_by off_of r.nodes) 0 r.next + 1)
      (size + on_size (10 + 6 * length r.next) (own_of r) 0 r.nodes + 3 * place_degree (λ j. reach_by on_of r.nodes j - own_of r) 0 r.next)
      (if_false_ops r (Push id ∷ []) (guard_width r)) (if_true_ops r (Push id ∷ []) (guard_width r))
      (off_split db l r.order r.after count r.var r.counts (own_of r) here.ordered here.fits r.nodes r.next refl here.up here.rise here.low here.high here.known_lit here.enough (Push id ∷ []) (positive_of v) width 1 width V size (guard_width r) goal wide wider below
      (λ a. misses a r.nodes here.offs) (λ a. here.off_steps (gap a r.after count)) here.off_above here.known here.places on
      (tight_all r.var 0 (V on) width r.nodes (omega arith) here.high here.offs on-low) (true-guard l v other) (true-lit l v other) on-each)
      (on_split db l r.order r.after count r.var r.counts (own_of r) here.ordered here.fits r.nodes r.next refl here.up here.rise here.low here.high here.known_lit here.enough (Push id ∷ []) (positive_of v) width 1 width V size (guard_width r) goal wide wider below here.counted
      (λ a. here.on_steps (gap a r.after count)) here.on_above here.known here.ons off (λ w from to. false-node l v other w (w_le w from)) off-gap off-low (false-node l v other v other) (omega (arith, false-lit l v other, holds-negated off l)))
      named small
