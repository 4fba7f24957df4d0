-- The lines of a level can be said, and are as long as its nodes and the next level's, and the paths between their children.
use Rattle.std.proofs.Common.{◌≡◌, ◌≤◌, ◌<◌, ◌+◌, ◌-◌, ◌*◌, ◌^◌, ℕ, eqb, List, [], ◌∷◌, ◌++◌, length, refl, arith, pos}
use Rattle.std.specs.Prelude.{Option, None, Some, min, max}
use Rattle.std.proofs.lemmas.Bool.{cond_both}
use Rattle.std.proofs.lemmas.List.Sums.{sum_by-cons}
use Rattle.pb_base.specs.declared.literal.Lit.{Lit}
use Rattle.pb_base.specs.Literals.{negated}
use Rattle.pb_steps.specs.declared.op.PolOp.{PolOp}
use Rattle.pb_steps.specs.declared.op.PolOp.TheVariants.{Push, Axiom, Add, Div}
use Rattle.pb_steps.specs.declared.step.Step.TheVariants.{Pol}
use Rattle.pb_steps.specs.Sayable.{IsId, IsVariable}
use Rattle.pb_steps.specs.StepSizes.{op_size}
use Rattle.pb_derive.proofs.Fine.{AreFine, fine_within}
use Rattle.pb_derive.proofs.FineStages.{IsFine, fine_none, fine_step}
use Rattle.pb_family.specs.Fresh.{positive_of}
use Rattle.pb_diagram.specs.declared.node.Node.{Node}
use Rattle.pb_diagram.specs.Guards.{Rung, missed_of, plus_times, and_literal, off_path, on_path, order_ops, order_lines, spare_on, off_ops, between, on_ops, place_ops, place_sums, off_sums, on_sums, own_of, last_place, reach_by, off_of, on_of, if_false_ops, if_true_ops, split_line, window_of, window, windows}
use Rattle.pb_diagram.specs.laws.FineOps.{AreOps, pol_fine, ops_within, ops_none, ops_cons, ops_append, literal_ops, div_ops, push_ops, axiom_ops, times_ops, plus_path_ops}
use Rattle.pb_diagram.specs.laws.GuardSplit.{IsIn}
use Rattle.pb_diagram.specs.laws.LevelShape.{IsOver}
use Rattle.pb_diagram.specs.laws.LevelWorths.{AreChildren}
use Rattle.pb_diagram.specs.laws.RungFacts.{off_in, on_in}

-- the numbers of a level's lines are within their limits
pub record LevelFits (l : Lit) (q order count : ℕ) : Type 0 where
  pub own : IsVariable l.var
  pub from : 1 ≤ q
  pub under : q + count ≤ 2 ^ 31
  pub order_from : 1 ≤ order
  pub order_under : order + count < 2 ^ 63

module _ (l : Lit) (q order count : ℕ) (h : LevelFits l q order count) where
  child_var : (j : ℕ) → j < count → IsVariable (q + j)
  child_var j within = (omega (arith, h.from), omega (arith, within, h.under))

  -- ---- orders

  off_path_ops : (f g : Option ℕ) → IsIn count f → IsIn count g → AreOps (22 * count + 56) (off_path order q f g)
  off_path_ops None g fs gs = ops_within 0 (22 * count + 56) [] (omega arith) ops_none
  off_path_ops (Some f) None fs gs = ops_within (13 + 43) (22 * count + 56) (plus_times 2 (Axiom (missed_of (q + f)) ∷ [])) (omega arith) (times_ops 2 13 (Axiom (missed_of (q + f)) ∷ []) (omega arith) (axiom_ops (missed_of (q + f)) (child_var f fs)))
  off_path_ops (Some f) (Some g) fs gs = ops_within (22 * (g - f) + 43) (22 * count + 56) (off_path order q (Some f) (Some g)) (omega (arith, gs)) (plus_path_ops 2 order f g (omega arith) h.order_from (omega (arith, fs, gs, h.order_under)))

  on_path_ops : (t u : Option ℕ) → IsIn count t → IsIn count u → AreOps (22 * count + 56) (on_path order q t u)
  on_path_ops t None ts us = ops_within 0 (22 * count + 56) [] (omega arith) ops_none
  on_path_ops None (Some u) ts us = ops_within 15 (22 * count + 56) (and_literal (positive_of (q + u))) (omega arith) (literal_ops (positive_of (q + u)) (child_var u us))
  on_path_ops (Some t) (Some u) ts us = ops_within (22 * (u - t) + 43) (22 * count + 56) (on_path order q (Some t) (Some u)) (omega (arith, us)) (plus_path_ops 1 order t u (omega arith) h.order_from (omega (arith, ts, us, h.order_under)))

  order_fine : (forward reverse : ℕ) (n m : Node) → IsId forward → IsId reverse → IsIn count n.off → IsIn count m.off → IsIn count n.on → IsIn count m.on → IsFine (44 * count + 200) (Pol (order_ops order q forward reverse n m))
  order_fine forward reverse n m one two nf mf nt mt =
      let add : op_size Add ≡ 2 = refl in
      let off : List PolOp = off_path order q n.off m.off in
      let on : List PolOp = on_path order q n.on m.on in
      let rest = ops_append (22 * count + 56) (22 * count + 56 + 41) off (on ++ Div (pos 3) ∷ []) (off_path_ops n.off m.off nf mf) (ops_append (22 * count + 56) 41 on (Div (pos 3) ∷ []) (on_path_ops n.on m.on nt mt) (div_ops 3 (omega arith) (omega arith))) in
      let all = ops_append 20 (20 + (2 + (22 * count + 56 + (22 * count + 56 + 41)))) (Push forward ∷ []) (Push reverse ∷ Add ∷ (off ++ (on ++ Div (pos 3) ∷ []))) (push_ops forward one)
      (ops_append 20 (2 + (22 * count + 56 + (22 * count + 56 + 41))) (Push reverse ∷ []) (Add ∷ (off ++ (on ++ Div (pos 3) ∷ []))) (push_ops reverse two) (ops_cons 2 (22 * count + 56 + (22 * count + 56 + 41)) Add (off ++ (on ++ Div (pos 3) ∷ [])) tt (omega (arith, add)) rest)) in
      let fine = pol_fine (20 + (20 + (2 + (22 * count + 56 + (22 * count + 56 + 41))))) (order_ops order q forward reverse n m) all in
      (fine.0, omega (arith, fine.1))

  pub orders_fine : (most counts a : ℕ) (next ns : List Node) → length next ≡ count → 44 * count + 200 ≤ most → 1 ≤ counts → counts + 2 * length ns < 2 ^ 63 → AreChildren (IsOver a next) ns → AreFine most ((44 * count + 200) * length ns) (order_lines order q counts ns)
  orders_fine most counts a next [] same room from under over = fine_within most most 0 ((44 * count + 200) * 0) [] (omega arith) (omega arith) (fine_none most)
  orders_fine most counts a next (n ∷ []) same room from under over = fine_within most most 0 ((44 * count + 200) * 1) [] (omega arith) (omega arith) (fine_none most)
  orders_fine most counts a next (n ∷ m ∷ ns) same room from under over =
      let one : ℕ = 44 * count + 200 in
      let more : one + one * length (m ∷ ns) ≡ one * length (n ∷ m ∷ ns) = omega arith in
      let in_off : (k : Node) → IsOver a next k → IsIn count k.off = λ k o. subst_in k.off (off_in next k.top k.off o.off) in
      let in_on : (k : Node) → IsOver a next k → IsIn count k.on = λ k o. subst_in k.on (on_in a next k.top k.on o.on) in
      fine_within most most (one + one * length (m ∷ ns)) (one * length (n ∷ m ∷ ns)) (order_lines order q counts (n ∷ m ∷ ns)) (omega arith) (omega (arith, more))
      (fine_step most one (one * length (m ∷ ns)) (Pol (order_ops order q counts (counts + 3) n m)) (order_lines order q (counts + 2) (m ∷ ns))
      (order_fine counts (counts + 3) n m (omega (arith, from), omega (arith, under)) (omega arith, omega (arith, under)) (in_off n over.0) (in_off m over.1.0) (in_on n over.0) (in_on m over.1.0)) room
      (orders_fine most (counts + 2) a next (m ∷ ns) same room (omega arith) (omega (arith, under)) over.1))
    where
      subst_in : (f : Option ℕ) → IsIn (length next) f → IsIn count f
      subst_in None k = tt
      subst_in (Some f) k = omega (arith, k, same)

  -- ---- a node's part of a level's sums

  spare_ops : (f t : Option ℕ) → IsIn count t → AreOps 15 (spare_on q f t)
  spare_ops f None ts = ops_within 0 15 [] (omega arith) ops_none
  spare_ops None (Some t) ts = literal_ops (positive_of (q + t)) (child_var t ts)
  spare_ops (Some f) (Some t) ts = cond_both (eqb f t) [] (and_literal (positive_of (q + t))) (AreOps 15) (λ _. ops_within 0 15 [] (omega arith) ops_none) (λ _. literal_ops (positive_of (q + t)) (child_var t ts))

  off_ops_fine : (id : ℕ) (n : Node) → IsId id → IsIn count n.on → AreOps 76 (off_ops q id n)
  off_ops_fine id n is ts =
      ops_within (20 + (15 + 41)) 76 (off_ops q id n) (omega arith)
      (ops_append 20 (15 + 41) (Push id ∷ []) (spare_on q n.off n.on ++ Div (pos 3) ∷ []) (push_ops id is) (ops_append 15 41 (spare_on q n.off n.on) (Div (pos 3) ∷ []) (spare_ops n.off n.on ts) (div_ops 3 (omega arith) (omega arith))))

  between_ops : (f t : Option ℕ) → IsIn count f → IsIn count t → AreOps (22 * window_of f t + 43) (between order f t)
  between_ops None t fs ts = ops_within 0 (22 * 0 + 43) [] (omega arith) ops_none
  between_ops (Some f) None fs ts = ops_within 0 (22 * 0 + 43) [] (omega arith) ops_none
  between_ops (Some f) (Some t) fs ts = plus_path_ops 2 order t f (omega arith) h.order_from (omega (arith, fs, ts, h.order_under))

  on_ops_fine : (id : ℕ) (n : Node) → IsId id → IsIn count n.off → IsIn count n.on → AreOps (22 * window n + 119) (on_ops l order id n)
  on_ops_fine id n is fs ts =
      let w : ℕ = 22 * window n + 43 in
      let tail : List PolOp = and_literal (negated l) ++ Div (pos 3) ∷ [] in
      ops_within (20 + (w + (15 + 41))) (22 * window n + 119) (on_ops l order id n) (omega arith)
      (ops_append 20 (w + (15 + 41)) (Push id ∷ []) (between order n.off n.on ++ tail) (push_ops id is)
      (ops_append w (15 + 41) (between order n.off n.on) tail (between_ops n.off n.on fs ts) (ops_append 15 41 (and_literal (negated l)) (Div (pos 3) ∷ []) (literal_ops (negated l) h.own) (div_ops 3 (omega arith) (omega arith)))))

  -- nodes whose children are among the next level's and whose ends are not too high
  abbrev pub Tame : Node → Type 0
  Tame n = (IsIn count n.off × IsIn count n.on) × (n.top ≤ 2 ^ 100)

  off_sums_ops : (counts low : ℕ) (ns : List Node) → 1 ≤ counts → counts + 2 * length ns < 2 ^ 63 → AreChildren Tame ns → AreOps (119 * length ns) (off_sums q counts low ns)
  off_sums_ops counts low [] from under tame = ops_within 0 (119 * 0) [] (omega arith) ops_none
  off_sums_ops counts low (n ∷ ns) from under tame =
      ops_within (76 + 43 + 119 * length ns) (119 * length (n ∷ ns)) (off_sums q counts low (n ∷ ns)) (omega arith)
      (ops_append (76 + 43) (119 * length ns) (plus_times (n.top - low) (off_ops q (counts + 1) n)) (off_sums q (counts + 2) n.top ns)
      (times_ops (n.top - low) 76 (off_ops q (counts + 1) n) (omega (arith, tame.0.1)) (off_ops_fine (counts + 1) n (omega arith, omega (arith, under)) tame.0.0.1))
      (off_sums_ops (counts + 2) n.top ns (omega arith) (omega (arith, under)) tame.1))

  on_sums_ops : (own var counts low : ℕ) (ns : List Node) → 1 ≤ var → var + length ns ≤ 2 ^ 31 → 1 ≤ counts → counts + 2 * length ns < 2 ^ 63 → AreChildren Tame ns → AreOps (218 * length ns + 22 * windows ns) (on_sums l order own var counts low ns)
  on_sums_ops own var counts low [] first last from under tame = ops_within 0 (218 * 0 + 22 * windows []) [] (omega arith) ops_none
  on_sums_ops own var counts low (n ∷ ns) first last from under tame =
      let one : List PolOp = plus_times (min n.top own - low) (Axiom (positive_of var) ∷ []) in
      let two : List PolOp = plus_times (n.top - max own low) (on_ops l order (counts + 1) n) in
      let rest : List PolOp = on_sums l order own (var + 1) (counts + 2) n.top ns in
      ops_within (13 + 43 + (22 * window n + 119 + 43 + (218 * length ns + 22 * windows ns))) (218 * length (n ∷ ns) + 22 * windows (n ∷ ns)) (on_sums l order own var counts low (n ∷ ns)) (omega (arith, sum_by-cons window n ns))
      (ops_append (13 + 43) (22 * window n + 119 + 43 + (218 * length ns + 22 * windows ns)) one (two ++ rest)
      (times_ops (min n.top own - low) 13 (Axiom (positive_of var) ∷ []) (omega (arith, tame.0.1)) (axiom_ops (positive_of var) (first, omega (arith, last))))
      (ops_append (22 * window n + 119 + 43) (218 * length ns + 22 * windows ns) two rest
      (times_ops (n.top - max own low) (22 * window n + 119) (on_ops l order (counts + 1) n) (omega (arith, tame.0.1)) (on_ops_fine (counts + 1) n (omega arith, omega (arith, under)) tame.0.0.0 tame.0.0.1))
      (on_sums_ops own (var + 1) (counts + 2) n.top ns (omega arith) (omega (arith, last)) (omega arith) (omega (arith, under)) tame.1)))

  place_sums_ops : (reach : ℕ → ℕ) (last j : ℕ) (ns : List Node) → j + length ns ≤ count → AreChildren (λ n. n.top ≤ 2 ^ 100) ns → AreOps (63 * length ns) (place_sums reach order q last j ns)
  place_sums_ops reach last j [] within low = ops_within 0 (63 * 0) [] (omega arith) ops_none
  place_sums_ops reach last j (n ∷ ns) within low =
      let item : List PolOp = place_ops order q last j in
      let here : AreOps 20 item = cond_both (eqb j last) (Axiom (missed_of (q + j)) ∷ []) (Push (order + j) ∷ []) (AreOps 20) (λ _. ops_within 13 20 (Axiom (missed_of (q + j)) ∷ []) (omega arith) (axiom_ops (missed_of (q + j)) (child_var j (omega (arith, within)))))
      (λ _. push_ops (order + j) (omega (arith, h.order_from), omega (arith, within, h.order_under))) in
      ops_within (20 + 43 + 63 * length ns) (63 * length (n ∷ ns)) (place_sums reach order q last j (n ∷ ns)) (omega arith)
      (ops_append (20 + 43) (63 * length ns) (plus_times (n.top - reach j) item) (place_sums reach order q last (j + 1) ns) (times_ops (n.top - reach j) 20 item (omega (arith, low.0)) here) (place_sums_ops reach last (j + 1) ns (omega (arith, within)) low.1))

-- ---- a level's long line

pub record RungFits (r : Rung) : Type 0 where
  pub level : LevelFits r.term.lit r.after r.order (length r.next)
  pub tame : AreChildren (Tame r.term.lit r.after r.order (length r.next) level) r.nodes
  pub low : AreChildren (λ n. n.top ≤ 2 ^ 100) r.next
  pub var_from : 1 ≤ r.var
  pub var_under : r.var + length r.nodes ≤ 2 ^ 31
  pub counts_from : 1 ≤ r.counts
  pub counts_under : r.counts + 2 * length r.nodes < 2 ^ 63

abbrev pub split_bytes : Rung → ℕ → ℕ
split_bytes r goal = 144 + 2 * goal + 337 * length r.nodes + 22 * windows r.nodes + 126 * length r.next

pub split_fine : (r : Rung) (goal : List PolOp) (size widest : ℕ) → RungFits r → AreOps size goal → 1 ≤ widest → widest < 2 ^ 126 → IsFine (split_bytes r size) (split_line r goal widest)
split_fine r goal size widest h g some small =
    let l : Lit = r.term.lit in
    let q : ℕ = r.after in
    let count : ℕ = length r.next in
    let offs : List PolOp = off_sums q r.counts 0 r.nodes in
    let places : List PolOp = place_sums (reach_by off_of r.nodes) r.order q (last_place r) 0 r.next in
    let end : List PolOp = and_literal l ++ Div (pos widest) ∷ [] in
    let first = ops_append size (119 * length r.nodes + (63 * count + (15 + 41))) goal (offs ++ (places ++ end)) g
    (ops_append (119 * length r.nodes) (63 * count + (15 + 41)) offs (places ++ end) (off_sums_ops l q r.order count h.level r.counts 0 r.nodes h.counts_from h.counts_under h.tame)
    (ops_append (63 * count) (15 + 41) places end (place_sums_ops l q r.order count h.level (reach_by off_of r.nodes) (last_place r) 0 r.next (omega arith) h.low)
    (ops_append 15 41 (and_literal l) (Div (pos widest) ∷ []) (literal_ops l h.level.own) (div_ops widest some small)))) in
    let ons : List PolOp = on_sums l r.order (own_of r) r.var r.counts 0 r.nodes in
    let more : List PolOp = place_sums (λ j. reach_by on_of r.nodes j - own_of r) r.order q (last_place r) 0 r.next in
    let second = ops_append size (218 * length r.nodes + 22 * windows r.nodes + (63 * count + 41)) goal (ons ++ (more ++ Div (pos widest) ∷ [])) g
    (ops_append (218 * length r.nodes + 22 * windows r.nodes) (63 * count + 41) ons (more ++ Div (pos widest) ∷ []) (on_sums_ops l q r.order count h.level (own_of r) r.var r.counts 0 r.nodes h.var_from h.var_under h.counts_from h.counts_under h.tame)
    (ops_append (63 * count) 41 more (Div (pos widest) ∷ []) (place_sums_ops l q r.order count h.level (λ j. reach_by on_of r.nodes j - own_of r) (last_place r) 0 r.next (omega arith) h.low) (div_ops widest some small))) in
    let add : op_size Add ≡ 2 = refl in
    let last = ops_cons 2 41 Add (Div (pos 2) ∷ []) tt (omega (arith, add)) (div_ops 2 (omega arith) (omega arith)) in
    let a : ℕ = size + (119 * length r.nodes + (63 * count + (15 + 41))) in
    let b : ℕ = size + (218 * length r.nodes + 22 * windows r.nodes + (63 * count + 41)) in
    let whole = ops_append a (b + (2 + 41)) (if_false_ops r goal widest) (if_true_ops r goal widest ++ Add ∷ Div (pos 2) ∷ []) first (ops_append b (2 + 41) (if_true_ops r goal widest) (Add ∷ Div (pos 2) ∷ []) second last) in
    let fine = pol_fine (a + (b + (2 + 41))) (if_false_ops r goal widest ++ (if_true_ops r goal widest ++ Add ∷ Div (pos 2) ∷ [])) whole in
    (fine.0, omega (arith, fine.1))
