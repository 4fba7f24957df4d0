-- The lines of the levels' sums and of the claims can be said, and how long they are.
use Rattle.std.proofs.Common.{◌≡◌, ◌≢◌, ◌≤◌, ◌<◌, ◌+◌, ◌-◌, ◌*◌, ◌^◌, ℕ, eqb, List, [], ◌∷◌, ◌++◌, length, refl, arith, pos, length-append}
use Rattle.std.specs.Prelude.{All, Option, None, Some}
use Rattle.std.specs.List.{range_with_len}
use Rattle.std.proofs.lemmas.Bool.{cond_both}
use Rattle.std.proofs.lemmas.List.Elements.{All-nil, All-cons, All-head, All-tail, All-append}
use Rattle.std.proofs.lemmas.List.FromFn.{length-range_with_len}
use Rattle.pb_base.specs.declared.literal.Lit.{Lit}
use Rattle.pb_norm.specs.Constraints.{Weighted, weight}
use Rattle.pb_norm.proofs.AdditionSizes.{weight-cons}
use Rattle.pb_steps.specs.declared.op.PolOp.{PolOp}
use Rattle.pb_steps.specs.declared.op.PolOp.TheVariants.{Push, Axiom, Add, Mul, Div, Weaken}
use Rattle.pb_steps.specs.declared.step.Step.{Step}
use Rattle.pb_steps.specs.declared.step.Step.TheVariants.{Pol, Del}
use Rattle.pb_steps.specs.Sayable.{IsId, IsVariable}
use Rattle.pb_steps.specs.StepSizes.{op_size}
use Rattle.pb_derive.specs.Claims.{Claim}
use Rattle.pb_derive.specs.Reifications.{reification_steps}
use Rattle.pb_derive.proofs.Fine.{AreFine, fine_within, fine_append, fine_reifications}
use Rattle.pb_derive.proofs.FineStages.{IsFine, fine_none, fine_one, fine_step, fine_deleted}
use Rattle.pb_derive.proofs.IdRanges.{each_between}
use Rattle.pb_derive.proofs.Sayable.{IsSlimReification}
use Rattle.pb_derive.proofs.SlimRows.{slim_terms}
use Rattle.pb_family.specs.Fresh.{positive_of}
use Rattle.pb_diagram.specs.declared.node.Node.{Node}
use Rattle.pb_diagram.specs.Guards.{Rung, missed_of, rises, guard, guard_width, plus_times, split_line, climb_line, own_of, last_top, rung_lines, rung_steps, windows}
use Rattle.pb_diagram.specs.GuardedSteps.{first_nodes, count_nodes, all_terms, terms_line, climbs_at, rung_of, sums_steps, spared_on, off_claims_by, off_claims, spared_off, on_claim, level_claims, all_claims}
use Rattle.pb_diagram.specs.laws.FineGuarded.{AreLimited, limited_tail, level_fits, nodes_tame, next_low}
use Rattle.pb_diagram.specs.laws.FineLines.{RungFits, split_bytes, split_fine}
use Rattle.pb_diagram.specs.laws.FineOps.{AreOps, pol_fine, ops_within, ops_none, ops_cons, ops_append, factor, div_ops, push_ops, axiom_ops, times_ops}
use Rattle.pb_diagram.specs.laws.GuardReification.{guard_each, guard_weight}
use Rattle.pb_diagram.specs.laws.GuardSplit.{IsIn}
use Rattle.pb_diagram.specs.laws.GuardedCounts.{climbs-few}
use Rattle.pb_diagram.specs.laws.LevelShape.{IsOver, some_last}
use Rattle.pb_diagram.specs.laws.LevelWorths.{AreChildren}
use Rattle.pb_diagram.specs.laws.NodesOver.{ends_within}
use Rattle.pb_diagram.specs.laws.RungFacts.{off_in, on_in, count-cons, first-count, climbed-all}

-- ---- behind the last nodes

terms_ops : (ts : List Weighted) → weight ts ≤ 2 ^ 100 → All (λ t. IsVariable t.lit.var) ts → AreOps (56 * length ts) (all_terms ts)
terms_ops [] light vars = ops_within 0 (56 * 0) [] (omega arith) ops_none
terms_ops (t ∷ ts) light vars =
    ops_within (13 + 43 + 56 * length ts) (56 * length (t ∷ ts)) (all_terms (t ∷ ts)) (omega arith)
    (ops_append (13 + 43) (56 * length ts) (plus_times t.coef (Axiom t.lit ∷ [])) (all_terms ts) (times_ops t.coef 13 (Axiom t.lit ∷ []) (omega (arith, weight-cons t ts, light)) (axiom_ops t.lit (All-head (λ (u : Weighted). IsVariable u.lit.var) t ts vars)))
    (terms_ops ts (omega (arith, weight-cons t ts, light)) (All-tail (λ (u : Weighted). IsVariable u.lit.var) t ts vars)))

terms_fine : (v : ℕ) (ts : List Weighted) → IsVariable v → weight ts ≤ 2 ^ 100 → All (λ t. IsVariable t.lit.var) ts → IsFine (31 + 56 * length ts) (terms_line v ts)
terms_fine v ts is light vars =
    let gone : op_size (Weaken v) ≡ 14 = refl in
    let fine = pol_fine (13 + (14 + 56 * length ts)) (Axiom (positive_of v) ∷ Weaken v ∷ all_terms ts)
    (ops_append 13 (14 + 56 * length ts) (Axiom (positive_of v) ∷ []) (Weaken v ∷ all_terms ts) (axiom_ops (positive_of v) is) (ops_cons 14 (56 * length ts) (Weaken v) (all_terms ts) is (omega (arith, gone)) (terms_ops ts light vars))) in
    (fine.0, omega (arith, fine.1))

-- ---- one level

rises-length : (literal : ℕ → Lit) (p low : ℕ) (ns : List Node) → length (rises literal p low ns) ≡ length ns
rises-length literal p low [] = refl
rises-length literal p low (n ∷ ns) = omega (arith, rises-length literal (p + 1) n.top ns)

climb_fine : (r : Rung) (forward unit before : ℕ) → IsId forward → IsId unit → IsId before → IsVariable r.term.lit.var → r.term.coef < 2 ^ 126 → 1 ≤ last_top r.nodes → last_top r.nodes < 2 ^ 126 → IsFine 165 (climb_line r forward unit before)
climb_fine r forward unit before one two three own coef some small =
    let add : op_size Add ≡ 2 = refl in
    let mul : op_size (Mul (pos (last_top r.nodes))) ≡ 41 = refl in
    let more : List PolOp = plus_times (r.term.coef - own_of r) (Axiom r.term.lit ∷ []) in
    let last = ops_append 20 (2 + 0) (Push before ∷ []) (Add ∷ []) (push_ops before three) (ops_cons 2 0 Add [] tt (omega (arith, add)) ops_none) in
    let tail = ops_append (13 + 43) (20 + (2 + 0)) more (Push before ∷ Add ∷ []) (times_ops (r.term.coef - own_of r) 13 (Axiom r.term.lit ∷ []) (omega (arith, coef)) (axiom_ops r.term.lit own)) last in
    let most : ℕ = 41 + (2 + (13 + 43 + (20 + (2 + 0)))) in
    let back = ops_cons 41 (2 + (13 + 43 + (20 + (2 + 0)))) (Mul (pos (last_top r.nodes))) (Add ∷ (more ++ Push before ∷ Add ∷ [])) (factor (last_top r.nodes) some small) (omega (arith, mul)) (ops_cons 2 (13 + 43 + (20 + (2 + 0))) Add (more ++ Push before ∷ Add ∷ []) tt (omega (arith, add)) tail) in
    let all = ops_append 20 (20 + most) (Push forward ∷ []) (Push unit ∷ Mul (pos (last_top r.nodes)) ∷ Add ∷ (more ++ Push before ∷ Add ∷ [])) (push_ops forward one) (ops_append 20 most (Push unit ∷ []) (Mul (pos (last_top r.nodes)) ∷ Add ∷ (more ++ Push before ∷ Add ∷ [])) (push_ops unit two) back) in
    let fine = pol_fine (20 + (20 + most)) (Push forward ∷ Push unit ∷ Mul (pos (last_top r.nodes)) ∷ Add ∷ (more ++ Push before ∷ Add ∷ [])) all in
    (fine.0, omega (arith, fine.1))

module _ (most v p limit base orders held : ℕ) (t : Weighted) (ts : List Weighted) (n : Node) (ns : List Node) (levels : List (List Node)) (h : AreLimited p limit (t ∷ ts) ((n ∷ ns) ∷ levels)) (room : 2 ^ 27 ≤ most)
    (base_from : 1 ≤ base) (base_under : base + 2 * count_nodes ((n ∷ ns) ∷ levels) < 2 ^ 63) (orders_from : 1 ≤ orders) (orders_under : orders + 2 * count_nodes ((n ∷ ns) ∷ levels) < 2 ^ 63) (held_from : 1 ≤ held) (held_under : held + 4 < 2 ^ 63)
    (v_from : 1 ≤ v) (first : v < p) (low : t.lit.var < v) where
  abbrev r : Rung
  r = rung_of t (n ∷ ns) levels p base orders

  abbrev next : List Node
  next = first_nodes levels

  abbrev len : ℕ
  len = length (n ∷ ns)

  all : count_nodes ((n ∷ ns) ∷ levels) ≡ len + count_nodes levels
  all = count-cons (n ∷ ns) levels

  few : length next ≤ count_nodes levels
  few = first-count levels

  id : (i : ℕ) → held ≤ i → i ≤ held + 4 → IsId i
  id i from to = (omega (arith, from, held_from), omega (arith, to, held_under))

  fits : RungFits r
  fits = record {
    level = level_fits p limit base orders t ts (n ∷ ns) levels h base_from base_under orders_from orders_under;
    tame = nodes_tame p limit base orders t ts (n ∷ ns) levels h base_from base_under orders_from orders_under;
    low = next_low p limit base orders t ts (n ∷ ns) levels h base_from base_under orders_from orders_under;
    var_from = h.from;
    var_under = omega (arith, h.within, all, h.under);
    counts_from = omega (arith, base_from);
    counts_under = omega (arith, base_under, all);
  }

  ends : last_top (n ∷ ns) ≤ 2 ^ 100
  ends = omega (arith, ends_within (t ∷ ts) ((n ∷ ns) ∷ levels) h.shape, h.light)

  next_ends : last_top next ≤ 2 ^ 100
  next_ends = omega (arith, ends_within ts levels h.shape.1, weight-cons t ts, h.light)

  own : IsVariable t.lit.var
  own = All-head (λ (u : Weighted). IsVariable u.lit.var) t ts h.vars

  other : v ≢ t.lit.var
  other e = omega (arith, e, low)

  guard_light : weight (guard v r).sum ≤ 3 * 2 ^ 100
  guard_light = omega (arith, guard_weight v r first other (omega (arith, low, first)) (omega arith) h.shape.0.up h.shape.0.rise, climbed-all (n ∷ ns) h.shape.0.up, climbed-all next h.shape.0.rise, ends, next_ends)

  guard_slim : IsSlimReification (guard v r)
  guard_slim = record {
    sum = slim_terms (guard v r).sum (omega (arith, guard_light)) (guard_each v r first other (omega (arith, low, first)) (omega arith) h.shape.0.up h.shape.0.rise (λ u. IsVariable u.lit.var) own
        (λ w m from to some. (omega (arith, from, h.from), omega (arith, to, few, all, h.within, h.under))) (λ w m from to some. (omega (arith, from, h.from), omega (arith, to, all, h.within, h.under))));
    var = (v_from, omega (arith, first, h.within, h.under));
    light = omega (arith, guard_light, ends);
  }

  guard_few : length (guard v r).sum ≡ 1 + length next + len
  guard_few = omega (arith, length-append (rises missed_of r.after 0 next) (rises positive_of p 0 (n ∷ ns)), rises-length missed_of r.after 0 next, rises-length positive_of p 0 (n ∷ ns))

  narrow : (len < 2 ^ 14) × (windows (n ∷ ns) ≤ 255 * len)
  narrow = All-head (λ ns. (length ns < 2 ^ 14) × (windows ns ≤ 255 * length ns)) (n ∷ ns) levels h.narrow

  next_narrow : length next < 2 ^ 14
  next_narrow = by_levels levels (All-tail (λ ns. (length ns < 2 ^ 14) × (windows ns ≤ 255 * length ns)) (n ∷ ns) levels h.narrow)
    where
      by_levels : (ls : List (List Node)) → All (λ ns. (length ns < 2 ^ 14) × (windows ns ≤ 255 * length ns)) ls → length (first_nodes ls) < 2 ^ 14
      by_levels [] k = omega arith
      by_levels (ms ∷ ls) k = (All-head (λ ns. (length ns < 2 ^ 14) × (windows ns ≤ 255 * length ns)) ms ls k).0

  pub rung_fine : AreFine most (6830 * length (n ∷ ns) + 232 * length (first_nodes levels)) (rung_steps v (rung_of t (n ∷ ns) levels p base orders) held)
  rung_fine =
      let some = some_last 0 n ns h.shape.0.up in
      let terms : ℕ = 1 + length next + len in
      let guards = fine_reifications most terms (held + 1) (guard v r ∷ []) (omega (arith, room, narrow.0, next_narrow)) (omega arith) (omega (arith, held_under)) (All-cons IsSlimReification (guard v r) [] guard_slim (All-nil IsSlimReification))
      (All-cons (λ m. length m.sum ≤ terms) (guard v r) [] (omega (arith, guard_few)) (All-nil (λ m. length m.sum ≤ terms))) in
      let width : guard_width r < 2 ^ 126 = omega (arith, ends, next_ends) in
      let split : Step = split_line r (Push (held + 2) ∷ []) (guard_width r) in
      let climb : Step = climb_line r (held + 1) (held + 3) held in
      let gone : List ℕ = range_with_len held 4 in
      let splits = split_fine r (Push (held + 2) ∷ []) 20 (guard_width r) fits (push_ops (held + 2) (id (held + 2) (omega arith) (omega arith))) (omega arith) width in
      let climbs = climb_fine r (held + 1) (held + 3) held (id (held + 1) (omega arith) (omega arith)) (id (held + 3) (omega arith) (omega arith)) (id held (omega arith) (omega arith)) own (omega (arith, weight-cons t ts, h.light)) (omega (arith, some)) (omega (arith, ends)) in
      let size = length-range_with_len held 4 in
      let dels = fine_deleted most gone (omega (arith, size)) (omega (arith, size, room)) (each_between IsId held 4 (λ i from to. id i from (omega (arith, to)))) in
      let lines = fine_append most ((238 + 106 * terms) * 1) (split_bytes r 20 + (165 + 0)) (reification_steps (held + 1) (guard v r ∷ [])) (split ∷ climb ∷ []) guards
      (fine_step most (split_bytes r 20) (165 + 0) split (climb ∷ []) splits (omega (arith, room, narrow.0, narrow.1, next_narrow)) (fine_step most 165 0 climb [] climbs (omega (arith, room)) (fine_none most))) in
      fine_within most most ((238 + 106 * terms) * 1 + (split_bytes r 20 + (165 + 0)) + (4 + 20 * length gone)) (6830 * len + 232 * length next) (rung_steps v r held) (omega arith) (omega (arith, size, narrow.1))
      (fine_append most ((238 + 106 * terms) * 1 + (split_bytes r 20 + (165 + 0))) (4 + 20 * length gone) (rung_lines v r held) (Del gone ∷ []) lines dels)

-- ---- all levels

abbrev pub sums_bytes : List (List Node) → ℕ
sums_bytes [] = 0
sums_bytes ([] ∷ levels) = 0
sums_bytes ((n ∷ ns) ∷ levels) = sums_bytes levels + (6830 * length (n ∷ ns) + 232 * length (first_nodes levels))

pub sums-few : (levels : List (List Node)) → sums_bytes levels + 232 * length (first_nodes levels) ≤ 7062 * count_nodes levels
sums-few [] = omega arith
sums-few ([] ∷ levels) = omega arith
sums-few ((n ∷ ns) ∷ levels) = omega (arith, sums-few levels, count-cons (n ∷ ns) levels)

pub sums_fine : (most v p limit base orders start : ℕ) (ts : List Weighted) (levels : List (List Node)) → AreLimited p limit ts levels → 2 ^ 27 ≤ most → 31 + 56 * length ts ≤ most → 1 ≤ base → base + 2 * count_nodes levels < 2 ^ 63 → 1 ≤ orders → orders + 2 * count_nodes levels < 2 ^ 63
    → 1 ≤ start → start + 4 * count_nodes levels < 2 ^ 63 → 1 ≤ v → v < p → All (λ t. t.lit.var < v) ts → AreFine most (sums_bytes levels + (31 + 56 * length ts)) (sums_steps v base orders p ts levels start)
sums_fine most v p limit base orders start [] [] h room long bf bu of ou nf nu vf first low =
    fine_one most (31 + 56 * 0) (terms_line v []) (terms_fine v [] (vf, omega (arith, first, h.within, h.under)) h.light h.vars) (omega (arith, long))
sums_fine most v p limit base orders start [] (ns ∷ levels) h room long bf bu of ou nf nu vf first low = absurd h.shape
sums_fine most v p limit base orders start (t ∷ ts) [] h room long bf bu of ou nf nu vf first low = absurd h.shape
sums_fine most v p limit base orders start (t ∷ ts) ([] ∷ levels) h room long bf bu of ou nf nu vf first low =
    fine_within most most (31 + 56 * length (t ∷ ts)) (0 + (31 + 56 * length (t ∷ ts))) (terms_line v (t ∷ ts) ∷ []) (omega arith) (omega arith)
    (fine_one most (31 + 56 * length (t ∷ ts)) (terms_line v (t ∷ ts)) (terms_fine v (t ∷ ts) (vf, omega (arith, first, h.within, h.under)) h.light h.vars) (omega (arith, long)))
sums_fine most v p limit base orders start (t ∷ ts) ((n ∷ ns) ∷ levels) h room long bf bu of ou nf nu vf first low =
    let all = count-cons (n ∷ ns) levels in
    let held : ℕ = climbs_at start levels in
    let bounds = climbs-few start levels in
    let q : ℕ = p + length (n ∷ ns) in
    let rest = sums_fine most v q limit base orders start ts levels (limited_tail p limit t ts (n ∷ ns) levels h) room (omega (arith, long)) bf (omega (arith, bu, all)) of (omega (arith, ou, all)) nf (omega (arith, nu, all)) vf (omega (arith, first)) (All-tail (λ (u : Weighted). u.lit.var < v) t ts low) in
    let here = rung_fine most v p limit base orders held t ts n ns levels h room bf bu of ou (omega (arith, nf, bounds.0)) (omega (arith, nu, bounds.1, all)) vf first (All-head (λ (u : Weighted). u.lit.var < v) t ts low) in
    fine_within most most (sums_bytes levels + (31 + 56 * length ts) + (6830 * length (n ∷ ns) + 232 * length (first_nodes levels))) (sums_bytes ((n ∷ ns) ∷ levels) + (31 + 56 * length (t ∷ ts))) _ (omega arith) (omega arith)
    (fine_append most (sums_bytes levels + (31 + 56 * length ts)) (6830 * length (n ∷ ns) + 232 * length (first_nodes levels)) (sums_steps v base orders q ts levels start) (rung_steps v (rung_of t (n ∷ ns) levels p base orders) held) rest here)

-- ---- claims

abbrev pub IsSmall : Claim → Type 0
IsSmall c = IsFine 93 c.step

weaken_ops : (v : ℕ) → IsVariable v → AreOps 14 (Weaken v ∷ [])
weaken_ops v is =
    let gone : op_size (Weaken v) ≡ 14 = refl in
    ops_within (14 + 0) 14 (Weaken v ∷ []) (omega arith) (ops_cons 14 0 (Weaken v) [] is (omega (arith, gone)) ops_none)

module _ (l : Lit) (q count : ℕ) (own : IsVariable l.var) (from : 1 ≤ q) (under : q + count ≤ 2 ^ 31) where
  child_var : (j : ℕ) → j < count → IsVariable (q + j)
  child_var j within = (omega (arith, from), omega (arith, within, under))

  spared_on_ops : (f t : Option ℕ) → IsIn count t → AreOps 14 (spared_on q f t)
  spared_on_ops f None ts = ops_within 0 14 [] (omega arith) ops_none
  spared_on_ops None (Some t) ts = weaken_ops (q + t) (child_var t ts)
  spared_on_ops (Some f) (Some t) ts = cond_both (eqb f t) [] (Weaken (q + t) ∷ []) (AreOps 14) (λ _. ops_within 0 14 [] (omega arith) ops_none) (λ _. weaken_ops (q + t) (child_var t ts))

  spared_off_ops : (f t : Option ℕ) → IsIn count f → AreOps 14 (spared_off q f t)
  spared_off_ops None t fs = ops_within 0 14 [] (omega arith) ops_none
  spared_off_ops (Some f) None fs = weaken_ops (q + f) (child_var f fs)
  spared_off_ops (Some f) (Some t) fs = cond_both (eqb f t) [] (Weaken (q + f) ∷ []) (AreOps 14) (λ _. ops_within 0 14 [] (omega arith) ops_none) (λ _. weaken_ops (q + f) (child_var f fs))

  off_small : (p id : ℕ) (f t : Option ℕ) → IsId id → IsIn count t → All IsSmall (off_claims_by l q p id f t)
  off_small p id None t is ts = All-nil IsSmall
  off_small p id (Some f) t is ts =
      let gone : List PolOp = spared_on q (Some f) t in
      let all = ops_append 20 (14 + (14 + 41)) (Push id ∷ []) (Weaken l.var ∷ (gone ++ Div (pos 3) ∷ [])) (push_ops id is) (ops_append 14 (14 + 41) (Weaken l.var ∷ []) (gone ++ Div (pos 3) ∷ []) (weaken_ops l.var own) (ops_append 14 41 gone (Div (pos 3) ∷ []) (spared_on_ops (Some f) t ts) (div_ops 3 (omega arith) (omega arith)))) in
      All-cons IsSmall (record { step = Pol (Push id ∷ Weaken l.var ∷ gone ++ Div (pos 3) ∷ []); clause = missed_of p ∷ positive_of (q + f) ∷ [] }) [] (pol_fine (20 + (14 + (14 + 41))) (Push id ∷ Weaken l.var ∷ gone ++ Div (pos 3) ∷ []) all) (All-nil IsSmall)

  on_small : (p id : ℕ) (n : Node) → IsId id → IsIn count n.off → IsSmall (on_claim l q p id n)
  on_small p id n is fs =
      let gone : List PolOp = spared_off q n.off n.on in
      let fine = pol_fine (20 + (14 + 41)) (Push id ∷ gone ++ Div (pos 3) ∷ []) (ops_append 20 (14 + 41) (Push id ∷ []) (gone ++ Div (pos 3) ∷ []) (push_ops id is) (ops_append 14 41 gone (Div (pos 3) ∷ []) (spared_off_ops n.off n.on fs) (div_ops 3 (omega arith) (omega arith)))) in
      (fine.0, omega (arith, fine.1))

pub level_small : (a p counts : ℕ) (l : Lit) (q : ℕ) (next ns : List Node) → IsVariable l.var → 1 ≤ q → q + length next ≤ 2 ^ 31 → 1 ≤ counts → counts + 2 * length ns < 2 ^ 63 → AreChildren (IsOver a next) ns → All IsSmall (level_claims l q p counts ns)
level_small a p counts l q next [] own from under low high over = All-nil IsSmall
level_small a p counts l q next (n ∷ ns) own from under low high over =
    let is : IsId counts = (low, omega (arith, high)) in
    All-append IsSmall (off_claims l q p counts n) (on_claim l q p counts n ∷ level_claims l q (p + 1) (counts + 2) ns) (off_small l q (length next) own from under p counts n.off n.on is (on_in a next n.top n.on over.0.on))
    (All-cons IsSmall (on_claim l q p counts n) (level_claims l q (p + 1) (counts + 2) ns) (on_small l q (length next) own from under p counts n is (off_in next n.top n.off over.0.off))
    (level_small a (p + 1) (counts + 2) l q next ns own from under (omega arith) (omega (arith, high)) over.1))

pub all_small : (p limit base : ℕ) (ts : List Weighted) (levels : List (List Node)) → AreLimited p limit ts levels → 1 ≤ base → base + 2 * count_nodes levels < 2 ^ 63 → All IsSmall (all_claims base p ts levels)
all_small p limit base [] levels h from under = All-nil IsSmall
all_small p limit base (t ∷ ts) [] h from under = All-nil IsSmall
all_small p limit base (t ∷ ts) (ns ∷ levels) h from under =
    let q : ℕ = p + length ns in
    let all = count-cons ns levels in
    let few = first-count levels in
    All-append IsSmall (level_claims t.lit q p (base + 2 * count_nodes levels) ns) (all_claims base q ts levels)
    (level_small t.coef p (base + 2 * count_nodes levels) t.lit q (first_nodes levels) ns (All-head (λ (u : Weighted). IsVariable u.lit.var) t ts h.vars) (omega (arith, h.from)) (omega (arith, h.within, all, few, h.under)) (omega (arith, from)) (omega (arith, under, all)) h.shape.0.over)
    (all_small q limit base ts levels (limited_tail p limit t ts ns levels h) from (omega (arith, under, all)))
