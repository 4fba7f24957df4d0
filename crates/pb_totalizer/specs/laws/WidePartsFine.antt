-- The lines about the blocks of a part are within their limits, and short.
use Rattle.std.proofs.Common.{◌≡◌, ◌≤◌, ◌<◌, ◌+◌, ◌-◌, ◌*◌, ◌/◌, ◌%◌, ◌==◌, ◌++◌, ℕ, suc, Bool, true, false, cond, [], ◌∷◌, refl, arith, pos}
use Rattle.std.specs.Prelude.{map}
use Rattle.std.specs.List.{range_with_len}
use Rattle.pb_steps.specs.declared.op.PolOp.TheVariants.{Push, Axiom, Add, Mul, Div, Weaken}
use Rattle.pb_steps.specs.declared.step.Step.{Step}
use Rattle.pb_steps.specs.declared.step.Step.TheVariants.{Pol}
use Rattle.pb_steps.specs.Sayable.{IsId, IsVariable}
use Rattle.pb_steps.specs.StepSizes.{step_size}
use Rattle.pb_derive.proofs.Fine.{AreFine, fine_within, fine_append}
use Rattle.pb_derive.proofs.FineStages.{IsFine, fine_step, fine_one, fine_lines}
use Rattle.pb_family.specs.Fresh.{positive_of}
use Rattle.pb_tree.specs.Tree.{Tree, empty, leaf, node}
use Rattle.pb_totalizer.specs.Exact.{outputs_of}
use Rattle.pb_totalizer.specs.OutputBlocks.{block_end, block_front_line, block_front_lines, block_tail_line, block_tail_lines, block_others_line, block_others_lines, narrow_line, narrow_lines, block_lines, block_size}
use Rattle.pb_totalizer.specs.OutputRows.{nothing_line, front_lines, tail_lines}
use Rattle.pb_totalizer.specs.OutputSteps.{before, input_count}
use Rattle.pb_totalizer.specs.OutputWindows.{last_of, wide_lines, wide_size}
use Rattle.pb_totalizer.specs.laws.OutputFine.{factor, RowFits, nothing_fine, fronts_fine, tails_fine, TreeFits}
use Rattle.pb_totalizer.specs.laws.OutputParts.{some_outputs}
use Rattle.pb_totalizer.specs.laws.TotalizerLaws.{values_length}

-- what holds either way
either : (Q : Step → Type 0) (b : Bool) (s t : Step) → Q s → Q t → Q (cond {A = Step} b s t)
either Q true s t one other = one
either Q false s t one other = other

module _ (most end p row m last next : ℕ) (h : RowFits most end p row m last next) (to : next + block_size last ≤ end) where
  abbrev tails : ℕ
  tails = next + suc last

  abbrev fronts : ℕ
  fronts = tails + suc (suc last)

  abbrev behind : ℕ
  behind = fronts + suc last

  id : (i : ℕ) → 1 ≤ i → i ≤ end → IsId i
  id i from below = (from, omega (arith, below, h.high))

  var : (v : ℕ) → p ≤ v → v < p + suc last → IsVariable v
  var v from below = (omega (arith, h.from, from), omega (arith, below, h.under))

  heads_fine : AreFine most (31 + 150 * last) (block_front_lines p row m last fronts)
  heads_fine =
      fine_step most 31 (150 * last) (nothing_line p) (map (block_front_line row m fronts) (range_with_len 0 last)) (nothing_fine most end p row m last next h) (omega (arith, h.room))
      (fine_lines most 150 (block_front_line row m fronts) last (omega (arith, h.room)) (λ x within.
      let one : Step = Pol (Push (row + 2 * suc x) ∷ Push (row + 2 * x + 1) ∷ Add ∷ Div (pos m) ∷ Mul (pos (suc x)) ∷ []) in
      let other : Step = Pol (Push (fronts + x) ∷ Push (row + 2 * suc x) ∷ Push (row + 2 * x + 1) ∷ Add ∷ Div (pos m) ∷ Mul (pos (suc x)) ∷ Add ∷ []) in
      let high = id (row + 2 * suc x) (omega (arith, h.row_from)) (omega (arith, h.row_to, within)) in
      let low = id (row + 2 * x + 1) (omega arith) (omega (arith, h.row_to, within)) in
      let over = factor m h.count_from (omega (arith, h.count_to)) in
      let times = factor (suc x) (omega arith) (omega (arith, within, h.under)) in
      either (IsFine 150) (x % 32 == 0) one other ((high, (low, (tt, (over, (times, tt))))), omega arith)
      ((id (fronts + x) (omega (arith, h.next_from)) (omega (arith, to, within)), (high, (low, (tt, (over, (times, (tt, tt))))))), omega arith)))

  backs_fine : AreFine most (31 + 39 * last) (block_tail_lines p last behind)
  backs_fine =
      let nothing = nothing_fine most end p row m last next h in
      fine_step most 31 (39 * last) (nothing_line p) (map (block_tail_line p last behind) (range_with_len 0 last)) nothing (omega (arith, h.room))
      (fine_lines most 39 (block_tail_line p last behind) last (omega (arith, h.room)) (λ y within.
      let line : Step = Pol (Push (behind + y) ∷ Axiom (positive_of (p + (last - y))) ∷ Add ∷ []) in
      either (IsFine 39) ((last - y) % 32 == 0) (nothing_line p) line (nothing.0, omega (arith, nothing.1)) ((id (behind + y) (omega (arith, h.next_from)) (omega (arith, to, within)), (var (p + (last - y)) (omega arith) (omega arith), (tt, tt))), omega arith)))

  front_id : (x : ℕ) → x < suc last → (b : Bool) → IsId (cond {A = ℕ} b fronts (fronts + x))
  front_id x within true = id fronts (omega (arith, h.next_from)) (omega (arith, to))
  front_id x within false = id (fronts + x) (omega (arith, h.next_from)) (omega (arith, to, within))

  others_fine : AreFine most (39 + 46 * suc last) (block_others_lines p last fronts behind)
  others_fine =
      let first : Step = Pol (Push (behind + last) ∷ Axiom (positive_of p) ∷ Add ∷ []) in
      let f = block_others_line last fronts behind in
      fine_step most 39 (46 * suc last) first (map f (range_with_len 0 (suc last))) ((id (behind + last) (omega (arith, h.next_from)) (omega (arith, to)), (var p (omega arith) (omega arith), (tt, tt))), omega arith) (omega (arith, h.room))
      (fine_lines most 46 f (suc last) (omega (arith, h.room)) (λ x within.
      let size : step_size (f x) ≡ 46 = refl in
      ((front_id x within (x % 32 == 0), (id (behind + (last - x)) (omega (arith, h.next_from)) (omega (arith, to)), (tt, tt))), omega (arith, size))))

  narrows_fine : AreFine most (46 * suc (last / 32)) (narrow_lines last next tails)
  narrows_fine =
      let f = narrow_line last next tails in
      fine_lines most 46 f (suc (last / 32)) (omega (arith, h.room)) (λ k within.
      let size : step_size (f k) ≡ 46 = refl in
      ((id (next + 32 * k) (omega (arith, h.next_from)) (omega (arith, to, within)), (id (tails + (last - block_end last (32 * k))) (omega (arith, h.next_from)) (omega (arith, to)), (tt, tt))), omega (arith, size)))

  pub blocks_fine : AreFine most (700 * suc last) (block_lines p row m last next)
  blocks_fine =
      let wholes = front_lines p row m last next in
      let ends = tail_lines p last tails in
      let heads = block_front_lines p row m last fronts in
      let backs = block_tail_lines p last behind in
      let others = block_others_lines p last fronts behind in
      let narrows = narrow_lines last next tails in
      let a : ℕ = 31 + 150 * last in
      let b : ℕ = 31 + 39 * suc last in
      let d : ℕ = 31 + 39 * last in
      let e : ℕ = 39 + 46 * suc last in
      let g : ℕ = 46 * suc (last / 32) in
      fine_within most most (a + (b + (a + (d + (e + g))))) (700 * suc last) (block_lines p row m last next) (omega arith) (omega arith)
      (fine_append most a (b + (a + (d + (e + g)))) wholes (ends ++ (heads ++ (backs ++ (others ++ narrows)))) (fronts_fine most end p row m last next h)
      (fine_append most b (a + (d + (e + g))) ends (heads ++ (backs ++ (others ++ narrows))) (tails_fine most end p row m last next h)
      (fine_append most a (d + (e + g)) heads (backs ++ (others ++ narrows)) heads_fine
      (fine_append most d (e + g) backs (others ++ narrows) backs_fine (fine_append most e g others narrows others_fine narrows_fine)))))

-- ---- of a part

pub wide_fine : (most end n bound : ℕ) (t : Tree) (first id next : ℕ) → TreeFits most end n bound t first id → 1 ≤ next → next + wide_size bound t ≤ end → AreFine most (700 * outputs_of bound t) (wide_lines bound t first id next)
wide_fine most end n bound empty first id next h some le = absurd h.full
wide_fine most end n bound (leaf t) first id next h some le =
    let v = h.vars t refl in
    let step : Step = Pol (Axiom t.lit ∷ []) in
    let other : Step = Pol (Axiom t.lit ∷ Weaken t.lit.var ∷ []) in
    let one : IsFine 17 step = ((v, tt), omega arith) in
    let two : IsFine 31 other = ((v, (v, tt)), omega arith) in
    fine_within most most (17 + 31) (700 * 1) (step ∷ other ∷ []) (omega arith) (omega arith) (fine_step most 17 31 step (other ∷ []) one (omega (arith, h.room)) (fine_one most 31 other two (omega (arith, h.room))))
wide_fine most end n bound (node l r) first id next h some le =
    let last : ℕ = last_of bound (node l r) in
    let size : suc last ≡ outputs_of bound (node l r) = omega (arith, some_outputs bound (node l r) h.full) in
    fine_within most most (700 * suc last) (700 * outputs_of bound (node l r)) (wide_lines bound (node l r) first id next) (omega arith) (omega (arith, size))
    (blocks_fine most end (first + before bound l r) (id + 2 * before bound l r) (input_count bound l r) last next (record {
      from = omega (arith, h.from);
      under = omega (arith, h.under, size);
      row_from = omega (arith, h.id_from);
      row_to = omega (arith, h.id_to, size);
      count_from = omega (arith, some_outputs bound l h.full.0);
      count_to = omega (arith, values_length bound l, values_length bound r, h.few);
      next_from = some;
      next_to = omega (arith, le);
      high = h.high;
      room = omega (arith, h.room);
    }) le)
