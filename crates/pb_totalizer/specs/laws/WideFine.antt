-- The lines for the clauses of a node, by blocks of the outputs of its parts, are within their limits, and short.
use Rattle.std.proofs.Common.{◌≡◌, ◌≤◌, ◌<◌, ◌+◌, ◌-◌, ◌*◌, ◌/◌, ◌%◌, ◌++◌, ℕ, zero, suc, List, [], length, refl, ap, ◌∙◌, arith, length-append}
use Rattle.std.specs.Prelude.{All, count_by}
use Rattle.std.specs.List.{range_with_len}
use Rattle.std.proofs.lemmas.List.{length-map}
use Rattle.std.proofs.lemmas.List.Elements.{All-map, All-weaker}
use Rattle.std.proofs.lemmas.List.FromFn.{length-range_with_len, length-map-range_with_len}
use Rattle.std.proofs.lemmas.List.Sums.{count_by-le-length}
use Rattle.pb_steps.specs.declared.step.Step.TheVariants.{Del}
use Rattle.pb_steps.specs.Sayable.{IsId, IsSayable}
use Rattle.pb_steps.specs.StepSizes.{step_size}
use Rattle.pb_steps.specs.Steps.{takes_id}
use Rattle.pb_derive.specs.Claims.{Claim, claim_steps}
use Rattle.pb_derive.specs.Deletions.{deletion_steps}
use Rattle.pb_derive.proofs.Fine.{AreFine, fine_within, fine_append, fine_claims}
use Rattle.pb_derive.proofs.FineStages.{IsFine, fine_none, fine_lines, fine_deleted}
use Rattle.pb_derive.proofs.IdRanges.{each_between}
use Rattle.pb_tree.specs.Pairs.{Pair}
use Rattle.pb_tree.specs.Scheme.{fresh_of, own_of, own_count_of}
use Rattle.pb_tree.specs.Tree.{Tree, empty, leaf, node}
use Rattle.pb_tree.proofs.Extending.{all_from_each}
use Rattle.pb_tree.proofs.PairCounts.{count-append, count-cons}
use Rattle.pb_totalizer.specs.Exact.{outputs_of}
use Rattle.pb_totalizer.specs.Totalizer.{totalizer}
use Rattle.pb_totalizer.specs.OutputSteps.{input_count}
use Rattle.pb_totalizer.specs.OutputWindows.{last_of, blocks_of, wide_lines, wide_size, wide_others, wide_narrows, block_with, window_sum, window_line, window_lines, window_count, first_number, number_count, block_pairs, wide_claim, block_claims, block_steps, blocks_steps, wide_node_steps}
use Rattle.pb_totalizer.specs.laws.NodeForms.{wide_lines_of}
use Rattle.pb_totalizer.specs.laws.OutputFine.{factor, TreeFits, left_fits, right_fits, claims-ids, own-count}
use Rattle.pb_totalizer.specs.laws.OutputParts.{IsFull, some_outputs}
use Rattle.pb_totalizer.specs.laws.TotalizerLaws.{values_length, values_count}
use Rattle.pb_totalizer.specs.laws.WideBlocks.{IsBlockPair, block_pair, pairs_from, all-blocks}
use Rattle.pb_totalizer.specs.laws.WideCounts.{wide-lines-count, wide-size-few, own-pairs, own-many, windows-all}
use Rattle.pb_totalizer.specs.laws.WidePartsFine.{wide_fine}

-- ---- how many ids

module _ (bound : ℕ) (l r : Tree) (first id next other : ℕ) where
  abbrev here : ℕ → List Pair
  here k = block_pairs (bound + 1) (outputs_of bound r) (first_number k) (number_count (last_of bound l) k)

  abbrev from_block : ℕ → ℕ → List Pair
  from_block k n = pairs_from (bound + 1) (outputs_of bound r) (last_of bound l) k n

  pub block-ids : (k at : ℕ) → count_by takes_id (block_steps bound l r first id next other k at) ≤ window_count bound r + length (block_pairs (bound + 1) (outputs_of bound r) (first_number k) (number_count (last_of bound l) k))
  block-ids k at =
      let windows = window_lines bound l r id next other k in
      let count : ℕ = window_count bound r in
      let claims = block_claims bound l r first next other at k in
      omega (
        arith,
        count-append takes_id windows (claim_steps (at + count) claims ++ deletion_steps count at 1),
        count_by-le-length takes_id windows,
        length-map-range_with_len (window_line bound l r id next other k) 0 count,
        count-append takes_id (claim_steps (at + count) claims) (deletion_steps count at 1),
        claims-ids (at + count) claims,
        length-map (here k) (wide_claim bound l r first next other at k (input_count bound l r)),
        count-cons takes_id (Del (range_with_len at count)) [],
      )

  pub blocks-ids : (k n at : ℕ) → count_by takes_id (blocks_steps bound l r first id next other k n at) ≤ n * window_count bound r + length (pairs_from (bound + 1) (outputs_of bound r) (last_of bound l) k n)
  blocks-ids k zero at = omega arith
  blocks-ids k (suc n) at =
      let count : ℕ = window_count bound r in
      let one = block_steps bound l r first id next other k at in
      let after : ℕ = at + count_by takes_id one in
      let more : suc n * count ≡ n * count + count = omega arith in
      omega (
        arith,
        more,
        count-append takes_id one (blocks_steps bound l r first id next other (suc k) n after),
        block-ids k at,
        blocks-ids (suc k) n after,
        length-append (here k) (from_block (suc k) n),
      )

pub wide-ids : (bound : ℕ) (l r : Tree) (first id next : ℕ) → 1 ≤ outputs_of bound l → count_by takes_id (wide_node_steps bound l r first id next) ≤ wide_lines_of bound l r + own_count_of (totalizer bound) l r
wide-ids bound l r first id next some =
    let middle : ℕ = first + fresh_of (totalizer bound) l in
    let right_id : ℕ = id + 2 * fresh_of (totalizer bound) l in
    let other : ℕ = next + wide_size bound l in
    let size : ℕ = wide_size bound l + wide_size bound r in
    let lefts = wide_lines bound l first id next in
    let rights = wide_lines bound r middle right_id other in
    let blocks = blocks_steps bound l r first id next other 0 (blocks_of bound l) (next + size) in
    omega (
      arith,
      count-append takes_id (lefts ++ rights) (blocks ++ deletion_steps size next 1),
      count_by-le-length takes_id (lefts ++ rights),
      length-append lefts rights,
      wide-lines-count bound l first id next,
      wide-lines-count bound r middle right_id other,
      count-append takes_id blocks (deletion_steps size next 1),
      blocks-ids bound l r first id next other 0 (blocks_of bound l) (next + size),
      ap (λ (ps : List Pair). length ps) (all-blocks bound l r some),
      own-pairs bound l r first,
      own-count bound l r first,
      count-cons takes_id (Del (range_with_len next size)) [],
    )

-- ---- where the lines about a part stand

others_below : (bound : ℕ) (t : Tree) (at i : ℕ) → IsFull t → i ≤ outputs_of bound t → 1 ≤ at → (1 ≤ wide_others bound t at + i) × (wide_others bound t at + i < at + wide_size bound t)
others_below bound empty at i full within low = absurd full
others_below bound (leaf t) at i full within low = (omega (arith, low), omega (arith, within))
others_below bound (node a b) at i full within low = (omega (arith, low), omega (arith, within, some_outputs bound (node a b) full))

narrows_below : (bound : ℕ) (t : Tree) (at k : ℕ) → IsFull t → k < blocks_of bound t → 1 ≤ at → (1 ≤ wide_narrows bound t at + k) × (wide_narrows bound t at + k < at + wide_size bound t)
narrows_below bound empty at k full within low = absurd full
narrows_below bound (leaf t) at k full within low = (omega (arith, low), omega (arith, within))
narrows_below bound (node a b) at k full within low = (omega (arith, low), omega (arith, within, some_outputs bound (node a b) full))

-- how many there are
size_fits : (bound : ℕ) (t : Tree) → IsFull t → (1 ≤ wide_size bound t) × (32 * wide_size bound t ≤ 161 * outputs_of bound t + 96)
size_fits bound empty full = absurd full
size_fits bound (leaf t) full = (omega arith, omega arith)
size_fits bound (node l r) full = (omega arith, omega (arith, some_outputs bound (node l r) full))

-- ---- a node

module _ (most end n bound : ℕ) (l r : Tree) (first id next : ℕ) (h : TreeFits most end n bound (node l r) first id) (some : 1 ≤ next) (large : 32 < outputs_of bound l) (wide : 32 < outputs_of bound r) where
  abbrev middle : ℕ
  middle = first + fresh_of (totalizer bound) l

  abbrev right_id : ℕ
  right_id = id + 2 * fresh_of (totalizer bound) l

  abbrev size : ℕ
  size = wide_size bound l + wide_size bound r

  abbrev other : ℕ
  other = next + wide_size bound l

  abbrev count : ℕ
  count = window_count bound r

  abbrev pairs : ℕ → List Pair
  pairs k = block_pairs (bound + 1) (outputs_of bound r) (first_number k) (number_count (last_of bound l) k)

  leaves : outputs_of bound l + outputs_of bound r ≤ n
  leaves = omega (arith, values_count bound l, values_count bound r, h.leaves)

  gone_fine : (at k : ℕ) → 1 ≤ at → at + k ≤ end → 1 ≤ k → 20 * k ≤ 104 * n + 196 → AreFine most (4 + 20 * k) (deletion_steps k at 1)
  gone_fine at k from to least fits =
      let number = length-range_with_len at k in
      fine_within most most (4 + 20 * length (range_with_len at k)) (4 + 20 * k) (deletion_steps k at 1) (omega arith) (omega (arith, number))
      (fine_deleted most (range_with_len at k) (omega (arith, number, least)) (omega (arith, number, fits, h.room)) (each_between IsId at k (λ i low high. (omega (arith, from, low), omega (arith, to, high, h.high)))))

  module _ (room : next + (wide_size bound l + wide_size bound r) ≤ end) where
    window_fine : (k x : ℕ) → k < blocks_of bound l → x < window_count bound r → IsFine 68 (window_line bound l r id next other k x)
    window_fine k x within less =
        let one = narrows_below bound l next k h.full.0 within some in
        let two = narrows_below bound r other (x / 65) h.full.1 (omega (arith, less)) (omega (arith, some)) in
        let s : ℕ = window_sum bound l r k (x / 65) (x % 65) in
        let reach : s ≤ outputs_of bound (node l r) = omega (arith, some_outputs bound (node l r) h.full) in
        let size : step_size (window_line bound l r id next other k x) ≡ 68 = refl in
        (((omega arith, omega (arith, h.id_to, h.high, reach)), ((one.0, omega (arith, one.1, room, h.high)), (tt, ((two.0, omega (arith, two.1, room, h.high)), (tt, tt))))), omega (arith, size))

    claim_fine : (k at : ℕ) (u : Pair) → IsBlockPair bound l r k u → 1 ≤ at → at + count ≤ end → IsFine 109 (wide_claim bound l r first next other at k (input_count bound l r) u).step
    claim_fine k at u is from to =
        let one = others_below bound l next u.left h.full.0 is.left some in
        let two = others_below bound r other u.right h.full.1 is.right (omega (arith, some)) in
        let small : u.left + u.right - 32 * k - 32 * block_with u.right ≤ 64 = omega (arith, is.block) in
        let block : block_with u.right < blocks_of bound r = omega (arith, is.right, some_outputs bound r h.full.1) in
        let size : step_size (wide_claim bound l r first next other at k (input_count bound l r) u).step ≡ 109 = refl in (
          (
            (omega (arith, from), omega (arith, small, block, to, h.high)),
            (
              (one.0, omega (arith, one.1, room, h.high)),
              (tt, ((two.0, omega (arith, two.1, room, h.high)), (tt, (factor (input_count bound l r) (omega (arith, large)) (omega (arith, values_length bound l, values_length bound r, h.few)), tt)))),
            ),
          ),
          omega (arith, size),
        )

    -- a block's windows, clauses, and what goes
    block_fine : (k at : ℕ) → k < blocks_of bound l → 1 ≤ at → at + count + length (pairs k) ≤ end → AreFine most (88 * count + 4 + 133 * length (pairs k)) (block_steps bound l r first id next other k at)
    block_fine k at within from to =
        let windows = window_lines bound l r id next other k in
        let claim = wide_claim bound l r first next other at k (input_count bound l r) in
        let claims = block_claims bound l r first next other at k in
        let number : length claims ≡ length (pairs k) = length-map (pairs k) claim in
        let each : All (λ c. IsFine 109 c.step) claims =
        All-map (λ (c : Claim). IsFine 109 c.step) claim (pairs k)
        (all_from_each (λ (u : Pair). IsFine 109 (claim u).step) (pairs k) (λ u listed. claim_fine k at u (block_pair bound l r k u h.full.0 within listed) from (omega (arith, to)))) in
        let lines = fine_lines most 68 (window_line bound l r id next other k) count (omega (arith, h.room)) (λ x less. window_fine k x within less) in
        let clauses = fine_claims most 109 (at + count) claims (omega (arith, h.room)) (omega (arith, h.room)) (omega (arith, from)) (omega (arith, number, to, h.high))
        (All-weaker (λ (c : Claim). IsFine 109 c.step) (λ (c : Claim). IsSayable c.step) (λ c k. k.0) claims each) (All-weaker (λ (c : Claim). IsFine 109 c.step) (λ (c : Claim). step_size c.step ≤ 109) (λ c k. k.1) claims each) in
        let gone = gone_fine at count from (omega (arith, to)) (omega arith) (omega (arith, leaves, large, wide)) in
        fine_within most most (68 * count + ((109 + 24) * length claims + (4 + 20 * count))) (88 * count + 4 + 133 * length (pairs k)) (block_steps bound l r first id next other k at) (omega arith) (omega (arith, number))
        (fine_append most (68 * count) ((109 + 24) * length claims + (4 + 20 * count)) windows (claim_steps (at + count) claims ++ deletion_steps count at 1) lines
        (fine_append most ((109 + 24) * length claims) (4 + 20 * count) (claim_steps (at + count) claims) (deletion_steps count at 1) clauses gone))

    blocks_fine : (k m at : ℕ) → k + m ≤ blocks_of bound l → 1 ≤ at → at + m * count + length (pairs_from (bound + 1) (outputs_of bound r) (last_of bound l) k m) ≤ end
        → AreFine most (88 * (m * count) + 4 * m + 133 * length (pairs_from (bound + 1) (outputs_of bound r) (last_of bound l) k m)) (blocks_steps bound l r first id next other k m at)
    blocks_fine k zero at le from to = fine_within most most 0 (88 * (0 * count) + 4 * 0 + 133 * 0) [] (omega arith) (omega arith) (fine_none most)
    blocks_fine k (suc m) at le from to =
        let rest = pairs_from (bound + 1) (outputs_of bound r) (last_of bound l) (suc k) m in
        let one = block_steps bound l r first id next other k at in
        let after : ℕ = at + count_by takes_id one in
        let used = block-ids bound l r first id next other k at in
        let both = length-append (pairs k) rest in
        let more : suc m * count ≡ m * count + count = omega arith in
        fine_within most most (88 * count + 4 + 133 * length (pairs k) + (88 * (m * count) + 4 * m + 133 * length rest)) (88 * (suc m * count) + 4 * suc m + 133 * length (pairs k ++ rest)) (blocks_steps bound l r first id next other k (suc m) at) (omega arith) (omega (arith, both, more))
        (fine_append most (88 * count + 4 + 133 * length (pairs k)) (88 * (m * count) + 4 * m + 133 * length rest) one (blocks_steps bound l r first id next other (suc k) m after) (block_fine k at (omega (arith, le)) from (omega (arith, to, both, more)))
        (blocks_fine (suc k) m after (omega (arith, le)) (omega (arith, from)) (omega (arith, to, used, both, more))))

  pub wide_node_fine : next + (wide_lines_of bound l r + own_count_of (totalizer bound) l r) ≤ end → AreFine most (1024 * length (own_of (totalizer bound) l r first)) (wide_node_steps bound l r first id next)
  wide_node_fine to =
      let a : ℕ = outputs_of bound l in
      let b : ℕ = outputs_of bound r in
      let c : ℕ = length (own_of (totalizer bound) l r first) in
      let m : ℕ = blocks_of bound l in
      let all = pairs_from (bound + 1) (outputs_of bound r) (last_of bound l) 0 m in
      let lefts = wide_lines bound l first id next in
      let rights = wide_lines bound r middle right_id other in
      let blocks = blocks_steps bound l r first id next other 0 m (next + size) in
      let number : length all ≡ c = ap (λ (ps : List Pair). length ps) (all-blocks bound l r (omega (arith, large))) ∙ own-pairs bound l r first in
      let own = own-count bound l r first in
      let many = own-many bound l r first large wide in
      let windows = windows-all bound l r in
      let left_few = wide-size-few bound l h.full.0 large in
      let right_few = wide-size-few bound r h.full.1 wide in
      let body : ℕ = 88 * (m * count) + 4 * m + 133 * length all in
      let left_size = size_fits bound l h.full.0 in
      let right_size = size_fits bound r h.full.1 in
      let gone = gone_fine next size some (omega (arith, to)) (omega (arith, left_size.0)) (omega (arith, left_size.1, right_size.1, leaves)) in
      let inner = blocks_fine (omega (arith, to)) 0 m (next + size) (omega arith) (omega (arith, some)) (omega (arith, to, number, own)) in
      fine_within most most (700 * a + 700 * b + (body + (4 + 20 * size))) (1024 * c) (wide_node_steps bound l r first id next) (omega arith)
      (omega (arith, number, windows, many.blocks, many.rows, many.outputs, many.some, left_few, right_few))
      (fine_append most (700 * a + 700 * b) (body + (4 + 20 * size)) (lefts ++ rights) (blocks ++ deletion_steps size next 1)
      (fine_append most (700 * a) (700 * b) lefts rights (wide_fine most end n bound l first id next (left_fits most end n bound l r first id h) some (omega (arith, to))) (wide_fine most end n bound r middle right_id other (right_fits most end n bound l r first id h) (omega (arith, some)) (omega (arith, to))))
      (fine_append most body (4 + 20 * size) blocks (deletion_steps size next 1) inner gone))
