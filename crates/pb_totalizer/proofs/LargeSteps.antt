-- The steps of a large node, as the code has them, are those of the derivation.
use Rattle.std.proofs.Common.{◌≡◌, ◌≤◌, ◌+◌, ◌-◌, ◌*◌, ◌∙◌, ◌++◌, ℕ, zero, suc, List, length, map, refl, sym, ap, arith, length-append}
use Rattle.std.specs.Prelude.{count_by}
use Rattle.std.specs.List.{flat_map, range_with_len}
use Rattle.std.proofs.lemmas.List.{length-map}
use Rattle.std.proofs.lemmas.List.Concat.{flat_map-cons}
use Rattle.pb_steps.specs.Steps.{takes_id}
use Rattle.pb_derive.specs.Claims.{Claim, claim_steps}
use Rattle.pb_derive.specs.Deletions.{deletion_steps}
use Rattle.pb_tree.specs.Pairs.{Pair}
use Rattle.pb_tree.specs.Scheme.{own_count_of}
use Rattle.pb_tree.specs.Tree.{Tree, node}
use Rattle.pb_totalizer.specs.Exact.{outputs_of}
use Rattle.pb_totalizer.specs.OutputSteps.{before, input_count}
use Rattle.pb_totalizer.specs.OutputWindows.{last_of, blocks_of, wide_size, wide_others, wide_narrows, window_lines, window_count, first_number, number_count, block_pairs, wide_claim, block_claims, block_steps, blocks_steps, wide_node_steps}
use Rattle.pb_totalizer.specs.Totalizer.{partners, totalizer}
use Rattle.pb_totalizer.specs.declared.joint.Joint.{Joint}
use Rattle.pb_totalizer.specs.inner.Joints.{large_at, large_steps, large_ids}
use Rattle.pb_totalizer.specs.inner.Sides.{side_count, side_wide_size}
use Rattle.pb_totalizer.specs.inner.Windows.{Large, last_block, claim_in, row_in, claims_in, block_in, blocks_in, claim_count, blocks_ids}
use Rattle.pb_totalizer.specs.laws.NodeForms.{wide_lines_of}
use Rattle.pb_totalizer.specs.laws.OutputFine.{own-count}
use Rattle.pb_totalizer.specs.laws.PairRows.{rows_by_pairs}
use Rattle.pb_totalizer.specs.laws.WideBlocks.{pairs_from, all-blocks}
use Rattle.pb_totalizer.specs.laws.WideCounts.{own-pairs}
use Rattle.pb_totalizer.proofs.ClaimRows.{claims_same}
use Rattle.pb_totalizer.proofs.SidesOf.{IsJoint, joint_outputs, joint_inputs}

-- ---- the claims of a block by its pairs

flat-shift : {X : Type 0} (f : ℕ → List X) (a k n : ℕ) → flat_map (λ i. f (a + i)) (range_with_len k n) ≡ flat_map f (range_with_len (a + k) n)
flat-shift f a k zero = refl
flat-shift f a k (suc n) =
    flat_map-cons (λ i. f (a + i)) k (range_with_len (k + 1) n)
    ∙ ap (λ xs. f (a + k) ++ xs) (flat-shift f a (k + 1) n ∙ ap (λ (b : ℕ). flat_map f (range_with_len b n)) (let e : a + (k + 1) ≡ a + k + 1 = omega arith in e))
    ∙ sym (flat_map-cons f (a + k) (range_with_len (a + k + 1) n))

abbrev claim_of_pair : Large → ℕ → ℕ → Pair → Claim
claim_of_pair w windows k p = claim_in w windows k p.left p.right

pub claims_pairs : (w : Large) (windows k : ℕ) → claims_in w windows k ≡ map (λ p. claim_in w windows k p.left p.right) (block_pairs w.cap w.right (first_number k) (number_count (w.left - 1) k))
claims_pairs w windows k =
    let first : ℕ = first_number k in
    let count : ℕ = number_count (w.left - 1) k in
    flat-shift (row_in w windows k) first 0 count
    ∙ ap (λ (a : ℕ). flat_map (row_in w windows k) (range_with_len a count)) (let e : first + 0 ≡ first = omega arith in e)
    ∙ rows_by_pairs (claim_in w windows k) (claim_of_pair w windows k) (partners w.cap w.right) (range_with_len first count) (λ i j h. refl)

pub claims_counted : (w : Large) (windows k : ℕ) → length (claims_in w windows k) ≡ claim_count w.cap w.left w.right k
claims_counted w windows k = ap length (claims_pairs w windows k) ∙ length-map (block_pairs w.cap w.right (first_number k) (number_count (w.left - 1) k)) (claim_of_pair w windows k)

-- ---- along the blocks of a tree's node

module _ (bound : ℕ) (l r : Tree) (first id next other : ℕ) where
  abbrev w : Large
  w = record {
    row = id + 2 * before bound l r;
    inputs = input_count bound l r;
    left = outputs_of bound l;
    right = outputs_of bound r;
    own = outputs_of bound (node l r);
    cap = bound + 1;
    left_narrows = wide_narrows bound l next;
    right_narrows = wide_narrows bound r other;
    left_others = wide_others bound l next;
    right_others = wide_others bound r other;
  }

  claims_as : (windows k at : ℕ) → claim_steps at (claims_in w windows k) ≡ claim_steps at (block_claims bound l r first next other windows k)
  claims_as windows k at =
      let ps = block_pairs (bound + 1) (outputs_of bound r) (first_number k) (number_count (last_of bound l) k) in
      ap (claim_steps at) (claims_pairs w windows k) ∙ claims_same (claim_of_pair w windows k) (wide_claim bound l r first next other windows k (input_count bound l r)) (λ p. refl) at ps

  block_as : (k at : ℕ) → block_in w k at ≡ block_steps bound l r first id next other k at
  block_as k at = λ i. window_lines bound l r id next other k ++ (claims_as at k (at + window_count bound r) i ++ deletion_steps (window_count bound r) at 1)

  blocks_as : (k n at : ℕ) → blocks_in w k n at ≡ blocks_steps bound l r first id next other k n at
  blocks_as k zero at = refl
  blocks_as k (suc n) at = λ i.
      let one = block_as k at i in
      one ++ blocks_as (suc k) n (at + count_by takes_id one) i

  blocks_counted : (k n : ℕ) → blocks_ids (bound + 1) (outputs_of bound l) (outputs_of bound r) k n ≡ n * window_count bound r + length (pairs_from (bound + 1) (outputs_of bound r) (last_of bound l) k n)
  blocks_counted k zero = omega arith
  blocks_counted k (suc n) =
      let here = block_pairs (bound + 1) (outputs_of bound r) (first_number k) (number_count (last_of bound l) k) in
      let count : ℕ = window_count bound r in
      let more : suc n * count ≡ n * count + count = omega arith in
      omega (arith, more, blocks_counted (suc k) n, length-append here (pairs_from (bound + 1) (outputs_of bound r) (last_of bound l) (suc k) n))

-- ---- the node

module _ (bound : ℕ) (l r : Tree) (first id : ℕ) (n : Joint) (h : IsJoint bound l r first id n) where
  pub large_same : (next : ℕ) → large_steps n next ≡ wide_node_steps bound l r first id next
  large_same next =
      let other : ℕ = next + wide_size bound l in
      let size : ℕ = wide_size bound l + wide_size bound r in
      let blocks : blocks_in (large_at n next (next + side_wide_size n.left)) 0 (suc (last_block (side_count n.left))) (next + (side_wide_size n.left + side_wide_size n.right)) ≡ blocks_steps bound l r first id next other 0 (blocks_of bound l) (next + size) =
      (λ i.
      blocks_in
      (record {
        row = h.row_id i;
        inputs = joint_inputs bound l r first id n h i;
        left = h.left.count i;
        right = h.right.count i;
        own = joint_outputs bound l r first id n h i;
        cap = h.cap i;
        left_narrows = h.left.blocks_narrows i next;
        right_narrows = h.right.blocks_narrows i (next + h.left.blocks_size i);
        left_others = h.left.blocks_others i next;
        right_others = h.right.blocks_others i (next + h.left.blocks_size i);
      })
      0 (suc (last_block (h.left.count i))) (next + (h.left.blocks_size i + h.right.blocks_size i)))
      ∙ blocks_as bound l r first id next other 0 (blocks_of bound l) (next + size) in
      λ i. (h.left.by_blocks i next ++ h.right.by_blocks i (next + h.left.blocks_size i)) ++ (blocks i ++ deletion_steps (h.left.blocks_size i + h.right.blocks_size i) next 1)

  pub large_counted : 1 ≤ outputs_of bound l → large_ids n ≡ wide_lines_of bound l r + own_count_of (totalizer bound) l r
  large_counted some =
      (λ i. h.left.blocks_size i + h.right.blocks_size i + blocks_ids (h.cap i) (h.left.count i) (h.right.count i) 0 (suc (last_block (h.left.count i))))
      ∙ (let e : wide_size bound l + wide_size bound r + blocks_ids (bound + 1) (outputs_of bound l) (outputs_of bound r) 0 (blocks_of bound l) ≡ wide_lines_of bound l r + own_count_of (totalizer bound) l r =
      omega (arith, blocks_counted bound l r first id 0 0 0 (blocks_of bound l), ap (λ (ps : List Pair). length ps) (all-blocks bound l r some), own-pairs bound l r first, own-count bound l r first) in e)
