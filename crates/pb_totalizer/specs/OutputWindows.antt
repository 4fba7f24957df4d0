-- How the clauses of a large node are derived: block by block (our own).
-- The clauses of a block of the left part go over each block of the right part by windows: an output's second constraint, narrowed to both.
use Rattle.std.specs.Prelude.{ℕ, zero, suc, ◌+◌, ◌-◌, ◌*◌, ◌/◌, ◌%◌, min, max, List, [], ◌∷◌, ◌++◌, map}
use Rattle.std.specs.List.{flat_map, range_with_len}
use Rattle.pb_steps.specs.declared.op.PolOp.TheVariants.{Push, Axiom, Add, Weaken}
use Rattle.pb_steps.specs.declared.step.Step.{Step}
use Rattle.pb_steps.specs.declared.step.Step.TheVariants.{Pol}
use Rattle.pb_derive.specs.Claims.{Claim, claim_steps}
use Rattle.pb_derive.specs.Deletions.{deletion_steps}
use Rattle.pb_derive.specs.FollowedBy.{followed_by}
use Rattle.pb_tree.specs.Pairs.{Pair, pair_of, pair_clause}
use Rattle.pb_tree.specs.Scheme.{fresh_of, output}
use Rattle.pb_tree.specs.Tree.{Tree, empty, leaf, node}
use Rattle.pb_totalizer.specs.Exact.{outputs_of}
use Rattle.pb_totalizer.specs.OutputBlocks.{block_end, block_lines, block_size, block_others_at, narrows_at}
use Rattle.pb_totalizer.specs.OutputSteps.{before, input_count, pair_step}
use Rattle.pb_totalizer.specs.Totalizer.{partners, totalizer}

-- the last place of a part's outputs, and how many blocks they have
abbrev pub last_of : ℕ → Tree → ℕ
last_of bound t = outputs_of bound t - 1

abbrev pub blocks_of : ℕ → Tree → ℕ
blocks_of bound t = suc (last_of bound t / 32)

-- the lines about the blocks of a part
abbrev pub wide_lines : ℕ → Tree → ℕ → ℕ → ℕ → List Step
wide_lines bound empty first id next = []
wide_lines bound (leaf t) first id next = Pol (Axiom t.lit ∷ []) ∷ Pol (Axiom t.lit ∷ Weaken t.lit.var ∷ []) ∷ []
wide_lines bound (node l r) first id next = block_lines (first + before bound l r) (id + 2 * before bound l r) (input_count bound l r) (last_of bound (node l r)) next

abbrev pub wide_size : ℕ → Tree → ℕ
wide_size bound empty = 0
wide_size bound (leaf t) = 2
wide_size bound (node l r) = block_size (last_of bound (node l r))

-- where what is about none of the outputs stands, and about the first block
abbrev pub wide_others : ℕ → Tree → ℕ → ℕ
wide_others bound empty next = next
wide_others bound (leaf t) next = next
wide_others bound (node l r) next = block_others_at (last_of bound (node l r)) next

abbrev pub wide_narrows : ℕ → Tree → ℕ → ℕ
wide_narrows bound empty next = next
wide_narrows bound (leaf t) next = next + 1
wide_narrows bound (node l r) next = narrows_at (last_of bound (node l r)) next

-- ---- windows

-- the block of a number of outputs: none goes with the first ones
abbrev pub block_with : ℕ → ℕ
block_with i = (i - 1) / 32

-- the sum that a window is about: none is outside what the blocks reach
abbrev pub window_sum : ℕ → Tree → Tree → ℕ → ℕ → ℕ → ℕ
window_sum bound l r k m y =
    max 1 (min (32 * k + 32 * m + y) (min (outputs_of bound (node l r)) (block_end (last_of bound l) (32 * k) + block_end (last_of bound r) (32 * m) + 2)))

abbrev pub window_step : ℕ → ℕ → ℕ → Step
window_step reverse left right = Pol (Push reverse ∷ Push left ∷ Add ∷ Push right ∷ Add ∷ [])

-- those of a block of the left, 65 for each block of the right; the lines about the parts begin with `next` and `other`
abbrev pub window_line : ℕ → Tree → Tree → ℕ → ℕ → ℕ → ℕ → ℕ → Step
window_line bound l r id next other k x =
    window_step (id + 2 * before bound l r + 2 * (window_sum bound l r k (x / 65) (x % 65) - 1) + 1) (wide_narrows bound l next + k) (wide_narrows bound r other + x / 65)

abbrev pub window_count : ℕ → Tree → ℕ
window_count bound r = 65 * blocks_of bound r

abbrev pub window_lines : ℕ → Tree → Tree → ℕ → ℕ → ℕ → ℕ → List Step
window_lines bound l r id next other k = map (window_line bound l r id next other k) (range_with_len 0 (window_count bound r))

-- where the window of two numbers stands
abbrev pub window_at : ℕ → ℕ → Pair → ℕ
window_at windows k p = windows + (65 * block_with p.right + (p.left + p.right - 32 * k - 32 * block_with p.right))

-- ---- the clauses of a block of the left

-- its numbers: the first one, and how many
abbrev pub first_number : ℕ → ℕ
first_number zero = 0
first_number (suc k) = 32 * suc k + 1

abbrev pub number_count : ℕ → ℕ → ℕ
number_count last k = block_end last (32 * k) + 2 - first_number k

abbrev pub block_pairs : ℕ → ℕ → ℕ → ℕ → List Pair
block_pairs cap b first count = flat_map (λ i. map (pair_of i) (partners cap b i)) (range_with_len first count)

abbrev pub wide_claim : ℕ → Tree → Tree → ℕ → ℕ → ℕ → ℕ → ℕ → ℕ → Pair → Claim
wide_claim bound l r first next other windows k m p = record {
  step = pair_step (window_at windows k p) (wide_others bound l next + p.left) (wide_others bound r other + p.right) m;
  clause = pair_clause (bound + 1) (output (totalizer bound) l first) (output (totalizer bound) r (first + fresh_of (totalizer bound) l)) (output (totalizer bound) (node l r) first) p;
}

abbrev pub block_claims : ℕ → Tree → Tree → ℕ → ℕ → ℕ → ℕ → ℕ → List Claim
block_claims bound l r first next other windows k =
    map (wide_claim bound l r first next other windows k (input_count bound l r)) (block_pairs (bound + 1) (outputs_of bound r) (first_number k) (number_count (last_of bound l) k))

-- its windows, its clauses, and then the windows go
abbrev pub block_steps : ℕ → Tree → Tree → ℕ → ℕ → ℕ → ℕ → ℕ → ℕ → List Step
block_steps bound l r first id next other k at =
    window_lines bound l r id next other k
    ++ (claim_steps (at + window_count bound r) (block_claims bound l r first next other at k)
    ++ deletion_steps (window_count bound r) at 1)

-- so many blocks from one on
abbrev pub blocks_steps : ℕ → Tree → Tree → ℕ → ℕ → ℕ → ℕ → ℕ → ℕ → ℕ → List Step
blocks_steps bound l r first id next other k zero at = []
blocks_steps bound l r first id next other k (suc n) at = followed_by (block_steps bound l r first id next other k) (blocks_steps bound l r first id next other (suc k) n) at

-- ---- the whole node

abbrev pub wide_node_steps : ℕ → Tree → Tree → ℕ → ℕ → ℕ → List Step
wide_node_steps bound l r first id next =
    let other = next + wide_size bound l in
    let size = wide_size bound l + wide_size bound r in
    (wide_lines bound l first id next ++ wide_lines bound r (first + fresh_of (totalizer bound) l) (id + 2 * fresh_of (totalizer bound) l) other)
    ++ (blocks_steps bound l r first id next other 0 (blocks_of bound l) (next + size)
    ++ deletion_steps size next 1)
