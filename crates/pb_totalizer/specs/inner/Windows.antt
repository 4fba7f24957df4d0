-- The clauses of a large node by windows, as the code has them; its clauses are left out.
use Rattle.std.specs.Prelude.{ℕ, zero, suc, ◌+◌, ◌-◌, ◌*◌, ◌/◌, ◌%◌, min, max, List, [], ◌++◌, length, map}
use Rattle.std.specs.List.{flat_map, range_with_len}
use Rattle.pb_steps.specs.declared.step.Step.{Step}
use Rattle.pb_derive.specs.Claims.{Claim, claim_steps}
use Rattle.pb_derive.specs.Deletions.{deletion_steps}
use Rattle.pb_derive.specs.FollowedBy.{followed_by}
use Rattle.pb_totalizer.specs.OutputBlocks.{block_end}
use Rattle.pb_totalizer.specs.OutputSteps.{pair_step}
use Rattle.pb_totalizer.specs.OutputWindows.{block_with, window_step, first_number, number_count, block_pairs}
use Rattle.pb_totalizer.specs.Totalizer.{partners}

-- A large node by its numbers: the id of its outputs' first constraint, over how many inputs they are, how many outputs its parts and the
-- node have, and how many at most, and where the lines about the parts' blocks and about each number of their outputs stand.
pub record Large : Type 0 where
  pub row : ℕ
  pub inputs : ℕ
  pub left : ℕ
  pub right : ℕ
  pub own : ℕ
  pub cap : ℕ
  pub left_narrows : ℕ
  pub right_narrows : ℕ
  pub left_others : ℕ
  pub right_others : ℕ

-- the last block of so many outputs
abbrev pub last_block : ℕ → ℕ
last_block count = (count - 1) / 32

-- ---- windows

abbrev pub sum_in : Large → ℕ → ℕ → ℕ → ℕ
sum_in w k m y = max 1 (min (32 * k + 32 * m + y) (min w.own (block_end (w.left - 1) (32 * k) + block_end (w.right - 1) (32 * m) + 2)))

abbrev pub window_in : Large → ℕ → ℕ → Step
window_in w k x = window_step (w.row + 2 * (sum_in w k (x / 65) (x % 65) - 1) + 1) (w.left_narrows + k) (w.right_narrows + x / 65)

abbrev pub windows_of : Large → ℕ
windows_of w = 65 * suc (last_block w.right)

abbrev pub windows_in : Large → ℕ → List Step
windows_in w k = map (window_in w k) (range_with_len 0 (windows_of w))

-- ---- clauses, where the windows begin with an id

abbrev pub claim_in : Large → ℕ → ℕ → ℕ → ℕ → Claim
claim_in w windows k i j = record { step = pair_step (windows + (65 * block_with j + (i + j - 32 * k - 32 * block_with j))) (w.left_others + i) (w.right_others + j) w.inputs; clause = [] }

-- of one number of the left
abbrev pub row_in : Large → ℕ → ℕ → ℕ → List Claim
row_in w windows k i = map (claim_in w windows k i) (partners w.cap w.right i)

-- of all numbers of a block, which are given from the first one on
abbrev pub claims_in : Large → ℕ → ℕ → List Claim
claims_in w windows k = flat_map (λ n. row_in w windows k (first_number k + n)) (range_with_len 0 (number_count (w.left - 1) k))

-- ---- blocks

abbrev pub block_in : Large → ℕ → ℕ → List Step
block_in w k at = windows_in w k ++ (claim_steps (at + windows_of w) (claims_in w at k) ++ deletion_steps (windows_of w) at 1)

abbrev pub blocks_in : Large → ℕ → ℕ → ℕ → List Step
blocks_in w k zero at = []
blocks_in w k (suc n) at = followed_by (block_in w k) (blocks_in w (suc k) n) at

-- ---- how many ids they take, by the cap and the numbers of outputs

abbrev pub claim_count : ℕ → ℕ → ℕ → ℕ → ℕ
claim_count cap left right k = length (block_pairs cap right (first_number k) (number_count (left - 1) k))

abbrev pub blocks_ids : ℕ → ℕ → ℕ → ℕ → ℕ → ℕ
blocks_ids cap left right k zero = 0
blocks_ids cap left right k (suc n) = 65 * suc (last_block right) + claim_count cap left right k + blocks_ids cap left right (suc k) n
