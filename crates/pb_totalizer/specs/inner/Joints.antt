-- The steps of a node over the outputs of its two parts, as the code has them; its clauses are left out.
use Rattle.std.specs.Prelude.{ℕ, Bool, suc, ◌+◌, ◌-◌, ◌*◌, min, nat_lt, List, [], ◌++◌, map, if◌then◌else◌}
use Rattle.std.specs.List.{flat_map, range_with_len}
use Rattle.pb_norm.specs.Constraints.{Weighted}
use Rattle.pb_steps.specs.declared.step.Step.{Step}
use Rattle.pb_steps.specs.declared.step.Step.TheVariants.{Pol}
use Rattle.pb_derive.specs.Claims.{Claim, claim_steps}
use Rattle.pb_derive.specs.Deletions.{deletion_steps}
use Rattle.pb_derive.specs.Ones.{ones}
use Rattle.pb_derive.specs.Reifications.{Reification}
use Rattle.pb_totalizer.specs.OutputSteps.{pair_step}
use Rattle.pb_totalizer.specs.TotalizerSteps.{count_ops}
use Rattle.pb_totalizer.specs.Totalizer.{node_clause_count, partners}
use Rattle.pb_totalizer.specs.declared.joint.Joint.{Joint}
use Rattle.pb_totalizer.specs.inner.Sides.{side_lits, side_count, side_lines, side_size, side_others, side_wide_lines, side_wide_size, side_wide_others, side_narrows, side_gives}
use Rattle.pb_totalizer.specs.inner.Windows.{Large, last_block, blocks_in, blocks_ids}

-- ---- what its outputs mean

-- the variable at a place means that as many of some literals are true
abbrev pub meaning_of : ℕ → List Weighted → ℕ → Reification
meaning_of first inputs place = record { var = first + place; sum = inputs; least = suc place }

abbrev pub joint_meanings : Joint → List Reification
joint_meanings n = map (meaning_of n.row.first (ones (side_lits n.left) ++ ones (side_lits n.right))) (range_with_len 0 (suc n.row.last))

-- ---- no fewer of its leaves are true than of its outputs

abbrev pub joint_sum : Joint → ℕ → ℕ → Step
joint_sum n left right = Pol (count_ops n.row.id n.row.last ++ (side_gives n.left left ++ side_gives n.right right))

-- ---- its clauses, by where the line of each part for none of its outputs stands

abbrev pub joint_claim : Joint → ℕ → ℕ → ℕ → ℕ → Claim
joint_claim n lefts rights i j = record { step = pair_step (n.row.id + 2 * (i + j - 1) + 1) (lefts + i) (rights + j) n.row.inputs; clause = [] }

-- of one number of the left
abbrev pub joint_row : Joint → ℕ → ℕ → ℕ → List Claim
joint_row n lefts rights i = map (joint_claim n lefts rights i) (partners n.cap (side_count n.right) i)

abbrev pub joint_claims : Joint → ℕ → ℕ → List Claim
joint_claims n lefts rights = flat_map (joint_row n lefts rights) (range_with_len 0 (side_count n.left + 1))

-- with the lines about both parts, which are deleted
abbrev pub narrow_steps : Joint → ℕ → List Step
narrow_steps n next =
    let middle = next + side_size n.left in
    let size = side_size n.left + side_size n.right in
    (side_lines n.left next ++ side_lines n.right middle)
    ++ (claim_steps (next + size) (joint_claims n (side_others n.left next) (side_others n.right middle))
    ++ deletion_steps size next 1)

-- how many ids they take
abbrev pub narrow_ids : Joint → ℕ
narrow_ids n = side_size n.left + side_size n.right + node_clause_count n.cap (side_count n.left) (side_count n.right)

-- ---- by blocks, where the lines about those of the parts begin with these ids

abbrev pub large_at : Joint → ℕ → ℕ → Large
large_at n lefts rights = record {
  row = n.row.id;
  inputs = n.row.inputs;
  left = side_count n.left;
  right = side_count n.right;
  own = suc n.row.last;
  cap = n.cap;
  left_narrows = side_narrows n.left lefts;
  right_narrows = side_narrows n.right rights;
  left_others = side_wide_others n.left lefts;
  right_others = side_wide_others n.right rights;
}

abbrev pub large_steps : Joint → ℕ → List Step
large_steps n next =
    let middle = next + side_wide_size n.left in
    let size = side_wide_size n.left + side_wide_size n.right in
    (side_wide_lines n.left next ++ side_wide_lines n.right middle)
    ++ (blocks_in (large_at n next middle) 0 (suc (last_block (side_count n.left))) (next + size)
    ++ deletion_steps size next 1)

abbrev pub large_ids : Joint → ℕ
large_ids n = side_wide_size n.left + side_wide_size n.right + blocks_ids n.cap (side_count n.left) (side_count n.right) 0 (suc (last_block (side_count n.left)))

-- ---- whichever is taken

abbrev pub joint_is_large : Joint → Bool
joint_is_large n = nat_lt 32 (min (side_count n.left) (side_count n.right))

abbrev pub joint_steps : Joint → ℕ → List Step
joint_steps n next = if joint_is_large n then large_steps n next else narrow_steps n next

abbrev pub joint_ids : Joint → ℕ
joint_ids n = if joint_is_large n then large_ids n else narrow_ids n
