-- A grid's derivation by those of its rows and its columns.
use Rattle.std.proofs.Common.{◌≡◌, ◌<◌, ◌≤◌, ◌+◌, ◌*◌, ◌++◌, ◌∙◌, ℕ, List, length}
use Rattle.pb_base.specs.declared.literal.Lit.{Lit}
use Rattle.pb_steps.specs.declared.step.Step.{Step}
use Rattle.pb_derive.specs.Deletions.{deletion_steps}
use Rattle.pb_derive.specs.FollowedBy.{followed_by}
use Rattle.pb_derive.specs.Reifications.{reification_steps}
use Rattle.pb_amo.specs.PairwiseSteps.{pairwise_steps}
use Rattle.pb_amo.specs.Product.{rows, columns, line}
use Rattle.pb_amo.specs.ProductSteps.{line_sum, side_steps, grid_reifications, cells_steps, steps_within, product_steps}
use Rattle.pb_amo.specs.inner.ProductParts.{rows_then, columns_then}
use Rattle.pb_amo.specs.laws.ByGrids.{IsByGrids, leaf_at, step}
use Rattle.pb_amo.specs.laws.GridCases.{steps_last, steps_few, steps_many}
use Rattle.pb_amo.specs.laws.GridClauses.{level_size, row_level, column_level, fresh_rows}
use Rattle.pb_amo.specs.laws.LineLaws.{length-line}

-- a grid, where the steps of its rows and columns are given
abbrev pub level_steps : List Lit → ℕ → ℕ → (ℕ → List Step) → (ℕ → List Step) → ℕ → List Step
level_steps ms first q by_rows by_columns next =
    let r = rows (length ms) in
    reification_steps next (grid_reifications ms first r q) ++ (followed_by (cells_steps ms first r q next) (followed_by by_rows by_columns) (next + 2 * (r + q)) ++ deletion_steps 2 next (r + q))

steps_by_grids : IsByGrids level_size row_level column_level (λ k a. steps_within k a.lits a.first) (λ a. pairwise_steps a.lits) (λ a xs ys id next.
    let r = rows (level_size a) in let q = columns (level_size a) in level_steps a.lits a.first q (side_steps (line_sum id next r) xs) (side_steps (line_sum id (next + 2 * r) q) ys) next)
steps_by_grids = record {
  last = λ a x id next. steps_last a.lits a.first id next x;
  few = λ more a h x id next. steps_few more a.lits a.first id next h x;
  many = λ more a h within x id next.
      let n : ℕ = level_size a in
      let r : ℕ = rows n in
      let q : ℕ = columns n in
      (steps_many more a.lits a.first id next h
      ∙ (λ y. level_steps a.lits a.first q (side_steps (line_sum id next r) (steps_within more (line a.first r) (a.first + r + q)))
      (side_steps (line_sum id (next + 2 * r) q) (steps_within more (line (a.first + r) q) (a.first + r + q + fresh_rows more n h within y))) next)) x;
  of_rows = λ a. length-line a.first (rows (level_size a));
  of_columns = λ a. length-line (a.first + rows (level_size a)) (columns (level_size a));
}

pub product_few_steps : (ms : List Lit) (first id next : ℕ) → length ms ≤ 4 → product_steps ms first id next ≡ pairwise_steps ms id next
product_few_steps ms first id next few = λ x. leaf_at steps_by_grids (length ms) (record { lits = ms; first = first }) few x id next

pub product_levels : (ms : List Lit) (first id next : ℕ) → 4 < length ms
    → (let r = rows (length ms) in let q = columns (length ms) in product_steps ms first id next ≡ level_steps ms first q (rows_then first id r q next) (columns_then first id r q next) next)
product_levels ms first id next many = λ x. step steps_by_grids (record { lits = ms; first = first }) many x id next
