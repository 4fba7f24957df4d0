-- A grid's derivation in parts, as code hands them over.
use Rattle.std.specs.Prelude.{ℕ, ◌+◌, ◌*◌, Bool, List, ◌++◌, length}
use Rattle.pb_norm.specs.Constraints.{Weighted}
use Rattle.pb_steps.specs.declared.step.Step.{Step}
use Rattle.pb_derive.specs.Deletions.{deletion_steps}
use Rattle.pb_derive.specs.FollowedBy.{followed_by}
use Rattle.pb_derive.specs.Ones.{unit_of, ones}
use Rattle.pb_family.specs.Derivations.{meant}
use Rattle.pb_family.specs.Fresh.{literal_at}
use Rattle.pb_amo.specs.Passing.{passing, Visits}
use Rattle.pb_amo.specs.Product.{line, product_fresh, product_count}
use Rattle.pb_amo.specs.ProductSteps.{line_sum, side_steps, product_steps}
use Rattle.pb_amo.specs.inner.Source.{source_literals}
use Rattle.pb_amo.specs.declared.source.Source.{Source}
use Rattle.pb_amo.specs.declared.source.Stride.{Stride}

-- ---- the literals at some places

abbrev pub source_size : Source → ℕ
source_size s = length (source_literals s)

-- a literal with the coefficient 1
abbrev pub unit_at : Source → ℕ → Weighted
unit_at s e = unit_of (literal_at (source_literals s) e)

-- a test passes those at the places of a stride
abbrev pub IsMet : Source → Stride → (ℕ → Bool) → Type 0
IsMet s w p = Visits p (source_size s) w.from w.step w.count

-- the literals that a test passes, with the coefficient 1
abbrev pub passed : Source → (ℕ → Bool) → List Weighted
passed s p = ones (passing p 0 (source_literals s))

-- ---- lines

-- a variable means that some of them is true
abbrev pub line_steps : Source → ℕ → (ℕ → Bool) → ℕ → List Step
line_steps s var p next = meant next var (passed s p) 1

-- ---- a grid

-- no grid of so many literals has more
abbrev pub most_steps : ℕ → ℕ
most_steps n = 8 * product_fresh n + 2 * product_count n

-- the steps of r rows and of q columns, where the lines' constraints have the ids from `base` on, and the deletion of these
abbrev pub rows_then : ℕ → ℕ → ℕ → ℕ → ℕ → ℕ → List Step
rows_then first id r q base = side_steps (line_sum id base r) (product_steps (line first r) (first + r + q))

abbrev pub columns_then : ℕ → ℕ → ℕ → ℕ → ℕ → ℕ → List Step
columns_then first id r q base = side_steps (line_sum id (base + 2 * r) q) (product_steps (line (first + r) q) (first + r + q + product_fresh r))

abbrev pub sides_steps : ℕ → ℕ → ℕ → ℕ → ℕ → ℕ → List Step
sides_steps first id r q base next = followed_by (rows_then first id r q base) (columns_then first id r q base) next ++ deletion_steps 2 base (r + q)
