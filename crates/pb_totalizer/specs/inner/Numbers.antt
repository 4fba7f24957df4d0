-- Which numbers of true leaves of a node's two parts go together, by how many outputs they have.
use Rattle.std.specs.Prelude.{ℕ, ◌+◌, ◌≤◌, ◌<◌, List}
use Rattle.pb_totalizer.specs.Exact.{limits}
use Rattle.pb_totalizer.specs.Totalizer.{partners}
use Rattle.pb_totalizer.specs.declared.polarity.Direction.{Direction}
use Rattle.pb_totalizer.specs.declared.polarity.Direction.TheVariants.{Up, Down}

-- i of the left and j of the right, whose sum is from 1 to the cap
pub record AreSummed (a b cap i j : ℕ) : Type 0 where
  pub left : i ≤ a
  pub right : j ≤ b
  pub some : 1 ≤ i + j
  pub within : i + j ≤ cap

-- at most i of the left and at most j of the right, whose sum is below the number of the node's outputs
pub record AreLimited (a b count i j : ℕ) : Type 0 where
  pub left : i ≤ a
  pub right : j ≤ b
  pub within : i + j < count

-- ---- by the direction of the clauses

-- the cap, or the number of the node's outputs
abbrev pub most_by : Direction → ℕ → ℕ → ℕ
most_by Up cap count = cap
most_by Down cap count = count

abbrev pub GoTogether : Direction → ℕ → ℕ → ℕ → ℕ → ℕ → Type 0
GoTogether Up a b most i j = AreSummed a b most i j
GoTogether Down a b most i j = AreLimited a b most i j

-- the numbers of the right that go with one of the left
abbrev pub numbers_by : Direction → ℕ → ℕ → ℕ → List ℕ
numbers_by Up most b i = partners most b i
numbers_by Down most b i = limits most b i
