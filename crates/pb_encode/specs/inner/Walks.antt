-- What is left of a walk over the groups of a problem, as it is kept: the products and the statements that are left, and how many constraints of the first product were taken.
use Rattle.std.specs.Prelude.{ℕ, ◌+◌, ◌≤◌, ◌<◌, ◌^◌, List, [], ◌++◌, All, drop, length, slice_index_or}
use Rattle.pb_base.specs.declared.literal.Lit.{Lit}
use Rattle.pb_base.specs.declared.problem.Raw.{Raw}
use Rattle.pb_base.specs.Problems.{StaysBelow}
use Rattle.pb_norm.specs.Products.{defining}
use Rattle.pb_encode.specs.declared.groups.Group.{Group}
use Rattle.pb_encode.specs.Groups.{singles, statement_groups}

abbrev pub groups_left : ℕ → List (List Lit) → ℕ → List Raw → List Group
groups_left vars products place statements = singles (drop place (defining (vars + 1) products)) ++ statement_groups statements

-- the products have variables, and the statements normal forms
pub record MayGoOn (vars : ℕ) (products : List (List Lit)) (place : ℕ) (statements : List Raw) : Type 0 where
  pub named : vars + length products < 2 ^ 31
  pub inside : place ≤ length (slice_index_or products 0 [])
  pub numbers : All (StaysBelow (2 ^ 126)) statements
