-- How the clauses of a grid are derived (our own).
use Rattle.std.specs.Prelude.{ℕ, zero, suc, true, false, ◌+◌, ◌*◌, ◌/◌, ◌%◌, List, [], ◌∷◌, ◌++◌, map, length, nat_le}
use Rattle.std.specs.List.{range_with_len, flat_map}
use Rattle.pb_base.specs.declared.literal.Lit.{Lit}
use Rattle.pb_base.specs.Literals.{negated}
use Rattle.pb_steps.specs.declared.step.Step.{Step}
use Rattle.pb_steps.specs.declared.step.Step.TheVariants.{Pol}
use Rattle.pb_derive.specs.Claims.{Claim, claim_steps}
use Rattle.pb_derive.specs.Deletions.{deletion_steps}
use Rattle.pb_derive.specs.FollowedBy.{followed_by}
use Rattle.pb_derive.specs.Reifications.{Reification, reification_steps}
use Rattle.pb_derive.specs.Ones.{ones}
use Rattle.pb_derive.specs.Justifications.{adding}
use Rattle.pb_derive.specs.Rups.{by_rup}
use Rattle.pb_family.specs.Fresh.{literal_at, fresh_at}
use Rattle.pb_amo.specs.PairwiseSteps.{pairwise_steps}
use Rattle.pb_amo.specs.Passing.{passing, in_line}
use Rattle.pb_amo.specs.Product.{rows, columns, line, fresh_within}

-- ---- the lines of one side, the rows or the columns: each place is in one

-- some literal of line k is true
abbrev pub line_reification : (ℕ → ℕ) → List Lit → ℕ → ℕ → Reification
line_reification side ms first k = record { var = first + k; sum = ones (passing (in_line side k) 0 ms); least = 1 }

abbrev pub line_reifications : (ℕ → ℕ) → List Lit → ℕ → ℕ → List Reification
line_reifications side ms first count = map (line_reification side ms first) (range_with_len 0 count)

-- a literal that is true makes its line true: where the line is false, all its literals are
abbrev pub line_claim : (ℕ → ℕ) → List Lit → ℕ → ℕ → ℕ → Claim
line_claim side ms first id e = by_rup ((id + 2 * side e + 1) ∷ []) (negated (literal_at ms e) ∷ fresh_at first (side e) ∷ [])

-- where the first constraints of all lines are added to the literals' constraint, at most one line is left
abbrev pub line_sum : ℕ → ℕ → ℕ → Step
line_sum id base count = Pol (adding (id ∷ map (λ k. base + 2 * k) (range_with_len 0 count)))

-- that has the next id, and is deleted once the lines' clauses are put out
abbrev pub side_steps : Step → (ℕ → ℕ → List Step) → ℕ → List Step
side_steps sum inner next = sum ∷ (inner next (next + 1) ++ deletion_steps 1 next 1)

-- ---- a grid

abbrev pub row_of : ℕ → ℕ → ℕ
row_of q e = e / q

abbrev pub column_of : ℕ → ℕ → ℕ
column_of q e = e % q

abbrev pub grid_reifications : List Lit → ℕ → ℕ → ℕ → List Reification
grid_reifications ms first r q = line_reifications (row_of q) ms first r ++ line_reifications (column_of q) ms (first + r) q

-- the reifications have the ids from `base` on
abbrev pub cell_claims : List Lit → ℕ → ℕ → ℕ → ℕ → ℕ → List Claim
cell_claims ms first r q base e = line_claim (row_of q) ms first base e ∷ line_claim (column_of q) ms (first + r) (base + 2 * r) e ∷ []

abbrev pub cells_claims : List Lit → ℕ → ℕ → ℕ → ℕ → List Claim
cells_claims ms first r q base = flat_map (cell_claims ms first r q base) (range_with_len 0 (length ms))

abbrev pub cells_steps : List Lit → ℕ → ℕ → ℕ → ℕ → ℕ → List Step
cells_steps ms first r q base next = claim_steps next (cells_claims ms first r q base)

-- with so many grids at most, one inside another
unfoldable pub steps_within : ℕ → List Lit → ℕ → ℕ → ℕ → List Step
steps_within zero ms first id next = pairwise_steps ms id next
steps_within (suc more) ms first id next =
    let r = rows (length ms) in
    let q = columns (length ms) in
    elim (nat_le (length ms) 4) as (λ _. List Step) [
      | true ↦ pairwise_steps ms id next
      | false ↦
          reification_steps next (grid_reifications ms first r q)
          ++ (followed_by (cells_steps ms first r q next)
          (followed_by (side_steps (line_sum id next r) (steps_within more (line first r) (first + r + q)))
          (side_steps (line_sum id (next + 2 * r) q) (steps_within more (line (first + r) q) (first + r + q + fresh_within more r)))) (next + 2 * (r + q))
          ++ deletion_steps 2 next (r + q))
    ]

abbrev pub product_steps : List Lit → ℕ → ℕ → ℕ → List Step
product_steps ms first id next = steps_within (length ms) ms first id next
