-- Grids inside grids: up to four literals have a clause for each two, and more have a grid.
use Rattle.std.proofs.Common.{◌≡◌, ◌≤◌, ◌<◌, ◌+◌, ◌*◌, ◌++◌, ℕ, leb, zero, suc, List, length, refl, sym, subst, inl, inr}
use Rattle.std.proofs.lemmas.Bool.{cases_lt, le-leb, lt-leb}
use Rattle.pb_base.specs.declared.literal.Lit.{Lit}
use Rattle.pb_steps.specs.declared.step.Step.{Step}
use Rattle.pb_derive.specs.Deletions.{deletion_steps}
use Rattle.pb_derive.specs.FollowedBy.{followed_by}
use Rattle.pb_derive.specs.Reifications.{reification_steps}
use Rattle.pb_amo.specs.Pairwise.{pair_count, pairwise_clauses}
use Rattle.pb_amo.specs.PairwiseSteps.{pairwise_steps}
use Rattle.pb_amo.specs.Product.{rows, columns, line, cells, fresh_within, count_within, clauses_within}
use Rattle.pb_amo.specs.ProductSteps.{line_sum, side_steps, grid_reifications, cells_steps, steps_within}
use Rattle.pb_amo.specs.laws.Choice.{chosen_true, chosen_false}
use Rattle.pb_amo.specs.laws.GridClauses.{clauses_last, clauses_few, clauses_many}
use Rattle.pb_amo.specs.laws.GridCounts.{fresh_last, fresh_few, fresh_many, count_last, count_few, count_many}

-- ---- the steps by cases

pub steps_last : (ms : List Lit) (first id next : ℕ) → steps_within zero ms first id next ≡ pairwise_steps ms id next
unfolding steps_within
steps_last ms first id next = refl

pub steps_few : (more : ℕ) (ms : List Lit) (first id next : ℕ) → length ms ≤ 4 → steps_within (suc more) ms first id next ≡ pairwise_steps ms id next
unfolding steps_within
steps_few more ms first id next few = chosen_true (leb (length ms) 4) (pairwise_steps ms id next) _ (le-leb (length ms) 4 few)

-- the rows' part and the columns'
abbrev pub rows_steps : ℕ → List Lit → ℕ → ℕ → ℕ → ℕ → List Step
rows_steps more ms first id base = side_steps (line_sum id base (rows (length ms))) (steps_within more (line first (rows (length ms))) (first + rows (length ms) + columns (length ms)))

abbrev pub columns_steps : ℕ → List Lit → ℕ → ℕ → ℕ → ℕ → List Step
columns_steps more ms first id base =
    side_steps (line_sum id (base + 2 * rows (length ms)) (columns (length ms)))
    (steps_within more (line (first + rows (length ms)) (columns (length ms))) (first + rows (length ms) + columns (length ms) + fresh_within more (rows (length ms))))

-- between the reifications and their deletion
abbrev pub grid_body : ℕ → List Lit → ℕ → ℕ → ℕ → ℕ → List Step
grid_body more ms first id base = followed_by (cells_steps ms first (rows (length ms)) (columns (length ms)) base) (followed_by (rows_steps more ms first id base) (columns_steps more ms first id base))

abbrev pub grid_steps : ℕ → List Lit → ℕ → ℕ → ℕ → List Step
grid_steps more ms first id next =
    let r = rows (length ms) in
    let q = columns (length ms) in
    reification_steps next (grid_reifications ms first r q) ++ (grid_body more ms first id next (next + 2 * (r + q)) ++ deletion_steps 2 next (r + q))

pub steps_many : (more : ℕ) (ms : List Lit) (first id next : ℕ) → 4 < length ms → steps_within (suc more) ms first id next ≡ grid_steps more ms first id next
unfolding steps_within
steps_many more ms first id next many = chosen_false (leb (length ms) 4) (pairwise_steps ms id next) _ (lt-leb (length ms) 4 many)

-- the clauses of a grid
abbrev pub level_clauses : ℕ → List Lit → ℕ → List (List Lit)
level_clauses more ms first =
    let r = rows (length ms) in
    let q = columns (length ms) in
    cells ms first r q ++ (clauses_within more (line first r) (first + r + q) ++ clauses_within more (line (first + r) q) (first + r + q + fresh_within more r))

-- ---- all cases

-- of some literals: how many fresh variables and clauses, which clauses by the first fresh variable, and which steps by that and two ids
abbrev Shape {ℓ} : Type (ℓ + 1)
Shape = List Lit → ℕ → ℕ → (ℕ → List (List Lit)) → (ℕ → ℕ → ℕ → List Step) → Type ℓ

-- what holds of a clause for each two
abbrev HoldsOfPairs {ℓ} : Shape {ℓ} → Type ℓ
HoldsOfPairs P = (ms : List Lit) → P ms 0 (pair_count (length ms)) (λ first. pairwise_clauses ms) (λ first id next. pairwise_steps ms id next)

-- with so many grids at most
abbrev pub HoldsWithin {ℓ} : Shape {ℓ} → ℕ → Type ℓ
HoldsWithin P k = (ms : List Lit) → P ms (fresh_within k (length ms)) (count_within k (length ms)) (clauses_within k ms) (steps_within k ms)

-- what holds of a grid where it holds of its rows and its columns
abbrev HoldsOfGrids {ℓ} : Shape {ℓ} → Type ℓ
HoldsOfGrids P =
    (more : ℕ) → HoldsWithin P more → (ms : List Lit) → 4 < length ms → (let r = rows (length ms) in let q = columns (length ms) in
    P ms (r + q + fresh_within more r + fresh_within more q) (2 * length ms + count_within more r + count_within more q) (level_clauses more ms) (grid_steps more ms))

-- the same with other words
shaped {ℓ} : (P : Shape {ℓ}) (ms : List Lit) (f g c d : ℕ) (cs ds : ℕ → List (List Lit)) (ss ts : ℕ → ℕ → ℕ → List Step) → f ≡ g → c ≡ d → ((first : ℕ) → cs first ≡ ds first) → ((first id next : ℕ) → ss first id next ≡ ts first id next) → P ms g d ds ts → P ms f c cs ss
shaped P ms f g c d cs ds ss ts fresh count clauses steps h =
    subst (λ (n : ℕ). P ms n c cs ss) (sym fresh) (subst (λ (n : ℕ). P ms g n cs ss) (sym count)
    (subst (λ (xs : ℕ → List (List Lit)). P ms g d xs ss) (λ x first. sym (clauses first) x) (subst (λ (xs : ℕ → ℕ → ℕ → List Step). P ms g d ds xs) (λ x first id next. sym (steps first id next) x) h)))

pub by_grids {ℓ} : (P : Shape {ℓ}) → HoldsOfPairs P → HoldsOfGrids P → (k : ℕ) → HoldsWithin P k
by_grids P pairs grids zero ms =
    let n : ℕ = length ms in
    shaped P ms (fresh_within zero n) 0 (count_within zero n) (pair_count n) (clauses_within zero ms) (λ first. pairwise_clauses ms) (steps_within zero ms) (λ first id next. pairwise_steps ms id next) (fresh_last n) (count_last n) (clauses_last ms) (steps_last ms) (pairs ms)
by_grids P pairs grids (suc more) ms =
    let n : ℕ = length ms in
    let Goal : Type ℓ = P ms (fresh_within (suc more) n) (count_within (suc more) n) (clauses_within (suc more) ms) (steps_within (suc more) ms) in
    elim (cases_lt 4 n) as (λ _. Goal) [
      | inr few ↦ shaped P ms (fresh_within (suc more) n) 0 (count_within (suc more) n) (pair_count n) (clauses_within (suc more) ms) (λ first. pairwise_clauses ms) (steps_within (suc more) ms) (λ first id next. pairwise_steps ms id next)
          (fresh_few more n few) (count_few more n few) (λ first. clauses_few more ms first few) (λ first id next. steps_few more ms first id next few) (pairs ms)
      | inl many ↦
          let r : ℕ = rows n in
          let q : ℕ = columns n in
          shaped P ms (fresh_within (suc more) n) (r + q + fresh_within more r + fresh_within more q) (count_within (suc more) n) (2 * n + count_within more r + count_within more q) (clauses_within (suc more) ms) (level_clauses more ms) (steps_within (suc more) ms) (grid_steps more ms)
          (fresh_many more n many) (count_many more n many) (λ first. clauses_many more ms first many) (λ first id next. steps_many more ms first id next many) (grids more (by_grids P pairs grids more) ms many)
    ]
