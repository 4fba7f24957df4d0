-- The clauses of a grid, as they are built up.
use Rattle.std.proofs.Common.{◌≡◌, ◌<◌, ◌≤◌, ◌+◌, ◌++◌, ℕ, leb, List, [], ◌∷◌, length, refl, ap, ◌∙◌, arith, zero, suc}
use Rattle.std.specs.Prelude.{All}
use Rattle.std.proofs.lemmas.Bool.{le-leb, lt-leb}
use Rattle.std.proofs.lemmas.List.Elements.{All-nil, All-cons, All-head, All-tail}
use Rattle.pb_base.specs.declared.literal.Lit.{Lit}
use Rattle.pb_family.proofs.FlatRanges.{flat_each, at_flat}
use Rattle.pb_amo.specs.Pairwise.{pairwise_clauses}
use Rattle.pb_amo.specs.Product.{columns, rows, grid_clauses, line, in_row, in_column, cell, cells, fresh_within, clauses_within, product_fresh, product_clauses}
use Rattle.pb_amo.specs.laws.ByGrids.{IsByGrids, leaf_at, step}
use Rattle.pb_amo.specs.laws.GridSides.{columns_positive, sides_fit}
use Rattle.pb_amo.specs.laws.GridCounts.{fresh_enough}
use Rattle.pb_amo.specs.laws.LineLaws.{length-line}
use Rattle.pb_amo.specs.laws.Choice.{chosen_true, chosen_false}

pub clauses_last : (ms : List Lit) (first : ℕ) → clauses_within zero ms first ≡ pairwise_clauses ms
unfolding clauses_within
clauses_last ms first = refl

pub clauses_few : (more : ℕ) (ms : List Lit) (first : ℕ) → length ms ≤ 4 → clauses_within (suc more) ms first ≡ pairwise_clauses ms
unfolding clauses_within
clauses_few more ms first few = chosen_true (leb (length ms) 4) (pairwise_clauses ms) _ (le-leb (length ms) 4 few)

pub clauses_many : (more : ℕ) (ms : List Lit) (first : ℕ) → 4 < length ms
    → (let r = rows (length ms) in let q = columns (length ms) in
    clauses_within (suc more) ms first ≡ cells ms first r q ++ (clauses_within more (line first r) (first + r + q) ++ clauses_within more (line (first + r) q) (first + r + q + fresh_within more r)))
unfolding clauses_within
clauses_many more ms first many = chosen_false (leb (length ms) 4) (pairwise_clauses ms) _ (lt-leb (length ms) 4 many)

-- ---- the clauses of the cells

pub cells_each : (P : List Lit → Type 0) (ms : List Lit) (first r q : ℕ) → ((e : ℕ) → e < length ms → P (in_row ms first q e) × P (in_column ms first r q e)) → All P (cells ms first r q)
cells_each P ms first r q each =
    flat_each P (cell ms first r q) 0 (length ms) (λ e low high.
    let both = each e (omega arith) in
    All-cons P (in_row ms first q e) (in_column ms first r q e ∷ []) both.0 (All-cons P (in_column ms first r q e) [] both.1 (All-nil P)))

pub at_cells : (P : List Lit → Type 0) (ms : List Lit) (first r q : ℕ) → All P (cells ms first r q) → (e : ℕ) → e < length ms → P (in_row ms first q e) × P (in_column ms first r q e)
at_cells P ms first r q all e within =
    let both = at_flat P (cell ms first r q) 0 (length ms) all e (omega arith) (omega arith) in (
      All-head P (in_row ms first q e) (in_column ms first r q e ∷ []) both,
      All-head P (in_column ms first r q e) [] (All-tail P (in_row ms first q e) (in_column ms first r q e ∷ []) both),
    )

-- ---- the number of grids is enough

-- literals, and the number of the first fresh variable
pub record Level : Type 0 where
  pub lits : List Lit
  pub first : ℕ

abbrev pub level_size : Level → ℕ
level_size a = length a.lits

abbrev pub row_level : Level → Level
row_level a = let r = rows (level_size a) in let q = columns (level_size a) in record { lits = line a.first r; first = a.first + r + q }

abbrev pub column_level : Level → Level
column_level a = let r = rows (level_size a) in let q = columns (level_size a) in record { lits = line (a.first + r) q; first = a.first + r + q + product_fresh r }

-- the fresh variables of the rows are as many as without a bound on the grids
pub fresh_rows : (more n : ℕ) → 4 < n → n ≤ suc more → fresh_within more (rows n) ≡ product_fresh (rows n)
fresh_rows more n many within = fresh_enough more (rows n) (rows n) (omega (arith, sides_fit n many, columns_positive n (omega (arith, many)), within)) (omega arith)

clauses_by_grids : IsByGrids level_size row_level column_level (λ k a. clauses_within k a.lits a.first) (λ a. pairwise_clauses a.lits) (λ a xs ys. cells a.lits a.first (rows (level_size a)) (columns (level_size a)) ++ (xs ++ ys))
clauses_by_grids = record {
  last = λ a. clauses_last a.lits a.first;
  few = λ more a h. clauses_few more a.lits a.first h;
  many = λ more a h within.
      let n : ℕ = level_size a in
      let r : ℕ = rows n in
      let q : ℕ = columns n in
      clauses_many more a.lits a.first h
      ∙ ap (λ (x : ℕ). cells a.lits a.first r q ++ (clauses_within more (line a.first r) (a.first + r + q) ++ clauses_within more (line (a.first + r) q) (a.first + r + q + x))) (fresh_rows more n h within);
  of_rows = λ a. length-line a.first (rows (level_size a));
  of_columns = λ a. length-line (a.first + rows (level_size a)) (columns (level_size a));
}

-- up to four literals have a clause for each two
pub product_small : (ms : List Lit) (first : ℕ) → length ms ≤ 4 → product_clauses ms first ≡ pairwise_clauses ms
product_small ms first few = leaf_at clauses_by_grids (length ms) (record { lits = ms; first = first }) few

-- more have a grid, and the same for its rows and its columns
pub product_grid : (ms : List Lit) (first : ℕ) → 4 < length ms → product_clauses ms first ≡ grid_clauses ms first (rows (length ms)) (columns (length ms))
product_grid ms first many = step clauses_by_grids (record { lits = ms; first = first }) many
