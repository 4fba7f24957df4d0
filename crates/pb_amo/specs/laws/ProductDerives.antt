-- The clauses of a grid are derived.
use Rattle.std.proofs.Common.{◌≡◌, ◌≤◌, ◌<◌, ◌+◌, ◌*◌, ◌^◌, ℕ, true, List, [], ◌∷◌, ◌++◌, length, length-append, refl, ap, sym, ◌∙◌, subst, arith, get_or, zero, suc}
use Rattle.std.specs.Prelude.{All, map, count_by}
use Rattle.std.specs.List.{range_with_len, flat_map}
use Rattle.std.proofs.lemmas.List.{get_or_append_left, get_or-append-add, length-map}
use Rattle.std.proofs.lemmas.List.Elements.{All-nil, All-cons, All-weaker}
use Rattle.std.proofs.lemmas.List.FromFn.{length-map-range_with_len, get_or-map-range_with_len}
use Rattle.pb_base.specs.declared.literal.Lit.{Lit}
use Rattle.pb_norm.specs.Constraints.{Weighted}
use Rattle.pb_steps.specs.Database.{Database}
use Rattle.pb_steps.specs.declared.step.Step.{Step}
use Rattle.pb_derive.specs.Deletions.{deletion_steps}
use Rattle.pb_derive.specs.Derivations.{as_constraint, IsReadyFor, Derives}
use Rattle.pb_derive.specs.FollowedBy.{followed_by}
use Rattle.pb_derive.specs.Claims.{Claim}
use Rattle.pb_steps.specs.Steps.{takes_id}
use Rattle.pb_derive.specs.Later.{Knows, IsLater}
use Rattle.pb_derive.specs.Reifications.{Reification, reification_steps, forward_of}
use Rattle.pb_derive.specs.inner.Ran.{RanSwept, IsClaim}
use Rattle.pb_derive.specs.inner.Meant.{IsMeant}
use Rattle.pb_derive.proofs.FollowedBy.{followed_swept, swept_counted, later_wider}
use Rattle.pb_derive.proofs.InRow.{AreInRow, IsFitReification, row-append, row_by_places, row_reifications}
use Rattle.pb_derive.proofs.Laters.{known_below, later_knows, later_then}
use Rattle.pb_derive.proofs.Meant.{Meant, reifications_ran, meant_at}
use Rattle.pb_derive.proofs.Phases.{reifications_add, swept_derives}
use Rattle.pb_derive.proofs.PinLemmas.{AreApartLits}
use Rattle.pb_derive.proofs.Running.{claims_ran}
use Rattle.pb_derive.proofs.Scoped.{Scoped, scoped}
use Rattle.pb_family.proofs.FlatRanges.{flat_each}
use Rattle.pb_amo.specs.laws.GridSides.{columns_positive, row_within, sides_fit}
use Rattle.pb_amo.specs.laws.PairwiseDerives.{pairs_swept, of_lits}
use Rattle.pb_amo.specs.laws.LineLaws.{lines_each}
use Rattle.pb_amo.specs.Product.{rows, columns, line, cells, cell, fresh_within, clauses_within, product_fresh, product_clauses}
use Rattle.pb_amo.specs.laws.ProductLines.{line_fit, line_claims, Derivable, side_swept}
use Rattle.pb_amo.specs.ProductSteps.{line_reification, line_reifications, line_claim, row_of, column_of, cell_claims, cells_claims, cells_steps, product_steps}
use Rattle.pb_amo.specs.inner.AtMostOne.{at_most_one}
use Rattle.pb_amo.specs.laws.GridCases.{rows_steps, columns_steps, grid_body, grid_steps, HoldsWithin, by_grids}
use Rattle.pb_family.specs.Families.{VarsBelow}
use Rattle.pb_norm.specs.Reduction.{lits_of, all_weigh}
use Rattle.pb_norm.specs.BoundedSums.{BoundedSum, IsOverDistinct}

-- the clauses of the cells
pub cells-clauses : (ms : List Lit) (first r q base a n : ℕ) → map (λ (c : Claim). c.clause) (flat_map (cell_claims ms first r q base) (range_with_len a n)) ≡ flat_map (cell ms first r q) (range_with_len a n)
cells-clauses ms first r q base a zero = refl
cells-clauses ms first r q base a (suc n) = ap (λ (cs : List (List Lit)). (line_claim (row_of q) ms first base a).clause ∷ (line_claim (column_of q) ms (first + r) (base + 2 * r) a).clause ∷ cs) (cells-clauses ms first r q base (a + 1) n)

-- ---- a grid

module _ (more : ℕ) (inductive : HoldsWithin Derivable more) (ms : List Lit) (other : AreApartLits ms) (few : length ms < 2 ^ 31) (many : 4 < length ms) (first id : ℕ) (below : All (λ l. l.var < first) ms)
    (db : Database) (ready : IsReadyFor (at_most_one ms) first (rows (length ms) + columns (length ms) + fresh_within more (rows (length ms)) + fresh_within more (columns (length ms))) id db) where
  abbrev n : ℕ
  n = length ms

  abbrev r : ℕ
  r = rows n

  abbrev q : ℕ
  q = columns n

  abbrev by_rows : List Reification
  by_rows = line_reifications (row_of q) ms first r

  abbrev by_columns : List Reification
  by_columns = line_reifications (column_of q) ms (first + r) q

  abbrev lines : List Reification
  lines = by_rows ++ by_columns

  abbrev P : ℕ → Type 0
  P v = v < first + r + q

  row_size : length by_rows ≡ r
  row_size = length-map-range_with_len (line_reification (row_of q) ms first) 0 r

  size : length lines ≡ r + q
  size = omega (arith, length-append by_rows by_columns, row_size, length-map-range_with_len (line_reification (column_of q) ms (first + r)) 0 q)

  some : 0 < q
  some = columns_positive n (omega arith)

  row_in : (e : ℕ) → e < n → row_of q e < r
  row_in e h = row_within n e h

  column_in : (e : ℕ) → e < n → column_of q e < q
  column_in e h = omega (arith, some)

  in_row_of : AreInRow first lines
  in_row_of =
      row-append first by_rows by_columns
      (subst (λ (v : ℕ). AreInRow v by_rows) (let e : first + 0 ≡ first = omega arith in e) (row_by_places (line_reification (row_of q) ms first) first 0 r (λ k. refl)))
      (subst (λ (v : ℕ). AreInRow v by_columns) (let e : first + r + 0 ≡ first + length by_rows = omega (arith, row_size) in e) (row_by_places (line_reification (column_of q) ms (first + r)) (first + r) 0 q (λ k. refl)))

  lines_fit : All (IsFitReification first) lines
  lines_fit = lines_each (IsFitReification first) ms first r q (λ k within. line_fit (row_of q) ms other few first below first k) (λ k within. line_fit (column_of q) ms other few first below (first + r) k)

  meant : Meant P db lines
  meant =
      reifications_ran P db lines ready.numbered
      (row_reifications P db first lines in_row_of lines_fit ready.original (omega (arith, size, ready.vars))
      (λ v low high. (omega (arith, high, size), ready.unnamed v low (omega (arith, high, size))))
      (All-weaker (IsFitReification first) (λ m. All (λ t. P t.lit.var) m.sum) (λ m fit. All-weaker (λ (t : Weighted). t.lit.var < first) (λ (t : Weighted). P t.lit.var) (λ t h. omega (arith, h)) m.sum fit.below) lines lines_fit))

  abbrev mid : Database
  mid = meant.ran.end

  at_row : (k : ℕ) → k < r → IsMeant mid (db.next + 2 * k) (line_reification (row_of q) ms first k)
  at_row k within =
      let m : Reification = line_reification (row_of q) ms first 0 in
      subst (IsMeant mid (db.next + 2 * k)) (get_or_append_left by_rows by_columns m k (omega (arith, row_size, within)) ∙ get_or-map-range_with_len (line_reification (row_of q) ms first) 0 r k k m within (omega arith))
      (meant_at mid db.next lines k m (omega (arith, size, within)) meant.meant)

  at_column : (k : ℕ) → k < q → IsMeant mid (db.next + 2 * r + 2 * k) (line_reification (column_of q) ms (first + r) k)
  at_column k within =
      let m : Reification = line_reification (row_of q) ms first 0 in
      subst (IsMeant mid (db.next + 2 * r + 2 * k)) (get_or-append-add by_rows by_columns k m ∙ get_or-map-range_with_len (line_reification (column_of q) ms (first + r)) 0 q k k m within (omega arith))
      (subst (λ (i : ℕ). IsMeant mid i (get_or lines (length by_rows + k) m)) (let e : db.next + 2 * (length by_rows + k) ≡ db.next + 2 * r + 2 * k = omega (arith, row_size) in e)
      (meant_at mid db.next lines (length by_rows + k) m (omega (arith, size, row_size, within)) meant.meant))

  abbrev rs : List Claim
  rs = cells_claims ms first r q db.next

  mid_vars : first + r + q ≤ mid.vars + 1
  mid_vars = omega (arith, ready.vars, meant.ran.later.vars)

  claims : All (IsClaim P mid) rs
  claims =
      let Q : Claim → Type 0 = IsClaim P mid in
      flat_each Q (cell_claims ms first r q db.next) 0 n (λ e low high.
      All-cons Q (line_claim (row_of q) ms first db.next e) (line_claim (column_of q) ms (first + r) (db.next + 2 * r) e ∷ [])
      (line_claims (row_of q) ms other few first below P mid first r db.next meant.ran.later.numbered (omega arith) (λ v h. omega (arith, h)) (omega (arith, mid_vars)) row_in at_row e (omega (arith, high)))
      (All-cons Q (line_claim (column_of q) ms (first + r) (db.next + 2 * r) e) []
      (line_claims (column_of q) ms other few first below P mid (first + r) q (db.next + 2 * r) meant.ran.later.numbered (omega arith) (λ v h. omega (arith, h)) (omega (arith, mid_vars)) column_in at_column e (omega (arith, high)))
      (All-nil Q)))

  cells_swept : RanSwept P mid (cells_steps ms first r q db.next mid.next) (cells ms first r q) (length rs)
  cells_swept =
      subst (λ (cs : List (List Lit)). RanSwept P mid (cells_steps ms first r q db.next mid.next) cs (length rs)) (cells-clauses ms first r q db.next 0 n)
      (claims_ran P mid rs meant.ran.later.numbered claims)

  abbrev db1 : Database
  db1 = cells_swept.ran.end

  abbrev later_cells : IsLater P mid db1
  later_cells = cells_swept.ran.later

  later_both : IsLater P db db1
  later_both = later_then P db mid db1 meant.ran.later later_cells

  forward_known : (i : ℕ) (m : Reification) → IsMeant mid i m → Knows db1 i (forward_of m)
  forward_known i m h = later_knows P mid db1 i (forward_of m) later_cells (known_below mid i (forward_of m) meant.ran.later.numbered h.first) h.first

  own : Knows db1 id (as_constraint (at_most_one ms))
  own = later_knows P db db1 id (as_constraint (at_most_one ms)) later_both (known_below db id (as_constraint (at_most_one ms)) ready.numbered ready.stands) ready.stands

  abbrev inner : ℕ
  inner = first + r + q

  abbrev last : ℕ
  last = inner + fresh_within more r

  abbrev fresh : ℕ
  fresh = r + q + fresh_within more r + fresh_within more q

  fit : r + q ≤ n
  fit = sides_fit n many

  rows_swept : RanSwept (λ v. v < last) db1 (rows_steps more ms first id db.next db1.next) (clauses_within more (line first r) inner) (count_by takes_id (rows_steps more ms first id db.next db1.next))
  rows_swept =
      side_swept more inductive (row_of q) ms other few (omega arith) first below first r inner id db.next db1 later_both.numbered own
      (λ j h. forward_known (db.next + 2 * j) (line_reification (row_of q) ms first j) (at_row j h)) row_in (omega (arith, fit, few)) (omega arith) (omega arith)
      (omega (arith, later_both.original, ready.original)) (omega (arith, later_both.vars, ready.vars))
      (λ v low high. later_both.unnamed v (λ h. omega (arith, h, low)) (ready.unnamed v (omega (arith, low)) (omega (arith, high))))

  abbrev db2 : Database
  db2 = rows_swept.ran.end

  columns_swept : RanSwept (λ v. v < last + fresh_within more q) db2 (columns_steps more ms first id db.next db2.next) (clauses_within more (line (first + r) q) last) (count_by takes_id (columns_steps more ms first id db.next db2.next))
  columns_swept =
      let later = rows_swept.ran.later in
      side_swept more inductive (column_of q) ms other few (omega arith) first below (first + r) q last id (db.next + 2 * r) db2 later.numbered
      (later_knows (λ v. v < last) db1 db2 id (as_constraint (at_most_one ms)) later (known_below db1 id (as_constraint (at_most_one ms)) later_both.numbered own) own)
      (λ j h.
      let m : Reification = line_reification (column_of q) ms (first + r) j in
      let known = forward_known (db.next + 2 * r + 2 * j) m (at_column j h) in
      later_knows (λ v. v < last) db1 db2 (db.next + 2 * r + 2 * j) (forward_of m) later (known_below db1 (db.next + 2 * r + 2 * j) (forward_of m) later_both.numbered known) known)
      column_in (omega (arith, fit, few)) (omega arith) (omega arith)
      (omega (arith, later.original, later_both.original, ready.original)) (omega (arith, later.vars, later_both.vars, ready.vars))
      (λ v low high. later.unnamed v (λ h. omega (arith, h, low)) (later_both.unnamed v (λ h. omega (arith, h, low)) (ready.unnamed v (omega (arith, low)) (omega (arith, high)))))

  abbrev Whole : ℕ → Type 0
  Whole v = v < first + fresh

  -- the clauses of the three parts
  abbrev all_clauses : List (List Lit)
  all_clauses = cells ms first r q ++ (clauses_within more (line first r) inner ++ clauses_within more (line (first + r) q) last)

  abbrev ids_between : ℕ
  ids_between = length rs + (count_by takes_id (rows_steps more ms first id db.next db1.next) + count_by takes_id (columns_steps more ms first id db.next db2.next))

  body_swept : RanSwept Whole mid (grid_body more ms first id db.next mid.next) all_clauses ids_between
  body_swept =
      let ds = clauses_within more (line first r) inner in
      let es = clauses_within more (line (first + r) q) last in
      let f = rows_steps more ms first id db.next in
      let g = columns_steps more ms first id db.next in
      let one : RanSwept Whole mid (cells_steps ms first r q db.next mid.next) (cells ms first r q) (length rs) = record {
        ran = record { end = db1; runs = cells_swept.ran.runs; later = later_wider P Whole (λ v h. omega (arith, h)) mid db1 later_cells; next = cells_swept.ran.next };
        swept = cells_swept.swept;
        unmarked = cells_swept.unmarked;
      } in
      let two : RanSwept Whole db1 (f db1.next) ds (count_by takes_id (f db1.next)) = record {
        ran = record { end = db2; runs = rows_swept.ran.runs; later = later_wider (λ v. v < last) Whole (λ v h. omega (arith, h)) db1 db2 rows_swept.ran.later; next = rows_swept.ran.next };
        swept = rows_swept.swept;
        unmarked = rows_swept.unmarked;
      } in
      let three : RanSwept Whole db2 (g db2.next) es (count_by takes_id (g db2.next)) = record {
        ran = record {
          end = columns_swept.ran.end;
          runs = columns_swept.ran.runs;
          later = later_wider (λ v. v < last + fresh_within more q) Whole (λ v h. omega (arith, h)) db2 columns_swept.ran.end columns_swept.ran.later;
          next = columns_swept.ran.next;
        };
        swept = columns_swept.swept;
        unmarked = columns_swept.unmarked;
      } in
      let back = followed_swept Whole db1 f g ds es (count_by takes_id (f db1.next)) (count_by takes_id (g db2.next)) two three in
      followed_swept Whole mid (cells_steps ms first r q db.next) (followed_by f g) (cells ms first r q) (ds ++ es) (length rs) (count_by takes_id (f db1.next) + count_by takes_id (g db2.next)) one back

  grid_swept : RanSwept Whole db (grid_steps more ms first id db.next) all_clauses (count_by takes_id (grid_steps more ms first id db.next))
  grid_swept =
      let start : mid.next ≡ db.next + 2 * (r + q) = omega (arith, meant.ran.next, size) in
      let body : List Step = grid_body more ms first id db.next (db.next + 2 * (r + q)) in
      let whole : Scoped Whole db (reification_steps db.next lines ++ (body ++ deletion_steps 2 db.next (r + q))) all_clauses (2 * length lines + ids_between) (2 * length lines) =
      scoped Whole db (reification_steps db.next lines) body all_clauses (2 * length lines) ids_between 2 (r + q)
      (record { end = mid; runs = meant.ran.runs; later = later_wider P Whole (λ v h. omega (arith, h)) db mid meant.ran.later; next = meant.ran.next }) ready.numbered (reifications_add db.next lines)
      (subst (λ (k : ℕ). RanSwept Whole mid (grid_body more ms first id db.next k) all_clauses ids_between) start body_swept) (omega (arith, size)) in
      swept_counted Whole db (grid_steps more ms first id db.next) all_clauses (2 * length lines + ids_between) whole.all

-- grids within grids
pub derivable : (k : ℕ) → HoldsWithin Derivable k
derivable =
    by_grids Derivable (λ ms other few first id below db ready. pairs_swept ms other first id below db ready)
    (λ more inductive ms many other few first id below db ready. grid_swept more inductive ms other few many first id below db ready)

-- ---- the family

pub product_derives : (c : BoundedSum) → c.bound ≡ 1 → all_weigh 1 c.terms ≡ true → IsOverDistinct c.terms → length c.terms < 2 ^ 31 → (first id : ℕ) (db : Database) → VarsBelow first c.terms → IsReadyFor c first (product_fresh (length c.terms)) id db
    → Derives db (product_steps (lits_of c.terms) first id db.next) (product_clauses (lits_of c.terms) first) (first + product_fresh (length c.terms))
product_derives c one units distinct few first id db below ready =
    let ms : List Lit = lits_of c.terms in
    let n : ℕ = length c.terms in
    let size : length ms ≡ n = length-map c.terms (λ (t : Weighted). t.lit) in
    let fresh : product_fresh (length ms) ≡ product_fresh n = ap product_fresh size in
    let own = of_lits c one units distinct first below in
    let steps : List Step = product_steps ms first id db.next in
    let ran = derivable (length ms) ms own.apart (omega (arith, size, few)) first id own.below db (subst (λ (m : BoundedSum). IsReadyFor m first (product_fresh (length ms)) id db) own.same (subst (λ (f : ℕ). IsReadyFor c first f id db) (sym fresh) ready)) in
    subst (λ (f : ℕ). Derives db steps (product_clauses ms first) (first + f)) fresh
    (swept_derives db steps (product_clauses ms first) (first + product_fresh (length ms)) (count_by takes_id steps) ready.numbered ran)
