-- The lines of a grid's derivation are few, within their limits, and short.
use Rattle.std.proofs.Common.{◌≡◌, ◌≤◌, ◌<◌, ◌+◌, ◌*◌, ◌/◌, ◌%◌, ◌^◌, ℕ, Bool, true, List, [], ◌∷◌, ◌++◌, length, length-append, refl, ap, subst, arith}
use Rattle.std.specs.Prelude.{All, map, sum_by, count_by}
use Rattle.std.specs.List.{range_with_len}
use Rattle.std.proofs.Math.Nat.{mul-le-mul_right}
use Rattle.std.proofs.lemmas.Nat.{mod_below}
use Rattle.std.proofs.lemmas.List.{length-map}
use Rattle.std.proofs.lemmas.List.FromFn.{length-map-range_with_len}
use Rattle.std.proofs.lemmas.List.Elements.{All-nil, All-cons, All-map, All-weaker, All-from_recursion, recursion_from_All}
use Rattle.std.proofs.lemmas.List.Sums.{count_by-le-length}
use Rattle.pb_base.specs.declared.literal.Lit.{Lit}
use Rattle.pb_base.specs.Literals.{negated}
use Rattle.pb_norm.specs.Constraints.{Weighted}
use Rattle.pb_norm.specs.Reduction.{lits_of}
use Rattle.pb_steps.specs.declared.step.Step.{Step}
use Rattle.pb_steps.specs.declared.step.Step.TheVariants.{Del}
use Rattle.pb_steps.specs.Steps.{takes_id}
use Rattle.pb_steps.specs.Sayable.{IsId, IsVariable, IsOp, IsSayable}
use Rattle.pb_steps.specs.StepSizes.{step_size}
use Rattle.pb_derive.specs.Claims.{Claim, claim_steps}
use Rattle.pb_derive.specs.Deletions.{deletion_steps}
use Rattle.pb_derive.specs.Reifications.{Reification, reification_steps}
use Rattle.pb_derive.specs.Ones.{unit_of}
use Rattle.pb_derive.specs.Justifications.{adding}
use Rattle.pb_derive.specs.Rups.{by_rup}
use Rattle.pb_derive.specs.Short.{AreShort}
use Rattle.pb_derive.proofs.Fine.{AreFine, fine_cons, fine_append, fine_within, fine_short, fine_claims, fine_reifications, fine_deletions}
use Rattle.pb_derive.proofs.Phases.{length-reifications, length-claims, length-deletions}
use Rattle.pb_derive.proofs.Rups.{ones-weight}
use Rattle.pb_derive.proofs.Sayable.{IsSlimTerm, IsSlimReification, rup_sayable}
use Rattle.pb_derive.proofs.Sizes.{adding-size, rup-size}
use Rattle.pb_derive.proofs.Summed.{adding-all}
use Rattle.pb_derive.proofs.UnitTerms.{ones-all, ones-sum}
use Rattle.pb_family.specs.Derivations.{AreOriginal, MayStart}
use Rattle.pb_family.specs.Fresh.{positive_of, literal_at, fresh_at}
use Rattle.pb_family.proofs.FlatRanges.{flat_each, length-flat_range}
use Rattle.pb_family.proofs.Limits.{variables_of}
use Rattle.pb_family.proofs.Ranges.{range_each}
use Rattle.pb_family.proofs.Sequence.{claims_ids}
use Rattle.pb_amo.specs.Pairwise.{pair_count, pairwise_clauses}
use Rattle.pb_amo.specs.PairwiseSteps.{pairwise_claims, pairwise_steps}
use Rattle.pb_amo.specs.Passing.{passing, in_line}
use Rattle.pb_amo.specs.Product.{rows, columns, line, fresh_within, count_within, product_fresh, product_count}
use Rattle.pb_amo.specs.ProductSteps.{line_reification, line_reifications, line_claim, line_sum, side_steps, row_of, column_of, grid_reifications, cell_claims, cells_claims, cells_steps, steps_within, product_steps}
use Rattle.pb_amo.specs.laws.GridCounts.{count_linear}
use Rattle.pb_amo.specs.laws.GridSides.{columns_positive, rows_positive, row_within, sides_fit}
use Rattle.pb_amo.specs.laws.LineLaws.{length-line, lines_each}
use Rattle.pb_amo.specs.laws.PairwiseLaws.{pairs_count}
use Rattle.pb_amo.specs.laws.PairwiseShort.{pairs_fine}
use Rattle.pb_amo.specs.laws.PassingSums.{passing-all, passing-le}
use Rattle.pb_amo.specs.laws.GridCases.{rows_steps, columns_steps, grid_steps, HoldsWithin, by_grids}

-- ---- how many there are

pub cells_count : (ms : List Lit) (first r q base : ℕ) → length (cells_claims ms first r q base) ≡ 2 * length ms
cells_count ms first r q base = omega (arith, length-flat_range (cell_claims ms first r q base) 2 0 (length ms) (λ e. refl))

pub cells_ids : (ms : List Lit) (first r q base id : ℕ) → count_by takes_id (claim_steps id (cells_claims ms first r q base)) ≡ 2 * length ms
cells_ids ms first r q base id =
    let Takes : Claim → Type 0 = λ c. takes_id c.step ≡ true in
    omega (
      arith,
      cells_count ms first r q base,
      claims_ids id (cells_claims ms first r q base) (flat_each Takes (cell_claims ms first r q base) 0 (length ms) (λ e above to.
          All-cons Takes (line_claim (row_of q) ms first base e) (line_claim (column_of q) ms (first + r) (base + 2 * r) e ∷ []) refl
          (All-cons Takes (line_claim (column_of q) ms (first + r) (base + 2 * r) e) [] refl (All-nil Takes)))),
    )

pub reifications_count : (ms : List Lit) (first r q : ℕ) → length (grid_reifications ms first r q) ≡ r + q
reifications_count ms first r q =
    omega (
      arith,
      length-append (line_reifications (row_of q) ms first r) (line_reifications (column_of q) ms (first + r) q),
      length-map-range_with_len (line_reification (row_of q) ms first) 0 r,
      length-map-range_with_len (line_reification (column_of q) ms (first + r)) 0 q,
    )

pairs_lines : (id next : ℕ) (ms : List Lit) → length (pairwise_steps ms id next) ≡ 2 * pair_count (length ms)
pairs_lines id next ms = omega (arith, length-claims next (pairwise_claims ms id), length-map (pairwise_clauses ms) (by_rup (id ∷ [])), pairs_count ms)

side_lines : (sum : Step) (inner : ℕ → ℕ → List Step) (next : ℕ) → length (side_steps sum inner next) ≡ 2 + length (inner next (next + 1))
side_lines sum inner next = omega (arith, length-append (inner next (next + 1)) (deletion_steps 1 next 1), length-deletions 1 next 1)

abbrev FewLines : List Lit → ℕ → ℕ → (ℕ → List (List Lit)) → (ℕ → ℕ → ℕ → List Step) → Type 0
FewLines ms fresh count clauses steps = (first id next : ℕ) → length (steps first id next) ≤ 8 * fresh + 2 * count

pub lines_within : (k : ℕ) (ms : List Lit) (first id next : ℕ) → length (steps_within k ms first id next) ≤ 8 * fresh_within k (length ms) + 2 * count_within k (length ms)
lines_within = by_grids FewLines (λ ms first id next. omega (arith, pairs_lines id next ms)) (λ more below ms many first id next.
    let n : ℕ = length ms in
    let r : ℕ = rows n in
    let q : ℕ = columns n in
    let inner : ℕ = first + r + q in
    let last : ℕ = inner + fresh_within more r in
    let k0 : ℕ = next + 2 * (r + q) in
    let ss : List Step = cells_steps ms first r q next k0 in
    let k1 : ℕ = k0 + count_by takes_id ss in
    let ts : List Step = rows_steps more ms first id next k1 in
    let k2 : ℕ = k1 + count_by takes_id ts in
    let us : List Step = columns_steps more ms first id next k2 in
    omega (
      arith,
      length-append (reification_steps next (grid_reifications ms first r q)) ((ss ++ (ts ++ us)) ++ deletion_steps 2 next (r + q)),
      length-append (ss ++ (ts ++ us)) (deletion_steps 2 next (r + q)),
      length-append ss (ts ++ us),
      length-append ts us,
      length-reifications next (grid_reifications ms first r q),
      reifications_count ms first r q,
      length-deletions 2 next (r + q),
      length-claims k0 (cells_claims ms first r q next),
      cells_count ms first r q next,
      side_lines (line_sum id next r) (steps_within more (line first r) inner) k1,
      side_lines (line_sum id (next + 2 * r) q) (steps_within more (line (first + r) q) last) k2,
      below (line first r) inner k1 (k1 + 1),
      below (line (first + r) q) last k2 (k2 + 1),
      ap (fresh_within more) (length-line first r),
      ap (fresh_within more) (length-line (first + r) q),
      ap (count_within more) (length-line first r),
      ap (count_within more) (length-line (first + r) q),
      columns_positive n (omega arith),
      rows_positive n (omega arith),
    ))

pub product_few : (ts : List Weighted) (first id next : ℕ) → length (product_steps (lits_of ts) first id next) ≤ 8 * (product_fresh (length ts) + product_count (length ts))
product_few ts first id next =
    let size : length (lits_of ts) ≡ length ts = length-map ts (λ (t : Weighted). t.lit) in
    omega (arith, lines_within (length (lits_of ts)) (lits_of ts) first id next, ap product_fresh size, ap product_count size)

-- ---- within a grid of at most N literals

abbrev IsFine : ℕ → ℕ → ℕ → List Step → Type 0
IsFine N fresh count steps = AreFine (300 + 53 * N) (120 * (N * fresh) + 1000 * (fresh + count)) steps

-- ---- a side

sum_fine : (N id base w : ℕ) → IsId id → 1 ≤ base → base + 2 * w < 2 ^ 63 → w ≤ N → IsSayable (line_sum id base w) × (step_size (line_sum id base w) ≤ 26 + 22 * w)
sum_fine N id base w given low high few =
    let ids : List ℕ = map (λ k. base + 2 * k) (range_with_len 0 w) in
    let known : All IsId (id ∷ ids) = All-cons IsId id ids given (range_each IsId (λ k. base + 2 * k) 0 w (λ k from to. ((let one : 1 ≤ base + 2 * k = omega (arith, low) in one), (let below : base + 2 * k < 2 ^ 63 = omega (arith, to, high) in below)))) in (
      recursion_from_All IsOp (adding (id ∷ ids)) (adding-all IsOp id ids known tt),
      omega (arith, adding-size (id ∷ ids), length-map-range_with_len (λ k. base + 2 * k) 0 w),
    )

one_deleted : (next : ℕ) → IsId next → All IsSayable (deletion_steps 1 next 1)
one_deleted next is = All-cons IsSayable (Del (next ∷ [])) [] ((is, tt), (λ e. cc)) (All-nil IsSayable)

-- a list between two steps
abbrev IsSide : ℕ → ℕ → ℕ → ℕ → List Step → Type 0
IsSide N w fresh count steps = AreFine (300 + 53 * N) (120 * (N * fresh) + 1000 * (fresh + count) + 22 * w + 50) steps

side_fine : (N id base w next fresh count : ℕ) (inner : ℕ → ℕ → List Step) → IsId id → 1 ≤ base → base + 2 * w < 2 ^ 63 → w ≤ N → IsId next → IsFine N fresh count (inner next (next + 1)) → IsSide N w fresh count (side_steps (line_sum id base w) inner next)
side_fine N id base w next fresh count inner given low high few own h =
    let most : ℕ = 300 + 53 * N in
    let part : ℕ = 120 * (N * fresh) + 1000 * (fresh + count) in
    let sum = sum_fine N id base w given low high few in
    let ss : List Step = inner next (next + 1) in
    let ds : List Step = deletion_steps 1 next 1 in
    let Fits : Step → Type 0 = λ s. step_size s ≤ most in
    let del : step_size (Del (next ∷ [])) ≡ 24 = refl in
    let last : sum_by step_size ds ≡ 24 = refl in
    let gone : AreFine most 24 ds = record { sayable = one_deleted next own; each = All-cons Fits (Del (next ∷ [])) [] (omega (arith, del)) (All-nil Fits); all_sized = omega (arith, last) } in
    fine_within most most (step_size (line_sum id base w) + (part + 24)) (part + 22 * w + 50) (line_sum id base w ∷ (ss ++ ds)) (omega arith) (omega (arith, sum.1))
    (fine_cons most (part + 24) (line_sum id base w) (ss ++ ds) sum.0 (omega (arith, sum.1, few)) (fine_append most part 24 ss ds h gone))

-- ---- a grid

-- from each start that has room, the steps are fine
abbrev Fine : ℕ → List Lit → ℕ → ℕ → (ℕ → List (List Lit)) → (ℕ → ℕ → ℕ → List Step) → Type 0
Fine N ms fresh count clauses steps =
    All (λ l. IsVariable l.var) ms → length ms ≤ N → length ms < 2 ^ 31 → (first id next : ℕ) → 1 ≤ first → first + fresh ≤ 2 ^ 31 → IsId id → 1 ≤ next → next + (8 * fresh + 2 * count) < 2 ^ 63 → IsFine N fresh count (steps first id next)

line_variables : (first w : ℕ) → 1 ≤ first → first + w ≤ 2 ^ 31 → All (λ l. IsVariable l.var) (line first w)
line_variables first w low high =
    range_each (λ (l : Lit). IsVariable l.var) (fresh_at first) 0 w (λ k from to. ((let one : 1 ≤ first + k = omega (arith, low) in one), (let below : first + k < 2 ^ 31 = omega (arith, to, high) in below)))

-- the step of a clause of two literals by one id
abbrev IsFineClaim : Claim → Type 0
IsFineClaim c = IsSayable c.step × (step_size c.step ≤ 175)

module _ (N : ℕ) (ms : List Lit) (vars : All (λ l. IsVariable l.var) ms) (within : length ms ≤ N) (small : length ms < 2 ^ 31) where
  passing_few : (p : ℕ → Bool) → length (passing p 0 ms) ≤ length ms
  passing_few p =
      let c : Weighted → ℕ = λ t. t.coef in
      omega (arith, ones-weight (passing p 0 ms), ones-sum c (passing p 0 ms), passing-le (λ (l : Lit). c (unit_of l)) p 0 ms, ones-sum c ms, ones-weight ms)

  reification_slim : (side : ℕ → ℕ) (from k : ℕ) → IsVariable (from + k) → IsSlimReification (line_reification side ms from k)
  reification_slim side from k is = record {
    sum = ones-all IsSlimTerm (passing (in_line side k) 0 ms)
        (All-weaker (λ (l : Lit). IsVariable l.var) (λ (l : Lit). IsSlimTerm (unit_of l)) (λ l h. ((let one : 1 < 2 ^ 126 = omega arith in one), h)) (passing (in_line side k) 0 ms) (passing-all (λ (l : Lit). IsVariable l.var) (in_line side k) 0 ms vars));
    var = is;
    light = omega (arith, ones-weight (passing (in_line side k) 0 ms), passing_few (in_line side k), small);
  }

  reification_few : (side : ℕ → ℕ) (from k : ℕ) → length (line_reification side ms from k).sum ≤ N
  reification_few side from k = omega (arith, length-map (passing (in_line side k) 0 ms) unit_of, passing_few (in_line side k), within)

  claim_fine : (side : ℕ → ℕ) (from base e : ℕ) → e < length ms → IsVariable (from + side e) → IsId (base + 2 * side e + 1) → IsFineClaim (line_claim side ms from base e)
  claim_fine side from base e inside line is =
      let clause : List Lit = negated (literal_at ms e) ∷ fresh_at from (side e) ∷ [] in
      let ids : List ℕ = (base + 2 * side e + 1) ∷ [] in (
        rup_sayable ids clause (All-cons IsId (base + 2 * side e + 1) [] is (All-nil IsId)) (All-from_recursion (λ (l : Lit). IsVariable l.var) clause (vars e (positive_of 0) inside, (line, tt))),
        rup-size ids clause,
      )

-- the same of a line of fresh variables
line_fine : (N more : ℕ) → HoldsWithin (Fine N) more → (first w : ℕ) → 1 ≤ first → first + w ≤ 2 ^ 31 → w ≤ N → w < 2 ^ 31 → (inner id next : ℕ) → 1 ≤ inner → inner + fresh_within more w ≤ 2 ^ 31 → IsId id → 1 ≤ next →
    next + (8 * fresh_within more w + 2 * count_within more w) < 2 ^ 63 → IsFine N (fresh_within more w) (count_within more w) (steps_within more (line first w) inner id next)
line_fine N more fine first w low high =
    subst (λ (m : ℕ). m ≤ N → m < 2 ^ 31 → (inner id next : ℕ) → 1 ≤ inner → inner + fresh_within more m ≤ 2 ^ 31 → IsId id → 1 ≤ next → next + (8 * fresh_within more m + 2 * count_within more m) < 2 ^ 63
    → IsFine N (fresh_within more m) (count_within more m) (steps_within more (line first w) inner id next)) (length-line first w) (fine (line first w) (line_variables first w low high))

module _ (N more : ℕ) (fine : HoldsWithin (Fine N) more) (ms : List Lit) (vars : All (λ l. IsVariable l.var) ms) (within : length ms ≤ N) (small : length ms < 2 ^ 31) (many : 4 < length ms) (first id next : ℕ) (low : 1 ≤ first)
    (fits : first + (rows (length ms) + columns (length ms) + fresh_within more (rows (length ms)) + fresh_within more (columns (length ms))) ≤ 2 ^ 31) (given : IsId id) (from : 1 ≤ next)
    (high : next + (8 * (rows (length ms) + columns (length ms) + fresh_within more (rows (length ms)) + fresh_within more (columns (length ms)))
    + 2 * (2 * length ms + count_within more (rows (length ms)) + count_within more (columns (length ms)))) < 2 ^ 63) where
  abbrev n : ℕ
  n = length ms

  abbrev r : ℕ
  r = rows n

  abbrev q : ℕ
  q = columns n

  abbrev lines : List Reification
  lines = grid_reifications ms first r q

  abbrev rs : List Claim
  rs = cells_claims ms first r q next

  some : 0 < q
  some = columns_positive n (omega (arith, many))

  fit : r + q ≤ n
  fit = sides_fit n many

  lines_slim : All IsSlimReification lines
  lines_slim =
      lines_each IsSlimReification ms first r q
      (λ k to. reification_slim N ms vars within small (row_of q) first k ((let one : 1 ≤ first + k = omega (arith, low) in one), (let below : first + k < 2 ^ 31 = omega (arith, to, fits) in below)))
      (λ k to. reification_slim N ms vars within small (column_of q) (first + r) k ((let one : 1 ≤ first + r + k = omega (arith, low) in one), (let below : first + r + k < 2 ^ 31 = omega (arith, to, fits) in below)))

  lines_few : All (λ m. length m.sum ≤ N) lines
  lines_few = lines_each (λ m. length m.sum ≤ N) ms first r q (λ k to. reification_few N ms vars within small (row_of q) first k) (λ k to. reification_few N ms vars within small (column_of q) (first + r) k)

  rs_fine : All IsFineClaim rs
  rs_fine =
      flat_each IsFineClaim (cell_claims ms first r q next) 0 n (λ e above to.
      let row : e / q < r = row_within n e (omega (arith, to)) in
      let column : e % q < q = mod_below e q some in
      All-cons IsFineClaim (line_claim (row_of q) ms first next e) (line_claim (column_of q) ms (first + r) (next + 2 * r) e ∷ [])
      (claim_fine N ms vars within small (row_of q) first next e (omega (arith, to)) ((let one : 1 ≤ first + e / q = omega (arith, low) in one), (let below : first + e / q < 2 ^ 31 = omega (arith, row, fits) in below))
      ((let one : 1 ≤ next + 2 * (e / q) + 1 = omega arith in one), (let below : next + 2 * (e / q) + 1 < 2 ^ 63 = omega (arith, row, high) in below)))
      (All-cons IsFineClaim (line_claim (column_of q) ms (first + r) (next + 2 * r) e) []
      (claim_fine N ms vars within small (column_of q) (first + r) (next + 2 * r) e (omega (arith, to)) ((let one : 1 ≤ first + r + e % q = omega (arith, low) in one), (let below : first + r + e % q < 2 ^ 31 = omega (arith, column, fits) in below))
      ((let one : 1 ≤ next + 2 * r + 2 * (e % q) + 1 = omega arith in one), (let below : next + 2 * r + 2 * (e % q) + 1 < 2 ^ 63 = omega (arith, column, high) in below)))
      (All-nil IsFineClaim)))

  abbrev k0 : ℕ
  k0 = next + 2 * (r + q)

  -- ---- the sides

  abbrev ss : List Step
  ss = claim_steps k0 rs

  abbrev k1 : ℕ
  k1 = k0 + count_by takes_id ss

  k1_is : k1 ≡ next + 2 * (r + q) + 2 * n
  k1_is = omega (arith, cells_ids ms first r q next k0)

  abbrev inner : ℕ
  inner = first + r + q

  abbrev last : ℕ
  last = inner + fresh_within more r

  abbrev ts : List Step
  ts = rows_steps more ms first id next k1

  abbrev k2 : ℕ
  k2 = k1 + count_by takes_id ts

  k2_most : k2 ≤ next + 2 * (r + q) + 2 * n + 2 + 8 * fresh_within more r + 2 * count_within more r
  k2_most =
      omega (
        arith,
        k1_is,
        count_by-le-length takes_id ts,
        side_lines (line_sum id next r) (steps_within more (line first r) inner) k1,
        lines_within more (line first r) inner k1 (k1 + 1),
        ap (fresh_within more) (length-line first r),
        ap (count_within more) (length-line first r),
      )

  abbrev us : List Step
  us = columns_steps more ms first id next k2

  rows_fine : IsSide N r (fresh_within more r) (count_within more r) ts
  rows_fine =
      let named : IsId k1 = ((let one : 1 ≤ k1 = omega (arith, k1_is, from) in one), (let below : k1 < 2 ^ 63 = omega (arith, k1_is, high) in below)) in
      side_fine N id next r k1 (fresh_within more r) (count_within more r) (steps_within more (line first r) inner) given from (omega (arith, high)) (omega (arith, fit, within)) named
      (line_fine N more fine first r low (omega (arith, fits)) (omega (arith, fit, within)) (omega (arith, fit, small)) inner k1 (k1 + 1) (omega (arith, low)) (omega (arith, fits)) named (omega arith) (omega (arith, k1_is, high, some)))

  columns_fine : IsSide N q (fresh_within more q) (count_within more q) us
  columns_fine =
      let named : IsId k2 = ((let one : 1 ≤ k2 = omega (arith, k1_is, from) in one), (let below : k2 < 2 ^ 63 = omega (arith, k2_most, high, some) in below)) in
      side_fine N id (next + 2 * r) q k2 (fresh_within more q) (count_within more q) (steps_within more (line (first + r) q) last) given (omega (arith, from)) (omega (arith, high)) (omega (arith, fit, within)) named
      (line_fine N more fine (first + r) q (omega (arith, low)) (omega (arith, fits)) (omega (arith, fit, within)) (omega (arith, fit, small)) last k2 (k2 + 1) (omega (arith, low)) (omega (arith, fits)) named (omega arith) (omega (arith, k2_most, high, some)))

  -- ---- all of it

  grid_fine : IsFine N (r + q + fresh_within more r + fresh_within more q) (2 * n + count_within more r + count_within more q) (grid_steps more ms first id next)
  grid_fine =
      let most : ℕ = 300 + 53 * N in
      let ds : List Step = deletion_steps 2 next (r + q) in
      let size : length lines ≡ r + q = reifications_count ms first r q in
      let part : ℕ → ℕ → ℕ → ℕ = λ w fresh count. 120 * (N * fresh) + 1000 * (fresh + count) + 22 * w + 50 in
      let by_rows : ℕ = part r (fresh_within more r) (count_within more r) in
      let by_columns : ℕ = part q (fresh_within more q) (count_within more q) in
      let a : ℕ = (238 + 106 * N) * length lines in
      let b : ℕ = (175 + 24) * length rs in
      let one = fine_reifications most N next lines (omega arith) from (omega (arith, size, high)) lines_slim lines_few in
      let two = fine_claims most 175 k0 rs (omega arith) (omega arith) (omega (arith, from)) (omega (arith, cells_count ms first r q next, high)) (All-weaker IsFineClaim (λ (c : Claim). IsSayable c.step) (λ c h. h.0) rs rs_fine)
      (All-weaker IsFineClaim (λ (c : Claim). step_size c.step ≤ 175) (λ c h. h.1) rs rs_fine) in
      let three = fine_deletions most next (r + q) (omega arith) from (omega (arith, high)) in
      fine_within most most (a + (b + (by_rows + by_columns) + 44 * (r + q))) _ (grid_steps more ms first id next) (omega arith)
      (omega (arith, ap (λ (m : ℕ). (238 + 106 * N) * m) size, cells_count ms first r q next, mul-le-mul_right (r + q) within, some))
      (fine_append most a (b + (by_rows + by_columns) + 44 * (r + q)) (reification_steps next lines) ((ss ++ (ts ++ us)) ++ ds) one
      (fine_append most (b + (by_rows + by_columns)) (44 * (r + q)) (ss ++ (ts ++ us)) ds (fine_append most b (by_rows + by_columns) ss (ts ++ us) two (fine_append most by_rows by_columns ts us rows_fine columns_fine)) three))

-- ---- grids within grids

fine_all : (N k : ℕ) → HoldsWithin (Fine N) k
fine_all N =
    by_grids (Fine N) (λ ms vars within small first id next low fits given from high. fine_within 175 (300 + 53 * N) (199 * pair_count (length ms)) (120 * (N * 0) + 1000 * (0 + pair_count (length ms))) (pairwise_steps ms id next) (omega arith) (omega arith) (pairs_fine ms id next vars given from (omega (arith, high))))
    (λ more fine ms many vars within small first id next low fits given from high. grid_fine N more fine ms vars within small many first id next low fits given from high)

-- ---- the family

module _ (terms : List Weighted) (first id next : ℕ) (original : AreOriginal first terms) (start : MayStart first (product_fresh (length terms)) id next) (few : length terms < 2 ^ 31) where
  product_fine : IsFine (length terms) (product_fresh (length terms)) (product_count (length terms)) (product_steps (lits_of terms) first id next)
  product_fine =
      let n : ℕ = length terms in
      let ms : List Lit = lits_of terms in
      let size : length ms ≡ n = length-map terms (λ (t : Weighted). t.lit) in
      let given = start.given in
      let known = start.known in
      let above = start.few in
      let fits = start.fits in
      let vars = All-map (λ (l : Lit). IsVariable l.var) (λ (t : Weighted). t.lit) terms (variables_of first (product_fresh n) id next terms original start) in
      subst (λ (m : ℕ). IsFine n (product_fresh m) (product_count m) (product_steps ms first id next)) size
      (fine_all n (length ms) ms vars (omega (arith, size)) (omega (arith, size, few)) first id next start.low (omega (arith, fits, ap product_fresh size)) (given, (let b : id < 2 ^ 63 = omega (arith, known, above) in b)) (omega (arith, given, known))
      (omega (arith, above, fits, start.low, ap product_fresh size, ap product_count size, count_linear n n (omega arith), few)))

  pub product_sayable : All IsSayable (product_steps (lits_of terms) first id next)
  product_sayable = product_fine.sayable

  pub product_short : length terms ≤ 2 ^ 21 → AreShort (length terms) (product_fresh (length terms)) (product_count (length terms)) (product_steps (lits_of terms) first id next)
  product_short narrow =
      let n : ℕ = length terms in
      fine_short (300 + 53 * n) (120 * (n * product_fresh n) + 1000 * (product_fresh n + product_count n)) n (product_fresh n) (product_count n) (product_steps (lits_of terms) first id next) (omega (arith, narrow)) (omega arith) product_fine
