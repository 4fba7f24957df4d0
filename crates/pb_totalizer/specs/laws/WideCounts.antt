-- How many lines the derivation of a large node by blocks has.
use Rattle.std.proofs.Common.{◌≡◌, ◌≤◌, ◌<◌, ◌+◌, ◌-◌, ◌*◌, ◌/◌, ◌++◌, ℕ, zero, suc, Bool, cond, List, length, refl, ap, sym, ◌∙◌, arith, length-append}
use Rattle.std.specs.Prelude.{sum_by, count_by}
use Rattle.std.specs.List.{range_with_len}
use Rattle.std.proofs.Math.Nat.{mul-le-mul_left, mul-le-mul_right}
use Rattle.std.proofs.lemmas.List.{length-map}
use Rattle.std.proofs.lemmas.List.FromFn.{length-map-range_with_len}
use Rattle.std.proofs.lemmas.List.Sums.{sum_by-cons}
use Rattle.pb_steps.specs.Steps.{takes_id}
use Rattle.pb_derive.specs.Claims.{claim_steps}
use Rattle.pb_derive.specs.Deletions.{deletion_steps}
use Rattle.pb_derive.proofs.Phases.{length-claims, length-deletions}
use Rattle.pb_tree.specs.Pairs.{Pair, pair_clause}
use Rattle.pb_tree.specs.Scheme.{values, fresh_of, output, own_of}
use Rattle.pb_tree.specs.Tree.{Tree, empty, leaf, node}
use Rattle.pb_tree.proofs.PairJustifications.{IsPositive}
use Rattle.pb_totalizer.specs.Exact.{outputs_of}
use Rattle.pb_totalizer.specs.OutputBlocks.{block_front_line, block_front_lines, block_tail_line, block_tail_lines, block_others_line, block_others_lines, narrow_line, narrow_lines}
use Rattle.pb_totalizer.specs.OutputRows.{front_line, front_lines, tail_line, tail_lines}
use Rattle.pb_totalizer.specs.OutputWindows.{last_of, blocks_of, wide_lines, wide_size, window_line, window_lines, window_count, first_number, number_count, block_pairs, wide_claim, block_claims, block_steps, blocks_steps, wide_node_steps}
use Rattle.pb_totalizer.specs.Totalizer.{is_within, totalizer, node_clause_count}
use Rattle.pb_totalizer.specs.OutputSteps.{before, input_count, totalizer_pairs}
use Rattle.pb_totalizer.specs.laws.ByPairs.{totalizer_by_pairs}
use Rattle.pb_totalizer.specs.laws.OutputCounts.{row-split, all-counted}
use Rattle.pb_totalizer.specs.laws.OutputParts.{IsFull}
use Rattle.pb_totalizer.specs.laws.TotalizerLaws.{values_length, within_from, totalizer_lawful}
use Rattle.pb_totalizer.specs.laws.WideBlocks.{pairs_from, all-blocks}

-- ---- a node has a clause for each number of half the outputs of either part

range-sum : (f : ℕ → ℕ) (j n m : ℕ) → sum_by f (range_with_len j n) ≤ sum_by f (range_with_len j (n + m))
range-sum f j zero m = omega arith
range-sum f j (suc n) m =
    omega (
      arith,
      sum_by-cons f j (range_with_len (j + 1) n),
      sum_by-cons f j (range_with_len (j + 1) (n + m)),
      range-sum f (j + 1) n m,
      ap (λ (k : ℕ). sum_by f (range_with_len j k)) (let e : suc (n + m) ≡ suc n + m = omega arith in e),
    )

each-least : (least : ℕ) (f : ℕ → ℕ) (j n : ℕ) → ((k : ℕ) → j ≤ k → k < j + n → least ≤ f k) → least * n ≤ sum_by f (range_with_len j n)
each-least least f j zero each = omega arith
each-least least f j (suc n) each =
    omega (arith, sum_by-cons f j (range_with_len (j + 1) n), each j (omega arith) (omega arith), each-least least f (j + 1) n (λ k from to. each k (omega (arith, from)) (omega (arith, to))))

half-row : (cap a b i : ℕ) → a ≤ cap → b ≤ cap → 1 ≤ i → i ≤ a / 2 → b / 2 ≤ count_by (is_within cap i) (range_with_len 0 (b + 1))
half-row cap a b i left right from to =
    let p : ℕ → Bool = is_within cap i in
    let all = all-counted p 1 (b / 2) (λ j low high. within_from cap i j (omega (arith, from)) (omega (arith, to, high, left, right))) in
    let more = range-sum (λ (k : ℕ). cond (p k) 1 0) 1 (b / 2) (b - b / 2) in
    let whole = ap (λ (n : ℕ). count_by p (range_with_len 1 n)) (let e : b / 2 + (b - b / 2) ≡ b = omega arith in e) in
    omega (arith, row-split cap b i, all, more, whole)

pub halves-from : (cap a b : ℕ) → a ≤ cap → b ≤ cap → (b / 2) * (a / 2) ≤ node_clause_count cap a b
halves-from cap a b left right =
    let f : ℕ → ℕ = λ i. count_by (is_within cap i) (range_with_len 0 (b + 1)) in
    let half = each-least (b / 2) f 1 (a / 2) (λ i from to. half-row cap a b i left right from (omega (arith, to))) in
    let more = range-sum f 1 (a / 2) (a - a / 2) in
    let whole = ap (λ (n : ℕ). sum_by f (range_with_len 1 n)) (let e : a / 2 + (a - a / 2) ≡ a = omega arith in e) in
    let all : node_clause_count cap a b ≡ f 0 + sum_by f (range_with_len 1 a) = ap (λ (n : ℕ). sum_by f (range_with_len 0 n)) (let e : a + 1 ≡ suc a = omega arith in e) ∙ sum_by-cons f 0 (range_with_len 1 a) in
    omega (arith, half, more, whole, all)

-- ---- lines

pub wide-lines-count : (bound : ℕ) (t : Tree) (first id next : ℕ) → length (wide_lines bound t first id next) ≡ wide_size bound t
wide-lines-count bound empty first id next = refl
wide-lines-count bound (leaf t) first id next = refl
wide-lines-count bound (node l r) first id next =
    let p : ℕ = first + before bound l r in
    let row : ℕ = id + 2 * before bound l r in
    let m : ℕ = input_count bound l r in
    let last : ℕ = last_of bound (node l r) in
    let tails : ℕ = next + suc last in
    let fronts : ℕ = tails + suc (suc last) in
    let behind : ℕ = fronts + suc last in
    let others = block_others_lines p last fronts behind in
    let narrows = narrow_lines last next tails in
    let backs = block_tail_lines p last behind in
    let heads = block_front_lines p row m last fronts in
    let ends = tail_lines p last tails in
    omega (
      arith,
      length-append (front_lines p row m last next) (ends ++ (heads ++ (backs ++ (others ++ narrows)))),
      length-append ends (heads ++ (backs ++ (others ++ narrows))),
      length-append heads (backs ++ (others ++ narrows)),
      length-append backs (others ++ narrows),
      length-append others narrows,
      length-map-range_with_len (front_line row m next) 0 last,
      length-map-range_with_len (tail_line p last tails) 0 (suc last),
      length-map-range_with_len (block_front_line row m fronts) 0 last,
      length-map-range_with_len (block_tail_line p last behind) 0 last,
      length-map-range_with_len (block_others_line last fronts behind) 0 (suc last),
      length-map-range_with_len (narrow_line last next tails) 0 (suc (last / 32)),
    )

pub wide-size-few : (bound : ℕ) (t : Tree) → IsFull t → 32 < outputs_of bound t → wide_size bound t ≤ 6 * outputs_of bound t
wide-size-few bound empty full large = absurd full
wide-size-few bound (leaf t) full large = omega (arith, large)
wide-size-few bound (node l r) full large = omega (arith, large)

pub blocks-count : (bound : ℕ) (l r : Tree) (first id next other k n at : ℕ)
    → length (blocks_steps bound l r first id next other k n at) ≡ n * (window_count bound r + 1) + 2 * length (pairs_from (bound + 1) (outputs_of bound r) (last_of bound l) k n)
blocks-count bound l r first id next other k zero at = omega arith
blocks-count bound l r first id next other k (suc n) at =
    let windows = window_lines bound l r id next other k in
    let count : ℕ = window_count bound r in
    let claims = block_claims bound l r first next other at k in
    let here = block_pairs (bound + 1) (outputs_of bound r) (first_number k) (number_count (last_of bound l) k) in
    let one = block_steps bound l r first id next other k at in
    let next_at : ℕ = at + count_by takes_id one in
    let more : suc n * (count + 1) ≡ n * (count + 1) + count + 1 = omega arith in
    omega (
      arith,
      more,
      length-append one (blocks_steps bound l r first id next other (suc k) n next_at),
      length-append windows (claim_steps (at + count) claims ++ deletion_steps count at 1),
      length-append (claim_steps (at + count) claims) (deletion_steps count at 1),
      length-map-range_with_len (window_line bound l r id next other k) 0 count,
      length-claims (at + count) claims,
      length-map here (wide_claim bound l r first next other at k (input_count bound l r)),
      length-deletions count at 1,
      blocks-count bound l r first id next other (suc k) n next_at,
      length-append here (pairs_from (bound + 1) (outputs_of bound r) (last_of bound l) (suc k) n),
    )

pub own-pairs : (bound : ℕ) (l r : Tree) (first : ℕ) → length (totalizer_pairs (bound + 1) (values (totalizer bound) l) (values (totalizer bound) r)) ≡ length (own_of (totalizer bound) l r first)
own-pairs bound l r first =
    let pairs = totalizer_pairs (bound + 1) (values (totalizer bound) l) (values (totalizer bound) r) in
    let f = output (totalizer bound) l first in
    let g = output (totalizer bound) r (first + fresh_of (totalizer bound) l) in
    let h = output (totalizer bound) (node l r) first in
    let some_l : IsPositive (totalizer bound) l = λ u listed. omega arith in
    let some_r : IsPositive (totalizer bound) r = λ u listed. omega arith in
    sym (ap length ((totalizer_by_pairs bound).merged l r some_l some_r f g h) ∙ length-map pairs (pair_clause (bound + 1) f g h))

-- ---- a node whose parts both have more outputs than a block

-- it has many clauses
pub record AreMany (bound : ℕ) (l r : Tree) (own : ℕ) : Type 0 where
  pub blocks : 64 * (blocks_of bound r * blocks_of bound l) ≤ own
  pub rows : blocks_of bound l ≤ blocks_of bound r * blocks_of bound l
  pub outputs : 4 * (outputs_of bound l + outputs_of bound r) ≤ own + 8
  pub some : 256 ≤ own

pub own-many : (bound : ℕ) (l r : Tree) (first : ℕ) → 32 < outputs_of bound l → 32 < outputs_of bound r → AreMany bound l r (length (own_of (totalizer bound) l r first))
own-many bound l r first large wide =
    let a : ℕ = outputs_of bound l in
    let b : ℕ = outputs_of bound r in
    let k : ℕ = blocks_of bound l in
    let j : ℕ = blocks_of bound r in
    let x : ℕ = a / 2 in
    let y : ℕ = b / 2 in
    let counted = (totalizer_lawful bound).counted l r (output (totalizer bound) l first) (output (totalizer bound) r (first + fresh_of (totalizer bound) l)) (output (totalizer bound) (node l r) first) in
    let area : y * x ≤ length (own_of (totalizer bound) l r first) = omega (arith, counted, halves-from (bound + 1) a b (values_length bound l) (values_length bound r)) in
    let tall : 8 * k ≤ x = omega (arith, large) in
    let broad : 8 * j ≤ y = omega (arith, wide) in
    let fits : 8 * j * (8 * k) ≤ y * (8 * k) = mul-le-mul_right (8 * k) broad in
    let also : y * (8 * k) ≤ y * x = mul-le-mul_left y tall in
    let product : 8 * j * (8 * k) ≡ 64 * (j * k) = omega arith in
    let one : 1 * k ≤ j * k = mul-le-mul_right k (omega arith) in
    let columns : y * 16 ≤ y * x = mul-le-mul_left y (omega (arith, large)) in
    let lines : 16 * x ≤ y * x = mul-le-mul_right x (omega (arith, wide)) in
    record {
      blocks = omega (arith, area, fits, also, product);
      rows = omega (arith, one);
      outputs = omega (arith, area, columns, lines);
      some = omega (arith, area, lines, large);
    }

-- the windows of its blocks
pub windows-all : (bound : ℕ) (l r : Tree) → blocks_of bound l * window_count bound r ≡ 65 * (blocks_of bound r * blocks_of bound l)
windows-all bound l r = let k : ℕ = blocks_of bound l in let j : ℕ = blocks_of bound r in (let e : k * (65 * j) ≡ 65 * (j * k) = omega arith in e)

pub wide-few : (bound : ℕ) (l r : Tree) (first id next : ℕ) → IsFull (node l r) → 32 < outputs_of bound l → 32 < outputs_of bound r → length (wide_node_steps bound l r first id next) ≤ 5 * length (own_of (totalizer bound) l r first) + 3 * outputs_of bound (node l r)
wide-few bound l r first id next full large wide =
    let k : ℕ = blocks_of bound l in
    let j : ℕ = blocks_of bound r in
    let middle : ℕ = first + fresh_of (totalizer bound) l in
    let right_id : ℕ = id + 2 * fresh_of (totalizer bound) l in
    let other : ℕ = next + wide_size bound l in
    let size : ℕ = wide_size bound l + wide_size bound r in
    let lefts = wide_lines bound l first id next in
    let rights = wide_lines bound r middle right_id other in
    let blocks = blocks_steps bound l r first id next other 0 k (next + size) in
    let many = own-many bound l r first large wide in
    let windows : k * (window_count bound r + 1) ≡ 65 * (j * k) + k = omega arith in
    omega (
      arith,
      length-append (lefts ++ rights) (blocks ++ deletion_steps size next 1),
      length-append lefts rights,
      length-append blocks (deletion_steps size next 1),
      length-deletions size next 1,
      wide-lines-count bound l first id next,
      wide-lines-count bound r middle right_id other,
      wide-size-few bound l full.0 large,
      wide-size-few bound r full.1 wide,
      blocks-count bound l r first id next other 0 k (next + size),
      ap (λ (ps : List Pair). length ps) (all-blocks bound l r (omega (arith, large))),
      own-pairs bound l r first,
      many.blocks,
      many.rows,
      many.outputs,
      many.some,
      windows,
    )
