-- How many lines there are for the clauses of a node.
use Rattle.std.proofs.Common.{◌≡◌, ◌≤◌, ◌<◌, ◌+◌, ◌-◌, ◌*◌, ◌++◌, ℕ, zero, suc, Bool, true, cond, length, refl, ap, sym, ◌∙◌, arith, length-append}
use Rattle.std.specs.Prelude.{sum_by, count_by}
use Rattle.std.specs.List.{range_with_len}
use Rattle.std.proofs.lemmas.List.{length-map}
use Rattle.std.proofs.lemmas.List.FromFn.{length-map-range_with_len}
use Rattle.std.proofs.lemmas.List.Sums.{sum_by-cons}
use Rattle.pb_derive.specs.Claims.{claim_steps}
use Rattle.pb_derive.specs.Deletions.{deletion_steps}
use Rattle.pb_derive.proofs.Phases.{length-claims, length-deletions}
use Rattle.pb_tree.specs.Pairs.{pair_clause}
use Rattle.pb_tree.specs.Scheme.{values, fresh_of, output, own_of}
use Rattle.pb_tree.specs.Tree.{Tree, empty, leaf, node}
use Rattle.pb_tree.proofs.PairJustifications.{IsPositive}
use Rattle.pb_totalizer.specs.Exact.{outputs_of}
use Rattle.pb_totalizer.specs.OutputRows.{front_line, front_lines, tail_line, tail_lines, others_line, others_lines, row_size, row_lines}
use Rattle.pb_totalizer.specs.Totalizer.{is_within, totalizer, node_clause_count}
use Rattle.pb_totalizer.specs.OutputSteps.{before, input_count, part_lines, part_size, pair_claim, node_claims, totalizer_pairs, narrow_node_steps}
use Rattle.pb_totalizer.specs.laws.ByPairs.{totalizer_by_pairs}
use Rattle.pb_totalizer.specs.laws.OutputParts.{IsFull, some_outputs}
use Rattle.pb_totalizer.specs.laws.TotalizerLaws.{values_length, within_from, totalizer_lawful}

-- ---- a node has a clause for each output of its parts

pub all-counted : (p : ℕ → Bool) (j n : ℕ) → ((k : ℕ) → j ≤ k → k < j + n → p k ≡ true) → count_by p (range_with_len j n) ≡ n
all-counted p j zero each = omega arith
all-counted p j (suc n) each =
    omega (
      arith,
      sum_by-cons (λ (k : ℕ). cond (p k) 1 0) j (range_with_len (j + 1) n),
      ap {B = ℕ} (λ (b : Bool). cond b 1 0) (each j (omega arith) (omega arith)),
      all-counted p (j + 1) n (λ k from to. each k (omega (arith, from)) (omega (arith, to))),
    )

each-counted : (f : ℕ → ℕ) (j n : ℕ) → ((k : ℕ) → j ≤ k → k < j + n → 1 ≤ f k) → n ≤ sum_by f (range_with_len j n)
each-counted f j zero each = omega arith
each-counted f j (suc n) each =
    omega (arith, sum_by-cons f j (range_with_len (j + 1) n), each j (omega arith) (omega arith), each-counted f (j + 1) n (λ k from to. each k (omega (arith, from)) (omega (arith, to))))

-- the row of a number: those from 1 on, and none
pub row-split : (cap b i : ℕ) → count_by (is_within cap i) (range_with_len 0 (b + 1)) ≡ cond (is_within cap i 0) 1 0 + count_by (is_within cap i) (range_with_len 1 b)
row-split cap b i =
    ap (λ (n : ℕ). count_by (is_within cap i) (range_with_len 0 n)) (let e : b + 1 ≡ suc b = omega arith in e) ∙ sum_by-cons (λ (k : ℕ). cond (is_within cap i k) 1 0) 0 (range_with_len 1 b)

pub clauses-from : (cap a b : ℕ) → a ≤ cap → b ≤ cap → a + b ≤ node_clause_count cap a b
clauses-from cap a b left right =
    let f : ℕ → ℕ = λ i. count_by (is_within cap i) (range_with_len 0 (b + 1)) in
    let first : b ≤ f 0 = omega (arith, row-split cap b 0, all-counted (is_within cap 0) 1 b (λ k from to. within_from cap 0 k (omega (arith, from)) (omega (arith, to, right)))) in
    let rest : a ≤ sum_by f (range_with_len 1 a) = each-counted f 1 a (λ i from to. omega (arith, row-split cap b i, ap {B = ℕ} (λ (t : Bool). cond t 1 0) (within_from cap i 0 (omega (arith, from)) (omega (arith, to, left))))) in
    let whole : node_clause_count cap a b ≡ f 0 + sum_by f (range_with_len 1 a) = ap (λ (n : ℕ). sum_by f (range_with_len 0 n)) (let e : a + 1 ≡ suc a = omega arith in e) ∙ sum_by-cons f 0 (range_with_len 1 a) in
    omega (arith, first, rest, whole)

pub own-from : (bound : ℕ) (l r : Tree) (first : ℕ) → outputs_of bound l + outputs_of bound r ≤ length (own_of (totalizer bound) l r first)
own-from bound l r first =
    omega (
      arith,
      clauses-from (bound + 1) (outputs_of bound l) (outputs_of bound r) (values_length bound l) (values_length bound r),
      (totalizer_lawful bound).counted l r (output (totalizer bound) l first) (output (totalizer bound) r (first + fresh_of (totalizer bound) l)) (output (totalizer bound) (node l r) first),
    )

-- ---- the lines about a part

pub row-lines-count : (p row m last next : ℕ) → length (row_lines p row m last next) ≡ row_size last
row-lines-count p row m last next =
    omega (
      arith,
      length-append (front_lines p row m last next) (tail_lines p last (next + suc last) ++ others_lines last next (next + suc last)),
      length-append (tail_lines p last (next + suc last)) (others_lines last next (next + suc last)),
      length-map-range_with_len (front_line row m next) 0 last,
      length-map-range_with_len (tail_line p last (next + suc last)) 0 (suc last),
      length-map-range_with_len (others_line last next (next + suc last)) 0 (suc last),
    )

pub part-lines-count : (bound : ℕ) (t : Tree) (first id next : ℕ) → length (part_lines bound t first id next) ≡ part_size bound t
part-lines-count bound empty first id next = refl
part-lines-count bound (leaf t) first id next = refl
part-lines-count bound (node l r) first id next = row-lines-count (first + before bound l r) (id + 2 * before bound l r) (input_count bound l r) (outputs_of bound (node l r) - 1) next

pub part-size-few : (bound : ℕ) (t : Tree) → IsFull t → part_size bound t ≤ 3 * outputs_of bound t + 1
part-size-few bound empty full = absurd full
part-size-few bound (leaf t) full = omega arith
part-size-few bound (node l r) full = omega (arith, some_outputs bound (node l r) full)

pub part-size-some : (bound : ℕ) (t : Tree) → IsFull t → 1 ≤ part_size bound t
part-size-some bound empty full = absurd full
part-size-some bound (leaf t) full = omega arith
part-size-some bound (node l r) full = omega arith

-- ---- a node

pub claims-count : (bound : ℕ) (l r : Tree) (first id next : ℕ) → length (node_claims bound l r first id next) ≡ length (own_of (totalizer bound) l r first)
claims-count bound l r first id next =
    let pairs = totalizer_pairs (bound + 1) (values (totalizer bound) l) (values (totalizer bound) r) in
    let f = output (totalizer bound) l first in
    let g = output (totalizer bound) r (first + fresh_of (totalizer bound) l) in
    let h = output (totalizer bound) (node l r) first in
    let some_l : IsPositive (totalizer bound) l = λ u listed. omega arith in
    let some_r : IsPositive (totalizer bound) r = λ u listed. omega arith in
    length-map pairs (pair_claim bound l r first id next) ∙ sym (ap length ((totalizer_by_pairs bound).merged l r some_l some_r f g h) ∙ length-map pairs (pair_clause (bound + 1) f g h))

pub narrow-few : (bound : ℕ) (l r : Tree) (first id next : ℕ) → IsFull (node l r) → length (narrow_node_steps bound l r first id next) ≤ 5 * length (own_of (totalizer bound) l r first) + 3 * outputs_of bound (node l r)
narrow-few bound l r first id next full =
    let middle : ℕ = first + fresh_of (totalizer bound) l in
    let right_id : ℕ = id + 2 * fresh_of (totalizer bound) l in
    let size : ℕ = part_size bound l + part_size bound r in
    let lefts = part_lines bound l first id next in
    let rights = part_lines bound r middle right_id (next + part_size bound l) in
    let claims = node_claims bound l r first id next in
    omega (
      arith,
      length-append (lefts ++ rights) (claim_steps (next + size) claims ++ deletion_steps size next 1),
      length-append lefts rights,
      length-append (claim_steps (next + size) claims) (deletion_steps size next 1),
      part-lines-count bound l first id next,
      part-lines-count bound r middle right_id (next + part_size bound l),
      length-claims (next + size) claims,
      claims-count bound l r first id next,
      length-deletions size next 1,
      part-size-few bound l full.0,
      part-size-few bound r full.1,
      own-from bound l r first,
      some_outputs bound (node l r) full,
    )
