-- The lines for the clauses of a node, by all outputs of its parts, are within their limits, and short.
use Rattle.std.proofs.Common.{◌≡◌, ◌≤◌, ◌<◌, ◌+◌, ◌-◌, ◌*◌, ◌^◌, ◌++◌, inl, inr, ℕ, suc, Bool, true, false, cond, List, [], ◌∷◌, length, refl, ◌∙◌, arith, pos, length-append}
use Rattle.std.specs.Prelude.{All, map, count_by}
use Rattle.std.specs.List.{range_with_len}
use Rattle.std.proofs.lemmas.Int.{ints}
use Rattle.std.proofs.lemmas.List.Elements.{All-map, All-weaker}
use Rattle.std.proofs.lemmas.List.FromFn.{length-range_with_len}
use Rattle.std.proofs.lemmas.List.Sums.{count_by-le-length}
use Rattle.pb_norm.specs.Constraints.{Weighted}
use Rattle.pb_steps.specs.declared.op.PolOp.TheVariants.{Axiom, Weaken}
use Rattle.pb_steps.specs.declared.step.Step.{Step}
use Rattle.pb_steps.specs.declared.step.Step.TheVariants.{Pol, Out, Del}
use Rattle.pb_steps.specs.Sayable.{IsId, IsVariable, IsFactor, IsSayable}
use Rattle.pb_steps.specs.StepSizes.{step_size}
use Rattle.pb_steps.specs.Steps.{takes_id}
use Rattle.pb_derive.specs.Claims.{Claim, claim_steps}
use Rattle.pb_derive.specs.Deletions.{deletion_steps}
use Rattle.pb_derive.proofs.Fine.{AreFine, fine_within, fine_append, fine_claims}
use Rattle.pb_derive.proofs.FineStages.{IsFine, fine_step, fine_one, fine_lines, fine_deleted}
use Rattle.pb_derive.proofs.IdRanges.{each_between}
use Rattle.pb_tree.specs.Pairs.{Pair}
use Rattle.pb_tree.specs.Scheme.{values, fresh_of, output, own_of, own_count_of}
use Rattle.pb_tree.specs.Tree.{Tree, empty, leaf, node, IsLeafOf}
use Rattle.pb_tree.proofs.Extending.{all_from_each}
use Rattle.pb_tree.proofs.PairCounts.{count-append, count-cons}
use Rattle.pb_totalizer.specs.Exact.{outputs_of}
use Rattle.pb_totalizer.specs.OutputRows.{nothing_line, front_line, front_lines, tail_line, tail_lines, others_line, others_lines, row_lines, row_size}
use Rattle.pb_totalizer.specs.Totalizer.{totalizer}
use Rattle.pb_totalizer.specs.OutputSteps.{before, input_count, part_lines, part_size, part_others, pair_claim, node_claims, totalizer_pairs, narrow_node_steps}
use Rattle.pb_totalizer.specs.laws.ByPairs.{pair_bounds}
use Rattle.pb_totalizer.specs.laws.OutputCounts.{own-from, part-lines-count, part-size-few, part-size-some, claims-count}
use Rattle.pb_totalizer.specs.laws.OutputParts.{IsFull, some_outputs}
use Rattle.pb_totalizer.specs.laws.TotalizerLaws.{leaf_count, node_length, values_length, values_count, totalizer_lawful}

-- ---- numbers

pub factor : (n : ℕ) → 1 ≤ n → n < 2 ^ 126 → IsFactor (pos n)
factor n some small = (omega (arith, ints, some), small)

-- ---- the lines about a row

-- the numbers of a row are within their limits
pub record RowFits (most end p row m last next : ℕ) : Type 0 where
  pub from : 1 ≤ p
  pub under : p + suc last ≤ 2 ^ 31
  pub row_from : 1 ≤ row
  pub row_to : row + 2 * suc last ≤ end
  pub count_from : 1 ≤ m
  pub count_to : m ≤ 2 ^ 32
  pub next_from : 1 ≤ next
  pub next_to : next + row_size last ≤ end
  pub high : end < 2 ^ 63
  pub room : 200 ≤ most

module _ (most end p row m last next : ℕ) (h : RowFits most end p row m last next) where
  id : (i : ℕ) → 1 ≤ i → i ≤ end → IsId i
  id i from to = (from, omega (arith, to, h.high))

  var : (v : ℕ) → p ≤ v → v < p + suc last → IsVariable v
  var v from to = (omega (arith, h.from, from), omega (arith, to, h.under))

  pub nothing_fine : IsFine 31 (nothing_line p)
  nothing_fine = ((var p (omega arith) (omega arith), (var p (omega arith) (omega arith), tt)), omega arith)

  pub fronts_fine : AreFine most (31 + 150 * last) (front_lines p row m last next)
  fronts_fine =
      fine_step most 31 (150 * last) (nothing_line p) (map (front_line row m next) (range_with_len 0 last)) nothing_fine (omega (arith, h.room))
      (fine_lines most 150 (front_line row m next) last (omega (arith, h.room)) (λ j within.
      let size : step_size (front_line row m next j) ≡ 150 = refl in (
        (
          id (next + j) (omega (arith, h.next_from)) (omega (arith, h.next_to, within)),
          (
            id (row + 2 * suc j) (omega (arith, h.row_from)) (omega (arith, h.row_to, within)),
            (
              id (row + 2 * j + 1) (omega arith) (omega (arith, h.row_to, within)),
              (tt, (factor m h.count_from (omega (arith, h.count_to)), (factor (suc j) (omega arith) (omega (arith, within, h.under)), (tt, tt)))),
            ),
          ),
        ),
        omega (arith, size),
      )))

  pub tails_fine : AreFine most (31 + 39 * suc last) (tail_lines p last (next + suc last))
  tails_fine =
      let f = tail_line p last (next + suc last) in
      fine_step most 31 (39 * suc last) (nothing_line p) (map f (range_with_len 0 (suc last))) nothing_fine (omega (arith, h.room))
      (fine_lines most 39 f (suc last) (omega (arith, h.room)) (λ k within.
      let size : step_size (f k) ≡ 39 = refl in
      ((id (next + suc last + k) (omega (arith, h.next_from)) (omega (arith, h.next_to, within)), (var (p + (last - k)) (omega arith) (omega arith), (tt, tt))), omega (arith, size))))

  others_fine : AreFine most (46 * suc last) (others_lines last next (next + suc last))
  others_fine =
      let f = others_line last next (next + suc last) in
      fine_lines most 46 f (suc last) (omega (arith, h.room)) (λ j within.
      let size : step_size (f j) ≡ 46 = refl in
      ((id (next + j) (omega (arith, h.next_from)) (omega (arith, h.next_to, within)), (id (next + suc last + (last - j)) (omega (arith, h.next_from)) (omega (arith, h.next_to)), (tt, tt))), omega (arith, size)))

  pub row_fine : AreFine most (300 * suc last) (row_lines p row m last next)
  row_fine =
      fine_within most most (31 + 150 * last + (31 + 39 * suc last + 46 * suc last)) (300 * suc last) (row_lines p row m last next) (omega arith) (omega arith)
      (fine_append most (31 + 150 * last) (31 + 39 * suc last + 46 * suc last) (front_lines p row m last next) (tail_lines p last (next + suc last) ++ others_lines last next (next + suc last)) fronts_fine
      (fine_append most (31 + 39 * suc last) (46 * suc last) (tail_lines p last (next + suc last)) (others_lines last next (next + suc last)) tails_fine others_fine))

-- ---- a tree

-- the numbers of a tree are within their limits
pub record TreeFits (most end n bound : ℕ) (t : Tree) (first id : ℕ) : Type 0 where
  pub full : IsFull t
  pub few : bound + 1 ≤ 2 ^ 31
  pub leaves : leaf_count t ≤ n
  pub room : 104 * n + 200 ≤ most
  pub from : 1 ≤ first
  pub under : first + fresh_of (totalizer bound) t ≤ 2 ^ 31
  pub vars : (u : Weighted) → IsLeafOf t u → IsVariable u.lit.var
  pub id_from : 1 ≤ id
  pub id_to : id + 2 * fresh_of (totalizer bound) t ≤ end
  pub high : end < 2 ^ 63

module _ (most end n bound : ℕ) (l r : Tree) (first id : ℕ) (h : TreeFits most end n bound (node l r) first id) where
  pub left_fits : TreeFits most end n bound l first id
  left_fits = record {
    full = h.full.0;
    few = h.few;
    leaves = omega (arith, h.leaves);
    room = h.room;
    from = h.from;
    under = omega (arith, h.under);
    vars = λ u m. h.vars u (inl m);
    id_from = h.id_from;
    id_to = omega (arith, h.id_to);
    high = h.high;
  }

  pub right_fits : TreeFits most end n bound r (first + fresh_of (totalizer bound) l) (id + 2 * fresh_of (totalizer bound) l)
  right_fits = record {
    full = h.full.1;
    few = h.few;
    leaves = omega (arith, h.leaves);
    room = h.room;
    from = omega (arith, h.from);
    under = omega (arith, h.under);
    vars = λ u m. h.vars u (inr m);
    id_from = omega (arith, h.id_from);
    id_to = omega (arith, h.id_to);
    high = h.high;
  }

-- ---- the lines about a part

pub part_fine : (most end n bound : ℕ) (t : Tree) (first id next : ℕ) → TreeFits most end n bound t first id → 1 ≤ next → next + part_size bound t ≤ end → AreFine most (300 * outputs_of bound t) (part_lines bound t first id next)
part_fine most end n bound empty first id next h some le = absurd h.full
part_fine most end n bound (leaf t) first id next h some le =
    let v = h.vars t refl in
    let step : Step = Pol (Axiom t.lit ∷ []) in
    let other : Step = Pol (Axiom t.lit ∷ Weaken t.lit.var ∷ []) in
    let one : IsFine 17 step = ((v, tt), omega arith) in
    let two : IsFine 31 other = ((v, (v, tt)), omega arith) in
    fine_within most most (17 + 31) (300 * 1) (step ∷ other ∷ []) (omega arith) (omega arith) (fine_step most 17 31 step (other ∷ []) one (omega (arith, h.room)) (fine_one most 31 other two (omega (arith, h.room))))
part_fine most end n bound (node l r) first id next h some le =
    let size : suc (outputs_of bound (node l r) - 1) ≡ outputs_of bound (node l r) = omega (arith, some_outputs bound (node l r) h.full) in
    fine_within most most (300 * suc (outputs_of bound (node l r) - 1)) (300 * outputs_of bound (node l r)) _ (omega arith) (omega (arith, size))
    (row_fine most end (first + before bound l r) (id + 2 * before bound l r) (input_count bound l r) (outputs_of bound (node l r) - 1) next (record {
      from = omega (arith, h.from);
      under = omega (arith, h.under, size);
      row_from = omega (arith, h.id_from);
      row_to = omega (arith, h.id_to, size);
      count_from = omega (arith, some_outputs bound l h.full.0);
      count_to = omega (arith, values_length bound l, values_length bound r, h.few);
      next_from = some;
      next_to = le;
      high = h.high;
      room = omega (arith, h.room);
    }))

-- ---- a node

pub own-count : (bound : ℕ) (l r : Tree) (first : ℕ) → length (own_of (totalizer bound) l r first) ≡ own_count_of (totalizer bound) l r
own-count bound l r first = (totalizer_lawful bound).counted l r (output (totalizer bound) l first) (output (totalizer bound) r (first + fresh_of (totalizer bound) l)) (output (totalizer bound) (node l r) first)

pub at_most_one : (b : Bool) → cond b 1 0 ≤ 1
at_most_one true = omega arith
at_most_one false = omega arith

pub claims-ids : (next : ℕ) (cs : List Claim) → count_by takes_id (claim_steps next cs) ≤ length cs
claims-ids next [] = omega arith
claims-ids next (c ∷ cs) =
    omega (arith, count-cons takes_id c.step (Out next ∷ claim_steps (next + 1) cs), count-cons takes_id (Out next) (claim_steps (next + 1) cs), at_most_one (takes_id c.step), claims-ids (next + 1) cs)

pub narrow-ids : (bound : ℕ) (l r : Tree) (first id next : ℕ) → count_by takes_id (narrow_node_steps bound l r first id next) ≤ part_size bound l + part_size bound r + own_count_of (totalizer bound) l r
narrow-ids bound l r first id next =
    let middle : ℕ = first + fresh_of (totalizer bound) l in
    let right_id : ℕ = id + 2 * fresh_of (totalizer bound) l in
    let size : ℕ = part_size bound l + part_size bound r in
    let lefts = part_lines bound l first id next in
    let rights = part_lines bound r middle right_id (next + part_size bound l) in
    let claims = node_claims bound l r first id next in
    omega (
      arith,
      count-append takes_id (lefts ++ rights) (claim_steps (next + size) claims ++ deletion_steps size next 1),
      count_by-le-length takes_id (lefts ++ rights),
      length-append lefts rights,
      part-lines-count bound l first id next,
      part-lines-count bound r middle right_id (next + part_size bound l),
      count-append takes_id (claim_steps (next + size) claims) (deletion_steps size next 1),
      claims-ids (next + size) claims,
      claims-count bound l r first id next,
      own-count bound l r first,
      count-cons takes_id (Del (range_with_len next size)) [],
    )

module _ (most end n bound : ℕ) (l r : Tree) (first id next : ℕ) (h : TreeFits most end n bound (node l r) first id) (some : 1 ≤ next) (le : next + (part_size bound l + part_size bound r + own_count_of (totalizer bound) l r) ≤ end) where
  abbrev middle : ℕ
  middle = first + fresh_of (totalizer bound) l

  abbrev right_id : ℕ
  right_id = id + 2 * fresh_of (totalizer bound) l

  abbrev size : ℕ
  size = part_size bound l + part_size bound r

  abbrev claims : List Claim
  claims = node_claims bound l r first id next

  claims_number : length claims ≡ own_count_of (totalizer bound) l r
  claims_number = claims-count bound l r first id next ∙ own-count bound l r first

  others_below : (t : Tree) (at i : ℕ) → IsFull t → i ≤ outputs_of bound t → 1 ≤ at → (1 ≤ part_others bound t at + i) × (part_others bound t at + i < at + part_size bound t)
  others_below empty at i full within low = absurd full
  others_below (leaf t) at i full within low = (omega (arith, low), omega (arith, within))
  others_below (node a b) at i full within low = (omega (arith, low), omega (arith, within, some_outputs bound (node a b) full))

  claim_fine : (u : Pair) → u.left ≤ outputs_of bound l → u.right ≤ outputs_of bound r → 1 ≤ u.left + u.right → u.left + u.right ≤ bound + 1 → IsFine 109 (pair_claim bound l r first id next u).step
  claim_fine u left right from to =
      let one = others_below l next u.left h.full.0 left some in
      let two = others_below r (next + part_size bound l) u.right h.full.1 right (omega (arith, some)) in (
        (
          (omega arith, omega (arith, h.id_to, h.high, node_length bound l r, left, right, from, to)),
          (
            (one.0, omega (arith, one.1, le, h.high)),
            (tt, ((two.0, omega (arith, two.1, le, h.high)), (tt, (factor (input_count bound l r) (omega (arith, some_outputs bound l h.full.0)) (omega (arith, values_length bound l, values_length bound r, h.few)), tt)))),
          ),
        ),
        omega arith,
      )

  claims_each : All (λ c. IsFine 109 c.step) claims
  claims_each =
      let pairs = totalizer_pairs (bound + 1) (values (totalizer bound) l) (values (totalizer bound) r) in
      All-map (λ (c : Claim). IsFine 109 c.step) (pair_claim bound l r first id next) pairs
      (all_from_each (λ (u : Pair). IsFine 109 (pair_claim bound l r first id next u).step) pairs (λ u listed.
      let bounds = pair_bounds (bound + 1) (values (totalizer bound) l) (values (totalizer bound) r) u listed in
      claim_fine u bounds.0 bounds.1 bounds.2 bounds.3))

  pub narrow_fine : AreFine most (1024 * length (own_of (totalizer bound) l r first)) (narrow_node_steps bound l r first id next)
  narrow_fine =
      let lefts = part_lines bound l first id next in
      let rights = part_lines bound r middle right_id (next + part_size bound l) in
      let a : ℕ = outputs_of bound l in
      let b : ℕ = outputs_of bound r in
      let c : ℕ = length claims in
      let both = fine_append most (300 * a) (300 * b) lefts rights (part_fine most end n bound l first id next (left_fits most end n bound l r first id h) some (omega (arith, le)))
      (part_fine most end n bound r middle right_id (next + part_size bound l) (right_fits most end n bound l r first id h) (omega (arith, some)) (omega (arith, le))) in
      let clauses = fine_claims most 109 (next + size) claims (omega (arith, h.room)) (omega (arith, h.room)) (omega (arith, some)) (omega (arith, claims_number, le, h.high))
      (All-weaker (λ (d : Claim). IsFine 109 d.step) (λ (d : Claim). IsSayable d.step) (λ d k. k.0) claims claims_each) (All-weaker (λ (d : Claim). IsFine 109 d.step) (λ (d : Claim). step_size d.step ≤ 109) (λ d k. k.1) claims claims_each) in
      let number = length-range_with_len next size in
      let left_few = part-size-few bound l h.full.0 in
      let right_few = part-size-few bound r h.full.1 in
      let left_leaves : a ≤ leaf_count l = omega (arith, values_count bound l) in
      let right_leaves : b ≤ leaf_count r = omega (arith, values_count bound r) in
      let gone = fine_deleted most (range_with_len next size) (omega (arith, number, part-size-some bound l h.full.0)) (omega (arith, number, left_few, right_few, left_leaves, right_leaves, h.leaves, h.room))
      (each_between IsId next size (λ i from to. (omega (arith, some, from), omega (arith, to, le, h.high)))) in
      fine_within most most (300 * a + 300 * b + ((109 + 24) * c + (4 + 20 * length (range_with_len next size)))) (1024 * length (own_of (totalizer bound) l r first)) (narrow_node_steps bound l r first id next) (omega arith)
      (omega (arith, number, left_few, right_few, own-from bound l r first, claims-count bound l r first id next, some_outputs bound l h.full.0, some_outputs bound r h.full.1))
      (fine_append most (300 * a + 300 * b) ((109 + 24) * c + (4 + 20 * length (range_with_len next size))) (lefts ++ rights) (claim_steps (next + size) claims ++ deletion_steps size next 1) both
      (fine_append most ((109 + 24) * c) (4 + 20 * length (range_with_len next size)) (claim_steps (next + size) claims) (deletion_steps size next 1) clauses gone))
