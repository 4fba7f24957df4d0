-- The lines for the clauses of all nodes are within their limits, and short.
use Rattle.std.proofs.Common.{◌≤◌, ◌<◌, ◌+◌, ◌*◌, ◌++◌, inl, inr, ℕ, List, length, arith, length-append}
use Rattle.std.specs.Prelude.{count_by, min}
use Rattle.std.proofs.lemmas.Bool.{cases_lt}
use Rattle.pb_steps.specs.declared.step.Step.{Step}
use Rattle.pb_steps.specs.Steps.{takes_id}
use Rattle.pb_derive.proofs.Fine.{AreFine, fine_within, fine_append}
use Rattle.pb_derive.proofs.FineStages.{fine_none}
use Rattle.pb_tree.specs.Scheme.{fresh_of, own_of, own_count_of, clauses_of, clause_count_of}
use Rattle.pb_tree.specs.Tree.{Tree, empty, leaf, node}
use Rattle.pb_tree.proofs.PairCounts.{count-append}
use Rattle.pb_totalizer.specs.Exact.{outputs_of}
use Rattle.pb_totalizer.specs.Totalizer.{totalizer}
use Rattle.pb_totalizer.specs.TotalizerSteps.{node_steps, nodes_steps}
use Rattle.pb_totalizer.specs.laws.NodeForms.{by_form, lines_of, large_lines, small_lines}
use Rattle.pb_totalizer.specs.laws.OutputCounts.{part-size-few}
use Rattle.pb_totalizer.specs.laws.OutputFine.{TreeFits, left_fits, right_fits, own-count, narrow-ids, narrow_fine}
use Rattle.pb_totalizer.specs.laws.OutputParts.{IsFull, some_outputs}
use Rattle.pb_totalizer.specs.laws.TotalizerLaws.{leaf_count}
use Rattle.pb_totalizer.specs.laws.WideCounts.{wide-size-few, own-many, windows-all}
use Rattle.pb_totalizer.specs.laws.WideFine.{wide-ids, wide_node_fine}

-- ---- how many ids

-- those that the clauses of a tree take, with the lines about parts and blocks
unfoldable pub ids_of : ℕ → Tree → ℕ
ids_of bound empty = 0
ids_of bound (leaf t) = 0
ids_of bound (node l r) = ids_of bound l + ids_of bound r + (lines_of bound l r + own_count_of (totalizer bound) l r)

pub node-ids : (bound : ℕ) (l r : Tree) (first id next : ℕ) → count_by takes_id (node_steps bound l r first id next) ≤ lines_of bound l r + own_count_of (totalizer bound) l r
node-ids bound l r first id next =
    let own : ℕ = own_count_of (totalizer bound) l r in
    by_form (λ (ss : List Step). count_by takes_id ss ≤ lines_of bound l r + own) bound l r first id next
    (λ more. omega (arith, wide-ids bound l r first id next (omega (arith, more)), large_lines bound l r more)) (λ few. omega (arith, narrow-ids bound l r first id next, small_lines bound l r few))

pub nodes-ids : (bound : ℕ) (t : Tree) (first id next : ℕ) → count_by takes_id (nodes_steps bound t first id next) ≤ ids_of bound t
unfolding ids_of
nodes-ids bound empty first id next = omega arith
nodes-ids bound (leaf t) first id next = omega arith
nodes-ids bound (node l r) first id next =
    let middle : ℕ = first + fresh_of (totalizer bound) l in
    let right_id : ℕ = id + 2 * fresh_of (totalizer bound) l in
    let lefts = nodes_steps bound l first id next in
    let next1 : ℕ = next + count_by takes_id lefts in
    let rights = nodes_steps bound r middle right_id next1 in
    let next2 : ℕ = next1 + count_by takes_id rights in
    let own = node_steps bound l r first id next2 in
    omega (
      arith,
      count-append takes_id lefts (rights ++ own),
      count-append takes_id rights own,
      nodes-ids bound l first id next,
      nodes-ids bound r middle right_id next1,
      node-ids bound l r first id next2,
    )

-- those of a node's lines are not many
lines-few : (bound : ℕ) (l r : Tree) → IsFull (node l r) → 2 * lines_of bound l r ≤ 3 * own_count_of (totalizer bound) l r + 12 * (outputs_of bound l + outputs_of bound r) + 4
lines-few bound l r full =
    let least : ℕ = min (outputs_of bound l) (outputs_of bound r) in
    elim (cases_lt 32 least) as (λ _. 2 * lines_of bound l r ≤ 3 * own_count_of (totalizer bound) l r + 12 * (outputs_of bound l + outputs_of bound r) + 4) [
      | inl more ↦
          let large : 32 < outputs_of bound l = omega (arith, more) in
          let wide : 32 < outputs_of bound r = omega (arith, more) in
          let many = own-many bound l r 0 large wide in
          omega (arith, large_lines bound l r more, wide-size-few bound l full.0 large, wide-size-few bound r full.1 wide, windows-all bound l r, many.blocks, own-count bound l r 0)
      | inr few ↦ omega (arith, small_lines bound l r few, part-size-few bound l full.0, part-size-few bound r full.1)
    ]

-- all are no more than two and a half for each clause, beside some for each fresh variable
pub ids-few : (bound : ℕ) (t : Tree) → IsFull t → 2 * ids_of bound t + 12 * outputs_of bound t + 4 ≤ 5 * clause_count_of (totalizer bound) t + 16 * fresh_of (totalizer bound) t + 16 * leaf_count t
unfolding ids_of
ids-few bound empty full = absurd full
ids-few bound (leaf t) full = omega arith
ids-few bound (node l r) full = omega (arith, ids-few bound l full.0, ids-few bound r full.1, lines-few bound l r full, some_outputs bound (node l r) full)

-- ---- a node

node_fine : (most end n bound : ℕ) (l r : Tree) (first id next : ℕ) → TreeFits most end n bound (node l r) first id → 1 ≤ next → next + (lines_of bound l r + own_count_of (totalizer bound) l r) ≤ end
    → AreFine most (1024 * length (own_of (totalizer bound) l r first)) (node_steps bound l r first id next)
node_fine most end n bound l r first id next h some le =
    by_form (AreFine most (1024 * length (own_of (totalizer bound) l r first))) bound l r first id next
    (λ more. wide_node_fine most end n bound l r first id next h some (omega (arith, more)) (omega (arith, more)) (omega (arith, le, large_lines bound l r more)))
    (λ few. narrow_fine most end n bound l r first id next h some (omega (arith, le, small_lines bound l r few)))

-- ---- all nodes

pub nodes_fine : (most end n bound : ℕ) (t : Tree) (first id next : ℕ) → TreeFits most end n bound t first id → 1 ≤ next → next + ids_of bound t ≤ end → AreFine most (1024 * length (clauses_of (totalizer bound) t first)) (nodes_steps bound t first id next)
unfolding ids_of
nodes_fine most end n bound empty first id next h some le = absurd h.full
nodes_fine most end n bound (leaf t) first id next h some le = fine_none most
nodes_fine most end n bound (node l r) first id next h some le =
    let middle : ℕ = first + fresh_of (totalizer bound) l in
    let right_id : ℕ = id + 2 * fresh_of (totalizer bound) l in
    let lefts = nodes_steps bound l first id next in
    let next1 : ℕ = next + count_by takes_id lefts in
    let rights = nodes_steps bound r middle right_id next1 in
    let next2 : ℕ = next1 + count_by takes_id rights in
    let own = node_steps bound l r first id next2 in
    let cl : ℕ = length (clauses_of (totalizer bound) l first) in
    let cr : ℕ = length (clauses_of (totalizer bound) r middle) in
    let co : ℕ = length (own_of (totalizer bound) l r first) in
    let one = nodes-ids bound l first id next in
    let two = nodes-ids bound r middle right_id next1 in
    fine_within most most (1024 * cl + (1024 * cr + 1024 * co)) (1024 * length (clauses_of (totalizer bound) (node l r) first)) (lefts ++ (rights ++ own)) (omega arith)
    (omega (
      arith,
      length-append (clauses_of (totalizer bound) l first) (clauses_of (totalizer bound) r middle ++ own_of (totalizer bound) l r first),
      length-append (clauses_of (totalizer bound) r middle) (own_of (totalizer bound) l r first),
    ))
    (fine_append most (1024 * cl) (1024 * cr + 1024 * co) lefts (rights ++ own) (nodes_fine most end n bound l first id next (left_fits most end n bound l r first id h) some (omega (arith, le)))
    (fine_append most (1024 * cr) (1024 * co) rights own (nodes_fine most end n bound r middle right_id next1 (right_fits most end n bound l r first id h) (omega (arith, some)) (omega (arith, le, one)))
    (node_fine most end n bound l r first id next2 h (omega (arith, some)) (omega (arith, le, one, two)))))
