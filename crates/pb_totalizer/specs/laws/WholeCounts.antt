-- How many lines a totalizer's derivation has: for each fresh variable and each clause at most eight.
use Rattle.std.proofs.Common.{◌≡◌, ◌≤◌, ◌+◌, ◌-◌, ◌*◌, ◌++◌, ℕ, List, [], ◌∷◌, length, refl, arith, length-append}
use Rattle.std.specs.Prelude.{count_by}
use Rattle.pb_base.specs.Literals.{negated}
use Rattle.pb_steps.specs.declared.step.Step.{Step}
use Rattle.pb_steps.specs.declared.step.Step.TheVariants.{Pol}
use Rattle.pb_steps.specs.Steps.{takes_id}
use Rattle.pb_derive.specs.Claims.{claim_steps}
use Rattle.pb_derive.specs.Deletions.{deletion_steps}
use Rattle.pb_derive.specs.Reifications.{reification_steps}
use Rattle.pb_derive.proofs.Phases.{length-reifications, length-claims, length-deletions}
use Rattle.pb_tree.specs.Scheme.{fresh_of, output, own_of, clauses_of, tree_clauses}
use Rattle.pb_tree.specs.Tree.{Tree, empty, leaf, node}
use Rattle.pb_totalizer.specs.Exact.{outputs_of}
use Rattle.pb_totalizer.specs.Totalizer.{totalizer}
use Rattle.pb_totalizer.specs.OutputSteps.{before, meanings}
use Rattle.pb_totalizer.specs.TotalizerSteps.{node_steps, nodes_steps, count_ops, give_way, nodes_in, sum_at, sum_lines, root_claim, root_steps, totalizer_steps_of}
use Rattle.pb_totalizer.specs.laws.NodeForms.{by_form}
use Rattle.pb_totalizer.specs.laws.OutputCounts.{narrow-few}
use Rattle.pb_totalizer.specs.laws.OutputKnown.{length-meanings}
use Rattle.pb_totalizer.specs.laws.OutputParts.{IsFull, some_outputs}
use Rattle.pb_totalizer.specs.laws.WideCounts.{wide-few}

-- ---- the nodes

node-few : (bound : ℕ) (l r : Tree) (first id next : ℕ) → IsFull (node l r) → length (node_steps bound l r first id next) ≤ 5 * length (own_of (totalizer bound) l r first) + 3 * outputs_of bound (node l r)
node-few bound l r first id next full =
    by_form (λ (ss : List Step). length ss ≤ 5 * length (own_of (totalizer bound) l r first) + 3 * outputs_of bound (node l r)) bound l r first id next
    (λ more. wide-few bound l r first id next full (omega (arith, more)) (omega (arith, more))) (λ few. narrow-few bound l r first id next full)

pub nodes-few : (bound : ℕ) (t : Tree) (first id next : ℕ) → IsFull t → length (nodes_steps bound t first id next) ≤ 5 * length (clauses_of (totalizer bound) t first) + 3 * fresh_of (totalizer bound) t
nodes-few bound empty first id next full = absurd full
nodes-few bound (leaf t) first id next full = omega arith
nodes-few bound (node l r) first id next full =
    let middle : ℕ = first + fresh_of (totalizer bound) l in
    let right_id : ℕ = id + 2 * fresh_of (totalizer bound) l in
    let lefts = nodes_steps bound l first id next in
    let next1 : ℕ = next + count_by takes_id lefts in
    let rights = nodes_steps bound r middle right_id next1 in
    let next2 : ℕ = next1 + count_by takes_id rights in
    let own = node_steps bound l r first id next2 in
    omega (
      arith,
      length-append lefts (rights ++ own),
      length-append rights own,
      nodes-few bound l first id next full.0,
      nodes-few bound r middle right_id next1 full.1,
      node-few bound l r first id next2 full,
      length-append (clauses_of (totalizer bound) l first) (clauses_of (totalizer bound) r middle ++ own_of (totalizer bound) l r first),
      length-append (clauses_of (totalizer bound) r middle) (own_of (totalizer bound) l r first),
    )

-- ---- the sums

pub sum-lines-count : (bound : ℕ) (t : Tree) (id next : ℕ) → length (sum_lines bound t id next) ≡ nodes_in t
sum-lines-count bound empty id next = refl
sum-lines-count bound (leaf t) id next = refl
sum-lines-count bound (node l r) id next =
    let right_id : ℕ = id + 2 * fresh_of (totalizer bound) l in
    let own : Step = Pol (count_ops (id + 2 * before bound l r) (outputs_of bound (node l r) - 1) ++ (give_way l (sum_at l next) ++ give_way r (sum_at r (next + nodes_in l)))) in
    omega (
      arith,
      length-append (sum_lines bound l id next) (sum_lines bound r right_id (next + nodes_in l) ++ own ∷ []),
      length-append (sum_lines bound r right_id (next + nodes_in l)) (own ∷ []),
      sum-lines-count bound l id next,
      sum-lines-count bound r right_id (next + nodes_in l),
    )

pub nodes-within : (bound : ℕ) (t : Tree) → IsFull t → nodes_in t ≤ fresh_of (totalizer bound) t
nodes-within bound empty full = absurd full
nodes-within bound (leaf t) full = omega arith
nodes-within bound (node l r) full = omega (arith, nodes-within bound l full.0, nodes-within bound r full.1, some_outputs bound (node l r) full)

-- ---- the whole

pub whole-few : (bound : ℕ) (t : Tree) (first own next : ℕ) → IsFull t → length (totalizer_steps_of bound t first own next) ≤ 8 * (fresh_of (totalizer bound) t + length (tree_clauses (totalizer bound) t first))
whole-few bound empty first own next full = absurd full
whole-few bound (leaf t) first own next full = omega arith
whole-few bound (node l r) first own next full =
    let t : Tree = node l r in
    let ms = meanings bound t first in
    let at : ℕ = next + 2 * length ms in
    let middle : ℕ = first + fresh_of (totalizer bound) l in
    let right_id : ℕ = next + 2 * fresh_of (totalizer bound) l in
    let lefts = sum_lines bound l next at in
    let rights = sum_lines bound r right_id (at + nodes_in l) in
    let count : ℕ = nodes_in l + nodes_in r in
    let claims = root_claim bound l r first own next at ∷ [] in
    let nodes = nodes_steps bound t first next (at + count) in
    let ending = claim_steps (at + count + count_by takes_id nodes) claims in
    let root = root_steps bound l r first own next at in
    omega (
      arith,
      length-append (reification_steps next ms) (root ++ deletion_steps 2 next (length ms)),
      length-append root (deletion_steps 2 next (length ms)),
      length-append (lefts ++ rights) ((nodes ++ ending) ++ deletion_steps 1 at count),
      length-append lefts rights,
      length-append (nodes ++ ending) (deletion_steps 1 at count),
      length-append nodes ending,
      length-reifications next ms,
      length-meanings bound t first,
      length-deletions 2 next (length ms),
      length-deletions 1 at count,
      length-claims (at + count + count_by takes_id nodes) claims,
      sum-lines-count bound l next at,
      sum-lines-count bound r right_id (at + nodes_in l),
      nodes-few bound t first next (at + count) full,
      nodes-within bound t full,
      length-append (clauses_of (totalizer bound) t first) ((negated (output (totalizer bound) t first (bound + 1)) ∷ []) ∷ []),
    )
