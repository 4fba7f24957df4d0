-- The steps along the tree of a totalizer, phase by phase: how many ids they take, and what all of a phase are.
use Rattle.std.proofs.Common.{◌≡◌, ◌≤◌, ◌+◌, ◌-◌, ◌*◌, ◌∙◌, ◌++◌, ℕ, List, [], ◌∷◌, length, refl, sym, ap, arith}
use Rattle.std.specs.Prelude.{count_by}
use Rattle.pb_steps.specs.declared.step.Step.{Step}
use Rattle.pb_steps.specs.declared.step.Step.TheVariants.{Pol}
use Rattle.pb_steps.specs.Steps.{takes_id}
use Rattle.pb_derive.specs.Reifications.{reification_steps}
use Rattle.pb_family.proofs.Sequence.{reifications_ids, reifications_split}
use Rattle.pb_tree.specs.Scheme.{values, fresh_of}
use Rattle.pb_tree.specs.Tree.{Tree, empty, leaf, node}
use Rattle.pb_tree.proofs.PairCounts.{count-append}
use Rattle.pb_tree.proofs.TreeReifications.{length-reifications_from}
use Rattle.pb_totalizer.specs.Exact.{outputs_of}
use Rattle.pb_totalizer.specs.OutputSteps.{inputs, before, node_meanings, meanings}
use Rattle.pb_totalizer.specs.TotalizerSteps.{nodes_steps, node_steps, count_ops, give_way, nodes_in, sum_at, sum_lines}
use Rattle.pb_totalizer.specs.Totalizer.{totalizer}
use Rattle.pb_totalizer.specs.declared.phase.Phase.{Phase}
use Rattle.pb_totalizer.specs.declared.phase.Phase.TheVariants.{Meanings, Sums, Clauses}
use Rattle.pb_totalizer.specs.inner.Phases.{node_in, node_ids_in, phase_steps, phase_ids}
use Rattle.pb_totalizer.specs.laws.NodesFine.{ids_of, node-ids}

-- ---- how many ids

node_counted : (phase : Phase) (bound : ℕ) (l r : Tree) (first id left right next : ℕ) → count_by takes_id (node_in phase bound l r first id left right next) ≤ node_ids_in phase bound l r
node_counted Meanings bound l r first id left right next =
    omega (arith, reifications_ids next (node_meanings bound l r first), length-reifications_from (first + before bound l r) (inputs bound l r first) (values (totalizer bound) (node l r)))
node_counted Sums bound l r first id left right next = omega arith
node_counted Clauses bound l r first id left right next = node-ids bound l r first id next

pub phase_ids_node : (phase : Phase) (bound : ℕ) (l r : Tree) → phase_ids phase bound (node l r) ≡ phase_ids phase bound l + phase_ids phase bound r + node_ids_in phase bound l r
unfolding ids_of
phase_ids_node Meanings bound l r = omega arith
phase_ids_node Sums bound l r = refl
phase_ids_node Clauses bound l r = refl

pub phase_counted : (phase : Phase) (bound : ℕ) (t : Tree) (first id next : ℕ) → count_by takes_id (phase_steps phase bound t first id next) ≤ phase_ids phase bound t
phase_counted phase bound empty first id next = omega arith
phase_counted phase bound (leaf t) first id next = omega arith
phase_counted phase bound (node l r) first id next =
    let f : ℕ = first + fresh_of (totalizer bound) l in
    let i : ℕ = id + 2 * fresh_of (totalizer bound) l in
    let lefts = phase_steps phase bound l first id next in
    let middle : ℕ = next + count_by takes_id lefts in
    let rights = phase_steps phase bound r f i middle in
    let last : ℕ = middle + count_by takes_id rights in
    let own = node_in phase bound l r first id (middle - 1) (last - 1) last in
    omega (
      arith,
      count-append takes_id lefts (rights ++ own),
      count-append takes_id rights own,
      phase_counted phase bound l first id next,
      phase_counted phase bound r f i middle,
      node_counted phase bound l r first id (middle - 1) (last - 1) last,
      phase_ids_node phase bound l r,
    )

-- ---- all of a phase

pub all_meanings : (bound : ℕ) (t : Tree) (first id next : ℕ) → phase_steps Meanings bound t first id next ≡ reification_steps next (meanings bound t first)
all_meanings bound empty first id next = refl
all_meanings bound (leaf t) first id next = refl
all_meanings bound (node l r) first id next =
    let f : ℕ = first + fresh_of (totalizer bound) l in
    let i : ℕ = id + 2 * fresh_of (totalizer bound) l in
    let ls = meanings bound l first in
    let rs = meanings bound r f in
    let own = node_meanings bound l r first in
    let behind : (n : ℕ) → List Step = λ n. reification_steps n rs ++ reification_steps (n + 2 * length rs) own in
    let count : (n : ℕ) → n + count_by takes_id (phase_steps Meanings bound r f i n) ≡ n + 2 * length rs = λ n. omega (arith, ap (count_by takes_id) (all_meanings bound r f i n), reifications_ids n rs) in
    let start : next + count_by takes_id (phase_steps Meanings bound l first id next) ≡ next + 2 * length ls = omega (arith, ap (count_by takes_id) (all_meanings bound l first id next), reifications_ids next ls) in
    (λ k.
    all_meanings bound l first id next k
    ++ (all_meanings bound r f i (next + count_by takes_id (phase_steps Meanings bound l first id next)) k
    ++ reification_steps (count (next + count_by takes_id (phase_steps Meanings bound l first id next)) k) own))
    ∙ ap (λ (n : ℕ). reification_steps next ls ++ behind n) start
    ∙ sym (ap (λ (ss : List Step). reification_steps next ls ++ ss) (reifications_split (next + 2 * length ls) rs own))
    ∙ sym (reifications_split next ls (rs ++ own))

pub sums_counted : (bound : ℕ) (t : Tree) (id next : ℕ) → count_by takes_id (sum_lines bound t id next) ≡ nodes_in t
sums_counted bound empty id next = refl
sums_counted bound (leaf t) id next = refl
sums_counted bound (node l r) id next =
    let i : ℕ = id + 2 * fresh_of (totalizer bound) l in
    let lefts = sum_lines bound l id next in
    let rights = sum_lines bound r i (next + nodes_in l) in
    let own : Step = Pol (count_ops (id + 2 * before bound l r) (outputs_of bound (node l r) - 1) ++ (give_way l (sum_at l next) ++ give_way r (sum_at r (next + nodes_in l)))) in
    let one : count_by takes_id (own ∷ []) ≡ 1 = refl in
    omega (arith, count-append takes_id lefts (rights ++ own ∷ []), count-append takes_id rights (own ∷ []), sums_counted bound l id next, sums_counted bound r i (next + nodes_in l), one)

pub all_sums : (bound : ℕ) (t : Tree) (first id next : ℕ) → phase_steps Sums bound t first id next ≡ sum_lines bound t id next
all_sums bound empty first id next = refl
all_sums bound (leaf t) first id next = refl
all_sums bound (node l r) first id next =
    let f : ℕ = first + fresh_of (totalizer bound) l in
    let i : ℕ = id + 2 * fresh_of (totalizer bound) l in
    let middle : next + count_by takes_id (phase_steps Sums bound l first id next) ≡ next + nodes_in l = omega (arith, ap (count_by takes_id) (all_sums bound l first id next), sums_counted bound l id next) in
    let count : (n : ℕ) → n + count_by takes_id (phase_steps Sums bound r f i n) ≡ n + nodes_in r = λ n. omega (arith, ap (count_by takes_id) (all_sums bound r f i n), sums_counted bound r i n) in
    let own : ℕ → ℕ → Step = λ one other. Pol (count_ops (id + 2 * before bound l r) (outputs_of bound (node l r) - 1) ++ (give_way l one ++ give_way r other)) in
    (λ k.
    all_sums bound l first id next k
    ++ (all_sums bound r f i (next + count_by takes_id (phase_steps Sums bound l first id next)) k
    ++ own (next + count_by takes_id (phase_steps Sums bound l first id next) - 1) (count (next + count_by takes_id (phase_steps Sums bound l first id next)) k - 1) ∷ []))
    ∙ ap (λ (n : ℕ). sum_lines bound l id next ++ (sum_lines bound r i n ++ own (n - 1) (n + nodes_in r - 1) ∷ [])) middle

pub all_clauses : (bound : ℕ) (t : Tree) (first id next : ℕ) → phase_steps Clauses bound t first id next ≡ nodes_steps bound t first id next
all_clauses bound empty first id next = refl
all_clauses bound (leaf t) first id next = refl
all_clauses bound (node l r) first id next =
    let f : ℕ = first + fresh_of (totalizer bound) l in
    let i : ℕ = id + 2 * fresh_of (totalizer bound) l in
    (λ k.
    let lefts = all_clauses bound l first id next k in
    let middle : ℕ = next + count_by takes_id lefts in
    let rights = all_clauses bound r f i middle k in
    lefts ++ (rights ++ node_steps bound l r first id (middle + count_by takes_id rights)))
