-- The steps along the tree of a totalizer, phase by phase.
use Rattle.std.specs.Prelude.{ℕ, suc, ◌+◌, ◌-◌, ◌*◌, List, [], ◌∷◌, ◌++◌, count_by}
use Rattle.pb_steps.specs.declared.step.Step.{Step}
use Rattle.pb_steps.specs.declared.step.Step.TheVariants.{Pol}
use Rattle.pb_steps.specs.Steps.{takes_id}
use Rattle.pb_derive.specs.Reifications.{reification_steps}
use Rattle.pb_tree.specs.Scheme.{fresh_of, own_count_of}
use Rattle.pb_tree.specs.Tree.{Tree, empty, leaf, node}
use Rattle.pb_totalizer.specs.Exact.{outputs_of}
use Rattle.pb_totalizer.specs.OutputSteps.{before, node_meanings}
use Rattle.pb_totalizer.specs.TotalizerSteps.{node_steps, count_ops, give_way, nodes_in}
use Rattle.pb_totalizer.specs.Totalizer.{totalizer}
use Rattle.pb_totalizer.specs.declared.joint.Joint.{Joint}
use Rattle.pb_totalizer.specs.declared.phase.Phase.{Phase}
use Rattle.pb_totalizer.specs.declared.phase.Phase.TheVariants.{Meanings, Sums, Clauses}
use Rattle.pb_totalizer.specs.inner.Joints.{joint_meanings, joint_sum, joint_steps, joint_ids}
use Rattle.pb_totalizer.specs.laws.NodeForms.{lines_of}
use Rattle.pb_totalizer.specs.laws.NodesFine.{ids_of}

-- ---- of a node, where the last lines of its parts have ids

abbrev pub joint_in : Phase → Joint → ℕ → ℕ → ℕ → List Step
joint_in Meanings n left right next = reification_steps next (joint_meanings n)
joint_in Sums n left right next = joint_sum n left right ∷ []
joint_in Clauses n left right next = joint_steps n next

abbrev pub joint_ids_in : Phase → Joint → ℕ
joint_ids_in Meanings n = 2 * suc n.row.last
joint_ids_in Sums n = 1
joint_ids_in Clauses n = joint_ids n

abbrev pub node_in : Phase → ℕ → Tree → Tree → ℕ → ℕ → ℕ → ℕ → ℕ → List Step
node_in Meanings bound l r first id left right next = reification_steps next (node_meanings bound l r first)
node_in Sums bound l r first id left right next = Pol (count_ops (id + 2 * before bound l r) (outputs_of bound (node l r) - 1) ++ (give_way l left ++ give_way r right)) ∷ []
node_in Clauses bound l r first id left right next = node_steps bound l r first id next

abbrev pub node_ids_in : Phase → ℕ → Tree → Tree → ℕ
node_ids_in Meanings bound l r = 2 * outputs_of bound (node l r)
node_ids_in Sums bound l r = 1
node_ids_in Clauses bound l r = lines_of bound l r + own_count_of (totalizer bound) l r

-- ---- of a tree: of the left part, of the right part, and of the node

abbrev pub phase_steps : Phase → ℕ → Tree → ℕ → ℕ → ℕ → List Step
phase_steps phase bound empty first id next = []
phase_steps phase bound (leaf t) first id next = []
phase_steps phase bound (node l r) first id next =
    let lefts = phase_steps phase bound l first id next in
    let middle = next + count_by takes_id lefts in
    let rights = phase_steps phase bound r (first + fresh_of (totalizer bound) l) (id + 2 * fresh_of (totalizer bound) l) middle in
    let own = middle + count_by takes_id rights in
    lefts ++ (rights ++ node_in phase bound l r first id (middle - 1) (own - 1) own)

-- how many ids they take at most
abbrev pub phase_ids : Phase → ℕ → Tree → ℕ
phase_ids Meanings bound t = 2 * fresh_of (totalizer bound) t
phase_ids Sums bound t = nodes_in t
phase_ids Clauses bound t = ids_of bound t
