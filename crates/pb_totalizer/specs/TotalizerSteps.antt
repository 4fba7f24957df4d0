-- How the clauses of a totalizer are derived over the outputs of its nodes' parts (our own).
-- Those of a node go over all outputs of both parts, or, where these are many, over blocks of them. The root's clause follows from the
-- sum's own constraint, since of a part no fewer leaves are true than outputs.
use Rattle.std.specs.Prelude.{ℕ, Bool, nat_lt, min, zero, suc, ◌+◌, ◌-◌, ◌*◌, pos, List, [], ◌∷◌, ◌++◌, length, if◌then◌else◌}
use Rattle.pb_base.specs.Literals.{negated}
use Rattle.pb_norm.specs.BoundedSums.{BoundedSum}
use Rattle.pb_steps.specs.declared.op.PolOp.{PolOp}
use Rattle.pb_steps.specs.declared.op.PolOp.TheVariants.{Push, Add, Mul, Div}
use Rattle.pb_steps.specs.declared.step.Step.{Step}
use Rattle.pb_steps.specs.declared.step.Step.TheVariants.{Pol}
use Rattle.pb_derive.specs.Claims.{Claim, claim_steps}
use Rattle.pb_derive.specs.Deletions.{deletion_steps}
use Rattle.pb_derive.specs.FollowedBy.{followed_by}
use Rattle.pb_derive.specs.Reifications.{reification_steps}
use Rattle.pb_tree.specs.Scheme.{fresh_of, output}
use Rattle.pb_tree.specs.Tree.{Tree, empty, leaf, node, tree_of}
use Rattle.pb_totalizer.specs.Exact.{outputs_of}
use Rattle.pb_totalizer.specs.Totalizer.{totalizer}
use Rattle.pb_totalizer.specs.OutputSteps.{before, meanings, narrow_node_steps}
use Rattle.pb_totalizer.specs.OutputWindows.{wide_node_steps}

-- ---- the clauses of the nodes

-- both parts have more outputs than a block
abbrev pub is_large : ℕ → Tree → Tree → Bool
is_large bound l r = nat_lt 32 (min (outputs_of bound l) (outputs_of bound r))

abbrev pub node_steps : ℕ → Tree → Tree → ℕ → ℕ → ℕ → List Step
node_steps bound l r first id next = if is_large bound l r then wide_node_steps bound l r first id next else narrow_node_steps bound l r first id next

-- of all nodes of a tree
abbrev pub nodes_steps : ℕ → Tree → ℕ → ℕ → ℕ → List Step
nodes_steps bound empty first id next = []
nodes_steps bound (leaf t) first id next = []
nodes_steps bound (node l r) first id next =
    followed_by (nodes_steps bound l first id)
    (followed_by (nodes_steps bound r (first + fresh_of (totalizer bound) l) (id + 2 * fresh_of (totalizer bound) l)) (node_steps bound l r first id)) next

-- ---- no fewer leaves are true than outputs

-- no fewer inputs of a node are true than of its first n + 1 outputs: by those before, and the last one's first constraint
abbrev pub count_ops : ℕ → ℕ → List PolOp
count_ops row zero = Push row ∷ []
count_ops row (suc n) = count_ops row n ++ (Mul (pos (suc n)) ∷ Push (row + 2 * suc n) ∷ Add ∷ Div (pos (suc (suc n))) ∷ [])

-- the outputs of a part give way to its leaves, by the line that has an id; a leaf is its own output
abbrev pub give_way : Tree → ℕ → List PolOp
give_way (node l r) id = Push id ∷ Add ∷ []
give_way t id = []

abbrev pub nodes_in : Tree → ℕ
nodes_in (node l r) = nodes_in l + nodes_in r + 1
nodes_in t = 0

-- where the lines of a tree begin, that of its root stands last
abbrev pub sum_at : Tree → ℕ → ℕ
sum_at t next = next + nodes_in t - 1

abbrev pub sum_lines : ℕ → Tree → ℕ → ℕ → List Step
sum_lines bound (node l r) id next =
    sum_lines bound l id next
    ++ (sum_lines bound r (id + 2 * fresh_of (totalizer bound) l) (next + nodes_in l)
    ++ Pol (count_ops (id + 2 * before bound l r) (outputs_of bound (node l r) - 1) ++ (give_way l (sum_at l next) ++ give_way r (sum_at r (next + nodes_in l)))) ∷ [])
sum_lines bound t id next = []

-- ---- the whole, where the sum's own constraint has the id `own`

-- no more leaves are true than the bound
abbrev pub root_claim : ℕ → Tree → Tree → ℕ → ℕ → ℕ → ℕ → Claim
root_claim bound l r first own id next = record {
  step = Pol (Push (id + 2 * before bound l r + 2 * bound) ∷ give_way l (sum_at l next) ++ (give_way r (sum_at r (next + nodes_in l)) ++ Push own ∷ Add ∷ Div (pos (bound + 1)) ∷ []));
  clause = negated (output (totalizer bound) (node l r) first (bound + 1)) ∷ [];
}

abbrev pub root_steps : ℕ → Tree → Tree → ℕ → ℕ → ℕ → ℕ → List Step
root_steps bound l r first own id next =
    let count = nodes_in l + nodes_in r in
    (sum_lines bound l id next ++ sum_lines bound r (id + 2 * fresh_of (totalizer bound) l) (next + nodes_in l))
    ++ (followed_by (nodes_steps bound (node l r) first id) (λ at. claim_steps at (root_claim bound l r first own id next ∷ [])) (next + count)
    ++ deletion_steps 1 next count)

abbrev pub totalizer_steps_of : ℕ → Tree → ℕ → ℕ → ℕ → List Step
totalizer_steps_of bound (node l r) first own next =
    let ms = meanings bound (node l r) first in
    reification_steps next ms
    ++ (root_steps bound l r first own next (next + 2 * length ms)
    ++ deletion_steps 2 next (length ms))
totalizer_steps_of bound t first own next = []

abbrev pub totalizer_steps : BoundedSum → ℕ → ℕ → ℕ → List Step
totalizer_steps m first own next = totalizer_steps_of m.bound (tree_of m.terms) first own next
