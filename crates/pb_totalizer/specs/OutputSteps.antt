-- How the clauses of a node are derived over the outputs of its two parts (our own).
-- An output of a node is reified over the outputs of the node's two parts. A clause of the node follows from its output's second
-- constraint, and for each part from what its other outputs add to the one that the clause has.
use Rattle.std.specs.Prelude.{ℕ, ◌+◌, ◌-◌, ◌*◌, pos, List, [], ◌∷◌, ◌++◌, length, map}
use Rattle.std.specs.List.{flat_map, range_with_len}
use Rattle.pb_base.specs.declared.literal.Lit.{Lit}
use Rattle.pb_norm.specs.Constraints.{Weighted}
use Rattle.pb_steps.specs.declared.op.PolOp.TheVariants.{Push, Axiom, Add, Div, Weaken}
use Rattle.pb_steps.specs.declared.step.Step.{Step}
use Rattle.pb_steps.specs.declared.step.Step.TheVariants.{Pol}
use Rattle.pb_derive.specs.Claims.{Claim, claim_steps}
use Rattle.pb_derive.specs.Deletions.{deletion_steps}
use Rattle.pb_derive.specs.Ones.{ones}
use Rattle.pb_derive.specs.Reifications.{Reification}
use Rattle.pb_tree.specs.Pairs.{Pair, pair_of, pair_clause}
use Rattle.pb_tree.specs.Scheme.{values, fresh_of, output, along}
use Rattle.pb_tree.specs.Tree.{Tree, empty, leaf, node}
use Rattle.pb_tree.specs.TreeSteps.{reifications_from}
use Rattle.pb_totalizer.specs.Exact.{outputs_of}
use Rattle.pb_totalizer.specs.OutputRows.{row_lines, row_size, others_at}
use Rattle.pb_totalizer.specs.Totalizer.{partners, totalizer}

-- ---- what the fresh variables mean

abbrev pub outputs : ℕ → Tree → ℕ → List Lit
outputs bound t first = map (output (totalizer bound) t first) (values (totalizer bound) t)

-- those of both parts of a node
abbrev pub inputs : ℕ → Tree → Tree → ℕ → List Weighted
inputs bound l r first = ones (outputs bound l first) ++ ones (outputs bound r (first + fresh_of (totalizer bound) l))

abbrev pub input_count : ℕ → Tree → Tree → ℕ
input_count bound l r = outputs_of bound l + outputs_of bound r

-- how many fresh variables stand before a node's own
abbrev pub before : ℕ → Tree → Tree → ℕ
before bound l r = fresh_of (totalizer bound) l + fresh_of (totalizer bound) r

abbrev pub node_meanings : ℕ → Tree → Tree → ℕ → List Reification
node_meanings bound l r first = reifications_from (first + before bound l r) (inputs bound l r first) (values (totalizer bound) (node l r))

-- along a tree, in the order of the variables
abbrev pub meanings : ℕ → Tree → ℕ → List Reification
meanings bound t first = along (totalizer bound) (node_meanings bound) t first

-- ---- the clauses of a node

-- What all outputs of a part but one add to that one: the part's fresh variables begin with `first`, and their constraints with the id `id`.
abbrev pub part_lines : ℕ → Tree → ℕ → ℕ → ℕ → List Step
part_lines bound empty first id next = []
part_lines bound (leaf t) first id next = Pol (Axiom t.lit ∷ []) ∷ Pol (Axiom t.lit ∷ Weaken t.lit.var ∷ []) ∷ []
part_lines bound (node l r) first id next = row_lines (first + before bound l r) (id + 2 * before bound l r) (input_count bound l r) (outputs_of bound (node l r) - 1) next

abbrev pub part_size : ℕ → Tree → ℕ
part_size bound empty = 0
part_size bound (leaf t) = 2
part_size bound (node l r) = row_size (outputs_of bound (node l r) - 1)

-- where the line for a clause with none of the outputs stands; those for one with the first, the second, .. stand behind it
abbrev pub part_others : ℕ → Tree → ℕ → ℕ
part_others bound empty next = next
part_others bound (leaf t) next = next
part_others bound (node l r) next = others_at (outputs_of bound (node l r) - 1) next

-- all numbers of leaves on both sides whose sum is from 1 to the cap
abbrev pub totalizer_pairs : ℕ → List ℕ → List ℕ → List Pair
totalizer_pairs cap us vs = flat_map (λ i. map (pair_of i) (partners cap (length vs) i)) (range_with_len 0 (length us + 1))

-- where i of the left are true and j of the right, i + j are
abbrev pub pair_step : ℕ → ℕ → ℕ → ℕ → Step
pair_step reverse left right count = Pol (Push reverse ∷ Push left ∷ Add ∷ Push right ∷ Add ∷ Div (pos count) ∷ [])

abbrev pub pair_claim : ℕ → Tree → Tree → ℕ → ℕ → ℕ → Pair → Claim
pair_claim bound l r first id next p = record {
  step = pair_step (id + 2 * before bound l r + 2 * (p.left + p.right - 1) + 1) (part_others bound l next + p.left) (part_others bound r (next + part_size bound l) + p.right) (input_count bound l r);
  clause = pair_clause (bound + 1) (output (totalizer bound) l first) (output (totalizer bound) r (first + fresh_of (totalizer bound) l)) (output (totalizer bound) (node l r) first) p;
}

abbrev pub node_claims : ℕ → Tree → Tree → ℕ → ℕ → ℕ → List Claim
node_claims bound l r first id next = map (pair_claim bound l r first id next) (totalizer_pairs (bound + 1) (values (totalizer bound) l) (values (totalizer bound) r))

-- the lines about both parts, the clauses, and the deletion of those lines
abbrev pub narrow_node_steps : ℕ → Tree → Tree → ℕ → ℕ → ℕ → List Step
narrow_node_steps bound l r first id next =
    let size = part_size bound l + part_size bound r in
    (part_lines bound l first id next ++ part_lines bound r (first + fresh_of (totalizer bound) l) (id + 2 * fresh_of (totalizer bound) l) (next + part_size bound l))
    ++ (claim_steps (next + size) (node_claims bound l r first id next)
    ++ deletion_steps size next 1)
