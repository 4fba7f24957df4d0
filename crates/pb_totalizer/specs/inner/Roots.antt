-- The root of a totalizer, as the code has it, and what follows from what its fresh variables mean.
use Rattle.std.specs.Prelude.{◌≡◌, ℕ, ◌+◌, ◌*◌, List, [], ◌∷◌, ◌++◌, pos}
use Rattle.pb_steps.specs.declared.op.PolOp.TheVariants.{Push, Add, Div}
use Rattle.pb_steps.specs.declared.step.Step.{Step}
use Rattle.pb_steps.specs.declared.step.Step.TheVariants.{Pol}
use Rattle.pb_derive.specs.Claims.{Claim, claim_steps}
use Rattle.pb_derive.specs.FollowedBy.{followed_by}
use Rattle.pb_tree.specs.Scheme.{fresh_of}
use Rattle.pb_tree.specs.Tree.{Tree, node}
use Rattle.pb_totalizer.specs.OutputSteps.{before}
use Rattle.pb_totalizer.specs.TotalizerSteps.{nodes_in, sum_at, sum_lines, root_steps, give_way}
use Rattle.pb_totalizer.specs.Totalizer.{totalizer}
use Rattle.pb_totalizer.specs.declared.phase.Phase.TheVariants.{Clauses}
use Rattle.pb_totalizer.specs.declared.root.Root.{Root}
use Rattle.pb_totalizer.specs.inner.Phases.{phase_steps}
use Rattle.pb_totalizer.specs.inner.Sides.{side_gives}

-- that no more leaves are true than the bound; its clause is left out
abbrev pub root_given : Root → Claim
root_given root = record { step = Pol (Push root.output ∷ side_gives root.left root.left_sum ++ (side_gives root.right root.right_sum ++ Push root.own ∷ Add ∷ Div (pos (root.bound + 1)) ∷ [])); clause = [] }

-- the lines by which of each part of the root no fewer leaves are true than outputs
abbrev pub root_sums : ℕ → Tree → ℕ → ℕ → List Step
root_sums bound (node l r) id next = sum_lines bound l id next ++ sum_lines bound r (id + 2 * fresh_of (totalizer bound) l) (next + nodes_in l)
root_sums bound t id next = []

-- the root by these lines, the first of which has the id `next`
abbrev pub IsRoot : ℕ → Tree → ℕ → ℕ → ℕ → Root → Type 0
IsRoot bound (node l r) id own next root =
    (side_gives root.left root.left_sum ≡ give_way l (sum_at l next))
    × (side_gives root.right root.right_sum ≡ give_way r (sum_at r (next + nodes_in l)))
    × (root.bound ≡ bound)
    × (root.output ≡ id + 2 * before bound l r + 2 * bound)
    × (root.own ≡ own)
IsRoot bound t id own next root = ⊥

-- the clauses of all nodes, and that of the root
abbrev pub clauses_within : ℕ → Tree → ℕ → ℕ → Root → ℕ → List Step
clauses_within bound t first id root = followed_by (phase_steps Clauses bound t first id) (λ at. claim_steps at (root_given root ∷ []))

-- all of it
abbrev pub root_within : ℕ → Tree → ℕ → ℕ → ℕ → ℕ → List Step
root_within bound (node l r) first own id next = root_steps bound l r first own id next
root_within bound t first own id next = []
