-- How the clauses of an adder network and its comparator are derived (after Gocht, Martins, Nordström and Oertel 2022).
use Rattle.std.specs.Prelude.{ℕ, zero, suc, ◌+◌, ◌*◌, ◌^◌, nat_le, if◌then◌else◌, pos, List, [], ◌∷◌, ◌++◌, length, map, flat_map, take, drop}
use Rattle.pb_base.specs.declared.literal.Lit.{Lit}
use Rattle.pb_norm.specs.Constraints.{Weighted}
use Rattle.pb_steps.specs.declared.op.PolOp.{PolOp}
use Rattle.pb_steps.specs.declared.op.PolOp.TheVariants.{Push, Add, Mul, Div}
use Rattle.pb_steps.specs.declared.step.Step.{Step}
use Rattle.pb_steps.specs.declared.step.Step.TheVariants.{Pol}
use Rattle.pb_derive.specs.Claims.{Claim, claim_steps}
use Rattle.pb_derive.specs.Deletions.{deletion_steps}
use Rattle.pb_derive.specs.Reifications.{reification_steps}
use Rattle.pb_derive.specs.Rups.{by_rup}
use Rattle.pb_adder.specs.declared.gate.Gate.{Gate}
use Rattle.pb_adder.specs.Comparator.{comparator}
use Rattle.pb_adder.specs.GateReifications.{gate_reifications}
use Rattle.pb_adder.specs.Gates.{gate_clauses}
use Rattle.pb_adder.specs.LeveledGates.{Leveled, leveled_gates}
use Rattle.pb_adder.specs.Network.{network_gates, network_ends}

-- ---- what adders say, added up

-- An adder's inputs are no less than its outputs: that follows from the first constraints of its carry and its sum, of the four
-- that have ids from `id` on. It is taken as often as its level says.
abbrev pub line_ops : ℕ → ℕ → List PolOp
line_ops level id = Push id ∷ Mul (pos 2) ∷ Push (id + 2) ∷ Add ∷ Div (pos 3) ∷ Mul (pos (2 ^ level)) ∷ []

-- That of up to 2^n adders, one after another, as a balanced tree: so a term is added again at most n times.
unfoldable pub tree_ops : ℕ → ℕ → List ℕ → List PolOp
tree_ops zero id [] = []
tree_ops zero id (level ∷ levels) = line_ops level id
tree_ops (suc n) id levels =
    if nat_le (length levels) (2 ^ n)
    then tree_ops n id levels
    else tree_ops n id (take (2 ^ n) levels) ++ (tree_ops n (id + 4 * 2 ^ n) (drop (2 ^ n) levels) ++ Add ∷ [])

-- ---- the running sum: after each block of adders, the weighted sum of all bits that wait, negated

-- the adders in blocks of up to 2^n
unfoldable pub blocks_within : ℕ → ℕ → List ℕ → List (List ℕ)
blocks_within n zero levels = []
blocks_within n (suc more) [] = []
blocks_within n (suc more) (level ∷ levels) = take (2 ^ n) (level ∷ levels) ∷ blocks_within n more (drop (2 ^ n) (level ∷ levels))

-- each has a line of up to 12 megabytes
abbrev pub blocks : List ℕ → List (List ℕ)
blocks levels = blocks_within 16 (length levels) levels

abbrev pub sum_ops : ℕ → List ℕ → ℕ → List PolOp
sum_ops id block running = tree_ops 16 id block ++ Push running ∷ Add ∷ []

-- A line for each further block. The sum before it is deleted.
abbrev pub later_sums : ℕ → ℕ → ℕ → List (List ℕ) → List Step
later_sums id running next [] = []
later_sums id running next (block ∷ blocks) = Pol (sum_ops id block running) ∷ (deletion_steps 1 running 1 ++ later_sums (id + 4 * length block) next (next + 1) blocks)

-- the first block's starts with the constraint itself, which stays
abbrev pub sum_steps : ℕ → ℕ → ℕ → List (List ℕ) → List Step
sum_steps id running next [] = []
sum_steps id running next (block ∷ blocks) = Pol (sum_ops id block running) ∷ later_sums (id + 4 * length block) next (next + 1) blocks

-- the id of the sum after the last block
abbrev pub last_sum : ℕ → ℕ → List (List ℕ) → ℕ
last_sum running next [] = running
last_sum running next (block ∷ blocks) = last_sum next (next + 1) blocks

-- which is deleted, where there is an adder
abbrev pub last_deletion : ℕ → List ℕ → List Step
last_deletion last [] = []
last_deletion last (level ∷ levels) = deletion_steps 1 last 1

-- ---- the clauses

abbrev pub gate_ids : ℕ → List ℕ
gate_ids id = id ∷ (id + 1) ∷ (id + 2) ∷ (id + 3) ∷ []

-- those of the adders, each from the four constraints of its adder
abbrev pub gate_claims : ℕ → ℕ → List Gate → List Claim
gate_claims first id [] = []
gate_claims first id (g ∷ gs) = map (by_rup (gate_ids id)) (gate_clauses first g) ++ gate_claims first (id + 4) gs

-- those of the comparator, from the last sum
abbrev pub row_claims : ℕ → List (List Lit) → List Claim
row_claims running rows = map (by_rup (running ∷ [])) rows

-- ---- all steps

abbrev pub levels_of : List Weighted → List ℕ
levels_of ts = map (λ (x : Leveled). x.level) (leveled_gates ts)

-- what the fresh variables mean
abbrev pub defining_steps : List Weighted → ℕ → ℕ → List Step
defining_steps ts first next = reification_steps next (flat_map (gate_reifications first) (network_gates ts))

-- the clauses, where the reifications have the ids from `base` on and the last sum has the id `last`
abbrev pub adder_claims : List Weighted → ℕ → ℕ → ℕ → ℕ → List Claim
adder_claims ts bound first base last = gate_claims first base (network_gates ts) ++ row_claims last (comparator first bound (network_ends ts))

-- then the sums and the clauses
abbrev pub proving_steps : List Weighted → ℕ → ℕ → ℕ → ℕ → ℕ → List Step
proving_steps ts bound first id base next =
    let levels = levels_of ts in
    let parts = blocks levels in
    let last = last_sum id next parts in
    sum_steps base id next parts ++ (claim_steps (next + length parts) (adder_claims ts bound first base last) ++ last_deletion last levels)

-- and then the reifications are deleted
abbrev pub adder_steps : List Weighted → ℕ → ℕ → ℕ → ℕ → List Step
adder_steps ts bound first id next =
    let count = length (network_gates ts) in
    defining_steps ts first next ++ (proving_steps ts bound first id next (next + 4 * count) ++ deletion_steps 2 next (2 * count))
