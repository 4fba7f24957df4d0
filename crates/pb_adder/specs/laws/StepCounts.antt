-- How many steps the derivation of an adder network has.
use Rattle.std.proofs.Common.{◌≡◌, ◌≤◌, ◌+◌, ◌-◌, ◌*◌, ◌^◌, ℕ, zero, suc, List, [], ◌∷◌, ◌++◌, length, drop, refl, ap, ◌∙◌, arith, length-append}
use Rattle.std.specs.Prelude.{map, flat_map}
use Rattle.std.proofs.lemmas.Nat.{pow_pos}
use Rattle.std.proofs.lemmas.List.{length-map, length-drop}
use Rattle.pb_norm.specs.Constraints.{Weighted}
use Rattle.pb_derive.specs.Claims.{Claim, claim_steps}
use Rattle.pb_derive.specs.Deletions.{deletion_steps}
use Rattle.pb_derive.specs.Reifications.{Reification, reification_steps}
use Rattle.pb_derive.proofs.Phases.{length-reifications, length-claims, length-deletions}
use Rattle.pb_adder.specs.AdderSteps.{blocks_within, blocks, later_sums, sum_steps, last_sum, last_deletion, levels_of, adder_claims, proving_steps, adder_steps}
use Rattle.pb_adder.specs.Comparator.{comparator}
use Rattle.pb_adder.specs.Counts.{adder_fresh, adder_size}
use Rattle.pb_adder.specs.GateReifications.{gate_reifications}
use Rattle.pb_adder.specs.LeveledGates.{Leveled, leveled_gates}
use Rattle.pb_adder.specs.Network.{network_gates, network_ends}
use Rattle.pb_adder.specs.laws.AdderDerives.{reifications-length, claims_clauses}
use Rattle.pb_adder.specs.laws.AdderLaws.{adder_counts}
use Rattle.pb_adder.specs.laws.CountLaws.{network_fresh}
use Rattle.pb_adder.specs.laws.Leveling.{leveled_length}

-- no block is empty
within_few : (n more : ℕ) (levels : List ℕ) → length (blocks_within n more levels) ≤ length levels
unfolding blocks_within
within_few n zero levels = omega arith
within_few n (suc more) [] = omega arith
within_few n (suc more) (level ∷ levels) = omega (arith, within_few n more (drop (2 ^ n) (level ∷ levels)), length-drop (2 ^ n) (level ∷ levels), pow_pos n)

pub few_blocks : (levels : List ℕ) → length (blocks levels) ≤ length levels
few_blocks levels = within_few 16 (length levels) levels

later_count : (id running next : ℕ) (parts : List (List ℕ)) → length (later_sums id running next parts) ≡ 2 * length parts
later_count id running next [] = refl
later_count id running next (block ∷ parts) =
    let id' = id + 4 * length block in
    omega (arith, length-append (deletion_steps 1 running 1) (later_sums id' next (next + 1) parts), length-deletions 1 running 1, later_count id' next (next + 1) parts)

-- each sum is made, and deleted but for the last one
sums_count : (id running next : ℕ) (parts : List (List ℕ)) → length (sum_steps id running next parts) ≤ 2 * length parts - 1
sums_count id running next [] = omega arith
sums_count id running next (block ∷ parts) = omega (arith, later_count (id + 4 * length block) next (next + 1) parts)

pub last_count : (last : ℕ) (levels : List ℕ) → length (last_deletion last levels) ≤ 1
last_count last [] = omega arith
last_count last (level ∷ levels) = omega (arith, length-deletions 1 last 1)

none_deleted : (last : ℕ) (levels : List ℕ) → length levels ≡ 0 → length (last_deletion last levels) ≡ 0
none_deleted last [] none = refl
none_deleted last (level ∷ levels) none = absurd (omega (arith, none))

both_count : (id running next last : ℕ) (levels : List ℕ) → length (sum_steps id running next (blocks levels)) + length (last_deletion last levels) ≤ 2 * length levels
both_count id running next last [] = omega (arith, sums_count id running next (blocks []), few_blocks [], none_deleted last [] refl)
both_count id running next last (level ∷ levels) = omega (arith, sums_count id running next (blocks (level ∷ levels)), few_blocks (level ∷ levels), last_count last (level ∷ levels))

pub levels-length : (ts : List Weighted) → length (levels_of ts) ≡ length (network_gates ts)
levels-length ts = length-map (leveled_gates ts) (λ (x : Leveled). x.level) ∙ leveled_length ts

pub claims-length : (ts : List Weighted) (bound first base last : ℕ) → length (adder_claims ts bound first base last) ≡ adder_size ts bound
claims-length ts bound first base last =
    let claims = adder_claims ts bound first base last in
    let clauses : length (map (λ (c : Claim). c.clause) claims) ≡ adder_size ts bound =
    ap length (claims_clauses first base last (network_gates ts) (comparator first bound (network_ends ts))) ∙ adder_counts ts bound first in
    omega (arith, length-map claims (λ (c : Claim). c.clause), clauses)

proving_count : (ts : List Weighted) (bound first id base next : ℕ) → length (proving_steps ts bound first id base next) ≤ 2 * length (network_gates ts) + 2 * adder_size ts bound
proving_count ts bound first id base next =
    let levels = levels_of ts in
    let parts = blocks levels in
    let last = last_sum id next parts in
    let sums = sum_steps base id next parts in
    let outs = claim_steps (next + length parts) (adder_claims ts bound first base last) in
    let gone = last_deletion last levels in
    omega (
      arith,
      length-append sums (outs ++ gone),
      length-append outs gone,
      both_count base id next last levels,
      levels-length ts,
      length-claims (next + length parts) (adder_claims ts bound first base last),
      claims-length ts bound first base last,
    )

-- at most eight for each adder, and two for each clause
pub adder_steps_count : (ts : List Weighted) (bound first id next : ℕ) → length (adder_steps ts bound first id next) ≤ 8 * length (network_gates ts) + 2 * adder_size ts bound
adder_steps_count ts bound first id next =
    let count = length (network_gates ts) in
    let ms : List Reification = flat_map (gate_reifications first) (network_gates ts) in
    let reifications = reification_steps next ms in
    let body = proving_steps ts bound first id next (next + 4 * count) in
    let gone = deletion_steps 2 next (2 * count) in
    omega (
      arith,
      length-append reifications (body ++ gone),
      length-append body gone,
      length-reifications next ms,
      reifications-length first (network_gates ts),
      proving_count ts bound first id next (next + 4 * count),
      length-deletions 2 next (2 * count),
    )

pub adder_lines : (ts : List Weighted) (bound first id next : ℕ) → length (adder_steps ts bound first id next) ≤ 8 * (adder_fresh ts + adder_size ts bound)
adder_lines ts bound first id next = omega (arith, adder_steps_count ts bound first id next, network_fresh ts)
