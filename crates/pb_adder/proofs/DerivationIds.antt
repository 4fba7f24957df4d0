-- How many ids the parts of an adder network's derivation take.
use Rattle.std.proofs.Common.{◌≡◌, ◌≤◌, ◌<◌, ◌+◌, ◌*◌, ◌^◌, ◌++◌, ℕ, cond, List, [], ◌∷◌, length, refl, ap, arith}
use Rattle.std.specs.Prelude.{count_by, sum_by}
use Rattle.std.specs.List.{flat_map}
use Rattle.std.proofs.lemmas.List.Sums.{sum_by-append}
use Rattle.pb_norm.specs.Constraints.{Weighted, weight}
use Rattle.pb_steps.specs.declared.step.Step.{Step}
use Rattle.pb_steps.specs.Steps.{takes_id}
use Rattle.pb_derive.specs.Claims.{Claim, claim_steps}
use Rattle.pb_family.proofs.Sequence.{reifications_ids}
use Rattle.pb_adder.specs.AdderSteps.{blocks, sum_steps, last_sum, last_deletion, gate_claims, row_claims, levels_of, adder_claims, defining_steps, proving_steps}
use Rattle.pb_adder.specs.Comparator.{comparator}
use Rattle.pb_adder.specs.GateReifications.{gate_reifications}
use Rattle.pb_adder.specs.Network.{level_count, network_ends, network_gates}
use Rattle.pb_adder.specs.laws.AdderDerives.{reifications-length}
use Rattle.pb_adder.specs.laws.AdderShort.{gate_claims_few}
use Rattle.pb_adder.specs.laws.Leveling.{few_levels}
use Rattle.pb_adder.specs.laws.RowLengths.{comparator_few, ends_length}
use Rattle.pb_adder.specs.laws.StepCounts.{few_blocks, levels-length}
use Rattle.pb_adder.proofs.Walks.{claims-append, claims_ids, gate_claims_ids, sums_ids}

abbrev bit : Step → ℕ
bit s = cond (takes_id s) 1 0

pub adder_claims_ids : (ts : List Weighted) (bound first base last next : ℕ) → weight ts < 2 ^ 100 → count_by takes_id (claim_steps next (adder_claims ts bound first base last)) ≤ 14 * length (network_gates ts) + 100
adder_claims_ids ts bound first base last next small =
    let gates : List Claim = gate_claims first base (network_gates ts) in
    let rows : List Claim = row_claims last (comparator first bound (network_ends ts)) in
    omega (
      arith,
      ap (sum_by bit) (claims-append next gates rows),
      sum_by-append bit (claim_steps next gates) (claim_steps (next + length gates) rows),
      gate_claims_ids first base next (network_gates ts),
      gate_claims_few first base (network_gates ts),
      claims_ids (next + length gates) (last ∷ []) (comparator first bound (network_ends ts)),
      comparator_few first bound (network_ends ts),
      ends_length (level_count ts) 0 ts [] 0,
      few_levels ts small,
    )

last_ids : (last : ℕ) (levels : List ℕ) → count_by takes_id (last_deletion last levels) ≡ 0
last_ids last [] = refl
last_ids last (level ∷ levels) = refl

pub proving_ids : (ts : List Weighted) (bound first id base next : ℕ) → weight ts < 2 ^ 100 → count_by takes_id (proving_steps ts bound first id base next) ≤ 15 * length (network_gates ts) + 100
proving_ids ts bound first id base next small =
    let levels = levels_of ts in
    let parts = blocks levels in
    let last = last_sum id next parts in
    let sums = sum_steps base id next parts in
    let outs = claim_steps (next + length parts) (adder_claims ts bound first base last) in
    omega (
      arith,
      sum_by-append bit sums (outs ++ last_deletion last levels),
      sum_by-append bit outs (last_deletion last levels),
      sums_ids base id next parts,
      few_blocks levels,
      levels-length ts,
      adder_claims_ids ts bound first base last (next + length parts) small,
      last_ids last levels,
    )

pub defining_ids : (ts : List Weighted) (first next : ℕ) → count_by takes_id (defining_steps ts first next) ≡ 4 * length (network_gates ts)
defining_ids ts first next = omega (arith, reifications_ids next (flat_map (gate_reifications first) (network_gates ts)), reifications-length first (network_gates ts))
