-- The parts of an adder network's derivation, element by element.
use Rattle.std.proofs.Common.{◌≡◌, ◌≤◌, ◌<◌, ◌+◌, ◌*◌, ◌^◌, ◌++◌, ◌∙◌, ℕ, zero, suc, List, [], ◌∷◌, length, take, drop, min, refl, sym, ap, cond, arith, length-append}
use Rattle.std.specs.Prelude.{map, count_by, sum_by, Result, IsErrAnd}
use Rattle.std.specs.List.{flat_map}
use Rattle.std.proofs.lemmas.Nat.{pow_pos}
use Rattle.std.proofs.lemmas.List.{length-map, length-drop, map-append, take_min, drop_min}
use Rattle.std.proofs.lemmas.List.Sums.{sum_by_from, sum_by-append}
use Rattle.pb_base.specs.declared.literal.Lit.{Lit}
use Rattle.pb_steps.specs.declared.step.Step.{Step}
use Rattle.pb_steps.specs.declared.step.Step.TheVariants.{Pol}
use Rattle.pb_steps.specs.Steps.{takes_id}
use Rattle.pb_derive.specs.Claims.{Claim, claim_steps}
use Rattle.pb_derive.specs.Deletions.{deletion_steps}
use Rattle.pb_derive.specs.Reifications.{reification_steps}
use Rattle.pb_derive.specs.Rups.{by_rup}
use Rattle.pb_family.specs.Derivations.{propagated}
use Rattle.pb_adder.specs.AdderSteps.{blocks_within, blocks, sum_ops, later_sums, sum_steps, last_sum, last_deletion, gate_ids, gate_claims}
use Rattle.pb_adder.specs.GateReifications.{gate_reifications}
use Rattle.pb_adder.specs.Gates.{gate_clauses}
use Rattle.pb_adder.specs.declared.gate.Gate.{Gate}
use Rattle.pb_family.specs.StepSinks.{StepState, TakesSteps, StopsInSteps, HandsSteps}
use Rattle.pb_family.specs.declared.sink.SinkFault.{SinkFault}
use Rattle.pb_family.proofs.Deriving.{steps_same}
use Rattle.pb_adder.proofs.Walking.{on, walk, part_stopped, parts_handed}

-- ---- reifications: what moves is the next id

abbrev pub gate_piece : ℕ → ℕ → Gate → List Step
gate_piece first next g = reification_steps next (gate_reifications first g)

pub reifications_walk : (first next : ℕ) (gs : List Gate) → reification_steps next (flat_map (gate_reifications first) gs) ≡ walk (gate_piece first) (on 4) next gs
reifications_walk first next [] = refl
reifications_walk first next (g ∷ gs) =
    ap (λ (ss : List Step). gate_piece first next g ++ ss)
    (ap (λ (n : ℕ). reification_steps n (flat_map (gate_reifications first) gs)) (let e : next + 2 + 2 ≡ next + 4 = omega arith in e) ∙ reifications_walk first (next + 4) gs)

-- ---- clauses by the same ids

abbrev pub clause_piece : List ℕ → ℕ → List Lit → List Step
clause_piece ids next c = propagated next ids c

pub clauses_walk : (ids : List ℕ) (next : ℕ) (cs : List (List Lit)) → claim_steps next (map (by_rup ids) cs) ≡ walk (clause_piece ids) (on 1) next cs
clauses_walk ids next [] = refl
clauses_walk ids next (c ∷ cs) = ap (λ (ss : List Step). clause_piece ids next c ++ ss) (clauses_walk ids (next + 1) cs)

pub claims_ids : (next : ℕ) (ids : List ℕ) (cs : List (List Lit)) → count_by takes_id (claim_steps next (map (by_rup ids) cs)) ≡ length cs
claims_ids next ids [] = refl
claims_ids next ids (c ∷ cs) =
    let rest = claims_ids (next + 1) ids cs in
    sum_by_from (λ (s : Step). cond (takes_id s) 1 0) 1 (claim_steps (next + 1) (map (by_rup ids) cs)) ∙ omega arith

-- claims in two parts
pub claims-append : (next : ℕ) (xs ys : List Claim) → claim_steps next (xs ++ ys) ≡ claim_steps next xs ++ claim_steps (next + length xs) ys
claims-append next [] ys = ap (λ (n : ℕ). claim_steps n ys) (let e : next ≡ next + 0 = omega arith in e)
claims-append next (x ∷ xs) ys =
    ap (λ (ss : List Step). claim_steps next (x ∷ []) ++ ss)
    (claims-append (next + 1) xs ys ∙ ap (λ (n : ℕ). claim_steps (next + 1) xs ++ claim_steps n ys) (let e : next + 1 + length xs ≡ next + length (x ∷ xs) = omega arith in e))

-- clauses by the same ids, in two parts
rups-append : (ids : List ℕ) (next : ℕ) (us vs : List (List Lit)) → claim_steps next (map (by_rup ids) (us ++ vs)) ≡ claim_steps next (map (by_rup ids) us) ++ claim_steps (next + length us) (map (by_rup ids) vs)
rups-append ids next us vs =
    ap (claim_steps next) (map-append (by_rup ids) us vs)
    ∙ claims-append next (map (by_rup ids) us) (map (by_rup ids) vs)
    ∙ ap (λ (n : ℕ). claim_steps next (map (by_rup ids) us) ++ claim_steps (next + n) (map (by_rup ids) vs)) (length-map us (by_rup ids))

-- the fault in the first part
pub rups_stopped : {R T : Type 0} (r : Result T SinkFault) (f : SinkFault) (ids : List ℕ) (us vs : List (List Lit)) (old after : StepState R) → IsErrAnd r (λ g. g ≡ f)
    → StopsInSteps (claim_steps old.next (map (by_rup ids) us)) old after f → HandsSteps (claim_steps old.next (map (by_rup ids) (us ++ vs))) r old after
rups_stopped r f ids us vs old after is h = part_stopped r f _ _ _ old after is (rups-append ids old.next us vs) h

-- both parts
pub rups_handed : {R T : Type 0} (r : Result T SinkFault) (ids : List ℕ) (us vs : List (List Lit)) (old mid after : StepState R)
    → TakesSteps (claim_steps old.next (map (by_rup ids) us)) old mid → HandsSteps (claim_steps mid.next (map (by_rup ids) vs)) r mid after → HandsSteps (claim_steps old.next (map (by_rup ids) (us ++ vs))) r old after
rups_handed r ids us vs old mid after taken k =
    let steps = λ (n : ℕ). claim_steps n (map (by_rup ids) vs) in
    let count : mid.next ≡ old.next + length us = omega (arith, taken.ids, claims_ids old.next ids us) in
    parts_handed r _ (claim_steps old.next (map (by_rup ids) us)) (steps (old.next + length us)) old mid after (rups-append ids old.next us vs) taken (steps_same r (steps mid.next) _ mid after (ap steps count) k)

-- ---- clauses of adders: what moves is the id of an adder's first constraint, and the next id

pub record Place : Type 0 where
  pub id : ℕ
  pub next : ℕ

abbrev pub place : ℕ → ℕ → Place
place id next = record { id = id; next = next }

abbrev pub claims_piece : ℕ → Place → Gate → List Step
claims_piece first p g = claim_steps p.next (map (by_rup (gate_ids p.id)) (gate_clauses first g))

abbrev pub claims_on : ℕ → Place → Gate → Place
claims_on first p g = place (p.id + 4) (p.next + length (gate_clauses first g))

pub gates_walk : (first id next : ℕ) (gs : List Gate) → claim_steps next (gate_claims first id gs) ≡ walk (claims_piece first) (claims_on first) (place id next) gs
gates_walk first id next [] = refl
gates_walk first id next (g ∷ gs) =
    let here : List Claim = map (by_rup (gate_ids id)) (gate_clauses first g) in
    claims-append next here (gate_claims first (id + 4) gs)
    ∙ ap (λ (n : ℕ). claim_steps next here ++ claim_steps (next + n) (gate_claims first (id + 4) gs)) (length-map (gate_clauses first g) (by_rup (gate_ids id)))
    ∙ ap (λ (ss : List Step). claim_steps next here ++ ss) (gates_walk first (id + 4) (next + length (gate_clauses first g)) gs)

-- all clauses of a network take an id each
pub gate_claims_ids : (first id next : ℕ) (gs : List Gate) → count_by takes_id (claim_steps next (gate_claims first id gs)) ≡ length (gate_claims first id gs)
gate_claims_ids first id next [] = refl
gate_claims_ids first id next (g ∷ gs) =
    let here : List Claim = map (by_rup (gate_ids id)) (gate_clauses first g) in
    let rest : List Claim = gate_claims first (id + 4) gs in
    let bit : Step → ℕ = λ s. cond (takes_id s) 1 0 in
    omega (
      arith,
      ap (sum_by bit) (claims-append next here rest),
      sum_by-append bit (claim_steps next here) (claim_steps (next + length here) rest),
      claims_ids next (gate_ids id) (gate_clauses first g),
      gate_claims_ids first (id + 4) (next + length here) gs,
      length-append here rest,
      length-map (gate_clauses first g) (by_rup (gate_ids id)),
    )

-- ---- sums

-- any fuel that is enough gives the same blocks
within_enough : (n more others : ℕ) (levels : List ℕ) → length levels ≤ more → length levels ≤ others → blocks_within n more levels ≡ blocks_within n others levels
unfolding blocks_within
within_enough n zero zero levels h k = refl
within_enough n zero (suc others) [] h k = refl
within_enough n zero (suc others) (level ∷ levels) h k = absurd (omega (arith, h))
within_enough n (suc more) zero [] h k = refl
within_enough n (suc more) zero (level ∷ levels) h k = absurd (omega (arith, k))
within_enough n (suc more) (suc others) [] h k = refl
within_enough n (suc more) (suc others) (level ∷ levels) h k =
    let back = drop (2 ^ n) (level ∷ levels) in
    let from = pow_pos n in
    let size = length-drop (2 ^ n) (level ∷ levels) in
    ap (λ (bs : List (List ℕ)). take (2 ^ n) (level ∷ levels) ∷ bs) (within_enough n more others back (omega (arith, h, size, from)) (omega (arith, k, size, from)))

within_first : (n : ℕ) (levels : List ℕ) → 0 < length levels → blocks_within n (length levels) levels ≡ take (2 ^ n) levels ∷ blocks_within n (length (drop (2 ^ n) levels)) (drop (2 ^ n) levels)
unfolding blocks_within
within_first n [] some = absurd (omega (arith, some))
within_first n (level ∷ levels) some =
    let back = drop (2 ^ n) (level ∷ levels) in
    ap (λ (bs : List (List ℕ)). take (2 ^ n) (level ∷ levels) ∷ bs) (within_enough n (length levels) (length back) back (omega (arith, length-drop (2 ^ n) (level ∷ levels), pow_pos n)) (omega arith))

-- as the code splits them
pub blocks_first : (levels block later : List ℕ) (k : ℕ) → 0 < length levels → k ≡ min (2 ^ 16) (length levels) → block ≡ take k levels → later ≡ drop k levels → blocks levels ≡ block ∷ blocks later
blocks_first levels block later k some is front back =
    within_first 16 levels some
    ∙ (λ i. same_front i ∷ blocks (same_back i))
  where
    same_front : take (2 ^ 16) levels ≡ block
    same_front = sym (front ∙ ap (λ (j : ℕ). take j levels) is ∙ take_min (2 ^ 16) levels)

    same_back : drop (2 ^ 16) levels ≡ later
    same_back = sym (back ∙ ap (λ (j : ℕ). drop j levels) is ∙ drop_min (2 ^ 16) levels)

pub no_blocks : (levels : List ℕ) → length levels ≡ 0 → blocks levels ≡ []
unfolding blocks_within
no_blocks [] none = refl
no_blocks (level ∷ levels) none = absurd (omega (arith, none))

later_ids : (id running next : ℕ) (parts : List (List ℕ)) → count_by takes_id (later_sums id running next parts) ≡ length parts
later_ids id running next [] = refl
later_ids id running next (block ∷ parts) =
    let bit : Step → ℕ = λ s. cond (takes_id s) 1 0 in
    let rest = later_sums (id + 4 * length block) next (next + 1) parts in
    omega (arith, sum_by-append bit (Pol (sum_ops id block running) ∷ deletion_steps 1 running 1) rest, later_ids (id + 4 * length block) next (next + 1) parts)

pub sums_ids : (id running next : ℕ) (parts : List (List ℕ)) → count_by takes_id (sum_steps id running next parts) ≡ length parts
sums_ids id running next [] = refl
sums_ids id running next (block ∷ parts) =
    let bit : Step → ℕ = λ s. cond (takes_id s) 1 0 in
    let rest = later_sums (id + 4 * length block) next (next + 1) parts in
    omega (arith, sum_by-append bit (Pol (sum_ops id block running) ∷ []) rest, later_ids (id + 4 * length block) next (next + 1) parts)

-- the last sum's id is the constraint's, or a new one
pub last_below : (m running next : ℕ) (parts : List (List ℕ)) → running < m → next + length parts ≤ m → last_sum running next parts < m
last_below m running next [] h k = h
last_below m running next (block ∷ parts) h k = last_below m next (next + 1) parts (omega (arith, k)) (omega (arith, k))

pub no_last : (last : ℕ) (levels : List ℕ) → length levels ≡ 0 → last_deletion last levels ≡ []
no_last last [] none = refl
no_last last (level ∷ levels) none = absurd (omega (arith, none))
