-- The lines of a ladder are short, and can be said.
use Rattle.std.proofs.Common.{◌≡◌, ◌≤◌, ◌<◌, ◌+◌, ◌-◌, ◌*◌, ◌^◌, ◌++◌, ℕ, zero, suc, List, [], ◌∷◌, length, subst, arith}
use Rattle.std.specs.Prelude.{All}
use Rattle.std.specs.List.{range_with_len}
use Rattle.std.proofs.lemmas.List.{length-map}
use Rattle.std.proofs.lemmas.List.Elements.{All-nil, All-cons, All-map, All-from_recursion, recursion_from_All}
use Rattle.std.proofs.lemmas.List.FromFn.{length-map-range_with_len}
use Rattle.pb_base.specs.declared.literal.Lit.{Lit}
use Rattle.pb_base.specs.Literals.{negated}
use Rattle.pb_norm.specs.Constraints.{Weighted}
use Rattle.pb_norm.specs.Reduction.{lits_of}
use Rattle.pb_steps.specs.declared.step.Step.TheVariants.{Del}
use Rattle.pb_steps.specs.Sayable.{IsId, IsVariable, IsOp, IsSayable}
use Rattle.pb_steps.specs.StepSizes.{step_size}
use Rattle.pb_derive.specs.Claims.{Claim, claim_steps}
use Rattle.pb_derive.specs.Deletions.{deletion_steps}
use Rattle.pb_derive.specs.Justifications.{adding}
use Rattle.pb_derive.specs.Ones.{unit_of}
use Rattle.pb_derive.specs.Reifications.{reification_steps}
use Rattle.pb_derive.specs.Rups.{by_rup}
use Rattle.pb_derive.specs.Short.{AreShort}
use Rattle.pb_derive.proofs.Fine.{AreFine, fine_append, fine_within, fine_short, fine_claims, fine_reifications}
use Rattle.pb_derive.proofs.FineStages.{IsFine, fine_none, fine_lines, fine_deleted}
use Rattle.pb_derive.proofs.Rups.{ones-weight}
use Rattle.pb_derive.proofs.Sayable.{IsSlimTerm, IsSlimReification, rup_sayable}
use Rattle.pb_derive.proofs.Sizes.{adding-size, rup-size}
use Rattle.pb_derive.proofs.Summed.{adding-all}
use Rattle.pb_derive.proofs.UnitTerms.{ones-all}
use Rattle.pb_family.specs.Derivations.{AreOriginal, MayStart}
use Rattle.pb_family.specs.Fresh.{positive_of, literal_at, fresh_at}
use Rattle.pb_family.proofs.Limits.{variables_of}
use Rattle.pb_family.proofs.Ranges.{range_each}
use Rattle.pb_amo.specs.declared.rung.Place.{Place}
use Rattle.pb_amo.specs.declared.rung.Place.TheVariants.{Link, NoneAfter, SomeAfter}
use Rattle.pb_amo.specs.LadderSteps.{behind, rung, rungs, front_before, front_line, front_lines, fronts_at, places, place_claim, ladder_claims, steps_of, ladder_steps}
use Rattle.pb_amo.specs.inner.LadderOrder.{IsPlace}
use Rattle.pb_amo.specs.laws.LadderPlaces.{each_place, count_places}

-- three neighbouring ids go, many times
gone_fine : (most id n : ℕ) → 64 ≤ most → 1 ≤ id → id + 3 * n < 2 ^ 63 → AreFine most (64 * n) (deletion_steps 3 id n)
gone_fine most id zero room low high = fine_within most most 0 (64 * 0) [] (omega arith) (omega arith) (fine_none most)
gone_fine most id (suc n) room low high =
    let ids : All IsId (range_with_len id 3) = All-from_recursion IsId (range_with_len id 3) (is_id id low (omega (arith, high)), (is_id (id + 1) (omega (arith, low)) (omega (arith, high)), (is_id (id + 1 + 1) (omega (arith, low)) (omega (arith, high)), tt))) in
    fine_within most most (64 + 64 * n) (64 * suc n) (deletion_steps 3 id (suc n)) (omega arith) (let more : 64 + 64 * n ≡ 64 * suc n = omega arith in omega (arith, more))
    (fine_append most 64 (64 * n) (Del (range_with_len id 3) ∷ []) (deletion_steps 3 (id + 3) n) (fine_deleted most (range_with_len id 3) (omega arith) (omega (arith, room)) ids)
    (gone_fine most (id + 3) n room (omega (arith, low)) (omega (arith, high))))
  where
    is_id : (i : ℕ) → 1 ≤ i → i < 2 ^ 63 → IsId i
    is_id i from below = (from, below)

module _ (ms : List Lit) (three : 3 ≤ length ms) (few : length ms < 2 ^ 31) (vars : All (λ l. IsVariable l.var) ms) (first id next : ℕ) (low : 1 ≤ first) (fits : first + (length ms - 1) ≤ 2 ^ 31) (given : IsId id) (from : 1 ≤ next) (high : next ≤ 2 ^ 61) where
  abbrev n : ℕ
  n = length ms

  bit : (k : ℕ) → k < n - 1 → IsVariable (first + k)
  bit k within = ((let one : 1 ≤ first + k = omega (arith, low) in one), (let below : first + k < 2 ^ 31 = omega (arith, within, fits) in below))

  known : (i : ℕ) → i < 4 * n → IsId (next + i)
  known i within = ((let one : 1 ≤ next + i = omega (arith, from) in one), (let below : next + i < 2 ^ 63 = omega (arith, within, few, high) in below))

  -- ---- what the variables mean

  behind_variables : (i : ℕ) → i < n - 1 → All (λ l. IsVariable l.var) (behind ms first i)
  behind_variables zero within = All-cons (λ (l : Lit). IsVariable l.var) (literal_at ms (n - 1 - 0)) [] (vars (n - 1 - 0) (positive_of 0) (omega (arith, three))) (All-nil (λ (l : Lit). IsVariable l.var))
  behind_variables (suc j) within =
      All-cons (λ (l : Lit). IsVariable l.var) (literal_at ms (n - 1 - suc j)) (fresh_at first (n - 2 - j) ∷ []) (vars (n - 1 - suc j) (positive_of 0) (omega (arith, three)))
      (All-cons (λ (l : Lit). IsVariable l.var) (fresh_at first (n - 2 - j)) [] (bit (n - 2 - j) (omega (arith, three))) (All-nil (λ (l : Lit). IsVariable l.var)))

  behind_few : (i : ℕ) → length (behind ms first i) ≤ 2
  behind_few zero = omega arith
  behind_few (suc j) = omega arith

  rung_slim : (i : ℕ) → i < n - 1 → IsSlimReification (rung ms first i)
  rung_slim i within =
      let all = behind_variables i within in
      record {
        sum = ones-all IsSlimTerm (behind ms first i) (λ k d inside. ((let one : 1 < 2 ^ 126 = omega arith in one), all k d inside));
        var = bit (n - 2 - i) (omega (arith, three));
        light = omega (arith, ones-weight (behind ms first i), behind_few i);
      }

  -- ---- fronts and clauses

  front_fine : (i : ℕ) → i < n - 1 → IsFine 48 (front_line id next (fronts_at n next) i)
  front_fine i within =
      let a : ℕ = front_before id (fronts_at n next) i in
      let b : ℕ = next + 2 * i in
      let ids : All IsId (a ∷ b ∷ []) = All-cons IsId a (b ∷ []) (before i within) (All-cons IsId b [] (known (2 * i) (omega (arith, within))) (All-nil IsId)) in
      (recursion_from_All IsOp (adding (a ∷ b ∷ [])) (adding-all IsOp a (b ∷ []) ids tt), omega (arith, adding-size (a ∷ b ∷ [])))
    where
      before : (i : ℕ) → i < n - 1 → IsId (front_before id (fronts_at n next) i)
      before zero within = given
      before (suc j) within = subst IsId (let e : next + (2 * (n - 1) + j) ≡ fronts_at n next + j = omega arith in e) (known (2 * (n - 1) + j) (omega (arith, within)))

  abbrev IsFineClaim : Claim → Type 0
  IsFineClaim c = IsSayable c.step × (step_size c.step ≤ 175)

  two_fine : (i : ℕ) (k l : Lit) → IsId i → IsVariable k.var → IsVariable l.var → IsFineClaim (by_rup (i ∷ []) (k ∷ l ∷ []))
  two_fine i k l is one two =
      (rup_sayable (i ∷ []) (k ∷ l ∷ []) (All-cons IsId i [] is (All-nil IsId)) (All-from_recursion (λ (l : Lit). IsVariable l.var) (k ∷ l ∷ []) (one, (two, tt))), rup-size (i ∷ []) (k ∷ l ∷ []))

  claim_fine : (p : Place) → IsPlace n p → IsFineClaim (place_claim ms first next p)
  claim_fine (Link k) h =
      two_fine (next + 2 * (n - 2 - k) + 1) (negated (fresh_at first (k + 1))) (fresh_at first k) (subst IsId (let e : next + (2 * (n - 2 - k) + 1) ≡ next + 2 * (n - 2 - k) + 1 = omega arith in e) (known (2 * (n - 2 - k) + 1) (omega (arith, three))))
      (bit (k + 1) (omega (arith, h))) (bit k (omega (arith, h)))
  claim_fine (NoneAfter k) h =
      two_fine (fronts_at n next + (n - 2 - k)) (negated (literal_at ms k)) (negated (fresh_at first k)) (subst IsId (let e : next + (2 * (n - 1) + (n - 2 - k)) ≡ fronts_at n next + (n - 2 - k) = omega arith in e) (known (2 * (n - 1) + (n - 2 - k)) (omega (arith, three))))
      (vars k (positive_of 0) (omega (arith, h))) (bit k (omega (arith, h)))
  claim_fine (SomeAfter k) h =
      two_fine (next + 2 * (n - 2 - k) + 1) (negated (literal_at ms (k + 1))) (fresh_at first k) (subst IsId (let e : next + (2 * (n - 2 - k) + 1) ≡ next + 2 * (n - 2 - k) + 1 = omega arith in e) (known (2 * (n - 2 - k) + 1) (omega (arith, three))))
      (vars (k + 1) (positive_of 0) (omega (arith, h))) (bit k (omega (arith, h)))

  -- ---- all of it

  pub steps_fine : AreFine 225 (800 * (n - 1) + 199 * (3 * n - 4)) (steps_of ms first id next)
  steps_fine =
      let claims : List Claim = ladder_claims ms first next in
      let start : ℕ = next + 3 * (n - 1) in
      let size : length (rungs ms first) ≡ n - 1 = length-map-range_with_len (rung ms first) 0 (n - 1) in
      let count : length claims ≡ 3 * n - 4 = omega (arith, length-map (places n) (place_claim ms first next), count_places n) in
      let all : All IsFineClaim claims = All-map IsFineClaim (place_claim ms first next) (places n) (each_place (λ p. IsFineClaim (place_claim ms first next p)) n claim_fine) in
      let one = fine_reifications 225 2 next (rungs ms first) (omega arith) from (omega (arith, size, few, high)) (range_each IsSlimReification (rung ms first) 0 (n - 1) (λ i above to. rung_slim i (omega (arith, to))))
      (range_each (λ m. length m.sum ≤ 2) (rung ms first) 0 (n - 1) (λ i above to. omega (arith, length-map (behind ms first i) unit_of, behind_few i))) in
      let two = fine_lines 225 48 (front_line id next (fronts_at n next)) (n - 1) (omega arith) front_fine in
      let three = fine_claims 225 175 start claims (omega arith) (omega arith) (omega (arith, from)) (omega (arith, count, few, high)) (λ i d w. (all i d w).0) (λ i d w. (all i d w).1) in
      let gone = gone_fine 225 next (n - 1) (omega arith) from (omega (arith, few, high)) in
      fine_within 225 225 (((238 + 106 * 2) * length (rungs ms first) + 48 * (n - 1)) + ((175 + 24) * length claims + 64 * (n - 1))) (800 * (n - 1) + 199 * (3 * n - 4)) (steps_of ms first id next) (omega arith) (omega (arith, size, count))
      (fine_append 225 ((238 + 106 * 2) * length (rungs ms first) + 48 * (n - 1)) ((175 + 24) * length claims + 64 * (n - 1)) (reification_steps next (rungs ms first) ++ front_lines n id next) (claim_steps start claims ++ deletion_steps 3 next (n - 1))
      (fine_append 225 ((238 + 106 * 2) * length (rungs ms first)) (48 * (n - 1)) (reification_steps next (rungs ms first)) (front_lines n id next) one two)
      (fine_append 225 ((175 + 24) * length claims) (64 * (n - 1)) (claim_steps start claims) (deletion_steps 3 next (n - 1)) three gone))

-- ---- the family

module _ (ts : List Weighted) (three : 3 ≤ length ts) (few : length ts < 2 ^ 31) (first id next : ℕ) (original : AreOriginal first ts) (start : MayStart first (length ts - 1) id next) where
  all_fine : AreFine 225 (800 * (length ts - 1) + 199 * (3 * length ts - 4)) (ladder_steps ts first id next)
  all_fine =
      let ms : List Lit = lits_of ts in
      let size : length ms ≡ length ts = length-map ts (λ (t : Weighted). t.lit) in
      let given = start.given in
      let known = start.known in
      let above = start.few in
      subst (λ (n : ℕ). AreFine 225 (800 * (n - 1) + 199 * (3 * n - 4)) (ladder_steps ts first id next)) size
      (steps_fine ms (omega (arith, size, three)) (omega (arith, size, few)) (All-map (λ (l : Lit). IsVariable l.var) (λ (t : Weighted). t.lit) ts (variables_of first (length ts - 1) id next ts original start)) first id next start.low
      (omega (arith, size, start.fits)) (given, (let below : id < 2 ^ 63 = omega (arith, known, above) in below)) (omega (arith, given, known)) above)

  pub ladder_sayable : All IsSayable (ladder_steps ts first id next)
  ladder_sayable = all_fine.sayable

  pub ladder_short : length ts ≤ 2 ^ 21 → AreShort (length ts) (length ts - 1) (3 * length ts - 4) (ladder_steps ts first id next)
  ladder_short narrow = fine_short 225 (800 * (length ts - 1) + 199 * (3 * length ts - 4)) (length ts) (length ts - 1) (3 * length ts - 4) (ladder_steps ts first id next) (omega arith) (omega arith) all_fine
