-- Claims of clauses of two literals that are handed over one after another.
use Rattle.std.proofs.Common.{◌≡◌, ◌<◌, ◌≤◌, ◌+◌, ◌-◌, ◌*◌, ◌^◌, ◌++◌, ℕ, cond, List, [], ◌∷◌, length, drop, refl, sym, ap, ◌∙◌, subst, arith}
use Rattle.std.specs.Prelude.{map, count_by, Result, IsErrAnd}
use Rattle.std.proofs.lemmas.List.Sums.{sum_by_from, sum_by-append}
use Rattle.std.proofs.lemmas.List.{drop_all}
use Rattle.std.proofs.Math.Nat.{mul-le-mul_right}
use Rattle.pb_base.specs.declared.literal.Lit.{Lit}
use Rattle.pb_base.specs.Literals.{negated}
use Rattle.pb_steps.specs.declared.step.Step.{Step}
use Rattle.pb_steps.specs.Steps.{takes_id}
use Rattle.pb_derive.specs.Claims.{claim_steps}
use Rattle.pb_derive.specs.Rups.{by_rup}
use Rattle.pb_family.specs.Derivations.{propagated}
use Rattle.pb_family.specs.Fresh.{literal_at}
use Rattle.pb_family.specs.StepSinks.{StepState, TakesSteps, StopsInSteps, HandsSteps}
use Rattle.pb_family.specs.declared.sink.SinkFault.{SinkFault}
use Rattle.pb_family.proofs.Deriving.{Deriving, deriving_as, deriving_ends, deriving_step, steps_fault}
use Rattle.pb_amo.specs.Pairwise.{pairwise_clauses, pair_count}
use Rattle.pb_amo.specs.PairwiseSteps.{pairwise_steps}
use Rattle.pb_amo.specs.laws.PairwiseLaws.{pairs_count}
use Rattle.pb_amo.proofs.Steps.{row, pairs_at, row_at}

-- claims by one id, from the next id on
abbrev pub by_one : ℕ → ℕ → List (List Lit) → List Step
by_one id next cs = claim_steps next (map (by_rup (id ∷ [])) cs)

ids_of_claims : (id next : ℕ) (cs : List (List Lit)) → count_by takes_id (by_one id next cs) ≡ length cs
ids_of_claims id next [] = refl
ids_of_claims id next (c ∷ cs) =
    let rest = ids_of_claims id (next + 1) cs in
    sum_by_from (λ (s : Step). cond (takes_id s) 1 0) 1 (by_one id (next + 1) cs) ∙ omega arith

module _ {R : Type 0} (id : ℕ) (ms : List Lit) (old now : StepState R) where
  -- what is left, of which a front was handed over
  abbrev pub Left : List (List Lit) → Type 0
  Left cs = Deriving (pairwise_steps ms id old.next) (by_one id now.next cs) old now

  pub left_pairs : (i : ℕ) → i < length ms → Left (pairwise_clauses (drop i ms)) → Left (row (literal_at ms i) (drop (i + 1) ms) ++ pairwise_clauses (drop (i + 1) ms))
  left_pairs i within e = subst Left (pairs_at ms i within) e

  -- past the last literal nothing is left, of all rows and of one
  pub pairs_claimed : (i : ℕ) → length ms ≤ i → Left (pairwise_clauses (drop i ms)) → TakesSteps (pairwise_steps ms id old.next) old now
  pairs_claimed i past e = deriving_ends (subst (λ (ks : List Lit). Left (pairwise_clauses ks)) (drop_all i ms past) e)

  pub row_claimed : (m : Lit) (j : ℕ) (rest : List (List Lit)) → length ms ≤ j → Left (row m (drop j ms) ++ rest) → Left rest
  row_claimed m j rest past e = subst (λ (ks : List Lit). Left (row m ks ++ rest)) (drop_all j ms past) e

  -- a clause of a row is next
  module _ (m : Lit) (j : ℕ) (rest : List (List Lit)) (within : j < length ms) (e : Left (row m (drop j ms) ++ rest)) where
    left_row : Left ((negated m ∷ negated (literal_at ms j) ∷ []) ∷ (row m (drop (j + 1) ms) ++ rest))
    left_row = subst Left (row_at ms m j rest within) e

    -- each id that was taken is of a claim
    pub claim_room : old.next + pair_count (length ms) < 2 ^ 62 → now.next + 1 < 2 ^ 62
    claim_room room =
        let c : List Lit = negated m ∷ negated (literal_at ms j) ∷ [] in
        let cs : List (List Lit) = row m (drop (j + 1) ms) ++ rest in
        let pairs = pairs_count ms in
        let whole = ap (λ (steps : List Step). count_by takes_id steps) left_row.whole in
        omega (
          arith,
          whole,
          sum_by-append (λ (s : Step). cond (takes_id s) 1 0) left_row.front (by_one id now.next (c ∷ cs)),
          ids_of_claims id old.next (pairwise_clauses ms),
          ids_of_claims id now.next (c ∷ cs),
          left_row.handed.ids,
          pairs,
        )

    -- another clause that is the same was taken
    module _ (d : List Lit) (after : StepState R) (same : d ≡ (negated m ∷ negated (literal_at ms j) ∷ [])) where
      left : Left (d ∷ (row m (drop (j + 1) ms) ++ rest))
      left = subst (λ (c : List Lit). Left (c ∷ (row m (drop (j + 1) ms) ++ rest))) (sym same) left_row

      pub claim_step : TakesSteps (propagated now.next (id ∷ []) d) now after → Deriving (pairwise_steps ms id old.next) (by_one id after.next (row m (drop (j + 1) ms) ++ rest)) old after
      claim_step h =
          let one : now.next + 1 ≡ after.next = sym h.ids in
          deriving_as (ap (λ (n : ℕ). by_one id n (row m (drop (j + 1) ms) ++ rest)) one)
          (deriving_step {left = by_one id (now.next + 1) (row m (drop (j + 1) ms) ++ rest)} (propagated now.next (id ∷ []) d) after left h)

      pub claim_fault : {T : Type 0} (r : Result T SinkFault) (f : SinkFault) → IsErrAnd r (λ g. g ≡ f) → StopsInSteps (propagated now.next (id ∷ []) d) now after f → HandsSteps (pairwise_steps ms id old.next) r old after
      claim_fault r f is h = steps_fault r f (propagated now.next (id ∷ []) d) (by_one id (now.next + 1) (row m (drop (j + 1) ms) ++ rest)) after is left h

-- there are few pairs
pub few_pairs : (n : ℕ) → n < 2 ^ 31 → pair_count n < 2 ^ 61
few_pairs n few =
    let product : n * (n - 1) ≤ 2147483647 * (n - 1) = mul-le-mul_right (n - 1) (omega (arith, few)) in
    omega (arith, product, few)
