-- The lines for each two literals are short, and can be said.
use Rattle.std.proofs.Common.{◌≡◌, ◌≤◌, ◌<◌, ◌+◌, ◌*◌, ◌^◌, ◌∙◌, ℕ, List, [], ◌∷◌, length, arith, get_or, inl, refl, ap, subst}
use Rattle.std.specs.Prelude.{All}
use Rattle.std.proofs.Math.Nat.{mul-le-mul_right}
use Rattle.std.proofs.lemmas.List.{length-map}
use Rattle.std.proofs.lemmas.List.Elements.{All-map, All-from_recursion}
use Rattle.pb_base.specs.declared.literal.Lit.{Lit}
use Rattle.pb_base.specs.Literals.{negated}
use Rattle.pb_norm.specs.Constraints.{Weighted}
use Rattle.pb_norm.specs.Reduction.{lits_of}
use Rattle.pb_steps.specs.Sayable.{IsId, IsVariable, IsSayable}
use Rattle.pb_steps.specs.StepSizes.{step_size}
use Rattle.pb_derive.specs.Claims.{Claim}
use Rattle.pb_derive.specs.Rups.{by_rup}
use Rattle.pb_derive.specs.Short.{AreShort}
use Rattle.pb_derive.proofs.Fine.{AreFine, fine_claims, fine_short}
use Rattle.pb_derive.proofs.Sayable.{rup_sayable}
use Rattle.pb_derive.proofs.Sizes.{rup-size}
use Rattle.pb_family.specs.Derivations.{AreOriginal, MayStart}
use Rattle.pb_family.proofs.Limits.{id_of, variables_of}
use Rattle.pb_amo.specs.Pairwise.{pairwise_clauses, pair_count}
use Rattle.pb_amo.specs.PairwiseSteps.{pairwise_claims, pairwise_steps}
use Rattle.pb_amo.specs.laws.GridCounts.{count_last, count_within_square}
use Rattle.pb_amo.specs.laws.PairwiseLaws.{by_pairs, pairs_count}

-- clauses for each two
pub pairs_fine : (ms : List Lit) (id next : ℕ) → All (λ l. IsVariable l.var) ms → IsId id → 1 ≤ next → next + pair_count (length ms) < 2 ^ 63 → AreFine 175 (199 * pair_count (length ms)) (pairwise_steps ms id next)
pairs_fine ms id next vars given low high =
    let cs : List Claim = pairwise_claims ms id in
    let count : length cs ≡ pair_count (length ms) = length-map (pairwise_clauses ms) (by_rup (id ∷ [])) ∙ pairs_count ms in
    subst (λ (n : ℕ). AreFine 175 (199 * n) (pairwise_steps ms id next)) count
    (fine_claims 175 175 next cs (omega arith) (omega arith) low (omega (arith, count, high))
    (All-map (λ (c : Claim). IsSayable c.step) (by_rup (id ∷ [])) (pairwise_clauses ms) (by_pairs (λ ls. IsSayable (by_rup (id ∷ []) ls).step) ms (λ i j d before within.
    let k : Lit = negated (get_or ms i d) in
    let l : Lit = negated (get_or ms j d) in
    rup_sayable (id ∷ []) (k ∷ l ∷ []) (All-from_recursion IsId (id ∷ []) (given, tt)) (All-from_recursion (λ (l : Lit). IsVariable l.var) (k ∷ l ∷ []) (vars i d (omega arith), (vars j d within, tt))))))
    (All-map (λ (c : Claim). step_size c.step ≤ 175) (by_rup (id ∷ [])) (pairwise_clauses ms)
    (by_pairs (λ ls. step_size (by_rup (id ∷ []) ls).step ≤ 175) ms (λ i j d before within. rup-size (id ∷ []) (negated (get_or ms i d) ∷ negated (get_or ms j d) ∷ [])))))

module _ (ts : List Weighted) (first id next : ℕ) (original : AreOriginal first ts) (start : MayStart first 0 id next) (few : length ts < 2 ^ 31) where
  fine : AreFine 175 (199 * pair_count (length (lits_of ts))) (pairwise_steps (lits_of ts) id next)
  fine =
      let n : ℕ = length (lits_of ts) in
      let size : n ≡ length ts = length-map ts (λ (t : Weighted). t.lit) in
      let product = mul-le-mul_right {m = n} {n = 2 ^ 31} n (omega (arith, size, few)) in
      pairs_fine (lits_of ts) id next (All-map (λ (l : Lit). IsVariable l.var) (λ (t : Weighted). t.lit) ts (variables_of first 0 id next ts original start)) (id_of first 0 id next id start (inl refl)) (omega (arith, start.known))
      (omega (arith, start.few, count_within_square 0 n, count_last n, product, size, few))

  pub pairwise_sayable : All IsSayable (pairwise_steps (lits_of ts) id next)
  pairwise_sayable = fine.sayable

  pub pairwise_short : length ts ≤ 2 ^ 21 → AreShort (length ts) 0 (pair_count (length ts)) (pairwise_steps (lits_of ts) id next)
  pairwise_short short =
      fine_short 175 (199 * pair_count (length (lits_of ts))) (length ts) 0 (pair_count (length ts)) (pairwise_steps (lits_of ts) id next) (omega arith)
      (omega (arith, ap pair_count (length-map ts (λ (t : Weighted). t.lit)))) fine
