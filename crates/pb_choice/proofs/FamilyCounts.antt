-- The numbers of fresh variables and of clauses of the family that was chosen, and of the ids that their derivation takes: those of two constraints together fit 64 bits.
use Rattle.std.proofs.Common.{◌<◌, ◌≤◌, ◌+◌, ◌-◌, ◌*◌, ◌/◌, ◌^◌, ◌&&◌, ℕ, Bool, true, false, not, cond, List, [], ◌∷◌, length, refl, arith, length-append}
use Rattle.std.specs.Prelude.{count_by, map, sum_by}
use Rattle.std.proofs.Math.Nat.{mul-le-mul_right, mul-sub}
use Rattle.std.proofs.lemmas.List.{length-map}
use Rattle.std.proofs.lemmas.List.Sums.{count_by-le-length, sum_by-cons}
use Rattle.std.proofs.lemmas.Nat.{mul-le, mul-lt}
use Rattle.pb_norm.specs.Constraints.{Weighted, weight}
use Rattle.pb_norm.specs.BoundedSums.{BoundedSum}
use Rattle.pb_norm.specs.Reduction.{lits_of}
use Rattle.pb_steps.specs.declared.step.Step.{Step}
use Rattle.pb_steps.specs.declared.step.Step.TheVariants.{Del}
use Rattle.pb_steps.specs.Steps.{takes_id}
use Rattle.pb_amo.specs.Pairwise.{pair_count, pairwise_clauses}
use Rattle.pb_amo.specs.laws.GridCounts.{count_linear, fresh_within_square}
use Rattle.pb_amo.specs.laws.PairwiseLaws.{pairs_count}
use Rattle.pb_counter.specs.Counter.{counter_fresh, counter_size}
use Rattle.pb_diagram.specs.Clauses.{diagram_fresh, diagram_size}
use Rattle.pb_diagram.specs.Levels.{levels_of}
use Rattle.pb_diagram.specs.laws.LinkedCounts.{inner-le}
use Rattle.pb_adder.specs.declared.gate.Gate.{Gate}
use Rattle.pb_adder.specs.declared.gate.Gate.TheVariants.{Full, Half}
use Rattle.pb_adder.specs.Comparator.{is_odd}
use Rattle.pb_adder.specs.Counts.{adder_size, gate_clause_count, has_end, is_covered, kept_count}
use Rattle.pb_adder.specs.laws.CountLaws.{counted_total, gates_few, network_fresh}
use Rattle.pb_adder.specs.Network.{level_count, network_ends, network_gates}
use Rattle.pb_adder.specs.laws.NetworkLaws.{digits_few}
use Rattle.pb_adder.proofs.Fits.{ends_few}
use Rattle.pb_adder.proofs.Walks.{claims_ids}
use Rattle.pb_choice.specs.declared.chosen.Chosen.{Chosen}
use Rattle.pb_choice.specs.declared.chosen.Chosen.TheVariants as chosen
use Rattle.pb_choice.specs.declared.residual.Residual.{Residual}
use Rattle.pb_choice.specs.declared.residual.Residual.TheVariants as left
use Rattle.pb_choice.specs.Chosen.{sum_at, treatment_at}
use Rattle.pb_choice.specs.declared.treatment.Treatment.{Treatment}
use Rattle.pb_choice.specs.declared.treatment.Treatment.TheVariants as treatment
use Rattle.pb_choice.specs.Residual.{left_count, left_fresh, left_steps}
use Rattle.pb_choice.specs.Sums.{sum_count, sum_fresh}
use Rattle.pb_choice.specs.SumSteps.{sum_steps}
use Rattle.pb_choice.specs.inner.Chosen.{chosen_derivable}
use Rattle.pb_choice.specs.inner.Suits.{IsDerivable}
use Rattle.pb_choice.specs.laws.SumDerives.{sum_few}
use Rattle.pb_choice.specs.laws.SumSizes.{totalizer_small, tree_small}

few_pairs : (n : ℕ) → n < 2 ^ 31 → pair_count n < 2 ^ 61
few_pairs n few =
    let product : n * (n - 1) ≤ 2147483647 * (n - 1) = mul-le-mul_right (n - 1) (omega (arith, few)) in
    omega (arith, product, few)

-- two clauses for each fresh variable, and one for each literal
counter_small : (n k : ℕ) → counter_size n k ≤ 2 * counter_fresh n k + n
counter_small n k = omega (arith, mul-sub k n 1)

diagram_small : (m : BoundedSum) → diagram_fresh m ≤ 10000000 → diagram_size m < 2 ^ 57
diagram_small m modest = omega (arith, inner-le m.terms (levels_of m), modest)

-- ---- adders

gates_small : (gs : List Gate) → sum_by gate_clause_count gs ≤ 14 * length gs
gates_small [] = omega arith
gates_small (g ∷ gs) = omega (arith, sum_by-cons gate_clause_count g gs, one_small g, gates_small gs)
  where
    one_small : (g : Gate) → gate_clause_count g ≤ 14
    one_small (Full a b c made) = omega arith
    one_small (Half a b made) = omega arith

rows_small : (bound : ℕ) (bs : List Bool) → kept_count bound bs ≤ length bs
rows_small bound [] = omega arith
rows_small bound (b ∷ bs) = omega (arith, one_small (b && (not (is_odd bound) && is_covered (bound / 2) bs)), rows_small (bound / 2) bs)
  where
    one_small : (kept : Bool) → cond kept 1 0 ≤ 1
    one_small true = omega arith
    one_small false = omega arith

adder_gates : (ts : List Weighted) → length ts < 2 ^ 31 → weight ts < 2 ^ 100 → length (network_gates ts) ≤ 100 * 2 ^ 31
adder_gates ts few light =
    let levels : level_count ts ≤ 100 = digits_few 100 (weight ts) (weight ts) light in
    let gates : length (network_gates ts) ≤ level_count ts * length ts = gates_few (level_count ts) 0 ts [] 0 (omega arith) in
    omega (arith, gates, mul-le (level_count ts) (length ts) 100 (2 ^ 31) levels (omega (arith, few)))

adder_small : (ts : List Weighted) (bound : ℕ) → length ts < 2 ^ 31 → weight ts < 2 ^ 100 → adder_size ts bound < 2 ^ 57
adder_small ts bound few light =
    let gates = adder_gates ts few light in
    let ends = ends_few ts (network_ends ts) refl light in
    omega (
      arith,
      counted_total ts bound,
      gates_small (network_gates ts),
      rows_small bound (map has_end (network_ends ts)),
      length-map (network_ends ts) has_end,
    )

-- ---- the family that was chosen

-- it has few clauses, and their derivation takes few ids
pub record HasFew (t : Treatment) (m : BoundedSum) : Type 0 where
  pub clauses : sum_count t m < 2 ^ 61
  pub ids : (first id next : ℕ) → sum_fresh t m ≤ 2 ^ 31 → count_by takes_id (sum_steps t m first id next) < 2 ^ 61

-- far fewer clauses than the ids that there may be
has_few : (t : Treatment) (m : BoundedSum) → IsDerivable t m → sum_count t m < 2 ^ 57 → HasFew t m
has_few t m h few = record {
  clauses = omega (arith, few);
  ids = λ first id next fits. omega (arith, count_by-le-length takes_id (sum_steps t m first id next), sum_few t m h first id next, few, fits);
}

pub chosen_few : (f : Chosen) → HasFew (treatment_at f) (sum_at f)
chosen_few (chosen.Pairwise held) = record {
  clauses = few_pairs (length held.sum.terms) held.few;
  ids = λ first id next fits.
      let ls = lits_of held.sum.terms in
      omega (arith, claims_ids next (id ∷ []) (pairwise_clauses ls), pairs_count ls, few_pairs (length ls) (omega (arith, held.few, length-map held.sum.terms (λ (t : Weighted). t.lit))));
}
chosen_few (chosen.Ladder held) = has_few treatment.Ladder held.sum (chosen_derivable (chosen.Ladder held)) (omega (arith, held.few))
chosen_few (chosen.Product held) = has_few treatment.Product held.sum (chosen_derivable (chosen.Product held)) (omega (arith, held.few, count_linear (length held.sum.terms) (length held.sum.terms) (omega arith)))
chosen_few (chosen.Counter held) = has_few treatment.Counter held.sum (chosen_derivable (chosen.Counter held)) (omega (arith, counter_small (length held.sum.terms) held.sum.bound, held.modest, held.few))
chosen_few (chosen.Totalizer held) = has_few treatment.Totalizer held.sum (chosen_derivable (chosen.Totalizer held)) (omega (arith, totalizer_small held.sum held.class held.modest))
chosen_few (chosen.Diagram held) = has_few treatment.Diagram held.sum (chosen_derivable (chosen.Diagram held)) (omega (arith, diagram_small held.sum held.modest))
chosen_few (chosen.Tree held) = has_few treatment.Tree held.sum (chosen_derivable (chosen.Tree held)) (omega (arith, tree_small held.sum held.class held.modest))
chosen_few (chosen.Adder held) = has_few treatment.Adder held.sum (chosen_derivable (chosen.Adder held)) (omega (arith, adder_small held.sum.terms held.sum.bound held.few held.light))

chosen_fresh_small : (f : Chosen) → sum_fresh (treatment_at f) (sum_at f) < 2 ^ 62
chosen_fresh_small (chosen.Pairwise held) = omega arith
chosen_fresh_small (chosen.Ladder held) = omega (arith, held.few)
chosen_fresh_small (chosen.Product held) =
    let n = length held.sum.terms in
    omega (arith, fresh_within_square n n, mul-lt n n (2 ^ 31) (2 ^ 31) held.few held.few)
chosen_fresh_small (chosen.Counter held) = omega (arith, held.modest)
chosen_fresh_small (chosen.Totalizer held) = omega (arith, held.modest)
chosen_fresh_small (chosen.Diagram held) = omega (arith, held.modest)
chosen_fresh_small (chosen.Tree held) = omega (arith, held.modest)
chosen_fresh_small (chosen.Adder held) = omega (arith, network_fresh held.sum.terms, adder_gates held.sum.terms held.few held.light)

-- ---- what is left of a constraint

pub left_small : (l : Residual) → left_count l < 2 ^ 61
left_small (left.Sum f) = omega (arith, (chosen_few f).clauses)
left_small other = omega arith

pub left_fresh_small : (l : Residual) → left_fresh l < 2 ^ 62
left_fresh_small (left.Sum f) = omega (arith, chosen_fresh_small f)
left_fresh_small other = omega arith

-- the steps of a sum, and the two that stand around them
pub left_lines : (l : Residual) (reduces : Step) (first id next : ℕ) → length (left_steps reduces l first id next) ≤ 8 * (left_fresh l + left_count l) + 2
left_lines (left.Sum f) reduces first id next =
    omega (arith, length-append (sum_steps (treatment_at f) (sum_at f) first next (next + 1)) (Del (next ∷ []) ∷ []), sum_few (treatment_at f) (sum_at f) (chosen_derivable f) first next (next + 1))
left_lines other reduces first id next = omega arith
