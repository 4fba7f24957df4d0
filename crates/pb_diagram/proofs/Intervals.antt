-- The nodes of a level are the intervals of its residues.
use Rattle.std.proofs.Common.{◌≡◌, ◌≤◌, ◌+◌, ℕ, Bool, true, false, List, [], ◌∷◌, subst, arith, inl, inr}
use Rattle.std.specs.Prelude.{Contains}
use Rattle.std.proofs.lemmas.Bool.{cases_lt}
use Rattle.pb_base.proofs.Members.{Contains-nil, Contains-here, Contains-cons_cases}
use Rattle.pb_diagram.specs.Intervals.{part_sum, IsPartSum, IsIntervalOf, NodesAreIntervals}
use Rattle.pb_diagram.specs.inner.Nodes.{IsNode}
use Rattle.pb_diagram.specs.laws.LevelFacts.{node_of, listed_node, level_apart}
use Rattle.pb_diagram.specs.Sums.{sums}
use Rattle.pb_diagram.specs.laws.SumFacts.{sums_without, sums_with, sums_cases, sums_none}

pub part_of_sum : (rest : List ℕ) (s : ℕ) → Contains (sums rest) s → IsPartSum rest s
part_of_sum [] s h =
    elim (Contains-cons_cases 0 [] s h) as (λ _. IsPartSum [] s) [
      | inl e ↦ ([], e)
      | inr none ↦ absurd (Contains-nil s none)
    ]
part_of_sum (a ∷ rest) s h =
    elim (sums_cases a rest s h) as (λ _. IsPartSum (a ∷ rest) s) [
      | inl without ↦ let part = part_of_sum rest s without in let is = part.1 in (false ∷ part.0, (let e : 0 + part_sum part.0 rest ≡ s = omega arith in e))
      | inr with_a ↦ let part = part_of_sum rest with_a.0 with_a.1 in let is = part.1 in let e = with_a.2 in (true ∷ part.0, (let f : a + part_sum part.0 rest ≡ s = omega arith in f))
    ]

sum_of_part : (rest : List ℕ) (part : List Bool) → Contains (sums rest) (part_sum part rest)
sum_of_part rest [] = sums_none rest
sum_of_part [] (taken ∷ part) = Contains-here 0 []
sum_of_part (a ∷ rest) (true ∷ part) = sums_with a rest (part_sum part rest) (sum_of_part rest part)
sum_of_part (a ∷ rest) (false ∷ part) =
    let same : part_sum part rest ≡ 0 + part_sum part rest = omega arith in
    subst (λ (s : ℕ). Contains (sums (a ∷ rest)) s) same (sums_without a rest (part_sum part rest) (sum_of_part rest part))

pub from_part : (rest : List ℕ) (s : ℕ) → IsPartSum rest s → Contains (sums rest) s
from_part rest s part = subst (λ (n : ℕ). Contains (sums rest) n) part.1 (sum_of_part rest part.0)

pub nodes_are_intervals : NodesAreIntervals
nodes_are_intervals bound before rest = (
  level_apart bound before rest,
  (λ g. (
    (λ among.
        let node = node_of bound before rest g among in
        let interval = node.interval in
        let inside = node.inside in
        let interval : IsIntervalOf rest node.residue g = record {
          low_is_sum = part_of_sum rest g.low interval.low_in;
          low_le = inside.0;
          greatest = λ s part le.
              elim (cases_lt g.low s) as (λ _. s ≤ g.low) [
                | inl above ↦ let up = interval.next s (from_part rest s part) above in absurd (omega (arith, inside.1))
                | inr fine ↦ fine
              ];
          top_is_sum = part_of_sum rest g.top interval.top_in;
          above = inside.1;
          least = λ s part above. interval.next s (from_part rest s part) (omega (arith, inside.0));
        } in
        (node.reached.spent, node.residue, part_of_sum before node.reached.spent node.reached.is_sum, node.reached.whole, interval)),
    (λ reached.
        let interval = reached.4 in
        let above = interval.above in
        let le = interval.low_le in
        let node : IsNode bound before rest g = record {
          interval = record {
            low_in = from_part rest g.low interval.low_is_sum;
            top_in = from_part rest g.top interval.top_is_sum;
            rises = omega arith;
            next = λ s h over.
                elim (cases_lt reached.1 s) as (λ _. g.top ≤ s) [
                  | inl past ↦ interval.least s (part_of_sum rest s h) past
                  | inr within ↦ let most = interval.greatest s (part_of_sum rest s h) within in absurd (omega arith)
                ];
          };
          residue = reached.1;
          reached = record { spent = reached.0; is_sum = from_part before reached.0 reached.2; whole = reached.3 };
          inside = (le, above);
        } in
        listed_node bound before rest g node),
  )),
)
