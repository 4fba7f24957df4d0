-- How many literals the clauses of a problem have together, by how many constraints are clauses and how many are sent to the adder.
use Rattle.std.proofs.Common.{◌≡◌, ◌≤◌, ◌+◌, ◌*◌, ◌==◌, ℕ, Bool, true, false, cond, List, [], ◌∷◌, length, ap, ◌∙◌, arith, length-append}
use Rattle.std.proofs.Math.Nat.{mul-add}
use Rattle.std.specs.Prelude.{All}
use Rattle.std.proofs.lemmas.List.Elements.{All-head, All-tail}
use Rattle.std.proofs.lemmas.List.Sums.{sum_by-cons}
use Rattle.pb_base.specs.declared.problem.Problem.{Problem}
use Rattle.pb_base.specs.Problems.{originals}
use Rattle.pb_base.proofs.Members.{All-append_both}
use Rattle.pb_norm.specs.Constraints.{Constraint}
use Rattle.pb_norm.specs.Reduction.{rest_of}
use Rattle.pb_base.specs.declared.options.Options.{Options}
use Rattle.pb_choice.specs.declared.treatment.Treatment.{Treatment}
use Rattle.pb_choice.specs.declared.treatment.Treatment.TheVariants as treatment
use Rattle.pb_choice.specs.Choice.{treatment_of}
use Rattle.pb_choice.specs.EqualityLaws.{IsEquality}
use Rattle.pb_choice.specs.Equals.{is_joint}
use Rattle.pb_choice.proofs.FewLiterals.{table_few_literals}
use Rattle.pb_choice.proofs.LiteralTotals.{beyond_four, constraint_total, equality_total, literal_total, total_append, total_few}
use Rattle.pb_gentot.specs.BoundTable.{table_clauses}
use Rattle.pb_encode.specs.Clauses.{clauses_from, loaded_clauses, problem_clauses, table_first}
use Rattle.pb_encode.specs.declared.groups.Group.{Group}
use Rattle.pb_encode.specs.declared.groups.Group.TheVariants.{Alone, Paired}
use Rattle.pb_encode.specs.Groups.{all_members, group_clauses, group_fresh, groups_of, members}
use Rattle.pb_encode.specs.Summaries.{counted_at, joint_at, place_of, treated, treated_in}
use Rattle.pb_encode.specs.Tables.{table_terms}
use Rattle.pb_encode.proofs.ChoiceLaws.{HasFewTerms, IsLight}
use Rattle.pb_encode.proofs.GroupDerivations.{IsGroupLight}
use Rattle.pb_encode.proofs.GroupLists.{AreBoth}

module _ (o : Options) (most n : ℕ) where
  -- how many of a constraint are at a place
  abbrev count_at : ℕ → Treatment → ℕ
  count_at place t = cond (place_of t == place) 1 0

  beyond_counted : (k : ℕ) (t : Treatment) → k ≤ most → beyond_four k t ≤ most * count_at 2 t + 10000 * count_at 10 t
  beyond_counted k treatment.Clause le = omega (arith, le)
  beyond_counted k treatment.Adder le = omega arith
  beyond_counted k other le = omega arith

  both_counted : (c d : Constraint) → HasFewTerms most c → HasFewTerms most d → (b : Bool)
      → cond b 0 (beyond_four (length c.terms) (treatment_of o (rest_of c)) + beyond_four (length d.terms) (treatment_of o (rest_of d)))
      ≤ most * cond b (joint_at 2) (counted_at o 2 c + counted_at o 2 d) + 10000 * cond b (joint_at 10) (counted_at o 10 c + counted_at o 10 d)
  both_counted c d lower upper true = omega arith
  both_counted c d lower upper false =
      omega (arith, beyond_counted (length c.terms) (treatment_of o (rest_of c)) lower, beyond_counted (length d.terms) (treatment_of o (rest_of d)) upper)

  both_equal : (c d : Constraint) → AreBoth (IsLight o n) c d → IsEquality c d
  both_equal c d light = record { lower_linear = light.lower.ready.linear; upper_linear = light.upper.ready.linear; halves = light.halves }

  group_total : (first : ℕ) (g : Group) → IsGroupLight o n g → All (HasFewTerms most) (members g)
      → literal_total (group_clauses o g first) ≤ 4 * length (group_clauses o g first) + (most * treated_in o 2 g + 10000 * treated_in o 10 g)
  group_total first (Alone c) light short =
      omega (arith, constraint_total o c first light.ready.linear light.weight, beyond_counted (length c.terms) (treatment_of o (rest_of c)) (All-head (HasFewTerms most) c [] short))
  group_total first (Paired c d) light short =
      omega (
        arith,
        equality_total o c d first (both_equal c d light) light.lower.weight light.upper.weight,
        both_counted c d (All-head (HasFewTerms most) c (d ∷ []) short) (All-head (HasFewTerms most) d [] (All-tail (HasFewTerms most) c (d ∷ []) short)) (is_joint o c),
      )

  clauses_total : (first : ℕ) (gs : List Group) → All (IsGroupLight o n) gs → All (HasFewTerms most) (all_members gs)
      → literal_total (clauses_from o first gs) ≤ 4 * length (clauses_from o first gs) + (most * treated o 2 gs + 10000 * treated o 10 gs)
  clauses_total first [] light short = omega arith
  clauses_total first (g ∷ gs) light short =
      let here = group_clauses o g first in
      let rest = clauses_from o (first + group_fresh o g) gs in
      let shorts = All-append_both (HasFewTerms most) (members g) (all_members gs) short in
      let parts : most * treated o 2 (g ∷ gs) ≡ most * treated_in o 2 g + most * treated o 2 gs = ap (λ (k : ℕ). most * k) (sum_by-cons (treated_in o 2) g gs) ∙ mul-add most (treated_in o 2 g) (treated o 2 gs) in
      omega (
        arith,
        total_append here rest,
        length-append here rest,
        parts,
        sum_by-cons (treated_in o 10) g gs,
        group_total first g (All-head (IsGroupLight o n) g gs light) shorts.0,
        clauses_total (first + group_fresh o g) gs (All-tail (IsGroupLight o n) g gs light) shorts.1,
      )

  pub problem_total : (p : Problem) → All (IsGroupLight o n) (groups_of p) → All (HasFewTerms most) (all_members (groups_of p))
      → literal_total (problem_clauses o p) ≤ 4 * length (problem_clauses o p) + (most * treated o 2 (groups_of p) + 10000 * treated o 10 (groups_of p))
  problem_total p light short =
      let constraints = loaded_clauses o p in
      let table = table_clauses (table_terms o p) (table_first o p) in
      omega (
        arith,
        total_append constraints table,
        length-append constraints table,
        clauses_total (originals p + 1) (groups_of p) light short,
        total_few 4 table (table_few_literals (table_terms o p) (table_first o p)),
      )
