-- The CNF text of a problem is within the limits, and so it tells a reader the problem's clauses.
use Rattle.std.proofs.Common.{◌≤◌, ◌+◌, ◌^◌, ℕ, List, [], ◌∷◌, length, arith}
use Rattle.std.specs.Prelude.{All}
use Rattle.std.proofs.lemmas.List.Elements.{All-nil, All-head, All-tail, All-append, All-weaker}
use Rattle.pb_base.specs.declared.literal.Lit.{Lit}
use Rattle.pb_base.specs.declared.problem.Problem.{Problem}
use Rattle.pb_base.specs.Problems.{originals, IsWithinLimits}
use Rattle.pb_dimacs.specs.CnfWholeLaws.{IsCnfWithin, Tells}
use Rattle.pb_dimacs.proofs.Whole.{written_is_told}
use Rattle.pb_dimacs.proofs.WrittenSizes.{written_within}
use Rattle.pb_base.specs.declared.options.Options.{Options}
use Rattle.pb_choice.specs.Clauses.{constraint_clauses}
use Rattle.pb_choice.specs.Equals.{equality_clauses}
use Rattle.pb_choice.specs.EqualityLaws.{IsEquality}
use Rattle.pb_choice.proofs.FewInEqualities.{equality_few_literals}
use Rattle.pb_choice.proofs.FewLiterals.{constraint_few_literals, table_few_literals}
use Rattle.pb_gentot.specs.BoundTable.{table_clauses}
use Rattle.pb_encode.specs.Clauses.{clauses_from, loaded_clauses, problem_clauses, problem_vars, table_first}
use Rattle.pb_encode.specs.Encodings.{problem_text}
use Rattle.pb_encode.specs.declared.groups.Group.{Group}
use Rattle.pb_encode.specs.Groups.{group_clauses, group_fresh, groups_of}
use Rattle.pb_encode.specs.declared.groups.Group.TheVariants.{Alone, Paired}
use Rattle.pb_encode.specs.Summaries.{IsEncodable}
use Rattle.pb_encode.specs.Tables.{table_terms}
use Rattle.pb_encode.proofs.GroupDerivations.{IsGroupLight}
use Rattle.pb_encode.proofs.Solutions.{clauses-count, problem-within}
use Rattle.pb_encode.proofs.SoundGroups.{groups_light}

-- no clause has more literals than this
abbrev Brief : List Lit → Type 0
Brief ls = length ls ≤ 2 ^ 21

group_brief : (o : Options) (n first : ℕ) (g : Group) → IsGroupLight o n g → All Brief (group_clauses o g first)
group_brief o n first (Alone c) light =
    All-weaker (λ (ls : List Lit). length ls ≤ length c.terms + 128) Brief (λ ls h. omega (arith, h, light.few)) (constraint_clauses o c first)
    (constraint_few_literals o c first light.ready.linear light.weight)
group_brief o n first (Paired c d) light =
    let equality : IsEquality c d = record { lower_linear = light.lower.ready.linear; upper_linear = light.upper.ready.linear; halves = light.halves } in
    All-weaker (λ (ls : List Lit). length ls ≤ length c.terms + 128) Brief (λ ls h. omega (arith, h, light.lower.few)) (equality_clauses o c d first)
    (equality_few_literals o c d first equality light.lower.weight light.upper.weight)

clauses_brief : (o : Options) (n first : ℕ) (gs : List Group) → All (IsGroupLight o n) gs → All Brief (clauses_from o first gs)
clauses_brief o n first [] light = All-nil Brief
clauses_brief o n first (g ∷ gs) light =
    All-append Brief (group_clauses o g first) (clauses_from o (first + group_fresh o g) gs)
    (group_brief o n first g (All-head (IsGroupLight o n) g gs light))
    (clauses_brief o n (first + group_fresh o g) gs (All-tail (IsGroupLight o n) g gs light))

module _ (o : Options) (p : Problem) (within : IsWithinLimits p) (encodable : IsEncodable o p) where
  cnf_within : IsCnfWithin (problem_text o p) (problem_vars o p) (problem_clauses o p)
  cnf_within =
      written_within (problem_vars o p) encodable.vars (problem_clauses o p) (omega (arith, clauses-count o p within, encodable.clauses)) (problem-within o p within)
      (All-append Brief (loaded_clauses o p) (table_clauses (table_terms o p) (table_first o p))
      (clauses_brief o (originals p + 1) (originals p + 1) (groups_of p) (groups_light o p within))
      (All-weaker (λ (ls : List Lit). length ls ≤ 4) Brief (λ ls h. omega (arith, h)) (table_clauses (table_terms o p) (table_first o p)) (table_few_literals (table_terms o p) (table_first o p))))

  pub problem_told : Tells (problem_text o p) (problem_vars o p) (problem_clauses o p)
  problem_told = written_is_told (problem_vars o p) (problem_clauses o p) (problem-within o p within) cnf_within
