-- How many bytes the CNF and the derivation of a problem have at most, by the numbers of its summary. Our own.
use Rattle.std.specs.Prelude.{ℕ, ◌≡◌, ◌≤◌, ◌<◌, ◌+◌, ◌*◌, ◌^◌, true, All, length}
use Rattle.pb_base.specs.declared.problem.Problem.{Problem}
use Rattle.pb_base.specs.Problems.{objective_terms}
use Rattle.pb_base.specs.declared.options.Options.{Options}
use Rattle.pb_encode.specs.declared.summary.Summary.{Summary}
use Rattle.pb_encode.specs.declared.summary.Treatments.{Treatments}
use Rattle.pb_encode.specs.Encodings.{derivation_text, problem_text}
use Rattle.pb_encode.specs.Summaries.{fresh_in, summary_of}

-- how many constraints there are, however they are treated
abbrev pub constraints_in : Treatments → ℕ
constraints_in t = t.nothing + t.empty + t.clause + t.pairwise + t.ladder + t.product + t.counter + t.totalizer + t.diagram + t.tree + t.adder + t.joint

-- no statement has more than n terms, nor has the objective where a table of bounds is asked for, and no product has as many literals
pub record HasAtMost (n : ℕ) (o : Options) (p : Problem) : Type 0 where
  pub statements : All (λ s. length s.terms ≤ n) p.statements
  pub products : All (λ ls. length ls < n) p.products
  pub objective : o.table ≡ true → length (objective_terms p) ≤ n

-- the p line; 50 bytes a clause; 12 a term of each constraint that is one clause; and what an adder's comparator has beside
abbrev pub cnf_most : ℕ → Summary → ℕ
cnf_most n s = 64 + 50 * s.clauses + 12 * n * s.treatments.clause + 2 ^ 17 * s.treatments.adder

-- 512 bytes a term for each fresh variable and each constraint, and 2 ^ 20 for each fresh variable, each clause, and four times for each constraint
abbrev pub derivation_most : ℕ → Summary → ℕ
derivation_most n s = 512 * n * (fresh_in s + constraints_in s.treatments + 1) + 2 ^ 20 * (fresh_in s + s.clauses + 4 * constraints_in s.treatments + 4)

-- the texts of a problem whose constraints have at most n terms are no longer
pub record AreTextsWithin (n : ℕ) (o : Options) (p : Problem) : Type 0 where
  pub cnf : length (problem_text o p) ≤ cnf_most n (summary_of o p)
  pub derivation : length (derivation_text o p) ≤ derivation_most n (summary_of o p)
