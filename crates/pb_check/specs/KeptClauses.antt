-- What is kept of a CNF while a derivation is checked beside it (our own).
use Rattle.std.specs.Prelude.{◌≡◌, ℕ, List, []}
use Rattle.pb_base.specs.declared.literal.Lit.{Lit}
use Rattle.pb_dimacs.specs.declared.head.CnfHead.{CnfHead}
use Rattle.pb_dimacs.specs.CnfRows.{rows_of}
use Rattle.pb_dimacs.specs.CnfSymbols.{CnfSymbol, start_of}
use Rattle.pb_dimacs.specs.CnfSymbols.Start.{told}
use Rattle.pb_dimacs.specs.CnfWhole.{told_of}
use Rattle.pb_dimacs.specs.CnfWhole.CnfTold.{says}
use Rattle.pb_check.specs.declared.verdict.Verdict.{Verdict}
use Rattle.pb_check.specs.declared.verdict.Verdict.TheVariants.{Accepted, Rejected}

-- the p line of a CNF tells so many variables
pub record HasVars (cnf : List ℕ) (vars : ℕ) : Type 0 where
  pub head : CnfHead
  pub behind : List CnfSymbol
  pub starts : start_of (rows_of cnf) ≡ told head behind
  pub vars_are : vars ≡ head.vars

-- where a derivation is accepted, these are all clauses that the CNF tells, in order
pub record SaysClauses (cnf : List ℕ) (vars : ℕ) (clauses : List (List Lit)) : Type 0 where
  pub head : CnfHead
  pub says_all : told_of cnf ≡ says head clauses
  pub vars_are : vars ≡ head.vars

-- what is kept, by the verdict; none where a step is not allowed
abbrev pub IsKept : Verdict → List ℕ → ℕ → List (List Lit) → Type 0
IsKept Accepted cnf vars clauses = SaysClauses cnf vars clauses
IsKept (Rejected line denied) cnf vars clauses = HasVars cnf vars × (clauses ≡ [])
