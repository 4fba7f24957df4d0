-- What a weighted CNF text says, a clause a line (the format of the MaxSAT Evaluations since 2022).
use Rattle.std.specs.Prelude.{◌≡◌, ◌≤◌, ℕ, List, [], ◌∷◌, ◌++◌, map, Some, codes}
use Rattle.std.specs.List.{AllZip}
use Rattle.pb_base.specs.declared.literal.Lit.{Lit}
use Rattle.pb_base.specs.Numbers.{natural_of, integer_of}
use Rattle.pb_norm.specs.Constraints.{Weighted}
use Rattle.pb_dimacs.specs.CnfReading.{clause_numbers, said_lines}

-- a clause that is to hold, or that costs so much where it does not
pub data WeightedClause : Type 0 where
  hard : List Lit → WeightedClause
  soft : ℕ → List Lit → WeightedClause

-- the words of a line say that the clause is hard, or soft with this weight
abbrev pub LineSays : List (List ℕ) → WeightedClause → Type 0
LineSays [] c = ⊥
LineSays (first ∷ words) (hard ls) = (first ≡ codes "h") × (map integer_of words ≡ map Some (clause_numbers ls))
LineSays (first ∷ words) (soft weight ls) = (natural_of first ≡ Some weight) × (1 ≤ weight) × (map integer_of words ≡ map Some (clause_numbers ls))

-- the lines of the text that are no comments say these clauses, each the one at its place
abbrev pub WcnfReads : List ℕ → List WeightedClause → Type 0
WcnfReads text clauses = AllZip LineSays (said_lines text) clauses

-- a literal that is soft by itself
abbrev pub soft_literal : Weighted → WeightedClause
soft_literal s = soft s.coef (s.lit ∷ [])

-- hard clauses, and soft literals
abbrev pub hard_and_soft : List (List Lit) → List Weighted → List WeightedClause
hard_and_soft clauses softs = map hard clauses ++ map soft_literal softs
