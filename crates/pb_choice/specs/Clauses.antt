-- The clauses of a constraint, by its treatment: its units, and then those of what is left of it. Our own.
use Rattle.std.specs.Prelude.{ℕ, ◌+◌, List, [], ◌∷◌, ◌++◌, map, length}
use Rattle.pb_base.specs.declared.literal.Lit.{Lit}
use Rattle.pb_norm.specs.declared.reduction.Rest.{Rest}
use Rattle.pb_norm.specs.declared.reduction.Rest.TheVariants as rest
use Rattle.pb_norm.specs.BoundedSums.{BoundedSum}
use Rattle.pb_norm.specs.Constraints.{Constraint}
use Rattle.pb_norm.specs.Reduction.{units_of, rest_of}
use Rattle.pb_base.specs.declared.options.Options.{Options}
use Rattle.pb_choice.specs.declared.treatment.Treatment.{Treatment}
use Rattle.pb_choice.specs.Choice.{treatment_of}
use Rattle.pb_choice.specs.Sums.{sum_clauses, sum_count, sum_fresh}

-- ---- what is left of a constraint

-- nothing, the empty clause, a clause, or a sum
abbrev pub by_rest : {T : Type 0} → T → T → (List Lit → T) → (BoundedSum → T) → Rest → T
by_rest nothing empty clause sum rest.Nothing = nothing
by_rest nothing empty clause sum rest.Empty = empty
by_rest nothing empty clause sum (rest.Clause ls) = clause ls
by_rest nothing empty clause sum (rest.One m) = sum m
by_rest nothing empty clause sum (rest.Card m) = sum m
by_rest nothing empty clause sum (rest.General m) = sum m

abbrev pub rest_clauses : Treatment → Rest → ℕ → List (List Lit)
rest_clauses t r first = by_rest [] ([] ∷ []) (λ ls. ls ∷ []) (λ m. sum_clauses t m first) r

abbrev pub rest_fresh : Treatment → Rest → ℕ
rest_fresh t r = by_rest 0 0 (λ ls. 0) (sum_fresh t) r

abbrev pub rest_count : Treatment → Rest → ℕ
rest_count t r = by_rest 0 1 (λ ls. 1) (sum_count t) r

-- ---- a constraint

abbrev pub unit_clause : Lit → List Lit
unit_clause l = l ∷ []

-- the units in their order, and then what is left
abbrev pub constraint_clauses : Options → Constraint → ℕ → List (List Lit)
constraint_clauses o c first = map unit_clause (units_of c) ++ rest_clauses (treatment_of o (rest_of c)) (rest_of c) first

-- how many fresh variables they have
abbrev pub constraint_fresh : Options → Constraint → ℕ
constraint_fresh o c = rest_fresh (treatment_of o (rest_of c)) (rest_of c)

-- how many there are: one for each unit, and those of what is left
abbrev pub constraint_count : Options → Constraint → ℕ
constraint_count o c = length (units_of c) + rest_count (treatment_of o (rest_of c)) (rest_of c)
