-- Worked examples of statements in numbers: 3 x1 + 2 ~x2 + 2 x3 >= 5 and >= 4, with the fresh variables from 10 on.
use Rattle.std.specs.Prelude.{◌≡◌, ℕ, pos, negsuc, Bool, true, false, flat_map, [], ◌∷◌, map, refl}
use Rattle.pb_base.specs.declared.literal.Term.{Term}
use Rattle.pb_base.specs.declared.problem.Raw.{Raw}
use Rattle.pb_base.specs.declared.problem.Relation.TheVariants.{AtLeast}
use Rattle.pb_base.specs.Defaults.{default_options}
use Rattle.pb_dimacs.specs.CnfReading.{clause_numbers, literal_number}
use Rattle.pb_encode.specs.Groups.{group_clauses, group_fresh, group_of}

abbrev term : ℕ → ℕ → Bool → Term
term n v b = record { coef = pos n; lit = record { var = v; positive = b } }

abbrev at_least : ℕ → Raw
at_least n = record { terms = term 3 1 true ∷ term 2 2 false ∷ term 2 3 true ∷ []; relation = AtLeast; right = pos n }

pub literals : map (λ t. literal_number t.lit) (at_least 5).terms ≡ pos 1 ∷ negsuc 1 ∷ pos 3 ∷ []
literals = refl

-- x1, and ~x2 or x3
pub integers : flat_map clause_numbers (group_clauses default_options (group_of (at_least 5)) 10) ≡ pos 1 ∷ pos 0 ∷ negsuc 1 ∷ pos 3 ∷ pos 0 ∷ []
integers = refl

-- of four the diagram has as many fresh variables as inner nodes
pub fresh : group_fresh default_options (group_of (at_least 5)) ≡ 0
fresh = refl

pub fresh_of_four : group_fresh default_options (group_of (at_least 4)) ≡ 4
fresh_of_four = refl
