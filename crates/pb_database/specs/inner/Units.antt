-- Clauses as constraints.
use Rattle.std.specs.Prelude.{List, map, pos}
use Rattle.pb_base.specs.declared.literal.Lit.{Lit}
use Rattle.pb_base.specs.declared.literal.Term.{Term}
use Rattle.pb_norm.specs.Constraints.{Weighted, Constraint}

-- a literal with the coefficient 1
abbrev pub unit : Lit → Weighted
unit l = record { coef = 1; lit = l }

abbrev pub unit_term : Lit → Term
unit_term l = record { coef = pos 1; lit = l }

-- at least one of the literals
abbrev pub clause_of : List Lit → Constraint
clause_of ls = record { terms = map unit ls; degree = 1 }
