-- What the clauses of a constraint say.
use Rattle.std.specs.Prelude.{ℕ, ◌≡◌, List, length}
use Rattle.pb_base.specs.declared.literal.Lit.{Lit}
use Rattle.pb_base.specs.Literals.{Assignment, AgreeBelow, IsModel}
use Rattle.pb_norm.specs.Constraints.{Constraint, Holds, IsLinear}
use Rattle.pb_norm.specs.ClausePropagation.{ClausesPropagate}
use Rattle.pb_family.specs.Families.{NamesOnly, VarsBelow}
use Rattle.pb_base.specs.declared.options.Options.{Options}
use Rattle.pb_choice.specs.Choice.{IsSentToAdder}
use Rattle.pb_choice.specs.Clauses.{constraint_clauses, constraint_count, constraint_fresh}

-- Clauses that say what a constraint says: under a model of them it holds; an assignment under which it holds extends over
-- the fresh variables to a model; their literals are of its variables or of fresh ones; and they are so many.
pub record Encodes (c : Constraint) (first fresh count : ℕ) (clauses : List (List Lit)) : Type 0 where
  pub sound : (a : Assignment) → IsModel a clauses → Holds a c
  pub extends : (a : Assignment) → Holds a c → (b : Assignment) × AgreeBelow first a b × IsModel b clauses
  pub names : NamesOnly c.terms first fresh clauses
  pub counts : length clauses ≡ count

-- the clauses of a constraint say what it says
abbrev pub ClausesEncode : Type 0
ClausesEncode = (o : Options) (c : Constraint) (first : ℕ) → IsLinear c → VarsBelow first c.terms → Encodes c first (constraint_fresh o c) (constraint_count o c) (constraint_clauses o c first)

-- unit propagation over them reaches all that it forces, where it is not sent to the adder
abbrev pub ClausesForce : Type 0
ClausesForce = (o : Options) (c : Constraint) (first : ℕ) → IsLinear c → ¬ IsSentToAdder o c → VarsBelow first c.terms → ClausesPropagate (constraint_clauses o c first) (λ a. Holds a c)
