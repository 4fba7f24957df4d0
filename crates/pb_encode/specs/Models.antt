-- What it means that clauses have the solutions of a problem. Our own.
use Rattle.std.specs.Prelude.{ℕ, ◌≡◌, ◌+◌, ◌↔◌, Bool, true, List, [], ◌∷◌, length, map, take}
use Rattle.pb_base.specs.declared.literal.Lit.{Lit}
use Rattle.pb_base.specs.declared.problem.Problem.{Problem}
use Rattle.pb_base.specs.Literals.{assigned_by, IsModel}
use Rattle.pb_base.specs.Problems.{IsSolution}
use Rattle.pb_norm.specs.Constraints.{Constraint, Holds}
use Rattle.pb_norm.specs.ClauseForm.{clause_form}
use Rattle.pb_norm.specs.Propagation.{Propagates}
use Rattle.pb_base.specs.declared.options.Options.{Options}
use Rattle.pb_choice.specs.Choice.{IsSentToAdder}
use Rattle.pb_choice.specs.Equals.{is_joint, literals_asked}
use Rattle.pb_choice.specs.EqualityLaws.{BothHold, IsHalfSentToAdder}
use Rattle.pb_totalizer.specs.ExactOutputs.{ReachesOutputs}
use Rattle.pb_encode.specs.declared.groups.Group.{Group}
use Rattle.pb_encode.specs.Groups.{group_fresh}
use Rattle.pb_encode.specs.declared.groups.Group.TheVariants.{Alone, Paired}

-- a value for each variable, under which each clause has a true literal
pub record IsModelOver (vars : ℕ) (clauses : List (List Lit)) (values : List Bool) : Type 0 where
  pub covers : length values ≡ vars
  pub satisfies : IsModel (assigned_by values) clauses

-- values of the problem's variables are a solution exactly where they are the front of a model of the clauses
abbrev pub HasSolutionsOf : Problem → ℕ → List (List Lit) → Type 0
HasSolutionsOf p vars clauses = (values : List Bool) → length values ≡ p.vars → IsSolution p values ↔ ((model : List Bool) × IsModelOver vars clauses model × (take p.vars model ≡ values))

-- ---- unit propagation over clauses

-- it reaches what both halves force together, and each output of their totalizer, which numbers them from the first number on, either way, that its leaves decide
pub record ForcesJointly (lower upper : Constraint) (first : ℕ) (clauses : List (List Lit)) : Type 0 where
  pub both : Propagates (map clause_form clauses) (BothHold lower upper)
  pub outputs : ReachesOutputs clauses (literals_asked lower) first

-- of an equality it reaches what each half forces that is not sent to the adder; and where the equality is encoded as one, besides what both force together
pub record ForcesEquality (o : Options) (lower upper : Constraint) (first : ℕ) (clauses : List (List Lit)) : Type 0 where
  pub lower_forces : ¬ IsHalfSentToAdder o lower lower → Propagates (map clause_form clauses) (λ a. Holds a lower)
  pub upper_forces : ¬ IsHalfSentToAdder o lower upper → Propagates (map clause_form clauses) (λ a. Holds a upper)
  pub jointly : is_joint o lower ≡ true → ForcesJointly lower upper first clauses

abbrev pub ForcesGroup : Options → List (List Lit) → ℕ → Group → Type 0
ForcesGroup o clauses first (Alone c) = ¬ IsSentToAdder o c → Propagates (map clause_form clauses) (λ a. Holds a c)
ForcesGroup o clauses first (Paired c d) = ForcesEquality o c d first clauses

-- the fresh variables of each group come after those of the groups before it
abbrev pub ForceEach : Options → List (List Lit) → ℕ → List Group → Type 0
ForceEach o clauses first [] = Unit {0}
ForceEach o clauses first (g ∷ gs) = ForcesGroup o clauses first g × ForceEach o clauses (first + group_fresh o g) gs
