-- A constraint that keeps a sum within a bound, exactly, and sums that change by adders. These serve the proofs that derivations run.
use Rattle.std.specs.Prelude.{◌≡◌, ◌≢◌, ◌≤◌, ◌+◌, ◌*◌, ◌^◌, ℕ, Bool, cond, List, [], ◌∷◌, ◌++◌, sum_by, AllPairs, map}
use Rattle.pb_base.specs.declared.literal.Lit.{Lit}
use Rattle.pb_base.specs.Literals.{Assignment, lit_value, negated}
use Rattle.pb_family.specs.Fresh.{positive_of}
use Rattle.pb_norm.specs.Addition.{sum_of}
use Rattle.pb_norm.specs.Constraints.{Weighted, Constraint, AllPositive, IsAscending, value}
use Rattle.pb_steps.specs.Operations.{multiple, division}
use Rattle.pb_derive.specs.Ones.{ones}
use Rattle.pb_adder.specs.declared.gate.Gate.{Gate}
use Rattle.pb_adder.specs.GateReifications.{input_lits, sum_var, carry_var}
use Rattle.pb_adder.specs.LeveledGates.{Leveled}

-- what an adder gives
abbrev pub outputs : ℕ → ℕ → List Weighted
outputs s d = record { coef = 1; lit = positive_of s } ∷ record { coef = 2; lit = positive_of d } ∷ []

-- the inputs and what is missing of the outputs
abbrev pub balance : List Lit → ℕ → ℕ → List Weighted
balance inputs s d = ones inputs ++ record { coef = 1; lit = negated (positive_of s) } ∷ record { coef = 2; lit = negated (positive_of d) } ∷ []

-- the inputs are no less than the outputs, from the first constraints of the carry and of the sum
abbrev pub line_of : Constraint → Constraint → Constraint
line_of carry sum = division 3 (sum_of (multiple 2 carry) sum)

-- a number for each choice of true literals
abbrev pub Sum : Type 0
Sum = (Lit → Bool) → ℕ

-- the coefficients of the chosen literals
abbrev pub part : List Weighted → Sum
part ts p = sum_by (λ t. cond (p t.lit) t.coef 0) ts

-- what the left side has above the degree is what the second sum leaves of the first
pub record IsBalanced (ins outs : Sum) (c : Constraint) : Type 0 where
  pub positive : AllPositive c.terms
  pub ascending : IsAscending c.terms
  pub exact : (a : Assignment) → value a c.terms + outs (lit_value a) ≡ c.degree + ins (lit_value a)

-- and of a bound
abbrev pub IsRunning : ℕ → Sum → Constraint → Type 0
IsRunning bound sum c = IsBalanced (λ p. bound) sum c

-- so many times the inputs are taken away, and the outputs given
abbrev pub Exchanges : ℕ → List Lit → ℕ → ℕ → Sum → Sum → Type 0
Exchanges n inputs s d before after = (p : Lit → Bool) → after p + n * part (ones inputs) p ≡ before p + n * part (outputs s d) p

abbrev pub StaysUpTo : ℕ → Sum → Type 0
StaysUpTo m sum = (p : Lit → Bool) → sum p ≤ m

-- ---- along a network

-- the adder changes the sum at its level
abbrev pub Changes : ℕ → Leveled → Sum → Sum → Type 0
Changes first x before after = Exchanges (2 ^ x.level) (input_lits first x.gate) (sum_var first x.gate) (carry_var first x.gate) before after

-- one adder after the other does, and no sum is greater than a number
abbrev pub Chain : ℕ → ℕ → Sum → List Leveled → Sum → Type 0
Chain first m before [] after = (p : Lit → Bool) → before p ≡ after p
Chain first m before (x ∷ xs) after = (between : Sum) × Changes first x before between × StaysUpTo m between × Chain first m between xs after

-- what adders take, and what they give
abbrev pub taken_by : ℕ → Leveled → Sum
taken_by first x p = 2 ^ x.level * part (ones (input_lits first x.gate)) p

abbrev pub given_by : ℕ → Leveled → Sum
given_by first x p = 2 ^ x.level * part (outputs (sum_var first x.gate) (carry_var first x.gate)) p

abbrev pub taken : ℕ → List Leveled → Sum
taken first xs p = sum_by (λ (x : Leveled). taken_by first x p) xs

abbrev pub given : ℕ → List Leveled → Sum
given first xs p = sum_by (λ (x : Leveled). given_by first x p) xs

-- the inputs and outputs of an adder are of different variables
abbrev pub IsApart : ℕ → Gate → Type 0
IsApart first g = AllPairs (λ v w. v ≢ w) (map (λ (l : Lit). l.var) (input_lits first g) ++ sum_var first g ∷ carry_var first g ∷ [])
