-- What the two fresh variables of an adder mean (Eén and Sörensson 2006; Gocht, Martins, Nordström and Oertel 2022).
use Rattle.std.specs.Prelude.{ℕ, ◌+◌, List, [], ◌∷◌, ◌++◌, map}
use Rattle.pb_base.specs.declared.literal.Lit.{Lit}
use Rattle.pb_base.specs.Literals.{negated}
use Rattle.pb_norm.specs.Constraints.{Weighted}
use Rattle.pb_family.specs.Fresh.{positive_of}
use Rattle.pb_derive.specs.Reifications.{Reification}
use Rattle.pb_derive.specs.Ones.{ones}
use Rattle.pb_adder.specs.declared.gate.Gate.{Gate}
use Rattle.pb_adder.specs.Gates.{gate_inputs, made_of, wire_lit}

-- the carry d: two of the inputs are true
abbrev pub carry_reification : List Lit → ℕ → Reification
carry_reification inputs d = record { var = d; sum = ones inputs; least = 2 }

-- the carry counts twice
abbrev pub twice_off : ℕ → Weighted
twice_off d = record { coef = 2; lit = negated (positive_of d) }

-- the sum s: three of the inputs are, or one is and there is no carry
abbrev pub sum_reification : List Lit → ℕ → ℕ → Reification
sum_reification inputs s d = record { var = s; sum = ones inputs ++ twice_off d ∷ []; least = 3 }

-- the carry first, since the sum's constraints name it
abbrev pub adder_reifications : List Lit → ℕ → ℕ → List Reification
adder_reifications inputs s d = carry_reification inputs d ∷ sum_reification inputs s d ∷ []

abbrev pub input_lits : ℕ → Gate → List Lit
input_lits first g = map (wire_lit first) (gate_inputs g)

abbrev pub sum_var : ℕ → Gate → ℕ
sum_var first g = first + made_of g

abbrev pub carry_var : ℕ → Gate → ℕ
carry_var first g = first + (made_of g + 1)

abbrev pub gate_reifications : ℕ → Gate → List Reification
gate_reifications first g = adder_reifications (input_lits first g) (sum_var first g) (carry_var first g)
