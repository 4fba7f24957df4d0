-- Clauses that follow from constraints which are added (cutting planes, Cook, Coullard and Turán 1987).
use Rattle.std.specs.Prelude.{ℕ, pos, List, [], ◌∷◌, ◌++◌, map, flat_map}
use Rattle.pb_base.specs.declared.literal.Lit.{Lit}
use Rattle.pb_steps.specs.declared.op.PolOp.{PolOp}
use Rattle.pb_steps.specs.declared.op.PolOp.TheVariants.{Push, Add, Div, Weaken}
use Rattle.pb_steps.specs.declared.step.Step.TheVariants.{Pol}
use Rattle.pb_derive.specs.Claims.{Claim}

-- a clause, the ids of the constraints that it follows from, and the variables that they have beside
pub record Justification : Type 0 where
  pub clause : List Lit
  pub ids : List ℕ
  pub weakened : List ℕ

-- above all numbers of a constraint that has room, so that division by it leaves 1 of each
abbrev pub widest : ℕ
widest = 85070591730234615865843651857942052863

abbrev pub push_and_add : ℕ → List PolOp
push_and_add id = Push id ∷ Add ∷ []

-- the constraints are added
abbrev pub adding : List ℕ → List PolOp
adding [] = []
adding (id ∷ ids) = Push id ∷ flat_map push_and_add ids

-- the other variables go, and one of each literal is left
abbrev pub closing : Justification → List PolOp
closing r = adding r.ids ++ (map Weaken r.weakened ++ Div (pos widest) ∷ [])

abbrev pub by_justification : Justification → Claim
by_justification r = record { step = Pol (closing r); clause = r.clause }
