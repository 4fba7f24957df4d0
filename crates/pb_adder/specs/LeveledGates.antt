-- The adders of a network with their levels (Eén and Sörensson 2006).
use Rattle.std.specs.Prelude.{ℕ, ◌+◌, ◌-◌, ◌*◌, List, [], ◌++◌, length, map, replicate, zero, suc}
use Rattle.pb_norm.specs.Constraints.{Weighted}
use Rattle.pb_adder.specs.declared.gate.Wire.{Wire}
use Rattle.pb_adder.specs.declared.gate.Gate.{Gate}
use Rattle.pb_adder.specs.Gates.{carry_wire}
use Rattle.pb_adder.specs.Network.{gates_of, queue_at, level_count}

-- an adder at its level
pub record Leveled : Type 0 where
  pub level : ℕ
  pub gate : Gate

abbrev pub leveled : ℕ → Gate → Leveled
leveled level g = record { level = level; gate = g }

abbrev pub at_level : ℕ → List Gate → List Leveled
at_level level gs = map (leveled level) gs

-- those of so many levels
abbrev pub leveled_from : ℕ → ℕ → List Weighted → List Wire → ℕ → List Leveled
leveled_from zero level ts carried made = []
leveled_from (suc n) level ts carried made =
    let gates = gates_of (queue_at ts level carried) made in
    at_level level gates ++ leveled_from n (level + 1) ts (map carry_wire gates) (made + 2 * length gates)

abbrev pub leveled_gates : List Weighted → List Leveled
leveled_gates ts = leveled_from (level_count ts) 0 ts [] 0

-- levels of so many adders, the further ones at this level
abbrev pub filled_up : List ℕ → ℕ → ℕ → List ℕ
filled_up heights count level = heights ++ replicate (count - length heights) level
