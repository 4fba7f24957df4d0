-- A level of which some adders are there.
use Rattle.std.specs.Prelude.{List, ◌++◌, ◌*◌, ◌/◌, length}
use Rattle.pb_adder.specs.declared.gate.Wire.{Wire}
use Rattle.pb_adder.specs.declared.gate.Gate.{Gate}
use Rattle.pb_adder.specs.Network.{gates_of, level_left}

-- the adders that there are, and those over the bits that are left of the level
abbrev pub all_gates : List Gate → List Wire → List Gate
all_gates gates bits = gates ++ gates_of bits (2 * length gates)

-- the bits that those leave
abbrev pub bits_left : List Gate → List Wire → List Wire
bits_left gates bits = level_left (length bits / 2) bits (2 * length gates)
