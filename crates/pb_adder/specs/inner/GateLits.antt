-- The literals of an adder, as the code has them.
use Rattle.std.specs.Prelude.{ℕ, ◌+◌}
use Rattle.pb_family.specs.Fresh.{positive_of}
use Rattle.pb_adder.specs.declared.gate.Gate.{Gate}
use Rattle.pb_adder.specs.declared.gate.Gate.TheVariants.{Full, Half}
use Rattle.pb_adder.specs.declared.gate.GateLits.{GateLits}
use Rattle.pb_adder.specs.declared.gate.GateLits.TheVariants.{Three, Two}
use Rattle.pb_adder.specs.Gates.{wire_lit}

abbrev pub gate_lits : ℕ → Gate → GateLits
gate_lits first (Full a b c made) = Three (record { a = wire_lit first a; b = wire_lit first b; c = wire_lit first c; sum = positive_of (first + made); carry = positive_of (first + (made + 1)) })
gate_lits first (Half a b made) = Two (record { a = wire_lit first a; b = wire_lit first b; sum = positive_of (first + made); carry = positive_of (first + (made + 1)) })
