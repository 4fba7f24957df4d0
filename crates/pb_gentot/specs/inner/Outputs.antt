-- The literals that stand for the values of a part.
use Rattle.std.specs.Prelude.{ℕ, List, ◌+◌, ◌^◌, ◌≤◌}
use Rattle.pb_base.specs.declared.literal.Lit.{Lit}
use Rattle.pb_family.specs.Fresh.{fresh_at}
use Rattle.pb_tree.specs.Places.{place_of}
use Rattle.pb_gentot.specs.declared.outputs.Outputs.{Outputs}
use Rattle.pb_gentot.specs.declared.outputs.Outputs.TheVariants.{Single, Fresh}

-- the literal of the value at a place
abbrev pub output_at : Outputs → ℕ → Lit
output_at (Single lit) place = lit
output_at (Fresh first) place = fresh_at first place

-- of a value among others
abbrev pub output_in : Outputs → List ℕ → ℕ → Lit
output_in outputs us u = output_at outputs (place_of u us)

-- so many fresh variables are there
abbrev pub HasRoom : Outputs → ℕ → Type 0
HasRoom (Single lit) n = Unit {0}
HasRoom (Fresh first) n = (1 ≤ first) × (first + n ≤ 2 ^ 31)
