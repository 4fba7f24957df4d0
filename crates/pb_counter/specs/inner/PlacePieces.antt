-- The lines of a row at each of its places.
use Rattle.std.specs.Prelude.{ℕ, zero, suc, [], ◌∷◌}
use Rattle.pb_steps.specs.declared.op.PolOp.TheVariants.{Push}
use Rattle.pb_steps.specs.declared.step.Step.{Step}
use Rattle.pb_steps.specs.declared.step.Step.TheVariants.{Pol}
use Rattle.pb_counter.specs.CounterRows.{part_line, first_front, front_line}

abbrev pub part_piece : ℕ → ℕ → ℕ → ℕ → ℕ → ℕ → Step
part_piece p fronts counts falls parts zero = Pol (Push counts ∷ [])
part_piece p fronts counts falls parts (suc j) = part_line p fronts counts falls parts j

abbrev pub front_piece : ℕ → ℕ → ℕ → ℕ → Step
front_piece p order fronts zero = first_front p
front_piece p order fronts (suc j) = front_line order fronts j
