use Rattle.std.proofs.Common.{◌+◌, ◌*◌, length, max}
use Rattle.pb_amo.specs.inner.Source.{source_literals}
use Rattle.pb_amo.proofs.levels.+derive_grid.Given as goal

abbrev pub decreases-derive_grid : goal.decreases-derive_grid
decreases-derive_grid g l = 4 * length (source_literals l.literals.now)

abbrev pub decreases-derive_sides : goal.decreases-derive_sides
decreases-derive_sides g l = 4 * max l.sides.rows l.sides.columns + 3

abbrev pub decreases-derive_side : goal.decreases-derive_side
decreases-derive_side g l = 4 * l.of.count + 1
