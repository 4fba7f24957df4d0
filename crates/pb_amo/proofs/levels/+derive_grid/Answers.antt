use Rattle.std.proofs.Common.{◌≤◌, ◌<◌, ◌+◌, ◌*◌, ◌^◌, [], ◌∷◌, ◌++◌, ℕ, length, ap, sym, arith}
use Rattle.pb_derive.specs.Deletions.{deletion_steps}
use Rattle.pb_family.proofs.Deriving.{deriving_starts, deriving_step, steps_fault, steps_last, steps_same}
use Rattle.pb_amo.specs.PairwiseSteps.{pairwise_steps}
use Rattle.pb_amo.specs.Product.{line, product_fresh}
use Rattle.pb_amo.specs.ProductSteps.{line_sum, side_steps, product_steps}
use Rattle.pb_amo.specs.inner.ProductParts.{most_steps}
use Rattle.pb_amo.specs.inner.Source.{source_literals}
use Rattle.pb_amo.specs.laws.GridCounts.{count_leaf}
use Rattle.pb_amo.specs.laws.LineLaws.{length-line}
use Rattle.pb_amo.specs.laws.ProductLevels.{product_few_steps}
use Rattle.pb_amo.proofs.GridSteps.{grid_small}
use Rattle.pb_amo.proofs.GridTurns.{Turn, turn_of, inner_next, side_next, lines_next, cells_next, after_sum, fault_in_lines, fault_in_cells, fault_in_rows, fault_in_columns, whole_grid, whole_sides}
use Rattle.pb_amo.proofs.levels.+derive_grid.Given.{Over}
use Rattle.pb_amo.proofs.levels.+derive_grid.Goals.{derive_grid-After-next_id-base, derive_sides-In_ok-derive_side}
use Rattle.pb_amo.proofs.levels.+derive_grid.Goals as goal

pub derive_side-returns-in_err-derive_line_sum : goal.derive_side-returns-in_err-derive_line_sum
derive_side-returns-in_err-derive_line_sum g t c =
    let a = c.args in
    let old = g.T.StepSink.state a.sink.now in
    steps_fault c.from_residual.result _ (line_sum a.id a.base a.of.count ∷ []) (product_steps (line a.of.first a.of.count) a.inner old.next (old.next + 1) ++ deletion_steps 1 old.next 1) (g.T.StepSink.state c.derive_line_sum.new.sink) c.from_residual.ensures.1
    (deriving_starts (side_steps (line_sum a.id a.base a.of.count) (product_steps (line a.of.first a.of.count) a.inner) old.next) old) c.in_err-derive_line_sum.ensures

pub derive_side-derive_grid-requires : goal.derive_side-derive_grid-requires
derive_side-derive_grid-requires g t c κs within =
    let size = length-line c.args.of.first c.args.of.count in
    (omega (arith, size), (within, (omega arith, (omega (arith, size), (omega (arith, ap product_fresh size), omega (arith, ap most_steps size, c.in_ok-derive_line_sum.ensures.ids))))))

pub derive_side-returns-in_err-derive_grid : goal.derive_side-returns-in_err-derive_grid
derive_side-returns-in_err-derive_grid g t c =
    let a = c.args in
    let old = g.T.StepSink.state a.sink.now in
    let now = g.T.StepSink.state c.derive_line_sum.new.sink in
    steps_fault c.from_residual-in_err-derive_grid.result _ (product_steps (line a.of.first a.of.count) a.inner c.next_id-sum.result now.next) (deletion_steps 1 c.next_id-sum.result 1) (g.T.StepSink.state c.derive_grid.new.sink) c.from_residual-in_err-derive_grid.ensures.1
    (after_sum a.id a.base a.of.first a.of.count a.inner c.next_id-sum.result old c.next_id-sum.ensures now c.in_ok-derive_line_sum.ensures) c.in_err-derive_grid.ensures

pub derive_side-derive_deletion-requires-clause-few : goal.derive_side-derive_deletion-requires-clause-few
derive_side-derive_deletion-requires-clause-few g t c =
    let a = c.args in
    let old = g.T.StepSink.state a.sink.now in
    let now = g.T.StepSink.state c.derive_line_sum.new.sink in
    omega (arith, c.requires.room, c.in_ok-derive_line_sum.ensures.ids, inner_next a.of.first a.of.count a.inner c.next_id-sum.result now (g.T.StepSink.state c.derive_grid.new.sink) c.in_ok-derive_grid.ensures)

pub derive_side-returns : goal.derive_side-returns
derive_side-returns g t c =
    let a = c.args in
    let old = g.T.StepSink.state a.sink.now in
    let now = g.T.StepSink.state c.derive_line_sum.new.sink in
    steps_last c.derive_deletion.result (deletion_steps 1 c.next_id-sum.result 1) (g.T.StepSink.state c.derive_deletion.new.sink)
    (deriving_step {left = deletion_steps 1 c.next_id-sum.result 1} (product_steps (line a.of.first a.of.count) a.inner c.next_id-sum.result now.next) (g.T.StepSink.state c.derive_grid.new.sink) (after_sum a.id a.base a.of.first a.of.count a.inner c.next_id-sum.result old c.next_id-sum.ensures now c.in_ok-derive_line_sum.ensures) c.in_ok-derive_grid.ensures) c.derive_deletion.ensures

pub derive_grid-derive_pairs-requires-clause-room : goal.derive_grid-derive_pairs-requires-clause-room
derive_grid-derive_pairs-requires-clause-room g t c =
    let n = length (source_literals c.args.literals.now) in
    omega (arith, c.requires.room, count_leaf n n (omega (arith, c.len-count.ensures, c.if-count-le4.true)))

pub derive_grid-returns-then-count-le4 : goal.derive_grid-returns-then-count-le4
derive_grid-returns-then-count-le4 g t c =
    let ms = source_literals c.args.literals.now in
    let old = g.T.StepSink.state c.args.sink.now in
    steps_same c.derive_pairs.result (pairwise_steps ms c.args.id old.next) (product_steps ms c.args.first c.args.id old.next) old (g.T.StepSink.state c.derive_pairs.new.sink)
    (sym (product_few_steps ms c.args.first c.args.id old.next (omega (arith, c.len-count.ensures, c.if-count-le4.true)))) c.derive_pairs.ensures

-- ---- a grid of more than four literals

turn : (g : Over) (t : ℕ) (c : derive_grid-After-next_id-base g t)
    → Turn (source_literals c.args.literals.now) c.args.first c.args.id (g.T.StepSink.state c.args.sink.now).next c.sides_of-sides.result.rows c.sides_of-sides.result.columns c.next_id-base.result
turn g t c = turn_of _ _ _ _ c.len-count.result _ _ _ c.len-count.ensures c.sides_of-sides.ensures.rows c.sides_of-sides.ensures.columns (omega (arith, c.if-count-le4.false)) c.next_id-base.ensures

-- how far the fresh variables go
reach : (g : Over) (t : ℕ) (c : derive_grid-After-next_id-base g t)
    → (let s = c.sides_of-sides.result in c.args.first + s.rows + s.columns + product_fresh s.rows + product_fresh s.columns ≤ 2 ^ 31)
reach g t c = omega (arith, c.requires.fits, c.sides_of-sides.ensures.fresh, ap product_fresh c.len-count.ensures)

pub derive_grid-invariant_of-grid : goal.derive_grid-invariant_of-grid
derive_grid-invariant_of-grid g t c =
    let s = c.sides_of-sides.ensures in
    let reach = reach g t (goal.at.derive_grid-invariant_of-grid g t c).After-next_id-base in
    let few : c.len-count.result < 2 ^ 31 = omega (arith, c.len-count.ensures, c.requires.few) in
    record { few = c.requires.few; some = s.some; covered = omega (arith, s.covered, c.len-count.ensures); fit = grid_small _ _ _ s.fit few; low = c.requires.low; fits = omega (arith, reach) }

pub derive_grid-derive_pieces-requires : goal.derive_grid-derive_pieces-requires
derive_grid-derive_pieces-requires g t c =
    let s = turn g t (goal.at.derive_grid-derive_pieces-requires g t c).After-next_id-base in
    record { few = omega (arith, c.requires.room, s.most) }

pub derive_grid-returns-in_err-derive_pieces : goal.derive_grid-returns-in_err-derive_pieces
derive_grid-returns-in_err-derive_pieces g t c =
    let s = turn g t (goal.at.derive_grid-returns-in_err-derive_pieces g t c).After-next_id-base in
    fault_in_lines (g.T.StepSink.state c.args.sink.now) s c.from_residual.result _ (g.T.StepSink.state c.derive_pieces.new.sink) c.from_residual.ensures.1 c.in_err-derive_pieces.ensures

pub derive_grid-derive_pieces-requires-2 : goal.derive_grid-derive_pieces-requires-2
derive_grid-derive_pieces-requires-2 g t c =
    let s = turn g t (goal.at.derive_grid-derive_pieces-requires-2 g t c).After-next_id-base in
    record { few = omega (arith, c.requires.room, s.most, lines_next (g.T.StepSink.state c.args.sink.now) s (g.T.StepSink.state c.derive_pieces.new.sink) c.in_ok-derive_pieces.ensures) }

pub derive_grid-returns-in_err-derive_pieces-2 : goal.derive_grid-returns-in_err-derive_pieces-2
derive_grid-returns-in_err-derive_pieces-2 g t c =
    let s = turn g t (goal.at.derive_grid-returns-in_err-derive_pieces-2 g t c).After-next_id-base in
    fault_in_cells (g.T.StepSink.state c.args.sink.now) s (g.T.StepSink.state c.derive_pieces.new.sink) c.in_ok-derive_pieces.ensures c.from_residual-in_err-derive_pieces-2.result _ (g.T.StepSink.state c.derive_pieces-2.new.sink) c.from_residual-in_err-derive_pieces-2.ensures.1 c.in_err-derive_pieces-2.ensures

pub derive_grid-derive_sides-requires : goal.derive_grid-derive_sides-requires
derive_grid-derive_sides-requires g t c κs within =
    let at = goal.at.derive_grid-derive_sides-requires g t c in
    let s = turn g t at.After-next_id-base in
    let old = g.T.StepSink.state c.args.sink.now in
    let lines = g.T.StepSink.state c.derive_pieces.new.sink in
    let next = cells_next old s lines c.in_ok-derive_pieces.ensures (g.T.StepSink.state c.derive_pieces-2.new.sink) c.in_ok-derive_pieces-2.ensures in
    (omega arith, (within, (c.requires.low, (reach g t at.After-next_id-base, (omega (arith, c.requires.room, s.most, c.next_id-base.ensures), omega (arith, c.requires.room, s.most, next))))))

pub derive_grid-returns : goal.derive_grid-returns
derive_grid-returns g t c =
    let s = turn g t (goal.at.derive_grid-returns g t c).After-next_id-base in
    whole_grid (g.T.StepSink.state c.args.sink.now) s (g.T.StepSink.state c.derive_pieces.new.sink) c.in_ok-derive_pieces.ensures (g.T.StepSink.state c.derive_pieces-2.new.sink) c.in_ok-derive_pieces-2.ensures c.derive_sides.result (g.T.StepSink.state c.derive_sides.new.sink) c.derive_sides.ensures

-- ---- its rows and its columns

pub derive_sides-derive_side-requires : goal.derive_sides-derive_side-requires
derive_sides-derive_side-requires g t c κs within =
    (omega arith, (within, (omega (arith, c.requires.known), (omega (arith, c.requires.low), (omega (arith, c.requires.fits), omega (arith, c.requires.room))))))

pub derive_sides-returns-in_err-derive_side : goal.derive_sides-returns-in_err-derive_side
derive_sides-returns-in_err-derive_side g t c =
    fault_in_rows c.args.first c.args.id c.args.sides.rows c.args.sides.columns c.args.base (g.T.StepSink.state c.args.sink.now) c.from_residual.result _ (g.T.StepSink.state c.derive_side.new.sink) c.from_residual.ensures.1 c.in_err-derive_side.ensures

-- the next id, behind the rows
rows_next : (g : Over) (t : ℕ) (c : derive_sides-In_ok-derive_side g t) → (g.T.StepSink.state c.derive_side.new.sink).next ≤ (g.T.StepSink.state c.args.sink.now).next + 1 + most_steps c.args.sides.rows
rows_next g t c =
    side_next c.args.id c.args.base c.args.first c.args.sides.rows (c.args.first + c.args.sides.rows + c.args.sides.columns) (g.T.StepSink.state c.args.sink.now) (g.T.StepSink.state c.derive_side.new.sink) c.in_ok-derive_side.ensures

pub derive_sides-derive_side-requires-2 : goal.derive_sides-derive_side-requires-2
derive_sides-derive_side-requires-2 g t c κs within =
    let next = rows_next g t (goal.at.derive_sides-derive_side-requires-2 g t c).In_ok-derive_side in
    (omega arith, (within, (omega (arith, c.requires.known), (omega (arith, c.requires.low), (omega (arith, c.requires.fits, c.fresh_of.ensures), omega (arith, c.requires.room, next))))))

pub derive_sides-returns-in_err-derive_side-2 : goal.derive_sides-returns-in_err-derive_side-2
derive_sides-returns-in_err-derive_side-2 g t c =
    fault_in_columns c.args.first c.args.id c.args.sides.rows c.args.sides.columns c.args.base (g.T.StepSink.state c.args.sink.now) (g.T.StepSink.state c.derive_side.new.sink) c.in_ok-derive_side.ensures
    c.from_residual-in_err-derive_side-2.result _ (g.T.StepSink.state c.derive_side-2.new.sink) c.from_residual-in_err-derive_side-2.ensures.1 (rw c.fresh_of.ensures at c.in_err-derive_side-2.ensures)

pub derive_sides-derive_deletions-requires-clause-few : goal.derive_sides-derive_deletions-requires-clause-few
derive_sides-derive_deletions-requires-clause-few g t c =
    let next = rows_next g t (goal.at.derive_sides-derive_deletions-requires-clause-few g t c).In_ok-derive_side in
    let r = c.args.sides.rows in
    let q = c.args.sides.columns in
    let first = c.args.first in
    let columns_next = side_next c.args.id (c.args.base + 2 * r) (first + r) q (first + r + q + c.fresh_of.result) (g.T.StepSink.state c.derive_side.new.sink) (g.T.StepSink.state c.derive_side-2.new.sink) c.in_ok-derive_side-2.ensures in
    omega (arith, c.requires.room, next, columns_next)

pub derive_sides-returns : goal.derive_sides-returns
derive_sides-returns g t c =
    whole_sides c.args.first c.args.id c.args.sides.rows c.args.sides.columns c.args.base (g.T.StepSink.state c.args.sink.now) (g.T.StepSink.state c.derive_side.new.sink) c.in_ok-derive_side.ensures
    c.derive_deletions.result (g.T.StepSink.state c.derive_side-2.new.sink) (g.T.StepSink.state c.derive_deletions.new.sink) (rw c.fresh_of.ensures at c.in_ok-derive_side-2.ensures) c.derive_deletions.ensures
