-- The lines about the blocks of a row of fresh variables as the code that hands them over has their parts.
use Rattle.std.specs.Prelude.{ℕ, zero, suc, ◌+◌, ◌/◌, List, [], ◌∷◌}
use Rattle.pb_steps.specs.declared.op.PolOp.TheVariants.{Push, Axiom, Add}
use Rattle.pb_steps.specs.declared.step.Step.{Step}
use Rattle.pb_steps.specs.declared.step.Step.TheVariants.{Pol}
use Rattle.pb_family.specs.Fresh.{positive_of}
use Rattle.pb_totalizer.specs.OutputBlocks.{block_front_line, block_tail_line, block_others_line, narrow_line}
use Rattle.pb_totalizer.specs.OutputRows.{nothing_line}
use Rattle.pb_totalizer.specs.declared.block_lines.BlockLines.{BlockLines}
use Rattle.pb_totalizer.specs.declared.block_parts.BlockKind.{BlockKind}
use Rattle.pb_totalizer.specs.declared.block_parts.BlockKind.TheVariants.{Fronts, Tails, Heads, Backs, Others, Narrows}
use Rattle.pb_totalizer.specs.inner.RowPieces.{tails_of, front_piece, tail_piece}

-- where the lines about those of a block before a variable begin, and about those behind it
abbrev pub heads_of : BlockLines → ℕ
heads_of b = tails_of b.lines + suc (suc b.lines.row.last)

abbrev pub backs_of : BlockLines → ℕ
backs_of b = heads_of b + suc b.lines.row.last

abbrev pub head_piece : BlockLines → ℕ → Step
head_piece b zero = nothing_line b.lines.row.first
head_piece b (suc x) = block_front_line b.lines.row.id b.lines.row.inputs (heads_of b) x

abbrev pub back_piece : BlockLines → ℕ → Step
back_piece b zero = nothing_line b.lines.row.first
back_piece b (suc y) = block_tail_line b.lines.row.first b.lines.row.last (backs_of b) y

abbrev pub other_piece : BlockLines → ℕ → Step
other_piece b zero = Pol (Push (backs_of b + b.lines.row.last) ∷ Axiom (positive_of b.lines.row.first) ∷ Add ∷ [])
other_piece b (suc x) = block_others_line b.lines.row.last (heads_of b) (backs_of b) x

abbrev pub narrow_piece : BlockLines → ℕ → Step
narrow_piece b k = narrow_line b.lines.row.last b.lines.next (tails_of b.lines) k

-- how many of each kind there are
abbrev pub block_count : BlockKind → ℕ → ℕ
block_count Fronts last = suc last
block_count Tails last = suc (suc last)
block_count Heads last = suc last
block_count Backs last = suc last
block_count Others last = suc (suc last)
block_count Narrows last = suc (last / 32)

abbrev pub block_piece : BlockKind → BlockLines → ℕ → ℕ → List Step
block_piece Fronts b next j = front_piece b.lines j ∷ []
block_piece Tails b next j = tail_piece b.lines j ∷ []
block_piece Heads b next j = head_piece b j ∷ []
block_piece Backs b next j = back_piece b j ∷ []
block_piece Others b next j = other_piece b j ∷ []
block_piece Narrows b next j = narrow_piece b j ∷ []
