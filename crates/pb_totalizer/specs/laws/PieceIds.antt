-- Each line about a row of fresh variables, or about its blocks, takes an id.
use Rattle.std.proofs.Common.{◌≡◌, ◌-◌, ◌%◌, ◌==◌, ℕ, zero, suc, Bool, true, false, cond, List, [], ◌∷◌, refl}
use Rattle.std.specs.Prelude.{count_by}
use Rattle.pb_steps.specs.declared.op.PolOp.{PolOp}
use Rattle.pb_steps.specs.declared.step.Step.{Step}
use Rattle.pb_steps.specs.declared.step.Step.TheVariants.{Pol}
use Rattle.pb_steps.specs.Steps.{takes_id}
use Rattle.pb_totalizer.specs.declared.row_lines.RowKind.{RowKind}
use Rattle.pb_totalizer.specs.declared.row_lines.RowKind.TheVariants.{Fronts, Tails, Others}
use Rattle.pb_totalizer.specs.declared.block_lines.BlockLines.{BlockLines}
use Rattle.pb_totalizer.specs.declared.block_parts.BlockKind.{BlockKind}
use Rattle.pb_totalizer.specs.declared.block_parts.BlockKind.TheVariants as block
use Rattle.pb_totalizer.specs.declared.fresh_row.RowLines.{RowLines}
use Rattle.pb_totalizer.specs.inner.BlockPieces.{block_piece}
use Rattle.pb_totalizer.specs.inner.RowPieces.{row_piece}

pub row_piece_ids : (kind : RowKind) (r : RowLines) (next j : ℕ) → count_by takes_id (row_piece kind r next j) ≡ 1
row_piece_ids Fronts r next zero = refl
row_piece_ids Fronts r next (suc j) = refl
row_piece_ids Tails r next zero = refl
row_piece_ids Tails r next (suc j) = refl
row_piece_ids Others r next j = refl

either_takes : (b : Bool) (xs ys : List PolOp) → count_by takes_id (cond {A = Step} b (Pol xs) (Pol ys) ∷ []) ≡ 1
either_takes true xs ys = refl
either_takes false xs ys = refl

pub block_piece_ids : (kind : BlockKind) (b : BlockLines) (next j : ℕ) → count_by takes_id (block_piece kind b next j) ≡ 1
block_piece_ids block.Fronts b next zero = refl
block_piece_ids block.Fronts b next (suc j) = refl
block_piece_ids block.Tails b next zero = refl
block_piece_ids block.Tails b next (suc j) = refl
block_piece_ids block.Heads b next zero = refl
block_piece_ids block.Heads b next (suc j) = either_takes (j % 32 == 0) _ _
block_piece_ids block.Backs b next zero = refl
block_piece_ids block.Backs b next (suc j) = either_takes ((b.lines.row.last - j) % 32 == 0) _ _
block_piece_ids block.Others b next zero = refl
block_piece_ids block.Others b next (suc j) = refl
block_piece_ids block.Narrows b next j = refl
