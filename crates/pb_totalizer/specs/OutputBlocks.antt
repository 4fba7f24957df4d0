-- Lines about a row of many outputs, in blocks of 32 of them (our own).
-- A clause of a large node goes over two blocks, and not over all outputs of both parts: the second constraint of the node's output is
-- narrowed to these blocks first.
use Rattle.std.specs.Prelude.{ℕ, suc, ◌+◌, ◌-◌, ◌*◌, ◌/◌, ◌%◌, ◌==◌, min, pos, List, [], ◌∷◌, ◌++◌, map, if◌then◌else◌}
use Rattle.std.specs.List.{range_with_len}
use Rattle.pb_steps.specs.declared.op.PolOp.TheVariants.{Push, Axiom, Add, Mul, Div}
use Rattle.pb_steps.specs.declared.step.Step.{Step}
use Rattle.pb_steps.specs.declared.step.Step.TheVariants.{Pol}
use Rattle.pb_family.specs.Fresh.{positive_of}
use Rattle.pb_totalizer.specs.OutputRows.{nothing_line, front_lines, tail_lines}

-- where the block of a place begins, and where it ends
abbrev pub block_start : ℕ → ℕ
block_start x = 32 * (x / 32)

abbrev pub block_end : ℕ → ℕ → ℕ
block_end last x = min (32 * (x / 32) + 31) last

-- ---- those of the block before a place; of the next block's first place, all of the block

abbrev pub block_front_line : ℕ → ℕ → ℕ → ℕ → Step
block_front_line row m fronts x =
    if x % 32 == 0 then Pol (Push (row + 2 * suc x) ∷ Push (row + 2 * x + 1) ∷ Add ∷ Div (pos m) ∷ Mul (pos (suc x)) ∷ [])
    else Pol (Push (fronts + x) ∷ Push (row + 2 * suc x) ∷ Push (row + 2 * x + 1) ∷ Add ∷ Div (pos m) ∷ Mul (pos (suc x)) ∷ Add ∷ [])

abbrev pub block_front_lines : ℕ → ℕ → ℕ → ℕ → ℕ → List Step
block_front_lines p row m last fronts = nothing_line p ∷ map (block_front_line row m fronts) (range_with_len 0 last)

-- the first place of a block has none before it
abbrev pub block_front_at : ℕ → ℕ → ℕ
block_front_at fronts x = if x % 32 == 0 then fronts else fronts + x

-- ---- those of the block behind a place, from the last place down

abbrev pub block_tail_line : ℕ → ℕ → ℕ → ℕ → Step
block_tail_line p last tails y =
    if (last - y) % 32 == 0 then nothing_line p else Pol (Push (tails + y) ∷ Axiom (positive_of (p + (last - y))) ∷ Add ∷ [])

abbrev pub block_tail_lines : ℕ → ℕ → ℕ → List Step
block_tail_lines p last tails = nothing_line p ∷ map (block_tail_line p last tails) (range_with_len 0 last)

-- ---- all but one of the block; first, all of the first block

abbrev pub block_others_line : ℕ → ℕ → ℕ → ℕ → Step
block_others_line last fronts tails x = Pol (Push (block_front_at fronts x) ∷ Push (tails + (last - x)) ∷ Add ∷ [])

abbrev pub block_others_lines : ℕ → ℕ → ℕ → ℕ → List Step
block_others_lines p last fronts tails = Pol (Push (tails + last) ∷ Axiom (positive_of p) ∷ Add ∷ []) ∷ map (block_others_line last fronts tails) (range_with_len 0 (suc last))

-- ---- all outside a block, by what is said of the whole row

abbrev pub narrow_line : ℕ → ℕ → ℕ → ℕ → Step
narrow_line last fronts tails k = Pol (Push (fronts + 32 * k) ∷ Push (tails + (last - block_end last (32 * k))) ∷ Add ∷ [])

abbrev pub narrow_lines : ℕ → ℕ → ℕ → List Step
narrow_lines last fronts tails = map (narrow_line last fronts tails) (range_with_len 0 (suc (last / 32)))

-- ---- together

abbrev pub block_lines : ℕ → ℕ → ℕ → ℕ → ℕ → List Step
block_lines p row m last next =
    let tails = next + suc last in
    let fronts = tails + suc (suc last) in
    let behind = fronts + suc last in
    front_lines p row m last next
    ++ (tail_lines p last tails
    ++ (block_front_lines p row m last fronts
    ++ (block_tail_lines p last behind
    ++ (block_others_lines p last fronts behind
    ++ narrow_lines last next tails))))

abbrev pub block_size : ℕ → ℕ
block_size last = suc last + (suc (suc last) + (suc last + (suc last + (suc (suc last) + suc (last / 32)))))

-- where the lines stand that are about none of the variables, the first, the second, ..; and those about each block
abbrev pub block_others_at : ℕ → ℕ → ℕ
block_others_at last next = next + suc last + suc (suc last) + suc last + suc last

abbrev pub narrows_at : ℕ → ℕ → ℕ
narrows_at last next = block_others_at last next + suc (suc last)
