-- The lines about the blocks of a row of fresh variables, as they are handed over.
use Rattle.std.proofs.Common.{◌≡◌, ◌+◌, ◌*◌, ◌/◌, ◌∙◌, ◌++◌, ℕ, suc, List, map, refl, ap, append-nil, subst, arith}
use Rattle.std.specs.Prelude.{Result, IfOk}
use Rattle.std.specs.List.{range_with_len}
use Rattle.pb_family.specs.Derivations.{in_turn, ids_in_turn}
use Rattle.pb_family.proofs.Sequence.{one_each}
use Rattle.pb_totalizer.specs.OutputBlocks.{block_front_line, block_front_lines, block_tail_line, block_tail_lines, block_others_line, block_others_lines, block_lines, block_size}
use Rattle.pb_totalizer.specs.OutputRows.{front_line, front_lines, tail_line, tail_lines}
use Rattle.pb_totalizer.specs.declared.block_lines.BlockLines.{BlockLines}
use Rattle.pb_totalizer.specs.declared.block_parts.BlockPart.{BlockPart}
use Rattle.pb_totalizer.specs.inner.BlockParts.{block_parts}
use Rattle.pb_totalizer.specs.inner.BlockPieces.{heads_of, backs_of, head_piece, back_piece, other_piece, narrow_piece, block_count, block_piece}
use Rattle.pb_totalizer.specs.inner.RowPieces.{tails_of, front_piece, tail_piece}
use Rattle.pb_totalizer.proofs.RowHanding.{first_and_later}

module _ (b : BlockLines) (next : ℕ) where
  abbrev last : ℕ
  last = b.lines.row.last

  fronts : map (front_piece b.lines) (range_with_len 0 (suc last)) ≡ front_lines b.lines.row.first b.lines.row.id b.lines.row.inputs last b.lines.next
  fronts = first_and_later (front_piece b.lines) (front_line b.lines.row.id b.lines.row.inputs b.lines.next) last (λ j. refl)

  tails : map (tail_piece b.lines) (range_with_len 0 (suc (suc last))) ≡ tail_lines b.lines.row.first last (tails_of b.lines)
  tails = first_and_later (tail_piece b.lines) (tail_line b.lines.row.first last (tails_of b.lines)) (suc last) (λ j. refl)

  heads : map (head_piece b) (range_with_len 0 (suc last)) ≡ block_front_lines b.lines.row.first b.lines.row.id b.lines.row.inputs last (heads_of b)
  heads = first_and_later (head_piece b) (block_front_line b.lines.row.id b.lines.row.inputs (heads_of b)) last (λ j. refl)

  backs : map (back_piece b) (range_with_len 0 (suc last)) ≡ block_tail_lines b.lines.row.first last (backs_of b)
  backs = first_and_later (back_piece b) (block_tail_line b.lines.row.first last (backs_of b)) last (λ j. refl)

  others : map (other_piece b) (range_with_len 0 (suc (suc last))) ≡ block_others_lines b.lines.row.first last (heads_of b) (backs_of b)
  others = first_and_later (other_piece b) (block_others_line last (heads_of b) (backs_of b)) (suc last) (λ j. refl)

  abbrev n1 : ℕ
  n1 = next + 1 * suc last

  abbrev n2 : ℕ
  n2 = n1 + 1 * suc (suc last)

  abbrev n3 : ℕ
  n3 = n2 + 1 * suc last

  abbrev n4 : ℕ
  n4 = n3 + 1 * suc last

  -- the parts of the lines
  pub block_in_parts : in_turn (λ (p : BlockPart). block_count p.kind p.lines.lines.row.last) (λ (p : BlockPart). 1) (λ (p : BlockPart). block_piece p.kind p.lines) next (block_parts b)
      ≡ block_lines b.lines.row.first b.lines.row.id b.lines.row.inputs b.lines.row.last b.lines.next
  block_in_parts = λ i.
      (one_each (front_piece b.lines) next 0 (suc last) ∙ fronts) i
      ++ ((one_each (tail_piece b.lines) n1 0 (suc (suc last)) ∙ tails) i
      ++ ((one_each (head_piece b) n2 0 (suc last) ∙ heads) i
      ++ ((one_each (back_piece b) n3 0 (suc last) ∙ backs) i
      ++ ((one_each (other_piece b) n4 0 (suc (suc last)) ∙ others) i ++ (append-nil _ ∙ one_each (narrow_piece b) (n4 + 1 * suc (suc last)) 0 (suc (last / 32))) i))))

-- and how many ids they take
pub block_counted : {T E : Type 0} (b : BlockLines) (result : Result T E) (next after : ℕ) {ps : List BlockPart} → ps ≡ block_parts b
    → IfOk result (λ x. after ≡ next + ids_in_turn (λ (p : BlockPart). block_count p.kind p.lines.lines.row.last) (λ (p : BlockPart). 1) ps) → IfOk result (λ x. after ≡ next + block_size b.lines.row.last)
block_counted {T = T} b result next after same h =
    let count = ids_in_turn (λ (p : BlockPart). block_count p.kind p.lines.lines.row.last) (λ (p : BlockPart). 1) in
    let counted : count (block_parts b) ≡ block_size b.lines.row.last = omega arith in
    subst (λ (n : ℕ). IfOk result (λ (x : T). after ≡ next + n)) (ap count same ∙ counted) h
