-- The lines about a row of fresh variables, as they are handed over.
use Rattle.std.proofs.Common.{◌≡◌, ◌+◌, ◌*◌, ◌∙◌, ◌++◌, ℕ, suc, List, ◌∷◌, map, refl, ap, append-nil, subst, arith}
use Rattle.std.specs.Prelude.{Result, IfOk}
use Rattle.std.specs.List.{range_with_len}
use Rattle.pb_steps.specs.declared.step.Step.{Step}
use Rattle.pb_family.specs.Derivations.{in_turn, ids_in_turn}
use Rattle.pb_family.proofs.Ranges.{range_same}
use Rattle.pb_family.proofs.Sequence.{one_each}
use Rattle.pb_totalizer.specs.OutputRows.{front_line, front_lines, tail_line, tail_lines, others_line, row_lines, row_size}
use Rattle.pb_totalizer.specs.declared.fresh_row.RowLines.{RowLines}
use Rattle.pb_totalizer.specs.declared.row_lines.RowPart.{RowPart}
use Rattle.pb_totalizer.specs.inner.RowParts.{row_parts}
use Rattle.pb_totalizer.specs.inner.RowPieces.{tails_of, front_piece, tail_piece, row_count, row_piece}

-- the first, and then the later ones
pub first_and_later : (f g : ℕ → Step) (n : ℕ) → ((j : ℕ) → f (suc j) ≡ g j) → map f (range_with_len 0 (suc n)) ≡ f 0 ∷ map g (range_with_len 0 n)
first_and_later f g n same =
    ap (λ (ss : List Step). f 0 ∷ ss)
    (range_same f g 1 0 n (λ i h. ap f (let e : 1 + i ≡ suc i = omega arith in e) ∙ same i ∙ ap g (let e : i ≡ 0 + i = omega arith in e)))

module _ (r : RowLines) (next : ℕ) where
  abbrev last : ℕ
  last = r.row.last

  fronts : map (front_piece r) (range_with_len 0 (suc last)) ≡ front_lines r.row.first r.row.id r.row.inputs last r.next
  fronts = first_and_later (front_piece r) (front_line r.row.id r.row.inputs r.next) last (λ j. refl)

  tails : map (tail_piece r) (range_with_len 0 (suc (suc last))) ≡ tail_lines r.row.first last (tails_of r)
  tails = first_and_later (tail_piece r) (tail_line r.row.first last (tails_of r)) (suc last) (λ j. refl)

  -- the parts of the lines
  pub row_in_parts : in_turn (λ (p : RowPart). row_count p.kind p.lines.row.last) (λ (p : RowPart). 1) (λ (p : RowPart). row_piece p.kind p.lines) next (row_parts r) ≡ row_lines r.row.first r.row.id r.row.inputs last r.next
  row_in_parts = λ i.
      (one_each (front_piece r) next 0 (suc last) ∙ fronts) i
      ++ ((one_each (tail_piece r) (next + 1 * suc last) 0 (suc (suc last)) ∙ tails) i
      ++ (append-nil _ ∙ one_each (others_line last r.next (tails_of r)) (next + 1 * suc last + 1 * suc (suc last)) 0 (suc last)) i)

-- and how many ids they take
pub row_counted : {T E : Type 0} (r : RowLines) (result : Result T E) (next after : ℕ) {ps : List RowPart} → ps ≡ row_parts r
    → IfOk result (λ x. after ≡ next + ids_in_turn (λ (p : RowPart). row_count p.kind p.lines.row.last) (λ (p : RowPart). 1) ps) → IfOk result (λ x. after ≡ next + row_size r.row.last)
row_counted {T = T} r result next after same h =
    let counted : ids_in_turn (λ (p : RowPart). row_count p.kind p.lines.row.last) (λ (p : RowPart). 1) (row_parts r) ≡ row_size r.row.last = omega arith in
    subst (λ (n : ℕ). IfOk result (λ (x : T). after ≡ next + n)) (ap (ids_in_turn (λ (p : RowPart). row_count p.kind p.lines.row.last) (λ (p : RowPart). 1)) same ∙ counted) h
