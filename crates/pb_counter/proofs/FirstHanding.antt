-- The steps of the first row, as they are handed over.
use Rattle.std.proofs.Common.{◌≡◌, ◌+◌, ◌*◌, ◌∙◌, ◌++◌, ℕ, suc, List, [], ◌∷◌, map, refl, sym, subst, arith, ap}
use Rattle.std.specs.Prelude.{Result, IfOk}
use Rattle.std.specs.List.{range_with_len}
use Rattle.std.proofs.lemmas.Simd.{map-map}
use Rattle.pb_base.specs.declared.literal.Lit.{Lit}
use Rattle.pb_steps.specs.declared.step.Step.{Step}
use Rattle.pb_steps.specs.declared.step.Step.TheVariants.{Out, Del}
use Rattle.pb_derive.specs.Outputs.{Output, output_steps}
use Rattle.pb_derive.specs.Reifications.{reification_steps}
use Rattle.pb_family.specs.Derivations.{pieces, in_turn, ids_in_turn}
use Rattle.pb_family.proofs.Sequence.{reification_piece, reification_pieces, one_each}
use Rattle.pb_counter.specs.CounterHalves.{first_count, first_counts, first_line, first_order_line, first_at, first_order_at, first_fronts_at, total_line, first_output, first_outputs, first_steps}
use Rattle.pb_counter.specs.CounterRows.{front_line, front_lines}
use Rattle.pb_counter.specs.inner.FirstParts.{first_parts}
use Rattle.pb_counter.specs.inner.FirstPieces.{first_kinds, first_width, first_piece}
use Rattle.pb_counter.specs.inner.PlacePieces.{front_piece}
use Rattle.pb_counter.specs.declared.first_row.FirstRow.{FirstRow}
use Rattle.pb_counter.specs.declared.first_parts.FirstPart.{FirstPart}
use Rattle.pb_counter.proofs.RowHanding.{outs_alone, first_and_later, behind}

module _ (l : Lit) (p last id next : ℕ) where
  abbrev rows : ℕ → ℕ → ℕ → ℕ → List Step
  rows counts starts order fronts =
      pieces (reification_piece (first_count l p)) 2 next 0 (suc last)
      ++ (pieces (λ i j. first_line counts j ∷ []) 1 (next + 2 * suc last) 0 (suc last)
      ++ (pieces (λ i j. first_order_line p counts j ∷ []) 1 (next + 2 * suc last + 1 * suc last) 0 last
      ++ (pieces (λ i j. front_piece p order fronts j ∷ []) 1 (next + 2 * suc last + 1 * suc last + 1 * last) 0 (suc last)
      ++ (total_line last id counts
      ∷ (pieces (λ i j. Out (starts + j) ∷ []) 0 (next + 2 * suc last + 1 * suc last + 1 * last + 1 * suc last + 1 * 1) 0 (suc last)
      ++ Del (range_with_len counts (2 * suc last)) ∷ [])))))

  abbrev order : ℕ
  order = first_order_at last next

  abbrev fronts : ℕ
  fronts = first_fronts_at last next

  abbrev tail : List Step
  tail = output_steps (first_outputs l p last next) ++ Del (range_with_len next (2 * suc last)) ∷ []

  outs : pieces (λ i j. Out (first_at last next + j) ∷ []) 0 (next + 2 * suc last + 1 * suc last + 1 * last + 1 * suc last + 1 * 1) 0 (suc last) ≡ output_steps (first_outputs l p last next)
  outs =
      outs_alone (λ (j : ℕ). Out (first_at last next + j)) (next + 2 * suc last + 1 * suc last + 1 * last + 1 * suc last + 1 * 1) 0 (suc last)
      ∙ sym (map-map (λ (u : Output). Out u.id) (first_output l p last next) (range_with_len 0 (suc last)))

  listed : rows next (first_at last next) order fronts ≡ reification_steps next (first_counts l p last) ++ (map (first_line next) (range_with_len 0 (suc last)) ++ (map (first_order_line p next) (range_with_len 0 last) ++ (front_lines p last order fronts ++ (total_line last id next ∷ tail))))
  listed = λ i.
      sym (reification_pieces (first_count l p) next 0 (suc last)) i
      ++ (one_each (first_line next) (next + 2 * suc last) 0 (suc last) i
      ++ (one_each (first_order_line p next) (next + 2 * suc last + 1 * suc last) 0 last i
      ++ ((one_each (front_piece p order fronts) (next + 2 * suc last + 1 * suc last + 1 * last) 0 (suc last) ∙ first_and_later (front_piece p order fronts) (front_line order fronts) last (λ j. refl)) i
      ++ (total_line last id next ∷ (outs i ++ Del (range_with_len next (2 * suc last)) ∷ [])))))

  whole_row : first_steps l p last id next ≡ reification_steps next (first_counts l p last) ++ (map (first_line next) (range_with_len 0 (suc last)) ++ (map (first_order_line p next) (range_with_len 0 last) ++ (front_lines p last order fronts ++ (total_line last id next ∷ tail))))
  whole_row =
      behind (reification_steps next (first_counts l p last)) _ tail _
      (behind (map (first_line next) (range_with_len 0 (suc last))) _ tail _
      (behind (map (first_order_line p next) (range_with_len 0 last)) _ tail _
      (behind (front_lines p last order fronts) (total_line last id next ∷ []) tail _ refl)))

-- the parts of the first row
pub first_in_parts : (r : FirstRow) (next : ℕ) → r.counts ≡ next → r.starts ≡ first_at r.last next → r.order ≡ first_order_at r.last next → r.fronts ≡ first_fronts_at r.last next
    → in_turn (λ (p : FirstPart). first_kinds p.kind p.row.last) (λ (p : FirstPart). first_width p.kind) (λ (p : FirstPart). first_piece p.kind p.row) next (first_parts r) ≡ first_steps r.lit r.first r.last r.id next
first_in_parts r next counts starts order fronts =
    (λ i. rows r.lit r.first r.last r.id next (counts i) (starts i) (order i) (fronts i)) ∙ listed r.lit r.first r.last r.id next ∙ sym (whole_row r.lit r.first r.last r.id next)

-- and how many ids they take
pub first_counted : {T E : Type 0} (r : FirstRow) (result : Result T E) (next after : ℕ) {ps : List FirstPart} → ps ≡ first_parts r
    → IfOk result (λ x. after ≡ next + ids_in_turn (λ (p : FirstPart). first_kinds p.kind p.row.last) (λ (p : FirstPart). first_width p.kind) ps) → IfOk result (λ x. after ≡ next + (5 * r.last + 5))
first_counted {T = T} r result next after same h =
    let counted : ids_in_turn (λ (p : FirstPart). first_kinds p.kind p.row.last) (λ (p : FirstPart). first_width p.kind) (first_parts r) ≡ 5 * r.last + 5 = omega arith in
    subst (λ (n : ℕ). IfOk result (λ (x : T). after ≡ next + n)) (ap (ids_in_turn (λ (p : FirstPart). first_kinds p.kind p.row.last) (λ (p : FirstPart). first_width p.kind)) same ∙ counted) h
