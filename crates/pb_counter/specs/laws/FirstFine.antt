-- The lines of the first row are within their limits, and short.
use Rattle.std.proofs.Common.{◌≡◌, ◌≤◌, ◌<◌, ◌+◌, ◌*◌, ◌^◌, ◌++◌, ℕ, zero, suc, [], ◌∷◌, length, refl, arith}
use Rattle.std.specs.Prelude.{All, map}
use Rattle.std.specs.List.{range_with_len}
use Rattle.std.proofs.lemmas.List.Elements.{All-nil, All-cons, All-map, recursion_from_All}
use Rattle.std.proofs.lemmas.List.FromFn.{length-map-range_with_len, length-range_with_len}
use Rattle.pb_base.specs.declared.literal.Lit.{Lit}
use Rattle.pb_steps.specs.Sayable.{IsId, IsVariable, IsOp}
use Rattle.pb_steps.specs.StepSizes.{step_size}
use Rattle.pb_derive.specs.Justifications.{adding}
use Rattle.pb_derive.specs.Outputs.{Output}
use Rattle.pb_derive.specs.Reifications.{Reification, reification_steps}
use Rattle.pb_derive.proofs.Fine.{AreFine, fine_within, fine_append, fine_reifications}
use Rattle.pb_derive.proofs.FineStages.{IsFine, fine_one, fine_lines, fine_stage}
use Rattle.pb_derive.proofs.IdRanges.{each_between}
use Rattle.pb_derive.proofs.Sayable.{IsSlimTerm, IsSlimReification}
use Rattle.pb_derive.proofs.Sizes.{adding-size}
use Rattle.pb_derive.proofs.Summed.{adding-all}
use Rattle.pb_derive.proofs.UnaryRows.{weighing}
use Rattle.pb_counter.specs.CounterRows.{front_lines}
use Rattle.pb_counter.specs.CounterHalves.{first_count, first_counts, first_line, first_order_line, first_at, first_order_at, first_fronts_at, first_lines, first_output, first_outputs, first_steps, total_at, total_line}
use Rattle.pb_counter.specs.laws.FirstRow.{counts-all}
use Rattle.pb_counter.specs.laws.RowFine.{id_between, variable_between, fronts_fine}

-- the numbers of the first row are within their limits
pub record FirstFits (most : ℕ) (l : Lit) (p last id next : ℕ) : Type 0 where
  pub own : IsVariable l.var
  pub from : 1 ≤ p
  pub under : p + suc last ≤ 2 ^ 31
  pub id_from : 1 ≤ id
  pub id_before : id < next
  pub end_before : total_at last next < 2 ^ 63
  pub room : 400 ≤ most
  pub wide : 124 + 120 * suc last ≤ most

module _ (most : ℕ) (l : Lit) (p last id next : ℕ) (h : FirstFits most l p last id next) where
  abbrev end : ℕ
  end = total_at last next

  known : (i : ℕ) → 1 ≤ i → i ≤ end → IsId i
  known i from to = id_between i 1 end (omega arith) h.end_before from to

  var : (v : ℕ) → p ≤ v → v < p + suc last → IsVariable v
  var v from to = variable_between v p (p + suc last) h.from h.under from to

  low : 1 ≤ next
  low = omega (arith, h.id_before)

  count_slim : (j : ℕ) → j < suc last → IsSlimReification (first_count l p j)
  count_slim zero within = record { sum = All-cons IsSlimTerm (weighing 1 l) [] (omega arith, h.own) (All-nil IsSlimTerm); var = var (p + 0) (omega arith) (omega arith); light = omega arith }
  count_slim (suc j) within = record { sum = All-nil IsSlimTerm; var = var (p + suc j) (omega arith) (omega (arith, within)); light = omega arith }

  count_few : (j : ℕ) → length (first_count l p j).sum ≤ 1
  count_few zero = omega arith
  count_few (suc j) = omega arith

  counts_fine : AreFine most (344 * suc last) (reification_steps next (first_counts l p last))
  counts_fine =
      let size : length (first_counts l p last) ≡ suc last = length-map-range_with_len (first_count l p) 0 (suc last) in
      fine_within most most ((238 + 106 * 1) * length (first_counts l p last)) (344 * suc last) (reification_steps next (first_counts l p last)) (omega arith) (omega (arith, size))
      (fine_reifications most 1 next (first_counts l p last) (omega (arith, h.room)) low (omega (arith, size, h.end_before)) (counts-all IsSlimReification l p last count_slim) (counts-all (λ (m : Reification). length m.sum ≤ 1) l p last (λ j within. count_few j)))

  start_fine : (j : ℕ) → j < suc last → IsFine 24 (first_line next j)
  start_fine zero within = ((known (next + 1) (omega arith) (omega arith), tt), omega arith)
  start_fine (suc j) within = ((known (next + 2 * suc j) (omega (arith, low)) (omega (arith, within)), tt), omega arith)

  starts_fine : AreFine most (24 * suc last) (map (first_line next) (range_with_len 0 (suc last)))
  starts_fine = fine_lines most 24 (first_line next) (suc last) (omega (arith, h.room)) start_fine

  orders_fine : AreFine most (39 * last) (map (first_order_line p next) (range_with_len 0 last))
  orders_fine = fine_lines most 39 (first_order_line p next) last (omega (arith, h.room)) (λ j within.
      let size : step_size (first_order_line p next j) ≡ 39 = refl in
      ((known (next + 2 * suc j) (omega (arith, low)) (omega (arith, within)), (var (p + j) (omega arith) (omega (arith, within)), (tt, tt))), omega (arith, size)))

  total_fine : IsFine (26 + 22 * suc last) (total_line last id next)
  total_fine =
      let at : ℕ → ℕ = λ j. next + 2 * j in
      let ids = map at (range_with_len 0 (suc last)) in
      let size : length ids ≡ suc last = length-map-range_with_len at 0 (suc last) in
      let all : All (λ i. IsId i) ids = All-map IsId at (range_with_len 0 (suc last)) (each_between (λ j. IsId (at j)) 0 (suc last) (λ j from to. known (at j) (omega (arith, low)) (omega (arith, to)))) in
      (recursion_from_All IsOp (adding (id ∷ ids)) (adding-all IsOp id ids (All-cons (λ i. IsId i) id ids (known id h.id_from (omega (arith, h.id_before))) all) tt), omega (arith, adding-size (id ∷ ids), size))

  lines_fine : AreFine most (516 * suc last + 57) (first_lines l p last id next)
  lines_fine =
      let starts = map (first_line next) (range_with_len 0 (suc last)) in
      let orders = map (first_order_line p next) (range_with_len 0 last) in
      let fronts = front_lines p last (first_order_at last next) (first_fronts_at last next) in
      let total = total_line last id next ∷ [] in
      let fronts_are = fronts_fine most p last (first_order_at last next) (first_fronts_at last next) end h.room (var p (omega arith) (omega arith)) (omega (arith, h.under)) (omega arith) (omega arith) (omega arith) (omega arith) h.end_before in
      fine_within most most (344 * suc last + (24 * suc last + (39 * last + (31 + 87 * last + (26 + 22 * suc last))))) (516 * suc last + 57) (first_lines l p last id next) (omega arith) (omega arith)
      (fine_append most (344 * suc last) (24 * suc last + (39 * last + (31 + 87 * last + (26 + 22 * suc last)))) (reification_steps next (first_counts l p last)) (starts ++ (orders ++ (fronts ++ total))) counts_fine
      (fine_append most (24 * suc last) (39 * last + (31 + 87 * last + (26 + 22 * suc last))) starts (orders ++ (fronts ++ total)) starts_fine
      (fine_append most (39 * last) (31 + 87 * last + (26 + 22 * suc last)) orders (fronts ++ total) orders_fine
      (fine_append most (31 + 87 * last) (26 + 22 * suc last) fronts total fronts_are (fine_one most (26 + 22 * suc last) (total_line last id next) total_fine (omega (arith, h.wide)))))))

  pub first_fine : AreFine most (641 * suc last) (first_steps l p last id next)
  first_fine =
      let outputs = first_outputs l p last next in
      let deleted = range_with_len next (2 * suc last) in
      let few = length-map-range_with_len (first_output l p last next) 0 (suc last) in
      let gone = length-range_with_len next (2 * suc last) in
      fine_within most most (516 * suc last + 57 + (24 * length outputs + (4 + 20 * length deleted))) (641 * suc last) (first_steps l p last id next) (omega arith) (omega (arith, few, gone))
      (fine_stage most (516 * suc last + 57) (first_lines l p last id next) outputs deleted lines_fine
      (All-map (λ (u : Output). IsId u.id) (first_output l p last next) (range_with_len 0 (suc last)) (each_between (λ j. IsId (first_at last next + j)) 0 (suc last) (λ j from to. known (first_at last next + j) (omega arith) (omega (arith, to)))))
      (omega (arith, gone)) (omega (arith, gone, h.wide))
      (each_between IsId next (2 * suc last) (λ i from to. known i (omega (arith, from, low)) (omega (arith, to)))))
