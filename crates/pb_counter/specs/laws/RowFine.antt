-- The lines of a row are within their limits, and short.
use Rattle.std.proofs.Common.{◌≡◌, ◌≤◌, ◌<◌, ◌+◌, ◌*◌, ◌^◌, ◌++◌, ℕ, zero, suc, pos, [], ◌∷◌, length, refl, arith, length-append}
use Rattle.std.specs.Prelude.{map}
use Rattle.std.specs.List.{range_with_len}
use Rattle.std.proofs.lemmas.Int.{ints}
use Rattle.std.proofs.lemmas.List.Elements.{All-nil, All-cons, All-append}
use Rattle.std.proofs.lemmas.List.FromFn.{length-map-range_with_len, length-range_with_len}
use Rattle.pb_base.specs.declared.literal.Lit.{Lit}
use Rattle.pb_norm.specs.Constraints.{Weighted}
use Rattle.pb_steps.specs.Sayable.{IsId, IsVariable, IsFactor}
use Rattle.pb_steps.specs.StepSizes.{step_size}
use Rattle.pb_derive.specs.Reifications.{Reification, reification_steps}
use Rattle.pb_derive.proofs.Fine.{AreFine, fine_within, fine_append, fine_reifications}
use Rattle.pb_derive.proofs.FineStages.{IsFine, fine_step, fine_lines, fine_stage}
use Rattle.pb_derive.proofs.IdRanges.{each_between}
use Rattle.pb_derive.proofs.Sayable.{IsSlimTerm, IsSlimReification}
use Rattle.pb_derive.proofs.UnaryRows.{weighing, reached}
use Rattle.pb_counter.specs.CounterRows.{next_count, next_counts, fall_line, part_line, part_lines, more_line, keep_line, stop_line, order_line, first_front, front_line, front_lines, row_lines, row_outputs, row_deleted, row_steps, falls_at, parts_at, keeps_at, order_at, fronts_at, row_end}
use Rattle.pb_counter.specs.laws.RowCounts.{row-outputs-count}
use Rattle.pb_counter.specs.laws.RowOutputs.{outputs-all}
use Rattle.pb_counter.specs.laws.RowRuns.{counts-all}

-- ---- numbers

pub factor : (n : ℕ) → 1 ≤ n → n < 2 ^ 126 → IsFactor (pos n)
factor n some small = (omega (arith, ints, some), small)

pub id_between : (i low high : ℕ) → 1 ≤ low → high < 2 ^ 63 → low ≤ i → i ≤ high → IsId i
id_between i low high some small from to = (omega (arith, some, from), omega (arith, to, small))

pub variable_between : (v low high : ℕ) → 1 ≤ low → high ≤ 2 ^ 31 → low ≤ v → v < high → IsVariable v
variable_between v low high some small from to = (omega (arith, some, from), omega (arith, to, small))

-- ---- fronts

pub fronts_fine : (most p last order fronts end : ℕ) → 400 ≤ most → IsVariable p → last < 2 ^ 31 → 1 ≤ order → order + last ≤ end → 1 ≤ fronts → fronts + suc last ≤ end → end < 2 ^ 63 → AreFine most (31 + 87 * last) (front_lines p last order fronts)
fronts_fine most p last order fronts end room var small order_from order_to fronts_from fronts_to high =
    fine_step most 31 (87 * last) (first_front p) (map (front_line order fronts) (range_with_len 0 last)) ((var, (var, tt)), omega arith) (omega (arith, room))
    (fine_lines most 87 (front_line order fronts) last (omega (arith, room)) (λ j within.
    let size : step_size (front_line order fronts j) ≡ 87 = refl in
    ((id_between (fronts + j) 1 end (omega arith) high (omega (arith, fronts_from)) (omega (arith, fronts_to, within)), (id_between (order + j) 1 end (omega arith) high (omega (arith, order_from)) (omega (arith, order_to, within)), (factor (suc j) (omega arith) (omega (arith, within, small)), (tt, tt)))), omega (arith, size))))

-- ---- a row

-- the numbers of a row are within their limits
pub record RowFits (most : ℕ) (l : Lit) (p last order whole next : ℕ) : Type 0 where
  pub own : IsVariable l.var
  pub low : l.var < p
  pub from : 1 ≤ p
  pub under : p + suc last + suc last ≤ 2 ^ 31
  pub order_from : 1 ≤ order
  pub order_before : order + (2 * last + 1) ≤ next
  pub whole_from : 1 ≤ whole
  pub whole_before : whole < next
  pub end_before : row_end last next < 2 ^ 63
  pub room : 400 ≤ most
  pub wide : 124 + 120 * suc last ≤ most

module _ (most : ℕ) (l : Lit) (p last order whole next : ℕ) (h : RowFits most l p last order whole next) where
  abbrev q : ℕ
  q = p + suc last

  abbrev end : ℕ
  end = row_end last next

  from_1 : 1 ≤ next
  from_1 = omega (arith, h.order_from, h.order_before)

  -- an id of the row, or one before
  id : (i : ℕ) → 1 ≤ i → i ≤ end → IsId i
  id i from to = id_between i 1 end (omega arith) h.end_before from to

  var : (v : ℕ) → p ≤ v → v < q + suc last → IsVariable v
  var v from to = variable_between v p (q + suc last) h.from h.under from to

  count_slim : (j : ℕ) → j < suc last → IsSlimReification (next_count l p q j)
  count_slim zero within =
      let x : Weighted = weighing 1 l in
      let s : Weighted = reached 1 (p + 0) in
      record {
        sum = All-cons IsSlimTerm x (s ∷ []) (omega arith, h.own) (All-cons IsSlimTerm s [] (omega arith, var (p + 0) (omega arith) (omega arith)) (All-nil IsSlimTerm));
        var = var (q + 0) (omega arith) (omega arith);
        light = omega arith;
      }
  count_slim (suc j) within =
      let x : Weighted = weighing 1 l in
      let s : Weighted = reached 1 (p + j) in
      let t : Weighted = reached 2 (p + suc j) in
      record {
        sum = All-cons IsSlimTerm x (s ∷ t ∷ []) (omega arith, h.own)
            (All-cons IsSlimTerm s (t ∷ []) (omega arith, var (p + j) (omega arith) (omega (arith, within))) (All-cons IsSlimTerm t [] (omega arith, var (p + suc j) (omega arith) (omega (arith, within))) (All-nil IsSlimTerm)));
        var = var (q + suc j) (omega arith) (omega (arith, within));
        light = omega arith;
      }

  count_few : (j : ℕ) → length (next_count l p q j).sum ≤ 3
  count_few zero = omega arith
  count_few (suc j) = omega arith

  counts_fine : AreFine most (556 * suc last) (reification_steps next (next_counts l p q last))
  counts_fine =
      let size : length (next_counts l p q last) ≡ suc last = length-map-range_with_len (next_count l p q) 0 (suc last) in
      fine_within most most ((238 + 106 * 3) * length (next_counts l p q last)) (556 * suc last) (reification_steps next (next_counts l p q last)) (omega arith) (omega (arith, size))
      (fine_reifications most 3 next (next_counts l p q last) (omega (arith, h.room)) from_1 (omega (arith, size, h.end_before)) (counts-all IsSlimReification l p q last count_slim) (counts-all (λ (m : Reification). length m.sum ≤ 3) l p q last (λ j within. count_few j)))

  falls_fine : AreFine most (142 * last) (map (fall_line l.var order next) (range_with_len 0 last))
  falls_fine = fine_lines most 142 (fall_line l.var order next) last (omega (arith, h.room)) (λ j within.
      let size : step_size (fall_line l.var order next j) ≡ 142 = refl in (
        (id (next + 2 * suc j) (omega (arith, from_1)) (omega (arith, within)), (id (order + j) (omega (arith, h.order_from)) (omega (arith, within, h.order_before)), (factor 2 (omega arith) (omega arith), (tt, (h.own, (factor 3 (omega arith) (omega arith), tt)))))),
        omega (arith, size),
      ))

  parts_fine : AreFine most (24 + 268 * last) (part_lines p last (order + last) next (falls_at last next) (parts_at last next))
  parts_fine =
      let f = part_line p (order + last) next (falls_at last next) (parts_at last next) in
      fine_step most 24 (268 * last) _ (map f (range_with_len 0 last)) ((id next from_1 (omega arith), tt), omega arith) (omega (arith, h.room))
      (fine_lines most 268 f last (omega (arith, h.room)) (λ j within.
      let size : step_size (f j) ≡ 268 = refl in
      let times : IsFactor (pos (suc j)) = factor (suc j) (omega arith) (omega (arith, within, h.under)) in (
        (
          id (parts_at last next + j) (omega (arith, from_1)) (omega (arith, within)),
          (
            times,
            (
              id (order + last + j) (omega (arith, h.order_from)) (omega (arith, within, h.order_before)),
              (
                tt,
                (
                  id (falls_at last next + j) (omega (arith, from_1)) (omega (arith, within)),
                  (
                    times,
                    (
                      tt,
                      (
                        id (next + 2 * suc j) (omega (arith, from_1)) (omega (arith, within)),
                        (var (p + j) (omega arith) (omega (arith, within)), (factor 2 (omega arith) (omega arith), (tt, (factor (suc (suc j)) (omega arith) (omega (arith, within, h.under)), tt)))),
                      ),
                    ),
                  ),
                ),
              ),
            ),
          ),
        ),
        omega (arith, size),
      )))

  mores_fine : AreFine most (79 * suc last) (map (more_line p next) (range_with_len 0 (suc last)))
  mores_fine = fine_lines most 79 (more_line p next) (suc last) (omega (arith, h.room)) (λ j within.
      let size : step_size (more_line p next j) ≡ 79 = refl in
      ((id (next + 2 * j + 1) (omega (arith, from_1)) (omega (arith, within)), (var (p + j) (omega arith) (omega (arith, within)), (factor 3 (omega arith) (omega arith), tt))), omega (arith, size)))

  keep_fine : (j : ℕ) → j < suc last → IsFine 93 (keep_line l.var p next j)
  keep_fine zero within =
      let size : step_size (keep_line l.var p next 0) ≡ 79 = refl in
      ((id (next + 1) (omega (arith, from_1)) (omega arith), (h.own, (factor 3 (omega arith) (omega arith), tt))), omega (arith, size))
  keep_fine (suc j) within =
      let size : step_size (keep_line l.var p next (suc j)) ≡ 93 = refl in
      ((id (next + 2 * suc j + 1) (omega (arith, from_1)) (omega (arith, within)), (h.own, (var (p + j) (omega arith) (omega (arith, within)), (factor 3 (omega arith) (omega arith), tt)))), omega (arith, size))

  keeps_fine : AreFine most (93 * suc last) (map (keep_line l.var p next) (range_with_len 0 (suc last)))
  keeps_fine = fine_lines most 93 (keep_line l.var p next) (suc last) (omega (arith, h.room)) keep_fine

  stop_fine : IsFine 87 (stop_line last (order + last) whole)
  stop_fine =
      let size : step_size (stop_line last (order + last) whole) ≡ 87 = refl in
      ((id whole h.whole_from (omega (arith, h.whole_before)), (id (order + last + last) (omega (arith, h.order_from)) (omega (arith, h.order_before)), (tt, (factor (suc last) (omega arith) (omega (arith, h.under)), tt)))), omega (arith, size))

  orders_fine : AreFine most (46 * last) (map (order_line (falls_at last next) (keeps_at last next)) (range_with_len 0 last))
  orders_fine = fine_lines most 46 (order_line (falls_at last next) (keeps_at last next)) last (omega (arith, h.room)) (λ j within.
      let size : step_size (order_line (falls_at last next) (keeps_at last next) j) ≡ 46 = refl in
      ((id (falls_at last next + j) (omega (arith, from_1)) (omega (arith, within)), (id (keeps_at last next + j) (omega (arith, from_1)) (omega (arith, within)), (tt, tt))), omega (arith, size)))

  lines_fine : AreFine most (1271 * suc last) (row_lines l p last order whole next)
  lines_fine =
      let falls = map (fall_line l.var order next) (range_with_len 0 last) in
      let parts = part_lines p last (order + last) next (falls_at last next) (parts_at last next) in
      let mores = map (more_line p next) (range_with_len 0 (suc last)) in
      let keeps = map (keep_line l.var p next) (range_with_len 0 (suc last)) in
      let orders = map (order_line (falls_at last next) (keeps_at last next)) (range_with_len 0 last) in
      let fronts = front_lines q last (order_at last next) (fronts_at last next) in
      let stop = stop_line last (order + last) whole in
      let fronts_are = fronts_fine most q last (order_at last next) (fronts_at last next) end h.room (var q (omega arith) (omega arith)) (omega (arith, h.under)) (omega arith) (omega arith) (omega arith) (omega arith) h.end_before in
      fine_within most most (556 * suc last + (142 * last + (24 + 268 * last + (79 * suc last + (93 * suc last + (87 + (46 * last + (31 + 87 * last)))))))) (1271 * suc last) (row_lines l p last order whole next) (omega arith) (omega arith)
      (fine_append most (556 * suc last) (142 * last + (24 + 268 * last + (79 * suc last + (93 * suc last + (87 + (46 * last + (31 + 87 * last))))))) (reification_steps next (next_counts l p q last)) (falls ++ (parts ++ (mores ++ (keeps ++ stop ∷ (orders ++ fronts))))) counts_fine
      (fine_append most (142 * last) (24 + 268 * last + (79 * suc last + (93 * suc last + (87 + (46 * last + (31 + 87 * last)))))) falls (parts ++ (mores ++ (keeps ++ stop ∷ (orders ++ fronts)))) falls_fine
      (fine_append most (24 + 268 * last) (79 * suc last + (93 * suc last + (87 + (46 * last + (31 + 87 * last))))) parts (mores ++ (keeps ++ stop ∷ (orders ++ fronts))) parts_fine
      (fine_append most (79 * suc last) (93 * suc last + (87 + (46 * last + (31 + 87 * last)))) mores (keeps ++ stop ∷ (orders ++ fronts)) mores_fine
      (fine_append most (93 * suc last) (87 + (46 * last + (31 + 87 * last))) keeps (stop ∷ (orders ++ fronts)) keeps_fine
      (fine_step most 87 (46 * last + (31 + 87 * last)) stop (orders ++ fronts) stop_fine (omega (arith, h.room))
      (fine_append most (46 * last) (31 + 87 * last) orders fronts orders_fine fronts_are)))))))

  deleted_size : length (row_deleted last order next) ≡ 6 * last + 3
  deleted_size = omega (arith, length-append (range_with_len order (2 * last + 1)) (range_with_len next (4 * last + 2)), length-range_with_len order (2 * last + 1), length-range_with_len next (4 * last + 2))

  -- all of the row
  pub row_fine : AreFine most (1439 * suc last) (row_steps l p last order whole next)
  row_fine =
      let outputs = row_outputs l p last next in
      let deleted = row_deleted last order next in
      fine_within most most (1271 * suc last + (24 * length outputs + (4 + 20 * length deleted))) (1439 * suc last) (row_steps l p last order whole next) (omega arith) (omega (arith, row-outputs-count l p last next, deleted_size))
      (fine_stage most (1271 * suc last) (row_lines l p last order whole next) outputs deleted lines_fine
      (outputs-all l p last h.low IsId next (λ i from to. id i (omega (arith, from, from_1)) (omega (arith, to))))
      (omega (arith, deleted_size)) (omega (arith, deleted_size, h.wide))
      (All-append IsId (range_with_len order (2 * last + 1)) (range_with_len next (4 * last + 2))
      (each_between IsId order (2 * last + 1) (λ i from to. id i (omega (arith, from, h.order_from)) (omega (arith, to, h.order_before))))
      (each_between IsId next (4 * last + 2) (λ i from to. id i (omega (arith, from, from_1)) (omega (arith, to))))))
