-- How many lines a counter's derivation by rows has.
use Rattle.std.proofs.Common.{◌≡◌, ◌≢◌, ◌≤◌, ◌<◌, ◌+◌, ◌-◌, ◌*◌, ◌^◌, ◌++◌, ◌==◌, ℕ, zero, suc, leb, List, [], ◌∷◌, length, take, drop, refl, ap, sym, ◌∙◌, subst, arith, length-append, length-drop}
use Rattle.std.specs.Prelude.{map}
use Rattle.std.specs.List.{range_with_len, flat_map}
use Rattle.std.proofs.Math.Nat.{mul-add, two-pow-succ}
use Rattle.std.proofs.lemmas.Bool.{eqb-false, leb-true, leb-false, cond_both}
use Rattle.std.proofs.lemmas.Nat.{pow_pos}
use Rattle.std.proofs.lemmas.List.{length-map, length-take-le}
use Rattle.std.proofs.lemmas.List.FromFn.{length-map-range_with_len}
use Rattle.pb_base.specs.declared.literal.Lit.{Lit}
use Rattle.pb_steps.specs.declared.step.Step.{Step}
use Rattle.pb_steps.specs.declared.step.Step.TheVariants.{Out, Del}
use Rattle.pb_derive.specs.Outputs.{Output, output_steps}
use Rattle.pb_derive.specs.Reifications.{reification_steps}
use Rattle.pb_derive.specs.Stages.{stage_steps}
use Rattle.pb_derive.proofs.Phases.{length-reifications}
use Rattle.pb_family.specs.Fresh.{literal_at}
use Rattle.pb_family.proofs.FlatRanges.{length-flat_range}
use Rattle.pb_counter.specs.Counter.{counter_fresh, counter_size}
use Rattle.pb_counter.specs.CounterRows.{next_count, next_counts, fall_line, part_line, part_lines, more_line, keep_line, stop_line, order_line, front_line, front_lines, place_outputs, row_lines, row_outputs, row_deleted, row_steps, stop_clause, falls_at, parts_at, keeps_at, stop_at, order_at, fronts_at}
use Rattle.pb_counter.specs.laws.RowsEnds.{either_chosen}
use Rattle.pb_counter.specs.CounterHalves.{RowsEnd, first_count, first_counts, first_line, first_order_line, first_order_at, first_fronts_at, first_lines, first_output, first_outputs, first_steps, total_at, total_line, narrow_line, both_line, rows_end, rows_steps, join_steps, last_steps, further_steps, other_steps, counter_row_steps}

stage-count : (ss : List Step) (us : List Output) (ids : List ℕ) → length (stage_steps ss us ids) ≡ length ss + length us + 1
stage-count ss us ids = omega (arith, length-append ss (output_steps us ++ Del ids ∷ []), length-append (output_steps us) (Del ids ∷ []), length-map us (λ (u : Output). Out u.id))

fronts-count : (p last order fronts : ℕ) → length (front_lines p last order fronts) ≡ 1 + last
fronts-count p last order fronts = omega (arith, length-map-range_with_len (front_line order fronts) 0 last)

-- ---- rows

row-lines-count : (l : Lit) (p last order whole next : ℕ) → length (row_lines l p last order whole next) ≡ 8 * last + 7
row-lines-count l p last order whole next =
    let q : ℕ = p + suc last in
    let reds = reification_steps next (next_counts l p q last) in
    let falls = map (fall_line l.var order next) (range_with_len 0 last) in
    let parts = part_lines p last (order + last) next (falls_at last next) (parts_at last next) in
    let mores = map (more_line p next) (range_with_len 0 (suc last)) in
    let keeps = map (keep_line l.var p next) (range_with_len 0 (suc last)) in
    let orders = map (order_line (falls_at last next) (keeps_at last next)) (range_with_len 0 last) in
    let fronts = front_lines q last (order_at last next) (fronts_at last next) in
    let rest = stop_line last (order + last) whole ∷ (orders ++ fronts) in
    omega (
      arith,
      length-append reds (falls ++ (parts ++ (mores ++ (keeps ++ rest)))),
      length-append falls (parts ++ (mores ++ (keeps ++ rest))),
      length-append parts (mores ++ (keeps ++ rest)),
      length-append mores (keeps ++ rest),
      length-append keeps rest,
      length-append orders fronts,
      length-reifications next (next_counts l p q last),
      length-map-range_with_len (next_count l p q) 0 (suc last),
      length-map-range_with_len (fall_line l.var order next) 0 last,
      length-map-range_with_len (part_line p (order + last) next (falls_at last next) (parts_at last next)) 0 last,
      length-map-range_with_len (more_line p next) 0 (suc last),
      length-map-range_with_len (keep_line l.var p next) 0 (suc last),
      length-map-range_with_len (order_line (falls_at last next) (keeps_at last next)) 0 last,
      fronts-count q last (order_at last next) (fronts_at last next),
    )

pub row-outputs-count : (l : Lit) (p last next : ℕ) → length (row_outputs l p last next) ≡ 2 * last + 3
row-outputs-count l p last next =
    omega (arith, length-append (flat_map (place_outputs l p last next) (range_with_len 0 (suc last))) (record { id = stop_at last next; clause = stop_clause l p last } ∷ []), length-flat_range (place_outputs l p last next) 2 0 (suc last) (λ j. refl))

row-count : (l : Lit) (p last order whole next : ℕ) → length (row_steps l p last order whole next) ≡ 10 * last + 11
row-count l p last order whole next = omega (arith, stage-count (row_lines l p last order whole next) (row_outputs l p last next) (row_deleted last order next), row-lines-count l p last order whole next, row-outputs-count l p last next)

rows-count : (n : ℕ) (ls : List Lit) (p last order whole next : ℕ) → 1 ≤ length ls → length ls ≤ 2 ^ n → length (rows_steps n ls p last order whole next) + 4 ≡ (10 * last + 15) * length ls
unfolding rows_steps
rows-count zero ls p last order whole next some le = omega (arith, row-count (literal_at ls 0) p last order whole next, (let one : (10 * last + 15) * length ls ≡ (10 * last + 15) * 1 = ap (λ (k : ℕ). (10 * last + 15) * k) (let e : length ls ≡ 1 = omega (arith, some, le) in e) in one))
rows-count (suc n) ls p last order whole next some le =
    let half : ℕ = 2 ^ n in
    let us : List Lit = take half ls in
    let vs : List Lit = drop half ls in
    let one : RowsEnd = rows_end n half last (next + 1) in
    let other : RowsEnd = rows_end n (length ls - half) last (one.next + 1) in
    let first = rows_steps n us p last order next (next + 1) in
    let second = rows_steps n vs (p + half * suc last) last one.order one.next (one.next + 1) in
    let stage = stage_steps (both_line one.climb other.climb ∷ []) [] (next ∷ one.climb ∷ one.next ∷ other.climb ∷ []) in
    let Counts : List Step → Type 0 = λ ss. length ss + 4 ≡ (10 * last + 15) * length ls in
    either_chosen (leb (length ls) half) (rows_steps n ls p last order whole next) (narrow_line whole vs ∷ (first ++ join_steps whole one other next second)) Counts
    (λ within. rows-count n ls p last order whole next some (leb-true (length ls) half within))
    (λ beyond.
    let above : half < length ls = leb-false (length ls) half beyond in
    let size_us : length us ≡ half = length-take-le half ls (omega (arith, above)) in
    let size_vs : length vs ≡ length ls - half = length-drop half ls in
    let left = rows-count n us p last order next (next + 1) (omega (arith, size_us, pow_pos n)) (omega (arith, size_us)) in
    let right = rows-count n vs (p + half * suc last) last one.order one.next (one.next + 1) (omega (arith, size_vs, above)) (omega (arith, size_vs, le, two-pow-succ n)) in
    let both : (10 * last + 15) * length ls ≡ (10 * last + 15) * length us + (10 * last + 15) * length vs =
    ap (λ (k : ℕ). (10 * last + 15) * k) (let e : length ls ≡ length us + length vs = omega (arith, size_us, size_vs, above) in e) ∙ mul-add (10 * last + 15) (length us) (length vs) in
    omega (arith, length-append first (join_steps whole one other next second), length-append second stage, stage-count (both_line one.climb other.climb ∷ []) [] (next ∷ one.climb ∷ one.next ∷ other.climb ∷ []), left, right, both))

-- ---- the whole

first-count : (l : Lit) (p last id next : ℕ) → length (first_steps l p last id next) ≡ 6 * last + 7
first-count l p last id next =
    let reds = reification_steps next (first_counts l p last) in
    let starts = map (first_line next) (range_with_len 0 (suc last)) in
    let orders = map (first_order_line p next) (range_with_len 0 last) in
    let fronts = front_lines p last (first_order_at last next) (first_fronts_at last next) in
    let total = total_line last id next ∷ [] in
    omega (
      arith,
      stage-count (first_lines l p last id next) (first_outputs l p last next) (range_with_len next (2 * suc last)),
      length-append reds (starts ++ (orders ++ (fronts ++ total))),
      length-append starts (orders ++ (fronts ++ total)),
      length-append orders (fronts ++ total),
      length-append fronts total,
      length-reifications next (first_counts l p last),
      length-map-range_with_len (first_count l p) 0 (suc last),
      length-map-range_with_len (first_line next) 0 (suc last),
      length-map-range_with_len (first_order_line p next) 0 last,
      fronts-count p last (first_order_at last next) (first_fronts_at last next),
      length-map-range_with_len (first_output l p last next) 0 (suc last),
    )

other-count : (us : List Lit) (p last order total next : ℕ) → 1 ≤ length us → length us ≤ 2 ^ 31 → length (other_steps us p last order total next) ≤ 3 + (10 * last + 15) * (length us - 1)
other-count us p last order total next some few =
    let count : ℕ = length us - 1 in
    let ls : List Lit = take count us in
    let k : Lit = literal_at us count in
    let end : RowsEnd = rows_end 31 (length ls) last (next + 1) in
    let rows = rows_steps 31 ls p last order next (next + 1) in
    let final = last_steps k (p + length ls * suc last) last end.order end.next (end.next + 1) (total ∷ next ∷ end.climb ∷ end.next ∷ []) in
    let size : length ls ≡ count = length-take-le count us (omega arith) in
    cond_both (count == 0) (last_steps (literal_at us 0) p last order total next (total ∷ [])) (further_steps ls k p last order total next) (λ ss. length ss ≤ 3 + (10 * last + 15) * count)
    (λ none. omega (arith, stage-count (stop_line last (order + last) total ∷ []) (record { id = next; clause = stop_clause (literal_at us 0) p last } ∷ []) (range_with_len order (2 * last + 1) ++ total ∷ [])))
    (λ more.
    let positive : 1 ≤ count = omega (arith, (let some_count : count ≢ 0 = eqb-false count 0 more in some_count)) in
    let all = rows-count 31 ls p last order next (next + 1) (omega (arith, size, positive)) (omega (arith, size, few)) in
    omega (
      arith,
      length-append rows (both_line total end.climb ∷ final),
      stage-count (stop_line last (end.order + last) end.next ∷ []) (record { id = end.next + 1; clause = stop_clause k (p + length ls * suc last) last } ∷ []) (range_with_len end.order (2 * last + 1) ++ total ∷ next ∷ end.climb ∷ end.next ∷ []),
      all,
      ap (λ (k : ℕ). (10 * last + 15) * k) size,
    ))

-- within the limit: 8 for each fresh variable and clause
pub row_lines_few : (ms : List Lit) (width first id next : ℕ) → 1 ≤ width → 2 ≤ length ms → length ms < 2 ^ 31 → length (counter_row_steps ms width first id next) ≤ 8 * (counter_fresh (length ms) width + counter_size (length ms) width)
row_lines_few ms width first id next some two few =
    let last : ℕ = width - 1 in
    let us : List Lit = drop 1 ms in
    let size : length us ≡ length ms - 1 = length-drop 1 ms in
    let front = first_steps (literal_at ms 0) first last id next in
    let back = other_steps us first last (first_order_at last next) (total_at last next) (total_at last next + 1) in
    let all : length (counter_row_steps ms width first id next) ≤ 6 * last + 10 + (10 * last + 15) * (length ms - 2) =
    omega (arith, length-append front back, first-count (literal_at ms 0) first last id next, other-count us first last (first_order_at last next) (total_at last next) (total_at last next + 1) (omega (arith, size, two)) (omega (arith, size, few)), ap (λ (k : ℕ). (10 * last + 15) * k) (let e : length us - 1 ≡ length ms - 2 = omega (arith, size) in e)) in
    by_rows (length (counter_row_steps ms width first id next)) last (length ms - 2) (length ms) width (omega (arith, two)) (omega (arith, some)) all
  where
    by_rows : (lines last m n w : ℕ) → n ≡ m + 2 → w ≡ last + 1 → lines ≤ 6 * last + 10 + (10 * last + 15) * m → lines ≤ 8 * (counter_fresh n w + counter_size n w)
    by_rows lines last m n w e f all =
        subst (λ (k : ℕ). lines ≤ 8 * (counter_fresh k w + counter_size k w)) (sym e) (subst (λ (v : ℕ). lines ≤ 8 * (counter_fresh (m + 2) v + counter_size (m + 2) v)) (sym f) (omega (arith, all)))
