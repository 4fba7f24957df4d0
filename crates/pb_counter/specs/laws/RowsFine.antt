-- The lines of many rows are within their limits, and short.
use Rattle.std.proofs.Common.{◌≡◌, ◌≤◌, ◌<◌, ◌+◌, ◌-◌, ◌*◌, ◌^◌, ◌++◌, ℕ, zero, suc, leb, List, [], ◌∷◌, length, take, drop, refl, ap, sym, ◌∙◌, subst, arith, length-drop}
use Rattle.std.specs.Prelude.{All, map}
use Rattle.std.proofs.Math.Nat.{mul-add, two-pow-succ}
use Rattle.std.proofs.lemmas.Bool.{leb-true, leb-false}
use Rattle.std.proofs.lemmas.Nat.{pow_pos}
use Rattle.std.proofs.lemmas.List.{length-map, length-take-le, take-append-drop}
use Rattle.std.proofs.lemmas.List.Elements.{All-nil, All-cons, All-head, All-map, All-weaker, recursion_from_All}
use Rattle.std.proofs.lemmas.List.Sums.{sum_by-cons}
use Rattle.pb_base.specs.declared.literal.Lit.{Lit}
use Rattle.pb_base.proofs.Members.{All-append_both}
use Rattle.pb_steps.specs.declared.op.PolOp.TheVariants.{Push, Weaken}
use Rattle.pb_steps.specs.Sayable.{IsId, IsVariable, IsOp}
use Rattle.pb_steps.specs.StepSizes.{op_size, step_size}
use Rattle.pb_derive.specs.Outputs.{Output}
use Rattle.pb_derive.specs.Stages.{stage_steps}
use Rattle.pb_derive.proofs.Fine.{AreFine, fine_within, fine_append}
use Rattle.pb_derive.proofs.FineStages.{IsFine, fine_step, fine_one, fine_stage}
use Rattle.pb_derive.proofs.Sizes.{weakens-size}
use Rattle.pb_counter.specs.CounterHalves.{RowsEnd, both_end, narrow_line, both_line, rows_end, rows_steps, join_steps}
use Rattle.pb_counter.specs.laws.RowFine.{id_between, row_fine}
use Rattle.pb_counter.specs.laws.RowsEnds.{either_chosen, end_is}

-- ---- the ids of rows: 8 for each place, and up to 3 for each row

pub ends_low : (n count last next : ℕ) → 1 ≤ count → count ≤ 2 ^ n → (rows_end n count last next).next + 3 ≤ next + (8 * last + 10) * count
unfolding rows_end
ends_low zero count last next some le = let one : (8 * last + 10) * count ≡ (8 * last + 10) * 1 = ap (λ (k : ℕ). (8 * last + 10) * k) (let e : count ≡ 1 = omega (arith, some, le) in e) in omega (arith, one)
ends_low (suc n) count last next some le =
    let half : ℕ = 2 ^ n in
    let one : RowsEnd = rows_end n half last (next + 1) in
    let other : RowsEnd = rows_end n (count - half) last (one.next + 1) in
    either_chosen (leb count half) (rows_end n count last next) (both_end other) (λ e. e.next + 3 ≤ next + (8 * last + 10) * count)
    (λ within. ends_low n count last next some (leb-true count half within))
    (λ beyond.
    let above : half < count = leb-false count half beyond in
    let left = ends_low n half last (next + 1) (pow_pos n) (omega arith) in
    let right = ends_low n (count - half) last (one.next + 1) (omega (arith, above)) (omega (arith, le, two-pow-succ n)) in
    let both : (8 * last + 10) * count ≡ (8 * last + 10) * half + (8 * last + 10) * (count - half) =
    ap (λ (k : ℕ). (8 * last + 10) * k) (let e : count ≡ half + (count - half) = omega (arith, above) in e) ∙ mul-add (8 * last + 10) half (count - half) in
    omega (arith, left, right, both))

-- ---- lines about many rows

pub narrow_fine : (whole : ℕ) (vs : List Lit) → IsId whole → All (λ l. IsVariable l.var) vs → IsFine (24 + 14 * length vs) (narrow_line whole vs)
narrow_fine whole vs id vars =
    let names = map (λ (l : Lit). l.var) vs in
    let push : op_size (Push whole) ≡ 20 = refl in (
      (id, recursion_from_All IsOp (map Weaken names) (All-map IsOp Weaken names (All-map IsVariable (λ (l : Lit). l.var) vs vars))),
      omega (arith, push, sum_by-cons op_size (Push whole) (map Weaken names), weakens-size names, length-map vs (λ (l : Lit). l.var)),
    )

pub both_fine : (one other : ℕ) → IsId one → IsId other → IsFine 46 (both_line one other)
both_fine one other h k = let size : step_size (both_line one other) ≡ 46 = refl in ((h, (k, (tt, tt))), omega (arith, size))

-- ---- rows by halves

-- the numbers of rows are within their limits, of which there are no more than `most_rows`
pub record RowsFit (most most_rows : ℕ) (ls : List Lit) (p last order whole next : ℕ) : Type 0 where
  pub some : 1 ≤ length ls
  pub few : length ls ≤ most_rows
  pub vars : All (λ l. IsVariable l.var) ls
  pub below : All (λ l. l.var < p) ls
  pub from : 1 ≤ p
  pub under : p + length ls * suc last + suc last ≤ 2 ^ 31
  pub order_from : 1 ≤ order
  pub order_before : order + (2 * last + 1) ≤ next
  pub whole_from : 1 ≤ whole
  pub whole_before : whole < next
  pub end_before : next + (8 * last + 10) * length ls < 2 ^ 63
  pub room : 400 ≤ most
  pub wide : 124 + 120 * suc last ≤ most
  pub long : 24 + 14 * most_rows ≤ most

sizes-join : (a d u v x : ℕ) → x ≤ d → a * (u + 1) + d * u + (a * (v + 1) + d * v + x) ≤ a * (u + 1 + (v + 1)) + d * (u + v + 1)
sizes-join a d u v x le = omega (arith, le)

-- of so many rows
abbrev pub rows_size : ℕ → ℕ → ℕ → ℕ
rows_size most_rows last count = 1439 * suc last * count + (200 + 14 * most_rows) * (count - 1)

sizes_both : (most_rows last count half x : ℕ) → 1 ≤ half → half < count → x ≤ 200 + 14 * most_rows → rows_size most_rows last half + (rows_size most_rows last (count - half) + x) ≤ rows_size most_rows last count
sizes_both most_rows last count half x some more le =
    let a : ℕ = 1439 * suc last in
    let d : ℕ = 200 + 14 * most_rows in
    let u : ℕ = half - 1 in
    let v : ℕ = count - half - 1 in
    let e : u + 1 ≡ half = omega (arith, some) in
    let f : v + 1 ≡ count - half = omega (arith, more) in
    let g : u + 1 + (v + 1) ≡ count = omega (arith, some, more) in
    let k : u + v + 1 ≡ count - 1 = omega (arith, some, more) in
    omega (arith, sizes-join a d u v x le, ap (λ (n : ℕ). a * n) e, ap (λ (n : ℕ). a * n) f, ap (λ (n : ℕ). a * n) g, ap (λ (n : ℕ). d * n) k)

pub rows_fine : (n most most_rows : ℕ) (ls : List Lit) (p last order whole next : ℕ) → length ls ≤ 2 ^ n → RowsFit most most_rows ls p last order whole next → AreFine most (rows_size most_rows last (length ls)) (rows_steps n ls p last order whole next)
unfolding rows_steps
rows_fine zero most most_rows [] p last order whole next le h = absurd (omega (arith, h.some))
rows_fine zero most most_rows (l ∷ []) p last order whole next le h =
    fine_within most most (1439 * suc last) (rows_size most_rows last 1) _ (omega arith) (omega arith)
    (row_fine most l p last order whole next (record {
      own = All-head (λ (l : Lit). IsVariable l.var) l [] h.vars;
      low = All-head (λ (l : Lit). l.var < p) l [] h.below;
      from = h.from;
      under = omega (arith, h.under);
      order_from = h.order_from;
      order_before = h.order_before;
      whole_from = h.whole_from;
      whole_before = h.whole_before;
      end_before = omega (arith, h.end_before);
      room = h.room;
      wide = h.wide;
    }))
rows_fine zero most most_rows (l ∷ k ∷ ls) p last order whole next le h = absurd (omega (arith, le))
rows_fine (suc n) most most_rows ls p last order whole next le h =
    let half : ℕ = 2 ^ n in
    let us : List Lit = take half ls in
    let vs : List Lit = drop half ls in
    let one : RowsEnd = rows_end n half last (next + 1) in
    let other : RowsEnd = rows_end n (length ls - half) last (one.next + 1) in
    let m : ℕ = p + half * suc last in
    let first = rows_steps n us p last order next (next + 1) in
    let second = rows_steps n vs m last one.order one.next (one.next + 1) in
    let gone = next ∷ one.climb ∷ one.next ∷ other.climb ∷ [] in
    let stage = stage_steps (both_line one.climb other.climb ∷ []) [] gone in
    either_chosen (leb (length ls) half) (rows_steps n ls p last order whole next) (narrow_line whole vs ∷ (first ++ join_steps whole one other next second)) (AreFine most (rows_size most_rows last (length ls)))
    (λ within. rows_fine n most most_rows ls p last order whole next (leb-true (length ls) half within) h)
    (λ beyond.
    let above : half < length ls = leb-false (length ls) half beyond in
    let all : us ++ vs ≡ ls = take-append-drop half ls in
    let size_us : length us ≡ half = length-take-le half ls (omega (arith, above)) in
    let size_vs : length vs ≡ length ls - half = length-drop half ls in
    let vars = All-append_both (λ (l : Lit). IsVariable l.var) us vs (subst (All (λ (l : Lit). IsVariable l.var)) (sym all) h.vars) in
    let below = All-append_both (λ (l : Lit). l.var < p) us vs (subst (All (λ (l : Lit). l.var < p)) (sym all) h.below) in
    let end_1 = end_is n half last (next + 1) in
    let end_2 = end_is n (length ls - half) last (one.next + 1) in
    let low_1 = ends_low n half last (next + 1) (pow_pos n) (omega arith) in
    let low_2 = ends_low n (length ls - half) last (one.next + 1) (omega (arith, above)) (omega (arith, le, two-pow-succ n)) in
    let split : (8 * last + 10) * length ls ≡ (8 * last + 10) * half + (8 * last + 10) * (length ls - half) =
    ap (λ (k : ℕ). (8 * last + 10) * k) (let e : length ls ≡ half + (length ls - half) = omega (arith, above) in e) ∙ mul-add (8 * last + 10) half (length ls - half) in
    let rows : length ls * suc last ≡ half * suc last + (length ls - half) * suc last = (let e : length ls ≡ half + (length ls - half) = omega (arith, above) in ap (λ (k : ℕ). k * suc last) e ∙ (omega arith)) in
    let count_us = ap (λ (k : ℕ). (8 * last + 10) * k) size_us in
    let count_vs = ap (λ (k : ℕ). (8 * last + 10) * k) size_vs in
    let places_us = ap (λ (k : ℕ). k * suc last) size_us in
    let places_vs = ap (λ (k : ℕ). k * suc last) size_vs in
    let id : (i : ℕ) → 1 ≤ i → i ≤ other.next → IsId i = λ i from to. id_between i 1 other.next (omega arith) (omega (arith, h.end_before, low_1, low_2, split)) from to in
    let after_1 = end_1.climb_before in
    let after_2 = end_2.climb_before in
    let left = rows_fine n most most_rows us p last order next (next + 1) (omega (arith, size_us)) (record {
      some = omega (arith, size_us, pow_pos n);
      few = omega (arith, size_us, above, h.few);
      vars = vars.0;
      below = below.0;
      from = h.from;
      under = omega (arith, h.under, rows, places_us);
      order_from = h.order_from;
      order_before = omega (arith, h.order_before);
      whole_from = omega (arith, h.order_from, h.order_before);
      whole_before = omega arith;
      end_before = omega (arith, h.end_before, split, count_us, above);
      room = h.room;
      wide = h.wide;
      long = h.long;
    }) in
    let right = rows_fine n most most_rows vs m last one.order one.next (one.next + 1) (omega (arith, size_vs, le, two-pow-succ n)) (record {
      some = omega (arith, size_vs, above);
      few = omega (arith, size_vs, h.few);
      vars = vars.1;
      below = All-weaker (λ (l : Lit). l.var < p) (λ (l : Lit). l.var < m) (λ l under. omega (arith, under)) vs below.1;
      from = omega (arith, h.from);
      under = omega (arith, h.under, rows, places_vs);
      order_from = omega (arith, end_1.order_from);
      order_before = omega (arith, end_1.order_before);
      whole_from = omega (arith, after_1);
      whole_before = omega arith;
      end_before = omega (arith, h.end_before, split, count_vs, low_1);
      room = h.room;
      wide = h.wide;
      long = h.long;
    }) in
    let joined : AreFine most (46 + (24 * 0 + (4 + 20 * 4))) stage =
    fine_stage most 46 (both_line one.climb other.climb ∷ []) [] gone
    (fine_one most 46 (both_line one.climb other.climb) (both_fine one.climb other.climb (id one.climb (omega (arith, end_1.climb_from)) (omega (arith, after_1, end_2.climb_from, after_2))) (id other.climb (omega (arith, end_2.climb_from)) (omega (arith, after_2)))) (omega (arith, h.room)))
    (All-nil (λ (u : Output). IsId u.id)) (omega arith) (omega (arith, h.room))
    (All-cons IsId next (one.climb ∷ one.next ∷ other.climb ∷ []) (id next (omega (arith, h.order_from, h.order_before)) (omega (arith, end_1.climb_from, after_1, end_2.climb_from, after_2)))
    (All-cons IsId one.climb (one.next ∷ other.climb ∷ []) (id one.climb (omega (arith, end_1.climb_from)) (omega (arith, after_1, end_2.climb_from, after_2)))
    (All-cons IsId one.next (other.climb ∷ []) (id one.next (omega (arith, after_1)) (omega (arith, end_2.climb_from, after_2))) (All-cons IsId other.climb [] (id other.climb (omega (arith, end_2.climb_from)) (omega (arith, after_2))) (All-nil IsId))))) in
    let total = both_fine whole one.climb (id whole h.whole_from (omega (arith, h.whole_before, end_1.climb_from, after_1, end_2.climb_from, after_2))) (id one.climb (omega (arith, end_1.climb_from)) (omega (arith, after_1, end_2.climb_from, after_2))) in
    let narrow = narrow_fine whole vs (id whole h.whole_from (omega (arith, h.whole_before, end_1.climb_from, after_1, end_2.climb_from, after_2))) vars.1 in
    let extra : 24 + 14 * length vs + (46 + 130) ≤ 200 + 14 * most_rows = omega (arith, size_vs, h.few) in
    fine_within most most (24 + 14 * length vs + (rows_size most_rows last half + (46 + (rows_size most_rows last (length ls - half) + 130)))) (rows_size most_rows last (length ls)) (narrow_line whole vs ∷ (first ++ join_steps whole one other next second)) (omega arith)
    (omega (arith, sizes_both most_rows last (length ls) half (24 + 14 * length vs + (46 + 130)) (pow_pos n) above extra))
    (fine_step most (24 + 14 * length vs) (rows_size most_rows last half + (46 + (rows_size most_rows last (length ls - half) + 130))) (narrow_line whole vs) (first ++ join_steps whole one other next second) narrow (omega (arith, size_vs, h.few, h.long))
    (fine_append most (rows_size most_rows last half) (46 + (rows_size most_rows last (length ls - half) + 130)) first (join_steps whole one other next second) (subst (λ (k : ℕ). AreFine most (rows_size most_rows last k) first) size_us left)
    (fine_step most 46 (rows_size most_rows last (length ls - half) + 130) (both_line whole one.climb) (second ++ stage) total (omega (arith, h.room))
    (fine_append most (rows_size most_rows last (length ls - half)) 130 second stage (subst (λ (k : ℕ). AreFine most (rows_size most_rows last k) second) size_vs right) joined)))))
