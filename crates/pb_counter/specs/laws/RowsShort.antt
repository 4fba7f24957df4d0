-- The lines of a counter's derivation row by row are within their limits, and short.
use Rattle.std.proofs.Common.{◌≡◌, ◌≤◌, ◌<◌, ◌+◌, ◌-◌, ◌*◌, ◌^◌, ◌++◌, ℕ, suc, true, List, [], ◌∷◌, length, refl, ap, sym, ◌∙◌, subst, arith, length-append}
use Rattle.std.specs.Prelude.{All}
use Rattle.std.specs.List.{range_with_len}
use Rattle.std.proofs.Math.Nat.{mul-le-mul_left}
use Rattle.std.proofs.lemmas.List.{length-map}
use Rattle.std.proofs.lemmas.List.Elements.{All-nil, All-cons, All-head, All-tail, All-append, All-map, All-weaker}
use Rattle.std.proofs.lemmas.List.FromFn.{length-range_with_len}
use Rattle.pb_base.specs.declared.literal.Lit.{Lit}
use Rattle.pb_base.proofs.Members.{All-append_both}
use Rattle.pb_norm.specs.BoundedSums.{BoundedSum, IsProper}
use Rattle.pb_base.specs.declared.literal.Term.{Term}
use Rattle.pb_norm.specs.Constraints.{weighted, weights, Weighted}
use Rattle.pb_norm.specs.Reduction.{lits_of, all_weigh}
use Rattle.pb_steps.specs.declared.step.Step.{Step}
use Rattle.pb_steps.specs.Sayable.{IsId, IsVariable, IsSayable}
use Rattle.pb_steps.specs.StepSizes.{step_size}
use Rattle.pb_derive.specs.Outputs.{Output}
use Rattle.pb_derive.specs.Short.{AreShort}
use Rattle.pb_derive.proofs.Fine.{AreFine, fine_within, fine_append, fine_short}
use Rattle.pb_derive.proofs.FineStages.{IsFine, fine_step, fine_one, fine_stage}
use Rattle.pb_derive.proofs.IdRanges.{each_between}
use Rattle.pb_family.specs.Derivations.{AreOriginal, MayStart}
use Rattle.pb_family.proofs.UnitSums.{more_than_bound}
use Rattle.pb_counter.specs.Counter.{counter_fresh, counter_size}
use Rattle.pb_counter.specs.CounterRows.{stop_line, stop_clause}
use Rattle.pb_counter.specs.CounterHalves.{RowsEnd, both_line, narrow_line, rows_end, rows_steps, first_order_at, first_steps, total_at, last_steps, further_steps, all_steps, counter_row_steps}
use Rattle.pb_counter.specs.laws.FirstFine.{first_fine}
use Rattle.pb_counter.specs.laws.RowCounts.{row_lines_few}
use Rattle.pb_counter.specs.laws.RowFine.{factor, id_between}
use Rattle.pb_counter.specs.laws.RowsDerive.{by_ends, other-steps-further}
use Rattle.pb_counter.specs.laws.RowsEnds.{IsEnd, end_is}
use Rattle.pb_counter.specs.laws.RowsFine.{ends_low, narrow_fine, both_fine, rows_size, rows_fine}

-- ---- the last clause

last_fine : (most : ℕ) (l : Lit) (p last order whole next : ℕ) (others : List ℕ) → 400 ≤ most → 124 + 120 * suc last ≤ most → last < 2 ^ 31 → 1 ≤ order → order + (2 * last + 1) ≤ next → next < 2 ^ 63 → IsId whole → All IsId others → length others ≤ 4
    → AreFine most (40 * last + 215) (last_steps l p last order whole next others)
last_fine most l p last order whole next others room wide small from to high whole_id known few =
    let id : (i : ℕ) → 1 ≤ i → i ≤ next → IsId i = λ i low up. id_between i 1 next (omega arith) high low up in
    let output : Output = record { id = next; clause = stop_clause l p last } in
    let ids = range_with_len order (2 * last + 1) ++ others in
    let size : length ids ≡ 2 * last + 1 + length others = omega (arith, length-append (range_with_len order (2 * last + 1)) others, length-range_with_len order (2 * last + 1)) in
    let stop : IsFine 87 (stop_line last (order + last) whole) =
    (let long : step_size (stop_line last (order + last) whole) ≡ 87 = refl in ((whole_id, (id (order + last + last) (omega (arith, from)) (omega (arith, to)), (tt, (factor (suc last) (omega arith) (omega (arith, small)), tt)))), omega (arith, long))) in
    fine_within most most (87 + (24 * 1 + (4 + 20 * length ids))) (40 * last + 215) (last_steps l p last order whole next others) (omega arith) (omega (arith, size, few))
    (fine_stage most 87 (stop_line last (order + last) whole ∷ []) (output ∷ []) ids (fine_one most 87 (stop_line last (order + last) whole) stop (omega (arith, room)))
    (All-cons (λ (u : Output). IsId u.id) output [] (id next (omega (arith, from, to)) (omega arith)) (All-nil (λ (u : Output). IsId u.id)))
    (omega (arith, size)) (omega (arith, size, few, wide))
    (All-append IsId (range_with_len order (2 * last + 1)) others (each_between IsId order (2 * last + 1) (λ i low up. id i (omega (arith, low, from)) (omega (arith, up, to)))) known))

-- ---- the whole

-- the numbers of a derivation are within their limits
pub record AllFit (most : ℕ) (l k : Lit) (ls : List Lit) (last p id next : ℕ) : Type 0 where
  pub vars : All (λ l. IsVariable l.var × (l.var < p)) (l ∷ (ls ++ k ∷ []))
  pub from : 1 ≤ p
  pub under : p + (length ls + 1) * suc last ≤ 2 ^ 31
  pub id_from : 1 ≤ id
  pub id_before : id < next
  pub few : next ≤ 2 ^ 61
  pub room : 400 ≤ most
  pub wide : 124 + 120 * suc last ≤ most
  pub long : 24 + 14 * (length ls + 2) ≤ most

module _ (most : ℕ) (l k : Lit) (ls : List Lit) (last p id next : ℕ) (h : AllFit most l k ls last p id next) where
  abbrev Own : Lit → Type 0
  Own l = IsVariable l.var × (l.var < p)

  abbrev order : ℕ
  order = first_order_at last next

  abbrev total : ℕ
  total = total_at last next

  abbrev start : ℕ
  start = total + 1

  parts : All Own ls × All Own (k ∷ [])
  parts = All-append_both Own ls (k ∷ []) (All-tail Own l (ls ++ k ∷ []) h.vars)

  own : Own l
  own = All-head Own l (ls ++ k ∷ []) h.vars

  last_own : Own k
  last_own = All-head Own k [] parts.1

  one_row : suc last ≤ (length ls + 1) * suc last
  one_row = omega arith

  narrow : last < 2 ^ 31
  narrow = omega (arith, h.under, one_row)

  first_is : AreFine most (641 * suc last) (first_steps l p last id next)
  first_is = first_fine most l p last id next (record {
    own = own.0;
    from = h.from;
    under = omega (arith, h.under, one_row);
    id_from = h.id_from;
    id_before = h.id_before;
    end_before = omega (arith, h.few, narrow);
    room = h.room;
    wide = h.wide;
  })

  only_fine : AreFine most (900 * suc last) (first_steps l p last id next ++ last_steps k p last order total start (total ∷ []))
  only_fine =
      let whole : IsId total = (omega arith, omega (arith, h.few, narrow)) in
      fine_within most most (641 * suc last + (40 * last + 215)) (900 * suc last) (first_steps l p last id next ++ last_steps k p last order total start (total ∷ [])) (omega arith) (omega arith)
      (fine_append most (641 * suc last) (40 * last + 215) (first_steps l p last id next) (last_steps k p last order total start (total ∷ [])) first_is
      (last_fine most k p last order total start (total ∷ []) h.room h.wide narrow (omega arith) (omega arith) (omega (arith, h.few, narrow)) whole (All-cons IsId total [] whole (All-nil IsId)) (omega arith)))

  module _ (some : 1 ≤ length ls) where
    abbrev rows_most : ℕ
    rows_most = length ls + 2

    abbrev q : ℕ
    q = p + length ls * suc last

    abbrev end : RowsEnd
    end = rows_end 31 (length ls) last (start + 1)

    end_holds : IsEnd end last (start + 1)
    end_holds = end_is 31 (length ls) last (start + 1)

    few_rows : length ls ≤ 2 ^ 31
    few_rows = let each : length ls * 1 ≤ length ls * suc last = mul-le-mul_left (length ls) (omega arith) in omega (arith, h.under, each)

    end_low : end.next + 3 ≤ start + 1 + (8 * last + 10) * length ls
    end_low = ends_low 31 (length ls) last (start + 1) some few_rows

    few_ids : (8 * last + 10) * length ls ≤ 10 * 2 ^ 31
    few_ids = omega (arith, h.under)

    abbrev rows : List Step
    rows = rows_steps 31 ls p last order start (start + 1)

    rows_are : AreFine most (rows_size rows_most last (length ls)) rows
    rows_are = rows_fine 31 most rows_most ls p last order start (start + 1) few_rows (record {
      some = some;
      few = omega arith;
      vars = All-weaker Own (λ (l : Lit). IsVariable l.var) (λ l k. k.0) ls parts.0;
      below = All-weaker Own (λ (l : Lit). l.var < p) (λ l k. k.1) ls parts.0;
      from = h.from;
      under = omega (arith, h.under);
      order_from = omega arith;
      order_before = omega arith;
      whole_from = omega arith;
      whole_before = omega arith;
      end_before = omega (arith, h.few, narrow, few_ids);
      room = h.room;
      wide = h.wide;
      long = h.long;
    })

    known : (i : ℕ) → 1 ≤ i → i ≤ end.next + 1 → IsId i
    known i low up = id_between i 1 (end.next + 1) (omega arith) (omega (arith, end_low, few_ids, h.few, narrow)) low up

    abbrev ids : List ℕ
    ids = total ∷ start ∷ end.climb ∷ end.next ∷ []

    abbrev ending : List Step
    ending = last_steps k q last end.order end.next (end.next + 1) ids

    ids_known : All IsId ids
    ids_known =
        let after = end_holds.climb_before in
        All-cons IsId total (start ∷ end.climb ∷ end.next ∷ []) (known total (omega arith) (omega (arith, end_holds.climb_from, after)))
        (All-cons IsId start (end.climb ∷ end.next ∷ []) (known start (omega arith) (omega (arith, end_holds.climb_from, after)))
        (All-cons IsId end.climb (end.next ∷ []) (known end.climb (omega (arith, end_holds.climb_from)) (omega (arith, after))) (All-cons IsId end.next [] (known end.next (omega (arith, after)) (omega arith)) (All-nil IsId))))

    ending_fine : AreFine most (40 * last + 215) ending
    ending_fine =
        last_fine most k q last end.order end.next (end.next + 1) ids h.room h.wide narrow (omega (arith, end_holds.order_from)) (omega (arith, end_holds.order_before)) (omega (arith, end_low, few_ids, h.few, narrow))
        (known end.next (omega (arith, end_holds.climb_before)) (omega arith)) ids_known (omega arith)

    further_fine : AreFine most (rows_size rows_most last (length ls) + 1000 * suc last) (first_steps l p last id next ++ further_steps ls k p last order total start)
    further_fine =
        let after = end_holds.climb_before in
        let total_id = known total (omega arith) (omega (arith, end_holds.climb_from, after)) in
        let narrowed : IsFine (24 + 14 * 1) (narrow_line total (k ∷ [])) = narrow_fine total (k ∷ []) total_id (All-cons (λ (l : Lit). IsVariable l.var) k [] last_own.0 (All-nil (λ (l : Lit). IsVariable l.var))) in
        let joined = both_fine total end.climb total_id (known end.climb (omega (arith, end_holds.climb_from)) (omega (arith, after))) in
        let size : ℕ = rows_size rows_most last (length ls) in
        fine_within most most (641 * suc last + (38 + (size + (46 + (40 * last + 215))))) (size + 1000 * suc last) (first_steps l p last id next ++ further_steps ls k p last order total start) (omega arith) (omega arith)
        (fine_append most (641 * suc last) (38 + (size + (46 + (40 * last + 215)))) (first_steps l p last id next) (further_steps ls k p last order total start) first_is
        (fine_step most 38 (size + (46 + (40 * last + 215))) (narrow_line total (k ∷ [])) (rows ++ both_line total end.climb ∷ ending) narrowed (omega (arith, h.room))
        (fine_append most size (46 + (40 * last + 215)) rows (both_line total end.climb ∷ ending) rows_are
        (fine_step most 46 (40 * last + 215) (both_line total end.climb) ending joined (omega (arith, h.room)) ending_fine))))

-- so many bytes, of two more literals
abbrev whole_size : ℕ → ℕ → ℕ
whole_size m last = 1439 * suc last * m + (200 + 14 * (m + 2)) * (m + 2) + 1000 * suc last

all_fine : (most : ℕ) (l k : Lit) (ls : List Lit) (last p id next : ℕ) → AllFit most l k ls last p id next → AreFine most (whole_size (length ls) last) (all_steps l (ls ++ k ∷ []) last p id next)
all_fine most l k [] last p id next h =
    fine_within most most (900 * suc last) (whole_size 0 last) (all_steps l (k ∷ []) last p id next) (omega arith) (omega arith) (only_fine most l k [] last p id next h)
all_fine most l k (j ∷ ls) last p id next h =
    let m : ℕ = length (j ∷ ls) in
    let some : 1 ≤ m = omega arith in
    let size : rows_size (m + 2) last m + 1000 * suc last ≤ whole_size m last =
    (let less : (200 + 14 * (m + 2)) * (m - 1) ≤ (200 + 14 * (m + 2)) * (m + 2) = mul-le-mul_left (200 + 14 * (m + 2)) (omega arith) in
    omega (arith, less)) in
    subst (λ (ss : List Step). AreFine most (whole_size m last) (first_steps l p last id next ++ ss)) (sym (other-steps-further (j ∷ ls) k p last (first_order_at last next) (total_at last next) (total_at last next + 1) some))
    (fine_within most most (rows_size (m + 2) last m + 1000 * suc last) (whole_size m last) _ (omega arith) size (further_fine most l k (j ∷ ls) last p id next h some))

-- within what the clauses of n literals may take
size-short : (m last clauses : ℕ) → whole_size m last ≤ 512 * ((m + 1) * suc last + 1) * (m + 2) + 2 ^ 20 * ((m + 1) * suc last + clauses + 3)
size-short m last clauses = omega arith

module _ (m : BoundedSum) (units : all_weigh 1 m.terms ≡ true) (proper : IsProper m) (small : length m.terms < 2 ^ 31) (first id next : ℕ) (original : AreOriginal first m.terms)
    (start : MayStart first (counter_fresh (length m.terms) m.bound) id next) where
  abbrev n : ℕ
  n = length m.terms

  abbrev ms : List Lit
  ms = lits_of m.terms

  size : length ms ≡ n
  size = length-map m.terms (λ (t : Weighted). t.lit)

  fits : m.bound < n
  fits = more_than_bound m units proper

  rows_are_fine : (most : ℕ) → 400 ≤ most → 124 + 120 * m.bound ≤ most → 24 + 14 * n ≤ most → AreFine most (whole_size (n - 2) (m.bound - 1)) (counter_row_steps ms m.bound first id next)
  rows_are_fine most room wide long =
      let last : ℕ = m.bound - 1 in
      let width : suc last ≡ m.bound = omega (arith, proper.bound_from) in
      let ends = by_ends ms (omega (arith, size, fits, proper.bound_from)) in
      let l : Lit = ends.0 in
      let ls : List Lit = ends.1 in
      let k : Lit = ends.2 in
      let is : ms ≡ l ∷ (ls ++ k ∷ []) = ends.3 in
      let count : n ≡ length ls + 2 = omega (arith, size, ap (λ (ks : List Lit). length ks) is, length-append ls (k ∷ [])) in
      let fresh : (length ls + 1) * suc last ≡ counter_fresh n m.bound = ap (λ (w : ℕ). (length ls + 1) * w) width ∙ ap (λ (i : ℕ). i * m.bound) (let e : length ls + 1 ≡ n - 1 = omega (arith, count) in e) in
      let Own : Lit → Type 0 = λ l. IsVariable l.var × (l.var < first) in
      let own : All Own ms = All-map Own (λ (t : Weighted). t.lit) m.terms
      (All-weaker (λ (t : Weighted). (1 ≤ t.lit.var) × (t.lit.var < first)) (λ (t : Weighted). Own t.lit) (λ t h. let low = h.1 in ((h.0, omega (arith, low, start.fits)), low)) m.terms original) in
      let fine = all_fine most l k ls last first id next (record {
        vars = subst (All Own) is own;
        from = start.low;
        under = omega (arith, start.fits, fresh);
        id_from = start.given;
        id_before = start.known;
        few = start.few;
        room = room;
        wide = omega (arith, wide, width);
        long = omega (arith, long, count);
      }) in
      subst (λ (i : ℕ). AreFine most (whole_size i last) (counter_row_steps ms m.bound first id next)) (let e : length ls ≡ n - 2 = omega (arith, count) in e)
      (subst (λ (ks : List Lit). AreFine most (whole_size (length ls) last) (counter_row_steps ks m.bound first id next)) (sym is) fine)

  pub rows_sayable : All IsSayable (counter_row_steps ms m.bound first id next)
  rows_sayable = (rows_are_fine (400 + 124 + 120 * m.bound + 14 * n) (omega arith) (omega arith) (omega arith)).sayable

  pub rows_short : n ≤ 2 ^ 21 → AreShort n (counter_fresh n m.bound) (counter_size n m.bound) (counter_row_steps ms m.bound first id next)
  rows_short narrow =
      let few : whole_size (n - 2) (m.bound - 1) ≤ 512 * (counter_fresh n m.bound + 1) * n + 2 ^ 20 * (counter_fresh n m.bound + counter_size n m.bound + 3) =
      by_numbers (n - 2) n (m.bound - 1) m.bound (counter_size n m.bound) (omega (arith, fits, proper.bound_from)) (omega (arith, proper.bound_from)) in
      fine_short (2 ^ 28) (whole_size (n - 2) (m.bound - 1)) n (counter_fresh n m.bound) (counter_size n m.bound) (counter_row_steps ms m.bound first id next) (omega arith) few
      (rows_are_fine (2 ^ 28) (omega arith) (omega (arith, narrow, fits)) (omega (arith, narrow)))
    where
      by_numbers : (i k last w clauses : ℕ) → k ≡ i + 2 → w ≡ suc last → whole_size i last ≤ 512 * (counter_fresh k w + 1) * k + 2 ^ 20 * (counter_fresh k w + clauses + 3)
      by_numbers i k last w clauses e f =
          let fresh : counter_fresh k w ≡ (i + 1) * suc last = ap (λ (j : ℕ). j * w) (let g : k - 1 ≡ i + 1 = omega (arith, e) in g) ∙ ap (λ (v : ℕ). (i + 1) * v) f in
          subst (λ (j : ℕ). whole_size i last ≤ 512 * (j + 1) * k + 2 ^ 20 * (j + clauses + 3)) (sym fresh)
          (subst (λ (j : ℕ). whole_size i last ≤ 512 * ((i + 1) * suc last + 1) * j + 2 ^ 20 * ((i + 1) * suc last + clauses + 3)) (sym e) (size-short i last clauses))

  pub rows_few : length (counter_row_steps ms m.bound first id next) ≤ 8 * (counter_fresh n m.bound + counter_size n m.bound)
  rows_few =
      subst (λ (k : ℕ). length (counter_row_steps ms m.bound first id next) ≤ 8 * (counter_fresh k m.bound + counter_size k m.bound)) size
      (row_lines_few ms m.bound first id next proper.bound_from (omega (arith, size, fits, proper.bound_from)) (omega (arith, size, small)))

-- the lines are few
pub rows_lines : (m : BoundedSum) → all_weigh 1 m.terms ≡ true → IsProper m → length m.terms < 2 ^ 31 → (first id next : ℕ)
    → length (counter_row_steps (lits_of m.terms) m.bound first id next) ≤ 8 * (counter_fresh (length m.terms) m.bound + counter_size (length m.terms) m.bound)
rows_lines m units proper small first id next =
    let size : length (lits_of m.terms) ≡ length m.terms = length-map m.terms (λ (t : Weighted). t.lit) in
    subst (λ (n : ℕ). length (counter_row_steps (lits_of m.terms) m.bound first id next) ≤ 8 * (counter_fresh n m.bound + counter_size n m.bound)) size
    (row_lines_few (lits_of m.terms) m.bound first id next proper.bound_from (omega (arith, size, more_than_bound m units proper, proper.bound_from)) (omega (arith, size, small)))

pub few_terms : (ts : List Term) → length ts < 2 ^ 31 → length (weights ts) < 2 ^ 31
few_terms ts few = omega (arith, length-map ts weighted, few)
