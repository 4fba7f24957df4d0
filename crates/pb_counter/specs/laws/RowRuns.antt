-- The lines of a row run, and what they leave is known.
use Rattle.std.proofs.Common.{◌≡◌, ◌≤◌, ◌<◌, ◌+◌, ◌*◌, ◌^◌, ◌++◌, ℕ, zero, suc, List, [], ◌∷◌, length, refl, sym, subst, arith}
use Rattle.std.specs.Prelude.{All, map}
use Rattle.std.specs.List.{range_with_len}
use Rattle.std.proofs.lemmas.List.Elements.{All-nil, All-cons}
use Rattle.std.proofs.lemmas.List.FromFn.{length-map-range_with_len, get_or-map-range_with_len}
use Rattle.std.proofs.lemmas.List.Kept.{AllPairs-cons}
use Rattle.pb_base.specs.declared.literal.Lit.{Lit}
use Rattle.pb_base.proofs.Pairs.{AllPairs-nil}
use Rattle.pb_norm.specs.Constraints.{Weighted, weight}
use Rattle.pb_steps.specs.declared.op.PolOp.TheVariants.{Push}
use Rattle.pb_steps.specs.declared.step.Step.{Step}
use Rattle.pb_steps.specs.declared.step.Step.TheVariants.{Pol}
use Rattle.pb_steps.specs.Database.{Database}
use Rattle.pb_derive.specs.Later.{IsNumbered, IsLater, IsUnnamed, Knows}
use Rattle.pb_derive.specs.Reifications.{Reification, forward_of, reverse_of, reification_steps}
use Rattle.pb_derive.specs.inner.Meant.{AreReifications, IsMeant}
use Rattle.pb_derive.proofs.InRow.{IsFitReification, AreInRow, row_by_places, row_reifications}
use Rattle.pb_derive.proofs.Laters.{later_then, later_knows}
use Rattle.pb_derive.proofs.Lines.{AreKnown, still_known, Added, added_as, added_then, MeantFrom, meant_from, LineRan, line_ran, LinesRan, lines_ran, ChainRan, chain_ran}
use Rattle.pb_derive.proofs.Meant.{reifications_ran, meant_at}
use Rattle.pb_derive.proofs.UnaryRows.{Other, weighing, reached, order_of, front_of}
use Rattle.pb_counter.specs.CounterRows.{next_count, next_counts, more_line, keep_line, first_front, front_line, front_lines, fall_line, order_line, part_line, part_lines, stop_line, falls_at, parts_at, climb_at, mores_at, keeps_at, stop_at, order_at, fronts_at, row_end, row_lines}
use Rattle.pb_counter.specs.laws.RowLines.{fall_of, next_of, keep_of, more_of}
use Rattle.pb_counter.specs.laws.RowParts.{part_of}
use Rattle.pb_counter.specs.laws.RowTotals.{total_of, stop_of}
use Rattle.pb_counter.specs.laws.RowAdds.{Below, first_front_adds, front_adds, fall_adds, order_adds, keep_adds, more_adds, stop_adds, part_first_adds, part_adds}

-- what is known of a row: its order from an id on, and then its fronts
pub record IsRow (db : Database) (p last order : ℕ) : Type 0 where
  pub order_known : AreKnown db order (order_of p) last
  pub fronts_known : AreKnown db (order + last) (front_of p) (suc last)

-- what a row starts from: the one before it, the total of its literal, and variables that are new
pub record MayFollow (db : Database) (l : Lit) (p last order whole next : ℕ) : Type 0 where
  pub low : l.var < p
  pub narrow : suc last < 2 ^ 31
  pub original : db.original < p + suc last
  pub vars : p + suc last + suc last ≤ db.vars + 1
  pub numbered : IsNumbered db
  pub at : db.next ≡ next
  pub row : IsRow db p last order
  pub row_before : order + (2 * last + 1) ≤ next
  pub total : Knows db whole (total_of (weighing 1 l ∷ []) p (suc last))
  pub total_before : whole < next
  pub unnamed : (v : ℕ) → p + suc last ≤ v → v < p + suc last + suc last → IsUnnamed v db

-- and what it leaves
pub record RowLeft (db : Database) (l : Lit) (p last next : ℕ) : Type 0 where
  pub at : db.next ≡ row_end last next
  pub climb : Knows db (climb_at last next) (part_of l p (p + suc last) last)
  pub mores_known : AreKnown db (mores_at last next) (more_of l p (p + suc last)) (suc last)
  pub keeps_known : AreKnown db (keeps_at last next) (keep_of p (p + suc last)) (suc last)
  pub stop_known : Knows db (stop_at last next) (stop_of l p last)
  pub row : IsRow db (p + suc last) last (order_at last next)

pub record RowRan (db : Database) (l : Lit) (p last order whole next : ℕ) : Type 0 where
  pub added : Added (Below (p + suc last + suc last)) db (row_lines l p last order whole next) (8 * last + 7)
  pub left : RowLeft added.ran.end l p last next

-- ---- the reifications

count-fit : (l : Lit) (p q j : ℕ) → l.var < p → p + j < q → IsFitReification q (next_count l p q j)
count-fit l p q zero low apart =
    let x : Weighted = weighing 1 l in
    let s : Weighted = reached 1 (p + 0) in
    record {
      below = All-cons (λ (t : Weighted). t.lit.var < q) x (s ∷ []) (omega (arith, low, apart)) (All-cons (λ (t : Weighted). t.lit.var < q) s [] apart (All-nil (λ (t : Weighted). t.lit.var < q)));
      apart = AllPairs-cons Other x (s ∷ []) (All-cons (Other x) s [] (λ e. omega (arith, e, low)) (All-nil (Other x))) (AllPairs-cons Other s [] (All-nil (Other s)) (AllPairs-nil Other));
      positive = All-cons (λ (t : Weighted). 0 < t.coef) x (s ∷ []) (omega arith) (All-cons (λ (t : Weighted). 0 < t.coef) s [] (omega arith) (All-nil (λ (t : Weighted). 0 < t.coef)));
      some = omega arith;
      light = omega arith;
    }
count-fit l p q (suc j) low apart =
    let x : Weighted = weighing 1 l in
    let s : Weighted = reached 1 (p + j) in
    let t : Weighted = reached 2 (p + suc j) in
    let Low : Weighted → Type 0 = λ u. u.lit.var < q in
    let Some : Weighted → Type 0 = λ u. 0 < u.coef in
    record {
      below = All-cons Low x (s ∷ t ∷ []) (omega (arith, low, apart)) (All-cons Low s (t ∷ []) (omega (arith, apart)) (All-cons Low t [] apart (All-nil Low)));
      apart = AllPairs-cons Other x (s ∷ t ∷ []) (All-cons (Other x) s (t ∷ []) (λ e. omega (arith, e, low)) (All-cons (Other x) t [] (λ e. omega (arith, e, low)) (All-nil (Other x))))
          (AllPairs-cons Other s (t ∷ []) (All-cons (Other s) t [] (λ e. omega (arith, e)) (All-nil (Other s))) (AllPairs-cons Other t [] (All-nil (Other t)) (AllPairs-nil Other)));
      positive = All-cons Some x (s ∷ t ∷ []) (omega arith) (All-cons Some s (t ∷ []) (omega arith) (All-cons Some t [] (omega arith) (All-nil Some)));
      some = omega arith;
      light = omega arith;
    }

count-var : (l : Lit) (p q j : ℕ) → (next_count l p q j).var ≡ q + j
count-var l p q zero = refl
count-var l p q (suc j) = refl

count-reaches : (l : Lit) (p q j : ℕ) → (next_count l p q j).least ≤ weight (next_count l p q j).sum
count-reaches l p q zero = omega arith
count-reaches l p q (suc j) = omega arith

count-named : (l : Lit) (p q j top : ℕ) → l.var < p → p + j < q → q ≤ top → All (λ t. Below top t.lit.var) (next_count l p q j).sum
count-named l p q j top low apart le = λ k d within. let under = (count-fit l p q j low apart).below k d within in omega (arith, under, le)

-- what holds of each place, holds of all
pub counts-all : (Q : Reification → Type 0) (l : Lit) (p q last : ℕ) → ((j : ℕ) → j < suc last → Q (next_count l p q j)) → All Q (next_counts l p q last)
counts-all Q l p q last h = λ k d within.
    let below : k < suc last = omega (arith, within, length-map-range_with_len (next_count l p q) 0 (suc last)) in
    subst Q (sym (get_or-map-range_with_len (next_count l p q) 0 (suc last) k k d below (omega arith))) (h k below)

module _ (db : Database) (l : Lit) (p last order whole next : ℕ) (h : MayFollow db l p last order whole next) where
  abbrev q : ℕ
  q = p + suc last

  abbrev top : ℕ
  top = q + suc last

  abbrev P : ℕ → Type 0
  P = Below top

  abbrev counts : List Reification
  counts = next_counts l p q last

  size : length counts ≡ suc last
  size = length-map-range_with_len (next_count l p q) 0 (suc last)

  may_add : AreReifications P db counts
  may_add =
      row_reifications P db q counts
      (subst (λ (v : ℕ). AreInRow v counts) (let e : q + 0 ≡ q = omega arith in e) (row_by_places (next_count l p q) q 0 (suc last) (count-var l p q)))
      (counts-all (IsFitReification q) l p q last (λ j within. count-fit l p q j h.low (omega (arith, within))))
      h.original (omega (arith, size, h.vars)) (λ v low high. let under : v < top = omega (arith, high, size) in (under, h.unnamed v low under))
      (counts-all (λ (m : Reification). All (λ t. P t.lit.var) m.sum) l p q last (λ j within. count-named l p q j top h.low (omega (arith, within)) (omega arith)))

  start : MeantFrom P db next counts
  start = meant_from P db next counts h.at (reifications_ran P db counts h.numbered may_add)

  abbrev d1 : Database
  d1 = start.added.ran.end

  to_1 : IsLater P db d1
  to_1 = start.added.ran.later

  at_1 : d1.next ≡ falls_at last next
  at_1 = omega (arith, start.added.ran.next, h.at, size)

  meant : (j : ℕ) → j < suc last → IsMeant d1 (next + 2 * j) (next_count l p q j)
  meant j within =
      subst (IsMeant d1 (next + 2 * j)) (get_or-map-range_with_len (next_count l p q) 0 (suc last) j j (next_count l p q j) within (omega arith))
      (meant_at d1 next counts j (next_count l p q j) (omega (arith, within, size)) start.meant)

  forward : (j : ℕ) → j < suc last → Knows d1 (next + 2 * j) (forward_of (next_count l p q j))
  forward j within = (meant j within).first

  reverse : (j : ℕ) → j < suc last → Knows d1 (next + 2 * j + 1) (reverse_of (next_count l p q j))
  reverse j within = (meant j within).second (count-reaches l p q j)

  order_1 : AreKnown d1 order (order_of p) last
  order_1 = still_known P db d1 order (order_of p) last to_1 (omega (arith, h.row_before, h.at)) h.row.order_known

  fronts_1 : AreKnown d1 (order + last) (front_of p) (suc last)
  fronts_1 = still_known P db d1 (order + last) (front_of p) (suc last) to_1 (omega (arith, h.row_before, h.at)) h.row.fronts_known

  total_1 : Knows d1 whole (total_of (weighing 1 l ∷ []) p (suc last))
  total_1 = later_knows P db d1 whole (total_of (weighing 1 l ∷ []) p (suc last)) to_1 (omega (arith, h.total_before, h.at)) h.total

  vars_at : (mid : Database) → IsLater P d1 mid → top ≤ mid.vars + 1
  vars_at mid later = omega (arith, h.vars, to_1.vars, later.vars)

  -- ---- falls

  falls : LinesRan P d1 (map (fall_line l.var order next) (range_with_len 0 last)) (falls_at last next) (fall_of p q) last
  falls = lines_ran P d1 (falls_at last next) (fall_line l.var order next) (fall_of p q) last to_1.numbered at_1 (λ j within mid later known.
      fall_adds top l p q h.low mid (vars_at mid later) order next j (omega (arith, within)) (omega (arith, within))
      (later_knows P d1 mid (next + 2 * suc j) (next_of l p q j) later (omega (arith, within, at_1)) (forward (suc j) (omega (arith, within))))
      (later_knows P d1 mid (order + j) (order_of p j) later (omega (arith, within, h.row_before, at_1)) (order_1 j within)))

  abbrev d2 : Database
  d2 = falls.added.ran.end

  to_2 : IsLater P d1 d2
  to_2 = falls.added.ran.later

  at_2 : d2.next ≡ parts_at last next
  at_2 = omega (arith, falls.added.ran.next, at_1)

  -- ---- parts

  parts : ChainRan P d2 (part_lines p last (order + last) next (falls_at last next) (parts_at last next)) (parts_at last next) (part_of l p q) last
  parts = chain_ran P d2 (parts_at last next) (Pol (Push next ∷ [])) (part_line p (order + last) next (falls_at last next) (parts_at last next)) (part_of l p q) last to_2.numbered at_2
      (part_first_adds top l p q h.low d2 (vars_at d2 to_2) next (omega arith) (omega arith) (later_knows P d1 d2 next (forward_of (next_count l p q 0)) to_2 (omega (arith, at_1)) (subst (λ (k : ℕ). Knows d1 k (forward_of (next_count l p q 0))) (let e : next + 2 * 0 ≡ next = omega arith in e) (forward 0 (omega arith)))))
      (λ j within mid later before.
      part_adds top l p q h.low mid (vars_at mid (later_then P d1 d2 mid to_2 later)) (order + last) next (falls_at last next) (parts_at last next) j (omega (arith, within)) (omega (arith, within)) (omega (arith, within, h.narrow)) before
      (later_knows P d1 mid (order + last + j) (front_of p j) (later_then P d1 d2 mid to_2 later) (omega (arith, within, h.row_before, at_1)) (fronts_1 j (omega (arith, within))))
      (later_knows P d2 mid (falls_at last next + j) (fall_of p q j) later (omega (arith, within, at_2)) (falls.known j within))
      (later_knows P d1 mid (next + 2 * suc j) (next_of l p q j) (later_then P d1 d2 mid to_2 later) (omega (arith, within, at_1)) (forward (suc j) (omega (arith, within)))))

  abbrev d3 : Database
  d3 = parts.added.ran.end

  to_3 : IsLater P d1 d3
  to_3 = later_then P d1 d2 d3 to_2 parts.added.ran.later

  at_3 : d3.next ≡ mores_at last next
  at_3 = omega (arith, parts.added.ran.next, at_2)

  -- ---- clauses

  mores : LinesRan P d3 (map (more_line p next) (range_with_len 0 (suc last))) (mores_at last next) (more_of l p q) (suc last)
  mores = lines_ran P d3 (mores_at last next) (more_line p next) (more_of l p q) (suc last) to_3.numbered at_3 (λ j within mid later known.
      let all = later_then P d1 d3 mid to_3 later in
      more_adds top l p q h.low mid (vars_at mid all) next j (omega (arith, within)) (omega (arith, within))
      (later_knows P d1 mid (next + 2 * j + 1) (reverse_of (next_count l p q j)) all (omega (arith, within, at_1)) (reverse j within)))

  abbrev d4 : Database
  d4 = mores.added.ran.end

  to_4 : IsLater P d1 d4
  to_4 = later_then P d1 d3 d4 to_3 mores.added.ran.later

  at_4 : d4.next ≡ keeps_at last next
  at_4 = omega (arith, mores.added.ran.next, at_3)

  keeps : LinesRan P d4 (map (keep_line l.var p next) (range_with_len 0 (suc last))) (keeps_at last next) (keep_of p q) (suc last)
  keeps = lines_ran P d4 (keeps_at last next) (keep_line l.var p next) (keep_of p q) (suc last) to_4.numbered at_4 (λ j within mid later known.
      let all = later_then P d1 d4 mid to_4 later in
      keep_adds top l p q h.low mid (vars_at mid all) next j (omega (arith, within)) (omega (arith, within))
      (later_knows P d1 mid (next + 2 * j + 1) (reverse_of (next_count l p q j)) all (omega (arith, within, at_1)) (reverse j within)))

  abbrev d5 : Database
  d5 = keeps.added.ran.end

  to_5 : IsLater P d1 d5
  to_5 = later_then P d1 d4 d5 to_4 keeps.added.ran.later

  at_5 : d5.next ≡ stop_at last next
  at_5 = omega (arith, keeps.added.ran.next, at_4)

  stop : LineRan P d5 (stop_line last (order + last) whole) (stop_at last next) (stop_of l p last)
  stop = line_ran P d5 (stop_line last (order + last) whole) (stop_at last next) (stop_of l p last) to_5.numbered at_5
      (stop_adds top l p q h.low d5 (vars_at d5 to_5) last whole (order + last) (omega arith) (omega (arith, h.narrow))
      (later_knows P d1 d5 whole (total_of (weighing 1 l ∷ []) p (suc last)) to_5 (omega (arith, h.total_before, at_1)) total_1)
      (later_knows P d1 d5 (order + last + last) (front_of p last) to_5 (omega (arith, h.row_before, at_1)) (fronts_1 last (omega arith))))

  abbrev d6 : Database
  d6 = stop.added.ran.end

  to_6 : IsLater P d1 d6
  to_6 = later_then P d1 d5 d6 to_5 stop.added.ran.later

  at_6 : d6.next ≡ order_at last next
  at_6 = omega (arith, stop.added.ran.next, at_5)

  -- ---- order and fronts

  orders : LinesRan P d6 (map (order_line (falls_at last next) (keeps_at last next)) (range_with_len 0 last)) (order_at last next) (order_of q) last
  orders = lines_ran P d6 (order_at last next) (order_line (falls_at last next) (keeps_at last next)) (order_of q) last to_6.numbered at_6 (λ j within mid later known.
      let since_5 = later_then P d5 d6 mid stop.added.ran.later later in
      let since_2 = later_then P d2 d3 mid parts.added.ran.later (later_then P d3 d4 mid mores.added.ran.later (later_then P d4 d5 mid keeps.added.ran.later since_5)) in
      order_adds top l p q h.low mid (vars_at mid (later_then P d1 d6 mid to_6 later)) (falls_at last next) (keeps_at last next) j (omega (arith, within))
      (later_knows P d2 mid (falls_at last next + j) (fall_of p q j) since_2 (omega (arith, within, at_2)) (falls.known j within))
      (later_knows P d5 mid (keeps_at last next + j) (keep_of p q j) since_5 (omega (arith, within, at_5)) (keeps.known j (omega (arith, within)))))

  abbrev d7 : Database
  d7 = orders.added.ran.end

  to_7 : IsLater P d1 d7
  to_7 = later_then P d1 d6 d7 to_6 orders.added.ran.later

  at_7 : d7.next ≡ fronts_at last next
  at_7 = omega (arith, orders.added.ran.next, at_6)

  fronts : ChainRan P d7 (front_lines q last (order_at last next) (fronts_at last next)) (fronts_at last next) (front_of q) last
  fronts = chain_ran P d7 (fronts_at last next) (first_front q) (front_line (order_at last next) (fronts_at last next)) (front_of q) last to_7.numbered at_7
      (first_front_adds top q d7 (omega (arith, vars_at d7 to_7)))
      (λ j within mid later before.
      front_adds top q mid (order_at last next) (fronts_at last next) j (omega (arith, within)) (omega (arith, within, h.narrow)) before
      (later_knows P d7 mid (order_at last next + j) (order_of q j) later (omega (arith, within, at_7)) (orders.known j within)))

  abbrev d8 : Database
  d8 = fronts.added.ran.end

  -- ---- all together

  abbrev lines_7 : List Step
  lines_7 = map (order_line (falls_at last next) (keeps_at last next)) (range_with_len 0 last) ++ front_lines q last (order_at last next) (fronts_at last next)

  abbrev lines_5 : List Step
  lines_5 = map (keep_line l.var p next) (range_with_len 0 (suc last)) ++ stop_line last (order + last) whole ∷ lines_7

  abbrev lines_3 : List Step
  lines_3 = part_lines p last (order + last) next (falls_at last next) (parts_at last next) ++ (map (more_line p next) (range_with_len 0 (suc last)) ++ lines_5)

  abbrev added_6 : Added P d6 lines_7 (last + (1 + last))
  added_6 = added_then P d6 (map (order_line (falls_at last next) (keeps_at last next)) (range_with_len 0 last)) (front_lines q last (order_at last next) (fronts_at last next)) last (1 + last) orders.added fronts.added

  abbrev added_4 : Added P d4 lines_5 (suc last + (1 + (last + (1 + last))))
  added_4 = added_then P d4 (map (keep_line l.var p next) (range_with_len 0 (suc last))) (stop_line last (order + last) whole ∷ lines_7) (suc last) (1 + (last + (1 + last))) keeps.added
      (added_then P d5 (stop_line last (order + last) whole ∷ []) lines_7 1 (last + (1 + last)) stop.added added_6)

  abbrev added_2 : Added P d2 lines_3 (1 + last + (suc last + (suc last + (1 + (last + (1 + last))))))
  added_2 = added_then P d2 (part_lines p last (order + last) next (falls_at last next) (parts_at last next)) (map (more_line p next) (range_with_len 0 (suc last)) ++ lines_5) (1 + last) (suc last + (suc last + (1 + (last + (1 + last))))) parts.added
      (added_then P d3 (map (more_line p next) (range_with_len 0 (suc last))) lines_5 (suc last) (suc last + (1 + (last + (1 + last)))) mores.added added_4)

  abbrev row_added : Added P db (row_lines l p last order whole next) (2 * length counts + (last + (1 + last + (suc last + (suc last + (1 + (last + (1 + last))))))))
  row_added = added_then P db (reification_steps next counts) (map (fall_line l.var order next) (range_with_len 0 last) ++ lines_3) (2 * length counts) (last + (1 + last + (suc last + (suc last + (1 + (last + (1 + last))))))) start.added
      (added_then P d1 (map (fall_line l.var order next) (range_with_len 0 last)) lines_3 last (1 + last + (suc last + (suc last + (1 + (last + (1 + last)))))) falls.added added_2)

  row_left : RowLeft d8 l p last next
  row_left =
      let since_7 = fronts.added.ran.later in
      let since_6 = later_then P d6 d7 d8 orders.added.ran.later since_7 in
      let since_5 = later_then P d5 d6 d8 stop.added.ran.later since_6 in
      let since_4 = later_then P d4 d5 d8 keeps.added.ran.later since_5 in
      let since_3 = later_then P d3 d4 d8 mores.added.ran.later since_4 in
      record {
        at = omega (arith, fronts.added.ran.next, at_7);
        climb = later_knows P d3 d8 (climb_at last next) (part_of l p q last) since_3 (omega (arith, at_3)) (parts.known last (omega arith));
        mores_known = still_known P d4 d8 (mores_at last next) (more_of l p q) (suc last) since_4 (omega (arith, at_4)) mores.known;
        keeps_known = still_known P d5 d8 (keeps_at last next) (keep_of p q) (suc last) since_5 (omega (arith, at_5)) keeps.known;
        stop_known = later_knows P d6 d8 (stop_at last next) (stop_of l p last) since_6 (omega (arith, at_6)) stop.known;
        row = record {
          order_known = still_known P d7 d8 (order_at last next) (order_of q) last since_7 (omega (arith, at_7)) orders.known;
          fronts_known = fronts.known;
        };
      }

  pub row_ran : RowRan db l p last order whole next
  row_ran = record {
    added = added_as P db (row_lines l p last order whole next) (2 * length counts + (last + (1 + last + (suc last + (suc last + (1 + (last + (1 + last)))))))) (8 * last + 7) (omega (arith, size)) row_added;
    left = row_left;
  }
