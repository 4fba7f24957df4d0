-- A row is a stage of the derivation: its clauses are put out, and what was said of the row before is deleted.
use Rattle.std.proofs.Common.{◌≡◌, ◌≢◌, ◌≤◌, ◌<◌, ◌+◌, ◌*◌, ◌⊎◌, inl, inr, ℕ, suc, List, ◌∙◌, arith}
use Rattle.std.specs.List.{range_with_len}
use Rattle.std.proofs.lemmas.List.Elements.{All-append}
use Rattle.pb_base.specs.declared.literal.Lit.{Lit}
use Rattle.pb_base.proofs.Members.{All-append_both}
use Rattle.pb_norm.specs.Constraints.{Constraint}
use Rattle.pb_steps.specs.Database.{Database, constraint_at}
use Rattle.pb_steps.specs.Runs.{Runs}
use Rattle.pb_derive.specs.Later.{Knows}
use Rattle.pb_derive.specs.Outputs.{Output, clauses_of}
use Rattle.pb_derive.proofs.Holding.{IsHolding, IsNotOut, OrBetween, before, between, holding_same}
use Rattle.pb_derive.proofs.IdRanges.{IsOff, outside, off-range, each_between, ranges-apart}
use Rattle.pb_derive.proofs.Staged.{IsLeft, staged, staged_knows}
use Rattle.pb_derive.proofs.UnaryRows.{order_of, front_of}
use Rattle.pb_counter.specs.CounterRows.{row_outputs, row_deleted, row_lines, row_steps, climb_at, mores_at, order_at, row_end}
use Rattle.pb_counter.specs.laws.RowParts.{part_of}
use Rattle.pb_counter.specs.laws.RowAdds.{Below}
use Rattle.pb_counter.specs.laws.RowOutputs.{given, outputs-all, outputs-outside}
use Rattle.pb_counter.specs.laws.RowRuns.{IsRow, MayFollow, RowRan, row_ran}

-- ---- what is held

-- the order and the fronts of a row, beside other constraints
pub data WithRow (R : ℕ → Type 0) (last order i : ℕ) : Type 0 where
  beside : R i → WithRow R last order i
  of_row : order ≤ i → i < order + (2 * last + 1) → WithRow R last order i

-- one more
abbrev pub OrId : (ℕ → Type 0) → ℕ → ℕ → Type 0
OrId R id i = R i ⊎ (i ≡ id)

-- the others have ids before a number, and not those of the row
abbrev pub AreBeside : (ℕ → Type 0) → ℕ → ℕ → ℕ → Type 0
AreBeside R last order next = (i : ℕ) → R i → (i < next) × ((i < order) ⊎ (order + (2 * last + 1) ≤ i))

-- ---- the stage

pub record RowStaged (base db : Database) (R : ℕ → Type 0) (l : Lit) (p last order whole next : ℕ) : Type 1 where
  pub end : Database
  pub runs : Runs db (row_steps l p last order whole next) (clauses_of (row_outputs l p last next)) end
  pub holding : IsHolding (Below (p + suc last + suc last)) base end (WithRow (OrId R (climb_at last next)) last (order_at last next))
  pub at : end.next ≡ row_end last next
  pub row : IsRow end (p + suc last) last (order_at last next)
  pub climb : Knows end (climb_at last next) (part_of l p (p + suc last) last)
  pub stands : (i : ℕ) → R i → constraint_at end.live i ≡ constraint_at db.live i

module _ (base db : Database) (R : ℕ → Type 0) (l : Lit) (p last order whole next : ℕ) (h : MayFollow db l p last order whole next) (others : AreBeside R last order next) where
  abbrev L : ℕ → Type 0
  L = WithRow R last order

  abbrev M : ℕ → Type 0
  M = WithRow (OrId R (climb_at last next)) last (order_at last next)

  abbrev outputs : List Output
  outputs = row_outputs l p last next

  abbrev deleted : List ℕ
  deleted = row_deleted last order next

  ran : RowRan db l p last order whole next
  ran = row_ran db l p last order whole next h

  abbrev mid : Database
  mid = ran.added.ran.end

  not_out : (i : ℕ) → ((i < mores_at last next) ⊎ (order_at last next ≤ i)) → IsNotOut outputs i
  not_out i out = outputs-all l p last h.low (λ j. j ≢ i) next (λ j from to same. elim out as (λ _. ⊥) [ inl below ↦ omega (arith, same, from, below) | inr above ↦ omega (arith, same, to, above) ])

  not_deleted : (i : ℕ) → ((i < order) ⊎ (order + (2 * last + 1) ≤ i)) → ((i < next) ⊎ (next + (4 * last + 2) ≤ i)) → IsOff deleted i
  not_deleted i one two = All-append (λ (j : ℕ). j ≢ i) (range_with_len order (2 * last + 1)) (range_with_len next (4 * last + 2)) (off-range order (2 * last + 1) i one) (off-range next (4 * last + 2) i two)

  r_not_deleted : (i : ℕ) → R i → IsOff deleted i
  r_not_deleted i r = not_deleted i (others i r).1 (inl (others i r).0)

  left_new : (i : ℕ) → db.next ≤ i → i < mid.next → IsNotOut outputs i → IsOff (range_with_len next (4 * last + 2)) i → M i
  left_new i from to apart off =
      elim (outside next (4 * last + 2) i off) as (λ _. M i) [
        | inl below ↦ absurd (omega (arith, below, from, h.at))
        | inr above ↦ elim (outputs-outside l p last h.low next i apart) as (λ _. M i) [
          | inl early ↦ beside (inr (omega (arith, early, above)))
          | inr late ↦ of_row late (omega (arith, to, ran.left.at))
        ]
      ]

  left_old : (i : ℕ) → L i → IsOff (range_with_len order (2 * last + 1)) i → M i
  left_old i (beside r) off = beside (inl r)
  left_old i (of_row from to) off = elim (outside order (2 * last + 1) i off) as (λ _. M i) [ inl below ↦ absurd (omega (arith, below, from)) | inr above ↦ absurd (omega (arith, above, to)) ]

  is_left : IsLeft L db.next mid.next outputs deleted M
  is_left = record {
    deleted_held = All-append (λ (i : ℕ). OrBetween L db.next mid.next i × IsNotOut outputs i) (range_with_len order (2 * last + 1)) (range_with_len next (4 * last + 2))
        (each_between (λ i. OrBetween L db.next mid.next i × IsNotOut outputs i) order (2 * last + 1) (λ i low high. (before (of_row low high), not_out i (inl (omega (arith, high, h.row_before))))))
        (each_between (λ i. OrBetween L db.next mid.next i × IsNotOut outputs i) next (4 * last + 2) (λ i low high. (between (omega (arith, low, h.at)) (omega (arith, high, ran.left.at)), not_out i (inl (omega (arith, high))))));
    once = ranges-apart order (2 * last + 1) next (4 * last + 2) h.row_before;
    left = λ i held apart off.
        let parts = All-append_both (λ (j : ℕ). j ≢ i) (range_with_len order (2 * last + 1)) (range_with_len next (4 * last + 2)) off in
        elim held as (λ _. M i) [
          | before l ↦ left_old i l parts.0
          | between from to ↦ left_new i from to apart parts.1
        ];
    kept = λ i m. elim m as (λ _. OrBetween L db.next mid.next i × IsNotOut outputs i × IsOff deleted i) [
      | beside r ↦ elim r as (λ _. OrBetween L db.next mid.next i × IsNotOut outputs i × IsOff deleted i) [
        | inl other ↦ (before (beside other), not_out i (inl (omega (arith, (others i other).0))), r_not_deleted i other)
        | inr same ↦ (between (omega (arith, same, h.at)) (omega (arith, same, ran.left.at)), not_out i (inl (omega (arith, same))), not_deleted i (inr (omega (arith, same, h.row_before))) (inr (omega (arith, same))))
      ]
      | of_row from to ↦ (between (omega (arith, from, h.at)) (omega (arith, to, ran.left.at)), not_out i (inr from), not_deleted i (inr (omega (arith, from, h.row_before))) (inr (omega (arith, from))))
    ];
  }

  pub row_staged : IsHolding (Below (p + suc last)) base db L → RowStaged base db R l p last order whole next
  row_staged holding =
      let top : ℕ = p + suc last + suc last in
      let wider = holding_same (Below (p + suc last)) (Below top) base db L L (λ v under. let low : v < p + suc last = under in let less : v < top = omega (arith, low) in less) (λ i held. held) (λ i held. held) holding in
      let start = holding.later.next in
      let done = staged (Below top) base db L M (row_lines l p last order whole next) (8 * last + 7) outputs deleted wider ran.added (given l p last h.low mid next ran.left)
      (outputs-all l p last h.low (λ i. base.next ≤ i) next (λ i from to. omega (arith, from, start, h.at))) is_left in
      let new : (i : ℕ) → order_at last next ≤ i → IsOff deleted i = λ i from. not_deleted i (inr (omega (arith, from, h.row_before))) (inr (omega (arith, from))) in
      let knows : (i : ℕ) (s : Constraint) → IsOff deleted i → Knows mid i s → Knows done.end i s = λ i s off k. staged_knows (Below top) base db mid (row_steps l p last order whole next) outputs deleted M done i s off k in
      record {
        end = done.end;
        runs = done.runs;
        holding = done.holding;
        at = omega (arith, done.next, ran.left.at);
        row = record {
          order_known = λ i within. knows (order_at last next + i) (order_of (p + suc last) i) (new (order_at last next + i) (omega arith)) (ran.left.row.order_known i within);
          fronts_known = λ i within. knows (order_at last next + last + i) (front_of (p + suc last) i) (new (order_at last next + last + i) (omega arith)) (ran.left.row.fronts_known i within);
        };
        climb = knows (climb_at last next) (part_of l p (p + suc last) last) (not_deleted (climb_at last next) (inr (omega (arith, h.row_before))) (inr (omega arith))) ran.left.climb;
        stands = λ i r. done.stands i (r_not_deleted i r) ∙ ran.added.ran.later.stands i (omega (arith, (others i r).0, h.at));
      }
