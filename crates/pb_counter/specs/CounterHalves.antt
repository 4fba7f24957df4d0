-- The whole derivation of a sequential counter (our own): the first row, the rows after it, and the last clause. What is said of all literals
-- that are left is narrowed by halves, so that each row names its own literal alone.
use Rattle.std.specs.Prelude.{ℕ, zero, suc, true, false, ◌+◌, ◌-◌, ◌*◌, ◌^◌, ◌==◌, nat_le, List, [], ◌∷◌, ◌++◌, map, length, take, drop, if◌then◌else◌}
use Rattle.std.specs.List.{range_with_len}
use Rattle.pb_base.specs.declared.literal.Lit.{Lit}
use Rattle.pb_base.specs.Literals.{negated}
use Rattle.pb_steps.specs.declared.op.PolOp.TheVariants.{Push, Axiom, Add, Weaken}
use Rattle.pb_steps.specs.declared.step.Step.{Step}
use Rattle.pb_steps.specs.declared.step.Step.TheVariants.{Pol}
use Rattle.pb_derive.specs.Justifications.{adding}
use Rattle.pb_derive.specs.Ones.{unit_of}
use Rattle.pb_derive.specs.Outputs.{Output}
use Rattle.pb_derive.specs.Reifications.{Reification, reification_steps}
use Rattle.pb_derive.specs.Stages.{stage_steps}
use Rattle.pb_family.specs.Fresh.{positive_of, literal_at}
use Rattle.pb_counter.specs.CounterRows.{front_lines, stop_line, stop_clause, row_steps, climb_at, order_at, row_end}

-- ---- the first row: its first place is its literal, and no other place is reached

abbrev pub first_count : Lit → ℕ → ℕ → Reification
first_count l p zero = record { var = p + 0; sum = unit_of l ∷ []; least = 1 }
first_count l p (suc j) = record { var = p + suc j; sum = []; least = 1 }

abbrev pub first_counts : Lit → ℕ → ℕ → List Reification
first_counts l p last = map (first_count l p) (range_with_len 0 (suc last))

abbrev pub first_line : ℕ → ℕ → Step
first_line counts zero = Pol (Push (counts + 1) ∷ [])
first_line counts (suc j) = Pol (Push (counts + 2 * suc j) ∷ [])

abbrev pub first_clause : Lit → ℕ → ℕ → List Lit
first_clause l p zero = negated l ∷ positive_of (p + 0) ∷ []
first_clause l p (suc j) = negated (positive_of (p + suc j)) ∷ []

abbrev pub first_order_line : ℕ → ℕ → ℕ → Step
first_order_line p counts j = Pol (Push (counts + 2 * suc j) ∷ Axiom (positive_of (p + j)) ∷ Add ∷ [])

-- the total of all other literals, by the constraint of the sum
abbrev pub total_line : ℕ → ℕ → ℕ → Step
total_line last id counts = Pol (adding (id ∷ map (λ j. counts + 2 * j) (range_with_len 0 (suc last))))

abbrev pub first_at : ℕ → ℕ → ℕ
first_at last next = next + 2 * suc last

abbrev pub first_order_at : ℕ → ℕ → ℕ
first_order_at last next = first_at last next + suc last

abbrev pub first_fronts_at : ℕ → ℕ → ℕ
first_fronts_at last next = first_order_at last next + last

abbrev pub total_at : ℕ → ℕ → ℕ
total_at last next = first_fronts_at last next + suc last

abbrev pub first_lines : Lit → ℕ → ℕ → ℕ → ℕ → List Step
first_lines l p last id next =
    reification_steps next (first_counts l p last)
    ++ (map (first_line next) (range_with_len 0 (suc last))
    ++ (map (first_order_line p next) (range_with_len 0 last)
    ++ (front_lines p last (first_order_at last next) (first_fronts_at last next)
    ++ total_line last id next ∷ [])))

abbrev pub first_output : Lit → ℕ → ℕ → ℕ → ℕ → Output
first_output l p last next j = record { id = first_at last next + j; clause = first_clause l p j }

abbrev pub first_outputs : Lit → ℕ → ℕ → ℕ → List Output
first_outputs l p last next = map (first_output l p last next) (range_with_len 0 (suc last))

abbrev pub first_steps : Lit → ℕ → ℕ → ℕ → ℕ → List Step
first_steps l p last id next = stage_steps (first_lines l p last id next) (first_outputs l p last next) (range_with_len next (2 * suc last))

-- ---- rows of some literals, of which at most 2^n are given: the first half by what is left of the total without the second, and the second
-- half by the total and the sum of the first

-- a total without some literals
abbrev pub narrow_line : ℕ → List Lit → Step
narrow_line whole ls = Pol (Push whole ∷ map Weaken (map (λ l. l.var) ls))

abbrev pub both_line : ℕ → ℕ → Step
both_line one other = Pol (Push one ∷ Push other ∷ Add ∷ [])

-- the ids of the last row's order and of the sum of all rows, and the next one
pub record RowsEnd : Type 0 where
  pub order : ℕ
  pub climb : ℕ
  pub next : ℕ

abbrev pub both_end : RowsEnd → RowsEnd
both_end second = record { order = second.order; climb = second.next; next = second.next + 1 }

unfoldable pub rows_end : ℕ → ℕ → ℕ → ℕ → RowsEnd
rows_end zero count last next = record { order = order_at last next; climb = climb_at last next; next = row_end last next }
rows_end (suc n) count last next =
    elim (nat_le count (2 ^ n)) as (λ _. RowsEnd) [
      | true ↦ rows_end n count last next
      | false ↦ both_end (rows_end n (count - 2 ^ n) last ((rows_end n (2 ^ n) last (next + 1)).next + 1))
    ]

-- the second half, behind the first
abbrev pub join_steps : ℕ → RowsEnd → RowsEnd → ℕ → List Step → List Step
join_steps whole one other next second =
    both_line whole one.climb ∷ (second ++ stage_steps (both_line one.climb other.climb ∷ []) [] (next ∷ one.climb ∷ one.next ∷ other.climb ∷ []))

-- the literals, the first variable and the last place of the row before, the ids of its order and of the total, and the next one
unfoldable pub rows_steps : ℕ → List Lit → ℕ → ℕ → ℕ → ℕ → ℕ → List Step
rows_steps zero ls p last order whole next = row_steps (literal_at ls 0) p last order whole next
rows_steps (suc n) ls p last order whole next =
    let one = rows_end n (2 ^ n) last (next + 1) in
    let other = rows_end n (length ls - 2 ^ n) last (one.next + 1) in
    elim (nat_le (length ls) (2 ^ n)) as (λ _. List Step) [
      | true ↦ rows_steps n ls p last order whole next
      | false ↦
          narrow_line whole (drop (2 ^ n) ls)
          ∷ (rows_steps n (take (2 ^ n) ls) p last order next (next + 1)
          ++ join_steps whole one other next (rows_steps n (drop (2 ^ n) ls) (p + 2 ^ n * suc last) last one.order one.next (one.next + 1)))
    ]

-- ---- the whole

-- the last clause, by the total of its literal; what is still held is deleted
abbrev pub last_steps : Lit → ℕ → ℕ → ℕ → ℕ → ℕ → List ℕ → List Step
last_steps l p last order whole next others =
    stage_steps (stop_line last (order + last) whole ∷ []) (record { id = next; clause = stop_clause l p last } ∷ []) (range_with_len order (2 * last + 1) ++ others)

-- all rows but the last one, and the last clause
abbrev pub further_steps : List Lit → Lit → ℕ → ℕ → ℕ → ℕ → ℕ → List Step
further_steps ls l p last order total next =
    let end = rows_end 31 (length ls) last (next + 1) in
    narrow_line total (l ∷ [])
    ∷ (rows_steps 31 ls p last order next (next + 1)
    ++ both_line total end.climb ∷ last_steps l (p + length ls * suc last) last end.order end.next (end.next + 1) (total ∷ next ∷ end.climb ∷ end.next ∷ []))

-- what comes behind the first row, by the other literals
abbrev pub other_steps : List Lit → ℕ → ℕ → ℕ → ℕ → ℕ → List Step
other_steps us p last order total next =
    let count = length us - 1 in
    if count == 0 then last_steps (literal_at us 0) p last order total next (total ∷ [])
    else further_steps (take count us) (literal_at us count) p last order total next

-- by the first literal and the others
abbrev pub all_steps : Lit → List Lit → ℕ → ℕ → ℕ → ℕ → List Step
all_steps l us last first id next = first_steps l first last id next ++ other_steps us first last (first_order_at last next) (total_at last next) (total_at last next + 1)

abbrev pub counter_row_steps : List Lit → ℕ → ℕ → ℕ → ℕ → List Step
counter_row_steps ms width first id next = all_steps (literal_at ms 0) (drop 1 ms) (width - 1) first id next
