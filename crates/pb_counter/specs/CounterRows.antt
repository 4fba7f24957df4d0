-- How the clauses of a sequential counter are derived row by row (our own; each row by the one before it, as in Gocht, Martins,
-- Nordström and Oertel 2022). The variables of a row start at p, and those of the next one at q. Places count from 0, and `last`
-- is the last place of a row.
use Rattle.std.specs.Prelude.{ℕ, zero, suc, pos, ◌+◌, ◌*◌, List, [], ◌∷◌, ◌++◌, map, flat_map}
use Rattle.std.specs.List.{range_with_len}
use Rattle.pb_base.specs.declared.literal.Lit.{Lit}
use Rattle.pb_base.specs.Literals.{negated}
use Rattle.pb_norm.specs.Constraints.{Weighted}
use Rattle.pb_steps.specs.declared.op.PolOp.TheVariants.{Push, Axiom, Add, Mul, Div, Weaken}
use Rattle.pb_steps.specs.declared.step.Step.{Step}
use Rattle.pb_steps.specs.declared.step.Step.TheVariants.{Pol}
use Rattle.pb_derive.specs.Ones.{unit_of}
use Rattle.pb_derive.specs.Outputs.{Output}
use Rattle.pb_derive.specs.Reifications.{Reification, reification_steps}
use Rattle.pb_derive.specs.Stages.{stage_steps}
use Rattle.pb_family.specs.Fresh.{positive_of}

-- ---- what the variables of a row mean

abbrev pub bit_term : ℕ → ℕ → Weighted
bit_term coef var = record { coef = coef; lit = positive_of var }

-- By the row's literal and two variables of the row before. More than j + 1 literals are true up to this one, where more than j + 1
-- are before it, or it is true and more than j are: of weights 1, 1 and 2 these reach 2.
abbrev pub next_count : Lit → ℕ → ℕ → ℕ → Reification
next_count l p q zero = record { var = q + 0; sum = unit_of l ∷ bit_term 1 (p + 0) ∷ []; least = 1 }
next_count l p q (suc j) = record { var = q + suc j; sum = unit_of l ∷ bit_term 1 (p + j) ∷ bit_term 2 (p + suc j) ∷ []; least = 2 }

abbrev pub next_counts : Lit → ℕ → ℕ → ℕ → List Reification
next_counts l p q last = map (next_count l p q) (range_with_len 0 (suc last))

-- ---- the clauses of a row, each by the constraint of its variable

-- one more is reached, where the literal is true and one less was reached before
abbrev pub more_line : ℕ → ℕ → ℕ → Step
more_line p counts j = Pol (Push (counts + 2 * j + 1) ∷ Weaken (p + j) ∷ Div (pos 3) ∷ [])

-- as much is reached as before
abbrev pub keep_line : ℕ → ℕ → ℕ → ℕ → Step
keep_line v p counts zero = Pol (Push (counts + 1) ∷ Weaken v ∷ Div (pos 3) ∷ [])
keep_line v p counts (suc j) = Pol (Push (counts + 2 * suc j + 1) ∷ Weaken v ∷ Weaken (p + j) ∷ Div (pos 3) ∷ [])

-- ---- what is said of a row: its order, and by that the sums of its fronts

-- where a place is reached, the one before it is: so all are, s(0) + .. + s(j) + (j + 1) ~s(j + 1) >= j + 1. The first front says nothing.
abbrev pub first_front : ℕ → Step
first_front p = Pol (Axiom (positive_of p) ∷ Weaken p ∷ [])

abbrev pub front_line : ℕ → ℕ → ℕ → Step
front_line order fronts j = Pol (Push (fronts + j) ∷ Push (order + j) ∷ Mul (pos (suc j)) ∷ Add ∷ [])

abbrev pub front_lines : ℕ → ℕ → ℕ → ℕ → List Step
front_lines p last order fronts = first_front p ∷ map (front_line order fronts) (range_with_len 0 last)

-- ---- a row by the one before it

-- where place j + 1 is reached, place j was
abbrev pub fall_line : ℕ → ℕ → ℕ → ℕ → Step
fall_line v order counts j = Pol (Push (counts + 2 * suc j) ∷ Push (order + j) ∷ Mul (pos 2) ∷ Add ∷ Weaken v ∷ Div (pos 3) ∷ [])

-- and so it still is
abbrev pub order_line : ℕ → ℕ → ℕ → Step
order_line falls keeps j = Pol (Push (falls + j) ∷ Push (keeps + j) ∷ Add ∷ [])

-- The literal and the places up to one are no fewer than those in this row: of the first place this is its own constraint, and then it
-- comes from the place before, what is reached where the place is, and its constraint.
abbrev pub part_line : ℕ → ℕ → ℕ → ℕ → ℕ → ℕ → Step
part_line p fronts counts falls parts j =
    Pol (Push (parts + j) ∷ Mul (pos (suc j)) ∷ Push (fronts + j) ∷ Add ∷ Push (falls + j) ∷ Mul (pos (suc j)) ∷ Add ∷ Push (counts + 2 * suc j) ∷ Weaken (p + j) ∷ Div (pos 2) ∷ Add ∷ Div (pos (suc (suc j))) ∷ [])

abbrev pub part_lines : ℕ → ℕ → ℕ → ℕ → ℕ → ℕ → List Step
part_lines p last fronts counts falls parts = Pol (Push counts ∷ []) ∷ map (part_line p fronts counts falls parts) (range_with_len 0 last)

-- Of the literal and the row's places together no more than a row is wide are true: that is `whole`. Where the last place is reached all are,
-- and the literal is not.
abbrev pub stop_line : ℕ → ℕ → ℕ → Step
stop_line last fronts whole = Pol (Push whole ∷ Push (fronts + last) ∷ Add ∷ Div (pos (suc last)) ∷ [])

-- ---- the ids of a row's lines, of which the first is that of its first variable's first constraint

abbrev pub falls_at : ℕ → ℕ → ℕ
falls_at last next = next + 2 * suc last

abbrev pub parts_at : ℕ → ℕ → ℕ
parts_at last next = falls_at last next + last

-- the sum of all its places
abbrev pub climb_at : ℕ → ℕ → ℕ
climb_at last next = parts_at last next + last

abbrev pub mores_at : ℕ → ℕ → ℕ
mores_at last next = parts_at last next + suc last

abbrev pub keeps_at : ℕ → ℕ → ℕ
keeps_at last next = mores_at last next + suc last

abbrev pub stop_at : ℕ → ℕ → ℕ
stop_at last next = keeps_at last next + suc last

abbrev pub order_at : ℕ → ℕ → ℕ
order_at last next = stop_at last next + 1

abbrev pub fronts_at : ℕ → ℕ → ℕ
fronts_at last next = order_at last next + last

abbrev pub row_end : ℕ → ℕ → ℕ
row_end last next = fronts_at last next + suc last

-- ---- a row, by the order of the one before it, behind which are its fronts, and the total of its literal

abbrev pub row_lines : Lit → ℕ → ℕ → ℕ → ℕ → ℕ → List Step
row_lines l p last order whole next =
    reification_steps next (next_counts l p (p + suc last) last)
    ++ (map (fall_line l.var order next) (range_with_len 0 last)
    ++ (part_lines p last (order + last) next (falls_at last next) (parts_at last next)
    ++ (map (more_line p next) (range_with_len 0 (suc last))
    ++ (map (keep_line l.var p next) (range_with_len 0 (suc last))
    ++ (stop_line last (order + last) whole
    ∷ (map (order_line (falls_at last next) (keeps_at last next)) (range_with_len 0 last)
    ++ front_lines (p + suc last) last (order_at last next) (fronts_at last next)))))))

abbrev pub more_clause : Lit → ℕ → ℕ → ℕ → List Lit
more_clause l p q zero = negated l ∷ positive_of (q + 0) ∷ []
more_clause l p q (suc j) = negated l ∷ negated (positive_of (p + j)) ∷ positive_of (q + suc j) ∷ []

abbrev pub keep_clause : ℕ → ℕ → ℕ → List Lit
keep_clause p q j = negated (positive_of (p + j)) ∷ positive_of (q + j) ∷ []

abbrev pub stop_clause : Lit → ℕ → ℕ → List Lit
stop_clause l p last = negated l ∷ negated (positive_of (p + last)) ∷ []

-- the clauses of a place
abbrev pub place_outputs : Lit → ℕ → ℕ → ℕ → ℕ → List Output
place_outputs l p last next j =
    record { id = mores_at last next + j; clause = more_clause l p (p + suc last) j }
    ∷ record { id = keeps_at last next + j; clause = keep_clause p (p + suc last) j }
    ∷ []

abbrev pub row_outputs : Lit → ℕ → ℕ → ℕ → List Output
row_outputs l p last next = flat_map (place_outputs l p last next) (range_with_len 0 (suc last)) ++ record { id = stop_at last next; clause = stop_clause l p last } ∷ []

-- what was said of the row before, and all of this row's but its order, fronts, clauses and the sum of its places
abbrev pub row_deleted : ℕ → ℕ → ℕ → List ℕ
row_deleted last order next = range_with_len order (2 * last + 1) ++ range_with_len next (4 * last + 2)

abbrev pub row_steps : Lit → ℕ → ℕ → ℕ → ℕ → ℕ → List Step
row_steps l p last order whole next = stage_steps (row_lines l p last order whole next) (row_outputs l p last next) (row_deleted last order next)
