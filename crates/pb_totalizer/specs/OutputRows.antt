-- Lines about a row of variables that count in unary, each of which is reified over the same literals (our own).
-- Where one of them is true, so are all before it. So that one, for as many literals as it says, stands for the whole row.
use Rattle.std.specs.Prelude.{ℕ, suc, ◌+◌, ◌-◌, ◌*◌, pos, List, [], ◌∷◌, ◌++◌, map}
use Rattle.std.specs.List.{range_with_len}
use Rattle.pb_steps.specs.declared.op.PolOp.TheVariants.{Push, Axiom, Add, Mul, Div, Weaken}
use Rattle.pb_steps.specs.declared.step.Step.{Step}
use Rattle.pb_steps.specs.declared.step.Step.TheVariants.{Pol}
use Rattle.pb_family.specs.Fresh.{positive_of}

-- a line that says nothing
abbrev pub nothing_line : ℕ → Step
nothing_line var = Pol (Axiom (positive_of var) ∷ Weaken var ∷ [])

-- ---- those before one: v(0) + .. + v(j - 1) + j ~v(j) >= j, which says nothing of the first

-- By the one before, and j + 1 times that v(j) is true where v(j + 1) is: this is what their reifications over m literals say together, whose
-- ids begin with `row`.
abbrev pub front_line : ℕ → ℕ → ℕ → ℕ → Step
front_line row m fronts j =
    Pol (Push (fronts + j) ∷ Push (row + 2 * suc j) ∷ Push (row + 2 * j + 1) ∷ Add ∷ Div (pos m) ∷ Mul (pos (suc j)) ∷ Add ∷ [])

abbrev pub front_lines : ℕ → ℕ → ℕ → ℕ → ℕ → List Step
front_lines p row m last fronts = nothing_line p ∷ map (front_line row m fronts) (range_with_len 0 last)

-- ---- those behind: the last k of them are at least 0

abbrev pub tail_line : ℕ → ℕ → ℕ → ℕ → Step
tail_line p last tails k = Pol (Push (tails + k) ∷ Axiom (positive_of (p + (last - k))) ∷ Add ∷ [])

abbrev pub tail_lines : ℕ → ℕ → ℕ → List Step
tail_lines p last tails = nothing_line p ∷ map (tail_line p last tails) (range_with_len 0 (suc last))

-- ---- all but one: those before it and those behind

abbrev pub others_line : ℕ → ℕ → ℕ → ℕ → Step
others_line last fronts tails j = Pol (Push (fronts + j) ∷ Push (tails + (last - j)) ∷ Add ∷ [])

abbrev pub others_lines : ℕ → ℕ → ℕ → List Step
others_lines last fronts tails = map (others_line last fronts tails) (range_with_len 0 (suc last))

-- ---- together, of last + 1 variables from p on, whose reifications over m literals have the ids from `row` on

abbrev pub row_lines : ℕ → ℕ → ℕ → ℕ → ℕ → List Step
row_lines p row m last next =
    front_lines p row m last next
    ++ (tail_lines p last (next + suc last)
    ++ others_lines last next (next + suc last))

abbrev pub row_size : ℕ → ℕ
row_size last = suc last + (suc (suc last) + suc last)

-- where the line for a clause with none of the variables stands; those for one with the first, the second, .. stand behind it
abbrev pub others_at : ℕ → ℕ → ℕ
others_at last next = next + suc last + suc last
