-- The clauses of an adder as a table over places: its inputs, then its sum and its carry. A test of all signs of the inputs says what the table says.
use Rattle.std.proofs.Common.{◌≡◌, ◌≤◌, ◌<◌, ◌+◌, ◌%◌, ◌==◌, ◌&&◌, ◌||◌, ℕ, zero, suc, Bool, true, false, cond, not, List, [], ◌∷◌, ◌++◌, length, take, refl, arith, get_or}
use Rattle.std.specs.Prelude.{All, map, nat_le, nat_lt, slice_index_or}
use Rattle.std.specs.List.{list_any, list_all}
use Rattle.std.proofs.lemmas.Bool.{and_parts, ltb-true}
use Rattle.std.proofs.lemmas.List.Sums.{AllPass-from_list_all}
use mathlib.Core.Bool.{beq}
use Rattle.pb_base.specs.declared.literal.Lit.{Lit}
use Rattle.pb_base.specs.Literals.{negated, lit_value, clause_value, is_same, is_among}
use Rattle.pb_family.specs.Fresh.{positive_of}
use Rattle.pb_derive.specs.laws.Pins.{at_number, pinned}
use Rattle.pb_adder.specs.declared.gate.Gate.{Gate}
use Rattle.pb_adder.specs.declared.gate.Gate.TheVariants.{Full, Half}
use Rattle.pb_adder.specs.GateReifications.{input_lits, sum_var, carry_var}
use Rattle.pb_adder.specs.Gates.{full_clauses, half_clauses, gate_clauses, gate_inputs}

-- ---- the table

abbrev pub gate_table : Gate → List (List Lit)
gate_table (Full a b c made) = full_clauses (positive_of 0) (positive_of 1) (positive_of 2) (positive_of 3) (positive_of 4)
gate_table (Half a b made) = half_clauses (positive_of 0) (positive_of 1) (positive_of 2) (positive_of 3)

-- the literals at the places
abbrev pub gate_places : ℕ → Gate → List Lit
gate_places first g = input_lits first g ++ positive_of (sum_var first g) ∷ positive_of (carry_var first g) ∷ []

pub table_clauses : (first : ℕ) (g : Gate) → map (map (pinned (gate_places first g))) (gate_table g) ≡ gate_clauses first g
table_clauses first (Full a b c made) = refl
table_clauses first (Half a b made) = refl

pub outputs_at : (first : ℕ) (g : Gate) → let n = length (input_lits first g) in
    (at_number (gate_places first g) n ≡ positive_of (sum_var first g)) × (at_number (gate_places first g) (n + 1) ≡ positive_of (carry_var first g))
outputs_at first (Full a b c made) = (refl, refl)
outputs_at first (Half a b made) = (refl, refl)

pub few_inputs : (g : Gate) → (2 ≤ length (gate_inputs g)) × (length (gate_inputs g) ≤ 3)
few_inputs (Full a b c made) = (omega arith, omega arith)
few_inputs (Half a b made) = (omega arith, omega arith)

-- ---- sums of bits

abbrev pub one : Bool → ℕ
one b = cond b 1 0

abbrev pub trues : List Bool → ℕ
trues [] = 0
trues (b ∷ bs) = one b + trues bs

abbrev pub odd_of : List Bool → Bool
odd_of bs = trues bs % 2 == 1

abbrev pub two_of : List Bool → Bool
two_of bs = nat_le 2 (trues bs)

-- ---- signs of the first places

abbrev pub sign_at : List Bool → ℕ → Bool
sign_at bs k = slice_index_or bs k false

-- the literal, or its negation
abbrev pub signed : Lit → Bool → Lit
signed l b = cond b l (negated l)

-- false under the signs
abbrev pub is_off : List Bool → Lit → Bool
is_off bs k = nat_lt k.var (length bs) && not (lit_value (sign_at bs) k)

-- the clause has the literal, and else only ones that are false
abbrev pub leaves : List Bool → Lit → List Lit → Bool
leaves bs l q = is_among q l && list_all {X = Lit} (λ k. is_same k l || is_off bs k) q

abbrev pub forces : List Bool → List (List Lit) → ℕ → Bool → Bool
forces bs qs n b = list_any {X = List Lit} (leaves bs (signed (positive_of n) b)) qs

-- no place of the table is past the last one
abbrev pub are_places : ℕ → List (List Lit) → Bool
are_places n qs = list_all {X = List Lit} (list_all {X = Lit} (λ l. nat_lt l.var n)) qs

-- signs of the inputs force those of the sum and of the carry
abbrev pub forces_both : List (List Lit) → List Bool → Bool
forces_both qs bs = forces bs qs (length bs) (odd_of bs) && forces bs qs (length bs + 1) (two_of bs)

-- of n inputs and the two others, the clauses are true exactly where these are the sum and the carry
abbrev pub is_exact : ℕ → List (List Lit) → List Bool → Bool
is_exact n qs bs =
    beq (list_all {X = List Lit} (clause_value (sign_at bs)) qs) (beq (sign_at bs n) (odd_of (take n bs)) && beq (sign_at bs (n + 1)) (two_of (take n bs)))

-- of so many signs
abbrev pub every : ℕ → (List Bool → Bool) → Bool
every zero f = f []
every (suc n) f = every n (λ bs. f (true ∷ bs)) && every n (λ bs. f (false ∷ bs))

every_holds : (n : ℕ) (f : List Bool → Bool) → every n f ≡ true → (bs : List Bool) → length bs ≡ n → f bs ≡ true
every_holds zero f h [] size = h
every_holds zero f h (b ∷ bs) size = absurd (omega (arith, size))
every_holds (suc n) f h [] size = absurd (omega (arith, size))
every_holds (suc n) f h (true ∷ bs) size = every_holds n (λ bs. f (true ∷ bs)) (and_parts (every n (λ bs. f (true ∷ bs))) (every n (λ bs. f (false ∷ bs))) h).0 bs (omega (arith, size))
every_holds (suc n) f h (false ∷ bs) size = every_holds n (λ bs. f (false ∷ bs)) (and_parts (every n (λ bs. f (true ∷ bs))) (every n (λ bs. f (false ∷ bs))) h).1 bs (omega (arith, size))

forcing : (g : Gate) → every (length (gate_inputs g)) (forces_both (gate_table g)) ≡ true
forcing (Full a b c made) = refl
forcing (Half a b made) = refl

exact : (g : Gate) → every (length (gate_inputs g) + 2) (is_exact (length (gate_inputs g)) (gate_table g)) ≡ true
exact (Full a b c made) = refl
exact (Half a b made) = refl

within : (first : ℕ) (g : Gate) → are_places (length (gate_places first g)) (gate_table g) ≡ true
within first (Full a b c made) = refl
within first (Half a b made) = refl

pub table_forces : (g : Gate) (bs : List Bool) → length bs ≡ length (gate_inputs g) → forces_both (gate_table g) bs ≡ true
table_forces g bs size = every_holds (length (gate_inputs g)) (forces_both (gate_table g)) (forcing g) bs size

pub table_exact : (g : Gate) (bs : List Bool) → length bs ≡ length (gate_inputs g) + 2 → is_exact (length (gate_inputs g)) (gate_table g) bs ≡ true
table_exact g bs size = every_holds (length (gate_inputs g) + 2) (is_exact (length (gate_inputs g)) (gate_table g)) (exact g) bs size

pub places_low : (first : ℕ) (g : Gate) → All (All (λ l. l.var < length (gate_places first g))) (gate_table g)
places_low first g = λ k d h i e l.
    let n = length (gate_places first g) in
    let low = AllPass-from_list_all {X = List Lit} (list_all {X = Lit} (λ l. nat_lt l.var n)) (gate_table g) (within first g) k d h in
    ltb-true (get_or (get_or (gate_table g) k d) i e).var n (AllPass-from_list_all {X = Lit} (λ l. nat_lt l.var n) (get_or (gate_table g) k d) low i e l)
