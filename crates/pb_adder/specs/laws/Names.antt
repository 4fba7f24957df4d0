-- The variables that the clauses of a network name.
use Rattle.std.proofs.Common.{◌<◌, ◌≤◌, ◌+◌, ◌*◌, ◌⊎◌, ℕ, Bool, true, false, cond, List, [], ◌∷◌, length, subst, arith, inl, inr, get_or}
use Rattle.std.specs.Prelude.{All, map}
use Rattle.std.specs.List.{flat_map}
use Rattle.std.proofs.lemmas.List.Elements.{All-cons, All-nil, All-append, All-map, All-weaker}
use Rattle.pb_base.specs.declared.literal.Lit.{Lit}
use Rattle.pb_base.specs.Literals.{negated}
use Rattle.pb_family.specs.Fresh.{positive_of}
use Rattle.pb_adder.specs.declared.gate.Wire.{Wire}
use Rattle.pb_adder.specs.declared.gate.Wire.TheVariants.{Input, Made}
use Rattle.pb_adder.specs.declared.gate.Gate.{Gate}
use Rattle.pb_derive.proofs.Reasoned.{All-flat_map}
use Rattle.pb_derive.specs.laws.Pins.{at_number, pinned}
use Rattle.pb_adder.specs.GateReifications.{input_lits, sum_var, carry_var}
use Rattle.pb_adder.specs.Gates.{wire_lit, gate_clauses, gate_inputs, made_of}
use Rattle.pb_adder.specs.Comparator.{row_clause}
use Rattle.pb_adder.specs.laws.GateTables.{gate_places, gate_table, places_low, table_clauses}
use Rattle.pb_adder.specs.laws.Wired.{Known, Wired, known_more}

-- a variable with a property, or one of the fresh ones
abbrev pub Named : (ℕ → Type 0) → ℕ → ℕ → Lit → Type 0
Named V first total l = V l.var ⊎ ((first ≤ l.var) × (l.var < first + total))

wire_named : (V : ℕ → Type 0) (first total : ℕ) (w : Wire) → Known (λ l. V l.var) total w → Named V first total (wire_lit first w)
wire_named V first total (Input l) known = inl known
wire_named V first total (Made k) known = inr (let low : first ≤ first + k = omega arith in low, let high : first + k < first + total = omega arith in high)

-- the variable of a place is that of its literal
pinned_named : (P : ℕ → Type 0) (ls : List Lit) (l : Lit) → All (λ k. P k.var) ls → l.var < length ls → P (pinned ls l).var
pinned_named P ls l all low = by_sign l.positive (all l.var (record { var = 0; positive = true }) low)
  where
    by_sign : (p : Bool) → P (at_number ls l.var).var → P (cond p (at_number ls l.var) (negated (at_number ls l.var))).var
    by_sign true h = h
    by_sign false h = h

-- the variables of an adder
abbrev pub AllNamed : (ℕ → Type 0) → ℕ → Gate → Type 0
AllNamed P first g = All (λ (l : Lit). P l.var) (input_lits first g) × P (sum_var first g) × P (carry_var first g)

-- what holds of the variable of each bit that is known in the end
pub named_gates : (P : ℕ → Type 0) (I : Lit → Type 0) (first total m : ℕ) (gs : List Gate) → Wired I m gs → m + 2 * length gs ≤ total → ((w : Wire) → Known I total w → P (wire_lit first w).var)
    → All (AllNamed P first) gs
named_gates P I first total m [] wired within on = All-nil (AllNamed P first)
named_gates P I first total m (g ∷ gs) wired within on =
    let read = All-map (λ (l : Lit). P l.var) (wire_lit first) (gate_inputs g)
    (All-weaker (Known I m) (λ w. P (wire_lit first w).var) (λ w h. on w (known_more I m total (omega (arith, within)) w h)) (gate_inputs g) wired.0) in
    let made : (k : ℕ) → k < total → P (first + k) = λ k h. on (Made k) h in
    All-cons (AllNamed P first) g gs (read, made (made_of g) (omega (arith, wired.1, within)), made (made_of g + 1) (omega (arith, wired.1, within)))
    (named_gates P I first total (m + 2) gs wired.2 (omega (arith, within)) on)

gate_named : (P : ℕ → Type 0) (first : ℕ) (g : Gate) → AllNamed P first g → All (All (λ l. P l.var)) (gate_clauses first g)
gate_named P first g named =
    let Q : Lit → Type 0 = λ l. P l.var in
    let ls = gate_places first g in
    let s = positive_of (sum_var first g) in
    let d = positive_of (carry_var first g) in
    let places : All Q ls = All-append Q (input_lits first g) (s ∷ d ∷ []) named.0 (All-cons Q s (d ∷ []) named.1 (All-cons Q d [] named.2 (All-nil Q))) in
    subst (All (All Q)) (table_clauses first g) (All-map {X = List Lit} (All Q) (map (pinned ls)) (gate_table g) (λ k d w.
    All-map {X = Lit} Q (pinned ls) (get_or (gate_table g) k d) (λ i e l. pinned_named P ls (get_or (get_or (gate_table g) k d) i e) places (places_low first g k d w i e l))))

pub gates_named : (V : ℕ → Type 0) (first total m : ℕ) (gs : List Gate) → Wired (λ l. V l.var) m gs → m + 2 * length gs ≤ total
    → All (All (Named V first total)) (flat_map (gate_clauses first) gs)
gates_named V first total m gs wired within =
    let P : ℕ → Type 0 = λ v. V v ⊎ ((first ≤ v) × (v < first + total)) in
    All-flat_map (All (Named V first total)) (gate_clauses first) gs
    (All-weaker (AllNamed P first) (λ g. All (All (Named V first total)) (gate_clauses first g)) (λ g h. gate_named P first g h) gs (named_gates P (λ l. V l.var) first total m gs wired within (wire_named V first total)))

row_named : (V : ℕ → Type 0) (first total : ℕ) (row : List Wire) → All (Known (λ l. V l.var) total) row → All (Named V first total) (row_clause first row)
row_named V first total row all =
    All-map (Named V first total) (λ w. negated (wire_lit first w)) row (All-weaker (Known (λ l. V l.var) total) (λ w. Named V first total (wire_lit first w)) (wire_named V first total) row all)

pub comparator_rows_named : (V : ℕ → Type 0) (first total : ℕ) (rows : List (List Wire)) → All (All (Known (λ l. V l.var) total)) rows
    → All (All (Named V first total)) (map (row_clause first) rows)
comparator_rows_named V first total rows all =
    All-map (All (Named V first total)) (row_clause first) rows (All-weaker (All (Known (λ l. V l.var) total)) (λ row. All (Named V first total) (row_clause first row)) (row_named V first total) rows all)
