-- The rows of the comparator follow from the last running sum.
use Rattle.std.proofs.Common.{◌≡◌, ◌<◌, ℕ, true, false, not, List, [], ◌∷◌, arith, refl, ap, sym, ◌∙◌, get_or, inl, inr}
use Rattle.std.specs.Prelude.{All, Contains, Option}
use Rattle.std.specs.List.{list_any}
use Rattle.std.proofs.lemmas.Bool.{cases_Bool, cases_lt, both_ways, or_from, false≢true}
use Rattle.std.proofs.lemmas.List.Elements.{All-nil, All-cons, All-head, All-tail, All-map, All-contains}
use Rattle.pb_base.specs.declared.literal.Lit.{Lit}
use Rattle.pb_base.specs.Literals.{Assignment, negated, lit_value}
use Rattle.pb_base.proofs.LiteralLemmas.{lit_value-negated}
use Rattle.pb_base.proofs.Members.{Contains-here, Contains-there}
use Rattle.pb_norm.specs.Constraints.{Constraint}
use Rattle.pb_norm.specs.ClauseForm.{is_tautology}
use Rattle.pb_norm.proofs.ClauseTerms.{tautology-opposites}
use Rattle.pb_adder.specs.declared.gate.Wire.{Wire}
use Rattle.pb_adder.specs.Gates.{wire_lit}
use Rattle.pb_adder.specs.Comparator.{comparator_rows, row_clause, comparator}
use Rattle.pb_adder.specs.laws.ComparatorLaws.{bound_rows}
use Rattle.pb_adder.specs.laws.NetworkLaws.{number}
use Rattle.pb_adder.specs.inner.RunningSums.{IsRunning}
use Rattle.pb_adder.specs.laws.Chains.{on}
use Rattle.pb_derive.specs.inner.Refuted.{IsRefuting}
use Rattle.pb_derive.proofs.ShortRups.{short_refuted}

row_none : (first : ℕ) (a : Assignment) (row : List Wire) → ((l : Lit) → Contains (row_clause first row) l → lit_value a l ≡ false) → list_any (λ w. not (on first (lit_value a) w)) row ≡ false
row_none first a [] falses = refl
row_none first a (w ∷ row) falses =
    or_from (not (on first (lit_value a) w)) (list_any (λ w. not (on first (lit_value a) w)) row)
    (sym (lit_value-negated a (wire_lit first w)) ∙ falses (negated (wire_lit first w)) (Contains-here (negated (wire_lit first w)) (row_clause first row)))
    (row_none first a row (λ l h. falses l (Contains-there (negated (wire_lit first w)) (row_clause first row) l h)))

-- the literal of the wire is true
abbrev pub IsTrueWire : ℕ → Assignment → Wire → Type 0
IsTrueWire first a w = lit_value a (wire_lit first w) ≡ true

row_false : (first : ℕ) (a : Assignment) (row : List Wire) → All (IsTrueWire first a) row → All (λ l. lit_value a l ≡ false) (row_clause first row)
row_false first a [] h = All-nil {X = Lit} (λ l. lit_value a l ≡ false)
row_false first a (w ∷ row) h =
    All-cons {X = Lit} (λ l. lit_value a l ≡ false) (negated (wire_lit first w)) (row_clause first row)
    (lit_value-negated a (wire_lit first w) ∙ ap not (All-head (IsTrueWire first a) w row h))
    (row_false first a row (All-tail (IsTrueWire first a) w row h))

-- literals that are all false under some assignment are not opposite
row_plain : (first : ℕ) (a : Assignment) (row : List Wire) → All (IsTrueWire first a) row → is_tautology (row_clause first row) ≡ false
row_plain first a row h =
    let clause = row_clause first row in
    let falses = row_false first a row h in
    elim (cases_Bool (is_tautology clause)) as (λ _. is_tautology clause ≡ false) [
      | inr fails ↦ fails
      | inl both ↦
          let pair = tautology-opposites clause both in
          let one = All-contains {X = Lit} (λ l. lit_value a l ≡ false) clause pair.0 falses pair.1 in
          let two = All-contains {X = Lit} (λ l. lit_value a l ≡ false) clause (negated pair.0) falses pair.2 in
          absurd (false≢true (sym two ∙ lit_value-negated a pair.0 ∙ ap not one))
    ]

pub rows_refuted : (first bound : ℕ) (ends : List (Option Wire)) (c : Constraint) (a : Assignment) → IsRunning bound (λ p. number (on first p) ends) c → All (All (IsTrueWire first a)) (comparator_rows bound ends)
    → All (IsRefuting (c ∷ [])) (comparator first bound ends)
rows_refuted first bound ends c a running wires =
    All-map {X = List Lit} (IsRefuting (c ∷ [])) (row_clause first) (comparator_rows bound ends) (λ k d h.
    let row : List Wire = get_or (comparator_rows bound ends) k d in
    short_refuted c (row_clause first row) running.ascending (row_plain first a row (wires k d h)) (λ b falses.
    let p = on first (lit_value b) in
    let none = row_none first b row (λ l has. All-contains {X = Lit} (λ l. lit_value b l ≡ false) (row_clause first row) l falses has) in
    let above : bound < number p ends = elim (cases_lt bound (number p ends)) as (λ _. bound < number p ends) [
      | inl more ↦ more
      | inr within ↦ absurd (both_ways (list_any (λ w. not (p w)) row) none (bound_rows p bound ends within k d h))
    ] in
    omega (arith, running.exact b, above)))
