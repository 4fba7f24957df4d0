-- How many literals the clauses in slots have.
use Rattle.std.proofs.Common.{◌≡◌, ◌≤◌, ◌+◌, ℕ, List, [], ◌∷◌, ◌∙◌, map, arith, length, drop, length-drop}
use Rattle.std.specs.Prelude.{sum_by}
use Rattle.std.proofs.lemmas.List.{length-map, length-take}
use Rattle.std.proofs.lemmas.List.Elements.{All-head, All-tail}
use Rattle.std.proofs.lemmas.List.Sums.{sum_by-cons}
use Rattle.pb_base.specs.declared.literal.Lit.{Lit}
use Rattle.pb_norm.specs.Constraints.{Constraint}
use Rattle.pb_unit.specs.declared.places.Slot.{Slot}
use Rattle.pb_unit.specs.declared.places.Slot.TheVariants.{Empty, Clause, General}
use Rattle.pb_unit.specs.Reads.{lit_count}
use Rattle.pb_unit.specs.inner.Slots.{unit, part, clause_of, slot_at, slot_lits, IsSlot, AreSlots}
use Rattle.pb_unit.specs.States.{standing}

all_there : (lits : List Lit) (start len : ℕ) → start + len ≤ length lits → length (part lits start len) ≡ len
all_there lits start len within = omega (arith, length-take len (drop start lits), length-drop start lits, within)

-- no more than what stands has
pub few_lits : (lits : List Lit) (slots : List Slot) → AreSlots (length lits) slots → sum_by slot_lits slots ≤ lit_count (standing (map (slot_at lits) slots))
few_lits lits [] ok = omega arith
few_lits lits (Empty ∷ slots) ok = omega (arith, sum_by-cons slot_lits Empty slots, few_lits lits slots (All-tail (IsSlot (length lits)) Empty slots ok))
few_lits lits (Clause start len ∷ slots) ok =
    let here : Constraint = clause_of (part lits start len) in
    let wide : length here.terms ≡ len = length-map (part lits start len) unit ∙ all_there lits start len (All-head (IsSlot (length lits)) (Clause start len) slots ok) in
    omega (
      arith,
      sum_by-cons slot_lits (Clause start len) slots,
      sum_by-cons (λ (d : Constraint). length d.terms) here (standing (map (slot_at lits) slots)),
      wide,
      few_lits lits slots (All-tail (IsSlot (length lits)) (Clause start len) slots ok),
    )
few_lits lits (General alone ∷ slots) ok =
    omega (
      arith,
      sum_by-cons slot_lits (General alone) slots,
      sum_by-cons (λ (d : Constraint). length d.terms) alone.value (standing (map (slot_at lits) slots)),
      few_lits lits slots (All-tail (IsSlot (length lits)) (General alone) slots ok),
    )
