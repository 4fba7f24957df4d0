-- The variables of what stands in slots: of literals in the one list, and of constraints in memory of their own.
use Rattle.std.proofs.Common.{◌≤◌, ℕ, List, [], ◌∷◌, map, drop}
use Rattle.std.specs.Prelude.{All}
use Rattle.std.proofs.lemmas.List.Elements.{All-nil, All-cons, All-drop, All-head, All-map, All-tail, All-take, All-weaker}
use Rattle.pb_base.specs.declared.literal.Lit.{Lit}
use Rattle.pb_unit.specs.Reaching.{IsUpTo, OfConstraint, OfLit, OfTerm}
use Rattle.pb_unit.specs.States.{standing}
use Rattle.pb_unit.specs.declared.places.Slot.{Slot}
use Rattle.pb_unit.specs.declared.places.Slot.TheVariants.{Empty, Clause, General}
use Rattle.pb_unit.specs.inner.Slots.{unit, part, clause_of, slot_at, IsAloneUpTo}
use Rattle.pb_unit.proofs.UpTo.{up_to}

pub alone-rises : (m n : ℕ) → m ≤ n → (slot : Slot) → IsAloneUpTo m slot → IsAloneUpTo n slot
alone-rises m n le Empty h = tt
alone-rises m n le (Clause start len) h = tt
alone-rises m n le (General alone) h = All-weaker (OfTerm (IsUpTo m)) (OfTerm (IsUpTo n)) (λ t k. up_to m n le t.lit.var k) alone.value.terms h

part_up_to : (most : ℕ) (lits : List Lit) (start len : ℕ) → All (OfLit (IsUpTo most)) lits → OfConstraint (IsUpTo most) (clause_of (part lits start len))
part_up_to most lits start len all =
    All-map (OfTerm (IsUpTo most)) unit (part lits start len) (All-take (OfLit (IsUpTo most)) len (drop start lits) (All-drop (OfLit (IsUpTo most)) start lits all))

-- together these are all
pub slots_up_to : (most : ℕ) (lits : List Lit) (slots : List Slot) → All (OfLit (IsUpTo most)) lits → All (IsAloneUpTo most) slots → All (OfConstraint (IsUpTo most)) (standing (map (slot_at lits) slots))
slots_up_to most lits [] all alone = All-nil (OfConstraint (IsUpTo most))
slots_up_to most lits (Empty ∷ slots) all alone = slots_up_to most lits slots all (All-tail (IsAloneUpTo most) Empty slots alone)
slots_up_to most lits (Clause start len ∷ slots) all alone =
    All-cons (OfConstraint (IsUpTo most)) (clause_of (part lits start len)) (standing (map (slot_at lits) slots)) (part_up_to most lits start len all)
    (slots_up_to most lits slots all (All-tail (IsAloneUpTo most) (Clause start len) slots alone))
slots_up_to most lits (General own ∷ slots) all alone =
    All-cons (OfConstraint (IsUpTo most)) own.value (standing (map (slot_at lits) slots)) (All-head (IsAloneUpTo most) (General own) slots alone)
    (slots_up_to most lits slots all (All-tail (IsAloneUpTo most) (General own) slots alone))
