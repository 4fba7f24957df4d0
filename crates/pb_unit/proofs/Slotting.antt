-- Constraints in their slots.
use Rattle.std.proofs.Common.{◌≡◌, ◌≤◌, ◌<◌, ◌+◌, ◌-◌, ℕ, Bool, true, false, cond, List, [], ◌∷◌, ◌++◌, Option, Some, None, map, arith, length, get_or, set, take, drop, refl, ap, sym, ◌∙◌, subst, append_assoc}
use Rattle.std.specs.Prelude.{All, nat_lt}
use Rattle.std.specs.Bool.{OnTrue, OnFalse}
use Rattle.std.proofs.lemmas.List.{length-map, length-take, take-take, drop-take, map-set, map_push, get_or-map, take_all, take_more}
use Rattle.std.proofs.lemmas.List.Elements.{All-nil, All-cons, All-head, All-tail, All-weaker, All-set, All-push}
use Rattle.pb_base.specs.declared.literal.Lit.{Lit}
use Rattle.pb_base.specs.declared.literal.Term.{Term}
use Rattle.pb_norm.specs.Constraints.{Weighted, Constraint, term_of, terms_of, weights, HasVarsWithin}
use Rattle.pb_unit.specs.declared.places.Slot.{Slot}
use Rattle.pb_unit.specs.declared.places.Slot.TheVariants.{Empty, Clause, General}
use Rattle.pb_unit.specs.inner.Slots.{unit, part, clause_of, slot_at, with_slot, IsSlot, AreSlots}
use Rattle.pb_unit.specs.States.{at_place, placed}

-- ---- a longer list of literals

pub part_longer : (lits lits' : List Lit) (start len : ℕ) → take (length lits) lits' ≡ lits → start + len ≤ length lits → part lits' start len ≡ part lits start len
part_longer lits lits' start len longer within =
    let n : ℕ = length lits in
    let rest : ℕ = n - start in
    let e : start + rest ≡ n = omega (arith, within) in
    sym (take-take len rest (drop start lits') (omega (arith, within))) ∙
    (ap (take len) (sym (drop-take start rest lits')) ∙
    (ap (λ (k : ℕ). take len (drop start (take k lits'))) e ∙ ap (part_of start len) longer))
  where
    part_of : ℕ → ℕ → List Lit → List Lit
    part_of start len ls = part ls start len

slot_longer : (lits lits' : List Lit) (slot : Slot) → take (length lits) lits' ≡ lits → IsSlot (length lits) slot → slot_at lits' slot ≡ slot_at lits slot
slot_longer lits lits' Empty longer h = refl
slot_longer lits lits' (Clause start len) longer h = ap (λ (ls : List Lit). Some (clause_of ls)) (part_longer lits lits' start len longer h)
slot_longer lits lits' (General alone) longer h = refl

pub slots_longer : (lits lits' : List Lit) (slots : List Slot) → take (length lits) lits' ≡ lits → AreSlots (length lits) slots → map (slot_at lits') slots ≡ map (slot_at lits) slots
slots_longer lits lits' [] longer h = refl
slots_longer lits lits' (slot ∷ slots) longer h =
    ap (λ (o : Option Constraint). o ∷ map (slot_at lits') slots) (slot_longer lits lits' slot longer (All-head (IsSlot (length lits)) slot slots h)) ∙
    ap (λ (os : List (Option Constraint)). slot_at lits slot ∷ os) (slots_longer lits lits' slots longer (All-tail (IsSlot (length lits)) slot slots h))

wider : (n m : ℕ) (slot : Slot) → n ≤ m → IsSlot n slot → IsSlot m slot
wider n m Empty le h = tt
wider n m (Clause start len) le h = omega (arith, le, h)
wider n m (General alone) le h = tt

pub slots_wider : (lits lits' : List Lit) (slots : List Slot) → take (length lits) lits' ≡ lits → AreSlots (length lits) slots → AreSlots (length lits') slots
slots_wider lits lits' slots longer h =
    let le : length lits ≤ length lits' = omega (arith, ap (λ (ls : List Lit). length ls) longer, length-take (length lits) lits') in
    All-weaker (IsSlot (length lits)) (IsSlot (length lits')) (λ s x. wider (length lits) (length lits') s le x) slots h

-- ---- a slot more

pub slots_placed : (n : ℕ) (slots : List Slot) (place : ℕ) (slot : Slot) → IsSlot n slot → AreSlots n slots → AreSlots n (with_slot slots place slot)
slots_placed n slots place slot here h = by_test (nat_lt place (length slots))
  where
    by_test : (b : Bool) → AreSlots n (cond b (set slots place slot) (slots ++ slot ∷ []))
    by_test true = All-set (IsSlot n) slots place slot here h
    by_test false = All-push (IsSlot n) slots slot h here

pub placed_slot : (lits : List Lit) (slots : List Slot) (place : ℕ) (slot : Slot) (c : Constraint) → slot_at lits slot ≡ Some c → map (slot_at lits) (with_slot slots place slot) ≡ placed place c (map (slot_at lits) slots)
placed_slot lits slots place slot c is =
    by_test (nat_lt place (length slots)) ∙
    ap (λ (n : ℕ). cond (nat_lt place n) (set (map (slot_at lits) slots) place (Some c)) (map (slot_at lits) slots ++ Some c ∷ [])) (sym (length-map slots (slot_at lits)))
  where
    by_test : (b : Bool) → map (slot_at lits) (cond b (set slots place slot) (slots ++ slot ∷ [])) ≡ cond b (set (map (slot_at lits) slots) place (Some c)) (map (slot_at lits) slots ++ Some c ∷ [])
    by_test true = map-set (slot_at lits) slots place slot ∙ ap (set (map (slot_at lits) slots) place) is
    by_test false = map_push (slot_at lits) slots slot ∙ ap (λ (o : Option Constraint). map (slot_at lits) slots ++ o ∷ []) is

-- what is read at a place
pub at_slot : (lits : List Lit) (slots : List Slot) (place : ℕ) (slot : Slot) → place < length slots → slot ≡ get_or slots place slot → at_place (map (slot_at lits) slots) place ≡ slot_at lits slot
at_slot lits slots place slot below at = get_or-map (slot_at lits) slots place slot None below ∙ ap (slot_at lits) (sym at)

pub units_all : (P : Lit → Type 0) (ls : List Lit) → All (λ (t : Weighted). P t.lit) (map unit ls) → All P ls
units_all P [] h = All-nil P
units_all P (l ∷ ls) h = All-cons P l ls (All-head (λ (t : Weighted). P t.lit) (unit l) (map unit ls) h) (units_all P ls (All-tail (λ (t : Weighted). P t.lit) (unit l) (map unit ls) h))

pub lits_within : (vars : ℕ) (ls : List Lit) → HasVarsWithin vars (map unit ls) → All (λ (l : Lit). l.var ≤ vars) ls
lits_within vars ls h = units_all (λ (l : Lit). l.var ≤ vars) ls h

-- ---- the slot of a clause

map_fused : (ts : List Term) → map (λ (t : Term). unit t.lit) ts ≡ map unit (map (λ (t : Term). t.lit) ts)
map_fused [] = refl
map_fused (t ∷ ts) = ap (λ (us : List Weighted). unit t.lit ∷ us) (map_fused ts)

pub clause_in : (lits lits' : List Lit) (ts : List Term) (start len : ℕ) (c : Constraint) → lits' ≡ lits ++ map (λ (t : Term). t.lit) ts → start ≡ length lits → len ≡ length ts → weights ts ≡ map (λ (t : Term). unit t.lit) ts → weights ts ≡ c.terms → c.degree ≡ 1 → clause_of (part lits' start len) ≡ c
clause_in lits lits' ts start len c pushed at count units terms degree =
    ap clause_of here ∙ (ap (λ (us : List Weighted). record { terms = us; degree = 1 }) (sym (map_fused ts) ∙ (sym units ∙ terms)) ∙ ap (λ (d : ℕ). record { terms = c.terms; degree = d }) (sym degree))
  where
    new : List Lit
    new = map (λ (t : Term). t.lit) ts

    here : part lits' start len ≡ new
    here =
        ap (λ (ls : List Lit). part ls start len) pushed ∙
        (ap (λ (n : ℕ). take len (drop n (lits ++ new))) at ∙
        (ap (take len) (drop_front lits new) ∙
        take_all len new (omega (arith, count, length-map ts (λ (t : Term). t.lit)))))
      where
        drop_front : (a b : List Lit) → drop (length a) (a ++ b) ≡ b
        drop_front [] b = refl
        drop_front (x ∷ xs) b = drop_front xs b

pub slots_read : {lits lits' : List Lit} {slots slots' : List Slot} → lits ≡ lits' → slots ≡ slots' → map (slot_at lits) slots ≡ map (slot_at lits') slots'
slots_read {lits} {lits'} {slots} {slots'} a b = ap (λ (ls : List Lit). map (slot_at ls) slots) a ∙ ap (map (slot_at lits')) b

pub put_view : (b : Bool) (lits lits' : List Lit) (slots slots' : List Slot) (place : ℕ) (slot : Slot) (c : Constraint) → take (length lits) lits' ≡ lits → AreSlots (length lits) slots → slot_at lits' slot ≡ Some c → OnTrue b (slots' ≡ with_slot slots place slot) → OnFalse b (slots' ≡ slots) → map (slot_at lits') slots' ≡ cond b (placed place c (map (slot_at lits) slots)) (map (slot_at lits) slots)
put_view true lits lits' slots slots' place slot c longer h is e _ = ap (map (slot_at lits')) e ∙ (placed_slot lits' slots place slot c is ∙ ap (placed place c) (slots_longer lits lits' slots longer h))
put_view false lits lits' slots slots' place slot c longer h is _ e = ap (map (slot_at lits')) e ∙ slots_longer lits lits' slots longer h

pub put_slots : (b : Bool) (lits lits' : List Lit) (slots slots' : List Slot) (place : ℕ) (slot : Slot) → take (length lits) lits' ≡ lits → AreSlots (length lits) slots → IsSlot (length lits') slot → OnTrue b (slots' ≡ with_slot slots place slot) → OnFalse b (slots' ≡ slots) → AreSlots (length lits') slots'
put_slots true lits lits' slots slots' place slot longer h is e _ = subst (AreSlots (length lits')) (sym e) (slots_placed (length lits') slots place slot is (slots_wider lits lits' slots longer h))
put_slots false lits lits' slots slots' place slot longer h is _ e = subst (AreSlots (length lits')) (sym e) (slots_wider lits lits' slots longer h)

pub push_view : (b : Bool) (lits lits' : List Lit) (slots slots' : List Slot) (slot : Slot) (c : Constraint) → take (length lits) lits' ≡ lits → AreSlots (length lits) slots → slot_at lits' slot ≡ Some c → slots' ≡ cond b (slots ++ slot ∷ []) slots → map (slot_at lits') slots' ≡ cond b (map (slot_at lits) slots ++ Some c ∷ []) (map (slot_at lits) slots)
push_view true lits lits' slots slots' slot c longer h is e =
    ap (map (slot_at lits')) e ∙ (map_push (slot_at lits') slots slot ∙ (ap (λ (o : Option Constraint). map (slot_at lits') slots ++ o ∷ []) is ∙ ap (λ (ps : List (Option Constraint)). ps ++ Some c ∷ []) (slots_longer lits lits' slots longer h)))
push_view false lits lits' slots slots' slot c longer h is e = ap (map (slot_at lits')) e ∙ slots_longer lits lits' slots longer h

pub push_slots : (b : Bool) (lits lits' : List Lit) (slots slots' : List Slot) (slot : Slot) → take (length lits) lits' ≡ lits → AreSlots (length lits) slots → IsSlot (length lits') slot → slots' ≡ cond b (slots ++ slot ∷ []) slots → AreSlots (length lits') slots'
push_slots true lits lits' slots slots' slot longer h is e = subst (AreSlots (length lits')) (sym e) (All-push (IsSlot (length lits')) slots slot (slots_wider lits lits' slots longer h) is)
push_slots false lits lits' slots slots' slot longer h is e = subst (AreSlots (length lits')) (sym e) (slots_wider lits lits' slots longer h)

pub at_read : {lits lits' : List Lit} {slots slots' : List Slot} {ps : List (Option Constraint)} → lits ≡ lits' → slots ≡ slots' → map (slot_at lits') slots' ≡ ps → (place : ℕ) → at_place (map (slot_at lits) slots) place ≡ at_place ps place
at_read a b is place = ap (λ (qs : List (Option Constraint)). at_place qs place) (slots_read a b ∙ is)

-- ---- lists that are copied item by item

-- one more item at the end of what was copied
pub copied_more : {X Y : Type 0} (f : X → Y) (old : List Y) (xs : List X) (i : ℕ) (x : X) → i < length xs → x ≡ get_or xs i x → (old ++ map f (take i xs)) ++ f x ∷ [] ≡ old ++ map f (take (i + 1) xs)
copied_more {X} {Y} f old xs i x below is =
    append_assoc old (map f (take i xs)) (f x ∷ []) ∙
    sym (ap (λ (ys : List X). old ++ map f ys) (take_more xs i x below ∙ ap (λ (y : X). take i xs ++ y ∷ []) (sym is)) ∙
    ap (λ (ys : List Y). old ++ ys) (map_push f (take i xs) x))

-- one more literal, as a term with the coefficient 1
pub copied_unit : (old : List Term) (xs : List Lit) (i : ℕ) (x : Lit) → i < length xs → x ≡ get_or xs i x → (old ++ terms_of (map unit (take i xs))) ++ term_of (unit x) ∷ [] ≡ old ++ terms_of (map unit (take (i + 1) xs))
copied_unit old xs i x below is =
    append_assoc old (terms_of (map unit (take i xs))) (term_of (unit x) ∷ []) ∙
    sym (ap (λ (ls : List Lit). old ++ terms_of (map unit ls)) (take_more xs i x below ∙ ap (λ (l : Lit). take i xs ++ l ∷ []) (sym is)) ∙
    (ap (λ (ws : List Weighted). old ++ terms_of ws) (map_push unit (take i xs) x) ∙
    ap (λ (ts : List Term). old ++ ts) (map_push term_of (map unit (take i xs)) (unit x))))
