-- The lists of ids by variables.
use Rattle.std.proofs.Common.{◌≡◌, ◌≤◌, ◌<◌, ◌+◌, ◌%◌, ◌⊎◌, inl, inr, ℕ, zero, suc, true, List, [], ◌∷◌, ◌++◌, Option, Some, None, arith, length, get_or, set, take, refl, ap, sym, ◌∙◌, subst}
use Rattle.std.specs.Prelude.{All, Contains, is_some, filter}
use Rattle.std.specs.List.{list_any, remove}
use Rattle.std.proofs.lemmas.Bool.{cases_eq, eqb-true, false≢true}
use Rattle.std.proofs.lemmas.List.{get_or-set_same, get_or-set_other, length-set, length-take-le}
use Rattle.std.proofs.lemmas.List.Folds.{Any-from_list_any}
use Rattle.std.proofs.lemmas.List.Elements.{Contains-append_left, Contains-append_right, All-map}
use Rattle.pb_base.proofs.Members.{Contains-here, Contains-nil}
use Rattle.pb_base.specs.declared.literal.Term.{Term}
use Rattle.pb_norm.specs.Constraints.{Weighted, Constraint, weighted, weights}
use Rattle.pb_database.specs.Naming.{is_of, names_var, HasNaming}
use Rattle.pb_database.specs.declared.slots.Slot.{Slot}
use Rattle.pb_database.specs.inner.Slots.{hole, whole, placed_from, slot_at, slot_of, slots_without, marked_slots, entries_from}
use Rattle.pb_database.specs.inner.Indexed.{ids_at, ids_of, IsIndexed, KeepsIds, LosesId}
use Rattle.pb_unit.proofs.Standing.{read_as}
use Rattle.pb_unit.proofs.Sweeping.{contains_filter}
use Rattle.pb_unit.proofs.Unlisting.{contains_remove}
use Rattle.pb_database.proofs.SlotLemmas.{constraint_at-slot, placed_more, length-placed_from}
use Rattle.pb_database.proofs.Mirroring.{slot_at-push, slot_at-push_other, slot_at-set, slot_at-set_other, marked-constraint}

-- ---- lists of variables

-- a variable's list has the same number among as many lists
at_number : (lists after : List (List ℕ)) (v id : ℕ) → length after ≡ length lists → Contains (ids_at after (v % length lists)) id → Contains (ids_of after v) id
at_number lists after v id size h = subst (λ (n : ℕ). Contains (ids_at after (v % n)) id) (sym size) h

-- ---- one more id

abbrev with_id : List (List ℕ) → ℕ → ℕ → List (List ℕ)
with_id lists var id = set lists var (ids_at lists var ++ id ∷ [])

with_id-keeps : (lists : List (List ℕ)) (var id : ℕ) → KeepsIds lists (with_id lists var id)
with_id-keeps lists var id = record { size = length-set lists var (ids_at lists var ++ id ∷ []); more = more }
  where
    here : (k : ℕ) → Contains (ids_at lists var) k → Contains (ids_at (with_id lists var id) var) k
    here k h = elim (cases_below lists var) [
      | inl below ↦ subst (λ (ks : List ℕ). Contains ks k) (sym (get_or-set_same lists var (ids_at lists var ++ id ∷ []) [] below)) (Contains-append_left (ids_at lists var) (id ∷ []) k h)
      | inr past ↦ absurd (Contains-nil k (subst (λ (ks : List ℕ). Contains ks k) past h))
    ]
      where
        cases_below : (lists : List (List ℕ)) (v : ℕ) → (v < length lists) ⊎ (ids_at lists v ≡ [])
        cases_below [] zero = inr refl
        cases_below [] (suc v) = inr refl
        cases_below (xs ∷ lists) zero = inl (omega arith)
        cases_below (xs ∷ lists) (suc v) = elim (cases_below lists v) [ inl h ↦ inl (omega (arith, h)) | inr e ↦ inr e ]

    more : (v k : ℕ) → Contains (ids_at lists v) k → Contains (ids_at (with_id lists var id) v) k
    more v k h = elim (cases_eq v var) [
      | inl e ↦ subst (λ (w : ℕ). Contains (ids_at (with_id lists var id) w) k) (sym e) (here k (subst (λ (w : ℕ). Contains (ids_at lists w) k) e h))
      | inr ne ↦ subst (λ (ks : List ℕ). Contains ks k) (sym (get_or-set_other lists var v (ids_at lists var ++ id ∷ []) [] ne)) h
    ]

pub keeps_with : (lists after : List (List ℕ)) (var id : ℕ) → after ≡ with_id lists var id → KeepsIds lists after
keeps_with lists after var id e = subst (KeepsIds lists) (sym e) (with_id-keeps lists var id)

pub has_with : (lists after : List (List ℕ)) (var id : ℕ) → var < length lists → after ≡ with_id lists var id → Contains (ids_at after var) id
has_with lists after var id below e =
    subst (λ (ks : List ℕ). Contains ks id) (sym (ap (λ (ls : List (List ℕ)). ids_at ls var) e ∙ get_or-set_same lists var (ids_at lists var ++ id ∷ []) [] below)) (Contains-append_right (ids_at lists var) (id ∷ []) id (Contains-here id []))

pub keeps_ids_same : (lists after : List (List ℕ)) → after ≡ lists → KeepsIds lists after
keeps_ids_same lists after e = subst (KeepsIds lists) (sym e) (record { size = refl; more = λ v k h. h })

pub keeps_ids_again : (first mid last : List (List ℕ)) → KeepsIds first mid → KeepsIds mid last → KeepsIds first last
keeps_ids_again first mid last h k = record { size = k.size ∙ h.size; more = λ v id m. k.more v id (h.more v id m) }

-- ---- the variables of terms

abbrev AddedTo : ℕ → List (List ℕ) → List Term → ℕ → ℕ → Type 0
AddedTo original lists ts id i = (k : ℕ) (d : Term) → k < i → original < (get_or ts k d).lit.var → Contains (ids_of lists (get_or ts k d).lit.var) id

pub added_more : (original : ℕ) (ts : List Term) (id i : ℕ) (t : Term) (var : ℕ) (lists after : List (List ℕ)) → i < length ts → t ≡ get_or ts i t → var ≡ t.lit.var → KeepsIds lists after → (original < var → Contains (ids_of after var) id) → AddedTo original lists ts id i → AddedTo original after ts id (i + 1)
added_more original ts id i t var lists after below at same kept here h k d low fresh = elim (cases_eq k i) [
  | inl e ↦
      let own : get_or ts i d ≡ t = read_as ts i t d below at in
      let found : var ≡ (get_or ts k d).lit.var = same ∙ ap (λ (x : Term). x.lit.var) (sym own) ∙ ap (λ (j : ℕ). (get_or ts j d).lit.var) (sym e) in
      subst (λ (v : ℕ). original < v → Contains (ids_of after v) id) found here fresh
  | inr ne ↦ at_number lists after (get_or ts k d).lit.var id kept.size (kept.more ((get_or ts k d).lit.var % length lists) id (h k d (omega (arith, ne, low)) fresh))
]

pub all_added : (original : ℕ) (ts : List Term) (id i : ℕ) (lists : List (List ℕ)) → length ts ≤ i → AddedTo original lists ts id i → All (λ t. original < t.lit.var → Contains (ids_of lists t.lit.var) id) (weights ts)
all_added original ts id i lists past h = All-map {X = Weighted} (λ t. original < t.lit.var → Contains (ids_of lists t.lit.var) id) weighted ts (λ k d below. h k d (omega (arith, below, past)))

-- ---- what is indexed

pub indexed-kept : (original : ℕ) (ss : List Slot) (lists after : List (List ℕ)) → KeepsIds lists after → IsIndexed original ss lists → IsIndexed original ss after
indexed-kept original ss lists after k h = record {
  enough = subst (λ (n : ℕ). 0 < n) (sym k.size) h.enough;
  complete = λ id v fresh named. at_number lists after v id k.size (k.more (v % length lists) id (h.complete id v fresh named));
}

-- the same constraints
pub indexed-same : (original : ℕ) (ss ss' : List Slot) (lists : List (List ℕ)) → ((k : ℕ) → (slot_at ss' k).constraint ≡ (slot_at ss k).constraint) → IsIndexed original ss lists → IsIndexed original ss' lists
indexed-same original ss ss' lists same h = record { enough = h.enough; complete = complete }
  where
    complete : (id v : ℕ) → original < v → names_var v (slot_of ss' id).constraint ≡ true → Contains (ids_of lists v) id
    complete zero v fresh named = absurd (false≢true named)
    complete (suc k) v fresh named = h.complete (suc k) v fresh (ap (names_var v) (sym (same k)) ∙ named)

pub indexed-marked : (original id : ℕ) (ss ss' : List Slot) (lists : List (List ℕ)) → ss' ≡ marked_slots ss id → IsIndexed original ss lists → IsIndexed original ss' lists
indexed-marked original id ss ss' lists e h = subst (λ (ts : List Slot). IsIndexed original ts lists) (sym e) (indexed-same original ss (marked_slots ss id) lists (marked-constraint ss id) h)

pub indexed-without : (original id : ℕ) (ss ss' : List Slot) (lists : List (List ℕ)) → ss' ≡ slots_without ss id → IsIndexed original ss lists → IsIndexed original ss' lists
indexed-without original zero ss ss' lists e h = subst (λ (ts : List Slot). IsIndexed original ts lists) (sym e) h
indexed-without original (suc k) ss ss' lists e h = subst (λ (ts : List Slot). IsIndexed original ts lists) (sym e) (record { enough = h.enough; complete = complete })
  where
    complete : (id v : ℕ) → original < v → names_var v (slot_of (set ss k hole) id).constraint ≡ true → Contains (ids_of lists v) id
    complete zero v fresh named = absurd (false≢true named)
    complete (suc j) v fresh named = elim (cases_eq j k) [
      | inl same ↦ absurd (false≢true (sym (ap (λ (s : Slot). names_var v s.constraint) (ap (slot_at (set ss k hole)) same ∙ slot_at-set ss k)) ∙ named))
      | inr ne ↦ h.complete (suc j) v fresh (ap (λ (s : Slot). names_var v s.constraint) (sym (slot_at-set_other ss k j ne)) ∙ named)
    ]

gone-slot : (ss : List Slot) (id : ℕ) → (slot_of (slots_without ss id) id).constraint ≡ None
gone-slot ss zero = refl
gone-slot ss (suc k) = ap (λ (s : Slot). s.constraint) (slot_at-set ss k)

-- the constraint of an id goes, and the id from lists
pub indexed-lost : (original id : ℕ) (ss ss' : List Slot) (lists after : List (List ℕ)) → ss' ≡ slots_without ss id → LosesId id lists after → IsIndexed original ss lists → IsIndexed original ss' after
indexed-lost original id ss ss' lists after e loses h =
    let kept = indexed-without original id ss ss' lists e h in
    record {
      enough = subst (λ (n : ℕ). 0 < n) (sym loses.size) kept.enough;
      complete = λ i v fresh named. at_number lists after v i loses.size (loses.others (v % length lists) i (other i v named) (kept.complete i v fresh named));
    }
  where
    other : (i v : ℕ) → names_var v (slot_of ss' i).constraint ≡ true → i ≡ id → ⊥
    other i v named same =
        let none : (slot_of ss' i).constraint ≡ None = ap (λ (j : ℕ). (slot_of ss' j).constraint) same ∙ (ap (λ (ts : List Slot). (slot_of ts id).constraint) e ∙ gone-slot ss id) in
        false≢true (sym (ap (names_var v) none) ∙ named)

pub loses-none : (id : ℕ) (lists : List (List ℕ)) → LosesId id lists lists
loses-none id lists = record { size = refl; others = λ v k ne h. h }

pub loses-again : (id : ℕ) (first mid last : List (List ℕ)) → LosesId id first mid → LosesId id mid last → LosesId id first last
loses-again id first mid last h k = record { size = k.size ∙ h.size; others = λ v j ne m. k.others v j ne (h.others v j ne m) }

-- an id is taken out of a list
pub less_one : (id i : ℕ) (ids after : List ℕ) → i < length ids → ((d : ℕ) → get_or ids i d ≡ id) → after ≡ remove ids i → (k : ℕ) → (k ≡ id → ⊥) → Contains ids k → Contains after k
less_one id i ids after below at e k ne h = subst (λ (ks : List ℕ). Contains ks k) (sym e) (contains_remove ids i id k below (at id) ne h)

-- the list of one variable loses it
pub loses-at : (id var : ℕ) (lists : List (List ℕ)) (ids : List ℕ) → var < length lists → ((k : ℕ) → (k ≡ id → ⊥) → Contains (ids_at lists var) k → Contains ids k) → LosesId id lists (set lists var ids)
loses-at id var lists ids below h = record {
  size = length-set lists var ids;
  others = λ v k ne m. elim (cases_eq v var) [
    | inl e ↦ subst (λ (ks : List ℕ). Contains ks k) (sym (ap (ids_at (set lists var ids)) e ∙ get_or-set_same lists var ids [] below)) (h k ne (subst (λ (w : ℕ). Contains (ids_at lists w) k) e m))
    | inr other ↦ subst (λ (ks : List ℕ). Contains ks k) (sym (get_or-set_other lists var v ids [] other)) m
  ];
}

-- the ids of what stands are left
pub indexed-swept : (original : ℕ) (ss : List Slot) (lists after : List (List ℕ)) → length after ≡ length lists → ((v : ℕ) → ids_at after v ≡ filter (λ (id : ℕ). is_some (slot_of ss id).constraint) (ids_at lists v)) → IsIndexed original ss lists → IsIndexed original ss after
indexed-swept original ss lists after size swept h = record {
  enough = subst (λ (n : ℕ). 0 < n) (sym size) h.enough;
  complete = λ id v fresh named. at_number lists after v id size (subst (λ (ks : List ℕ). Contains ks id) (sym (swept (v % length lists)))
      (contains_filter (λ (id : ℕ). is_some (slot_of ss id).constraint) (ids_of lists v) id (stands v (slot_of ss id).constraint named) (h.complete id v fresh named)));
}
  where
    stands : (v : ℕ) (o : Option Constraint) → names_var v o ≡ true → is_some o ≡ true
    stands v None e = absurd (false≢true e)
    stands v (Some c) e = refl

-- a term of the variable
pub named-contains : (original : ℕ) (lists : List (List ℕ)) (v id : ℕ) (ts : List Weighted) → original < v → list_any (is_of v) ts ≡ true → All (λ t. original < t.lit.var → Contains (ids_of lists t.lit.var) id) ts → Contains (ids_of lists v) id
named-contains original lists v id ts fresh named all =
    let found = Any-from_list_any (is_of v) ts named in
    let var : (get_or ts found.0 found.1).lit.var ≡ v = ap (λ (t : Weighted). t.lit.var) found.3 ∙ eqb-true found.1.lit.var v found.4 in
    subst (λ (w : ℕ). original < w → Contains (ids_of lists w) id) var (all found.0 found.1 found.2) fresh

pub indexed-pushed : (original : ℕ) (ss ss' : List Slot) (lists : List (List ℕ)) (c : Constraint) (p id : ℕ) → ss' ≡ ss ++ whole c p ∷ [] → id ≡ length ss + 1 → All (λ t. original < t.lit.var → Contains (ids_of lists t.lit.var) id) c.terms → IsIndexed original ss lists → IsIndexed original ss' lists
indexed-pushed original ss ss' lists c p id e is_next all h = subst (λ (ts : List Slot). IsIndexed original ts lists) (sym e) (record { enough = h.enough; complete = complete })
  where
    complete : (i v : ℕ) → original < v → names_var v (slot_of (ss ++ whole c p ∷ []) i).constraint ≡ true → Contains (ids_of lists v) i
    complete zero v fresh named = absurd (false≢true named)
    complete (suc k) v fresh named = elim (cases_eq k (length ss)) [
      | inl last ↦
          let own : list_any (is_of v) c.terms ≡ true = ap (λ (s : Slot). names_var v s.constraint) (sym (ap (slot_at (ss ++ whole c p ∷ [])) last ∙ slot_at-push ss (whole c p))) ∙ named in
          let same : id ≡ suc k = omega (arith, is_next, last) in
          subst (Contains (ids_of lists v)) same (named-contains original lists v id c.terms fresh own all)
      | inr ne ↦ h.complete (suc k) v fresh (ap (λ (s : Slot). names_var v s.constraint) (sym (slot_at-push_other ss (whole c p) k ne)) ∙ named)
    ]

pub indexed-empty : (original vars : ℕ) (lists : List (List ℕ)) → length lists ≡ vars + 1 → IsIndexed original [] lists
indexed-empty original vars lists e = record { enough = omega (arith, e); complete = complete }
  where
    complete : (id v : ℕ) → original < v → names_var v (slot_of [] id).constraint ≡ true → Contains (ids_of lists v) id
    complete zero v fresh named = absurd (false≢true named)
    complete (suc zero) v fresh named = absurd (false≢true named)
    complete (suc (suc k)) v fresh named = absurd (false≢true named)

-- ---- of a variable

pub has_naming : (original : ℕ) (ss : List Slot) (lists : List (List ℕ)) (v : ℕ) → original < v → IsIndexed original ss lists → HasNaming (entries_from 1 ss) v (ids_of lists v)
has_naming original ss lists v fresh h id named = h.complete id v fresh (ap (names_var v) (sym (constraint_at-slot id ss)) ∙ named)

-- ---- constraints that are loaded

pub loaded_more : (original : ℕ) (loaded : List Constraint) (i id : ℕ) (c : Constraint) (ts : List Weighted) (lists after : List (List ℕ)) → i < length loaded → c ≡ get_or loaded i c → id ≡ i + 1 → ts ≡ c.terms →
    KeepsIds lists after → All (λ t. original < t.lit.var → Contains (ids_of after t.lit.var) id) ts → IsIndexed original (placed_from 0 (take i loaded)) lists → IsIndexed original (placed_from 0 (take (i + 1) loaded)) after
loaded_more original loaded i id c ts lists after below at next terms kept added h =
    let front = placed_from 0 (take i loaded) in
    let count : id ≡ length front + 1 = omega (arith, next, length-placed_from 0 (take i loaded), length-take-le i loaded (omega (arith, below))) in
    indexed-pushed original front (placed_from 0 (take (i + 1) loaded)) after c i id (sym (placed_more loaded i c c front (front ++ whole c i ∷ []) below at refl refl refl)) count
    (subst (λ (us : List Weighted). All (λ (t : Weighted). original < t.lit.var → Contains (ids_of after t.lit.var) id) us) terms added) (indexed-kept original front lists after kept h)
