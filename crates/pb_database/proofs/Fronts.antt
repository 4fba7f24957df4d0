-- Constraints that come into the engine late.
use Rattle.std.proofs.Common.{◌≡◌, ◌≤◌, ◌<◌, ◌+◌, ◌⊎◌, inl, inr, ℕ, zero, suc, Bool, true, cond, List, [], ◌∷◌, ◌++◌, Some, None, arith, length, get_or, set, take, refl, ap, sym, ◌∙◌, subst}
use Rattle.std.proofs.lemmas.List.{take_all, take_more, take_more_set, take-append-le, take-set-le, get_or-take, length-set}
use Rattle.std.proofs.Math.Seq.{take-set-lt}
use Rattle.pb_norm.specs.Constraints.{Constraint}
use Rattle.pb_steps.specs.Database.{Database, constraint_at}
use Rattle.std.specs.Prelude.{is_some}
use Rattle.pb_unit.specs.Trails.{Held}
use Rattle.pb_unit.specs.States.{EngineState, added, removed, at_place, IsFree}
use Rattle.pb_database.specs.declared.slots.Slot.{Slot}
use Rattle.pb_database.specs.inner.Slots.{hole, whole, slot_at, slot_of, place_of, slots_without, slots_placed, marked_slots, with_entry, entries_from}
use Rattle.pb_database.specs.inner.Mirrors.{IsMirrored, IsKept, KeepsEngine, AreSame, AreWithin}
use Rattle.pb_database.specs.inner.Indexed.{IsIndexed}
use Rattle.pb_database.specs.Sound.{IsDatabase}
use Rattle.pb_database.proofs.SlotLemmas.{constraint_at-slot, same_database}
use Rattle.pb_database.proofs.Mirroring.{mirrored-pushed, mirrored-none, mirrored-kept, mirrored-same, mirrored-without, mirrored-without_none, mirrored-marked, some-none}
use Rattle.pb_database.proofs.Refuting.{gone_from}
use Rattle.pb_database.proofs.Indexing.{indexed-same}

-- ---- the same database

entries-placed : (n k p : ℕ) (ss : List Slot) → entries_from n (slots_placed ss k p) ≡ entries_from n ss
entries-placed n k p [] = refl
entries-placed n zero p (s ∷ ss) = refl
entries-placed n (suc k) p (s ∷ ss) = ap (with_entry n s.constraint s.out) (entries-placed (n + 1) k p ss)

pub same-placed : (k p : ℕ) (ss : List Slot) → AreSame ss (slots_placed ss k p)
same-placed k p ss = λ original vars. same_database original vars (slots_placed ss k p) (entries_from 1 ss) (length ss) (entries-placed 1 k p ss) (length-set ss k (record (get_or ss k hole) { place = p }))

pub same-again : (ss ts us : List Slot) → AreSame ss ts → AreSame ts us → AreSame ss us
same-again ss ts us h k = λ original vars. k original vars ∙ h original vars

pub same-length : (ss ts : List Slot) → AreSame ss ts → length ts ≡ length ss
same-length ss ts h = let next = ap (λ (db : Database). db.next) (h 0 0) in omega (arith, next)

pub same-constraint : (ss ts : List Slot) → AreSame ss ts → (k : ℕ) → (slot_at ts k).constraint ≡ (slot_at ss k).constraint
same-constraint ss ts h k = sym (constraint_at-slot (suc k) ts) ∙ (ap (λ (db : Database). constraint_at db.live (suc k)) (h 0 0) ∙ constraint_at-slot (suc k) ss)

pub within-same : (vars : ℕ) (ss ts : List Slot) → AreSame ss ts → AreWithin vars ss → AreWithin vars ts
within-same vars ss ts h w = λ k c e. w k c (sym (same-constraint ss ts h k) ∙ e)

-- ---- what is kept

-- over the same database, with another front in another engine
pub kept-same : (original vars most n m : ℕ) (ss ts : List Slot) (s t : EngineState) (idle : ℕ) (rounds : Held) (named : List (List ℕ)) → IsKept original vars most ss n s idle rounds named → AreSame ss ts → m ≤ length ts → IsMirrored s.vars (take m ts) t → IsKept original vars most ts m t idle rounds named
kept-same original vars most n m ss ts s t idle rounds named kept same few mirrored = record {
  sound = subst IsDatabase (sym (same original vars)) kept.sound;
  few = few;
  mirrored = subst (λ (w : ℕ). IsMirrored w (take m ts) t) kept.mirrored.vars_are mirrored;
  is_idle = kept.is_idle;
  beside = kept.beside;
  indexed = indexed-same original ss ts named (same-constraint ss ts same) kept.indexed;
}

-- with the same at the same places
pub kept-again : (original vars most n : ℕ) (ss : List Slot) (s t : EngineState) (idle : ℕ) (rounds : Held) (named : List (List ℕ)) → IsKept original vars most ss n s idle rounds named → KeepsEngine s t → IsKept original vars most ss n t idle rounds named
kept-again original vars most n ss s t idle rounds named kept again = record {
  sound = kept.sound;
  few = kept.few;
  mirrored = mirrored-kept most (take n ss) s t kept.mirrored again;
  is_idle = kept.is_idle;
  beside = kept.beside;
  indexed = kept.indexed;
}

-- with other lists of ids
pub kept-listed : (original vars most n : ℕ) (ss : List Slot) (s : EngineState) (idle : ℕ) (rounds : Held) (named listed : List (List ℕ)) → IsKept original vars most ss n s idle rounds named → IsIndexed original ss listed → IsKept original vars most ss n s idle rounds listed
kept-listed original vars most n ss s idle rounds named listed kept indexed = record { sound = kept.sound; few = kept.few; mirrored = kept.mirrored; is_idle = kept.is_idle; beside = kept.beside; indexed = indexed }

-- with lists that are complete where those were
pub kept-swept : (original vars most n : ℕ) (ss ts : List Slot) (s : EngineState) (idle : ℕ) (rounds : Held) (named listed : List (List ℕ)) → ts ≡ ss → IsKept original vars most ss n s idle rounds named → (IsIndexed original ts named → IsIndexed original ts listed) → IsKept original vars most ss n s idle rounds listed
kept-swept original vars most n ss ts s idle rounds named listed same kept swept =
    kept-listed original vars most n ss s idle rounds named listed kept (subst (λ (us : List Slot). IsIndexed original us listed) same (swept (subst (λ (us : List Slot). IsIndexed original us named) (sym same) kept.indexed)))

-- all that stands is in the engine
pub kept-whole : (original vars most n : ℕ) (ss : List Slot) (s : EngineState) (idle : ℕ) (rounds : Held) (named : List (List ℕ)) → IsKept original vars most ss n s idle rounds named → length ss ≤ n → IsMirrored most ss s
kept-whole original vars most n ss s idle rounds named kept all = subst (λ (ts : List Slot). IsMirrored most ts s) (take_all n ss all) kept.mirrored

-- ---- the next slot

push-as : {B : Type 0} (f : Slot → B) (ss : List Slot) (t u : Slot) → f t ≡ f u → (k : ℕ) → f (slot_at (ss ++ t ∷ []) k) ≡ f (slot_at (ss ++ u ∷ []) k)
push-as f [] t u e zero = e
push-as f [] t u e (suc k) = refl
push-as f (s ∷ ss) t u e zero = refl
push-as f (s ∷ ss) t u e (suc k) = push-as f ss t u e k

-- the slot of the next id
pub slot_of-next : (ss : List Slot) (k : ℕ) → slot_of ss (k + 1) ≡ slot_at ss k
slot_of-next ss k = let next : k + 1 ≡ suc k = omega arith in ap (slot_of ss) next

pub entered-none : (vars n : ℕ) (ss : List Slot) (s : EngineState) → n < length ss → (slot_at ss n).constraint ≡ None → IsMirrored vars (take n ss) s → IsMirrored vars (take (n + 1) ss) s
entered-none vars n ss s below none m =
    subst (λ (ts : List Slot). IsMirrored vars ts s) (sym (take_more ss n hole below)) (mirrored-none vars (take n ss) (slot_at ss n) s none m)

pub entered-some : (vars n p : ℕ) (ss ts : List Slot) (s t : EngineState) (c : Constraint) → n < length ss → (slot_at ss n).constraint ≡ Some c → ts ≡ slots_placed ss n p → IsFree s p → t ≡ added p c s → IsMirrored vars (take n ss) s → IsMirrored vars (take (n + 1) ts) t
entered-some vars n p ss ts s t c below stands put free more m =
    let last : Slot = record (slot_at ss n) { place = p } in
    let front : take (n + 1) ts ≡ take n ss ++ last ∷ [] = ap (take (n + 1)) put ∙ take_more_set ss n last below in
    let pushed = mirrored-pushed vars (take n ss) s p c free m in
    let same = mirrored-same vars (take n ss ++ whole c p ∷ []) (take n ss ++ last ∷ []) (added p c s)
    (push-as (λ (u : Slot). u.constraint) (take n ss) last (whole c p) stands) (push-as (λ (u : Slot). u.place) (take n ss) last (whole c p) refl) pushed in
    subst (λ (us : List Slot). IsMirrored vars us t) (sym front) (subst (IsMirrored vars (take n ss ++ last ∷ [])) (sym more) same)

-- ---- what comes and goes behind the front, and in it

pub front-pushed : (vars n : ℕ) (ss ts us : List Slot) (s : EngineState) → n ≤ length ss → ts ≡ ss ++ us → IsMirrored vars (take n ss) s → IsMirrored vars (take n ts) s
front-pushed vars n ss ts us s few e m = subst (λ (vs : List Slot). IsMirrored vars vs s) (sym (ap (take n) e ∙ take-append-le n ss us few)) m

front-cases : (n k : ℕ) → (k < n) ⊎ (n ≤ k)
front-cases zero k = inr (omega arith)
front-cases (suc n) zero = inl (omega arith)
front-cases (suc n) (suc k) = elim (front-cases n k) [ inl h ↦ inl (omega (arith, h)) | inr h ↦ inr (omega (arith, h)) ]

-- the constraint of an id in front goes, at its place
pub front-without : (vars n id p : ℕ) (ss ts : List Slot) (s t : EngineState) (result : Bool) → id ≤ n → ts ≡ slots_without ss id → Some p ≡ place_of (slot_of ss id) → IsMirrored vars (take n ss) s →
    result ≡ is_some (at_place s.places p) → t ≡ cond result (removed p s) s → IsMirrored vars (take n ts) t
front-without vars n zero p ss ts s t result below e at m answer after = absurd (some-none p at)
front-without vars n (suc k) p ss ts s t result below e at m answer after =
    let less : k < n = omega (arith, below) in
    let front : take n ts ≡ slots_without (take n ss) (suc k) = ap (take n) e ∙ take-set-lt n ss k hole less in
    let here : Some p ≡ place_of (slot_of (take n ss) (suc k)) = at ∙ ap place_of (sym (get_or-take n ss k hole less)) in
    let gone = mirrored-without vars (suc k) p (take n ss) (take n ts) s front here m in
    subst (IsMirrored vars (take n ts)) (sym (gone_from result p s t answer after gone.0)) gone.1

-- the constraint of a later id goes
pub front-without_later : (vars n id : ℕ) (ss ts : List Slot) (s : EngineState) → n < id → ts ≡ slots_without ss id → IsMirrored vars (take n ss) s → IsMirrored vars (take n ts) s
front-without_later vars n zero ss ts s above e m = absurd (omega (arith, above))
front-without_later vars n (suc k) ss ts s above e m = subst (λ (us : List Slot). IsMirrored vars us s) (sym (ap (take n) e ∙ take-set-le n ss k hole (omega (arith, above)))) m

-- nothing goes
pub front-without_none : (vars n id : ℕ) (ss ts : List Slot) (s : EngineState) → ts ≡ slots_without ss id → None ≡ place_of (slot_of ss id) → IsMirrored vars (take n ss) s → IsMirrored vars (take n ts) s
front-without_none vars n zero ss ts s e none m = subst (λ (us : List Slot). IsMirrored vars (take n us) s) (sym e) m
front-without_none vars n (suc k) ss ts s e none m = elim (front-cases n k) [
  | inl less ↦ mirrored-without_none vars (suc k) (take n ss) (take n ts) s (ap (take n) e ∙ take-set-lt n ss k hole less) (none ∙ ap place_of (sym (get_or-take n ss k hole less))) m
  | inr past ↦ subst (λ (us : List Slot). IsMirrored vars us s) (sym (ap (take n) e ∙ take-set-le n ss k hole past)) m
]

pub front-marked : (vars n id : ℕ) (ss ts : List Slot) (s : EngineState) → ts ≡ marked_slots ss id → IsMirrored vars (take n ss) s → IsMirrored vars (take n ts) s
front-marked vars n zero ss ts s e m = subst (λ (us : List Slot). IsMirrored vars (take n us) s) (sym e) m
front-marked vars n (suc k) ss ts s e m = elim (front-cases n k) [
  | inl less ↦
      let mark : Slot → Slot = λ s. record s { out = true } in
      let front : take n ts ≡ marked_slots (take n ss) (suc k) = ap (take n) e ∙ (take-set-lt n ss k (mark (get_or ss k hole)) less ∙ ap (λ (u : Slot). set (take n ss) k (mark u)) (sym (get_or-take n ss k hole less))) in
      mirrored-marked vars (suc k) (take n ss) (take n ts) s front m
  | inr past ↦ subst (λ (us : List Slot). IsMirrored vars us s) (sym (ap (take n) e ∙ take-set-le n ss k (record (get_or ss k hole) { out = true }) past)) m
]
