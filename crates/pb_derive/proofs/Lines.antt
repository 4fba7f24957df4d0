-- Lines that each add a constraint which is known by its terms, one after the other.
use Rattle.std.proofs.Common.{◌≡◌, ◌≤◌, ◌<◌, ◌+◌, ◌*◌, ℕ, zero, suc, true, List, [], ◌∷◌, ◌++◌, length, refl, sym, subst, arith, inl, inr}
use Rattle.std.specs.Prelude.{All, map, Option, None}
use Rattle.std.specs.List.{range_with_len}
use Rattle.std.proofs.lemmas.Bool.{cases_lt}
use Rattle.std.proofs.lemmas.List.Elements.{All-nil, All-cons, All-append}
use Rattle.pb_base.specs.declared.literal.Lit.{Lit}
use Rattle.pb_norm.specs.Constraints.{Constraint}
use Rattle.pb_steps.specs.declared.step.Step.{Step}
use Rattle.pb_steps.specs.Steps.{takes_id}
use Rattle.pb_steps.specs.Database.{Database, grown}
use Rattle.pb_steps.specs.Allowed.{Allowed}
use Rattle.pb_steps.specs.Runs.{Runs}
use Rattle.pb_derive.specs.Forms.{IsFormOf}
use Rattle.pb_derive.specs.Later.{IsNumbered, IsLater, Knows}
use Rattle.pb_derive.specs.Reifications.{Reification, reification_steps}
use Rattle.pb_derive.specs.inner.Meant.{AreMeant}
use Rattle.pb_derive.specs.inner.Ran.{Ran}
use Rattle.pb_derive.proofs.Held.{AreAdding}
use Rattle.pb_derive.proofs.Laters.{at_grown, later_grown, later_then, later_same, later_knows}
use Rattle.pb_derive.proofs.Meant.{Meant}
use Rattle.pb_derive.proofs.Phases.{reifications_add}
use Rattle.pb_derive.proofs.Running.{runs_append, takes_keeps}

-- the ids from a number on are of the constraints t 0, t 1, .., so many of them
abbrev pub AreKnown : Database → ℕ → (ℕ → Constraint) → ℕ → Type 0
AreKnown db id t n = (i : ℕ) → i < n → Knows db (id + i) (t i)

pub still_known : (P : ℕ → Type 0) (db end : Database) (id : ℕ) (t : ℕ → Constraint) (n : ℕ) → IsLater P db end → id + n ≤ db.next → AreKnown db id t n → AreKnown end id t n
still_known P db end id t n later below h = λ i within. later_knows P db end (id + i) (t i) later (omega (arith, below, within)) (h i within)

-- ---- steps that ran, each of which takes an id

pub record Added (P : ℕ → Type 0) (db : Database) (steps : List Step) (ids : ℕ) : Type 0 where
  pub ran : Ran P db steps [] ids
  pub adding : AreAdding steps

abbrev pub added_none : (P : ℕ → Type 0) (db : Database) → IsNumbered db → Added P db [] 0
added_none P db numbered = record { ran = record { end = db; runs = (refl, refl); later = later_same P db numbered; next = omega arith }; adding = All-nil (λ (s : Step). takes_id s ≡ true) }

abbrev pub added_then : (P : ℕ → Type 0) (db : Database) (ss ts : List Step) (i j : ℕ) (h : Added P db ss i) → Added P h.ran.end ts j → Added P db (ss ++ ts) (i + j)
added_then P db ss ts i j h k = record {
  ran = record {
    end = k.ran.end;
    runs = runs_append db h.ran.end k.ran.end ss ts [] [] h.ran.runs k.ran.runs;
    later = later_then P db h.ran.end k.ran.end h.ran.later k.ran.later;
    next = omega (arith, h.ran.next, k.ran.next);
  };
  adding = All-append (λ (s : Step). takes_id s ≡ true) ss ts h.adding k.adding;
}

-- the same number of ids in other words
abbrev pub added_as : (P : ℕ → Type 0) (db : Database) (ss : List Step) (i j : ℕ) → i ≡ j → Added P db ss i → Added P db ss j
added_as P db ss i j same h = record { ran = record { end = h.ran.end; runs = h.ran.runs; later = h.ran.later; next = omega (arith, h.ran.next, same) }; adding = h.adding }

-- reifications, from an id on
pub record MeantFrom (P : ℕ → Type 0) (db : Database) (id : ℕ) (ms : List Reification) : Type 0 where
  pub added : Added P db (reification_steps id ms) (2 * length ms)
  pub meant : AreMeant added.ran.end id ms

pub meant_from : (P : ℕ → Type 0) (db : Database) (id : ℕ) (ms : List Reification) → db.next ≡ id → Meant P db ms → MeantFrom P db id ms
meant_from P db id ms at h = record {
  added = record {
    ran = record {
      end = h.ran.end;
      runs = subst (λ (k : ℕ). Runs db (reification_steps k ms) [] h.ran.end) at h.ran.runs;
      later = h.ran.later;
      next = h.ran.next;
    };
    adding = reifications_add id ms;
  };
  meant = subst (λ (k : ℕ). AreMeant h.ran.end k ms) at h.meant;
}

-- ---- one line

-- the step adds a constraint of this form
pub record Adds (P : ℕ → Type 0) (db : Database) (step : Step) (t : Constraint) : Type 0 where
  pub constraint : Constraint
  pub allowed : (next : Option (List Lit)) → Allowed db step next (grown db constraint)
  pub form : IsFormOf t constraint
  pub takes : takes_id step ≡ true
  pub named : All (λ u. P u.lit.var) constraint.terms

pub record LineRan (P : ℕ → Type 0) (db : Database) (step : Step) (id : ℕ) (t : Constraint) : Type 0 where
  pub added : Added P db (step ∷ []) 1
  pub known : Knows added.ran.end id t

pub line_ran : (P : ℕ → Type 0) (db : Database) (step : Step) (id : ℕ) (t : Constraint) → IsNumbered db → db.next ≡ id → Adds P db step t → LineRan P db step id t
line_ran P db step id t numbered at adds =
    let c : Constraint = adds.constraint in
    let end : Database = grown db c in
    record {
      added = record {
        ran = record {
          end = end;
          runs = (end, adds.allowed None, subst (λ (cs : List (List Lit)). Runs end [] cs end) (sym (takes_keeps step adds.takes [])) (refl, refl));
          later = later_grown P db c numbered adds.named;
          next = refl;
        };
        adding = All-cons (λ (s : Step). takes_id s ≡ true) step [] adds.takes (All-nil (λ (s : Step). takes_id s ≡ true));
      };
      known = subst (λ (k : ℕ). Knows end k t) at (c, at_grown db c numbered, adds.form);
    }

-- ---- lines by their places

-- each line adds its constraint, wherever those before it are known
abbrev pub AreLines : (ℕ → Type 0) → Database → ℕ → (ℕ → Step) → (ℕ → Constraint) → ℕ → Type 0
AreLines P db id f t n = (j : ℕ) → j < n → (mid : Database) → IsLater P db mid → AreKnown mid id t j → Adds P mid (f j) (t j)

pub record LinesRan (P : ℕ → Type 0) (db : Database) (steps : List Step) (id : ℕ) (t : ℕ → Constraint) (n : ℕ) : Type 0 where
  pub added : Added P db steps n
  pub known : AreKnown added.ran.end id t n

-- the lines from a place on, where those before it ran
record LinesLeft (P : ℕ → Type 0) (db : Database) (steps : List Step) (id : ℕ) (t : ℕ → Constraint) (a n : ℕ) : Type 0 where
  pub added : Added P db steps n
  pub known : AreKnown added.ran.end id t (a + n)

lines_left : (P : ℕ → Type 0) (db : Database) (id : ℕ) (f : ℕ → Step) (t : ℕ → Constraint) (m a n : ℕ) → a + n ≤ m → AreLines P db id f t m → (mid : Database) → IsLater P db mid → mid.next ≡ id + a → AreKnown mid id t a
    → LinesLeft P mid (map f (range_with_len a n)) id t a n
lines_left P db id f t m a zero le lines mid later at known = record { added = added_none P mid later.numbered; known = λ i below. known i (omega (arith, below)) }
lines_left P db id f t m a (suc n) le lines mid later at known =
    let one = line_ran P mid (f a) (id + a) (t a) later.numbered at (lines a (omega (arith, le)) mid later known) in
    let end : Database = one.added.ran.end in
    let grows = one.added.ran.later in
    let now : AreKnown end id t (a + 1) = λ i below.
    elim (cases_lt i a) as (λ _. Knows end (id + i) (t i)) [
      | inl less ↦ later_knows P mid end (id + i) (t i) grows (omega (arith, less, at)) (known i less)
      | inr same ↦ let e : a ≡ i = omega (arith, below, same) in subst (λ (k : ℕ). Knows end (id + k) (t k)) e one.known
    ] in
    let rest = lines_left P db id f t m (a + 1) n (omega (arith, le)) lines end (later_then P db mid end later grows) (omega (arith, one.added.ran.next, at)) now in
    record {
      added = added_as P mid (map f (range_with_len a (suc n))) (1 + n) (suc n) (omega arith) (added_then P mid (f a ∷ []) (map f (range_with_len (a + 1) n)) 1 n one.added rest.added);
      known = λ i below. rest.known i (omega (arith, below));
    }

-- they run, and all their constraints are known
pub lines_ran : (P : ℕ → Type 0) (db : Database) (id : ℕ) (f : ℕ → Step) (t : ℕ → Constraint) (n : ℕ) → IsNumbered db → db.next ≡ id → AreLines P db id f t n → LinesRan P db (map f (range_with_len 0 n)) id t n
lines_ran P db id f t n numbered at lines =
    let all = lines_left P db id f t n 0 n (omega arith) lines db (later_same P db numbered) (omega (arith, at)) (λ i below. absurd (omega (arith, below))) in
    record { added = all.added; known = λ i below. all.known i (omega (arith, below)) }

-- ---- each line from the one before it

pub record ChainRan (P : ℕ → Type 0) (db : Database) (steps : List Step) (id : ℕ) (t : ℕ → Constraint) (n : ℕ) : Type 0 where
  pub added : Added P db steps (1 + n)
  pub known : AreKnown added.ran.end id t (suc n)

chain_at : (P : ℕ → Type 0) (mid : Database) (id : ℕ) (t : ℕ → Constraint) → mid.next ≡ id + 1 → Knows mid id (t 0) → (j : ℕ) (end : Database) → IsLater P mid end → AreKnown end (id + 1) (λ i. t (suc i)) j → Knows end (id + j) (t j)
chain_at P mid id t at first zero end later known =
    subst (λ (k : ℕ). Knows end k (t 0)) (let e : id ≡ id + 0 = omega arith in e) (later_knows P mid end id (t 0) later (omega (arith, at)) first)
chain_at P mid id t at first (suc j) end later known = subst (λ (k : ℕ). Knows end k (t (suc j))) (let e : id + 1 + j ≡ id + suc j = omega arith in e) (known j (omega arith))

pub chain_ran : (P : ℕ → Type 0) (db : Database) (id : ℕ) (one : Step) (f : ℕ → Step) (t : ℕ → Constraint) (n : ℕ) → IsNumbered db → db.next ≡ id → Adds P db one (t 0)
    → ((j : ℕ) → j < n → (mid : Database) → IsLater P db mid → Knows mid (id + j) (t j) → Adds P mid (f j) (t (suc j))) → ChainRan P db (one ∷ map f (range_with_len 0 n)) id t n
chain_ran P db id one f t n numbered at first lines =
    let start = line_ran P db one id (t 0) numbered at first in
    let mid : Database = start.added.ran.end in
    let grows = start.added.ran.later in
    let next : mid.next ≡ id + 1 = omega (arith, start.added.ran.next, at) in
    let rest = lines_ran P mid (id + 1) f (λ j. t (suc j)) n grows.numbered next (λ j within end later known. lines j within end (later_then P db mid end grows later) (chain_at P mid id t next start.known j end later known)) in
    let end : Database = rest.added.ran.end in
    record {
      added = added_then P db (one ∷ []) (map f (range_with_len 0 n)) 1 n start.added rest.added;
      known = λ i within. chain_at P mid id t next start.known i end rest.added.ran.later (λ k less. rest.known k (omega (arith, less, within)));
    }
