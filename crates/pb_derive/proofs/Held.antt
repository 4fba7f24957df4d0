-- Constraints that stand under neighbouring ids and were not put out: those that steps add.
use Rattle.std.proofs.Common.{◌≡◌, ◌≤◌, ◌<◌, ◌+◌, ◌⊎◌, inl, inr, ℕ, true, false, List, [], ◌∷◌, refl, ap, sym, ◌∙◌, subst, arith, get_or}
use Rattle.std.specs.Prelude.{All, Option, is_some}
use Rattle.std.proofs.lemmas.Bool.{both_ways, cases_lt}
use Rattle.std.proofs.lemmas.List.Elements.{All-nil, All-cons, All-head, All-tail, All-append}
use Rattle.pb_base.specs.declared.literal.Lit.{Lit}
use Rattle.pb_norm.specs.Constraints.{Constraint}
use Rattle.pb_norm.specs.Halves.{written}
use Rattle.pb_steps.specs.declared.step.Step.{Step}
use Rattle.pb_steps.specs.declared.step.Step.TheVariants.{Blank, Head, Loaded, Pol, Rup, Red, Del, Out, End}
use Rattle.pb_steps.specs.Steps.{takes_id}
use Rattle.pb_steps.specs.Database.{Entry, Database, IsLive, entry, grown}
use Rattle.pb_steps.specs.Allowed.{Allowed}
use Rattle.pb_steps.specs.Runs.{Runs, next_clause, clauses_after}
use Rattle.pb_derive.specs.Later.{IsNumbered, IsUnmarked, IsSwept}
use Rattle.pb_derive.specs.inner.Ran.{RanSwept}
use Rattle.pb_derive.proofs.Laters.{at_grown, later_grown}

-- the constraints with the ids from one number to another
pub record AreHeld (n m : ℕ) (db : Database) : Type 0 where
  pub live : (i : ℕ) → n ≤ i → i < m → IsLive db.live i
  pub unmarked : IsUnmarked n m db

-- they stay so, where steps sweep what they added
pub held_swept : (P : ℕ → Type 0) (db : Database) (ss : List Step) (cs : List (List Lit)) (ids : ℕ) (h : RanSwept P db ss cs ids) → (n m : ℕ) → m ≤ db.next → AreHeld n m db → AreHeld n m h.ran.end
held_swept P db ss cs ids h n m le held = record {
  live = λ i low high. ap is_some (h.ran.later.stands i (omega (arith, high, le))) ∙ held.live i low high;
  unmarked = h.unmarked n m le held.unmarked;
}

-- ---- steps that each take an id

abbrev pub AreAdding : List Step → Type 0
AreAdding ss = All (λ s. takes_id s ≡ true) ss

-- such a step leaves one more constraint
added : (db : Database) (s : Step) (c : Option (List Lit)) (end : Database) → takes_id s ≡ true → Allowed db s c end → (d : Constraint) × (end ≡ grown db d)
added db (Pol ops) c end t h = (h.rule.sum, h.rule.after)
added db (Rup ts right ids) c end t h = (written ts right, h.rule.after)
added db (Red ts right sets) c end t h = (written ts right, h.rule.after)
added db Blank c end t h = absurd (both_ways false refl t)
added db Head c end t h = absurd (both_ways false refl t)
added db (Loaded count) c end t h = absurd (both_ways false refl t)
added db (Del ids) c end t h = absurd (both_ways false refl t)
added db (Out id) c end t h = absurd (both_ways false refl t)
added db End c end t h = absurd (both_ways false refl t)

-- what holds of a database and stays as one more constraint comes, holds after such steps
adding_keeps : (Q : Database → Type 0) → ((db : Database) (d : Constraint) → Q db → Q (grown db d)) → (db : Database) (ss : List Step) (cs : List (List Lit)) (end : Database) → AreAdding ss → Runs db ss cs end → Q db → Q end
adding_keeps Q more db [] cs end takes h q = subst Q (sym h.1) q
adding_keeps Q more db (s ∷ ss) cs end takes h q =
    let one = added db s (next_clause cs) h.0 (All-head (λ (s : Step). takes_id s ≡ true) s ss takes) h.1 in
    adding_keeps Q more h.0 ss (clauses_after s cs) end (All-tail (λ (s : Step). takes_id s ≡ true) s ss takes) h.2 (subst Q (sym one.1) (more db one.0 q))

-- the database's own constraints from a number on are held
abbrev HeldFrom : ℕ → Database → Type 0
HeldFrom n db = (n ≤ db.next) × IsNumbered db × AreHeld n db.next db

held_grown : (n : ℕ) (db : Database) (d : Constraint) → HeldFrom n db → HeldFrom n (grown db d)
held_grown n db d h =
    let grows = later_grown (λ v. Unit {0}) db d h.1 (λ k d w. tt) in
    let low = h.0 in
    let Unmarked : Entry → Type 0 = λ e. n ≤ e.id → e.id < db.next + 1 → e.out ≡ false in
    let up : n ≤ (grown db d).next = omega (arith, low) in (
      up,
      grows.numbered,
      record {
        live = λ i least most.
            let high : i < db.next + 1 = most in
            elim (cases_lt i db.next) as (λ _. IsLive (grown db d).live i) [
              | inl below ↦ ap is_some (grows.stands i below) ∙ h.2.live i least below
              | inr above ↦
                  let same : db.next ≡ i = omega (arith, high, above) in
                  subst (λ (k : ℕ). IsLive (grown db d).live k) same (ap is_some (at_grown db d h.1))
            ];
        unmarked = All-append Unmarked db.live (entry db.next d ∷ []) (λ k e w least most. h.2.unmarked k e w least (h.1 k e w))
            (All-cons Unmarked (entry db.next d) [] (λ least most. refl) (All-nil Unmarked));
      },
    )

-- what steps add from the next id on is held
pub held_added : (db : Database) (ss : List Step) (cs : List (List Lit)) (end : Database) → IsNumbered db → AreAdding ss → Runs db ss cs end → AreHeld db.next end.next end
held_added db ss cs end numbered takes h =
    let none : AreHeld db.next db.next db = record {
      live = λ i low high. absurd (omega (arith, low, high));
      unmarked = λ k d w low high. absurd (omega (arith, low, high));
    } in
    let all : HeldFrom db.next end = adding_keeps (HeldFrom db.next) (held_grown db.next) db ss cs end takes h (omega arith, numbered, none) in
    all.2

-- what holds of each constraint and of each new one
pub added_all : (Q : Entry → Type 0) → ((id : ℕ) (c : Constraint) → Q (entry id c)) → (db : Database) (ss : List Step) (cs : List (List Lit)) (end : Database) → AreAdding ss → Runs db ss cs end → All Q db.live → All Q end.live
added_all Q new db ss cs end takes h all =
    adding_keeps (λ (d : Database). All Q d.live) (λ d c q. All-append Q d.live (entry d.next c ∷ []) q (All-cons Q (entry d.next c) [] (new d.next c) (All-nil Q))) db ss cs end takes h all

-- nothing of what stood before is put out
pub added_unmarked : (n m : ℕ) (db : Database) (ss : List Step) (cs : List (List Lit)) (end : Database) → AreAdding ss → Runs db ss cs end → IsUnmarked n m db → IsUnmarked n m end
added_unmarked n m db ss cs end takes h u = added_all (λ (e : Entry). n ≤ e.id → e.id < m → e.out ≡ false) (λ id c low high. refl) db ss cs end takes h u

-- ---- what is left beside what was put out

abbrev OrFrom : (ℕ → Type 0) → ℕ → ℕ → Type 0
OrFrom S n i = S i ⊎ (n ≤ i)

abbrev Left : (ℕ → Type 0) → ℕ → Entry → Type 0
Left S n e = OrFrom S n e.id ⊎ (e.out ≡ true)

abbrev LeftFrom : (ℕ → Type 0) → ℕ → Database → Type 0
LeftFrom S n db = (n ≤ db.next) × IsSwept (OrFrom S n) db

left_grown : (S : ℕ → Type 0) (n : ℕ) (db : Database) (d : Constraint) → LeftFrom S n db → LeftFrom S n (grown db d)
left_grown S n db d h =
    let low : n ≤ db.next = h.0 in
    let up : n ≤ (grown db d).next = omega (arith, low) in
    (up, All-append (Left S n) db.live (entry db.next d ∷ []) h.1 (All-cons (Left S n) (entry db.next d) [] (inl (inr low)) (All-nil (Left S n))))

-- what such steps add has an id from the next one on
pub added_swept : (S : ℕ → Type 0) (db : Database) (ss : List Step) (cs : List (List Lit)) (end : Database) → AreAdding ss → Runs db ss cs end → IsSwept S db → IsSwept (λ i. S i ⊎ (db.next ≤ i)) end
added_swept S db ss cs end takes h swept =
    let first : IsSwept (OrFrom S db.next) db = λ k e w. elim (swept k e w) as (λ _. Left S db.next (get_or db.live k e)) [ inl early ↦ inl (inl early) | inr out ↦ inr out ] in
    let all : LeftFrom S db.next end = adding_keeps (LeftFrom S db.next) (left_grown S db.next) db ss cs end takes h (omega arith, first) in
    all.1
