-- Constraints that are added for a while: steps add them, other steps use them, and then they are deleted.
use Rattle.std.proofs.Common.{◌≡◌, ◌≢◌, ◌≤◌, ◌<◌, ◌+◌, ◌*◌, ◌⊎◌, inl, inr, ℕ, true, false, List, [], ◌++◌, subst, sym, arith, append-nil, get_or}
use Rattle.std.specs.Prelude.{All, None}
use Rattle.std.proofs.lemmas.List.Elements.{All-weaker}
use Rattle.pb_base.specs.declared.literal.Lit.{Lit}
use Rattle.pb_steps.specs.declared.step.Step.{Step}
use Rattle.pb_steps.specs.Database.{Entry, Database, constraint_at}
use Rattle.pb_steps.specs.Runs.{Runs}
use Rattle.pb_derive.specs.Deletions.{deletion_steps}
use Rattle.pb_derive.specs.Later.{IsNumbered, IsUnmarked, IsSwept}
use Rattle.pb_derive.specs.inner.Ran.{Ran, RanSwept}
use Rattle.pb_derive.proofs.Deleted.{Deleted, deleted, none_at}
use Rattle.pb_derive.proofs.Held.{AreHeld, AreAdding, held_swept, held_added, added_unmarked, added_swept}
use Rattle.pb_derive.proofs.Laters.{later_then}
use Rattle.pb_derive.proofs.Running.{runs_append}

-- what had an id that meets S, or a new one
abbrev Between : (ℕ → Type 0) → ℕ → ℕ → ℕ → Type 0
Between S n m i = S i ⊎ ((n ≤ i) × (i < m))

either_early : (S : ℕ → Type 0) (n m : ℕ) (e : Entry) → e.id < m → ((S e.id ⊎ (n ≤ e.id)) ⊎ (e.out ≡ true)) → Between S n m e.id ⊎ (e.out ≡ true)
either_early S n m e below (inr out) = inr out
either_early S n m e below (inl (inl early)) = inl (inl early)
either_early S n m e below (inl (inr late)) = inl (inr (late, below))

-- what is left of it, once the ids between are gone
left_outside : (S : ℕ → Type 0) (n m : ℕ) (e : Entry) → (Between S n m e.id ⊎ (e.out ≡ true)) → ((e.id < n) ⊎ (m ≤ e.id)) → S e.id ⊎ (e.out ≡ true)
left_outside S n m e (inr out) outside = inr out
left_outside S n m e (inl (inl early)) outside = inl early
left_outside S n m e (inl (inr between)) (inl below) = absurd (omega (arith, between.0, below))
left_outside S n m e (inl (inr between)) (inr above) = absurd (omega (arith, between.1, above))

-- the clauses are put out in order, and the first ids are gone
pub record Scoped (P : ℕ → Type 0) (db : Database) (steps : List Step) (clauses : List (List Lit)) (ids n : ℕ) : Type 1 where
  pub all : RanSwept P db steps clauses ids
  pub gone : (i : ℕ) → db.next ≤ i → i < db.next + n → constraint_at all.ran.end.live i ≡ None

pub scoped : (P : ℕ → Type 0) (db : Database) (ss ts : List Step) (cs : List (List Lit)) (k j width n : ℕ) (first : Ran P db ss [] k) → IsNumbered db → AreAdding ss → RanSwept P first.end ts cs j → k ≡ width * n
    → Scoped P db (ss ++ (ts ++ deletion_steps width db.next n)) cs (k + j) k
scoped P db ss ts cs k j width n first numbered adding second size =
    let mid : Database = first.end in
    let top : Database = second.ran.end in
    let gone : List Step = deletion_steps width db.next n in
    let count : mid.next ≡ db.next + k = first.next in
    let same : mid.next ≡ db.next + width * n = omega (arith, count, size) in
    let held : AreHeld db.next mid.next top = held_swept P mid ts cs j second db.next mid.next (omega arith) (held_added db ss [] mid numbered adding first.runs) in
    let third : Deleted P db top width db.next n = deleted P db top width db.next n (omega arith) (later_then P db mid top first.later second.ran.later) (subst (λ (m : ℕ). AreHeld db.next m top) same held) in
    let end : Database = third.end in
    let left : All (λ e. (e.id < db.next) ⊎ (mid.next ≤ e.id)) end.live = subst (λ (m : ℕ). All (λ (e : Entry). (e.id < db.next) ⊎ (m ≤ e.id)) end.live) (sym same) third.left in
    record {
      all = record {
        ran = record {
          end = end;
          runs = runs_append db mid end ss (ts ++ gone) [] cs first.runs
              (subst (λ (ds : List (List Lit)). Runs mid (ts ++ gone) ds end) (append-nil cs) (runs_append mid top end ts gone cs [] second.ran.runs third.runs));
          later = third.later;
          next = omega (arith, third.next, second.ran.next, count);
        };
        swept = λ S s.
            let Then : ℕ → Type 0 = Between S db.next mid.next in
            let one : IsSwept (λ i. S i ⊎ (db.next ≤ i)) mid = added_swept S db ss [] mid adding first.runs s in
            let two : IsSwept Then mid = λ x d w. either_early S db.next mid.next (get_or mid.live x d) (first.later.numbered x d w) (one x d w) in
            let three : All (λ e. Then e.id ⊎ (e.out ≡ true)) end.live = third.kept (λ (e : Entry). Then e.id ⊎ (e.out ≡ true)) (second.swept Then two) in
            λ x d w. left_outside S db.next mid.next (get_or end.live x d) (three x d w) (left x d w);
        unmarked = λ low high le u.
            let now : IsUnmarked low high mid = added_unmarked low high db ss [] mid adding first.runs u in
            third.kept (λ (e : Entry). low ≤ e.id → e.id < high → e.out ≡ false) (second.unmarked low high (omega (arith, le, count)) now);
      };
      gone = λ i low high.
          none_at i end.live (All-weaker (λ (e : Entry). (e.id < db.next) ⊎ (mid.next ≤ e.id)) (λ (e : Entry). e.id ≢ i) (λ e out same_id. elim out as (λ _. ⊥) [
            | inl below ↦ omega (arith, below, low, same_id)
            | inr above ↦ omega (arith, above, high, same_id, count)
          ]) end.live left);
    }
