-- One constraint is carried along: steps add the next one, and the one before it is deleted.
use Rattle.std.proofs.Common.{◌≡◌, ◌≢◌, ◌≤◌, ◌<◌, ◌+◌, ◌⊎◌, inl, inr, ℕ, true, false, not, List, [], ◌∷◌, ◌++◌, refl, ap, sym, ◌∙◌, subst, arith, eqb, get_or, append-nil}
use Rattle.std.specs.Prelude.{All, None, is_some}
use Rattle.std.proofs.lemmas.Bool.{or_parts, not-true, eq-eqb, both_ways}
use Rattle.std.proofs.lemmas.List.Elements.{All-nil, All-cons, All-weaker, filter_passes}
use Rattle.std.proofs.lemmas.List.Kept.{AllPairs-cons}
use Rattle.pb_base.specs.declared.literal.Lit.{Lit}
use Rattle.pb_base.proofs.Pairs.{AllPairs-nil}
use Rattle.pb_steps.specs.declared.step.Step.{Step}
use Rattle.pb_steps.specs.Database.{Entry, Database, constraint_at, IsLive, is_out, is_listed, reduced}
use Rattle.pb_steps.specs.Runs.{Runs}
use Rattle.pb_derive.specs.Deletions.{deletion_steps}
use Rattle.pb_derive.specs.Later.{IsNumbered, IsLater, IsUnmarked, IsSwept}
use Rattle.pb_derive.specs.inner.Ran.{Ran, RanSwept}
use Rattle.pb_derive.proofs.Deleted.{at_reduced, reduced_all, not_out, deletion_allowed, later_reduced}
use Rattle.pb_derive.proofs.Held.{AreHeld, AreAdding, held_swept, held_added, added_unmarked, added_swept}
use Rattle.pb_derive.proofs.Laters.{later_then}
use Rattle.pb_derive.proofs.Running.{runs_append}

abbrev Or : (ℕ → Type 0) → ℕ → ℕ → Type 0
Or S id i = S i ⊎ (i ≡ id)

-- What stood before still does. Beside it nothing is left but what was put out, and a constraint with one id, which was not.
pub record IsCarried (P : ℕ → Type 0) (base db : Database) (id : ℕ) : Type 1 where
  pub later : IsLater P base db
  pub low : base.next ≤ id
  pub high : id < db.next
  pub held : AreHeld id (id + 1) db
  pub swept : (S : ℕ → Type 0) → IsSwept S base → IsSwept (λ i. S i ⊎ (i ≡ id)) db
  pub unmarked : (n m : ℕ) → m ≤ base.next → IsUnmarked n m base → IsUnmarked n m db

-- ---- one id is deleted

abbrev gone : Database → ℕ → Database
gone db id = reduced db (id ∷ [])

-- what is left has another id
left_other : (db : Database) (id : ℕ) → All (λ e. e.id ≢ id) (gone db id).live
left_other db id =
    All-weaker (λ (e : Entry). not (is_listed (id ∷ []) e.id) ≡ true) (λ (e : Entry). e.id ≢ id) (λ e left same.
    let parts = or_parts (eqb id e.id) false (not-true (is_listed (id ∷ []) e.id) left) in
    both_ways (eqb id e.id) parts.0 (eq-eqb id e.id (sym same))) (gone db id).live (filter_passes (λ (e : Entry). not (is_listed (id ∷ []) e.id)) db.live)

gone_runs : (db : Database) (id : ℕ) → AreHeld id (id + 1) db → Runs db (deletion_steps 1 id 1) [] (gone db id)
gone_runs db id held =
    let live : All (IsLive db.live) (id ∷ []) = All-cons (IsLive db.live) id [] (held.live id (omega arith) (omega arith)) (All-nil (IsLive db.live)) in
    let Kept : ℕ → Type 0 = λ i. is_out db.live i ≡ false in
    let kept : All Kept (id ∷ []) = All-cons Kept id [] (not_out id (id + 1) id db.live (omega arith) (omega arith) held.unmarked) (All-nil Kept) in
    let Unequal : ℕ → ℕ → Type 0 = λ i j. i ≢ j in
    (gone db id, deletion_allowed db (id ∷ []) None live kept (AllPairs-cons Unequal id [] (All-nil (Unequal id)) (AllPairs-nil Unequal)), (refl, refl))

gone_later : (P : ℕ → Type 0) (base db : Database) (id : ℕ) → base.next ≤ id → IsLater P base db → IsLater P base (gone db id)
gone_later P base db id low later = later_reduced P base db (id ∷ []) (All-cons (λ i. base.next ≤ i) id [] low (All-nil (λ i. base.next ≤ i))) later

-- what is left beside it
without_it : (S : ℕ → Type 0) (id : ℕ) (e : Entry) → (Or S id e.id ⊎ (e.out ≡ true)) → e.id ≢ id → S e.id ⊎ (e.out ≡ true)
without_it S id e (inr out) other = inr out
without_it S id e (inl (inl early)) other = inl early
without_it S id e (inl (inr same)) other = absurd (other same)

-- ---- the first one

just_new : (S : ℕ → Type 0) (n : ℕ) (e : Entry) → ((S e.id ⊎ (n ≤ e.id)) ⊎ (e.out ≡ true)) → e.id < n + 1 → Or S n e.id ⊎ (e.out ≡ true)
just_new S n e (inr out) below = inr out
just_new S n e (inl (inl early)) below = inl (inl early)
just_new S n e (inl (inr late)) below = inl (inr (omega (arith, late, below)))

pub carried_first : (P : ℕ → Type 0) (base : Database) (ss : List Step) → IsNumbered base → AreAdding ss → (ran : Ran P base ss [] 1) → IsCarried P base ran.end base.next
carried_first P base ss numbered adding ran =
    let end : Database = ran.end in
    let count = ran.next in
    record {
      later = ran.later;
      low = omega arith;
      high = omega (arith, count);
      held = subst (λ (m : ℕ). AreHeld base.next m end) count (held_added base ss [] end numbered adding ran.runs);
      swept = λ S s.
          let all = added_swept S base ss [] end adding ran.runs s in
          λ k d w. just_new S base.next (get_or end.live k d) (all k d w) (omega (arith, ran.later.numbered k d w, count));
      unmarked = λ n m le u. added_unmarked n m base ss [] end adding ran.runs u;
    }

-- ---- the next one

-- the steps and the deletion of the one before it
pub record CarriedOn (P : ℕ → Type 0) (base db mid : Database) (ss : List Step) (id : ℕ) : Type 1 where
  pub end : Database
  pub runs : Runs db (ss ++ deletion_steps 1 id 1) [] end
  pub carried : IsCarried P base end db.next
  pub next : end.next ≡ db.next + 1
  pub same : constraint_at end.live db.next ≡ constraint_at mid.live db.next

either_new : (S : ℕ → Type 0) (id n : ℕ) (e : Entry) → ((Or S id e.id ⊎ (n ≤ e.id)) ⊎ (e.out ≡ true)) → e.id ≢ id → e.id < n + 1 → Or S n e.id ⊎ (e.out ≡ true)
either_new S id n e (inr out) other below = inr out
either_new S id n e (inl (inl (inl early))) other below = inl (inl early)
either_new S id n e (inl (inl (inr same))) other below = absurd (other same)
either_new S id n e (inl (inr late)) other below = inl (inr (omega (arith, late, below)))

pub carried_on : (P : ℕ → Type 0) (base db : Database) (ss : List Step) (id : ℕ) → IsCarried P base db id → AreAdding ss → (ran : Ran P db ss [] 1) → CarriedOn P base db ran.end ss id
carried_on P base db ss id carried adding ran =
    let mid : Database = ran.end in
    let end : Database = gone mid id in
    let count = ran.next in
    let below = carried.high in
    let numbered = carried.later.numbered in
    let before : AreHeld id (id + 1) mid = record {
      live = λ i low high. ap is_some (ran.later.stands i (omega (arith, high, below))) ∙ carried.held.live i low high;
      unmarked = added_unmarked id (id + 1) db ss [] mid adding ran.runs carried.held.unmarked;
    } in
    let after : AreHeld db.next mid.next mid = held_added db ss [] mid numbered adding ran.runs in
    let other : (i : ℕ) → db.next ≤ i → constraint_at end.live i ≡ constraint_at mid.live i = λ i low.
    at_reduced mid (id ∷ []) i (All-cons (λ j. j ≢ i) id [] (λ e. omega (arith, e, low, below)) (All-nil (λ j. j ≢ i))) in
    let Unmarked : ℕ → ℕ → Entry → Type 0 = λ n m e. n ≤ e.id → e.id < m → e.out ≡ false in
    record {
      end = end;
      runs = runs_append db mid end ss (deletion_steps 1 id 1) [] [] ran.runs (gone_runs mid id before);
      carried = record {
        later = gone_later P base mid id carried.low (later_then P base db mid carried.later ran.later);
        low = carried.later.next;
        high = omega (arith, count);
        held = record {
          live = λ i low high. ap is_some (other i low) ∙ after.live i low (omega (arith, high, count));
          unmarked = reduced_all (Unmarked db.next (db.next + 1)) mid (id ∷ []) (λ k d w low high. after.unmarked k d w low (omega (arith, high, count)));
        };
        swept = λ S s.
            let all = added_swept (Or S id) db ss [] mid adding ran.runs (carried.swept S s) in
            let left = reduced_all (λ (e : Entry). (Or S id e.id ⊎ (db.next ≤ e.id)) ⊎ (e.out ≡ true)) mid (id ∷ []) all in
            let few = reduced_all (λ (e : Entry). e.id < mid.next) mid (id ∷ []) ran.later.numbered in
            λ k d w. either_new S id db.next (get_or end.live k d) (left k d w) (left_other mid id k d w) (omega (arith, few k d w, count));
        unmarked = λ n m le u. reduced_all (Unmarked n m) mid (id ∷ []) (added_unmarked n m db ss [] mid adding ran.runs (carried.unmarked n m le u));
      };
      next = count;
      same = other db.next (omega arith);
    }

-- ---- after the last one

-- steps that use it, and its deletion
pub carried_ends : (P : ℕ → Type 0) (base db : Database) (ss ts : List Step) (cs : List (List Lit)) (k j id : ℕ) → Runs base ss [] db → db.next ≡ base.next + k → IsCarried P base db id → RanSwept P db ts cs j
    → RanSwept P base (ss ++ (ts ++ deletion_steps 1 id 1)) cs (k + j)
carried_ends P base db ss ts cs k j id runs count carried second =
    let top : Database = second.ran.end in
    let end : Database = gone top id in
    let last : List Step = deletion_steps 1 id 1 in
    let below = carried.high in
    let held : AreHeld id (id + 1) top = held_swept P db ts cs j second id (id + 1) (omega (arith, below)) carried.held in
    record {
      ran = record {
        end = end;
        runs = runs_append base db end ss (ts ++ last) [] cs runs
            (subst (λ (ds : List (List Lit)). Runs db (ts ++ last) ds end) (append-nil cs) (runs_append db top end ts last cs [] second.ran.runs (gone_runs top id held)));
        later = gone_later P base top id carried.low (later_then P base db top carried.later second.ran.later);
        next = omega (arith, second.ran.next, count);
      };
      swept = λ S s.
          let left = reduced_all (λ (e : Entry). Or S id e.id ⊎ (e.out ≡ true)) top (id ∷ []) (second.swept (Or S id) (carried.swept S s)) in
          λ k d w. without_it S id (get_or end.live k d) (left k d w) (left_other top id k d w);
      unmarked = λ n m le u.
          reduced_all (λ (e : Entry). n ≤ e.id → e.id < m → e.out ≡ false) top (id ∷ []) (second.unmarked n m (omega (arith, le, count)) (carried.unmarked n m le u));
    }
