-- The root's node is added, all clauses are put out, and what is held beside goes.
use Rattle.std.proofs.Common.{◌≡◌, ◌≤◌, ◌<◌, ◌+◌, ◌-◌, ◌⊎◌, inl, inr, ℕ, List, [], ◌∷◌, ◌++◌, length, map, refl, ap, ◌∙◌, subst, append-nil, arith, get_or, true}
use Rattle.std.specs.Prelude.{All, None, is_some}
use Rattle.std.specs.List.{range_with_len}
use Rattle.std.proofs.lemmas.Bool.{cases_eq}
use Rattle.pb_base.specs.declared.literal.Lit.{Lit}
use Rattle.pb_steps.specs.declared.step.Step.{Step}
use Rattle.pb_steps.specs.declared.step.Step.TheVariants.{Del}
use Rattle.pb_steps.specs.Database.{Entry, Database, reduced}
use Rattle.pb_steps.specs.Runs.{Runs}
use Rattle.pb_derive.specs.Claims.{Claim, claim_steps}
use Rattle.pb_derive.specs.Later.{IsSwept}
use Rattle.pb_derive.specs.Reifications.{Reification, reification_steps}
use Rattle.pb_derive.specs.inner.Ran.{IsClaim, RanSwept}
use Rattle.pb_derive.proofs.Holding.{IsHolding, OrBetween, before, between, LeftOut, holding_same, holding_added, holding_deleted, deleted_allowed}
use Rattle.pb_derive.proofs.IdRanges.{each_between, range-apart, outside}
use Rattle.pb_derive.proofs.Laters.{later_then, live_below}
use Rattle.pb_derive.proofs.Lines.{MeantFrom}
use Rattle.pb_derive.proofs.Running.{runs_append, claims_ran}

-- ---- what is held stays so, where steps sweep what they add

pub holding_swept : (P : ℕ → Type 0) (base db : Database) (L : ℕ → Type 0) (low high : ℕ) (ss : List Step) (cs : List (List Lit)) (k : ℕ) → ((i : ℕ) → L i → (low ≤ i) × (i < high)) → ((i : ℕ) → low ≤ i → i < high → L i) → high ≤ db.next
    → IsHolding P base db L → (h : RanSwept P db ss cs k) → IsHolding P base h.ran.end L
holding_swept P base db L low high ss cs k there back le holding h =
    let later = h.ran.later in
    let numbered = holding.later.numbered in
    record {
      later = later_then P base db h.ran.end holding.later later;
      low = holding.low;
      live = λ i l. ap is_some (later.stands i (live_below db i numbered (holding.live i l))) ∙ holding.live i l;
      kept = λ n d w l.
          let range = there (get_or h.ran.end.live n d).id l in
          h.unmarked low high le (λ m e v from to. holding.kept m e v (back (get_or db.live m e).id from to)) n d w range.0 range.1;
      swept = λ S s. sorted S (h.swept (λ i. S i ⊎ L i) (holding.swept S s));
      unmarked = λ n m below u. h.unmarked n m (omega (arith, below, holding.later.next)) (holding.unmarked n m below u);
    }
  where
    sorted : (S : ℕ → Type 0) → IsSwept (λ i. S i ⊎ L i) h.ran.end → IsSwept (λ i. S i ⊎ L i) h.ran.end
    sorted S s = s

-- where nothing is held in the end, all that is new was put out or is gone
pub held_none : (P : ℕ → Type 0) (base end : Database) (ss : List Step) (cs : List (List Lit)) (k : ℕ) → IsHolding P base end (λ i. ⊥) → Runs base ss cs end → end.next ≡ base.next + k → RanSwept P base ss cs k
held_none P base end ss cs k holding runs at = record {
  ran = record { end = end; runs = runs; later = holding.later; next = at };
  swept = λ S s n d w. by_case S (get_or end.live n d) (holding.swept S s n d w);
  unmarked = holding.unmarked;
}
  where
    by_case : (S : ℕ → Type 0) (e : Entry) → ((S e.id ⊎ ⊥) ⊎ (e.out ≡ true)) → S e.id ⊎ (e.out ≡ true)
    by_case S e (inl (inl early)) = inl early
    by_case S e (inl (inr none)) = absurd none
    by_case S e (inr out) = inr out

-- ---- a reification, claims, and the end

-- a reification is added beside one constraint that is held, clauses are put out, and the three are deleted
pub root_ran : (P : ℕ → Type 0) (base db : Database) (m : Reification) (held : ℕ) (cs : List Claim) → IsHolding P base db (λ i. i ≡ held) → (at : db.next ≡ held + 1) → (meant : MeantFrom P db (held + 1) (m ∷ [])) → All (IsClaim P meant.added.ran.end) cs
    → (front : List Step) → Runs base front [] db
    → RanSwept P base (front ++ (reification_steps (held + 1) (m ∷ []) ++ (claim_steps (held + 3) cs ++ Del (range_with_len held 3) ∷ []))) (map (λ c. c.clause) cs) (held + 3 + length cs - base.next)
root_ran P base db m held cs holding at meant claimed front runs =
    let d1 : Database = meant.added.ran.end in
    let clauses : List (List Lit) = map (λ (c : Claim). c.clause) cs in
    let at_1 : d1.next ≡ held + 3 = omega (arith, meant.added.ran.next, at) in
    let In : ℕ → Type 0 = OrBetween (λ i. i ≡ held) db.next d1.next in
    let L : ℕ → Type 0 = λ i. (held ≤ i) × (i < held + 3) in
    let holds_1 = holding_same P P base d1 In L (λ v p. p)
    (λ i k. elim k as (λ _. (held ≤ i) × (i < held + 3)) [ before same ↦ (omega (arith, same), omega (arith, same)) | between from to ↦ (omega (arith, from, at), omega (arith, to, at_1)) ])
    (λ i k. elim (cases_eq i held) as (λ _. OrBetween (λ i. i ≡ held) db.next d1.next i) [ inl same ↦ before same | inr other ↦ between (omega (arith, k.0, at, other)) (omega (arith, k.1, at_1)) ])
    (holding_added P base db (λ i. i ≡ held) (reification_steps (held + 1) (m ∷ [])) 2 holding meant.added) in
    let put = claims_ran P d1 cs meant.added.ran.later.numbered claimed in
    let d2 : Database = put.ran.end in
    let holds_2 = holding_swept P base d1 L held (held + 3) (claim_steps d1.next cs) clauses (length cs) (λ i k. k) (λ i from to. (from, to)) (omega (arith, at_1)) holds_1 put in
    let gone : List ℕ = range_with_len held 3 in
    let each : All L gone = each_between L held 3 (λ i from to. (from, to)) in
    let end : Database = reduced d2 gone in
    let nothing = holding_same P P base end (LeftOut L gone) (λ i. ⊥) (λ v p. p)
    (λ i k. elim (outside held 3 i k.1) as (λ _. ⊥) [ inl early ↦ omega (arith, early, k.0.0) | inr late ↦ omega (arith, late, k.0.1) ]) (λ i none. absurd none)
    (holding_deleted P base d2 L gone each holds_2) in
    let deletes : Runs d2 (Del gone ∷ []) [] end = (end, deleted_allowed P base d2 L gone None each (range-apart held 3) holds_2, (refl, refl)) in
    let claims : Runs d1 (claim_steps (held + 3) cs) clauses d2 = subst (λ (k : ℕ). Runs d1 (claim_steps k cs) clauses d2) at_1 put.ran.runs in
    let tail : Runs d1 (claim_steps (held + 3) cs ++ Del gone ∷ []) clauses end =
    subst (λ (ds : List (List Lit)). Runs d1 (claim_steps (held + 3) cs ++ Del gone ∷ []) ds end) (append-nil clauses) (runs_append d1 d2 end (claim_steps (held + 3) cs) (Del gone ∷ []) clauses [] claims deletes) in
    let back = runs_append db d1 end (reification_steps (held + 1) (m ∷ [])) (claim_steps (held + 3) cs ++ Del gone ∷ []) [] clauses meant.added.ran.runs tail in
    let whole = runs_append base db end front (reification_steps (held + 1) (m ∷ []) ++ (claim_steps (held + 3) cs ++ Del gone ∷ [])) [] clauses runs back in
    let size : end.next ≡ base.next + (held + 3 + length cs - base.next) = omega (arith, put.ran.next, at_1, holding.low held refl) in
    held_none P base end (front ++ (reification_steps (held + 1) (m ∷ []) ++ (claim_steps (held + 3) cs ++ Del gone ∷ []))) clauses (held + 3 + length cs - base.next) nothing whole size
