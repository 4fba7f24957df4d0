-- First all fresh variables get their reifications, then each clause is claimed, and then the reifications are deleted.
use Rattle.std.proofs.Common.{◌≡◌, ◌≤◌, ◌<◌, ◌+◌, ◌*◌, inl, ℕ, zero, suc, Bool, true, false, cond, List, [], ◌∷◌, ◌++◌, length, map, subst, refl, arith, length-append, ltb, pos, get_or}
use Rattle.std.proofs.lemmas.List.{length-map}
use Rattle.std.proofs.lemmas.List.Elements.{All-nil, All-cons, All-map}
use Rattle.std.specs.Prelude.{All}
use Rattle.pb_base.specs.declared.literal.Lit.{Lit}
use Rattle.pb_norm.specs.Constraints.{weight}
use Rattle.pb_steps.specs.declared.step.Step.{Step}
use Rattle.pb_steps.specs.declared.step.Step.TheVariants.{Rup}
use Rattle.pb_steps.specs.Steps.{takes_id}
use Rattle.pb_steps.specs.Database.{Database}
use Rattle.pb_steps.specs.Runs.{Runs}
use Rattle.pb_derive.specs.Claims.{Claim, claim_steps}
use Rattle.pb_derive.specs.Derivations.{Derives}
use Rattle.pb_derive.specs.Later.{IsNumbered, Knows, IsLater}
use Rattle.pb_derive.specs.Deletions.{deletion_steps}
use Rattle.pb_derive.specs.Reifications.{Reification, forward_of, reverse_of, redundant, reification_steps}
use Rattle.pb_derive.specs.Phases.{phases}
use Rattle.pb_derive.specs.Justifications.{Justification, by_justification}
use Rattle.pb_derive.specs.inner.Ran.{IsClaim, RanSwept}
use Rattle.pb_derive.specs.inner.Meant.{AreMeant}
use Rattle.pb_derive.specs.inner.Follows.{IsJustification}
use Rattle.pb_derive.proofs.Held.{AreAdding}
use Rattle.pb_derive.proofs.Scoped.{Scoped, scoped}
use Rattle.pb_derive.proofs.Meant.{Meant}
use Rattle.pb_derive.proofs.Reasoned.{justification_claims}
use Rattle.pb_derive.proofs.Running.{claims_ran}

-- ---- each line of a reification takes an id

pub reifications_add : (id : ℕ) (ms : List Reification) → AreAdding (reification_steps id ms)
reifications_add id [] = All-nil (λ (s : Step). takes_id s ≡ true)
reifications_add id (m ∷ ms) =
    let Takes : Step → Type 0 = λ s. takes_id s ≡ true in
    let second : Step = cond {A = Step} (ltb (weight m.sum) m.least) (Rup [] (pos 0) (id ∷ [])) (redundant (reverse_of m) m.var true) in
    All-cons Takes (redundant (forward_of m) m.var false) (second ∷ reification_steps (id + 2) ms) refl
    (All-cons Takes second (reification_steps (id + 2) ms) (either (ltb (weight m.sum) m.least)) (reifications_add (id + 2) ms))
  where
    either : (b : Bool) → takes_id (cond {A = Step} b (Rup [] (pos 0) (id ∷ [])) (redundant (reverse_of m) m.var true)) ≡ true
    either true = refl
    either false = refl

-- ---- the three parts

-- the clauses are put out in order, and the reifications are gone
abbrev pub PhasesRan : (ℕ → Type 0) → Database → List Reification → List Claim → Type 1
PhasesRan P db ms cs = Scoped P db (phases db.next ms cs) (map (λ c. c.clause) cs) (2 * length ms + length cs) (2 * length ms)

pub phases_ran : (P : ℕ → Type 0) (db : Database) (ms : List Reification) (cs : List Claim) (h : Meant P db ms) → IsNumbered db → All (IsClaim P h.ran.end) cs → PhasesRan P db ms cs
phases_ran P db ms cs h numbered claimed =
    let mid : Database = h.ran.end in
    let clauses : List (List Lit) = map (λ (c : Claim). c.clause) cs in
    let second = claims_ran P mid cs h.ran.later.numbered claimed in
    let claims : RanSwept P mid (claim_steps (db.next + 2 * length ms) cs) clauses (length cs) = record {
      ran = record {
        end = second.ran.end;
        runs = subst (λ (m : ℕ). Runs mid (claim_steps m cs) clauses second.ran.end) h.ran.next second.ran.runs;
        later = second.ran.later;
        next = second.ran.next;
      };
      swept = second.swept;
      unmarked = second.unmarked;
    } in
    scoped P db (reification_steps db.next ms) (claim_steps (db.next + 2 * length ms) cs) clauses (2 * length ms) (length cs) 2 (length ms) h.ran numbered (reifications_add db.next ms) claims refl

-- the same where each clause has a justification, by the reifications
pub reasoned_ran : (P : ℕ → Type 0) (db : Database) (ms : List Reification) (rs : List Justification) (h : Meant P db ms) → IsNumbered db → All (λ r. All (λ l. P l.var) r.clause) rs
    → ((end : Database) → IsLater P db end → AreMeant end db.next ms → All (IsJustification (Knows end) end.vars) rs) → PhasesRan P db ms (map by_justification rs)
reasoned_ran P db ms rs h numbered named justifications =
    let mid : Database = h.ran.end in
    let all = justifications mid h.ran.later h.meant in
    phases_ran P db ms (map by_justification rs) h numbered
    (All-map (IsClaim P mid) by_justification rs (λ k r w. justification_claims P mid (get_or rs k r) h.ran.later.numbered (named k r w) (all k r w)))

-- steps that leave nothing else derive the clauses
pub swept_derives : (db : Database) (steps : List Step) (clauses : List (List Lit)) (limit ids : ℕ) → IsNumbered db → RanSwept (λ v. v < limit) db steps clauses ids → Derives db steps clauses limit
swept_derives db steps clauses limit ids numbered h = record {
  end = h.ran.end;
  runs = h.ran.runs;
  later = h.ran.later;
  swept = h.swept (λ i. i < db.next) (λ k d w. inl (numbered k d w));
  unmarked = h.unmarked;
}

-- ---- how many lines

pub length-reifications : (next : ℕ) (ms : List Reification) → length (reification_steps next ms) ≡ 2 * length ms
length-reifications next [] = refl
length-reifications next (m ∷ ms) = omega (arith, length-reifications (next + 2) ms)

pub length-claims : (next : ℕ) (cs : List Claim) → length (claim_steps next cs) ≡ 2 * length cs
length-claims next [] = refl
length-claims next (c ∷ cs) = omega (arith, length-claims (next + 1) cs)

pub length-deletions : (width id n : ℕ) → length (deletion_steps width id n) ≡ n
length-deletions width id zero = refl
length-deletions width id (suc n) = omega (arith, length-deletions width (id + width) n)

-- three for each fresh variable, and two for each clause
pub phases-lines : (next : ℕ) (ms : List Reification) (cs : List Claim) → length (phases next ms cs) ≡ 3 * length ms + 2 * length cs
phases-lines next ms cs =
    omega (
      arith,
      length-append (reification_steps next ms) (claim_steps (next + 2 * length ms) cs ++ deletion_steps 2 next (length ms)),
      length-append (claim_steps (next + 2 * length ms) cs) (deletion_steps 2 next (length ms)),
      length-reifications next ms,
      length-claims (next + 2 * length ms) cs,
      length-deletions 2 next (length ms),
    )

pub phases_few : (next : ℕ) (ms : List Reification) (cs : List Claim) → length (phases next ms cs) ≤ 8 * (length ms + length (map (λ (c : Claim). c.clause) cs))
phases_few next ms cs = omega (arith, phases-lines next ms cs, length-map cs (λ (c : Claim). c.clause))
