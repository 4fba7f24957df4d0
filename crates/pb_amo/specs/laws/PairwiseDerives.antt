-- The clauses for each two literals are derived.
use Rattle.std.proofs.Common.{◌≡◌, ◌≢◌, ◌<◌, ◌≤◌, ◌+◌, ◌*◌, ◌-◌, ℕ, true, List, [], ◌∷◌, length, sym, subst, arith, get_or}
use Rattle.std.specs.Prelude.{All, count_by}
use Rattle.std.proofs.lemmas.List.{length-map}
use Rattle.std.proofs.lemmas.List.Elements.{All-map}
use Rattle.pb_base.specs.declared.literal.Lit.{Lit}
use Rattle.pb_base.proofs.Pairs.{AllPairs-map}
use Rattle.pb_norm.specs.BoundedSums.{BoundedSum, IsOverDistinct}
use Rattle.pb_norm.specs.Constraints.{Weighted}
use Rattle.pb_norm.specs.Reduction.{lits_of, all_weigh}
use Rattle.pb_norm.proofs.Proper.{apart as apart_terms}
use Rattle.pb_steps.specs.Database.{Database}
use Rattle.pb_steps.specs.Steps.{takes_id}
use Rattle.pb_steps.specs.declared.step.Step.{Step}
use Rattle.pb_derive.specs.Derivations.{IsReadyFor, Derives}
use Rattle.pb_derive.specs.Rups.{by_rup}
use Rattle.pb_derive.specs.inner.Ran.{IsClaim, RanSwept}
use Rattle.pb_derive.proofs.FollowedBy.{swept_counted}
use Rattle.pb_derive.proofs.JustificationClauses.{rup_clauses}
use Rattle.pb_derive.proofs.Phases.{length-claims, swept_derives}
use Rattle.pb_derive.proofs.PinLemmas.{AreApartLits}
use Rattle.pb_derive.proofs.Running.{claims_ran}
use Rattle.pb_derive.proofs.UnitTerms.{ones-lits}
use Rattle.pb_family.specs.Families.{VarsBelow}
use Rattle.pb_family.proofs.UnitSums.{coefficients_one}
use Rattle.pb_amo.specs.inner.AtMostOne.{at_most_one}
use Rattle.pb_amo.specs.Pairwise.{pairwise_clauses, pair_count}
use Rattle.pb_amo.specs.PairwiseSteps.{pairwise_claims, pairwise_steps}
use Rattle.pb_amo.specs.laws.PairwiseLaws.{pair_clause, by_pairs, pairwise_counts}
use Rattle.pb_amo.specs.laws.TwoLiterals.{pair_claims}

-- ---- from a database that is ready

abbrev IsUnder : ℕ → ℕ → Type 0
IsUnder first v = v < first + 0

pub pairs_swept : (ms : List Lit) → AreApartLits ms → (first id : ℕ) → All (λ l. l.var < first) ms → (db : Database) → IsReadyFor (at_most_one ms) first 0 id db →
    RanSwept (λ v. v < first + 0) db (pairwise_steps ms id db.next) (pairwise_clauses ms) (count_by takes_id (pairwise_steps ms id db.next))
pairs_swept ms apart first id below db ready =
    let claims = by_pairs (λ ls. IsClaim (IsUnder first) db (by_rup (id ∷ []) ls)) ms (λ i j d before within. claimed i j d before within) in
    swept_counted (IsUnder first) db (pairwise_steps ms id db.next) (pairwise_clauses ms) (length (pairwise_claims ms id))
    (subst (λ (cs : List (List Lit)). RanSwept (IsUnder first) db (pairwise_steps ms id db.next) cs (length (pairwise_claims ms id))) (rup_clauses (id ∷ []) (pairwise_clauses ms))
    (claims_ran (IsUnder first) db (pairwise_claims ms id) ready.numbered (All-map (IsClaim (IsUnder first) db) (by_rup (id ∷ [])) (pairwise_clauses ms) claims)))
  where
    claimed : (i j : ℕ) (d : Lit) → i < j → j < length ms → IsClaim (IsUnder first) db (by_rup (id ∷ []) (pair_clause (get_or ms i d) (get_or ms j d)))
    claimed i j d before within =
        let k : Lit = get_or ms i d in
        let l : Lit = get_or ms j d in
        let under_k : k.var < first = below i d (omega (arith, before, within)) in
        let under_l : l.var < first = below j d within in
        pair_claims (IsUnder first) db id ms d i j ready.numbered ready.stands before within (apart i j d before within) (omega (arith, under_k), omega (arith, under_k, ready.vars)) (omega (arith, under_l), omega (arith, under_l, ready.vars))

-- ---- a sum of which at most one literal may be true is one of literals alone

pub record IsOfLits (first : ℕ) (c : BoundedSum) : Type 0 where
  pub same : c ≡ at_most_one (lits_of c.terms)
  pub apart : AreApartLits (lits_of c.terms)
  pub below : All (λ l. l.var < first) (lits_of c.terms)

pub of_lits : (c : BoundedSum) → c.bound ≡ 1 → all_weigh 1 c.terms ≡ true → IsOverDistinct c.terms → (first : ℕ) → VarsBelow first c.terms → IsOfLits first c
of_lits c one units distinct first below =
    let terms = ones-lits c.terms (coefficients_one c.terms units) in
    record {
      same = λ i. record { terms = sym terms i; bound = one i };
      apart = AllPairs-map (λ (s t : Weighted). s.lit.var ≢ t.lit.var) (λ (k l : Lit). k.var ≢ l.var) (λ (t : Weighted). t.lit) (λ s t h. h) c.terms (apart_terms c.terms distinct);
      below = All-map (λ (l : Lit). l.var < first) (λ (t : Weighted). t.lit) c.terms below;
    }

-- ---- the family

pub pairwise_derives : (c : BoundedSum) → c.bound ≡ 1 → all_weigh 1 c.terms ≡ true → IsOverDistinct c.terms → (first id : ℕ) (db : Database) → VarsBelow first c.terms → IsReadyFor c first 0 id db
    → Derives db (pairwise_steps (lits_of c.terms) id db.next) (pairwise_clauses (lits_of c.terms)) (first + 0)
pairwise_derives c one units distinct first id db below ready =
    let ms : List Lit = lits_of c.terms in
    let own = of_lits c one units distinct first below in
    let steps : List Step = pairwise_steps ms id db.next in
    swept_derives db steps (pairwise_clauses ms) (first + 0) (count_by takes_id steps) ready.numbered
    (pairs_swept ms own.apart first id own.below db (subst (λ (m : BoundedSum). IsReadyFor m first 0 id db) own.same ready))

-- two lines a clause
pub pairwise_few : (ts : List Weighted) (id next : ℕ) → length (pairwise_steps (lits_of ts) id next) ≤ 8 * (0 + pair_count (length ts))
pairwise_few ts id next =
    let ms : List Lit = lits_of ts in
    omega (arith, length-claims next (pairwise_claims ms id), length-map (pairwise_clauses ms) (by_rup (id ∷ [])), pairwise_counts ts)
