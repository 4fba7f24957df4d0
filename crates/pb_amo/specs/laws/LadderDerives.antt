-- The clauses of a ladder are derived.
use Rattle.std.proofs.Common.{◌≡◌, ◌≤◌, ◌<◌, ◌+◌, ◌*◌, ◌-◌, ◌^◌, ◌∙◌, ◌++◌, ℕ, suc, true, List, [], ◌∷◌, length, take, length-append, length-take, get_or, refl, ap, sym, subst, arith}
use Rattle.std.specs.Prelude.{All, map}
use Rattle.std.proofs.lemmas.List.{length-map, get_or_append_left, get_or-append_right, get_or-take}
use Rattle.std.proofs.lemmas.Simd.{map-map}
use Rattle.std.proofs.lemmas.List.Elements.{All-map}
use Rattle.std.proofs.lemmas.List.FromFn.{length-map-range_with_len}
use Rattle.std.proofs.lemmas.List.Sums.{sum_by-cons}
use Rattle.pb_base.specs.declared.literal.Lit.{Lit}
use Rattle.pb_base.specs.Literals.{negated}
use Rattle.pb_norm.specs.BoundedSums.{BoundedSum, IsOverDistinct}
use Rattle.pb_norm.specs.Constraints.{Weighted}
use Rattle.pb_norm.specs.Reduction.{lits_of, all_weigh}
use Rattle.pb_steps.specs.Database.{Database}
use Rattle.pb_steps.specs.declared.step.Step.{Step}
use Rattle.pb_derive.specs.Claims.{Claim, claim_steps}
use Rattle.pb_derive.specs.Deletions.{deletion_steps}
use Rattle.pb_derive.specs.Derivations.{IsReadyFor, Derives}
use Rattle.pb_derive.specs.Ones.{unit_of}
use Rattle.pb_derive.specs.Reifications.{reification_steps}
use Rattle.pb_derive.specs.Rups.{by_rup}
use Rattle.pb_derive.specs.inner.Ran.{IsClaim, RanSwept}
use Rattle.pb_derive.proofs.Phases.{length-reifications, length-claims, length-deletions, swept_derives}
use Rattle.pb_derive.proofs.PinLemmas.{AreApartLits}
use Rattle.pb_derive.proofs.Running.{claims_ran}
use Rattle.pb_derive.proofs.Scoped.{scoped}
use Rattle.pb_family.specs.Families.{VarsBelow}
use Rattle.pb_family.specs.Fresh.{positive_of, literal_at, fresh_at}
use Rattle.pb_amo.specs.declared.rung.Place.{Place}
use Rattle.pb_amo.specs.declared.rung.Place.TheVariants.{Link, NoneAfter, SomeAfter}
use Rattle.pb_amo.specs.Ladder.{ladder_clauses}
use Rattle.pb_amo.specs.LadderSteps.{next_bit, behind, rung, rungs, front_line, front_lines, fronts_at, places, place_claim, ladder_claims, steps_of, ladder_steps}
use Rattle.pb_amo.specs.inner.AtMostOne.{at_most_one}
use Rattle.pb_amo.specs.inner.LadderOrder.{IsPlace}
use Rattle.pb_amo.specs.laws.LadderFronts.{LadderLeft, ladder_left}
use Rattle.pb_amo.specs.laws.LadderPlaces.{each_place, ladder_by_places, count_places}
use Rattle.pb_amo.specs.laws.PairwiseDerives.{of_lits}
use Rattle.pb_amo.specs.laws.TwoLiterals.{Has, MayName, pair_claims, some_claims}

-- a list begins with the literal
has_first : (l : Lit) (ls : List Lit) → Has (l ∷ ls) l
has_first l ls f = omega (arith, sum_by-cons f (unit_of l) (map unit_of ls))

has_second : (k l : Lit) → Has (k ∷ l ∷ []) l
has_second k l f = omega (arith, sum_by-cons f (unit_of k) (unit_of l ∷ []), sum_by-cons f (unit_of l) [])

module _ (ms : List Lit) (other : AreApartLits ms) (three : 3 ≤ length ms) (few : length ms < 2 ^ 31) (first : ℕ) (below : All (λ l. l.var < first) ms) (id : ℕ) (db : Database) (ready : IsReadyFor (at_most_one ms) first (length ms - 1) id db) where
  abbrev n : ℕ
  n = length ms

  abbrev P : ℕ → Type 0
  P v = v < first + (n - 1)

  left : LadderLeft ms other (omega (arith, three)) few first below db ready.numbered ready.original ready.vars ready.unnamed id
  left = ladder_left ms other (omega (arith, three)) few first below db ready.numbered ready.original ready.vars ready.unnamed id ready.stands

  abbrev mid : Database
  mid = left.added.ran.end

  -- ---- the clauses, by the place counted from the end

  may_name : (v : ℕ) → v < first + (n - 1) → MayName P mid v
  may_name v under = (under, (let low : v ≤ mid.vars = omega (arith, under, ready.vars, left.added.ran.later.vars) in low))

  literal_named : (k : ℕ) → k < n → MayName P mid (literal_at ms k).var
  literal_named k within = let low : (literal_at ms k).var < first = below k (positive_of 0) within in may_name (literal_at ms k).var (omega (arith, low))

  bit_named : (i : ℕ) → MayName P mid (first + (n - 2 - i))
  bit_named i = may_name (first + (n - 2 - i)) (omega (arith, three))

  some_at : (i : ℕ) → i < n - 1 → IsClaim P mid (by_rup ((db.next + 2 * i + 1) ∷ []) (negated (literal_at ms (n - 1 - i)) ∷ fresh_at first (n - 2 - i) ∷ []))
  some_at i within =
      let l : Lit = literal_at ms (n - 1 - i) in
      let has : Has (behind ms first i) l = has_first l (next_bit first n i) in
      let low : l.var < first = below (n - 1 - i) (positive_of 0) (omega (arith, three)) in
      some_claims P mid (db.next + 2 * i + 1) (first + (n - 2 - i)) (behind ms first i) l left.added.ran.later.numbered ((left.meant i within).second (has (λ t. t.coef))) has (λ e. omega (arith, e, low)) (literal_named (n - 1 - i) (omega (arith, three))) (bit_named i)

  link_at : (j : ℕ) → suc j < n - 1 → IsClaim P mid (by_rup ((db.next + 2 * suc j + 1) ∷ []) (negated (fresh_at first (n - 2 - j)) ∷ fresh_at first (n - 2 - suc j) ∷ []))
  link_at j within =
      let l : Lit = fresh_at first (n - 2 - j) in
      let has : Has (behind ms first (suc j)) l = has_second (literal_at ms (n - 1 - suc j)) l in
      some_claims P mid (db.next + 2 * suc j + 1) (first + (n - 2 - suc j)) (behind ms first (suc j)) l left.added.ran.later.numbered ((left.meant (suc j) within).second (has (λ t. t.coef))) has (λ e. omega (arith, e, within)) (bit_named j) (bit_named (suc j))

  none_at : (i : ℕ) → i < n - 1 → IsClaim P mid (by_rup ((fronts_at n db.next + i) ∷ []) (negated (literal_at ms (n - 2 - i)) ∷ negated (fresh_at first (n - 2 - i)) ∷ []))
  none_at i within =
      let us : List Lit = take (n - 1 - i) ms in
      let y : Lit = fresh_at first (n - 2 - i) in
      let d : Lit = positive_of 0 in
      let k : ℕ = n - 2 - i in
      let size : length us ≡ n - 1 - i = omega (arith, length-take (n - 1 - i) ms) in
      let inside : k < n - 1 - i = omega (arith, within) in
      let one : get_or (us ++ y ∷ []) k d ≡ literal_at ms k = get_or_append_left us (y ∷ []) d k (omega (arith, size, inside)) ∙ get_or-take (n - 1 - i) ms k d inside in
      let two : get_or (us ++ y ∷ []) (suc k) d ≡ y = get_or-append_right us (y ∷ []) (n - 1 - i) (suc k) d size (omega (arith, within)) ∙ ap (λ (m : ℕ). get_or (y ∷ []) m d) (let e : suc k - (n - 1 - i) ≡ 0 = omega (arith, within) in e) in
      let low : (literal_at ms k).var < first = below k d (omega (arith, within)) in
      subst (λ (c : List Lit). IsClaim P mid (by_rup ((fronts_at n db.next + i) ∷ []) c)) (λ x. negated (one x) ∷ negated (two x) ∷ [])
      (pair_claims P mid (fronts_at n db.next + i) (us ++ y ∷ []) d k (suc k) left.added.ran.later.numbered (left.fronts i within) (omega arith) (omega (arith, length-append us (y ∷ []), size, within))
      (λ e. omega (arith, low, sym (ap (λ (l : Lit). l.var) one) ∙ e ∙ ap (λ (l : Lit). l.var) two))
      (subst (λ (l : Lit). MayName P mid l.var) (sym one) (literal_named k (omega (arith, within)))) (subst (λ (l : Lit). MayName P mid l.var) (sym two) (bit_named i)))

  -- ---- at each place

  place_claims : (p : Place) → IsPlace n p → IsClaim P mid (place_claim ms first db.next p)
  place_claims (Link k) h =
      let last : suc (n - 3 - k) ≡ n - 2 - k = omega (arith, h) in
      let next : n - 2 - (n - 3 - k) ≡ k + 1 = omega (arith, h) in
      let here : n - 2 - suc (n - 3 - k) ≡ k = omega (arith, h) in
      subst (λ (c : Claim). IsClaim P mid c) (λ x. by_rup ((db.next + 2 * last x + 1) ∷ []) (negated (fresh_at first (next x)) ∷ fresh_at first (here x) ∷ [])) (link_at (n - 3 - k) (omega (arith, h)))
  place_claims (NoneAfter k) h =
      let here : n - 2 - (n - 2 - k) ≡ k = omega (arith, h) in
      subst (λ (m : ℕ). IsClaim P mid (by_rup ((fronts_at n db.next + (n - 2 - k)) ∷ []) (negated (literal_at ms m) ∷ negated (fresh_at first m) ∷ []))) here (none_at (n - 2 - k) (omega (arith, h)))
  place_claims (SomeAfter k) h =
      let next : n - 1 - (n - 2 - k) ≡ k + 1 = omega (arith, h) in
      let here : n - 2 - (n - 2 - k) ≡ k = omega (arith, h) in
      subst (λ (c : Claim). IsClaim P mid c) (λ x. by_rup ((db.next + 2 * (n - 2 - k) + 1) ∷ []) (negated (literal_at ms (next x)) ∷ fresh_at first (here x) ∷ [])) (some_at (n - 2 - k) (omega (arith, h)))

  -- ---- all of it

  claims_clauses : map (λ (c : Claim). c.clause) (ladder_claims ms first db.next) ≡ ladder_clauses ms first
  claims_clauses = map-map (λ (c : Claim). c.clause) (place_claim ms first db.next) (places n) ∙ ladder_by_places ms first

  steps_derive : Derives db (steps_of ms first id db.next) (ladder_clauses ms first) (first + (n - 1))
  steps_derive =
      let claims : List Claim = ladder_claims ms first db.next in
      let ran : RanSwept P mid (claim_steps mid.next claims) (map (λ (c : Claim). c.clause) claims) (length claims) =
      claims_ran P mid claims left.added.ran.later.numbered (All-map (IsClaim P mid) (place_claim ms first db.next) (places n) (each_place (λ p. IsClaim P mid (place_claim ms first db.next p)) n place_claims)) in
      let start : mid.next ≡ db.next + 3 * (n - 1) = left.added.ran.next in
      let body : RanSwept P mid (claim_steps (db.next + 3 * (n - 1)) claims) (ladder_clauses ms first) (length claims) =
      subst (λ (m : ℕ). RanSwept P mid (claim_steps m claims) (ladder_clauses ms first) (length claims)) start
      (subst (λ (cs : List (List Lit)). RanSwept P mid (claim_steps mid.next claims) cs (length claims)) claims_clauses ran) in
      let whole = scoped P db (reification_steps db.next (rungs ms first) ++ front_lines n id db.next) (claim_steps (db.next + 3 * (n - 1)) claims) (ladder_clauses ms first) (3 * (n - 1)) (length claims) 3 (n - 1) left.added.ran ready.numbered left.added.adding body refl in
      swept_derives db (steps_of ms first id db.next) (ladder_clauses ms first) (first + (n - 1)) (3 * (n - 1) + length claims) ready.numbered whole.all

-- ---- the family

pub ladder_few : (ts : List Weighted) (first id next : ℕ) → 3 ≤ length ts → length (ladder_steps ts first id next) ≤ 8 * (length ts - 1 + (3 * length ts - 4))
ladder_few ts first id next three =
    let ms : List Lit = lits_of ts in
    let n : ℕ = length ms in
    let claims : List Claim = ladder_claims ms first next in
    let body : List Step = claim_steps (next + 3 * (n - 1)) claims in
    omega (
      arith,
      length-map ts (λ (t : Weighted). t.lit),
      length-append (reification_steps next (rungs ms first) ++ front_lines n id next) (body ++ deletion_steps 3 next (n - 1)),
      length-append (reification_steps next (rungs ms first)) (front_lines n id next),
      length-append body (deletion_steps 3 next (n - 1)),
      length-reifications next (rungs ms first),
      length-map-range_with_len (rung ms first) 0 (n - 1),
      length-map-range_with_len (front_line id next (fronts_at n next)) 0 (n - 1),
      length-claims (next + 3 * (n - 1)) claims,
      length-map (places n) (place_claim ms first next),
      count_places n,
      length-deletions 3 next (n - 1),
      three,
    )

-- from each database that is ready, the steps run and put out the clauses
pub ladder_derives : (c : BoundedSum) → c.bound ≡ 1 → all_weigh 1 c.terms ≡ true → IsOverDistinct c.terms → 3 ≤ length c.terms → length c.terms < 2 ^ 31 → (first id : ℕ) (db : Database) → VarsBelow first c.terms
    → IsReadyFor c first (length c.terms - 1) id db → Derives db (ladder_steps c.terms first id db.next) (ladder_clauses (lits_of c.terms) first) (first + (length c.terms - 1))
ladder_derives c one units distinct three few first id db below ready =
    let ms : List Lit = lits_of c.terms in
    let size : length ms ≡ length c.terms = length-map c.terms (λ (t : Weighted). t.lit) in
    let own = of_lits c one units distinct first below in
    subst (λ (n : ℕ). Derives db (steps_of ms first id db.next) (ladder_clauses ms first) (first + (n - 1))) size
    (steps_derive ms own.apart (omega (arith, size, three)) (omega (arith, size, few)) first own.below id db
    (subst (λ (m : BoundedSum). IsReadyFor m first (length ms - 1) id db) own.same (subst (λ (n : ℕ). IsReadyFor c first (n - 1) id db) (sym size) ready)))
