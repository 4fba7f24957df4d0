-- A clause follows by unit propagation from one constraint that is short wherever the clause is false.
use Rattle.std.proofs.Common.{◌≡◌, ◌≤◌, ◌<◌, ℕ, Bool, true, false, not, cond, List, [], ◌∷◌, arith, refl, ap, sym, ◌∙◌, pos, get_or, inl, inr}
use Rattle.std.specs.Prelude.{All, Contains, map}
use Rattle.std.proofs.lemmas.Bool.{cases_Bool, both_ways, or_from, not-false}
use Rattle.std.proofs.lemmas.List.Elements.{All-head, All-tail, All-map, All-contains, All-contains_itself}
use Rattle.std.proofs.lemmas.List.Sums.{sum_by-cons}
use Rattle.pb_base.specs.declared.literal.Lit.{Lit}
use Rattle.pb_base.specs.Literals.{Assignment, negated, lit_value, is_same, is_among}
use Rattle.pb_base.proofs.LiteralLemmas.{lit_value-negated, is_same-other_var}
use Rattle.pb_base.proofs.Members.{Contains-here, Contains-there, Contains-map, among_from, from_among, not_among_from}
use Rattle.pb_base.proofs.Pairs.{AllPairs-head, AllPairs-tail}
use Rattle.pb_base.proofs.Sums.{sum_by-map}
use Rattle.pb_norm.specs.Constraints.{Weighted, Constraint, AllPositive, IsAscending, weight, value, term_value}
use Rattle.pb_norm.specs.ClauseForm.{distinct, is_tautology, one_of}
use Rattle.pb_norm.specs.Halves.{written}
use Rattle.pb_norm.specs.Propagation.{room, Needs, Reached}
use Rattle.pb_norm.specs.Reduction.{opposite}
use Rattle.pb_norm.proofs.AdditionOrder.{Before, map-ascending}
use Rattle.pb_norm.proofs.AdditionValues.{value-cons}
use Rattle.pb_norm.proofs.ClauseTerms.{form_terms, form-term, form-is}
use Rattle.pb_norm.proofs.Rooms.{room_of, room-le-weight}
use Rattle.pb_norm.proofs.WrittenForm.{normal_terms-positive, normal_terms-ascending}
use Rattle.pb_steps.specs.Operations.{negation}
use Rattle.pb_steps.specs.Database.{Database}
use Rattle.pb_derive.specs.Later.{IsNumbered, Knows}
use Rattle.pb_derive.specs.Rups.{by_rup}
use Rattle.pb_derive.specs.inner.Follows.{AllFalse}
use Rattle.pb_derive.specs.inner.Ran.{IsClaim}
use Rattle.pb_derive.specs.Forms.{IsFormOf}
use Rattle.pb_derive.proofs.Closed.{one_way}
use Rattle.pb_derive.proofs.Closing.{against, against-false, against-true}
use Rattle.pb_derive.proofs.Laters.{known_below}
use Rattle.pb_derive.proofs.Rups.{refuted_claims}
use Rattle.pb_derive.proofs.ClauseClaims.{claim-form}
use Rattle.pb_derive.specs.inner.Refuted.{IsRefuting, IsClauseIn}

-- ---- all literals of a constraint that needs them all

others_none : (us : List Weighted) (l : Lit) → All (λ t. l.var < t.lit.var) us → is_among (map (λ (t : Weighted). t.lit) us) l ≡ false
others_none [] l h = refl
others_none (u ∷ us) l h =
    let above = All-head {X = Weighted} (λ t. l.var < t.lit.var) u us h in
    or_from (is_same u.lit l) (is_among (map (λ (t : Weighted). t.lit) us) l) (is_same-other_var u.lit l (λ e. omega (arith, above, e)))
    (others_none us l (All-tail {X = Weighted} (λ t. l.var < t.lit.var) u us h))

reach_all : (cs : List Constraint) (c : Constraint) → Contains cs c → AllPositive c.terms → weight c.terms ≤ c.degree → (us : List Weighted) → All (Contains c.terms) us → IsAscending us
    → Reached cs [] (map (λ (t : Weighted). t.lit) us)
reach_all cs c known positive tight [] among up = tt
reach_all cs c known positive tight (u ∷ us) among up =
    let lits = map (λ (t : Weighted). t.lit) us in
    let has = All-head (Contains c.terms) u us among in
    let some : 0 < u.coef = All-contains {X = Weighted} (λ t. 0 < t.coef) c.terms u positive has in
    let above = AllPairs-head Before u us up in
    let need : Needs cs lits u.lit = record {
      by = c;
      coef = u.coef;
      known = known;
      term = has;
      short = omega (arith, some, tight, room-le-weight lits c.terms);
      absent = others_none us u.lit above;
      undecided = others_none us (negated u.lit) above;
    } in
    (inr need, reach_all cs c known positive tight us (All-tail (Contains c.terms) u us among) (AllPairs-tail Before u us up))

-- ---- a clause without opposite literals

room-le-value : (a : Assignment) (ls : List Lit) (ts : List Weighted) → All (λ t. room_of ls t ≤ term_value a t) ts → room ls ts ≤ value a ts
room-le-value a ls [] h = omega arith
room-le-value a ls (t ∷ ts) h =
    omega (arith, sum_by-cons (room_of ls) t ts, value-cons a t ts, All-head {X = Weighted} (λ t. room_of ls t ≤ term_value a t) t ts h, room-le-value a ls ts (All-tail {X = Weighted} (λ t. room_of ls t ≤ term_value a t) t ts h))

-- a clause is shown where the constraint is short under each assignment that makes it false
pub short_refuted : (c : Constraint) (clause : List Lit) → IsAscending c.terms → is_tautology clause ≡ false
    → ((a : Assignment) → AllFalse a clause → value a c.terms < c.degree) → IsRefuting (c ∷ []) clause
short_refuted c clause up none short =
    let claim : Constraint = written (map one_of (distinct clause)) (pos 1) in
    let ts = form_terms clause in
    let us = map opposite ts in
    let ks = map (λ (t : Weighted). t.lit) us in
    let n : Constraint = negation claim in
    let degree : claim.degree ≡ 1 = ap (λ (d : Constraint). d.degree) (claim-form clause none ∙ form-is clause none) in
    let cs = n ∷ c ∷ [] in
    let weights : weight us ≡ weight ts = sum_by-map (λ (t : Weighted). t.coef) opposite ts in
    let positive : AllPositive us = All-map (λ (t : Weighted). 0 < t.coef) opposite ts (normal_terms-positive (map one_of (distinct clause))) in
    let ascending = map-ascending opposite (λ t. refl) ts (normal_terms-ascending (map one_of (distinct clause))) in
    let reached = reach_all cs n (Contains-here n (c ∷ [])) positive (omega (arith, weights, degree)) us (All-contains_itself us) ascending in
    let a : Assignment = against clause c.terms in
    let falses : (l : Lit) → Contains clause l → lit_value a l ≡ false = against-false clause c.terms (one_way clause none) in
    let rooms : All (λ t. room_of ks t ≤ term_value a t) c.terms = λ k d h.
    let t : Weighted = get_or c.terms k d in
    elim (cases_Bool (is_among ks (negated t.lit))) as (λ _. room_of ks t ≤ term_value a t) [
      | inl gone ↦ let nothing : room_of ks t ≡ 0 = ap (λ (b : Bool). cond b 0 t.coef) gone in omega (arith, nothing)
      | inr left ↦
          let apart : is_among clause t.lit ≡ false = not_among_from clause t.lit (λ has.
          let term = form-term clause none t.lit has in
          both_ways (is_among ks (negated t.lit)) left (among_from ks (negated t.lit) (Contains-map (λ (t : Weighted). t.lit) us (opposite (record { coef = 1; lit = t.lit })) (Contains-map opposite ts (record { coef = 1; lit = t.lit }) term)))) in
          let holds : lit_value a t.lit ≡ true = elim (cases_Bool (is_among clause (negated t.lit))) as (λ _. lit_value a t.lit ≡ true) [
            | inl other ↦ not-false (lit_value a t.lit) (sym (lit_value-negated a t.lit) ∙ falses (negated t.lit) (from_among clause (negated t.lit) other))
            | inr neither ↦ against-true clause c.terms up t (All-contains_itself c.terms k d h) (either t.lit clause apart neither)
          ] in
          let all : term_value a t ≡ t.coef = ap (λ (b : Bool). cond b t.coef 0) holds in
          let whole : room_of ks t ≡ t.coef = ap (λ (b : Bool). cond b 0 t.coef) left in
          omega (arith, all, whole)
    ] in
    (none, inr (ks, c, reached, Contains-there n (c ∷ []) c (Contains-here c []), omega (arith, room-le-value a ks c.terms rooms, short a (λ k d h. falses (get_or clause k d) (All-contains_itself clause k d h)))))
  where
    either : (l : Lit) (ls : List Lit) → is_among ls l ≡ false → is_among ls (negated l) ≡ false → (p : Bool) → is_among ls (record { var = l.var; positive = p }) ≡ false
    either l ls h k p = by_sign l.positive p h k
      where
        by_sign : (q p : Bool) → is_among ls (record { var = l.var; positive = q }) ≡ false → is_among ls (record { var = l.var; positive = not q }) ≡ false → is_among ls (record { var = l.var; positive = p }) ≡ false
        by_sign true true h k = h
        by_sign true false h k = k
        by_sign false true h k = k
        by_sign false false h k = h

-- such a clause may be claimed by the id of the constraint
pub short_claims : (P : ℕ → Type 0) (db : Database) (id : ℕ) (s : Constraint) (clause : List Lit) → IsNumbered db → Knows db id s → is_tautology clause ≡ false
    → ((a : Assignment) → AllFalse a clause → value a s.terms < s.degree) → IsClauseIn P db clause → IsClaim P db (by_rup (id ∷ []) clause)
short_claims P db id s clause numbered known plain short inside =
    let c : Constraint = known.0 in
    let form : IsFormOf s c = known.2 in
    refuted_claims P db id [] (c ∷ []) clause (known.1, known_below db id s numbered known, tt)
    (short_refuted c clause form.ascending plain (λ a falses. omega (arith, short a falses, form.terms (term_value a), form.degree))) inside
