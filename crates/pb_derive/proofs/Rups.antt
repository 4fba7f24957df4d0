-- A clause that propagation shows from constraints with ids may be claimed.
use Rattle.std.proofs.Common.{◌≡◌, ◌≤◌, ◌<◌, ◌+◌, ℕ, Bool, true, false, cond, List, [], ◌∷◌, arith, refl, ap, sym, ◌∙◌, subst, pos, length, get_or, leb, eqb}
use Rattle.std.specs.Prelude.{All, map, filter_map, Option, is_some}
use Rattle.std.specs.List.{cons_option}
use Rattle.std.proofs.lemmas.Bool.{or_right, le-leb}
use Rattle.std.proofs.lemmas.List.Elements.{All-nil, All-cons, All-map, All-weaker, All-contains_itself}
use Rattle.pb_base.specs.declared.literal.Lit.{Lit}
use Rattle.pb_base.specs.declared.literal.Term.{Term}
use Rattle.pb_base.specs.Literals.{is_among}
use Rattle.pb_norm.specs.Constraints.{Weighted, Constraint, IsAscending, weight}
use Rattle.pb_norm.specs.Addition.{coef_of}
use Rattle.pb_norm.specs.ClauseForm.{distinct, one_of, clause_form}
use Rattle.pb_norm.specs.Halves.{written}
use Rattle.pb_norm.specs.Propagation.{Conflict}
use Rattle.pb_norm.proofs.AdditionSizes.{weight-cons}
use Rattle.pb_norm.proofs.AllBut.{coef_of-at}
use Rattle.pb_norm.proofs.ClauseTerms.{form-lit}
use Rattle.pb_norm.proofs.SignTerms.{magnitude-distinct}
use Rattle.pb_norm.proofs.WrittenForm.{normal_terms-ascending}
use Rattle.pb_steps.specs.Operations.{negation, excess, Implies}
use Rattle.pb_steps.specs.Database.{Database, constraint_at, IsLive}
use Rattle.pb_derive.specs.inner.Ran.{IsClaim}
use Rattle.pb_derive.specs.inner.Refuted.{AreAt, IsClauseIn, IsRefuting}
use Rattle.pb_derive.specs.Later.{IsLater}
use Rattle.pb_derive.proofs.Closed.{no_excess}
use Rattle.pb_derive.specs.Ones.{unit_of, ones}
use Rattle.pb_derive.specs.Rups.{by_rup}
use Rattle.pb_derive.proofs.ClauseClaims.{claim-form, distinct-all}

at_later : (P : ℕ → Type 0) (db end : Database) (ids : List ℕ) (cs : List Constraint) → IsLater P db end → AreAt db ids cs → AreAt end ids cs
at_later P db end [] [] later h = tt
at_later P db end [] (c ∷ cs) later h = absurd h
at_later P db end (id ∷ ids) [] later h = absurd h
at_later P db end (id ∷ ids) (c ∷ cs) later h = (later.stands id h.1 ∙ h.0, (let below : id < end.next = omega (arith, h.1, later.next) in below), at_later P db end ids cs later h.2)

at_hints : (db : Database) (ids : List ℕ) (cs : List Constraint) → AreAt db ids cs → filter_map (constraint_at db.live) ids ≡ cs
at_hints db [] [] h = refl
at_hints db [] (c ∷ cs) h = absurd h
at_hints db (id ∷ ids) [] h = absurd h
at_hints db (id ∷ ids) (c ∷ cs) h =
    ap (λ (o : Option Constraint). cons_option o (filter_map (constraint_at db.live) ids)) h.0 ∙ ap (λ (ds : List Constraint). c ∷ ds) (at_hints db ids cs h.2)

at_live : (db : Database) (ids : List ℕ) (cs : List Constraint) → AreAt db ids cs → All (IsLive db.live) ids
at_live db [] cs h = All-nil (IsLive db.live)
at_live db (id ∷ ids) [] h = absurd h
at_live db (id ∷ ids) (c ∷ cs) h = All-cons (IsLive db.live) id ids (ap is_some h.0) (at_live db ids cs h.2)

-- ---- a constraint implies itself

pub implies_itself : (c : Constraint) → IsAscending c.terms → Implies c c
implies_itself c up =
    let none = no_excess c.terms c.terms
    (All-weaker (λ (t : Weighted). coef_of c.terms t.lit ≡ t.coef) (λ (t : Weighted). t.coef ≤ coef_of c.terms t.lit) (λ t same. omega (arith, same)) c.terms (coef_of-at c.terms up)) in
    or_right (eqb c.degree 0) (leb (c.degree + excess c c) c.degree) (le-leb (c.degree + excess c c) c.degree (omega (arith, none)))

-- ---- the claim

pub ones-weight : (ls : List Lit) → weight (ones ls) ≡ length ls
ones-weight [] = refl
ones-weight (l ∷ ls) = omega (arith, weight-cons (unit_of l) (ones ls), ones-weight ls)

pub distinct-length : (ls : List Lit) → length (distinct ls) ≤ length ls
distinct-length [] = omega arith
distinct-length (l ∷ ls) = by_test (is_among ls l) (distinct-length ls)
  where
    by_test : (b : Bool) → length (distinct ls) ≤ length ls → length (cond b (distinct ls) (l ∷ distinct ls)) ≤ length (l ∷ ls)
    by_test true h = omega (arith, h)
    by_test false h = omega (arith, h)

named : (m : ℕ) (ls : List Lit) → All (λ l. l.var ≤ m) ls → All (λ v. v ≤ m) (map {A = Term} {B = ℕ} (λ t. t.lit.var) (map one_of ls))
named m ls all = All-map (λ (v : ℕ). v ≤ m) {Y = Term} (λ t. t.lit.var) (map one_of ls) (All-map (λ (t : Term). t.lit.var ≤ m) one_of ls all)

pub refuted_claims : (P : ℕ → Type 0) (db : Database) (id : ℕ) (ids : List ℕ) (cs : List Constraint) (clause : List Lit) → AreAt db (id ∷ ids) cs → IsRefuting cs clause → IsClauseIn P db clause
    → IsClaim P db (by_rup (id ∷ ids) clause)
refuted_claims P db id ids cs clause at_ids refuted short = record {
  named = short.named;
  takes = refl;
  gives = λ end later.
      let here = at_later P db end (id ∷ ids) cs later at_ids in
      let ts = map one_of (distinct clause) in
      let c : Constraint = written ts (pos 1) in
      let form : c ≡ clause_form clause = claim-form clause refuted.0 in
      record {
        constraint = c;
        allowed = λ next. record {
          vars = subst (λ (m : ℕ). All (λ v. v ≤ m) (map {A = Term} {B = ℕ} (λ t. t.lit.var) ts)) (sym later.vars) (named db.vars (distinct clause) (distinct-all (λ l. l.var ≤ db.vars) clause short.vars));
          ids = at_live end (id ∷ ids) cs here;
          rule = record {
            slim = omega (arith, magnitude-distinct clause, short.few);
            conflict = subst (λ (hints : List Constraint). Conflict (negation c ∷ hints) []) (sym (at_hints end (id ∷ ids) cs here)) refuted.1;
            after = refl;
          };
        };
        implies = subst (λ (d : Constraint). Implies c d) form (implies_itself c (normal_terms-ascending ts));
        among = λ k d l. (form-lit clause (get_or c.terms k d) (All-contains_itself c.terms k d l)).0;
      };
}
