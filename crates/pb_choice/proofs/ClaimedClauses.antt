-- Clauses that follow from a constraint by unit propagation.
use Rattle.std.proofs.Common.{◌≡◌, ◌≤◌, ◌<◌, ◌+◌, ◌^◌, ◌||◌, inl, inr, ℕ, true, false, List, [], ◌∷◌, length, map, refl, sym, ap, ◌∙◌, subst, arith, get_or}
use Rattle.std.specs.Prelude.{All, Any, Contains, Some}
use Rattle.std.proofs.lemmas.Bool.{both_ways, cases_lt, or_from}
use Rattle.std.proofs.lemmas.List.Elements.{All-nil, All-cons, All-head, All-map, All-contains, All-contains_itself}
use Rattle.pb_base.specs.declared.literal.Lit.{Lit}
use Rattle.pb_base.specs.Literals.{Assignment, negated, lit_value, is_same}
use Rattle.pb_base.proofs.LiteralLemmas.{is_same-negated}
use Rattle.pb_norm.specs.ClauseForm.{is_tautology}
use Rattle.pb_norm.specs.Constraints.{Constraint, Holds, IsLinear, value}
use Rattle.pb_norm.specs.Reduction.{units_of, rest_of, RestHolds}
use Rattle.pb_norm.specs.declared.reduction.Rest.{Rest}
use Rattle.pb_norm.specs.declared.reduction.Rest.TheVariants as rest
use Rattle.pb_norm.proofs.ReductionLaws.{split_holds}
use Rattle.pb_norm.proofs.Variables.{OfLit, OfTerm, units_of-vars}
use Rattle.pb_steps.specs.Database.{Database, constraint_at}
use Rattle.pb_derive.specs.Forms.{IsFormOf}
use Rattle.pb_derive.specs.Later.{IsNumbered}
use Rattle.pb_derive.specs.Rups.{by_rup}
use Rattle.pb_derive.specs.inner.Follows.{AllFalse}
use Rattle.pb_derive.specs.inner.Ran.{IsClaim}
use Rattle.pb_derive.specs.inner.Refuted.{IsClauseIn}
use Rattle.pb_derive.proofs.ShortRups.{short_claims}

pub form_itself : (c : Constraint) → IsLinear c → IsFormOf c c
form_itself c h = record { terms = λ f. refl; degree = refl; positive = h.positive; ascending = h.ascending }

fails_short : (a : Assignment) (c : Constraint) → ¬ Holds a c → value a c.terms < c.degree
fails_short a c fails = elim (cases_lt (value a c.terms) c.degree) as (λ _. value a c.terms < c.degree) [ inl less ↦ less | inr more ↦ absurd (fails more) ]

unit_plain : (l : Lit) → is_tautology (l ∷ []) ≡ false
unit_plain l = or_from (is_same l (negated l) || false) false (or_from (is_same l (negated l)) false (is_same-negated l) refl) refl

all_false_fails : (a : Assignment) (ls : List Lit) → AllFalse a ls → ¬ Any (λ l. lit_value a l ≡ true) ls
all_false_fails a ls falses any = both_ways (lit_value a any.1) (ap (lit_value a) (sym any.3) ∙ falses any.0 any.1 any.2) any.4

module _ (c : Constraint) (linear : IsLinear c) (first id : ℕ) (db : Database) (below : All (OfTerm (λ v. v < first)) c.terms) (reaches : first ≤ db.vars + 1) (numbered : IsNumbered db) (stands : constraint_at db.live id ≡ Some c) where
  abbrev Below : ℕ → Type 0
  Below v = v < first

  inside : (ls : List Lit) → All (OfLit Below) ls → length ls < 2 ^ 125 → IsClauseIn Below db ls
  inside ls own few = record { named = own; vars = λ k d w. omega (arith, own k d w, reaches); few = few }

  -- where the clause is false, the constraint fails
  pub clause_claim : (ls : List Lit) → is_tautology ls ≡ false → All (OfLit Below) ls → length ls < 2 ^ 125 → ((a : Assignment) → AllFalse a ls → ¬ Holds a c) → IsClaim Below db (by_rup (id ∷ []) ls)
  clause_claim ls plain own few fails =
      short_claims Below db id c ls numbered (c, stands, form_itself c linear) plain (λ a falses. fails_short a c (fails a falses)) (inside ls own few)

  pub units_claimed : All (IsClaim Below db) (map (λ l. by_rup (id ∷ []) (l ∷ [])) (units_of c))
  units_claimed =
      All-map (IsClaim Below db) {Y = Lit} (λ l. by_rup (id ∷ []) (l ∷ [])) (units_of c) (λ k d w.
      let l = get_or (units_of c) k d in
      let among : Contains (units_of c) l = All-contains_itself (units_of c) k d w in
      let own : l.var < first = units_of-vars Below c below k d w in
      let small : 1 < 2 ^ 125 = omega arith in
      clause_claim (l ∷ []) (unit_plain l) (All-cons (OfLit Below) l [] own (All-nil (OfLit Below))) small (λ a falses holds.
      both_ways (lit_value a l) (All-head (λ (l : Lit). lit_value a l ≡ false) l [] falses)
      (All-contains (λ (l : Lit). lit_value a l ≡ true) (units_of c) l ((split_holds a c linear).0 holds).0 among)))

  pub empty_claimed : rest_of c ≡ rest.Empty → IsClaim Below db (by_rup (id ∷ []) [])
  empty_claimed is =
      let small : 0 < 2 ^ 125 = omega arith in
      clause_claim [] refl (All-nil (OfLit Below)) small (λ a falses holds. subst (λ (r : Rest). RestHolds a r) is ((split_holds a c linear).0 holds).1)

  pub rest_claimed : (ls : List Lit) → rest_of c ≡ rest.Clause ls → is_tautology ls ≡ false → All (OfLit Below) ls → length ls < 2 ^ 125 → IsClaim Below db (by_rup (id ∷ []) ls)
  rest_claimed ls is plain own few =
      clause_claim ls plain own few (λ a falses holds. all_false_fails a ls falses (subst (λ (r : Rest). RestHolds a r) is ((split_holds a c linear).0 holds).1))
