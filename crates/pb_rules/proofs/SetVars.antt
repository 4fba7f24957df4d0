-- The ids of constraints that have a set variable.
use Rattle.std.proofs.Common.{◌≡◌, ◌≤◌, ◌<◌, ◌+◌, inl, inr, ℕ, Bool, true, false, List, [], ◌∷◌, Some, arith, length, get_or, refl, ap, sym, ◌∙◌, subst, eqb, cond}
use Rattle.std.specs.Prelude.{All, Contains, IsTrue, not, is_none, ◌||◌}
use Rattle.std.specs.List.{list_any, dedup}
use Rattle.std.specs.List.Sorted.{IsPermutation}
use Rattle.std.proofs.lemmas.List.Kept.{Contains-dedup_nat}
use Rattle.std.proofs.lemmas.List.Sorted.{Contains-permutation}
use Rattle.std.proofs.lemmas.Bool.{cases_eq, eqb-true, eq-eqb, false≢true}
use Rattle.std.proofs.lemmas.List.{get_or_default}
use Rattle.std.proofs.lemmas.List.Elements.{All-contains, All-map}
use Rattle.pb_base.proofs.Members.{Contains-here, Contains-there}
use Rattle.pb_norm.specs.Constraints.{Weighted, Constraint}
use Rattle.pb_steps.specs.declared.op.Set.{Set}
use Rattle.pb_steps.specs.Steps.{vars_of_sets}
use Rattle.pb_steps.specs.Database.{Entry}
use Rattle.pb_steps.specs.Substitutions.{names_set, set_value, is_unset}
use Rattle.pb_database.specs.Naming.{is_of, names_var, HasNaming}
use Rattle.pb_rules.specs.inner.Obligations.{HasNamed}

set-var : (sets : List Set) (v : ℕ) → not (is_none (set_value sets v)) ≡ true → Contains (vars_of_sets sets) v
set-var [] v e = absurd (false≢true e)
set-var (s ∷ sets) v e = look (eqb s.var v) refl e (λ f. set-var sets v f) where
  look : (b : Bool) → eqb s.var v ≡ b → not (is_none (cond b (Some s.value) (set_value sets v))) ≡ true → (not (is_none (set_value sets v)) ≡ true → Contains (vars_of_sets sets) v) → Contains (s.var ∷ vars_of_sets sets) v
  look true f g later = subst (Contains (s.var ∷ vars_of_sets sets)) (eqb-true s.var v f) (Contains-here s.var (vars_of_sets sets))
  look false f g later = Contains-there s.var (vars_of_sets sets) v (later g)

-- a constraint with a set variable has one of the variables
named-var : (sets : List Set) (c : Constraint) → IsTrue (names_set sets c) → (v : ℕ) × Contains (vars_of_sets sets) v × (names_var v (Some c) ≡ true)
named-var sets c h = at c.terms h where
  at : (ts : List Weighted) → list_any (λ t. not (is_unset sets t)) ts ≡ true → (v : ℕ) × Contains (vars_of_sets sets) v × (list_any (is_of v) ts ≡ true)
  at [] e = absurd (false≢true e)
  at (t ∷ ts) e = look (not (is_unset sets t)) refl e (λ f. at ts f) where
    or_true : (b : Bool) → (b || true) ≡ true
    or_true true = refl
    or_true false = refl

    look : (b : Bool) → not (is_unset sets t) ≡ b → (b || list_any (λ t. not (is_unset sets t)) ts) ≡ true →
        (list_any (λ t. not (is_unset sets t)) ts ≡ true → (v : ℕ) × Contains (vars_of_sets sets) v × (list_any (is_of v) ts ≡ true)) → (v : ℕ) × Contains (vars_of_sets sets) v × (list_any (is_of v) (t ∷ ts) ≡ true)
    look true f g later = (t.lit.var, set-var sets t.lit.var f, ap (λ (b : Bool). b || list_any (is_of t.lit.var) ts) (eq-eqb t.lit.var t.lit.var refl))
    look false f g later =
        let rest = later g in
        (rest.0, rest.1, ap (λ (b : Bool). is_of rest.0 t || b) rest.2 ∙ or_true (is_of rest.0 t))

pub has_named : (live : List Entry) (sets : List Set) (ids : List ℕ) → ((v : ℕ) → Contains (vars_of_sets sets) v → HasNaming live v ids) → HasNamed live sets ids
has_named live sets ids h id c at is_named =
    let found = named-var sets c is_named in
    h found.0 found.1 id (ap (names_var found.0) at ∙ found.2)

-- ---- ids of all set variables

pub sets_more : (live : List Entry) (sets : List Set) (i : ℕ) (s : Set) (before after : List ℕ) → i < length sets → s ≡ get_or sets i s → ((id : ℕ) → Contains before id → Contains after id) → HasNaming live s.var after →
    ((k : ℕ) (d : Set) → k < i → HasNaming live (get_or sets k d).var before) → (k : ℕ) (d : Set) → k < i + 1 → HasNaming live (get_or sets k d).var after
sets_more live sets i s before after below at kept here h k d low = elim (cases_eq k i) [
  | inl e ↦
      let own : s ≡ get_or sets k d = at ∙ (get_or_default sets i s d below ∙ ap (λ (j : ℕ). get_or sets j d) (sym e)) in
      subst (λ (x : Set). HasNaming live x.var after) own here
  | inr ne ↦ λ id named. kept id (h k d (omega (arith, ne, low)) id named)
]

pub sets_named : (live : List Entry) (sets : List Set) (i : ℕ) (ids : List ℕ) → length sets ≤ i → ((k : ℕ) (d : Set) → k < i → HasNaming live (get_or sets k d).var ids) → HasNamed live sets ids
sets_named live sets i ids past h =
    let all : All (λ v. HasNaming live v ids) (vars_of_sets sets) = All-map {X = ℕ} (λ v. HasNaming live v ids) (λ (s : Set). s.var) sets (λ k d below. h k d (omega (arith, below, past))) in
    has_named live sets ids (λ v known. All-contains (λ v. HasNaming live v ids) (vars_of_sets sets) v all known)

-- the same ids, in order and each once
pub named_tidied : (live : List Entry) (sets : List Set) (xs ys : List ℕ) → IsPermutation xs ys → HasNamed live sets xs → HasNamed live sets (dedup eqb ys)
named_tidied live sets xs ys moved h id c at is_named = Contains-dedup_nat ys id (Contains-permutation xs ys id moved (h id c at is_named))
