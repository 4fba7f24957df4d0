-- Clauses as constraints, and as terms.
use Rattle.std.proofs.Common.{◌≡◌, ◌||◌, ℕ, Bool, List, [], ◌∷◌, refl, ap, sym, ◌∙◌, map, arith, eqb}
use Rattle.std.specs.Prelude.{pos, ◌≤ℤ◌}
use Rattle.std.specs.List.{list_any}
use Rattle.std.proofs.lemmas.Int.{ints}
use Rattle.std.proofs.lemmas.List.Elements.{All-nil, All-cons}
use Rattle.pb_base.specs.declared.literal.Lit.{Lit}
use Rattle.pb_base.specs.declared.literal.Term.{Term}
use Rattle.pb_norm.specs.Constraints.{Weighted, Constraint, weights, constraint_of, AreUnsigned}
use Rattle.pb_database.specs.declared.packed.Form.{Form}
use Rattle.pb_database.specs.Naming.{is_of}
use Rattle.pb_database.specs.inner.Packing.{constraint_in}
use Rattle.pb_database.specs.inner.Units.{unit, unit_term, clause_of}

units-fused : (ts : List Term) → map (λ (t : Term). unit t.lit) ts ≡ map unit (map (λ (t : Term). t.lit) ts)
units-fused [] = refl
units-fused (t ∷ ts) = ap (λ (us : List Weighted). unit t.lit ∷ us) (units-fused ts)

-- terms with the coefficient 1 are the clause of their literals
pub clause-is : (ts : List Term) (c : Constraint) → weights ts ≡ map (λ (t : Term). unit t.lit) ts → weights ts ≡ c.terms → c.degree ≡ 1 → clause_of (map (λ (t : Term). t.lit) ts) ≡ c
clause-is ts c units terms degree =
    ap (λ (us : List Weighted). record { terms = us; degree = 1 }) (sym (units-fused ts) ∙ (sym units ∙ terms)) ∙ ap (λ (d : ℕ). record { terms = c.terms; degree = d }) (sym degree)

unit_terms-weights : (ls : List Lit) → weights (map unit_term ls) ≡ map unit ls
unit_terms-weights [] = refl
unit_terms-weights (l ∷ ls) = ap (λ (us : List Weighted). unit l ∷ us) (unit_terms-weights ls)

pub unit_terms-unsigned : (ls : List Lit) → AreUnsigned (map unit_term ls)
unit_terms-unsigned [] = All-nil (λ (u : Term). pos 0 ≤ℤ u.coef)
unit_terms-unsigned (l ∷ ls) = All-cons (λ (u : Term). pos 0 ≤ℤ u.coef) (unit_term l) (map unit_term ls) (omega (arith, ints)) (unit_terms-unsigned ls)

-- the terms of literals are their clause
pub clause-of_terms : (ls : List Lit) (ts : List Term) → ts ≡ map unit_term ls → constraint_of ts 1 ≡ clause_of ls
clause-of_terms ls ts e = ap (λ (us : List Weighted). record { terms = us; degree = 1 }) (ap weights e ∙ unit_terms-weights ls)

pub any-units : (v : ℕ) (ls : List Lit) → list_any (λ (l : Lit). eqb l.var v) ls ≡ list_any (is_of v) (map unit ls)
any-units v [] = refl
any-units v (l ∷ ls) = ap (λ (b : Bool). eqb l.var v || b) (any-units v ls)

-- what is kept is this
pub kept_as : (seen kept form : Form) (c : Constraint) → seen ≡ form → seen ≡ kept → constraint_in kept ≡ c → constraint_in form ≡ c
kept_as seen kept form c is same view = ap constraint_in (sym is ∙ same) ∙ view
