-- The loaded constraints are over the variables of the constraints, and have room.
use Rattle.std.proofs.Common.{◌≡◌, ◌≤◌, ◌+◌, ◌^◌, ℕ, ℤ, List, [], ◌∷◌, map, All, arith, refl}
use Rattle.std.specs.Int.RustNames.{unsigned_abs}
use Rattle.std.proofs.lemmas.Int.{ints}
use Rattle.std.proofs.lemmas.List.Elements.{All-nil, All-cons, All-head, All-tail, All-append, All-weaker}
use Rattle.pb_base.specs.declared.problem.Problem.{Problem}
use Rattle.pb_base.specs.declared.problem.Raw.{Raw}
use Rattle.pb_base.specs.Problems.{IsWithinLimits, IsSumWithin, StaysBelow, originals}
use Rattle.pb_norm.specs.declared.halves.Half.{Half}
use Rattle.pb_norm.specs.declared.halves.Half.TheVariants.{Lower, Upper}
use Rattle.pb_norm.specs.Constraints.{Constraint, AreVarsWithin, HasVarsWithin}
use Rattle.pb_norm.specs.Halves.{turned, half_terms, half_of, halves_of, constraints_of, loaded}
use Rattle.pb_norm.specs.Products.{defining, loaded_of}
use Rattle.pb_norm.proofs.NetBounds.{magnitude-half}
use Rattle.pb_norm.proofs.ProductForms.{IsFormOver, defining_over}
use Rattle.pb_norm.proofs.Variables.{OfWritten, loaded-vars}
use Rattle.pb_norm.proofs.WrittenForm.{normal_terms-weight, normal_degree-le}
use Rattle.pb_steps.specs.Operations.{IsNarrow}
use Rattle.pb_operations.proofs.Parts.{narrow-from}

pub wider : (ss : List Raw) → All (StaysBelow (2 ^ 100)) ss → All (StaysBelow (2 ^ 126)) ss
wider ss small = All-weaker (StaysBelow (2 ^ 100)) (StaysBelow (2 ^ 126)) (λ s h. omega (arith, h)) ss small

-- the constraints of products, over the variables of all
forms_within : (p : Problem) (vars : ℕ) → originals p ≤ vars → IsWithinLimits p → All (IsFormOver (λ v. v ≤ vars)) (defining (p.vars + 1) p.products)
forms_within p vars le within = defining_over (λ v. v ≤ vars) p.vars (p.vars + 1) p.products (omega arith) (λ n low less. omega (arith, le, less)) within.products

pub loaded_within : (p : Problem) (vars : ℕ) → originals p ≤ vars → IsWithinLimits p → AreVarsWithin vars (loaded_of p)
loaded_within p vars le within =
    let Within = λ (c : Constraint). HasVarsWithin vars c.terms in
    All-append Within (defining (p.vars + 1) p.products) (loaded p.statements)
    (All-weaker (IsFormOver (λ v. v ≤ vars)) Within (λ c form. form.over) (defining (p.vars + 1) p.products) (forms_within p vars le within))
    (loaded-vars (λ v. v ≤ vars) p.statements
    (All-weaker (λ s. IsSumWithin (originals p) s.terms) (λ s. All (OfWritten (λ v. v ≤ vars)) s.terms) (λ s k i d l. omega (arith, le, k.vars_within i d l)) p.statements within.sums))

turned-size : (half : Half) (z : ℤ) → unsigned_abs (turned half z) ≡ unsigned_abs z
turned-size Lower z = refl
turned-size Upper z = grind (arith, ints)

half-narrow : (half : Half) (s : Raw) → StaysBelow (2 ^ 100) s → IsNarrow (half_of half s)
half-narrow half s small =
    let ts = half_terms half s.terms in
    let size = magnitude-half half s.terms in
    narrow-from (half_of half s) (omega (arith, normal_terms-weight ts, size, small))
    (omega (arith, normal_degree-le ts (turned half s.right), size, turned-size half s.right, small))

halves-narrow : (s : Raw) (halves : List Half) → StaysBelow (2 ^ 100) s → All IsNarrow (map (λ half. half_of half s) halves)
halves-narrow s [] small = All-nil IsNarrow
halves-narrow s (half ∷ halves) small = All-cons IsNarrow (half_of half s) (map (λ half. half_of half s) halves) (half-narrow half s small) (halves-narrow s halves small)

all-narrow : (ss : List Raw) → All (StaysBelow (2 ^ 100)) ss → All IsNarrow (loaded ss)
all-narrow [] small = All-nil IsNarrow
all-narrow (s ∷ ss) small =
    All-append IsNarrow (constraints_of s) (loaded ss) (halves-narrow s (halves_of s.relation) (All-head (StaysBelow (2 ^ 100)) s ss small)) (all-narrow ss (All-tail (StaysBelow (2 ^ 100)) s ss small))

pub loaded_narrow : (p : Problem) → IsWithinLimits p → All IsNarrow (loaded_of p)
loaded_narrow p within =
    let products = defining (p.vars + 1) p.products in
    All-append IsNarrow products (loaded p.statements)
    (All-weaker (IsFormOver (λ v. v ≤ originals p)) IsNarrow (λ c form. narrow-from c (omega (arith, form.weight)) (omega (arith, form.degree))) products (forms_within p (originals p) (omega arith) within))
    (all-narrow p.statements within.numbers)
