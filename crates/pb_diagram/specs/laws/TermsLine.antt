-- Behind the last level with nodes: the literals' terms are at least 0.
use Rattle.std.proofs.Common.{◌≡◌, ◌≤◌, ◌<◌, ◌+◌, ◌-◌, ◌*◌, ◌^◌, ℕ, true, List, [], ◌∷◌, ◌++◌, refl, ap, sym, append-nil, append_assoc, arith}
use Rattle.std.specs.Prelude.{All}
use Rattle.std.proofs.lemmas.List.Elements.{All-head, All-tail}
use Rattle.pb_base.specs.Literals.{Assignment}
use Rattle.pb_norm.specs.Constraints.{Weighted, AllPositive, value, weight}
use Rattle.pb_norm.proofs.AdditionSizes.{weight-cons}
use Rattle.pb_norm.proofs.AdditionValues.{value-cons}
use Rattle.pb_steps.specs.declared.op.PolOp.{PolOp}
use Rattle.pb_steps.specs.declared.op.PolOp.TheVariants.{Axiom, Weaken}
use Rattle.pb_steps.specs.Database.{Database}
use Rattle.pb_derive.specs.Forms.{AreApartTerms}
use Rattle.pb_derive.proofs.Lines.{Adds}
use Rattle.pb_family.specs.Fresh.{positive_of}
use Rattle.pb_diagram.specs.Guards.{weighing, plus_times}
use Rattle.pb_diagram.specs.GuardedSteps.{all_terms, terms_line}
use Rattle.pb_diagram.specs.laws.ClimbLines.{climb_of, climb-apart, climb-positive, falsified, falsified-none}
use Rattle.pb_diagram.specs.laws.FewTerms.{value-one, apart_one, positive_one}
use Rattle.pb_diagram.specs.laws.WorthSums.{holds, term-holds, IsSumBy, sum_literal, sum_as, sum_ops, sum_plus, sum_without, sum_adds}

module _ (db : Database) where
  -- nothing, by a variable that goes at once
  nothing : (v : ℕ) → v ≤ db.vars → IsSumBy db (Axiom (positive_of v) ∷ Weaken v ∷ []) (λ a. 0) 0 1 2
  nothing v known =
      let x : Weighted = weighing 1 (positive_of v) in
      sum_as db (Axiom (positive_of v) ∷ Weaken v ∷ []) (λ a. value a []) (λ a. 0) (0 - 1) 0 1 1 1 2
      (sum_without db x [] 0 (Axiom (positive_of v) ∷ []) (λ a. holds a (positive_of v)) 0 1 1 known (sum_literal db (positive_of v) known) (apart_one x) (positive_one x (omega arith)) (λ a. omega (arith, value-one a 1 (positive_of v))))
      (λ a. refl) (omega arith) (omega arith)

  -- under one assignment all terms are 0
  terms_all : (under : Assignment) (ops : List PolOp) (V : Assignment → ℕ) (m : ℕ) (ts : List Weighted) → All (λ t. t.lit.var ≤ db.vars) ts → V under + value under ts ≡ 0 → IsSumBy db ops V 0 m 2
      → IsSumBy db (ops ++ all_terms ts) (λ a. V a + value a ts) 0 (m + weight ts) 2
  terms_all under ops V m [] known none x = sum_ops db ops (ops ++ []) (λ a. V a + value a []) 0 (m + weight []) 2 (sym (append-nil ops)) (sum_as db ops V (λ a. V a + value a []) 0 0 m (m + weight []) 2 2 x (λ a. omega arith) (omega arith) (omega arith))
  terms_all under ops V m (t ∷ ts) known none x =
      let n : ℕ = t.coef in
      let item : List PolOp = Axiom t.lit ∷ [] in
      let here : value under (t ∷ ts) ≡ n * holds under t.lit + value under ts = omega (arith, value-cons under t ts, term-holds under n t.lit) in
      let one : IsSumBy db (ops ++ plus_times n item) (λ a. V a + n * holds a t.lit) (0 + n * 0) (m + n * 1) 2 =
      sum_plus db under n ops item V (λ a. holds a t.lit) 0 0 m 1 1 x (sum_literal db t.lit (All-head (λ (t : Weighted). t.lit.var ≤ db.vars) t ts known)) (omega (arith, none, here)) in
      let start : IsSumBy db (ops ++ plus_times n item) (λ a. V a + n * holds a t.lit) 0 (m + n * 1) 2 = sum_as db (ops ++ plus_times n item) (λ a. V a + n * holds a t.lit) (λ a. V a + n * holds a t.lit) (0 + n * 0) 0 (m + n * 1) (m + n * 1) 2 2 one (λ a. omega arith) (omega arith) (omega arith) in
      let rest = terms_all under (ops ++ plus_times n item) (λ a. V a + n * holds a t.lit) (m + n * 1) ts (All-tail (λ (t : Weighted). t.lit.var ≤ db.vars) t ts known) (omega (arith, none, here)) start in
      sum_ops db ((ops ++ plus_times n item) ++ all_terms ts) (ops ++ all_terms (t ∷ ts)) (λ a. V a + value a (t ∷ ts)) 0 (m + weight (t ∷ ts)) 2 (append_assoc ops (plus_times n item) (all_terms ts))
      (sum_as db ((ops ++ plus_times n item) ++ all_terms ts) (λ a. V a + n * holds a t.lit + value a ts) (λ a. V a + value a (t ∷ ts)) 0 0 (m + n * 1 + weight ts) (m + weight (t ∷ ts)) 2 2 rest
      (λ a. omega (arith, value-cons a t ts, term-holds a n t.lit)) (omega (arith, weight-cons t ts)) (omega arith))

  pub terms_adds : (P : ℕ → Type 0) (v p : ℕ) (ts : List Weighted) → v ≤ db.vars → All (λ t. t.lit.var ≤ db.vars) ts → All (λ t. t.lit.var < p) ts → AreApartTerms ts → AllPositive ts → All (λ t. P t.lit.var) (climb_of ts p []).terms → weight ts ≤ 2 ^ 100
      → Adds P db (terms_line v ts) (climb_of ts p [])
  terms_adds P v p ts known_v known low apart positive named light =
      let under : Assignment = falsified ts (λ w. true) in
      let none : 0 + value under ts ≡ 0 = omega (arith, falsified-none ts (λ w. true) apart) in
      let all = terms_all under (Axiom (positive_of v) ∷ Weaken v ∷ []) (λ a. 0) 1 ts known none (nothing v known_v) in
      sum_adds db P (climb_of ts p []) (Axiom (positive_of v) ∷ Weaken v ∷ all_terms ts) (λ a. 0 + value a ts) 0 (1 + weight ts) 2 all (omega arith) (omega (arith, light))
      (record { apart = climb-apart ts p [] apart low; positive = climb-positive ts p [] positive tt; named = named })
      (λ a. omega (arith, ap (value a) (append-nil ts)))
