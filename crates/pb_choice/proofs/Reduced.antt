-- The operations that reduce a constraint leave its core.
use Rattle.std.proofs.Common.{◌≡◌, ◌≤◌, ◌<◌, ◌*◌, ◌==◌, ◌^◌, ℕ, zero, suc, Bool, true, false, cond, pos, List, [], ◌∷◌, ◌++◌, map, refl, ap, ◌∙◌, arith}
use Rattle.std.specs.Prelude.{All, filter, Some, IsTrue}
use Rattle.std.proofs.lemmas.Bool.{and_parts, eqb-true, lt-ltb}
use Rattle.std.proofs.lemmas.List.Elements.{All-nil, All-cons, All-head, All-tail, All-append, All-map}
use Rattle.pb_base.specs.declared.literal.Lit.{Lit}
use Rattle.pb_norm.specs.Constraints.{Weighted, Constraint, AllPositive, IsLinear, weight}
use Rattle.pb_norm.specs.BoundedSums.{vars_of}
use Rattle.pb_norm.specs.Halves.{is_positive}
use Rattle.pb_norm.specs.inner.Open.{IsOpen}
use Rattle.pb_norm.specs.Reduction.{all_weigh, core, cut_to, divided, first_coef, forcing_terms, is_forcing, lits_of, quotient_up, saturated, single, units_of, without_units}
use Rattle.pb_norm.proofs.Opened.{divided_open, first_coef-positive, quotient_up-enough, quotient_up-least, saturated_open}
use Rattle.pb_norm.proofs.Units.{without_open, units_when}
use Rattle.pb_steps.specs.declared.op.PolOp.{PolOp}
use Rattle.pb_steps.specs.declared.op.PolOp.TheVariants.{Push, Div, Saturate, Weaken}
use Rattle.pb_steps.specs.Database.{Entry, constraint_at}
use Rattle.pb_steps.specs.Operations.{division, saturation, shrunk, weakening}
use Rattle.pb_steps.specs.Stacks.{after_ops, height_from, is_stacked, leaves_one}
use Rattle.pb_derive.proofs.Closing.{weaken_from, weaken_from_lighter, weakened_lighter}
use Rattle.pb_derive.proofs.Stacked.{after_step, push_step}
use Rattle.pb_choice.specs.Reducing.{common_coef, core_ops, divisor, reducing, weaken_unit}
use Rattle.pb_choice.proofs.CoreWeights.{weight-core, weight-cut}
use Rattle.pb_choice.proofs.Weakened.{weakened}

-- ---- units

weaken_lits : (ts : List Weighted) → map weaken_unit (lits_of ts) ≡ map Weaken (vars_of ts)
weaken_lits [] = refl
weaken_lits (t ∷ ts) = ap (λ (ops : List PolOp). Weaken t.lit.var ∷ ops) (weaken_lits ts)

weaken_units : (c : Constraint) → c.degree ≤ weight c.terms → map weaken_unit (units_of c) ≡ map Weaken (vars_of (forcing_terms c))
weaken_units c light = ap (map weaken_unit) (units_when c light) ∙ weaken_lits (forcing_terms c)

units_gone : (c : Constraint) → IsLinear c → weaken_from c (vars_of (forcing_terms c)) ≡ without_units c
units_gone c linear = weakened (is_forcing c) c.terms c.degree linear.ascending

-- ---- saturation

all_positive : (ts : List Weighted) → AllPositive ts → filter is_positive ts ≡ ts
all_positive [] h = refl
all_positive (t ∷ ts) h =
    let own : is_positive t ≡ true = lt-ltb 0 t.coef (All-head {X = Weighted} (λ t. 0 < t.coef) t ts h) in
    ap (λ (b : Bool). cond {A = List Weighted} b (t ∷ filter is_positive ts) (filter is_positive ts)) own
    ∙ ap (λ (us : List Weighted). t ∷ us) (all_positive ts (All-tail {X = Weighted} (λ t. 0 < t.coef) t ts h))

saturation_is : (c : Constraint) → IsOpen c → saturation c ≡ saturated c
saturation_is c h = ap (λ (ts : List Weighted). record { terms = ts; degree = c.degree }) (all_positive (map (cut_to c.degree) c.terms) (saturated_open c h).positive)

-- ---- division

quotient_same : (n : ℕ) → 0 < n → quotient_up n n ≡ 1
quotient_same n some =
    let most = quotient_up-least n n 1 some (omega arith) in
    let least = quotient_up-enough n n some in
    by_quotient (quotient_up n n) most least
  where
    by_quotient : (q : ℕ) → q ≤ 1 → n ≤ n * q → q ≡ 1
    by_quotient zero most least = absurd (omega (arith, least, some))
    by_quotient (suc q) most least = omega (arith, most)

quotient_by_one : (k : ℕ) → quotient_up 1 k ≡ k
quotient_by_one k = omega (arith, quotient_up-least 1 k k (omega arith) (omega arith), quotient_up-enough 1 k (omega arith))

shrunk_single : (n : ℕ) (ts : List Weighted) → 0 < n → all_weigh n ts ≡ true → map (shrunk n) ts ≡ map single ts
shrunk_single n [] some h = refl
shrunk_single n (t ∷ ts) some h =
    let parts = and_parts (t.coef == n) (all_weigh n ts) h in
    let own : shrunk n t ≡ single t = ap (λ (k : ℕ). record { coef = k; lit = t.lit }) (ap (quotient_up n) (eqb-true t.coef n parts.0) ∙ quotient_same n some) in
    ap (λ (u : Weighted). u ∷ map (shrunk n) ts) own ∙ ap (λ (us : List Weighted). single t ∷ us) (shrunk_single n ts some parts.1)

shrunk_by_one : (ts : List Weighted) → map (shrunk 1) ts ≡ ts
shrunk_by_one [] = refl
shrunk_by_one (t ∷ ts) =
    ap (λ (k : ℕ). record { coef = k; lit = t.lit } ∷ map (shrunk 1) ts) (quotient_by_one t.coef) ∙ ap (λ (us : List Weighted). t ∷ us) (shrunk_by_one ts)

pub division_is : (c : Constraint) → AllPositive c.terms → division (common_coef c.terms) c ≡ divided c
division_is c positive = by_test (all_weigh (first_coef c.terms) c.terms) refl
  where
    n : ℕ
    n = first_coef c.terms

    by_test : (b : Bool) → all_weigh n c.terms ≡ b → division (cond b n 1) c ≡ cond {A = Constraint} b (record { terms = map single c.terms; degree = quotient_up n c.degree }) c
    by_test true same = ap (λ (ts : List Weighted). record { terms = ts; degree = quotient_up n c.degree }) (shrunk_single n c.terms (first_coef-positive c.terms positive) same)
    by_test false other =
        ap (λ (ts : List Weighted). record { terms = ts; degree = quotient_up 1 c.degree }) (shrunk_by_one c.terms)
        ∙ ap (λ (k : ℕ). record { terms = c.terms; degree = k }) (quotient_by_one c.degree)

pub divisor_positive : (c : Constraint) → IsOpen (without_units c) → 1 ≤ divisor c
divisor_positive c h = by_test (all_weigh (first_coef ts) ts)
  where
    ts : List Weighted
    ts = (saturated (without_units c)).terms

    by_test : (b : Bool) → 1 ≤ cond b (first_coef ts) 1
    by_test true = first_coef-positive ts (saturated_open (without_units c) h).positive
    by_test false = omega arith

-- ---- the operations

module _ (live : List Entry) where
  weakened_ops : (vs : List ℕ) (ops : List PolOp) (c : Constraint) → weight c.terms < 2 ^ 126 → c.degree < 2 ^ 126 →
      after_ops live (map Weaken vs ++ ops) (c ∷ []) ≡ after_ops live ops (weaken_from c vs ∷ [])
  weakened_ops [] ops c h k = refl
  weakened_ops (v ∷ vs) ops c h k =
      let lighter = weakened_lighter v c in
      after_step live (Weaken v) (map Weaken vs ++ ops) (c ∷ []) (weakening v c) [] refl (omega (arith, h, lighter.0)) (omega (arith, k, lighter.1))
      ∙ weakened_ops vs ops (weakening v c) (omega (arith, h, lighter.0)) (omega (arith, k, lighter.1))

  -- they leave the core
  pub core_left : (c : Constraint) (id : ℕ) → IsLinear c → c.degree ≤ weight c.terms → 0 < (without_units c).degree → weight c.terms < 2 ^ 126 → constraint_at live id ≡ Some c
      → after_ops live (core_ops c id) [] ≡ Some (core c ∷ [])
  core_left c id linear light left fits found =
      let w : Constraint = without_units c in
      let s : Constraint = saturated w in
      let n : ℕ = divisor c in
      let open_w : IsOpen w = without_open c linear light left in
      let open_s : IsOpen s = saturated_open w open_w in
      let vs = vars_of (forcing_terms c) in
      let last : List PolOp = Saturate ∷ Div (pos n) ∷ [] in
      let lighter = weaken_from_lighter c vs in
      let gone = units_gone c linear in
      let weight_w : weight w.terms ≤ weight c.terms = omega (arith, lighter.0, ap (λ (d : Constraint). weight d.terms) gone) in
      let degree_w : w.degree ≤ c.degree = omega arith in
      let cut = weight-cut w.degree w.terms in
      let open_d : IsOpen (core c) = divided_open s open_s in
      let smaller = weight-core c open_w in
      ap (λ (ops : List PolOp). after_ops live (Push id ∷ (ops ++ last)) []) (weaken_units c light)
      ∙ push_step live id (map Weaken vs ++ last) [] c found fits (omega (arith, light, fits))
      ∙ weakened_ops vs last c fits (omega (arith, light, fits))
      ∙ ap (λ (d : Constraint). after_ops live last (d ∷ [])) gone
      ∙ after_step live Saturate (Div (pos n) ∷ []) (w ∷ []) s [] (ap (λ (d : Constraint). Some (d ∷ [])) (saturation_is w open_w)) (omega (arith, cut, weight_w, fits)) (omega (arith, degree_w, light, fits))
      ∙ after_step live (Div (pos n)) [] (s ∷ []) (core c) [] (ap (λ (d : Constraint). Some (d ∷ [])) (division_is s open_s.positive)) (omega (arith, smaller, fits)) (omega (arith, open_d.reachable, smaller, fits))

-- ---- what is asked of each

height-weakened : (ls : List Lit) (ops : List PolOp) → height_from 1 (map weaken_unit ls ++ ops) ≡ height_from 1 ops
height-weakened [] ops = refl
height-weakened (l ∷ ls) ops = height-weakened ls ops

pub reducing-stacked : (id : ℕ) (units : List Lit) (factor : ℕ) → IsTrue (is_stacked (reducing id units factor))
reducing-stacked id units factor = ap leaves_one (height-weakened units (Saturate ∷ Div (pos factor) ∷ []))

pub reducing-all : (Q : PolOp → Type 0) (id : ℕ) (units : List Lit) (factor : ℕ) → Q (Push id) → All (λ l. Q (weaken_unit l)) units → Q Saturate → Q (Div (pos factor)) → All Q (reducing id units factor)
reducing-all Q id units factor pushed gone cut divides =
    All-cons Q (Push id) (map weaken_unit units ++ Saturate ∷ Div (pos factor) ∷ []) pushed
    (All-append Q (map weaken_unit units) (Saturate ∷ Div (pos factor) ∷ []) (All-map Q weaken_unit units gone) (All-cons Q Saturate (Div (pos factor) ∷ []) cut (All-cons Q (Div (pos factor)) [] divides (All-nil Q))))
