-- The parts that the code puts together are those of the constraint that is meant.
use Rattle.std.proofs.Common.{◌≡◌, ◌≤◌, ◌<◌, ◌+◌, ◌-◌, ◌*◌, ◌^◌, ℕ, zero, suc, Bool, true, false, cond, List, [], ◌∷◌, arith, refl, ap, sym, ◌∙◌, ltb, subst, ◌||◌, ◌⊎◌, inl, inr, length, get_or, drop, drop-cons}
use Rattle.std.specs.Prelude.{All, sum_by, map, filter, pos, ◌≤ℤ◌}
use Rattle.std.proofs.lemmas.Bool.{ltb-true, lt-ltb, and_parts, and_from}
use Rattle.std.proofs.lemmas.List.Elements.{All-map, All-weaker, All-filter, filter_passes}
use Rattle.std.proofs.lemmas.List.Sums.{get_or-le-sum_by, sum_by-le-sum_by}
use Rattle.std.proofs.Math.Nat.{mul-le-mul_left}
use Rattle.pb_base.specs.declared.literal.Term.{Term}
use Rattle.pb_base.proofs.Sums.{sum_by-map, sum_by-filter, sum_by-le-multiple, multiple-le-sum_by}
use Rattle.pb_norm.specs.Constraints.{Weighted, Constraint, weighted, weights, constraint_of, weight, AreUnsigned, AllPositive, IsAscending, IsLinear}
use Rattle.pb_norm.specs.Halves.{is_positive}
use Rattle.pb_norm.specs.inner.Kept.{on_term, on_weight}
use Rattle.pb_norm.specs.Reduction.{quotient_up, cut_to, opposite}
use Rattle.pb_norm.proofs.Opened.{quotient_up-enough, quotient_up-least}
use Rattle.pb_norm.proofs.AdditionOrder.{map-ascending, filter-ascending, joined-ascending}
use Rattle.pb_norm.specs.Addition.{sum_of, joined, cancelled}
use Rattle.pb_norm.proofs.AdditionSizes.{weight-joined}
use Rattle.pb_norm.proofs.KeptTerms.{weights-map, weights-filter, map-unsigned}
use Rattle.pb_operations.proofs.Joins.{joined-positive}
use Rattle.pb_operations.specs.Weakenings.{weakened_by, weakened}
use Rattle.pb_operations.proofs.Zeroed.{counted, counted-all, counted-weakened}
use Rattle.pb_steps.specs.declared.op.PolOp.{PolOp}
use Rattle.pb_steps.specs.declared.op.PolOp.TheVariants.{Push, Axiom, Add, Mul, Div, Saturate, Weaken}
use Rattle.pb_steps.specs.declared.op.Set.{Set}
use Rattle.pb_steps.specs.Substitutions.{is_unset, is_made_true, restriction}
use Rattle.pb_operations.specs.inner.Sides.{gained, zeroed}
use Rattle.std.specs.List.{list_any}
use Rattle.pb_steps.specs.Operations.{IsNarrow, scaled, multiple, shrunk, division, saturation, is_other, coef_at, weakening, negation}

abbrev IsUnsigned : Term → Type 0
IsUnsigned t = pos 0 ≤ℤ t.coef

-- terms and a degree that are those of a constraint in normal form
pub record IsMade (c : Constraint) (ts : List Term) (degree : ℕ) : Type 0 where
  pub unsigned : AreUnsigned ts
  pub terms : weights ts ≡ c.terms
  pub degree_is : degree ≡ c.degree
  pub linear : IsLinear c

pub made-is : (c : Constraint) (ts : List Term) (degree : ℕ) → IsMade c ts degree → constraint_of ts degree ≡ c
made-is c ts degree h = λ i. record { terms = h.terms i; degree = h.degree_is i }

pub made-is_linear : (c : Constraint) (ts : List Term) (degree : ℕ) → IsMade c ts degree → IsLinear (constraint_of ts degree)
made-is_linear c ts degree h = subst IsLinear (sym (made-is c ts degree h)) h.linear

-- ---- room

pub weight-narrow : (c : Constraint) → IsNarrow c → weight c.terms < 2 ^ 126
weight-narrow c h = ltb-true (weight c.terms) (2 ^ 126) (and_parts (ltb (weight c.terms) (2 ^ 126)) (ltb c.degree (2 ^ 126)) h).0

pub degree-narrow : (c : Constraint) → IsNarrow c → c.degree < 2 ^ 126
degree-narrow c h = ltb-true c.degree (2 ^ 126) (and_parts (ltb (weight c.terms) (2 ^ 126)) (ltb c.degree (2 ^ 126)) h).1

pub narrow-from : (c : Constraint) → weight c.terms < 2 ^ 126 → c.degree < 2 ^ 126 → IsNarrow c
narrow-from c h k = and_from (ltb (weight c.terms) (2 ^ 126)) (ltb c.degree (2 ^ 126)) (lt-ltb (weight c.terms) (2 ^ 126) h) (lt-ltb c.degree (2 ^ 126) k)

-- ---- sizes

coef-le-weight : (ts : List Term) → All (λ t. (weighted t).coef ≤ weight (weights ts)) ts
coef-le-weight ts k d h =
    omega (arith, get_or-le-sum_by {X = Term} (λ t. (weighted t).coef) ts k d h, sum_by-map {X = Term} {Y = Weighted} (λ t. t.coef) weighted ts)

pub coefs-below : (c : Constraint) (ts : List Term) → weights ts ≡ c.terms → IsLinear c → All (λ t. (weighted t).coef < 2 ^ 127) ts
coefs-below c ts e h k d at = omega (arith, coef-le-weight ts k d at, ap weight e, h.weight_fits)

pub weight_scaled : (n : ℕ) (ts : List Weighted) → weight (map (scaled n) ts) ≡ n * weight ts
weight_scaled n ts =
    let mapped = sum_by-map {X = Weighted} {Y = Weighted} (λ t. t.coef) (scaled n) ts in
    let up = sum_by-le-multiple {X = Weighted} n (λ t. n * t.coef) (λ t. t.coef) ts (λ t. omega arith) in
    let down = multiple-le-sum_by {X = Weighted} n (λ t. t.coef) (λ t. n * t.coef) ts (λ t. omega arith) in
    omega arith

pub weight-filter : (p : Weighted → Bool) (ts : List Weighted) → weight (filter p ts) ≤ weight ts
weight-filter p ts = omega (arith, sum_by-filter {X = Weighted} (λ t. t.coef) p ts, sum_by-le-sum_by {X = Weighted} (λ t. cond (p t) t.coef 0) (λ t. t.coef) ts (λ t. kept (p t) t.coef)) where
  kept : (b : Bool) (k : ℕ) → cond b k 0 ≤ k
  kept true k = omega arith
  kept false k = omega arith

weight-map : (f : Weighted → Weighted) (ts : List Weighted) → ((t : Weighted) → (f t).coef ≤ t.coef) → weight (map f ts) ≤ weight ts
weight-map f ts each = omega (arith, sum_by-map {X = Weighted} (λ t. t.coef) f ts, sum_by-le-sum_by {X = Weighted} (λ t. (f t).coef) (λ t. t.coef) ts each)

-- ---- multiples

pub scaled-room : (n : ℕ) (c : Constraint) (ts : List Term) → weights ts ≡ c.terms → IsNarrow (multiple n c) → All (λ t. n * (weighted t).coef < 2 ^ 127) ts
scaled-room n c ts e narrow k d at =
    omega (arith, mul-le-mul_left n (coef-le-weight ts k d at), ap (λ (us : List Weighted). n * weight us) e, weight_scaled n c.terms, weight-narrow (multiple n c) narrow)

pub multiple-made : (n : ℕ) (c : Constraint) (ts us : List Term) (d degree : ℕ) → 0 < n → IsLinear c → IsNarrow (multiple n c) →
    weights ts ≡ c.terms → us ≡ map (on_term (scaled n)) ts → d ≡ c.degree → degree ≡ n * d → IsMade (multiple n c) us degree
multiple-made n c ts us d degree some h narrow e f g k = record {
  unsigned = subst AreUnsigned (sym f) (map-unsigned (scaled n) ts);
  terms = ap weights f ∙ (weights-map (scaled n) ts ∙ ap (map (scaled n)) e);
  degree_is = k ∙ ap (λ (m : ℕ). n * m) g;
  linear = record {
    positive = All-map {X = Weighted} (λ t. 0 < t.coef) (scaled n) c.terms (All-weaker {X = Weighted} (λ t. 0 < t.coef) (λ t. 0 < n * t.coef) (λ t k. grind arith) c.terms h.positive);
    ascending = map-ascending (scaled n) (λ t. refl) c.terms h.ascending;
    weight_fits = omega (arith, weight-narrow (multiple n c) narrow);
    degree_fits = omega (arith, degree-narrow (multiple n c) narrow);
  };
}

-- ---- quotients

quotient_up-le : (n k : ℕ) → 0 < n → quotient_up n k ≤ k
quotient_up-le n k h = quotient_up-least n k k h (grind arith)

quotient_up-positive : (n k : ℕ) → 0 < n → 0 < k → 0 < quotient_up n k
quotient_up-positive n k h some = above (quotient_up n k) (quotient_up-enough n k h) where
  above : (q : ℕ) → k ≤ n * q → 0 < q
  above zero le = absurd (omega (arith, le))
  above (suc q) le = omega arith

pub division-made : (n : ℕ) (c : Constraint) (ts us : List Term) (d degree : ℕ) → 0 < n → IsLinear c →
    weights ts ≡ c.terms → us ≡ map (on_term (shrunk n)) ts → d ≡ c.degree → degree ≡ quotient_up n d → IsMade (division n c) us degree
division-made n c ts us d degree some h e f g k = record {
  unsigned = subst AreUnsigned (sym f) (map-unsigned (shrunk n) ts);
  terms = ap weights f ∙ (weights-map (shrunk n) ts ∙ ap (map (shrunk n)) e);
  degree_is = k ∙ ap (quotient_up n) g;
  linear = record {
    positive = All-map {X = Weighted} (λ t. 0 < t.coef) (shrunk n) c.terms (All-weaker {X = Weighted} (λ t. 0 < t.coef) (λ t. 0 < quotient_up n t.coef) (λ t above. quotient_up-positive n t.coef some above) c.terms h.positive);
    ascending = map-ascending (shrunk n) (λ t. refl) c.terms h.ascending;
    weight_fits = omega (arith, weight-map (shrunk n) c.terms (λ t. quotient_up-le n t.coef some), h.weight_fits);
    degree_fits = omega (arith, quotient_up-le n c.degree some, h.degree_fits);
  };
}

-- ---- saturation

pub saturation-made : (c : Constraint) (ts us : List Term) (d degree : ℕ) → IsLinear c → weights ts ≡ c.terms →
    us ≡ filter (on_weight is_positive) (map (on_term (cut_to d)) ts) → d ≡ c.degree → degree ≡ c.degree → IsMade (saturation c) us degree
saturation-made c ts us d degree h e f g k =
    let capped = map (cut_to c.degree) c.terms in
    record {
      unsigned = subst AreUnsigned (sym f) (All-filter (on_weight is_positive) IsUnsigned (map (on_term (cut_to d)) ts) (map-unsigned (cut_to d) ts));
      terms = ap weights f ∙ (weights-filter is_positive (map (on_term (cut_to d)) ts) ∙ (ap (filter is_positive) (weights-map (cut_to d) ts ∙ ap (map (cut_to d)) e) ∙ ap (λ (m : ℕ). filter is_positive (map (cut_to m) c.terms)) g));
      degree_is = k;
      linear = record {
        positive = All-weaker {X = Weighted} (λ t. is_positive t ≡ true) (λ t. 0 < t.coef) (λ t e. ltb-true 0 t.coef e) (filter is_positive capped) (filter_passes is_positive capped);
        ascending = filter-ascending is_positive capped (map-ascending (cut_to c.degree) (λ t. refl) c.terms h.ascending);
        weight_fits = omega (arith, weight-filter is_positive capped, weight-map (cut_to c.degree) c.terms (λ t. omega arith), h.weight_fits);
        degree_fits = h.degree_fits;
      };
    }

-- ---- weakening

at_most : (b : Bool) (k : ℕ) → cond b k 0 ≤ k
at_most true k = omega arith
at_most false k = omega arith

coef_at-sum : (v : ℕ) (c : Constraint) (ts : List Term) → weights ts ≡ c.terms → sum_by (on_weight (coef_at v)) ts ≡ sum_by (coef_at v) c.terms
coef_at-sum v c ts e = sym (sum_by-map (coef_at v) weighted ts) ∙ ap (sum_by (coef_at v)) e

weakening-linear : (v : ℕ) (c : Constraint) → IsLinear c → IsLinear (weakening v c)
weakening-linear v c h = record {
  positive = All-filter (is_other v) (λ t. 0 < t.coef) c.terms h.positive;
  ascending = filter-ascending (is_other v) c.terms h.ascending;
  weight_fits = omega (arith, weight-filter (is_other v) c.terms, h.weight_fits);
  degree_fits = omega (arith, h.degree_fits);
}

pub weakening-made : (v : ℕ) (c : Constraint) (ts us vs : List Term) (lost degree : ℕ) → IsLinear c → weights ts ≡ c.terms → us ≡ filter (on_weight (is_other v)) ts →
    weights vs ≡ c.terms → lost ≡ sum_by (on_weight (coef_at v)) vs → degree ≡ c.degree - lost → AreUnsigned ts → IsMade (weakening v c) us degree
weakening-made v c ts us vs lost degree h e f g k m unsigned = record {
  unsigned = subst AreUnsigned (sym f) (All-filter (on_weight (is_other v)) IsUnsigned ts unsigned);
  terms = ap weights f ∙ (weights-filter (is_other v) ts ∙ ap (filter (is_other v)) e);
  degree_is = m ∙ ap (λ (n : ℕ). c.degree - n) (k ∙ coef_at-sum v c vs g);
  linear = weakening-linear v c h;
}

-- ---- weakenings one after the other

-- an operation weakens, or nothing changes
weakened_by-cases : (op : PolOp) → ((v : ℕ) × (op ≡ Weaken v)) ⊎ ((c : Constraint) → weakened_by op c ≡ c)
weakened_by-cases (Push id) = inr (λ c. refl)
weakened_by-cases (Axiom l) = inr (λ c. refl)
weakened_by-cases Add = inr (λ c. refl)
weakened_by-cases (Mul n) = inr (λ c. refl)
weakened_by-cases (Div n) = inr (λ c. refl)
weakened_by-cases Saturate = inr (λ c. refl)
weakened_by-cases (Weaken v) = inl (v, refl)

weakened_by-linear : (op : PolOp) (c : Constraint) → IsLinear c → IsLinear (weakened_by op c)
weakened_by-linear op c h = elim (weakened_by-cases op) [
  | inl weakens ↦ subst (λ (o : PolOp). IsLinear (weakened_by o c)) (sym weakens.1) (weakening-linear weakens.0 c h)
  | inr same ↦ subst IsLinear (sym (same c)) h
]

weakened-linear : (ops : List PolOp) (c : Constraint) → IsLinear c → IsLinear (weakened ops c)
weakened-linear [] c h = h
weakened-linear (op ∷ ops) c h = weakened-linear ops (weakened_by op c) (weakened_by-linear op c h)

-- nothing is weakened yet
pub weakened-begun : (ops : List PolOp) (c : Constraint) (ts : List Term) (d : ℕ) → IsLinear c → weights ts ≡ c.terms → d ≡ c.degree → weakened ops c ≡ weakened ops (counted (weights ts) d)
weakened-begun ops c ts d h e f =
    let terms : c.terms ≡ filter is_positive (weights ts) = sym (ap (filter is_positive) e ∙ counted-all c.terms h.positive) in
    let same : c ≡ counted (weights ts) d = λ i. record { terms = terms i; degree = sym f i } in
    ap (weakened ops) same

-- an operation is behind
pub weakened-more : (ops : List PolOp) (i : ℕ) (op : PolOp) (c made : Constraint) → i < length ops → op ≡ get_or ops i op → weakened_by op c ≡ made → weakened (drop i ops) c ≡ weakened (drop (i + 1) ops) made
weakened-more ops i op c made below at e =
    let next : suc i ≡ i + 1 = omega arith in
    let parts : drop i ops ≡ op ∷ drop (i + 1) ops = drop-cons ops i op below ∙ (ap (λ (x : PolOp). x ∷ drop (suc i) ops) (sym at) ∙ ap (λ (k : ℕ). op ∷ drop k ops) next) in
    ap (λ (xs : List PolOp). weakened xs c) parts ∙ ap (weakened (drop (i + 1) ops)) e

-- what an operation does to terms and a degree, where a term of 0 counts for nothing
pub record IsStep (op : PolOp) (ts : List Term) (degree : ℕ) (us : List Term) (left : ℕ) : Type 0 where
  pub same : weakened_by op (counted (weights ts) degree) ≡ counted (weights us) left
  pub ascending : IsAscending (weights us)
  pub unsigned : AreUnsigned us

pub weakening-step : (op : PolOp) (v : ℕ) (ts us items : List Term) (degree lost left : ℕ) → op ≡ Weaken v → items ≡ us → weights us ≡ map (zeroed v) (weights ts) → (AreUnsigned ts → AreUnsigned us) →
    lost ≡ sum_by (on_weight (coef_at v)) ts → left ≡ degree - lost → IsAscending (weights ts) → AreUnsigned ts → IsStep op ts degree items left
weakening-step op v ts us items degree lost left is e f keeps g k ascending unsigned =
    let zero : weights items ≡ map (zeroed v) (weights ts) = ap weights e ∙ f in
    let gone : left ≡ degree - sum_by (coef_at v) (weights ts) = k ∙ ap (λ (n : ℕ). degree - n) (g ∙ sym (sum_by-map (coef_at v) weighted ts)) in
    record {
      same = ap (λ (o : PolOp). weakened_by o (counted (weights ts) degree)) is ∙ counted-weakened v (weights ts) (weights items) degree left zero gone;
      ascending = subst IsAscending (sym zero) (map-ascending (zeroed v) (λ t. refl) (weights ts) ascending);
      unsigned = subst AreUnsigned (sym e) (keeps unsigned);
    }

weakened_by-other : (op : PolOp) (c : Constraint) → ((v : ℕ) → op ≡ Weaken v → ⊥) → weakened_by op c ≡ c
weakened_by-other op c other = elim (weakened_by-cases op) [ inl weakens ↦ absurd (other weakens.0 weakens.1) | inr same ↦ same c ]

pub other-step : (op : PolOp) (ts us : List Term) (degree left : ℕ) → ((v : ℕ) → op ≡ Weaken v → ⊥) → us ≡ ts → left ≡ degree → IsAscending (weights ts) → AreUnsigned ts → IsStep op ts degree us left
other-step op ts us degree left other e f ascending unsigned =
    let same : counted (weights ts) degree ≡ counted (weights us) left = λ i. counted (weights (sym e i)) (sym f i) in
    record {
      same = weakened_by-other op (counted (weights ts) degree) other ∙ same;
      ascending = subst (λ (xs : List Term). IsAscending (weights xs)) (sym e) ascending;
      unsigned = subst AreUnsigned (sym e) unsigned;
    }

pub weakened-made : (ops : List PolOp) (c : Constraint) (ts us : List Term) (degree : ℕ) → IsLinear c → us ≡ filter (on_weight is_positive) ts → AreUnsigned ts → weakened ops c ≡ counted (weights ts) degree → IsMade (weakened ops c) us degree
weakened-made ops c ts us degree h e unsigned same = record {
  unsigned = subst AreUnsigned (sym e) (All-filter (on_weight is_positive) IsUnsigned ts unsigned);
  terms = ap weights e ∙ (weights-filter is_positive ts ∙ ap (λ (d : Constraint). d.terms) (sym same));
  degree_is = ap (λ (d : Constraint). d.degree) (sym same);
  linear = weakened-linear ops c h;
}

-- ---- restriction

gained-sum : (sets : List Set) (c : Constraint) (ts : List Term) → weights ts ≡ c.terms → sum_by (on_weight (gained sets)) ts ≡ sum_by (gained sets) c.terms
gained-sum sets c ts e = sym (sum_by-map (gained sets) weighted ts) ∙ ap (sum_by (gained sets)) e

pub gained-room : (sets : List Set) (c : Constraint) (ts : List Term) → weights ts ≡ c.terms → IsLinear c → sum_by (on_weight (gained sets)) ts < 2 ^ 128
gained-room sets c ts e h =
    omega (arith, gained-sum sets c ts e, sum_by-le-sum_by {X = Weighted} (gained sets) (λ t. t.coef) c.terms (λ t. at_most (is_made_true sets t.lit) t.coef), h.weight_fits)

-- the degree, where the code sums up what is gained over its terms
pub degree-left : (sets : List Set) (c : Constraint) (ts : List Term) (lost degree : ℕ) → weights ts ≡ c.terms → lost ≡ sum_by (on_weight (gained sets)) ts → degree ≡ c.degree - lost → degree ≡ (restriction sets c).degree
degree-left sets c ts lost degree e f g = g ∙ ap (λ (n : ℕ). c.degree - n) (f ∙ gained-sum sets c ts e)

pub restriction-made : (sets : List Set) (c : Constraint) (ts us : List Term) (degree : ℕ) → IsLinear c → weights ts ≡ c.terms → us ≡ filter (on_weight (is_unset sets)) ts →
    degree ≡ (restriction sets c).degree → AreUnsigned ts → IsMade (restriction sets c) us degree
restriction-made sets c ts us degree h e f g unsigned = record {
  unsigned = subst AreUnsigned (sym f) (All-filter (on_weight (is_unset sets)) IsUnsigned ts unsigned);
  terms = ap weights f ∙ (weights-filter (is_unset sets) ts ∙ ap (filter (is_unset sets)) e);
  degree_is = g;
  linear = record {
    positive = All-filter (is_unset sets) (λ t. 0 < t.coef) c.terms h.positive;
    ascending = filter-ascending (is_unset sets) c.terms h.ascending;
    weight_fits = omega (arith, weight-filter (is_unset sets) c.terms, h.weight_fits);
    degree_fits = omega (arith, h.degree_fits);
  };
}

pub any-weights : (p : Weighted → Bool) (ts : List Term) → list_any (on_weight p) ts ≡ list_any p (weights ts)
any-weights p [] = refl
any-weights p (t ∷ ts) = ap (λ (b : Bool). p (weighted t) || b) (any-weights p ts)

-- ---- negation

pub negation-made : (c : Constraint) (ts us : List Term) (degree : ℕ) → IsLinear c → IsNarrow c → weights ts ≡ c.terms → us ≡ map (on_term opposite) ts →
    degree ≡ weight c.terms + 1 - c.degree → IsMade (negation c) us degree
negation-made c ts us degree h narrow e f g = record {
  unsigned = subst AreUnsigned (sym f) (map-unsigned opposite ts);
  terms = ap weights f ∙ (weights-map opposite ts ∙ ap (map opposite) e);
  degree_is = g;
  linear = record {
    positive = All-map {X = Weighted} (λ t. 0 < t.coef) opposite c.terms h.positive;
    ascending = map-ascending opposite (λ t. refl) c.terms h.ascending;
    weight_fits = omega (arith, sum_by-map {X = Weighted} {Y = Weighted} (λ t. t.coef) opposite c.terms, h.weight_fits);
    degree_fits = omega (arith, weight-narrow c narrow);
  };
}

-- ---- addition

-- what addition makes, before its room is tested
pub record IsSum (c d : Constraint) (ts : List Term) (degree : ℕ) : Type 0 where
  pub unsigned : AreUnsigned ts
  pub terms : weights ts ≡ (sum_of c d).terms
  pub degree_is : degree ≡ (sum_of c d).degree
  pub left : IsLinear c
  pub right : IsLinear d

pub sum-made : (c d : Constraint) (ts us sum : List Term) (cd dd lost degree : ℕ) →
    weights ts ≡ c.terms → weights us ≡ d.terms → AreUnsigned sum → weights sum ≡ joined (weights ts) (weights us) → lost ≡ cancelled (weights ts) (weights us) → cd ≡ c.degree → dd ≡ d.degree → degree ≡ cd + dd - lost → IsLinear c → IsLinear d →
    IsSum c d sum degree
sum-made c d ts us sum cd dd lost degree left_is right_is unsigned terms taken left_degree right_degree is left right = record {
  unsigned = unsigned;
  terms = terms ∙ ap (λ (ws : List Weighted). joined ws (weights us)) left_is ∙ ap (joined c.terms) right_is;
  degree_is = is ∙ ap (λ (n : ℕ). n + dd - lost) left_degree ∙ ap (λ (n : ℕ). c.degree + n - lost) right_degree ∙ ap (λ (n : ℕ). c.degree + d.degree - n) (taken ∙ ap (λ (ws : List Weighted). cancelled ws (weights us)) left_is ∙ ap (cancelled c.terms) right_is);
  left = left;
  right = right;
}

pub sum-positive : (c d : Constraint) (ts : List Term) (degree : ℕ) → IsSum c d ts degree → AllPositive (weights ts)
sum-positive c d ts degree h = subst AllPositive (sym h.terms) (joined-positive c.terms d.terms h.left.positive h.right.positive)

pub sum-ascending : (c d : Constraint) (ts : List Term) (degree : ℕ) → IsSum c d ts degree → IsAscending (weights ts)
sum-ascending c d ts degree h = subst IsAscending (sym h.terms) (joined-ascending c.terms d.terms h.right.ascending)

pub sum-fits : (c d : Constraint) (ts : List Term) (degree : ℕ) → IsSum c d ts degree → weight (weights ts) < 2 ^ 128
sum-fits c d ts degree h = omega (arith, ap weight h.terms, weight-joined c.terms d.terms, h.left.weight_fits, h.right.weight_fits)

pub sum-is : (c d : Constraint) (ts : List Term) (degree : ℕ) → IsSum c d ts degree → constraint_of ts degree ≡ sum_of c d
sum-is c d ts degree h = λ i. record { terms = h.terms i; degree = h.degree_is i }
