-- What adders say, added up, and the sum that is kept within the bound while adders take bits from it and give others.
use Rattle.std.proofs.Common.{◌≡◌, ◌≤◌, ◌<◌, ◌+◌, ◌-◌, ◌*◌, ℕ, Bool, true, false, not, cond, List, [], ◌∷◌, ◌++◌, arith, refl, ap, sym, ◌∙◌, subst}
use Rattle.std.specs.Prelude.{map}
use Rattle.std.proofs.Math.Nat.{mul-add}
use Rattle.std.proofs.lemmas.List.Elements.{All-nil, All-cons, All-append, All-map, All-weaker}
use Rattle.std.proofs.lemmas.List.Sums.{sum_by-append}
use Rattle.pb_base.specs.declared.literal.Lit.{Lit}
use Rattle.pb_base.specs.Literals.{Assignment, lit_value, negated}
use Rattle.pb_base.proofs.LiteralLemmas.{lit_value-negated}
use Rattle.pb_family.specs.Fresh.{positive_of}
use Rattle.pb_norm.specs.Constraints.{Weighted, Constraint, AllPositive, IsAscending, term_value, value, weight, terms_of}
use Rattle.pb_norm.specs.Addition.{joined, cancelled, sum_of}
use Rattle.pb_norm.specs.Halves.{normal_terms}
use Rattle.pb_norm.specs.Reduction.{quotient_up}
use Rattle.pb_norm.proofs.AdditionOrder.{map-ascending, joined-ascending}
use Rattle.pb_norm.proofs.AdditionSizes.{weight-cons}
use Rattle.pb_norm.proofs.AdditionValues.{value-cons, joined-value}
use Rattle.pb_norm.proofs.Extremes.{extreme, extreme-all, value-all_true, value-all_false}
use Rattle.pb_norm.proofs.WrittenForm.{normal_terms-positive, normal_terms-ascending}
use Rattle.pb_steps.specs.Operations.{scaled, multiple, shrunk}
use Rattle.pb_derive.specs.Forms.{AreApartTerms, IsFormOf}
use Rattle.pb_derive.proofs.SameTerms.{written-form}
use Rattle.pb_derive.specs.Reifications.{forward_of}
use Rattle.pb_derive.specs.Ones.{unit_of, ones}
use Rattle.pb_adder.specs.GateReifications.{carry_reification, sum_reification}
use Rattle.pb_adder.specs.inner.RunningSums.{outputs, balance, line_of, Sum, part, IsBalanced, IsRunning, StaysUpTo}
use Rattle.pb_derive.proofs.Closed.{joined-positive}
use Rattle.pb_derive.proofs.SameValues.{same_values}

abbrev Positive : Weighted → Type 0
Positive t = 0 < t.coef

-- ---- multiples

scaled-value : (a : Assignment) (n : ℕ) (t : Weighted) → term_value a (scaled n t) ≡ n * term_value a t
scaled-value a n t = by_value (lit_value a t.lit)
  where
    by_value : (b : Bool) → cond b (n * t.coef) 0 ≡ n * cond b t.coef 0
    by_value true = refl
    by_value false = omega arith

pub value-scaled : (a : Assignment) (n : ℕ) (ts : List Weighted) → value a (map (scaled n) ts) ≡ n * value a ts
value-scaled a n [] = omega arith
value-scaled a n (t ∷ ts) =
    let split : n * value a (t ∷ ts) ≡ n * term_value a t + n * value a ts = ap (λ (k : ℕ). n * k) (value-cons a t ts) ∙ mul-add n (term_value a t) (value a ts) in
    omega (arith, value-cons a (scaled n t) (map (scaled n) ts), scaled-value a n t, value-scaled a n ts, split)

pub weight-scaled : (n : ℕ) (ts : List Weighted) → weight (map (scaled n) ts) ≡ n * weight ts
weight-scaled n [] = omega arith
weight-scaled n (t ∷ ts) =
    let split : n * weight (t ∷ ts) ≡ n * t.coef + n * weight ts = ap (λ (k : ℕ). n * k) (weight-cons t ts) ∙ mul-add n t.coef (weight ts) in
    omega (arith, weight-cons (scaled n t) (map (scaled n) ts), weight-scaled n ts, split)

times-positive : (n k : ℕ) → 0 < n → 0 < k → 0 < n * k
times-positive n k h l = grind arith

pub scaled-positive : (n : ℕ) (ts : List Weighted) → 0 < n → AllPositive ts → AllPositive (map (scaled n) ts)
scaled-positive n ts h all = All-map {X = Weighted} (λ t. 0 < t.coef) (scaled n) ts (All-weaker {X = Weighted} (λ t. 0 < t.coef) (λ t. 0 < n * t.coef) (λ t k. times-positive n t.coef h k) ts all)

pub scaled-ascending : (n : ℕ) (ts : List Weighted) → IsAscending ts → IsAscending (map (scaled n) ts)
scaled-ascending n ts up = map-ascending (scaled n) (λ t. refl) ts up

-- ---- one adder

shrunk-back : (ts : List Weighted) → map (shrunk 3) (map (scaled 3) ts) ≡ ts
shrunk-back [] = refl
shrunk-back (t ∷ ts) =
    let coef : quotient_up 3 (3 * t.coef) ≡ t.coef = omega arith in
    λ i. record { coef = coef i; lit = t.lit } ∷ shrunk-back ts i

ones-positive : (ls : List Lit) → AllPositive (ones ls)
ones-positive [] = All-nil Positive
ones-positive (l ∷ ls) = All-cons Positive (unit_of l) (ones ls) (omega arith) (ones-positive ls)

balance-positive : (inputs : List Lit) (s d : ℕ) → AllPositive (balance inputs s d)
balance-positive inputs s d =
    let carry : Weighted = record { coef = 2; lit = negated (positive_of d) } in
    All-append Positive (ones inputs) (unit_of (negated (positive_of s)) ∷ carry ∷ []) (ones-positive inputs)
    (All-cons Positive (unit_of (negated (positive_of s))) (carry ∷ []) (omega arith) (All-cons Positive carry [] (omega arith) (All-nil Positive)))

term_either : (a : Assignment) (n : ℕ) (l : Lit) → cond (lit_value a (negated l)) n 0 + cond (lit_value a l) n 0 ≡ n
term_either a n l = ap (λ (b : Bool). cond b n 0 + cond (lit_value a l) n 0) (lit_value-negated a l) ∙ either (lit_value a l)
  where
    either : (b : Bool) → cond (not b) n 0 + cond b n 0 ≡ n
    either true = omega arith
    either false = omega arith

balance-value : (a : Assignment) (inputs : List Lit) (s d : ℕ) → value a (balance inputs s d) + value a (outputs s d) ≡ value a (ones inputs) + 3
balance-value a inputs s d =
    let carry : Weighted = record { coef = 2; lit = negated (positive_of d) } in
    let sum : Weighted = unit_of (negated (positive_of s)) in
    omega (
      arith,
      sum_by-append (term_value a) (ones inputs) (sum ∷ carry ∷ []),
      value-cons a sum (carry ∷ []),
      value-cons a carry [],
      value-cons a (unit_of (positive_of s)) (record { coef = 2; lit = positive_of d } ∷ []),
      value-cons a (record { coef = 2; lit = positive_of d }) [],
      term_either a 1 (positive_of s),
      term_either a 2 (positive_of d),
    )

-- twice the carry's first constraint and the sum's are three times the balance
thrice : (a : Assignment) (inputs : List Lit) (s d : ℕ) → 2 * value a (forward_of (carry_reification inputs d)).terms + value a (forward_of (sum_reification inputs s d)).terms ≡ 3 * value a (balance inputs s d)
thrice a inputs s d =
    let carry : Weighted = record { coef = 2; lit = negated (positive_of d) } in
    let sum : Weighted = unit_of (negated (positive_of s)) in
    let three : Weighted = record { coef = 3; lit = negated (positive_of s) } in
    let triple : term_value a three ≡ 3 * term_value a sum = by_value (lit_value a (negated (positive_of s))) in
    omega (
      arith,
      sum_by-append (term_value a) (ones inputs) (sum ∷ carry ∷ []),
      sum_by-append (term_value a) (ones inputs) (carry ∷ []),
      value-cons a sum (carry ∷ []),
      value-cons a carry [],
      value-cons a carry (ones inputs),
      value-cons a three (ones inputs ++ carry ∷ []),
      triple,
    )
  where
    by_value : (b : Bool) → cond b 3 0 ≡ 3 * cond b 1 0
    by_value true = refl
    by_value false = refl

pub line_is : (inputs : List Lit) (s d : ℕ) (c e : Constraint) → AreApartTerms (balance inputs s d) → IsFormOf (forward_of (carry_reification inputs d)) c → IsFormOf (forward_of (sum_reification inputs s d)) e
    → line_of c e ≡ record { terms = normal_terms (terms_of (balance inputs s d)); degree = 3 }
line_is inputs s d c e apart hc he =
    let rs = normal_terms (terms_of (balance inputs s d)) in
    let same = (written-form (balance inputs s d) 3 apart (balance-positive inputs s d)).terms in
    let up = normal_terms-ascending (terms_of (balance inputs s d)) in
    let twice = map (scaled 2) c.terms in
    let all : (a : Assignment) → value a (joined twice e.terms) + cancelled twice e.terms ≡ value a (map (scaled 3) rs) = λ a.
    omega (arith, joined-value a twice e.terms he.ascending, value-scaled a 2 c.terms, value-scaled a 3 rs, hc.terms (term_value a), he.terms (term_value a), same (term_value a), thrice a inputs s d) in
    let a = extreme false rs in
    let nothing = value-all_false a rs (extreme-all false rs up) in
    let none : cancelled twice e.terms ≡ 0 = omega (arith, all a, nothing, value-scaled a 3 rs) in
    let terms : joined twice e.terms ≡ map (scaled 3) rs =
    same_values (joined twice e.terms) (map (scaled 3) rs) (cancelled twice e.terms) 0
    (joined-positive twice e.terms (scaled-positive 2 c.terms (omega arith) hc.positive) he.positive) (joined-ascending twice e.terms he.ascending)
    (scaled-positive 3 rs (omega arith) (normal_terms-positive (terms_of (balance inputs s d)))) (scaled-ascending 3 rs up) (λ a. omega (arith, all a)) in
    let degree : quotient_up 3 (2 * c.degree + e.degree - cancelled twice e.terms) ≡ 3 = omega (arith, none, hc.degree, he.degree) in
    let divided_terms : map (shrunk 3) (joined twice e.terms) ≡ rs = ap (map (shrunk 3)) terms ∙ shrunk-back rs in
    λ i. record { terms = divided_terms i; degree = degree i }

pub line_exact : (inputs : List Lit) (s d : ℕ) (c e : Constraint) → AreApartTerms (balance inputs s d) → IsFormOf (forward_of (carry_reification inputs d)) c → IsFormOf (forward_of (sum_reification inputs s d)) e
    → IsBalanced (part (ones inputs)) (part (outputs s d)) (line_of c e)
line_exact inputs s d c e apart hc he =
    let ts = balance inputs s d in
    let same = (written-form ts 3 apart (balance-positive inputs s d)).terms in
    subst (IsBalanced (part (ones inputs)) (part (outputs s d))) (sym (line_is inputs s d c e apart hc he)) (record {
      positive = normal_terms-positive (terms_of ts);
      ascending = normal_terms-ascending (terms_of ts);
      exact = λ a. omega (arith, same (term_value a), balance-value a inputs s d);
    })

-- ---- several adders

pub balanced_as : (ins others outs more : Sum) (c : Constraint) → ((p : Lit → Bool) → ins p ≡ others p) → ((p : Lit → Bool) → outs p ≡ more p) → IsBalanced ins outs c → IsBalanced others more c
balanced_as ins others outs more c taken given h = record { positive = h.positive; ascending = h.ascending; exact = λ a. omega (arith, h.exact a, taken (lit_value a), given (lit_value a)) }

pub balanced_times : (n : ℕ) (ins outs : Sum) (c : Constraint) → 0 < n → IsBalanced ins outs c → IsBalanced (λ p. n * ins p) (λ p. n * outs p) (multiple n c)
balanced_times n ins outs c some h = record {
  positive = scaled-positive n c.terms some h.positive;
  ascending = scaled-ascending n c.terms h.ascending;
  exact = λ a.
      let p = lit_value a in
      value-scaled-and n (outs p) a c ∙ ap (λ (k : ℕ). n * k) (h.exact a) ∙ mul-add n c.degree (ins p);
}
  where
    value-scaled-and : (n k : ℕ) (a : Assignment) (c : Constraint) → value a (map (scaled n) c.terms) + n * k ≡ n * (value a c.terms + k)
    value-scaled-and n k a c = omega (arith, value-scaled a n c.terms, mul-add n (value a c.terms) k)

-- two are added, where for some choice no more is taken than given
pub balanced_both : (ins outs more others : Sum) (c d : Constraint) (a : Assignment) → IsBalanced ins outs c → IsBalanced more others d → ins (lit_value a) + more (lit_value a) ≤ outs (lit_value a) + others (lit_value a)
    → IsBalanced (λ p. ins p + more p) (λ p. outs p + others p) (sum_of c d)
balanced_both ins outs more others c d full h k enough =
    let gone = cancelled c.terms d.terms in
    let all : (a : Assignment) → value a (joined c.terms d.terms) + gone + (outs (lit_value a) + others (lit_value a)) ≡ c.degree + d.degree + (ins (lit_value a) + more (lit_value a)) = λ a.
    omega (arith, joined-value a c.terms d.terms k.ascending, h.exact a, k.exact a) in
    let less : gone ≤ c.degree + d.degree = omega (arith, all full, enough) in
    record {
      positive = joined-positive c.terms d.terms h.positive k.positive;
      ascending = joined-ascending c.terms d.terms k.ascending;
      exact = λ a. omega (arith, all a, less);
    }

-- ---- their numbers

-- neither the degree nor the coefficients pass what the sums can be
pub balanced_small : (m : ℕ) (ins outs : Sum) (c : Constraint) → IsBalanced ins outs c → StaysUpTo m ins → StaysUpTo m outs → (c.degree ≤ m) × (weight c.terms ≤ m + m)
balanced_small m ins outs c h taken given =
    let low = extreme false c.terms in
    let high = extreme true c.terms in
    let none = value-all_false low c.terms (extreme-all false c.terms h.ascending) in
    let all = value-all_true high c.terms (extreme-all true c.terms h.ascending) in
    let top : c.degree ≤ m = omega (arith, h.exact low, none, given (lit_value low)) in
    (top, omega (arith, h.exact high, all, top, taken (lit_value high)))

-- neither its degree nor its coefficients pass what the sum can be
pub running_small : (bound m : ℕ) (sum : Sum) (c : Constraint) → IsRunning bound sum c → StaysUpTo m sum → (c.degree + bound ≤ m) × (weight c.terms ≤ m)
running_small bound m sum c running within =
    let low = extreme false c.terms in
    let high = extreme true c.terms in
    let none = value-all_false low c.terms (extreme-all false c.terms running.ascending) in
    let all = value-all_true high c.terms (extreme-all true c.terms running.ascending) in
    let top : c.degree + bound ≤ m = omega (arith, running.exact low, none, within (lit_value low)) in
    (top, omega (arith, running.exact high, all, top))
