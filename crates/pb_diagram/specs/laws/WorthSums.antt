-- Expressions by their operations and by what they are worth.
use Rattle.std.proofs.Common.{◌≡◌, ◌≢◌, ◌≤◌, ◌<◌, ◌+◌, ◌-◌, ◌*◌, ◌^◌, ℕ, zero, suc, Bool, true, false, not, List, [], ◌∷◌, ◌++◌, refl, ap, sym, ◌∙◌, subst, append-nil, append_assoc, arith, pos}
use Rattle.std.specs.Prelude.{cond}
use Rattle.pb_base.specs.declared.literal.Lit.{Lit}
use Rattle.pb_base.specs.Literals.{Assignment, lit_value, negated}
use Rattle.pb_base.proofs.LiteralLemmas.{lit_value-negated}
use Rattle.pb_norm.specs.Constraints.{Weighted, Constraint, weight, value, term_value}
use Rattle.pb_norm.proofs.AdditionValues.{value-cons}
use Rattle.pb_steps.specs.declared.op.PolOp.{PolOp}
use Rattle.pb_steps.specs.declared.op.PolOp.TheVariants.{Push, Axiom, Add, Mul, Div, Weaken}
use Rattle.pb_steps.specs.declared.step.Step.TheVariants.{Pol}
use Rattle.pb_steps.specs.Database.{Database}
use Rattle.pb_steps.specs.Operations.{division, weakening}
use Rattle.pb_norm.specs.Constraints.{AllPositive}
use Rattle.pb_derive.specs.Forms.{AreApartTerms}
use Rattle.pb_derive.specs.Later.{Knows}
use Rattle.pb_derive.proofs.Expressions.{Expression, ops_before, left_of, size_of, height_of, IsFit, IsNormal, expression_adds}
use Rattle.pb_derive.proofs.FormOperations.{form_division, form_weakening}
use Rattle.pb_derive.proofs.Lines.{Adds}
use Rattle.std.proofs.lemmas.List.Elements.{All-nil, All-cons}
use Rattle.std.proofs.lemmas.List.Kept.{AllPairs-cons}
use Rattle.pb_base.proofs.Pairs.{AllPairs-nil, AllPairs-head}
use Rattle.pb_diagram.specs.Guards.{plus_times, weighing}
use Rattle.pb_diagram.specs.laws.Worths.{Worth, worth_of, worth_as, worth_sum, worth_times, worth_form}

-- ---- literals

-- 1 where the literal is true
abbrev pub holds : Assignment → Lit → ℕ
holds a l = cond (lit_value a l) 1 0

pub holds-negated : (a : Assignment) (l : Lit) → holds a (negated l) + holds a l ≡ 1
holds-negated a l = ap (λ (b : Bool). cond b 1 0 + holds a l) (lit_value-negated a l) ∙ by_value (lit_value a l)
  where
    by_value : (b : Bool) → cond (not b) 1 0 + cond b 1 0 ≡ 1
    by_value true = refl
    by_value false = refl

pub term-holds : (a : Assignment) (n : ℕ) (l : Lit) → term_value a (weighing n l) ≡ n * holds a l
term-holds a n l = by_value (lit_value a l)
  where
    by_value : (b : Bool) → cond b n 0 ≡ n * cond b 1 0
    by_value true = omega arith
    by_value false = omega arith

-- ---- sums

-- operations that leave a constraint of this worth, on so high a stack, by numbers up to a size
pub record IsSumBy (db : Database) (ops : List PolOp) (V : Assignment → ℕ) (d size height : ℕ) : Type 0 where
  pub e : Expression db
  pub is : (rest : List PolOp) → ops_before e rest ≡ ops ++ rest
  pub fit : IsFit e
  pub small : size_of e ≤ size
  pub low : height_of e ≤ height
  pub worth : Worth (left_of e) V d

module _ (db : Database) where
  pub sum_known : (id : ℕ) (s : Constraint) → Knows db id s → IsSumBy db (Push id ∷ []) (λ a. value a s.terms) s.degree (weight s.terms + s.degree) 1
  sum_known id s h = record { e = Expression.known id s h; is = λ rest. refl; fit = tt; small = omega arith; low = omega arith; worth = worth_of s h.0 h.2 }

  pub sum_literal : (l : Lit) → l.var ≤ db.vars → IsSumBy db (Axiom l ∷ []) (λ a. holds a l) 0 1 1
  sum_literal l low = record {
    e = Expression.literal l;
    is = λ rest. refl;
    fit = low;
    small = omega arith;
    low = omega arith;
    worth = record {
      same = λ a. omega (arith, value-cons a (weighing 1 l) [], term-holds a 1 l);
      positive = All-cons (λ (t : Weighted). 0 < t.coef) (weighing 1 l) [] (omega arith) (All-nil (λ (t : Weighted). 0 < t.coef));
      ascending = AllPairs-cons (λ (s t : Weighted). s.lit.var < t.lit.var) (weighing 1 l) [] (All-nil (λ (t : Weighted). l.var < t.lit.var)) (AllPairs-nil (λ (s t : Weighted). s.lit.var < t.lit.var));
    };
  }

  pub sum_more : (under : Assignment) (ops more : List PolOp) (V W : Assignment → ℕ) (d k m n : ℕ) (h : ℕ) → IsSumBy db ops V d m (suc h) → IsSumBy db more W k n h → V under + W under ≤ d + k
      → IsSumBy db (ops ++ (more ++ Add ∷ [])) (λ a. V a + W a) (d + k) (m + n) (suc h)
  sum_more under ops more V W d k m n h x y tight = record {
    e = Expression.plus x.e y.e;
    is = λ rest.
        x.is (ops_before y.e (Add ∷ rest)) ∙ ap (λ (os : List PolOp). ops ++ os) (y.is (Add ∷ rest))
        ∙ (ap (λ (os : List PolOp). ops ++ os) (sym (append_assoc more (Add ∷ []) rest)) ∙ sym (append_assoc ops (more ++ Add ∷ []) rest));
    fit = (x.fit, y.fit);
    small = omega (arith, x.small, y.small);
    low = omega (arith, x.low, y.low);
    worth = worth_sum under (left_of x.e) (left_of y.e) V W d k x.worth y.worth tight;
  }

  pub sum_as : (ops : List PolOp) (V W : Assignment → ℕ) (d k m n h i : ℕ) → IsSumBy db ops V d m h → ((a : Assignment) → V a + k ≡ W a + d) → m ≤ n → h ≤ i → IsSumBy db ops W k n i
  sum_as ops V W d k m n h i x same size height = record {
    e = x.e;
    is = x.is;
    fit = x.fit;
    small = omega (arith, x.small, size);
    low = omega (arith, x.low, height);
    worth = worth_as (left_of x.e) V W d k x.worth same;
  }

  pub sum_ops : (ops more : List PolOp) (V : Assignment → ℕ) (d m h : ℕ) → ops ≡ more → IsSumBy db ops V d m h → IsSumBy db more V d m h
  sum_ops ops more V d m h same x = subst (λ (os : List PolOp). IsSumBy db os V d m h) same x

  pub sum_times : (n : ℕ) (ops : List PolOp) (V : Assignment → ℕ) (d m h : ℕ) → 0 < n → IsSumBy db ops V d m h → IsSumBy db (ops ++ Mul (pos n) ∷ []) (λ a. n * V a) (n * d) (n * m) h
  sum_times n ops V d m h some x = record {
    e = Expression.times n x.e;
    is = λ rest. x.is (Mul (pos n) ∷ rest) ∙ sym (append_assoc ops (Mul (pos n) ∷ []) rest);
    fit = (omega (arith, some), x.fit);
    small = times-le n (size_of x.e) m x.small;
    low = x.low;
    worth = worth_times n (left_of x.e) V d some x.worth;
  }
    where
      times-le : (n i j : ℕ) → i ≤ j → n * i ≤ n * j
      times-le n i j h = grind (arith, h)

  -- a quotient, by what is divided
  pub sum_over : (n : ℕ) (t : Constraint) (ops : List PolOp) (V : Assignment → ℕ) (d m h : ℕ) → 0 < n → IsSumBy db ops V d m h → AreApartTerms t.terms → AllPositive t.terms → ((a : Assignment) → value a t.terms + d ≡ t.degree + V a)
      → IsSumBy db (ops ++ Div (pos n) ∷ []) (λ a. value a (division n t).terms) (division n t).degree m h
  sum_over n t ops V d m h some x apart positive same = record {
    e = Expression.over n x.e;
    is = λ rest. x.is (Div (pos n) ∷ rest) ∙ sym (append_assoc ops (Div (pos n) ∷ []) rest);
    fit = (omega (arith, some), x.fit);
    small = x.small;
    low = x.low;
    worth = worth_of (division n t) (left_of (Expression.over n x.e)) (form_division n t (left_of x.e) some (worth_form t (left_of x.e) V d x.worth apart positive same));
  }

  -- a variable goes, by the terms that are left
  pub sum_without : (t : Weighted) (ts : List Weighted) (k : ℕ) (ops : List PolOp) (V : Assignment → ℕ) (d m h : ℕ) → t.lit.var ≤ db.vars → IsSumBy db ops V d m h → AreApartTerms (t ∷ ts) → AllPositive (t ∷ ts) → ((a : Assignment) → value a (t ∷ ts) + d ≡ k + V a)
      → IsSumBy db (ops ++ Weaken t.lit.var ∷ []) (λ a. value a ts) (k - t.coef) m h
  sum_without t ts k ops V d m h low x apart positive same = record {
    e = Expression.without t.lit.var x.e;
    is = λ rest. x.is (Weaken t.lit.var ∷ rest) ∙ sym (append_assoc ops (Weaken t.lit.var ∷ []) rest);
    fit = (low, x.fit);
    small = x.small;
    low = x.low;
    worth = worth_of (record { terms = ts; degree = k - t.coef }) (weakening t.lit.var (left_of x.e))
        (form_weakening t ts k (left_of x.e) (AllPairs-head (λ (s u : Weighted). s.lit.var ≢ u.lit.var) t ts apart) (worth_form (record { terms = t ∷ ts; degree = k }) (left_of x.e) V d x.worth apart positive same));
  }

  -- so many times what other operations leave is added
  pub sum_plus : (under : Assignment) (n : ℕ) (ops more : List PolOp) (V W : Assignment → ℕ) (d k m i h : ℕ) → IsSumBy db ops V d m (suc h) → IsSumBy db more W k i h → V under + n * W under ≤ d + n * k
      → IsSumBy db (ops ++ plus_times n more) (λ a. V a + n * W a) (d + n * k) (m + n * i) (suc h)
  sum_plus under zero ops more V W d k m i h x y tight =
      sum_ops ops (ops ++ []) (λ a. V a + 0 * W a) (d + 0 * k) (m + 0 * i) (suc h) (sym (append-nil ops)) (sum_as ops V (λ a. V a + 0 * W a) d (d + 0 * k) m (m + 0 * i) (suc h) (suc h) x (λ a. omega arith) (omega arith) (omega arith))
  sum_plus under (suc zero) ops more V W d k m i h x y tight =
      sum_as (ops ++ (more ++ Add ∷ [])) (λ a. V a + W a) (λ a. V a + 1 * W a) (d + k) (d + 1 * k) (m + i) (m + 1 * i) (suc h) (suc h)
      (sum_more under ops more V W d k m i h x y (omega (arith, tight))) (λ a. omega arith) (omega arith) (omega arith)
  sum_plus under (suc (suc n)) ops more V W d k m i h x y tight =
      sum_ops (ops ++ ((more ++ Mul (pos (suc (suc n))) ∷ []) ++ Add ∷ [])) (ops ++ plus_times (suc (suc n)) more) (λ a. V a + suc (suc n) * W a) (d + suc (suc n) * k) (m + suc (suc n) * i) (suc h)
      (ap (λ (os : List PolOp). ops ++ os) (append_assoc more (Mul (pos (suc (suc n))) ∷ []) (Add ∷ [])))
      (sum_more under ops (more ++ Mul (pos (suc (suc n))) ∷ []) V (λ a. suc (suc n) * W a) d (suc (suc n) * k) m (suc (suc n) * i) h x (sum_times (suc (suc n)) more W k i h (omega arith) y) tight)

  -- the line
  pub sum_adds : (P : ℕ → Type 0) (t : Constraint) (ops : List PolOp) (V : Assignment → ℕ) (d m h : ℕ) → IsSumBy db ops V d m h → h ≤ 65536 → m < 2 ^ 126 → IsNormal P t → ((a : Assignment) → value a t.terms + d ≡ t.degree + V a) → Adds P db (Pol ops) t
  sum_adds P t ops V d m h x height size normal same =
      subst (λ (os : List PolOp). Adds P db (Pol os) t) (x.is [] ∙ append-nil ops)
      (expression_adds P db x.e t x.fit (omega (arith, x.low, height)) (omega (arith, x.small, size)) (worth_form t (left_of x.e) V d x.worth normal.apart normal.positive same) normal)
