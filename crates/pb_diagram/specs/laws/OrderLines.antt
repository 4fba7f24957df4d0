-- The order of a level: where a node is true, so is the next one, since its children are.
use Rattle.std.proofs.Common.{◌≡◌, ◌≤◌, ◌<◌, ◌+◌, ◌*◌, ◌-◌, ◌^◌, ℕ, suc, Bool, true, false, cond, List, [], ◌∷◌, ◌++◌, refl, ap, sym, ◌∙◌, subst, append-nil, append_assoc, arith, pos, eqb, ltb}
use Rattle.std.specs.Prelude.{Option, None, Some, map}
use Rattle.std.proofs.Math.Nat.{mul-add}
use Rattle.std.proofs.lemmas.Bool.{eqb-true, ltb-true, ltb-false}
use Rattle.std.proofs.lemmas.List.Elements.{All-nil, All-cons}
use Rattle.pb_base.specs.declared.literal.Lit.{Lit}
use Rattle.pb_base.specs.Literals.{Assignment, negated}
use Rattle.pb_norm.specs.Constraints.{Weighted, Constraint, value, weight}
use Rattle.pb_norm.specs.Reduction.{opposite, quotient_up}
use Rattle.pb_norm.proofs.AdditionSizes.{weight-cons}
use Rattle.pb_norm.proofs.AdditionValues.{value-cons}
use Rattle.pb_steps.specs.declared.op.PolOp.{PolOp}
use Rattle.pb_steps.specs.declared.op.PolOp.TheVariants.{Push, Axiom, Add, Div}
use Rattle.pb_steps.specs.declared.step.Step.TheVariants.{Pol}
use Rattle.pb_steps.specs.Database.{Database}
use Rattle.pb_steps.specs.Operations.{division}
use Rattle.pb_derive.specs.Later.{Knows}
use Rattle.pb_derive.specs.Reifications.{Reification, spare, forward_of, reverse_of}
use Rattle.pb_derive.proofs.Lines.{Adds}
use Rattle.pb_derive.proofs.Opposites.{value-opposite, weight-opposite}
use Rattle.pb_family.specs.Fresh.{positive_of}
use Rattle.pb_diagram.specs.declared.node.Node.{Node}
use Rattle.pb_diagram.specs.Guards.{weighing, missed_of, child_terms, child_least, child_reification, off_path, on_path, plus_times, path, order_ops}
use Rattle.pb_diagram.specs.laws.NodeWorths.{IsOrdered, order_of, path_sum, all_but, but-itself, but-other}
use Rattle.pb_diagram.specs.laws.FewTerms.{value-one, value-two, value-three, apart_two, positive_two}
use Rattle.pb_diagram.specs.laws.WorthSums.{holds, holds-negated, term-holds, IsSumBy, sum_known, sum_literal, sum_more, sum_ops, sum_as, sum_over, sum_plus, sum_adds}

-- ---- what a node's children are worth

abbrev pub has : Option ℕ → ℕ
has None = 0
has (Some f) = 1

-- the true end is true, and the false end is false
abbrev pub off_hold : Assignment → ℕ → Option ℕ → ℕ
off_hold a q None = 1
off_hold a q (Some f) = holds a (positive_of (q + f))

abbrev pub on_hold : Assignment → ℕ → Option ℕ → ℕ
on_hold a q None = 0
on_hold a q (Some t) = holds a (positive_of (q + t))

both-value : (a : Assignment) (l : Lit) (q f t : ℕ) (b : Bool) → eqb f t ≡ b
    → value a (cond b (weighing 3 (positive_of (q + f)) ∷ weighing 1 (negated l) ∷ []) (weighing 2 (positive_of (q + f)) ∷ weighing 1 (negated l) ∷ weighing 1 (positive_of (q + t)) ∷ []))
    ≡ 2 * holds a (positive_of (q + f)) + holds a (negated l) + holds a (positive_of (q + t))
both-value a l q f t true same =
    let e : holds a (positive_of (q + f)) ≡ holds a (positive_of (q + t)) = ap (λ (k : ℕ). holds a (positive_of (q + k))) (eqb-true f t same) in
    omega (arith, value-two a 3 (positive_of (q + f)) 1 (negated l), e)
both-value a l q f t false same = omega (arith, value-three a 2 (positive_of (q + f)) 1 (negated l) 1 (positive_of (q + t)))

pub child-value : (a : Assignment) (l : Lit) (q : ℕ) (f t : Option ℕ) → value a (child_terms l q f t) + 2 ≡ 2 * off_hold a q f + holds a (negated l) + on_hold a q t + 2 * has f
child-value a l q None None = omega (arith, value-one a 1 (negated l))
child-value a l q None (Some t) = omega (arith, value-two a 1 (negated l) 1 (positive_of (q + t)))
child-value a l q (Some f) None = omega (arith, value-two a 2 (positive_of (q + f)) 1 (negated l))
child-value a l q (Some f) (Some t) = omega (arith, both-value a l q f t (eqb f t) refl)

both-weight : (l : Lit) (q f t : ℕ) (b : Bool)
    → weight (cond b (weighing 3 (positive_of (q + f)) ∷ weighing 1 (negated l) ∷ []) (weighing 2 (positive_of (q + f)) ∷ weighing 1 (negated l) ∷ weighing 1 (positive_of (q + t)) ∷ [])) ≡ 4
both-weight l q f t true = refl
both-weight l q f t false = refl

pub child-weight : (l : Lit) (q : ℕ) (f t : Option ℕ) → weight (child_terms l q f t) ≡ 2 * has f + 1 + has t
child-weight l q None None = refl
child-weight l q None (Some t) = refl
child-weight l q (Some f) None = refl
child-weight l q (Some f) (Some t) = both-weight l q f t (eqb f t)

pub least-is : (f : Option ℕ) → child_least f ≡ 2 * has f + 1
least-is None = refl
least-is (Some f) = refl

third-least : (f : Option ℕ) → quotient_up 3 (child_least f) ≡ 1
third-least None = refl
third-least (Some f) = refl

third-spare : (t : Option ℕ) → quotient_up 3 (1 + has t) ≡ 1
third-spare None = refl
third-spare (Some t) = refl

-- ---- from the children of one node to those of the next

-- more operations bring a sum from so many times A to so many times B
record Bridged (db : Database) (ops : List PolOp) (V : Assignment → ℕ) (d n size : ℕ) (A B : Assignment → ℕ) : Type 0 where
  W : Assignment → ℕ
  k : ℕ
  sum : IsSumBy db ops W k size 3
  same : (a : Assignment) → W a + d + n * A a ≡ V a + k + n * B a

module _ (db : Database) (order q count : ℕ) (ordered : IsOrdered db order q count) (under : Assignment) where
  abbrev X : Assignment → ℕ → ℕ
  X a j = holds a (positive_of (q + j))

  unmoved : (ops : List PolOp) (V : Assignment → ℕ) (d m n more : ℕ) (A : Assignment → ℕ) → IsSumBy db ops V d m 3 → Bridged db (ops ++ []) V d n (m + more) A A
  unmoved ops V d m n more A x = record {
    W = V;
    k = d;
    sum = sum_ops db ops (ops ++ []) V d (m + more) 3 (sym (append-nil ops)) (sum_as db ops V V d d m (m + more) 3 3 x (λ a. refl) (omega arith) (omega arith));
    same = λ a. refl;
  }

  along : (n i j : ℕ) (b : Bool) (ops : List PolOp) (V : Assignment → ℕ) (d m : ℕ) → ltb i j ≡ b → i ≤ j → j < count → IsSumBy db ops V d m 3 → V under + n * X under j ≤ d + n * X under i
      → Bridged db (ops ++ cond b (plus_times n (path order i j)) []) V d n (m + n * (3 * count)) (λ a. X a i) (λ a. X a j)
  along n i j true ops V d m before le within x tight =
      let more = path_sum db order q count ordered i j (ltb-true i j before) within in
      let few : n * (3 * (j - i)) ≤ n * (3 * count) = times-le n (3 * (j - i)) (3 * count) (omega (arith, within)) in
      let whole : (a : Assignment) → n * (holds a (missed_of (q + i)) + X a j) + n * X a i ≡ n * 1 + n * X a j = λ a. spread n (holds a (missed_of (q + i))) (X a j) (X a i) (holds-negated a (positive_of (q + i))) in
      record {
        W = λ a. V a + n * (holds a (missed_of (q + i)) + X a j);
        k = d + n * 1;
        sum = sum_as db (ops ++ plus_times n (path order i j)) (λ a. V a + n * (holds a (missed_of (q + i)) + X a j)) (λ a. V a + n * (holds a (missed_of (q + i)) + X a j)) (d + n * 1) (d + n * 1) (m + n * (3 * (j - i))) (m + n * (3 * count)) 3 3
            (sum_plus db under n ops (path order i j) V (λ a. holds a (missed_of (q + i)) + X a j) d 1 m (3 * (j - i)) 2 x more (omega (arith, whole under, tight)))
            (λ a. refl) (omega (arith, few)) (omega arith);
        same = λ a. omega (arith, whole a);
      }
    where
      times-le : (n i j : ℕ) → i ≤ j → n * i ≤ n * j
      times-le n i j h = grind (arith, h)

      spread : (n u v w : ℕ) → u + w ≡ 1 → n * (u + v) + n * w ≡ n * 1 + n * v
      spread n u v w h = omega (arith, mul-add n u v, mul-add n u w, ap (λ (k : ℕ). n * k) h)
  along n i j false ops V d m before le within x tight =
      let e : i ≡ j = omega (arith, le, ltb-false i j before) in
      subst (λ (k : ℕ). Bridged db (ops ++ []) V d n (m + n * (3 * count)) (λ a. X a i) (λ a. X a k)) e (unmoved ops V d m n (n * (3 * count)) (λ a. X a i) x)

  -- the false children
  abbrev pub IsOffPair : Option ℕ → Option ℕ → Type 0
  IsOffPair None None = Unit {0}
  IsOffPair None (Some g) = ⊥
  IsOffPair (Some f) None = q + f ≤ db.vars
  IsOffPair (Some f) (Some g) = (f ≤ g) × (g < count)

  off_bridge : (f g : Option ℕ) (ops : List PolOp) (V : Assignment → ℕ) (d m : ℕ) → IsOffPair f g → IsSumBy db ops V d m 3 → V under + 2 * off_hold under q g ≤ d + 2 * off_hold under q f
      → Bridged db (ops ++ off_path order q f g) V d 2 (m + (2 * (3 * count) + 2)) (λ a. off_hold a q f) (λ a. off_hold a q g)
  off_bridge None None ops V d m pair x tight = unmoved ops V d m 2 (2 * (3 * count) + 2) (λ a. 1) x
  off_bridge None (Some g) ops V d m pair x tight = absurd pair
  off_bridge (Some f) None ops V d m pair x tight =
      let z : Lit = missed_of (q + f) in
      record {
        W = λ a. V a + 2 * holds a z;
        k = d + 2 * 0;
        sum = sum_as db (ops ++ plus_times 2 (Axiom z ∷ [])) (λ a. V a + 2 * holds a z) (λ a. V a + 2 * holds a z) (d + 2 * 0) (d + 2 * 0) (m + 2 * 1) (m + (2 * (3 * count) + 2)) 3 3
            (sum_plus db under 2 ops (Axiom z ∷ []) V (λ a. holds a z) d 0 m 1 2 x (sum_as db (Axiom z ∷ []) (λ a. holds a z) (λ a. holds a z) 0 0 1 1 1 2 (sum_literal db z pair) (λ a. refl) (omega arith) (omega arith))
            (omega (arith, tight, holds-negated under (positive_of (q + f)))))
            (λ a. refl) (omega arith) (omega arith);
        same = λ a. omega (arith, holds-negated a (positive_of (q + f)));
      }
  off_bridge (Some f) (Some g) ops V d m pair x tight =
      let b = along 2 f g (ltb f g) ops V d m refl pair.0 pair.1 x tight in
      record {
        W = b.W;
        k = b.k;
        sum = sum_as db (ops ++ off_path order q (Some f) (Some g)) b.W b.W b.k b.k (m + 2 * (3 * count)) (m + (2 * (3 * count) + 2)) 3 3 b.sum (λ a. refl) (omega arith) (omega arith);
        same = b.same;
      }

  -- the true ones
  abbrev pub IsOnPair : Option ℕ → Option ℕ → Type 0
  IsOnPair None None = Unit {0}
  IsOnPair (Some t) None = ⊥
  IsOnPair None (Some u) = q + u ≤ db.vars
  IsOnPair (Some t) (Some u) = (t ≤ u) × (u < count)

  on_bridge : (t u : Option ℕ) (ops : List PolOp) (V : Assignment → ℕ) (d m : ℕ) → IsOnPair t u → IsSumBy db ops V d m 3 → V under + on_hold under q u ≤ d + on_hold under q t
      → Bridged db (ops ++ on_path order q t u) V d 1 (m + (1 * (3 * count) + 1)) (λ a. on_hold a q t) (λ a. on_hold a q u)
  on_bridge None None ops V d m pair x tight = unmoved ops V d m 1 (1 * (3 * count) + 1) (λ a. 0) x
  on_bridge (Some t) None ops V d m pair x tight = absurd pair
  on_bridge None (Some u) ops V d m pair x tight =
      let y : Lit = positive_of (q + u) in
      record {
        W = λ a. V a + holds a y;
        k = d + 0;
        sum = sum_as db (ops ++ (Axiom y ∷ [] ++ Add ∷ [])) (λ a. V a + holds a y) (λ a. V a + holds a y) (d + 0) (d + 0) (m + 1) (m + (1 * (3 * count) + 1)) 3 3
            (sum_more db under ops (Axiom y ∷ []) V (λ a. holds a y) d 0 m 1 2 x (sum_as db (Axiom y ∷ []) (λ a. holds a y) (λ a. holds a y) 0 0 1 1 1 2 (sum_literal db y pair) (λ a. refl) (omega arith) (omega arith)) (omega (arith, tight)))
            (λ a. refl) (omega arith) (omega arith);
        same = λ a. omega arith;
      }
  on_bridge (Some t) (Some u) ops V d m pair x tight =
      let b = along 1 t u (ltb t u) ops V d m refl pair.0 pair.1 x (omega (arith, tight)) in
      record {
        W = b.W;
        k = b.k;
        sum = sum_as db (ops ++ on_path order q (Some t) (Some u)) b.W b.W b.k b.k (m + 1 * (3 * count)) (m + (1 * (3 * count) + 1)) 3 3 b.sum (λ a. refl) (omega arith) (omega arith);
        same = b.same;
      }

-- ---- the line

pub has-le : (f : Option ℕ) → has f ≤ 1
has-le None = omega arith
has-le (Some f) = omega arith

-- two nodes that stand beside each other
module _ (P : ℕ → Type 0) (db : Database) (order q count : ℕ) (ordered : IsOrdered db order q count) (l : Lit) (p k forward reverse : ℕ) (n m : Node) (low : p + suc k < q) where
  abbrev under : Assignment
  under = all_but (p + suc k)

  abbrev F : Constraint
  F = forward_of (child_reification l q (p + k) n)

  abbrev R : Constraint
  R = reverse_of (child_reification l q (p + suc k) m)

  abbrev half : Constraint
  half = record { terms = weighing (child_least n.off) (missed_of (p + k)) ∷ weighing (1 + has m.on) (positive_of (p + suc k)) ∷ []; degree = 1 }

  off-under : (f : Option ℕ) → off_hold under q f ≡ 1
  off-under None = refl
  off-under (Some f) = but-other (p + suc k) (q + f) (λ e. omega (arith, low, e))

  on-under : (t : Option ℕ) → on_hold under q t ≡ has t
  on-under None = refl
  on-under (Some t) = but-other (p + suc k) (q + t) (λ e. omega (arith, low, e))

  F-value : (a : Assignment) → value a F.terms ≡ child_least n.off * holds a (missed_of (p + k)) + value a (child_terms l q n.off n.on)
  F-value a = omega (arith, value-cons a (weighing (child_least n.off) (missed_of (p + k))) (child_terms l q n.off n.on), term-holds a (child_least n.off) (missed_of (p + k)))

  spare-is : spare (child_reification l q (p + suc k) m) ≡ 1 + has m.on
  spare-is = omega (arith, child-weight l q m.off m.on, least-is m.off)

  R-value : (a : Assignment) → value a R.terms + value a (child_terms l q m.off m.on) ≡ (1 + has m.on) * holds a (positive_of (p + suc k)) + (2 * has m.off + 1 + has m.on)
  R-value a =
      let r : Reification = child_reification l q (p + suc k) m in
      let y : Lit = positive_of (p + suc k) in
      omega (
        arith,
        value-cons a (weighing (spare r) y) (map opposite r.sum),
        term-holds a (spare r) y,
        ap (λ (s : ℕ). s * holds a y) spare-is,
        value-opposite a (child_terms l q m.off m.on),
        child-weight l q m.off m.on,
      )

  pub order_adds : Knows db forward F → Knows db reverse R → IsOffPair db order q count ordered under n.off m.off → IsOnPair db order q count ordered under n.on m.on → P (p + k) → P (p + suc k) → count < 2 ^ 32
      → Adds P db (Pol (order_ops order q forward reverse n m)) (order_of p k)
  order_adds hf hr off on here next few =
      let wF : ℕ = weight F.terms + F.degree in
      let wR : ℕ = weight R.terms + R.degree in
      let VF : Assignment → ℕ = λ a. value a F.terms in
      let VR : Assignment → ℕ = λ a. value a R.terms in
      let miss : holds under (missed_of (p + k)) ≡ 0 = omega (arith, holds-negated under (positive_of (p + k)), but-other (p + suc k) (p + k) (λ e. omega (arith, e))) in
      let none : child_least n.off * holds under (missed_of (p + k)) ≡ 0 = ap (λ (h : ℕ). child_least n.off * h) miss ∙ (omega arith) in
      let itself : (1 + has m.on) * holds under (positive_of (p + suc k)) ≡ 0 = ap (λ (h : ℕ). (1 + has m.on) * h) (but-itself (p + suc k)) ∙ (omega arith) in
      let fv = child-value under l q n.off n.on in
      let rv = child-value under l q m.off m.on in
      let off_n = off-under n.off in
      let off_m = off-under m.off in
      let on_n = on-under n.on in
      let on_m = on-under m.on in
      let hn = has-le n.on in
      let ln = least-is n.off in
      let first : IsSumBy db (Push forward ∷ [] ++ (Push reverse ∷ [] ++ Add ∷ [])) (λ a. VF a + VR a) (F.degree + R.degree) (wF + wR) 3 =
      sum_more db under (Push forward ∷ []) (Push reverse ∷ []) VF VR F.degree R.degree wF wR 2
      (sum_as db (Push forward ∷ []) VF VF F.degree F.degree wF wF 1 3 (sum_known db forward F hf) (λ a. refl) (omega arith) (omega arith))
      (sum_as db (Push reverse ∷ []) VR VR R.degree R.degree wR wR 1 2 (sum_known db reverse R hr) (λ a. refl) (omega arith) (omega arith))
      (omega (arith, F-value under, R-value under, none, itself, fv, rv, off_n, off_m, on_n, on_m, hn, ln, spare-is)) in
      let b = off_bridge db order q count ordered under n.off m.off (Push forward ∷ Push reverse ∷ Add ∷ []) (λ a. VF a + VR a) (F.degree + R.degree) (wF + wR) off first
      (omega (arith, F-value under, R-value under, none, itself, fv, rv, off_n, off_m, on_n, on_m, hn, ln, spare-is)) in
      let ops : List PolOp = (Push forward ∷ Push reverse ∷ Add ∷ []) ++ off_path order q n.off m.off in
      let c = on_bridge db order q count ordered under n.on m.on ops b.W b.k (wF + wR + (2 * (3 * count) + 2)) on b.sum
      (omega (arith, b.same under, F-value under, R-value under, none, itself, fv, rv, off_n, off_m, on_n, on_m, hn, ln, spare-is)) in
      let all : List PolOp = ops ++ on_path order q n.on m.on in
      let size : ℕ = wF + wR + (2 * (3 * count) + 2) + (1 * (3 * count) + 1) in
      let last : IsSumBy db (all ++ Div (pos 3) ∷ []) (λ a. value a (division 3 half).terms) 1 size 3 =
      sum_over db 3 half all c.W c.k size 3 (omega arith) c.sum
      (apart_two (weighing (child_least n.off) (missed_of (p + k))) (weighing (1 + has m.on) (positive_of (p + suc k))) (λ e. omega (arith, e)))
      (positive_two (weighing (child_least n.off) (missed_of (p + k))) (weighing (1 + has m.on) (positive_of (p + suc k))) (omega (arith, ln)) (omega arith))
      (λ a. omega (arith, value-two a (child_least n.off) (missed_of (p + k)) (1 + has m.on) (positive_of (p + suc k)), c.same a, b.same a, F-value a, R-value a, child-value a l q n.off n.on, child-value a l q m.off m.on, ln, spare-is)) in
      let same : all ++ Div (pos 3) ∷ [] ≡ order_ops order q forward reverse n m =
      append_assoc ops (on_path order q n.on m.on) (Div (pos 3) ∷ []) ∙ append_assoc (Push forward ∷ Push reverse ∷ Add ∷ []) (off_path order q n.off m.off) (on_path order q n.on m.on ++ Div (pos 3) ∷ []) in
      subst (λ (os : List PolOp). Adds P db (Pol os) (order_of p k)) same
      (sum_adds db P (order_of p k) (all ++ Div (pos 3) ∷ []) (λ a. value a (division 3 half).terms) 1 size 3 last (omega arith)
      (omega (arith, few, weight-cons (weighing (child_least n.off) (missed_of (p + k))) (child_terms l q n.off n.on), child-weight l q n.off n.on, ln, hn, has-le n.off, has-le m.off, has-le m.on, weight-cons (weighing (spare (child_reification l q (p + suc k) m)) (positive_of (p + suc k))) (map opposite (child_terms l q m.off m.on)), weight-opposite (child_terms l q m.off m.on), child-weight l q m.off m.on, spare-is))
      (record {
        apart = apart_two (weighing 1 (missed_of (p + k))) (weighing 1 (positive_of (p + suc k))) (λ e. omega (arith, e));
        positive = positive_two (weighing 1 (missed_of (p + k))) (weighing 1 (positive_of (p + suc k))) (omega arith) (omega arith);
        named = All-cons (λ (t : Weighted). P t.lit.var) (weighing 1 (missed_of (p + k))) (weighing 1 (positive_of (p + suc k)) ∷ []) here (All-cons (λ (t : Weighted). P t.lit.var) (weighing 1 (positive_of (p + suc k))) [] next (All-nil (λ (t : Weighted). P t.lit.var)));
      })
      (λ a. omega (
        arith,
        value-two a 1 (missed_of (p + k)) 1 (positive_of (p + suc k)),
        value-two a (quotient_up 3 (child_least n.off)) (missed_of (p + k)) (quotient_up 3 (1 + has m.on)) (positive_of (p + suc k)),
        ap (λ (c : ℕ). c * holds a (missed_of (p + k))) (third-least n.off),
        ap (λ (c : ℕ). c * holds a (positive_of (p + suc k))) (third-spare m.on),
      )))
