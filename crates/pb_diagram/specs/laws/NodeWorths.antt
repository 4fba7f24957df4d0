-- What a node's second constraint gives: where its literal is false, the node is true if its false child is; where it is true, if its true child is.
use Rattle.std.proofs.Common.{◌≡◌, ◌≢◌, ◌≤◌, ◌<◌, ◌+◌, ◌*◌, ℕ, zero, suc, Bool, true, false, not, cond, List, [], ◌∷◌, ◌++◌, refl, ap, sym, subst, append-nil, append_assoc, arith, pos, eqb, ltb, ◌-◌}
use Rattle.std.specs.List.{range_with_len}
use Rattle.std.specs.Prelude.{flat_map}
use Rattle.std.proofs.lemmas.Bool.{eq-eqb, ne_eqb, eqb-true, ltb-true, ltb-false, both_ways}
use Rattle.pb_derive.specs.Justifications.{adding, push_and_add}
use Rattle.std.specs.Prelude.{Option, None, Some}
use Rattle.pb_base.specs.declared.literal.Lit.{Lit}
use Rattle.pb_base.specs.Literals.{Assignment, negated}
use Rattle.pb_norm.specs.Constraints.{Weighted, Constraint, value}
use Rattle.pb_steps.specs.declared.op.PolOp.{PolOp}
use Rattle.pb_steps.specs.declared.op.PolOp.TheVariants.{Push, Axiom, Add, Div}
use Rattle.pb_steps.specs.Database.{Database}
use Rattle.pb_steps.specs.Operations.{division}
use Rattle.pb_derive.specs.Later.{Knows}
use Rattle.pb_derive.specs.Reifications.{reverse_of}
use Rattle.pb_family.specs.Fresh.{positive_of}
use Rattle.pb_diagram.specs.Guards.{weighing, missed_of, child_terms, child_least, spare_on, path, plus_times, between}
use Rattle.pb_diagram.specs.laws.WorthSums.{holds, holds-negated, IsSumBy, sum_known, sum_literal, sum_more, sum_ops, sum_as, sum_over, sum_plus}
use Rattle.pb_diagram.specs.laws.FewTerms.{value-two, value-three, value-four, apart_two, apart_three, positive_two, positive_three}

-- 1 where there is a false child and it is false
abbrev pub off_miss : Assignment → ℕ → Option ℕ → ℕ
off_miss a q None = 0
off_miss a q (Some f) = holds a (missed_of (q + f))

-- the order of a level's nodes, whose variables start at a number: where the one at a place is true, so is the next
abbrev pub order_of : ℕ → ℕ → Constraint
order_of q j = record { terms = weighing 1 (missed_of (q + j)) ∷ weighing 1 (positive_of (q + suc j)) ∷ []; degree = 1 }

-- so many places of an order are known
abbrev pub IsOrdered : Database → ℕ → ℕ → ℕ → Type 0
IsOrdered db order q count = (j id : ℕ) → id ≡ order + j → suc j < count → Knows db id (order_of q j)

abbrev pub all_true : Assignment
all_true v = true

-- all variables but one are true
abbrev pub all_but : ℕ → Assignment
all_but var v = not (eqb v var)

pub but-itself : (var : ℕ) → holds (all_but var) (positive_of var) ≡ 0
but-itself var = ap (λ (b : Bool). cond (not b) 1 0) (eq-eqb var var refl)

pub but-other : (var v : ℕ) → v ≢ var → holds (all_but var) (positive_of v) ≡ 1
but-other var v other = ap (λ (b : Bool). cond (not b) 1 0) (ne_eqb v var other)

-- ---- from a place to a later one

module _ (db : Database) (order q count : ℕ) (ordered : IsOrdered db order q count) where
  path_from : (ops : List PolOp) (i k o n m : ℕ) → o ≡ order + k → k + n < count → IsSumBy db ops (λ a. holds a (missed_of (q + i)) + holds a (positive_of (q + k))) 1 m 2
      → IsSumBy db (ops ++ flat_map push_and_add (range_with_len o n)) (λ a. holds a (missed_of (q + i)) + holds a (positive_of (q + (k + n)))) 1 (m + 3 * n) 2
  path_from ops i k o zero m at within x =
      let same : k ≡ k + 0 = omega arith in
      sum_ops db ops (ops ++ []) (λ a. holds a (missed_of (q + i)) + holds a (positive_of (q + (k + 0)))) 1 (m + 3 * 0) 2 (sym (append-nil ops))
      (sum_as db ops (λ a. holds a (missed_of (q + i)) + holds a (positive_of (q + k))) (λ a. holds a (missed_of (q + i)) + holds a (positive_of (q + (k + 0)))) 1 1 m (m + 3 * 0) 2 2 x
      (λ a. ap (λ (v : ℕ). holds a (missed_of (q + i)) + holds a (positive_of (q + v)) + 1) same) (omega arith) (omega arith))
  path_from ops i k o (suc n) m at within x =
      let s : Constraint = order_of q k in
      let one : IsSumBy db (ops ++ (Push o ∷ [] ++ Add ∷ [])) (λ a. holds a (missed_of (q + i)) + holds a (positive_of (q + k)) + value a s.terms) (1 + 1) (m + 3) 2 =
      sum_more db all_true ops (Push o ∷ []) (λ a. holds a (missed_of (q + i)) + holds a (positive_of (q + k))) (λ a. value a s.terms) 1 1 m 3 1 x (sum_known db o s (ordered k o at (omega (arith, within))))
      (omega (arith, value-two all_true 1 (missed_of (q + k)) 1 (positive_of (q + suc k)))) in
      let next : IsSumBy db (ops ++ (Push o ∷ [] ++ Add ∷ [])) (λ a. holds a (missed_of (q + i)) + holds a (positive_of (q + suc k))) 1 (m + 3) 2 =
      sum_as db (ops ++ (Push o ∷ [] ++ Add ∷ [])) (λ a. holds a (missed_of (q + i)) + holds a (positive_of (q + k)) + value a s.terms) (λ a. holds a (missed_of (q + i)) + holds a (positive_of (q + suc k))) (1 + 1) 1 (m + 3) (m + 3) 2 2 one
      (λ a. omega (arith, value-two a 1 (missed_of (q + k)) 1 (positive_of (q + suc k)), holds-negated a (positive_of (q + k)))) (omega arith) (omega arith) in
      let rest = path_from (ops ++ (Push o ∷ [] ++ Add ∷ [])) i (suc k) (o + 1) n (m + 3) (omega (arith, at)) (omega (arith, within)) next in
      let same : suc k + n ≡ k + suc n = omega arith in
      sum_ops db ((ops ++ (Push o ∷ [] ++ Add ∷ [])) ++ flat_map push_and_add (range_with_len (o + 1) n)) (ops ++ flat_map push_and_add (range_with_len o (suc n))) (λ a. holds a (missed_of (q + i)) + holds a (positive_of (q + (k + suc n)))) 1 (m + 3 * suc n) 2
      (append_assoc ops (Push o ∷ Add ∷ []) (flat_map push_and_add (range_with_len (o + 1) n)))
      (sum_as db ((ops ++ (Push o ∷ [] ++ Add ∷ [])) ++ flat_map push_and_add (range_with_len (o + 1) n)) (λ a. holds a (missed_of (q + i)) + holds a (positive_of (q + (suc k + n)))) (λ a. holds a (missed_of (q + i)) + holds a (positive_of (q + (k + suc n)))) 1 1 (m + 3 + 3 * n) (m + 3 * suc n) 2 2 rest
      (λ a. ap (λ (v : ℕ). holds a (missed_of (q + i)) + holds a (positive_of (q + v)) + 1) same) (let e : m + 3 + 3 * n ≤ m + 3 * suc n = omega arith in e) (omega arith))

  pub path_sum : (i j : ℕ) → i < j → j < count → IsSumBy db (path order i j) (λ a. holds a (missed_of (q + i)) + holds a (positive_of (q + j))) 1 (3 * (j - i)) 2
  path_sum i j before within = by_length (j - i) (omega (arith, before))
    where
      by_length : (n : ℕ) → i + n ≡ j → IsSumBy db (adding (range_with_len (order + i) n)) (λ a. holds a (missed_of (q + i)) + holds a (positive_of (q + j))) 1 (3 * n) 2
      by_length zero e = absurd (omega (arith, before, e))
      by_length (suc n) e =
          let s : Constraint = order_of q i in
          let first : IsSumBy db (Push (order + i) ∷ []) (λ a. holds a (missed_of (q + i)) + holds a (positive_of (q + suc i))) 1 3 2 =
          sum_as db (Push (order + i) ∷ []) (λ a. value a s.terms) (λ a. holds a (missed_of (q + i)) + holds a (positive_of (q + suc i))) 1 1 3 3 1 2 (sum_known db (order + i) s (ordered i (order + i) refl (omega (arith, e, within))))
          (λ a. omega (arith, value-two a 1 (missed_of (q + i)) 1 (positive_of (q + suc i)))) (omega arith) (omega arith) in
          let rest = path_from (Push (order + i) ∷ []) i (suc i) (order + i + 1) n 3 (omega arith) (omega (arith, e, within)) first in
          let same : suc i + n ≡ j = omega (arith, e) in
          sum_as db (Push (order + i) ∷ [] ++ flat_map push_and_add (range_with_len (order + i + 1) n)) (λ a. holds a (missed_of (q + i)) + holds a (positive_of (q + (suc i + n)))) (λ a. holds a (missed_of (q + i)) + holds a (positive_of (q + j))) 1 1 (3 + 3 * n) (3 * suc n) 2 2 rest
          (λ a. ap (λ (v : ℕ). holds a (missed_of (q + i)) + holds a (positive_of (q + v)) + 1) same) (let k : 3 + 3 * n ≤ 3 * suc n = omega arith in k) (omega arith)

module _ (db : Database) (l : Lit) (q var id : ℕ) (low : l.var < var) (apart : var < q) (known : q ≤ db.vars + 1) where
  abbrev x : Lit
  x = positive_of var

  abbrev twice : Lit
  twice = negated (negated l)

  -- where the literal is false
  abbrev OffSum : Option ℕ → Option ℕ → Type 0
  OffSum f t = IsSumBy db (Push id ∷ spare_on q f t ++ Div (pos 3) ∷ []) (λ a. holds a x + off_miss a q f + holds a l) 1 9 2

  abbrev Reverse : Option ℕ → Option ℕ → Constraint
  Reverse f t = reverse_of (record { var = var; sum = child_terms l q f t; least = child_least f })

  off_ends : Knows db id (Reverse None None) → OffSum None None
  off_ends h =
      let u : Constraint = record { terms = weighing 1 x ∷ weighing 1 l ∷ []; degree = 1 } in
      sum_as db (Push id ∷ Div (pos 3) ∷ []) (λ a. value a (division 3 u).terms) (λ a. holds a x + 0 + holds a l) 1 1 3 9 1 2
      (sum_over db 3 u (Push id ∷ []) (λ a. value a (Reverse None None).terms) 1 3 1 (omega arith) (sum_known db id (Reverse None None) h)
      (apart_two (weighing 1 x) (weighing 1 l) (λ e. omega (arith, low, e))) (positive_two (weighing 1 x) (weighing 1 l) (omega arith) (omega arith))
      (λ a. omega (arith, value-two a 1 x 1 l, value-two a 1 x 1 twice, holds-negated a l, holds-negated a (negated l))))
      (λ a. omega (arith, value-two a 1 x 1 l)) (omega arith) (omega arith)

  off_end : (t : ℕ) → q + t ≤ db.vars → Knows db id (Reverse None (Some t)) → OffSum None (Some t)
  off_end t within h =
      let u : Constraint = record { terms = weighing 2 x ∷ weighing 1 l ∷ []; degree = 1 } in
      let y : Lit = positive_of (q + t) in
      let under : Assignment = all_but var in
      sum_as db (Push id ∷ Axiom y ∷ Add ∷ Div (pos 3) ∷ []) (λ a. value a (division 3 u).terms) (λ a. holds a x + 0 + holds a l) 1 1 7 9 2 2
      (sum_over db 3 u (Push id ∷ Axiom y ∷ Add ∷ []) (λ a. value a (Reverse None (Some t)).terms + holds a y) (2 + 0) 7 2 (omega arith)
      (sum_more db under (Push id ∷ []) (Axiom y ∷ []) (λ a. value a (Reverse None (Some t)).terms) (λ a. holds a y) 2 0 6 1 1
      (sum_as db (Push id ∷ []) (λ a. value a (Reverse None (Some t)).terms) (λ a. value a (Reverse None (Some t)).terms) 2 2 6 6 1 2 (sum_known db id (Reverse None (Some t)) h) (λ a. refl) (omega arith) (omega arith))
      (sum_literal db y within)
      (omega (arith, value-three under 2 x 1 twice 1 (negated y), but-itself var, holds-negated under y, holds-negated under (negated l))))
      (apart_two (weighing 2 x) (weighing 1 l) (λ e. omega (arith, low, e))) (positive_two (weighing 2 x) (weighing 1 l) (omega arith) (omega arith))
      (λ a. omega (arith, value-two a 2 x 1 l, value-three a 2 x 1 twice 1 (negated y), holds-negated a l, holds-negated a (negated l), holds-negated a y)))
      (λ a. omega (arith, value-two a 1 x 1 l)) (omega arith) (omega arith)

  off_alone : (f : ℕ) → Knows db id (Reverse (Some f) None) → OffSum (Some f) None
  off_alone f h =
      let z : Lit = missed_of (q + f) in
      let u : Constraint = record { terms = weighing 1 x ∷ weighing 2 z ∷ weighing 1 l ∷ []; degree = 1 } in
      sum_as db (Push id ∷ Div (pos 3) ∷ []) (λ a. value a (division 3 u).terms) (λ a. holds a x + holds a z + holds a l) 1 1 5 9 1 2
      (sum_over db 3 u (Push id ∷ []) (λ a. value a (Reverse (Some f) None).terms) 1 5 1 (omega arith) (sum_known db id (Reverse (Some f) None) h)
      (apart_three (weighing 1 x) (weighing 2 z) (weighing 1 l) (λ e. omega (arith, apart, e)) (λ e. omega (arith, low, e)) (λ e. omega (arith, low, apart, e)))
      (positive_three (weighing 1 x) (weighing 2 z) (weighing 1 l) (omega arith) (omega arith) (omega arith))
      (λ a. omega (arith, value-three a 1 x 2 z 1 l, value-three a 1 x 2 z 1 twice, holds-negated a l, holds-negated a (negated l))))
      (λ a. omega (arith, value-three a 1 x 1 z 1 l)) (omega arith) (omega arith)

  -- both children, which may be the same
  abbrev BothTerms : Bool → ℕ → ℕ → List Weighted
  BothTerms b f t = cond b (weighing 3 (positive_of (q + f)) ∷ weighing 1 (negated l) ∷ []) (weighing 2 (positive_of (q + f)) ∷ weighing 1 (negated l) ∷ weighing 1 (positive_of (q + t)) ∷ [])

  abbrev Both : Bool → ℕ → ℕ → Constraint
  Both b f t = reverse_of (record { var = var; sum = BothTerms b f t; least = 3 })

  off_both : (b : Bool) (f t : ℕ) → q + t ≤ db.vars → Knows db id (Both b f t)
      → IsSumBy db (Push id ∷ cond b [] (Axiom (positive_of (q + t)) ∷ Add ∷ []) ++ Div (pos 3) ∷ []) (λ a. holds a x + holds a (missed_of (q + f)) + holds a l) 1 9 2
  off_both true f t within h =
      let z : Lit = missed_of (q + f) in
      let u : Constraint = record { terms = weighing 2 x ∷ weighing 3 z ∷ weighing 1 l ∷ []; degree = 2 } in
      sum_as db (Push id ∷ Div (pos 3) ∷ []) (λ a. value a (division 3 u).terms) (λ a. holds a x + holds a z + holds a l) 1 1 8 9 1 2
      (sum_over db 3 u (Push id ∷ []) (λ a. value a (Both true f t).terms) 2 8 1 (omega arith) (sum_known db id (Both true f t) h)
      (apart_three (weighing 2 x) (weighing 3 z) (weighing 1 l) (λ e. omega (arith, apart, e)) (λ e. omega (arith, low, e)) (λ e. omega (arith, low, apart, e)))
      (positive_three (weighing 2 x) (weighing 3 z) (weighing 1 l) (omega arith) (omega arith) (omega arith))
      (λ a. omega (arith, value-three a 2 x 3 z 1 l, value-three a 2 x 3 z 1 twice, holds-negated a l, holds-negated a (negated l))))
      (λ a. omega (arith, value-three a 1 x 1 z 1 l)) (omega arith) (omega arith)
  off_both false f t within h =
      let z : Lit = missed_of (q + f) in
      let y : Lit = positive_of (q + t) in
      let u : Constraint = record { terms = weighing 2 x ∷ weighing 2 z ∷ weighing 1 l ∷ []; degree = 1 } in
      let under : Assignment = all_but var in
      sum_as db (Push id ∷ Axiom y ∷ Add ∷ Div (pos 3) ∷ []) (λ a. value a (division 3 u).terms) (λ a. holds a x + holds a z + holds a l) 1 1 9 9 2 2
      (sum_over db 3 u (Push id ∷ Axiom y ∷ Add ∷ []) (λ a. value a (Both false f t).terms + holds a y) (2 + 0) 9 2 (omega arith)
      (sum_more db under (Push id ∷ []) (Axiom y ∷ []) (λ a. value a (Both false f t).terms) (λ a. holds a y) 2 0 8 1 1
      (sum_as db (Push id ∷ []) (λ a. value a (Both false f t).terms) (λ a. value a (Both false f t).terms) 2 2 8 8 1 2 (sum_known db id (Both false f t) h) (λ a. refl) (omega arith) (omega arith))
      (sum_literal db y within)
      (omega (arith, value-four under 2 x 2 z 1 twice 1 (negated y), but-itself var, but-other var (q + f) (λ e. omega (arith, apart, e)), holds-negated under (positive_of (q + f)), holds-negated under y, holds-negated under (negated l))))
      (apart_three (weighing 2 x) (weighing 2 z) (weighing 1 l) (λ e. omega (arith, apart, e)) (λ e. omega (arith, low, e)) (λ e. omega (arith, low, apart, e)))
      (positive_three (weighing 2 x) (weighing 2 z) (weighing 1 l) (omega arith) (omega arith) (omega arith))
      (λ a. omega (arith, value-three a 2 x 2 z 1 l, value-four a 2 x 2 z 1 twice 1 (negated y), holds-negated a l, holds-negated a (negated l), holds-negated a y)))
      (λ a. omega (arith, value-three a 1 x 1 z 1 l)) (omega arith) (omega arith)

  abbrev IsPlace : Option ℕ → Type 0
  IsPlace None = Unit {0}
  IsPlace (Some t) = q + t ≤ db.vars

  pub off_sum : (f t : Option ℕ) → IsPlace t → Knows db id (Reverse f t) → OffSum f t
  off_sum None None within h = off_ends h
  off_sum None (Some t) within h = off_end t within h
  off_sum (Some f) None within h = off_alone f h
  off_sum (Some f) (Some t) within h = off_both (eqb f t) f t within h

  -- where the literal is true, and the true child is not behind the false one
  module _ (order count : ℕ) (ordered : IsOrdered db order q count) (own : l.var ≤ db.vars) where
    abbrev OnSum : List PolOp → ℕ → Type 0
    OnSum ops t = IsSumBy db ops (λ a. holds a x + holds a (missed_of (q + t))) 1 (10 + 6 * count) 3

    on_alone : (t : ℕ) → Knows db id (Reverse None (Some t)) → OnSum (Push id ∷ Axiom (negated l) ∷ Add ∷ Div (pos 3) ∷ []) t
    on_alone t h =
        let z : Lit = missed_of (q + t) in
        let u : Constraint = record { terms = weighing 2 x ∷ weighing 1 z ∷ []; degree = 1 } in
        let under : Assignment = all_but var in
        sum_as db (Push id ∷ Axiom (negated l) ∷ Add ∷ Div (pos 3) ∷ []) (λ a. value a (division 3 u).terms) (λ a. holds a x + holds a z) 1 1 7 (10 + 6 * count) 2 3
        (sum_over db 3 u (Push id ∷ Axiom (negated l) ∷ Add ∷ []) (λ a. value a (Reverse None (Some t)).terms + holds a (negated l)) (2 + 0) 7 2 (omega arith)
        (sum_more db under (Push id ∷ []) (Axiom (negated l) ∷ []) (λ a. value a (Reverse None (Some t)).terms) (λ a. holds a (negated l)) 2 0 6 1 1
        (sum_as db (Push id ∷ []) (λ a. value a (Reverse None (Some t)).terms) (λ a. value a (Reverse None (Some t)).terms) 2 2 6 6 1 2 (sum_known db id (Reverse None (Some t)) h) (λ a. refl) (omega arith) (omega arith))
        (sum_literal db (negated l) own)
        (omega (arith, value-three under 2 x 1 twice 1 z, but-itself var, but-other var (q + t) (λ e. omega (arith, apart, e)), holds-negated under (positive_of (q + t)), holds-negated under (negated l))))
        (apart_two (weighing 2 x) (weighing 1 z) (λ e. omega (arith, apart, e))) (positive_two (weighing 2 x) (weighing 1 z) (omega arith) (omega arith))
        (λ a. omega (arith, value-two a 2 x 1 z, value-three a 2 x 1 twice 1 z, holds-negated a (negated l))))
        (λ a. omega (arith, value-two a 1 x 1 z)) (omega arith) (omega arith)

    on_same : (f t : ℕ) → Knows db id (Both true f t) → OnSum (Push id ∷ Axiom (negated l) ∷ Add ∷ Div (pos 3) ∷ []) f
    on_same f t h =
        let z : Lit = missed_of (q + f) in
        let u : Constraint = record { terms = weighing 2 x ∷ weighing 3 z ∷ []; degree = 1 } in
        let under : Assignment = all_but var in
        sum_as db (Push id ∷ Axiom (negated l) ∷ Add ∷ Div (pos 3) ∷ []) (λ a. value a (division 3 u).terms) (λ a. holds a x + holds a z) 1 1 9 (10 + 6 * count) 2 3
        (sum_over db 3 u (Push id ∷ Axiom (negated l) ∷ Add ∷ []) (λ a. value a (Both true f t).terms + holds a (negated l)) (2 + 0) 9 2 (omega arith)
        (sum_more db under (Push id ∷ []) (Axiom (negated l) ∷ []) (λ a. value a (Both true f t).terms) (λ a. holds a (negated l)) 2 0 8 1 1
        (sum_as db (Push id ∷ []) (λ a. value a (Both true f t).terms) (λ a. value a (Both true f t).terms) 2 2 8 8 1 2 (sum_known db id (Both true f t) h) (λ a. refl) (omega arith) (omega arith))
        (sum_literal db (negated l) own)
        (omega (arith, value-three under 2 x 3 z 1 twice, but-itself var, but-other var (q + f) (λ e. omega (arith, apart, e)), holds-negated under (positive_of (q + f)), holds-negated under (negated l))))
        (apart_two (weighing 2 x) (weighing 3 z) (λ e. omega (arith, apart, e))) (positive_two (weighing 2 x) (weighing 3 z) (omega arith) (omega arith))
        (λ a. omega (arith, value-two a 2 x 3 z, value-three a 2 x 3 z 1 twice, holds-negated a (negated l))))
        (λ a. omega (arith, value-two a 1 x 1 z)) (omega arith) (omega arith)

    on_apart : (f t : ℕ) → t < f → f < count → Knows db id (Both false f t) → OnSum (Push id ∷ plus_times 2 (path order t f) ++ (Axiom (negated l) ∷ Add ∷ Div (pos 3) ∷ [])) t
    on_apart f t before within h =
        let z : Lit = missed_of (q + t) in
        let y : Lit = missed_of (q + f) in
        let u : Constraint = record { terms = weighing 2 x ∷ weighing 3 z ∷ []; degree = 1 } in
        let under : Assignment = all_but var in
        let c : Constraint = Both false f t in
        let ops : List PolOp = Push id ∷ plus_times 2 (path order t f) in
        let n : ℕ = f - t in
        let F = but-other var (q + f) (λ e. omega (arith, apart, e)) in
        let T = but-other var (q + t) (λ e. omega (arith, apart, e)) in
        let sum : IsSumBy db ops (λ a. value a c.terms + 2 * (holds a z + holds a (positive_of (q + f)))) (2 + 2 * 1) (8 + 2 * (3 * n)) 3 =
        sum_plus db under 2 (Push id ∷ []) (path order t f) (λ a. value a c.terms) (λ a. holds a z + holds a (positive_of (q + f))) 2 1 8 (3 * n) 2
        (sum_as db (Push id ∷ []) (λ a. value a c.terms) (λ a. value a c.terms) 2 2 8 8 1 3 (sum_known db id c h) (λ a. refl) (omega arith) (omega arith))
        (path_sum db order q count ordered t f before within)
        (omega (arith, value-four under 2 x 2 y 1 twice 1 z, but-itself var, F, T, holds-negated under (positive_of (q + f)), holds-negated under (positive_of (q + t)), holds-negated under (negated l))) in
        let more : IsSumBy db (ops ++ (Axiom (negated l) ∷ [] ++ Add ∷ [])) (λ a. value a c.terms + 2 * (holds a z + holds a (positive_of (q + f))) + holds a (negated l)) (2 + 2 * 1 + 0) (8 + 2 * (3 * n) + 1) 3 =
        sum_more db under ops (Axiom (negated l) ∷ []) (λ a. value a c.terms + 2 * (holds a z + holds a (positive_of (q + f)))) (λ a. holds a (negated l)) (2 + 2 * 1) 0 (8 + 2 * (3 * n)) 1 2 sum
        (sum_as db (Axiom (negated l) ∷ []) (λ a. holds a (negated l)) (λ a. holds a (negated l)) 0 0 1 1 1 2 (sum_literal db (negated l) own) (λ a. refl) (omega arith) (omega arith))
        (omega (arith, value-four under 2 x 2 y 1 twice 1 z, but-itself var, F, T, holds-negated under (positive_of (q + f)), holds-negated under (positive_of (q + t)), holds-negated under (negated l))) in
        let over : IsSumBy db ((ops ++ (Axiom (negated l) ∷ [] ++ Add ∷ [])) ++ Div (pos 3) ∷ []) (λ a. value a (division 3 u).terms) 1 (8 + 2 * (3 * n) + 1) 3 =
        sum_over db 3 u (ops ++ (Axiom (negated l) ∷ [] ++ Add ∷ [])) (λ a. value a c.terms + 2 * (holds a z + holds a (positive_of (q + f))) + holds a (negated l)) (2 + 2 * 1 + 0) (8 + 2 * (3 * n) + 1) 3 (omega arith) more
        (apart_two (weighing 2 x) (weighing 3 z) (λ e. omega (arith, apart, e))) (positive_two (weighing 2 x) (weighing 3 z) (omega arith) (omega arith))
        (λ a. omega (arith, value-two a 2 x 3 z, value-four a 2 x 2 y 1 twice 1 z, holds-negated a (positive_of (q + f)), holds-negated a (negated l))) in
        let few : n ≤ count = omega (arith, within) in
        sum_ops db ((ops ++ (Axiom (negated l) ∷ [] ++ Add ∷ [])) ++ Div (pos 3) ∷ []) (ops ++ (Axiom (negated l) ∷ Add ∷ Div (pos 3) ∷ [])) (λ a. holds a x + holds a z) 1 (10 + 6 * count) 3 (append_assoc ops (Axiom (negated l) ∷ Add ∷ []) (Div (pos 3) ∷ []))
        (sum_as db ((ops ++ (Axiom (negated l) ∷ [] ++ Add ∷ [])) ++ Div (pos 3) ∷ []) (λ a. value a (division 3 u).terms) (λ a. holds a x + holds a z) 1 1 (8 + 2 * (3 * n) + 1) (10 + 6 * count) 3 3 over
        (λ a. omega (arith, value-two a 1 x 1 z)) (omega (arith, few)) (omega arith))

    on_both : (b c : Bool) (f t : ℕ) → eqb f t ≡ b → ltb t f ≡ c → t ≤ f → f < count → Knows db id (Both b f t)
        → OnSum (Push id ∷ cond c (plus_times 2 (path order t f)) [] ++ (Axiom (negated l) ∷ Add ∷ Div (pos 3) ∷ [])) t
    on_both true true f t same before le within h = absurd (omega (arith, eqb-true f t same, ltb-true t f before))
    on_both true false f t same before le within h =
        let e : f ≡ t = eqb-true f t same in
        subst (λ (k : ℕ). OnSum (Push id ∷ Axiom (negated l) ∷ Add ∷ Div (pos 3) ∷ []) k) e (on_same f t h)
    on_both false true f t same before le within h = on_apart f t (ltb-true t f before) within h
    on_both false false f t same before le within h =
        let e : f ≡ t = omega (arith, le, ltb-false t f before) in
        absurd (both_ways (eqb f t) same (eq-eqb f t e))

    -- a node's children stand among the places of the next level, the true one not behind the false one
    abbrev pub IsPair : Option ℕ → ℕ → Type 0
    IsPair None t = Unit {0}
    IsPair (Some f) t = (t ≤ f) × (f < count)

    pub on_sum : (f : Option ℕ) (t : ℕ) → IsPair f t → Knows db id (Reverse f (Some t)) → OnSum (Push id ∷ between order f (Some t) ++ (Axiom (negated l) ∷ Add ∷ Div (pos 3) ∷ [])) t
    on_sum None t pair h = on_alone t h
    on_sum (Some f) t pair h = on_both (eqb f t) (ltb t f) f t refl refl pair.0 pair.1 h
