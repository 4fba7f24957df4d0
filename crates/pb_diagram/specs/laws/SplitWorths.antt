-- What a split line leaves: the goal, since it holds where the level's literal is false and where it is true.
use Rattle.std.proofs.Common.{◌≡◌, ◌≢◌, ◌≤◌, ◌<◌, ◌+◌, ◌*◌, ◌-◌, ℕ, suc, List, [], ◌∷◌, ◌++◌, length, refl, ap, sym, ◌∙◌, append_assoc, arith, pos}
use Rattle.std.specs.Prelude.{max, min}
use Rattle.std.proofs.Math.Nat.{mul-add}
use Rattle.pb_base.specs.declared.literal.Lit.{Lit}
use Rattle.pb_base.specs.Literals.{Assignment, negated}
use Rattle.pb_norm.specs.Reduction.{quotient_up}
use Rattle.pb_norm.proofs.Opened.{quotient_up-least}
use Rattle.pb_derive.proofs.FormOperations.{quotient-positive}
use Rattle.pb_family.specs.Fresh.{positive_of}
use Rattle.pb_norm.specs.Constraints.{Constraint, value}
use Rattle.pb_steps.specs.declared.op.PolOp.{PolOp}
use Rattle.pb_steps.specs.declared.op.PolOp.TheVariants.{Axiom, Add, Div}
use Rattle.pb_steps.specs.Database.{Database}
use Rattle.pb_steps.specs.Operations.{division}
use Rattle.pb_diagram.specs.declared.node.Node.{Node}
use Rattle.pb_diagram.specs.Guards.{weighing, off_of, on_of, reach_by, off_sums, on_sums, place_sums}
use Rattle.pb_diagram.specs.laws.LevelWorths.{off_worth, climbed, AreChildren, IsTight, IsPlaceOf, AreNodesKnown, off_all, gap, gap-le, gap-end, place_worth, place_degree, place-balance, place_all, on_worth, on_degree, on_size, IsOnChild, on_all}
use Rattle.pb_diagram.specs.laws.NodeWorths.{IsOrdered, off_miss}
use Rattle.pb_diagram.specs.laws.FewTerms.{value-two, apart_two, positive_two}
use Rattle.pb_diagram.specs.laws.StepSums.{at_child, step_sum, AreUp, AreSteps, AreAbove, rise_total, steps_and_places}
use Rattle.pb_diagram.specs.laws.WorthSums.{holds, holds-negated, IsSumBy, sum_literal, sum_more, sum_as, sum_ops, sum_over}

pub one-quotient : (n k : ℕ) → 0 < k → k ≤ n → quotient_up n k ≡ 1
one-quotient n k some le = omega (arith, quotient-positive n k (omega (arith, some, le)) some, quotient_up-least n k 1 (omega (arith, some, le)) (let e : k ≤ n * 1 = omega (arith, le) in e))

-- what the true nodes rise
abbrev pub true_rise : Assignment → ℕ → ℕ → List Node → ℕ
true_rise a p low [] = 0
true_rise a p low (n ∷ ns) = (n.top - low) * holds a (positive_of p) + true_rise a (p + 1) n.top ns

plus-times : (i j k : ℕ) → (i * 1 + j) * k ≡ i * k + j * k
plus-times i j k = grind arith

-- the nodes where the literal is false: the true ones, the children that are false, and the literal
pub off-balance : (a : Assignment) (l : Lit) (h : ℕ → ℕ) (q p low : ℕ) (ns : List Node) → AreUp low ns → AreChildren (λ n. off_miss a q n.off ≡ at_child h n.off) ns
    → off_worth a l q p low ns ≡ true_rise a p low ns + step_sum h off_of low ns + climbed low ns * holds a l
off-balance a l h q p low [] up same = omega arith
off-balance a l h q p low (n ∷ ns) up same =
    let c : ℕ = n.top - low in
    let x : ℕ = holds a (positive_of p) in
    let f : ℕ = off_miss a q n.off in
    let o : ℕ = holds a l in
    let base : max low n.top ≡ n.top = omega (arith, up.0) in
    omega (
      arith,
      mul-add c (x + f) o,
      mul-add c x f,
      ap (λ (k : ℕ). c * k) same.0,
      plus-times c (climbed n.top ns) o,
      ap (λ (k : ℕ). step_sum h off_of k ns) base,
      off-balance a l h q (p + 1) n.top ns up.1 same.1,
    )

two-times : (i j m k : ℕ) → i + j ≡ m → i * k + j * k ≡ m * k
two-times i j m k e = grind (arith, e)

-- the nodes where the literal is true: the true ones, and the children that are false
pub on-balance : (a : Assignment) (h : ℕ → ℕ) (own p low : ℕ) (ns : List Node) → AreUp low ns → on_worth a h own p low ns ≡ true_rise a p low ns + step_sum h on_of (max own low) ns
on-balance a h own p low [] up = refl
on-balance a h own p low (n ∷ ns) up =
    let c : ℕ = min n.top own - low in
    let k : ℕ = n.top - max own low in
    let x : ℕ = holds a (positive_of p) in
    let base : max (max own low) n.top ≡ max own n.top = omega (arith, up.0) in
    let parts : c + k ≡ n.top - low = omega (arith, up.0) in
    omega (
      arith,
      mul-add k x (at_child h n.on),
      two-times c k (n.top - low) x parts,
      ap (λ (o : ℕ). step_sum h on_of o ns) base,
      on-balance a h own (p + 1) n.top ns up.1,
    )

pub on-degrees : (own low : ℕ) (ns : List Node) → AreUp low ns → on_degree own low ns + max own low ≡ max own (low + climbed low ns)
on-degrees own low [] up = omega arith
on-degrees own low (n ∷ ns) up = omega (arith, up.0, on-degrees own n.top ns up.1)

-- ---- where the literal is false

-- at least one of two literals
abbrev pub either_of : Lit → Lit → Constraint
either_of g k = record { terms = weighing 1 g ∷ weighing 1 k ∷ []; degree = 1 }

one-more : (i k : ℕ) → (i + 1) * k ≡ i * k + k
one-more i k = grind arith

both-times : (i j k : ℕ) → j ≤ i → (i + 1 - j) * k + j * k ≡ i * k + k
both-times i j k le = two-times (i + 1 - j) j (i + 1) k (omega (arith, le)) ∙ one-more i k

module _ (db : Database) (l : Lit) (order q count p counts own : ℕ) (ordered : IsOrdered db order q count) (fits : q + count ≤ db.vars + 1) (ns next : List Node) (size : length next ≡ count)
    (up : AreUp 0 ns) (rises : AreUp 0 next) (low : l.var < p) (high : p + length ns ≤ q) (known_lit : l.var ≤ db.vars) (enough : own ≤ climbed 0 ns) where
  -- What is said where the goal does not hold: the literal and the next level's false nodes weigh less than this level's.
  pub record IsGoal (ops : List PolOp) (g : Lit) (w e d : ℕ) (V : Assignment → ℕ) (bytes : ℕ) : Type 0 where
    pub sum : IsSumBy db ops V d bytes 3
    pub other : g.var ≢ l.var
    pub some : 0 < w
    pub positive : 0 < e
    pub is : (a : Assignment) → V a + own * holds a l + rise_total (gap a q count) 0 0 next + true_rise a p 0 ns + e ≡ w * holds a g + d + climbed 0 ns

  module _ (ops : List PolOp) (g : Lit) (w e d : ℕ) (V : Assignment → ℕ) (bytes widest : ℕ) (goal : IsGoal ops g w e d V bytes) (wide : w ≤ widest) (wider : climbed 0 ns + 1 ≤ widest) (below : e ≤ widest) where
    abbrev left : Constraint
    left = record { terms = weighing w g ∷ weighing (climbed 0 ns + 1 - own) l ∷ []; degree = e }

    abbrev off_V : Assignment → ℕ
    off_V a = V a + off_worth a l q p 0 ns + place_worth (reach_by off_of ns) (gap a q count) 0 next + holds a l

    abbrev off_d : ℕ
    off_d = d + climbed 0 ns + place_degree (reach_by off_of ns) 0 next + 0

    off-same : ((a : Assignment) → AreChildren (λ n. off_miss a q n.off ≡ at_child (gap a q count) n.off) ns) → ((a : Assignment) → AreSteps (gap a q count) off_of (length next) 0 ns) → AreAbove (reach_by off_of ns) 0 next → (a : Assignment) → value a left.terms + off_d ≡ e + off_V a
    off-same children steps above a =
        let h : ℕ → ℕ = gap a q count in
        omega (
          arith,
          value-two a w g (climbed 0 ns + 1 - own) l,
          both-times (climbed 0 ns) own (holds a l) enough,
          off-balance a l h q p 0 ns up (children a),
          place-balance (reach_by off_of ns) h 0 next (gap-le db order q count ordered fits a),
          steps_and_places h (reach_by off_of ns) off_of 0 ns next (steps a) rises (λ j. omega arith) above (gap-end db order q count ordered fits a (length next) size),
          goal.is a,
        )

    pub off_split : ((a : Assignment) → AreChildren (λ n. off_miss a q n.off ≡ at_child (gap a q count) n.off) ns) → ((a : Assignment) → AreSteps (gap a q count) off_of (length next) 0 ns) → AreAbove (reach_by off_of ns) 0 next
        → AreNodesKnown db l q p counts ns → AreChildren (λ n. IsPlaceOf db.vars q n.on) ns
        → (under : Assignment) → IsTight under l q p 0 (V under) d ns → holds under g ≡ 0 → holds under l ≡ 0 → ((i : ℕ) → i < count → 1 ≤ gap under q count i + (1 - gap under q count (suc i)))
        → IsSumBy db (ops ++ (off_sums q counts 0 ns ++ (place_sums (reach_by off_of ns) order q (count - 1) 0 next ++ (Axiom l ∷ Add ∷ Div (pos widest) ∷ []))))
        (λ a. holds a g + holds a l) 1 (bytes + 9 * climbed 0 ns + 3 * place_degree (reach_by off_of ns) 0 next + 1) 3
    off_split children steps above known places under tight g_false l_false each =
        let reaches : ℕ → ℕ = reach_by off_of ns in
        let same = off-same children steps above in
        let fits_q : q ≤ db.vars + 1 = omega (arith, fits) in
        let A : List PolOp = ops ++ off_sums q counts 0 ns in
        let B : List PolOp = A ++ place_sums reaches order q (count - 1) 0 next in
        let V1 : Assignment → ℕ = λ a. V a + off_worth a l q p 0 ns in
        let V2 : Assignment → ℕ = λ a. V1 a + place_worth reaches (gap a q count) 0 next in
        let d1 : ℕ = d + climbed 0 ns in
        let d2 : ℕ = d1 + place_degree reaches 0 next in
        let m1 : ℕ = bytes + 9 * climbed 0 ns in
        let m2 : ℕ = m1 + 3 * place_degree reaches 0 next in
        let whole : V2 under + holds under l + e ≡ d2 = omega (arith, same under, value-two under w g (climbed 0 ns + 1 - own) l, ap (λ (k : ℕ). w * k) g_false, ap (λ (k : ℕ). (climbed 0 ns + 1 - own) * k) l_false) in
        let nodes = off_all db l q fits_q under ops V d bytes p 0 counts ns low high known places tight goal.sum in
        let all = place_all db order q count ordered fits under reaches 0 A V1 d1 m1 0 next (omega (arith, size)) (omega (arith, whole)) each nodes in
        let more : IsSumBy db (B ++ (Axiom l ∷ [] ++ Add ∷ [])) (λ a. V2 a + holds a l) (d2 + 0) (m2 + 1) 3 =
        sum_more db under B (Axiom l ∷ []) V2 (λ a. holds a l) d2 0 m2 1 2 all (sum_as db (Axiom l ∷ []) (λ a. holds a l) (λ a. holds a l) 0 0 1 1 1 2 (sum_literal db l known_lit) (λ a. refl) (omega arith) (omega arith)) (omega (arith, whole)) in
        let C : List PolOp = B ++ (Axiom l ∷ [] ++ Add ∷ []) in
        let over : IsSumBy db (C ++ Div (pos widest) ∷ []) (λ a. value a (division widest left).terms) (quotient_up widest e) (m2 + 1) 3 =
        sum_over db widest left C (λ a. V2 a + holds a l) (d2 + 0) (m2 + 1) 3 (omega (arith, wide, wider)) more (apart_two (weighing w g) (weighing (climbed 0 ns + 1 - own) l) goal.other)
        (positive_two (weighing w g) (weighing (climbed 0 ns + 1 - own) l) goal.some (omega (arith, enough))) same in
        let ops_are : C ++ Div (pos widest) ∷ [] ≡ ops ++ (off_sums q counts 0 ns ++ (place_sums reaches order q (count - 1) 0 next ++ (Axiom l ∷ Add ∷ Div (pos widest) ∷ []))) =
        append_assoc B (Axiom l ∷ Add ∷ []) (Div (pos widest) ∷ [])
        ∙ append_assoc A (place_sums reaches order q (count - 1) 0 next) (Axiom l ∷ Add ∷ Div (pos widest) ∷ [])
        ∙ append_assoc ops (off_sums q counts 0 ns) (place_sums reaches order q (count - 1) 0 next ++ (Axiom l ∷ Add ∷ Div (pos widest) ∷ [])) in
        sum_ops db (C ++ Div (pos widest) ∷ []) (ops ++ (off_sums q counts 0 ns ++ (place_sums reaches order q (count - 1) 0 next ++ (Axiom l ∷ Add ∷ Div (pos widest) ∷ [])))) (λ a. holds a g + holds a l) 1 (m2 + 1) 3 ops_are
        (sum_as db (C ++ Div (pos widest) ∷ []) (λ a. value a (division widest left).terms) (λ a. holds a g + holds a l) (quotient_up widest e) 1 (m2 + 1) (m2 + 1) 3 3 over
        (λ a. omega (
          arith,
          value-two a (quotient_up widest w) g (quotient_up widest (climbed 0 ns + 1 - own)) l,
          ap (λ (k : ℕ). k * holds a g) (one-quotient widest w goal.some (omega (arith, wide, wider))),
          ap (λ (k : ℕ). k * holds a l) (one-quotient widest (climbed 0 ns + 1 - own) (omega (arith, enough)) (omega (arith, wide, wider))),
          one-quotient widest e goal.positive below,
        )) (omega arith) (omega arith))

  -- ---- where the literal is true

  module _ (ops : List PolOp) (g : Lit) (w e d : ℕ) (V : Assignment → ℕ) (bytes widest : ℕ) (goal : IsGoal ops g w e d V bytes) (wide : w ≤ widest) (wider : climbed 0 ns + 1 ≤ widest) (below : e ≤ widest) (counted : 0 < own) where
    abbrev on_reach : ℕ → ℕ
    on_reach j = reach_by on_of ns j - own

    abbrev right : Constraint
    right = record { terms = weighing w g ∷ weighing own (negated l) ∷ []; degree = e }

    abbrev one_size : ℕ
    one_size = 10 + 6 * count

    on-same : ((a : Assignment) → AreSteps (gap a q count) on_of (length next) own ns) → AreAbove on_reach 0 next → (a : Assignment)
        → value a right.terms + (d + on_degree own 0 ns + place_degree on_reach 0 next) ≡ e + (V a + on_worth a (gap a q count) own p 0 ns + place_worth on_reach (gap a q count) 0 next)
    on-same steps above a =
        let h : ℕ → ℕ = gap a q count in
        let base : max own 0 ≡ own = omega arith in
        let opposite_sum : own * holds a (negated l) + own * holds a l ≡ own = sym (mul-add own (holds a (negated l)) (holds a l)) ∙ (ap (λ (k : ℕ). own * k) (holds-negated a l) ∙ (omega arith)) in
        omega (
          arith,
          value-two a w g own (negated l),
          opposite_sum,
          on-balance a h own p 0 ns up,
          ap (λ (k : ℕ). step_sum h on_of k ns) base,
          on-degrees own 0 ns up,
          enough,
          place-balance on_reach h 0 next (gap-le db order q count ordered fits a),
          steps_and_places h on_reach on_of own ns next (steps a) rises (λ j. refl) above (gap-end db order q count ordered fits a (length next) size),
          goal.is a,
        )

    pub on_split : ((a : Assignment) → AreSteps (gap a q count) on_of (length next) own ns) → AreAbove on_reach 0 next → AreNodesKnown db l q p counts ns → AreChildren (λ n. IsOnChild count own n.top n.off n.on) ns
        → (under : Assignment) → ((v : ℕ) → p ≤ v → v < q → holds under (positive_of v) ≡ 0) → ((i : ℕ) → i < count → gap under q count i ≡ 1) → V under ≤ d → holds under g ≡ 0 → holds under (negated l) ≡ 0
        → IsSumBy db (ops ++ (on_sums l order own p counts 0 ns ++ (place_sums on_reach order q (count - 1) 0 next ++ Div (pos widest) ∷ []))) (λ a. holds a g + holds a (negated l)) 1 (bytes + on_size one_size own 0 ns + 3 * place_degree on_reach 0 next) 4
    on_split steps above known children under nodes_false places_false tight g_false l_true =
        let A : List PolOp = ops ++ on_sums l order own p counts 0 ns in
        let B : List PolOp = A ++ place_sums on_reach order q (count - 1) 0 next in
        let V1 : Assignment → ℕ = λ a. V a + on_worth a (gap a q count) own p 0 ns in
        let V2 : Assignment → ℕ = λ a. V1 a + place_worth on_reach (gap a q count) 0 next in
        let d1 : ℕ = d + on_degree own 0 ns in
        let d2 : ℕ = d1 + place_degree on_reach 0 next in
        let m1 : ℕ = bytes + on_size one_size own 0 ns in
        let m2 : ℕ = m1 + 3 * place_degree on_reach 0 next in
        let whole : V2 under + e ≡ d2 = omega (arith, on-same steps above under, value-two under w g own (negated l), ap (λ (k : ℕ). w * k) g_false, ap (λ (k : ℕ). own * k) l_true) in
        let start : IsSumBy db ops V d bytes 4 = sum_as db ops V V d d bytes bytes 3 4 goal.sum (λ a. refl) (omega arith) (omega arith) in
        let nodes = on_all db l order q count own ordered fits under places_false ops V d bytes p 0 counts ns low high known_lit nodes_false children known tight start in
        let all = place_all db order q count ordered fits under on_reach 1 A V1 d1 m1 0 next (omega (arith, size)) (omega (arith, whole)) (λ i within. omega (arith, places_false i within)) nodes in
        let over : IsSumBy db (B ++ Div (pos widest) ∷ []) (λ a. value a (division widest right).terms) (quotient_up widest e) m2 4 =
        sum_over db widest right B V2 d2 m2 4 (omega (arith, wide, wider)) all (apart_two (weighing w g) (weighing own (negated l)) goal.other) (positive_two (weighing w g) (weighing own (negated l)) goal.some counted) (on-same steps above) in
        let ops_are : B ++ Div (pos widest) ∷ [] ≡ ops ++ (on_sums l order own p counts 0 ns ++ (place_sums on_reach order q (count - 1) 0 next ++ Div (pos widest) ∷ [])) =
        append_assoc A (place_sums on_reach order q (count - 1) 0 next) (Div (pos widest) ∷ []) ∙ append_assoc ops (on_sums l order own p counts 0 ns) (place_sums on_reach order q (count - 1) 0 next ++ Div (pos widest) ∷ []) in
        sum_ops db (B ++ Div (pos widest) ∷ []) (ops ++ (on_sums l order own p counts 0 ns ++ (place_sums on_reach order q (count - 1) 0 next ++ Div (pos widest) ∷ []))) (λ a. holds a g + holds a (negated l)) 1 m2 4 ops_are
        (sum_as db (B ++ Div (pos widest) ∷ []) (λ a. value a (division widest right).terms) (λ a. holds a g + holds a (negated l)) (quotient_up widest e) 1 m2 m2 4 4 over
        (λ a. omega (
          arith,
          value-two a (quotient_up widest w) g (quotient_up widest own) (negated l),
          ap (λ (k : ℕ). k * holds a g) (one-quotient widest w goal.some (omega (arith, wide, wider))),
          ap (λ (k : ℕ). k * holds a (negated l)) (one-quotient widest own counted (omega (arith, wide, wider, enough))),
          one-quotient widest e goal.positive below,
        )) (omega arith) (omega arith))
