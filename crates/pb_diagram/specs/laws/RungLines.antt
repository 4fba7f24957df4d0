-- What the lines of a level leave: the guard is true, and the false nodes weigh no more than the literals from the level on.
use Rattle.std.proofs.Common.{◌≡◌, ◌≢◌, ◌≤◌, ◌<◌, ◌+◌, ◌*◌, ◌-◌, ◌^◌, ℕ, suc, false, List, [], ◌∷◌, ◌++◌, length, map, refl, ap, sym, ◌∙◌, subst, append_assoc, arith, pos}
use Rattle.std.proofs.lemmas.List.Elements.{All-nil, All-cons}
use Rattle.std.proofs.lemmas.List.Sums.{sum_by-append}
use Rattle.pb_base.specs.declared.literal.Lit.{Lit}
use Rattle.pb_base.specs.Literals.{Assignment, negated}
use Rattle.pb_norm.specs.Constraints.{Weighted, Constraint, value, weight, term_value}
use Rattle.pb_norm.specs.Reduction.{opposite}
use Rattle.pb_norm.proofs.AdditionSizes.{weight-cons}
use Rattle.pb_norm.proofs.AdditionValues.{value-cons}
use Rattle.pb_steps.specs.declared.op.PolOp.{PolOp}
use Rattle.pb_steps.specs.declared.op.PolOp.TheVariants.{Push, Add, Div}
use Rattle.pb_steps.specs.declared.step.Step.TheVariants.{Pol}
use Rattle.pb_steps.specs.Database.{Database}
use Rattle.pb_steps.specs.Operations.{division}
use Rattle.pb_derive.specs.Later.{Knows}
use Rattle.pb_derive.specs.Reifications.{spare, reverse_of}
use Rattle.pb_derive.proofs.Lines.{Adds}
use Rattle.pb_derive.proofs.Opposites.{value-opposite}
use Rattle.pb_family.specs.Fresh.{positive_of}
use Rattle.pb_diagram.specs.declared.node.Node.{Node}
use Rattle.pb_diagram.specs.Guards.{Rung, weighing, missed_of, rises, guard, last_top, own_of}
use Rattle.pb_diagram.specs.laws.LevelWorths.{climbed, gap, gap-inside}
use Rattle.pb_diagram.specs.laws.NodeWorths.{IsOrdered}
use Rattle.pb_diagram.specs.laws.FewTerms.{value-one, apart_one, positive_one}
use Rattle.pb_diagram.specs.laws.SplitWorths.{true_rise, IsGoal}
use Rattle.pb_diagram.specs.laws.StepSums.{AreUp, rise_total}
use Rattle.pb_diagram.specs.laws.WorthSums.{holds, holds-negated, term-holds, IsSumBy, sum_known, sum_more, sum_as, sum_over, sum_adds}

-- ---- the two cases together

abbrev pub unit_clause : ℕ → Constraint
unit_clause v = record { terms = weighing 1 (positive_of v) ∷ []; degree = 1 }

pub split_adds : (P : ℕ → Type 0) (db : Database) (l : Lit) (v m n : ℕ) (if_false if_true : List PolOp) → IsSumBy db if_false (λ a. holds a (positive_of v) + holds a l) 1 m 3 → IsSumBy db if_true (λ a. holds a (positive_of v) + holds a (negated l)) 1 n 4 → P v → m + n < 2 ^ 126
    → Adds P db (Pol (if_false ++ (if_true ++ Add ∷ Div (pos 2) ∷ []))) (unit_clause v)
split_adds P db l v m n if_false if_true x y here small =
    let g : Lit = positive_of v in
    let under : Assignment = λ v. false in
    let F : Assignment → ℕ = λ a. holds a g + holds a l in
    let T : Assignment → ℕ = λ a. holds a g + holds a (negated l) in
    let both : Constraint = record { terms = weighing 2 g ∷ []; degree = 1 } in
    let ops : List PolOp = if_false ++ (if_true ++ Add ∷ []) in
    let sum : IsSumBy db ops (λ a. F a + T a) (1 + 1) (m + n) 5 =
    sum_more db under if_false if_true F T 1 1 m n 4 (sum_as db if_false F F 1 1 m m 3 5 x (λ a. refl) (omega arith) (omega arith)) y (omega (arith, holds-negated under l)) in
    let over : IsSumBy db (ops ++ Div (pos 2) ∷ []) (λ a. value a (division 2 both).terms) 1 (m + n) 5 =
    sum_over db 2 both ops (λ a. F a + T a) (1 + 1) (m + n) 5 (omega arith) sum (apart_one (weighing 2 g)) (positive_one (weighing 2 g) (omega arith)) (λ a. omega (arith, value-one a 2 g, holds-negated a l)) in
    let same : ops ++ Div (pos 2) ∷ [] ≡ if_false ++ (if_true ++ Add ∷ Div (pos 2) ∷ []) =
    append_assoc if_false (if_true ++ Add ∷ []) (Div (pos 2) ∷ []) ∙ ap (λ (os : List PolOp). if_false ++ os) (append_assoc if_true (Add ∷ []) (Div (pos 2) ∷ [])) in
    subst (λ (os : List PolOp). Adds P db (Pol os) (unit_clause v)) same
    (sum_adds db P (unit_clause v) (ops ++ Div (pos 2) ∷ []) (λ a. value a (division 2 both).terms) 1 (m + n) 5 over (omega arith) small
    (record { apart = apart_one (weighing 1 g); positive = positive_one (weighing 1 g) (omega arith); named = All-cons (λ (t : Weighted). P t.lit.var) (weighing 1 g) [] here (All-nil (λ (t : Weighted). P t.lit.var)) })
    (λ a. omega (arith, value-one a 1 g)))

-- ---- the guard

pub true_rise-value : (a : Assignment) (p low : ℕ) (ns : List Node) → value a (rises positive_of p low ns) ≡ true_rise a p low ns
true_rise-value a p low [] = refl
true_rise-value a p low (n ∷ ns) =
    omega (arith, value-cons a (weighing (n.top - low) (positive_of p)) (rises positive_of (p + 1) n.top ns), term-holds a (n.top - low) (positive_of p), true_rise-value a (p + 1) n.top ns)

pub false_rise-value : (db : Database) (order q count : ℕ) (ordered : IsOrdered db order q count) (fits : q + count ≤ db.vars + 1) (a : Assignment) (v low j : ℕ) (ns : List Node) → v ≡ q + j → j + length ns ≤ count
    → value a (rises missed_of v low ns) ≡ rise_total (gap a q count) low j ns
false_rise-value db order q count ordered fits a v low j [] at within = refl
false_rise-value db order q count ordered fits a v low j (n ∷ ns) at within =
    let c : ℕ = n.top - low in
    let here : holds a (missed_of v) ≡ gap a q count j = ap (λ (k : ℕ). holds a (missed_of k)) at ∙ sym (gap-inside db order q count ordered fits a j (omega (arith, within))) in
    omega (
      arith,
      value-cons a (weighing c (missed_of v)) (rises missed_of (v + 1) n.top ns),
      term-holds a c (missed_of v),
      ap (λ (k : ℕ). c * k) here,
      false_rise-value db order q count ordered fits a (v + 1) n.top (suc j) ns (omega (arith, at)) (omega (arith, within)),
    )

pub rises-weight : (literal : ℕ → Lit) (v low : ℕ) (ns : List Node) → weight (rises literal v low ns) ≡ climbed low ns
rises-weight literal v low [] = refl
rises-weight literal v low (n ∷ ns) = omega (arith, weight-cons (weighing (n.top - low) (literal v)) (rises literal (v + 1) n.top ns), rises-weight literal (v + 1) n.top ns)

-- where there is a node, its end is the whole of the steps
pub climbed-last : (low : ℕ) (n : Node) (ns : List Node) → AreUp low (n ∷ ns) → low + climbed low (n ∷ ns) ≡ last_top (n ∷ ns)
climbed-last low n [] up = omega (arith, up.0)
climbed-last low n (m ∷ ns) up = omega (arith, up.0, climbed-last n.top m ns up.1)

module _ (db : Database) (r : Rung) (v id : ℕ) (ordered : IsOrdered db r.order r.after (length r.next)) (fits : r.after + length r.next ≤ db.vars + 1)
    (up : AreUp 0 r.nodes) (rise : AreUp 0 r.next) (low : r.term.lit.var < r.var) (high : r.var + length r.nodes ≤ r.after) (known_lit : r.term.lit.var ≤ db.vars) (enough : own_of r ≤ climbed 0 r.nodes) (top : last_top r.nodes ≡ climbed 0 r.nodes) (other : v ≢ r.term.lit.var) where
  abbrev q : ℕ
  q = r.after

  abbrev count : ℕ
  count = length r.next

  abbrev sum : List Weighted
  sum = (guard v r).sum

  sum-value : (a : Assignment) → value a sum ≡ own_of r * holds a r.term.lit + rise_total (gap a q count) 0 0 r.next + true_rise a r.var 0 r.nodes
  sum-value a =
      let below : List Weighted = rises missed_of r.after 0 r.next in
      let here : List Weighted = rises positive_of r.var 0 r.nodes in
      omega (
        arith,
        value-cons a (weighing (own_of r) r.term.lit) (below ++ here),
        term-holds a (own_of r) r.term.lit,
        sum_by-append (term_value a) below here,
        false_rise-value db r.order q count ordered fits a r.after 0 0 r.next (omega arith) (omega arith),
        true_rise-value a r.var 0 r.nodes,
      )

  sum-weight : weight sum ≡ own_of r + climbed 0 r.next + climbed 0 r.nodes
  sum-weight =
      let below : List Weighted = rises missed_of r.after 0 r.next in
      let here : List Weighted = rises positive_of r.var 0 r.nodes in
      omega (arith, weight-cons (weighing (own_of r) r.term.lit) (below ++ here), sum_by-append (λ (t : Weighted). t.coef) below here, rises-weight missed_of r.after 0 r.next, rises-weight positive_of r.var 0 r.nodes)

  abbrev goal_degree : ℕ
  goal_degree = own_of r + climbed 0 r.next + 1

  spare-is : spare (guard v r) ≡ goal_degree
  spare-is = omega (arith, sum-weight, top)

  abbrev pub goal_value : Assignment → ℕ
  goal_value a = value a (reverse_of (guard v r)).terms

  goal-value : (a : Assignment) → goal_value a + value a sum ≡ goal_degree * holds a (positive_of v) + (own_of r + climbed 0 r.next + climbed 0 r.nodes)
  goal-value a =
      omega (
        arith,
        value-cons a (weighing (spare (guard v r)) (positive_of v)) (map opposite sum),
        term-holds a (spare (guard v r)) (positive_of v),
        ap (λ (k : ℕ). k * holds a (positive_of v)) spare-is,
        value-opposite a sum,
        sum-weight,
      )

  -- the guard's second constraint says that the goal does not hold
  pub guard_goal : Knows db id (reverse_of (guard v r))
      → IsGoal db r.term.lit r.order q count r.var r.counts (own_of r) ordered fits r.nodes r.next refl up rise low high known_lit enough (Push id ∷ []) (positive_of v) goal_degree 1 goal_degree goal_value (weight (reverse_of (guard v r)).terms + (reverse_of (guard v r)).degree)
  guard_goal h = record {
    sum = sum_as db (Push id ∷ []) goal_value goal_value (reverse_of (guard v r)).degree goal_degree (weight (reverse_of (guard v r)).terms + (reverse_of (guard v r)).degree) (weight (reverse_of (guard v r)).terms + (reverse_of (guard v r)).degree) 1 3
        (sum_known db id (reverse_of (guard v r)) h) (λ a. omega (arith, spare-is)) (omega arith) (omega arith);
    other = other;
    some = omega arith;
    positive = omega arith;
    is = λ a. omega (arith, goal-value a, sum-value a);
  }
