-- How what a level of a diagram says of its sum is derived from what the next level says (our own). Each node is reified over its
-- children; then a guard, which is true where the level's statement holds, is shown to be true, once where the level's literal is
-- false and once where it is true (the idea of a reified goal is that of proof by contradiction in Gocht and Nordström 2021).
use Rattle.std.specs.Prelude.{ℕ, zero, suc, Bool, pos, ◌+◌, ◌-◌, ◌==◌, nat_le, nat_lt, List, [], ◌∷◌, ◌++◌, Option, None, Some, length, max, min, sum_by, if◌then◌else◌}
use Rattle.std.specs.List.{range_with_len}
use Rattle.pb_base.specs.declared.literal.Lit.{Lit}
use Rattle.pb_base.specs.Literals.{negated}
use Rattle.pb_norm.specs.Constraints.{Weighted}
use Rattle.pb_steps.specs.declared.op.PolOp.{PolOp}
use Rattle.pb_steps.specs.declared.op.PolOp.TheVariants.{Push, Axiom, Add, Mul, Div}
use Rattle.pb_steps.specs.declared.step.Step.{Step}
use Rattle.pb_steps.specs.declared.step.Step.TheVariants.{Pol, Del}
use Rattle.pb_derive.specs.Justifications.{adding}
use Rattle.pb_derive.specs.Ones.{unit_of}
use Rattle.pb_derive.specs.Reifications.{Reification, reification_steps}
use Rattle.pb_family.specs.Fresh.{positive_of}
use Rattle.pb_diagram.specs.declared.node.Node.{Node}

abbrev pub weighing : ℕ → Lit → Weighted
weighing n l = record { coef = n; lit = l }

abbrev pub missed_of : ℕ → Lit
missed_of v = negated (positive_of v)

-- ---- what a node's variable means: its false child is, and its literal is false or its true child is

-- the literal, and the number of the next level's first variable
abbrev pub child_terms : Lit → ℕ → Option ℕ → Option ℕ → List Weighted
child_terms l q None None = unit_of (negated l) ∷ []
child_terms l q None (Some t) = unit_of (negated l) ∷ unit_of (positive_of (q + t)) ∷ []
child_terms l q (Some f) None = weighing 2 (positive_of (q + f)) ∷ unit_of (negated l) ∷ []
child_terms l q (Some f) (Some t) =
    if f == t then weighing 3 (positive_of (q + f)) ∷ unit_of (negated l) ∷ []
    else weighing 2 (positive_of (q + f)) ∷ unit_of (negated l) ∷ unit_of (positive_of (q + t)) ∷ []

abbrev pub child_least : Option ℕ → ℕ
child_least None = 1
child_least (Some f) = 3

abbrev pub child_reification : Lit → ℕ → ℕ → Node → Reification
child_reification l q var n = record { var = var; sum = child_terms l q n.off n.on; least = child_least n.off }

-- of a level's nodes, whose variables start at p and those of the next level at q
abbrev pub level_reifications : Lit → ℕ → ℕ → List Node → List Reification
level_reifications l q p [] = []
level_reifications l q p (n ∷ ns) = child_reification l q p n ∷ level_reifications l q (p + 1) ns

-- ---- operations

-- so many times what operations leave is added, if at all
abbrev pub plus_times : ℕ → List PolOp → List PolOp
plus_times zero ops = []
plus_times (suc zero) ops = ops ++ Add ∷ []
plus_times (suc (suc n)) ops = ops ++ Mul (pos (suc (suc n))) ∷ Add ∷ []

abbrev pub and_literal : Lit → List PolOp
and_literal l = Axiom l ∷ Add ∷ []

-- from a place of the next level to a later one, by its order, whose ids start at a number
abbrev pub path : ℕ → ℕ → ℕ → List PolOp
path order i j = adding (range_with_len (order + i) (j - i))

-- the same added so many times, if it is of some steps
abbrev pub plus_path : ℕ → ℕ → ℕ → ℕ → List PolOp
plus_path n order i j = if nat_lt i j then plus_times n (path order i j) else []

-- ---- the order of a level: where a node is true, so is the next one

abbrev pub off_path : ℕ → ℕ → Option ℕ → Option ℕ → List PolOp
off_path order q None g = []
off_path order q (Some f) None = plus_times 2 (Axiom (missed_of (q + f)) ∷ [])
off_path order q (Some f) (Some g) = plus_path 2 order f g

abbrev pub on_path : ℕ → ℕ → Option ℕ → Option ℕ → List PolOp
on_path order q t None = []
on_path order q None (Some u) = and_literal (positive_of (q + u))
on_path order q (Some t) (Some u) = plus_path 1 order t u

-- by the first constraint of the node and the second one of the next node, whose ids these are
abbrev pub order_ops : ℕ → ℕ → ℕ → ℕ → Node → Node → List PolOp
order_ops order q forward reverse n m =
    Push forward ∷ Push reverse ∷ Add ∷ off_path order q n.off m.off ++ (on_path order q n.on m.on ++ Div (pos 3) ∷ [])

-- of a level's nodes, whose constraints have the ids from a number on, two each
abbrev pub order_lines : ℕ → ℕ → ℕ → List Node → List Step
order_lines order q counts [] = []
order_lines order q counts (n ∷ []) = []
order_lines order q counts (n ∷ m ∷ ns) = Pol (order_ops order q counts (counts + 3) n m) ∷ order_lines order q (counts + 2) (m ∷ ns)

-- ---- what a node's second constraint says

-- where the literal is false: if the false child is, so is the node
abbrev pub spare_on : ℕ → Option ℕ → Option ℕ → List PolOp
spare_on q f None = []
spare_on q None (Some t) = and_literal (positive_of (q + t))
spare_on q (Some f) (Some t) = if f == t then [] else and_literal (positive_of (q + t))

abbrev pub off_ops : ℕ → ℕ → Node → List PolOp
off_ops q reverse n = Push reverse ∷ spare_on q n.off n.on ++ Div (pos 3) ∷ []

-- if the true child is, so is the node, since the false child is then
abbrev pub between : ℕ → Option ℕ → Option ℕ → List PolOp
between order None t = []
between order (Some f) None = []
between order (Some f) (Some t) = plus_path 2 order t f

abbrev pub on_ops : Lit → ℕ → ℕ → Node → List PolOp
on_ops l order reverse n = Push reverse ∷ between order n.off n.on ++ (and_literal (negated l) ++ Div (pos 3) ∷ [])

-- how far a node's true child is before its false one
abbrev pub window_of : Option ℕ → Option ℕ → ℕ
window_of None t = 0
window_of (Some f) None = 0
window_of (Some f) (Some t) = f - t

abbrev pub window : Node → ℕ
window n = window_of n.off n.on

abbrev pub windows : List Node → ℕ
windows ns = sum_by window ns

-- ---- the sum of a level, by the next level's

-- how far a level's nodes reach whose child, of the two, is at most at a place
abbrev pub is_by : Option ℕ → ℕ → Bool
is_by None j = Bool.false
is_by (Some f) j = nat_le f j

abbrev pub reach_by : (Node → Option ℕ) → List Node → ℕ → ℕ
reach_by child [] j = 0
reach_by child (n ∷ ns) j = max (if is_by (child n) j then n.top else 0) (reach_by child ns j)

abbrev pub off_of : Node → Option ℕ
off_of n = n.off

abbrev pub on_of : Node → Option ℕ
on_of n = n.on

-- the order at a place of the next level, and at its last one that the node may be false
abbrev pub place_ops : ℕ → ℕ → ℕ → ℕ → List PolOp
place_ops order q last j = if j == last then Axiom (missed_of (q + j)) ∷ [] else Push (order + j) ∷ []

abbrev pub place_sums : (ℕ → ℕ) → ℕ → ℕ → ℕ → ℕ → List Node → List PolOp
place_sums reach order q last j [] = []
place_sums reach order q last j (n ∷ ns) = plus_times (n.top - reach j) (place_ops order q last j) ++ place_sums reach order q last (j + 1) ns

-- the nodes where the literal is false, from one on that begins where the one before it ends
abbrev pub off_sums : ℕ → ℕ → ℕ → List Node → List PolOp
off_sums q counts low [] = []
off_sums q counts low (n ∷ ns) = plus_times (n.top - low) (off_ops q (counts + 1) n) ++ off_sums q (counts + 2) n.top ns

-- and where it is true, which alone reaches a number
abbrev pub on_sums : Lit → ℕ → ℕ → ℕ → ℕ → ℕ → List Node → List PolOp
on_sums l order own var counts low [] = []
on_sums l order own var counts low (n ∷ ns) =
    plus_times (min n.top own - low) (Axiom (positive_of var) ∷ [])
    ++ (plus_times (n.top - max own low) (on_ops l order (counts + 1) n)
    ++ on_sums l order own (var + 1) (counts + 2) n.top ns)

abbrev pub last_top : List Node → ℕ
last_top [] = 0
last_top (n ∷ []) = n.top
last_top (n ∷ m ∷ ns) = last_top (m ∷ ns)

-- a level: its literal and coefficient, its nodes and the next level's, the first variables of both, the ids of its nodes' first
-- constraint and of the next level's order
pub record Rung : Type 0 where
  pub term : Weighted
  pub nodes : List Node
  pub next : List Node
  pub var : ℕ
  pub after : ℕ
  pub counts : ℕ
  pub order : ℕ

-- how much the literal counts: no more than the nodes ask
abbrev pub own_of : Rung → ℕ
own_of r = min r.term.coef (last_top r.nodes)

abbrev pub last_place : Rung → ℕ
last_place r = length r.next - 1

-- Where the goal does not hold, the literal is true; and it is false. `goal` leaves what is said where the goal does not hold.
abbrev pub if_false_ops : Rung → List PolOp → ℕ → List PolOp
if_false_ops r goal widest =
    goal ++ (off_sums r.after r.counts 0 r.nodes ++ (place_sums (reach_by off_of r.nodes) r.order r.after (last_place r) 0 r.next ++ (and_literal r.term.lit ++ Div (pos widest) ∷ [])))

abbrev pub if_true_ops : Rung → List PolOp → ℕ → List PolOp
if_true_ops r goal widest =
    goal ++ (on_sums r.term.lit r.order (own_of r) r.var r.counts 0 r.nodes
    ++ (place_sums (λ j. reach_by on_of r.nodes j - own_of r) r.order r.after (last_place r) 0 r.next ++ Div (pos widest) ∷ []))

-- so the goal holds
abbrev pub split_line : Rung → List PolOp → ℕ → Step
split_line r goal widest = Pol (if_false_ops r goal widest ++ (if_true_ops r goal widest ++ Add ∷ Div (pos 2) ∷ []))

-- ---- the guard

-- what each node adds to those before it, from one on that begins where the one before it ends
abbrev pub rises : (ℕ → Lit) → ℕ → ℕ → List Node → List Weighted
rises literal var low [] = []
rises literal var low (n ∷ ns) = weighing (n.top - low) (literal var) ∷ rises literal (var + 1) n.top ns

-- the literal and the false nodes of the next level weigh no less than the false nodes of this one
abbrev pub guard : ℕ → Rung → Reification
guard v r = record {
  var = v;
  sum = weighing (own_of r) r.term.lit ∷ rises missed_of r.after 0 r.next ++ rises positive_of r.var 0 r.nodes;
  least = last_top r.nodes;
}

-- above each coefficient of what is left of the guard's second constraint
abbrev pub guard_width : Rung → ℕ
guard_width r = own_of r + last_top r.next + last_top r.nodes + 1

-- The false nodes weigh no more than the literals from the level on: by the guard, and the same of the next level. What the literal
-- weighs more is added.
abbrev pub climb_line : Rung → ℕ → ℕ → ℕ → Step
climb_line r forward true_guard before =
    Pol (Push forward ∷ Push true_guard ∷ Mul (pos (last_top r.nodes)) ∷ Add ∷ plus_times (r.term.coef - own_of r) (Axiom r.term.lit ∷ []) ++ Push before ∷ Add ∷ [])

-- The sum of the next level has an id, and the lines have those behind it.
abbrev pub rung_lines : ℕ → Rung → ℕ → List Step
rung_lines v r before =
    reification_steps (before + 1) (guard v r ∷ [])
    ++ (split_line r (Push (before + 2) ∷ []) (guard_width r)
    ∷ climb_line r (before + 1) (before + 3) before ∷ [])

-- the next level's sum and the guard go
abbrev pub rung_steps : ℕ → Rung → ℕ → List Step
rung_steps v r before = rung_lines v r before ++ Del (range_with_len before 4) ∷ []
