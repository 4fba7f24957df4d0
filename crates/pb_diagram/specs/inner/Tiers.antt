-- A level with its numbers, in the words of the types that have them. It serves proofs alone.
use Rattle.std.specs.Prelude.{◌≡◌, ◌≤◌, ℕ, zero, suc, Bool, pos, nat_le, max, drop, List, [], ◌∷◌, ◌++◌, Option, None, Some, slice_index_or}
use Rattle.pb_steps.specs.declared.op.PolOp.{PolOp}
use Rattle.pb_steps.specs.declared.op.PolOp.TheVariants.{Add, Mul, Div}
use Rattle.pb_diagram.specs.declared.side.Side.{Side}
use Rattle.pb_diagram.specs.declared.side.Side.TheVariants.{Off, On}
use Rattle.pb_diagram.specs.declared.node.Node.{Node}
use Rattle.pb_diagram.specs.declared.tier.Tier.{Tier}
use Rattle.pb_diagram.specs.Guards.{Rung, if_false_ops, if_true_ops, off_of, on_of, reach_by}

-- a level with its numbers, as the steps know it
abbrev pub rung_in : Tier → Rung
rung_in t = record {
  term = record { coef = t.coef; lit = t.lit.now };
  nodes = t.nodes.now;
  next = t.next.now;
  var = t.var;
  after = t.after;
  counts = t.counts;
  order = t.order;
}

abbrev pub node_at : List Node → ℕ → Node
node_at ns j = slice_index_or ns j (record { top = 0; off = None; on = None })

-- what ends so many times
abbrev pub times_end : ℕ → List PolOp
times_end zero = Add ∷ []
times_end (suc zero) = Add ∷ []
times_end (suc (suc n)) = Mul (pos (suc (suc n))) ∷ Add ∷ []

-- the child on a side
abbrev pub child_on : Side → Node → Option ℕ
child_on Off = off_of
child_on On = on_of

-- the child is at most at a place, or there is none
abbrev pub is_near : Option ℕ → ℕ → Bool
is_near None j = Bool.true
is_near (Some f) j = nat_le f j

-- the end of a node that has a child
abbrev pub top_with : Option ℕ → ℕ → ℕ
top_with None top = 0
top_with (Some f) top = top

-- From a place on, the nodes reach as far as a number, or as far as those behind the ones that were seen.
abbrev pub IsReached : (Node → Option ℕ) → List Node → ℕ → ℕ → ℕ → Type 0
IsReached child ns seen reach j = (k : ℕ) → j ≤ k → reach_by child ns k ≡ max reach (reach_by child (drop seen ns) k)

-- the operations of a level's long line
abbrev pub split_ops : Rung → List PolOp → ℕ → List PolOp
split_ops r goal widest = if_false_ops r goal widest ++ (if_true_ops r goal widest ++ Add ∷ Div (pos 2) ∷ [])
