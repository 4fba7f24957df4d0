-- The steps by guards, part by part, in the words of the types that have them. It serves proofs alone.
use Rattle.std.specs.Prelude.{ℕ, Bool, pos, ◌+◌, ◌-◌, ◌*◌, List, [], ◌∷◌, ◌++◌, Option, None, Some, length, slice_index_or}
use Rattle.std.specs.List.{range_with_len}
use Rattle.pb_base.specs.declared.literal.Lit.{Lit}
use Rattle.pb_steps.specs.declared.op.PolOp.{PolOp}
use Rattle.pb_steps.specs.declared.op.PolOp.TheVariants.{Push, Axiom, Add, Mul, Div, Weaken}
use Rattle.pb_steps.specs.declared.step.Step.{Step}
use Rattle.pb_steps.specs.declared.step.Step.TheVariants.{Pol, Del, Out}
use Rattle.pb_derive.specs.Claims.{claim_steps}
use Rattle.pb_derive.specs.Reifications.{Reification, reification_steps}
use Rattle.pb_diagram.specs.declared.node.Node.{Node}
use Rattle.pb_diagram.specs.declared.tier.Tier.{Tier}
use Rattle.pb_diagram.specs.declared.parts.Kind.{Kind}
use Rattle.pb_diagram.specs.declared.parts.Kind.TheVariants.{Nodes, Order, Climb, Clauses}
use Rattle.pb_diagram.specs.declared.parts.Part.{Part}
use Rattle.pb_diagram.specs.Guards.{Rung, child_reification, climb_line, guard, guard_width, last_top, order_ops, own_of, plus_times, split_line}
use Rattle.pb_diagram.specs.GuardedSteps.{level_claims, spared_off, spared_on}
use Rattle.pb_diagram.specs.inner.Tiers.{node_at, rung_in}

-- a variable, or that it is false
abbrev pub signed : Bool → ℕ → Lit
signed positive v = record { var = v; positive = positive }

-- ---- a node's clauses, by the id of its first constraint, and the next id

abbrev pub off_steps : Lit → ℕ → ℕ → Option ℕ → Option ℕ → ℕ → List Step
off_steps l q forward None t next = []
off_steps l q forward (Some f) t next = Pol (Push forward ∷ Weaken l.var ∷ spared_on q (Some f) t ++ Div (pos 3) ∷ []) ∷ Out next ∷ []

abbrev pub on_steps : ℕ → ℕ → Option ℕ → Option ℕ → ℕ → List Step
on_steps q forward f t next = Pol (Push forward ∷ spared_off q f t ++ Div (pos 3) ∷ []) ∷ Out next ∷ []

abbrev pub off_ids : Option ℕ → ℕ
off_ids None = 0
off_ids (Some f) = 1

-- ---- operations

abbrev pub climb_ops : Rung → ℕ → ℕ → ℕ → List PolOp
climb_ops r forward guarded before =
    Push forward ∷ Push guarded ∷ Mul (pos (last_top r.nodes)) ∷ Add ∷ plus_times (r.term.coef - own_of r) (Axiom r.term.lit ∷ []) ++ Push before ∷ Add ∷ []

abbrev pub root_width : Rung → ℕ
root_width r = r.term.coef + last_top r.next + last_top r.nodes + 1

abbrev pub guard_of : ℕ → Rung → Reification
guard_of v r = guard v r

-- ---- a level's sum, where the next level's has the id before the next one

abbrev pub climb_piece : ℕ → Rung → ℕ → List Step
climb_piece v r next =
    reification_steps next (guard v r ∷ [])
    ++ (split_line r (Push (next + 1) ∷ []) (guard_width r)
    ∷ climb_line r next (next + 2) (next - 1)
    ∷ Del (range_with_len (next - 1) 4)
    ∷ [])

-- ---- parts

abbrev pub part_count : Kind → Tier → ℕ
part_count Nodes t = length t.nodes.now
part_count Order t = length t.nodes.now - 1
part_count Climb t = 1
part_count Clauses t = 1

abbrev pub part_ids : Kind → Tier → ℕ
part_ids Nodes t = 2
part_ids Order t = 1
part_ids Climb t = 4
part_ids Clauses t = length (level_claims t.lit.now t.after t.var t.counts t.nodes.now)

-- the guard's variable, the next id, and a number
abbrev pub part_piece : Kind → Tier → ℕ → ℕ → ℕ → List Step
part_piece Nodes t v next j = reification_steps next (child_reification t.lit.now t.after (t.var + j) (node_at t.nodes.now j) ∷ [])
part_piece Order t v next j = Pol (order_ops t.order t.after (t.counts + 2 * j) (t.counts + 2 * j + 3) (node_at t.nodes.now j) (node_at t.nodes.now (j + 1))) ∷ []
part_piece Climb t v next j = climb_piece v (rung_in t) next
part_piece Clauses t v next j = claim_steps next (level_claims t.lit.now t.after t.var t.counts t.nodes.now)

abbrev pub count_of : Part → ℕ
count_of p = part_count p.kind p.tier

abbrev pub ids_of : Part → ℕ
ids_of p = part_ids p.kind p.tier

abbrev pub piece_of : Part → ℕ → ℕ → List Step
piece_of p = part_piece p.kind p.tier p.guard

abbrev pub part : Kind → ℕ → Tier → Part
part kind v t = record { tier = t; kind = kind; guard = v }

-- the nodes of the level at a place
abbrev pub nodes_from : List (List Node) → ℕ → List Node
nodes_from levels i = slice_index_or levels i []
