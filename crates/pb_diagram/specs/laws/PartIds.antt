-- How many ids the steps of a level take.
use Rattle.std.proofs.Common.{◌≡◌, ◌+◌, ◌-◌, ◌++◌, ℕ, true, cond, List, [], ◌∷◌, refl, arith}
use Rattle.std.specs.Prelude.{All, Option, None, Some, count_by}
use Rattle.std.specs.List.{range_with_len}
use Rattle.std.proofs.lemmas.List.Elements.{All-append, All-cons, All-nil}
use Rattle.std.proofs.lemmas.List.Sums.{sum_by-append}
use Rattle.pb_base.specs.declared.literal.Lit.{Lit}
use Rattle.pb_steps.specs.declared.op.PolOp.TheVariants.{Push}
use Rattle.pb_steps.specs.declared.step.Step.{Step}
use Rattle.pb_steps.specs.declared.step.Step.TheVariants.{Del}
use Rattle.pb_steps.specs.Steps.{takes_id}
use Rattle.pb_derive.specs.Claims.{Claim}
use Rattle.pb_family.proofs.Sequence.{claims_ids, reification_ids}
use Rattle.pb_derive.specs.Reifications.{reification_steps}
use Rattle.pb_diagram.specs.declared.node.Node.{Node}
use Rattle.pb_diagram.specs.declared.parts.Kind.{Kind}
use Rattle.pb_diagram.specs.declared.parts.Kind.TheVariants.{Nodes, Order, Climb, Clauses}
use Rattle.pb_diagram.specs.declared.tier.Tier.{Tier}
use Rattle.pb_diagram.specs.Guards.{Rung, child_reification, climb_line, guard, guard_width, split_line}
use Rattle.pb_diagram.specs.GuardedSteps.{level_claims, off_claims, off_claims_by, on_claim}
use Rattle.pb_diagram.specs.inner.Parts.{climb_piece, part_ids, part_piece}
use Rattle.pb_diagram.specs.inner.Tiers.{node_at, rung_in}

abbrev Takes : Claim → Type 0
Takes c = takes_id c.step ≡ true

off_takes : (l : Lit) (q p forward : ℕ) (f t : Option ℕ) → All Takes (off_claims_by l q p forward f t)
off_takes l q p forward None t = All-nil Takes
off_takes l q p forward (Some f) t = All-cons Takes _ [] refl (All-nil Takes)

pub claims_take : (l : Lit) (q p counts : ℕ) (ns : List Node) → All Takes (level_claims l q p counts ns)
claims_take l q p counts [] = All-nil Takes
claims_take l q p counts (n ∷ ns) =
    All-append Takes (off_claims l q p counts n) (on_claim l q p counts n ∷ level_claims l q (p + 1) (counts + 2) ns) (off_takes l q p counts n.off n.on)
    (All-cons Takes (on_claim l q p counts n) (level_claims l q (p + 1) (counts + 2) ns) refl (claims_take l q (p + 1) (counts + 2) ns))

climb_ids : (v : ℕ) (r : Rung) (next : ℕ) → count_by takes_id (climb_piece v r next) ≡ 4
climb_ids v r next =
    let reds : List Step = reification_steps next (guard v r ∷ []) in
    let rest : List Step = split_line r (Push (next + 1) ∷ []) (guard_width r) ∷ climb_line r next (next + 2) (next - 1) ∷ Del (range_with_len (next - 1) 4) ∷ [] in
    split reds rest (reification_ids next (guard v r)) refl
  where
    split : (xs ys : List Step) → count_by takes_id xs ≡ 2 → count_by takes_id ys ≡ 2 → count_by takes_id (xs ++ ys) ≡ 4
    split xs ys one two = omega (arith, sum_by-append (λ (s : Step). cond (takes_id s) 1 0) xs ys, one, two)

pub part_piece_ids : (kind : Kind) (t : Tier) (v next j : ℕ) → count_by takes_id (part_piece kind t v next j) ≡ part_ids kind t
part_piece_ids Nodes t v next j = reification_ids next (child_reification t.lit.now t.after (t.var + j) (node_at t.nodes.now j))
part_piece_ids Order t v next j = refl
part_piece_ids Climb t v next j = climb_ids v (rung_in t) next
part_piece_ids Clauses t v next j = claims_ids next (level_claims t.lit.now t.after t.var t.counts t.nodes.now) (claims_take t.lit.now t.after t.var t.counts t.nodes.now)
