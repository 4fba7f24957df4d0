use Rattle.std.proofs.Common.{◌≡◌, ◌+◌, ◌∙◌, ℕ, ap, arith, length, subst, sym}
use Rattle.std.specs.Prelude.{max}
use Rattle.pb_diagram.specs.inner.Tiers.{IsReached, child_on, node_at, top_with}
use Rattle.pb_diagram.proofs.GuardedOps.{node_at_is}
use Rattle.pb_diagram.proofs.GuardedReach.{reached_end, reached_far, reached_more}
use Rattle.pb_diagram.proofs.side.reach_at.Goals as goal

pub loop-seen-preserved : goal.loop-seen-preserved
loop-seen-preserved c =
    let child = child_on c.args.side in
    let ns = c.args.nodes.now in
    let n = node_at ns c.loop-seen.seen in
    let made : max c.loop-seen.top (top_with (child n) n.top) ≡ c.max-top.result = ap (max c.loop-seen.top) (sym c.top.ensures) ∙ sym c.max-top.ensures in
    subst (λ (r : ℕ). IsReached child ns (c.loop-seen.seen + 1) r c.args.place) made
    (reached_more child ns c.loop-seen.seen c.loop-seen.top c.args.place n (omega arith) (node_at_is ns c.loop-seen.seen (omega arith)) (sym c.is_by.ensures ∙ c.if-not-is_by.false) c.loop-seen.invariant)

pub returns-then-not-is_by-clause-after : goal.returns-then-not-is_by-clause-after
returns-then-not-is_by-clause-after c = c.loop-seen.invariant

pub returns-then-not-is_by-clause-top : goal.returns-then-not-is_by-clause-top
returns-then-not-is_by-clause-top c =
    reached_far c.args.side c.args.nodes.now c.loop-seen.seen c.loop-seen.top c.args.place (node_at c.args.nodes.now c.loop-seen.seen) (omega arith) (node_at_is c.args.nodes.now c.loop-seen.seen (omega arith)) (sym c.is_by.ensures ∙ c.if-not-is_by.true) c.requires.sorted c.loop-seen.invariant

pub returns-clause-after : goal.returns-clause-after
returns-clause-after c =
    subst (λ (i : ℕ). IsReached (child_on c.args.side) c.args.nodes.now i c.loop-seen.top c.args.place) (let e : c.loop-seen.seen ≡ length c.args.nodes.now = omega (arith, c.requires.seen, c.loop-seen.auto.seen-end, c.loop-seen-test.false) in e) c.loop-seen.invariant

pub returns-clause-top : goal.returns-clause-top
returns-clause-top c = reached_end (child_on c.args.side) c.args.nodes.now c.loop-seen.seen c.loop-seen.top c.args.place (omega arith) c.loop-seen.invariant
