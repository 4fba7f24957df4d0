use Rattle.std.proofs.Common.{◌≡◌, ◌+◌, ◌-◌, ◌∙◌, ◌++◌, ℕ, ap, arith, drop, length, refl}
use Rattle.pb_diagram.specs.Guards.{place_ops, place_sums, plus_times, reach_by}
use Rattle.pb_diagram.specs.inner.Tiers.{child_on, node_at}
use Rattle.pb_diagram.proofs.GuardedOps.{all_pushed, node_at_is, part_pushed, places_done, places_left}
use Rattle.pb_diagram.proofs.GuardedReach.{none_reached, reached_later}
use Rattle.pb_diagram.proofs.GuardedTiers.{top_within}
use Rattle.pb_diagram.proofs.tier.Tier.push_places.Goals as goal

pub loop-place-init : goal.loop-place-init
loop-place-init c = record { few = omega arith; reached = none_reached (child_on c.args.side) c.args.self.now.nodes.now; pushed = refl }

pub reach_at-reach-requires : goal.reach_at-reach-requires
reach_at-reach-requires c = record { sorted = c.requires.level.sorted; seen = c.loop-place.invariant.few; before = c.loop-place.invariant.reached }

pub loop-place-preserved : goal.loop-place-preserved
loop-place-preserved c =
    let t = c.args.self.now in
    let child = child_on c.args.side in
    let reach : ℕ → ℕ = λ j. reach_by child t.nodes.now j - c.args.less in
    let last : ℕ = length t.next.now - 1 in
    let gs = t.next.now in
    let i = c.loop-place.place in
    let n = node_at t.next.now c.loop-place.place in
    let ops = place_ops t.order t.after last i in
    let rest = place_sums reach t.order t.after last (i + 1) (drop (i + 1) gs) in
    let above : ℕ = c.saturating_sub-above.result in
    let is : n.top - reach i ≡ above = omega (arith, c.saturating_sub-above.ensures, c.saturating_sub.ensures, c.reach_at-reach.ensures.top) in
    record {
      few = c.reach_at-reach.ensures.within;
      reached = reached_later child t.nodes.now c.reach_at-reach.result.seen c.reach_at-reach.result.top i c.reach_at-reach.ensures.after;
      pushed =
          part_pushed c.loop-place.ops.items (plus_times above ops) c.push_place_part.new.ops.items _ rest (c.args.ops.now.items ++ place_sums reach t.order t.after last 0 gs) c.in_ok-push_place_part.ensures
          (places_left reach t.order t.after last i gs (omega arith) ∙ ap (λ (k : ℕ). plus_times k ops ++ rest) is)
          c.loop-place.invariant.pushed;
    }

pub returns : goal.returns
returns c =
    let t = c.args.self.now in
    let reach : ℕ → ℕ = λ j. reach_by (child_on c.args.side) t.nodes.now j - c.args.less in
    let last : ℕ = length t.next.now - 1 in
    let i = c.loop-place.place in
    all_pushed c.loop-place.ops.items _ (c.args.ops.now.items ++ place_sums reach t.order t.after last 0 t.next.now) (places_done reach t.order t.after last i t.next.now (omega arith)) c.loop-place.invariant.pushed

pub push_place_part-requires : goal.push_place_part-requires
push_place_part-requires c =
    let t = c.args.self.now in
    let n = node_at t.next.now c.loop-place.place in
    record { within = omega arith; fits = omega (arith, c.saturating_sub-above.ensures, t.next_ends, top_within 0 t.next.now c.loop-place.place n (omega arith) (node_at_is t.next.now c.loop-place.place (omega arith)) c.requires.level.rise) }
