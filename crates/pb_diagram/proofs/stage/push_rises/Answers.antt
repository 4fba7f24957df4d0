use Rattle.std.proofs.Common.{◌+◌, ◌-◌, ◌∙◌, ◌++◌, ap, arith, drop, sym}
use Rattle.pb_norm.specs.Constraints.{weighted, weights}
use Rattle.pb_diagram.specs.Guards.{rises, weighing}
use Rattle.pb_diagram.specs.inner.Parts.{signed}
use Rattle.pb_diagram.specs.inner.Tiers.{node_at}
use Rattle.pb_diagram.proofs.GuardedHanding.{all_made, rises_begun, rises_done, rises_left, term_pushed}
use Rattle.pb_diagram.proofs.GuardedOps.{node_at_is}
use Rattle.pb_diagram.proofs.GuardedTiers.{top_within}
use Rattle.pb_diagram.proofs.stage.push_rises.Goals as goal

pub loop-place-init : goal.loop-place-init
loop-place-init c = ap (λ us. weights c.args.terms.now.items ++ us) (sym (rises_begun (signed c.args.positive) c.args.first c.args.nodes.now))

pub loop-place-preserved : goal.loop-place-preserved
loop-place-preserved c =
    let lit = signed c.args.positive in
    let first = c.args.first in
    let ns = c.args.nodes.now in
    let i = c.loop-place.place in
    let low = c.loop-place.low in
    let n = node_at c.args.nodes.now c.loop-place.place in
    let is = ap weighted c.weighing.ensures ∙ (λ x. weighing (c.saturating_sub-weight.ensures x) (record { var = (c.fresh_at-var.ensures x).var; positive = c.args.positive })) in
    term_pushed c.loop-place.terms.items c.push.new.self.items c.weighing.result (weighing (n.top - low) (lit (first + i))) (rises lit (first + (i + 1)) n.top (drop (i + 1) ns)) (rises lit (first + i) low (drop i ns)) (weights c.args.terms.now.items ++ rises lit first 0 ns)
    c.in_ok-push.ensures.items is (rises_left lit first low i ns (omega arith)) c.loop-place.invariant

pub returns : goal.returns
returns c = all_made _ _ _ (rises_done (signed c.args.positive) (c.args.first + c.loop-place.place) c.loop-place.low c.loop-place.place c.args.nodes.now (omega arith)) c.loop-place.invariant

pub fresh_at-var-requires : goal.fresh_at-var-requires
fresh_at-var-requires c = record { low = c.requires.low; high = omega (arith, c.requires.high, c.loop-place-test.true) }

pub weighing-requires : goal.weighing-requires
weighing-requires c =
    let n = node_at c.args.nodes.now c.loop-place.place in
    omega (arith, c.saturating_sub-weight.ensures, c.requires.ends, top_within 0 c.args.nodes.now c.loop-place.place n (omega arith) (node_at_is c.args.nodes.now c.loop-place.place (omega arith)) c.requires.up)
