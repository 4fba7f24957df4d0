use Rattle.std.proofs.Common.{◌+◌, ◌∙◌, refl, arith}
use Rattle.pb_family.proofs.Emission.{takes_as}
use Rattle.pb_totalizer.proofs.Halved.{node_of}
use Rattle.pb_totalizer.proofs.PartsEmitted.{base_output, hands_failed, own_same}
use Rattle.pb_totalizer.proofs.emission.ClausesWalk.node.Goals as goal

pub invariant_of-node : goal.invariant_of-node
invariant_of-node g c =
    let w = c.args.self.now.whole.now in
    let own = node_of c.requires.parts c.requires.suits c.min-count.ensures (c.count.ensures ∙ c.requires.left.count) (c.count-2.ensures ∙ c.requires.right.count) in
    record { low = omega (arith, w.whole.low); high = omega (arith, own.within, w.whole.fits) }

pub invariant_of-node-2 : goal.invariant_of-node-2
invariant_of-node-2 g c =
    let w = c.args.self.now.whole.now in
    let own = node_of c.requires.parts c.requires.suits c.min-count.ensures (c.count.ensures ∙ c.requires.left.count) (c.count-2.ensures ∙ c.requires.right.count) in
    record {
      left_within = omega (arith, own.half.left_within, c.requires.left.count);
      right_within = omega (arith, own.half.right_within, c.requires.right.count);
      counted = omega (arith, c.min-count.ensures, c.count.ensures, c.count-2.ensures);
      few = omega (arith, w.whole.more, w.whole.few);
    }

pub returns-in_err-emit_own-clause-hands : goal.returns-in_err-emit_own-clause-hands
returns-in_err-emit_own-clause-hands g c =
    let w = c.args.self.now.whole.now in
    let own = node_of c.requires.parts c.requires.suits c.min-count.ensures (c.count.ensures ∙ c.requires.left.count) (c.count-2.ensures ∙ c.requires.right.count) in
    hands_failed c.from_residual.result _ _ _ (g.S.ClauseSink.state c.args.sink.now) (g.S.ClauseSink.state c.emit_own.new.sink) c.from_residual.ensures.1
    (own_same w.bound c.requires.parts w.first (w.first + c.args.parts.now.next) refl c.args.self.now.polarity c.min-count.result _ _ own.own c.requires.left c.requires.right) c.in_err-emit_own.ensures

pub returns-clause-hands : goal.returns-clause-hands
returns-clause-hands g c =
    let w = c.args.self.now.whole.now in
    let own = node_of c.requires.parts c.requires.suits c.min-count.ensures (c.count.ensures ∙ c.requires.left.count) (c.count-2.ensures ∙ c.requires.right.count) in
    takes_as _ _ (g.S.ClauseSink.state c.args.sink.now) (g.S.ClauseSink.state c.emit_own.new.sink)
    (own_same w.bound c.requires.parts w.first (w.first + c.args.parts.now.next) refl c.args.self.now.polarity c.min-count.result _ _ own.own c.requires.left c.requires.right) c.in_ok-emit_own.ensures

pub returns-clause-next : goal.returns-clause-next
returns-clause-next g c = (node_of c.requires.parts c.requires.suits c.min-count.ensures (c.count.ensures ∙ c.requires.left.count) (c.count-2.ensures ∙ c.requires.right.count)).after

pub returns-clause-leaves : goal.returns-clause-leaves
returns-clause-leaves g c =
    let w = c.args.self.now.whole.now in
    let own = node_of c.requires.parts c.requires.suits c.min-count.ensures (c.count.ensures ∙ c.requires.left.count) (c.count-2.ensures ∙ c.requires.right.count) in
    record { literals = base_output w.bound c.requires.parts w.first (w.first + c.args.parts.now.next) refl; count = own.counted }
