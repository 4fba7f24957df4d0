use Rattle.pb_diagram.proofs.Places.{place_at}
use Rattle.pb_diagram.proofs.layer.Layer.child_near.Goals as goal

pub returns-then-residue-node : goal.returns-then-residue-node
returns-then-residue-node c =
    place_at c.args.self.now.next.now c.args.residue c.loop-place.place (record { low = 0; top = 0 }) c.args.self.now.order c.requires c.if-place-self.true c.if-node-residue.true c.if-residue-node.true
