use Rattle.pb_diagram.proofs.LevelSteps.{false_none}
use Rattle.std.proofs.Common.{◌+◌}
use Rattle.pb_diagram.proofs.emission.Numbered.emit_false.Goals as goal

pub returns-then-self-node : goal.returns-then-self-node
returns-then-self-node g c =
    false_none c.args.self.now.layer.whole c.args.self.now.after c.args.self.now.layer.next.now (c.args.self.now.first + c.args.place) c.args.node _ c.if-self-node.true

pub child-requires : goal.child-requires
child-requires g c = c.requires.held c.if-self-node.false
