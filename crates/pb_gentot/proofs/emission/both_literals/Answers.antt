use Rattle.std.proofs.Common.{◌∙◌, ap, arith, length, sym, subst}
use Rattle.pb_base.specs.Literals.{negated}
use Rattle.std.specs.Prelude.{Contains}
use Rattle.pb_family.proofs.Emission.{three_literals}
use Rattle.pb_gentot.specs.inner.Nodes.{own_output}
use Rattle.pb_gentot.proofs.Emitting.{output_placed, room_fewer}
use Rattle.pb_gentot.proofs.Over.{has_sums}
use Rattle.pb_gentot.proofs.emission.both_literals.Goals as goal

pub at-requires : goal.at-requires
at-requires c = let part = c.args.node.now.left.now in room_fewer part.outputs (length part.values.items) _ (omega (arith, c.requires.left)) part.room

pub at-requires-2 : goal.at-requires-2
at-requires-2 c = let part = c.args.node.now.right.now in room_fewer part.outputs (length part.values.items) _ (omega (arith, c.requires.right)) part.room

pub literal-requires : goal.literal-requires
literal-requires c =
    let node = c.args.node.now in
    let both = (has_sums node.cap node.left.now.values.items node.right.now.values.items node.own.now.values.items node.left_within node.right_within node.made).both in
    subst (Contains node.own.now.values.items) (sym c.sum_of.ensures) (both c.args.i 0 c.requires.left c.args.j 0 c.requires.right)

pub returns : goal.returns
returns c =
    let n = c.args.node.now in
    let one = c.at.ensures ∙ output_placed n.left.now.outputs n.left.now.values.items c.args.i n.left.now.rising c.requires.left in
    let two = c.at-2.ensures ∙ output_placed n.right.now.outputs n.right.now.values.items c.args.j n.right.now.rising c.requires.right in
    three_literals _ _ _ _ _ _ (c.not.ensures ∙ ap negated one) (c.not-2.ensures ∙ ap negated two) (c.literal.ensures ∙ ap (own_output n) c.sum_of.ensures)
