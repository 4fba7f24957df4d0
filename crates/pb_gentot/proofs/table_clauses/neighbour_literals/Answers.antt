use Rattle.std.proofs.Common.{◌+◌, ◌∙◌, length, ap, arith}
use Rattle.pb_base.specs.Literals.{negated}
use Rattle.pb_family.proofs.Emission.{two_literals}
use Rattle.pb_gentot.proofs.Emitting.{output_placed, room_fewer}
use Rattle.pb_gentot.proofs.table_clauses.neighbour_literals.Goals as goal

pub at-later-requires : goal.at-later-requires
at-later-requires c = let root = c.args.root.now in room_fewer root.outputs (length root.values.items) _ (omega (arith, c.requires)) root.room

pub at-requires : goal.at-requires
at-requires c = let root = c.args.root.now in room_fewer root.outputs (length root.values.items) _ (omega (arith, c.requires)) root.room

pub returns : goal.returns
returns c =
    let root = c.args.root.now in
    let later = c.at-later.ensures ∙ output_placed root.outputs root.values.items (c.args.place + 1) root.rising c.requires in
    two_literals _ _ _ _ (c.not.ensures ∙ ap negated later) (c.at.ensures ∙ output_placed root.outputs root.values.items c.args.place root.rising (omega (arith, c.requires)))
