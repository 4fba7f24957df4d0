use Rattle.std.proofs.Common.{◌∙◌, ap, arith, length, sym, subst}
use Rattle.std.specs.Prelude.{Contains}
use Rattle.std.proofs.lemmas.Grind.{get_or_default_zero}
use Rattle.pb_base.specs.Literals.{negated}
use Rattle.pb_family.proofs.Emission.{two_literals}
use Rattle.pb_gentot.specs.inner.Nodes.{own_output}
use Rattle.pb_gentot.proofs.Emitting.{output_placed, room_fewer}
use Rattle.pb_gentot.proofs.emission.one_literals.Goals as goal

pub at-requires : goal.at-requires
at-requires c = let part = c.args.part.now in room_fewer part.outputs (length part.values.items) _ (omega (arith, c.requires.within)) part.room

pub literal-requires : goal.literal-requires
literal-requires c =
    let is = c.index.ensures ∙ get_or_default_zero c.args.part.now.values.items c.args.i c.index.result.now c.requires.within in
    subst (Contains c.args.node.now.own.now.values.items) (sym is) c.requires.has

pub returns : goal.returns
returns c =
    let part = c.args.part.now in
    let is = c.index.ensures ∙ get_or_default_zero part.values.items c.args.i c.index.result.now c.requires.within in
    two_literals _ _ _ _ (c.not.ensures ∙ ap negated (c.at.ensures ∙ output_placed part.outputs part.values.items c.args.i part.rising c.requires.within)) (c.literal.ensures ∙ ap (own_output c.args.node.now) is)
