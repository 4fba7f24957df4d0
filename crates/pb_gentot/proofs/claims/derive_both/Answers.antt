use Rattle.std.proofs.Common.{◌++◌, ◌∷◌, [], length, ap, arith, sym, ◌∙◌, subst}
use Rattle.std.specs.Prelude.{Contains}
use Rattle.pb_gentot.specs.inner.Sources.{second_of}
use Rattle.pb_gentot.proofs.Handed.{by_ids, has_fewer}
use Rattle.pb_gentot.proofs.Over.{has_sums}
use Rattle.pb_gentot.proofs.claims.derive_both.Goals as goal

pub first_id-left-requires : goal.first_id-left-requires
first_id-left-requires g c = let part = c.args.node.now.left.now in has_fewer part.source (length part.values.items) c.args.i (omega (arith, c.requires.left)) part.ids

pub first_id-right-requires : goal.first_id-right-requires
first_id-right-requires g c = let part = c.args.node.now.right.now in has_fewer part.source (length part.values.items) c.args.j (omega (arith, c.requires.right)) part.ids

pub second-second-requires : goal.second-second-requires
second-second-requires g c =
    let node = c.args.node.now in
    let both = (has_sums node.cap node.left.now.values.items node.right.now.values.items node.own.now.values.items node.left_within node.right_within node.made).both in
    subst (Contains node.own.now.values.items) (sym c.sum_of.ensures) (both c.args.i 0 c.requires.left c.args.j 0 c.requires.right)

pub returns : goal.returns
returns g c =
    by_ids c.derive_by.result (g.T.StepSink.state c.args.sink.now) (g.T.StepSink.state c.derive_by.new.sink) []
    (λ i. c.first_id-left.ensures i ++ (c.first_id-right.ensures i ++ (c.second-second.ensures ∙ ap (second_of c.args.node.now) c.sum_of.ensures) i ∷ [])) c.derive_by.ensures
