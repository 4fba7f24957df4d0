use Rattle.std.proofs.Common.{◌++◌, ◌∷◌, [], length, ap, arith, sym, ◌∙◌, subst}
use Rattle.std.specs.Prelude.{Contains}
use Rattle.std.proofs.lemmas.Grind.{get_or_default_zero}
use Rattle.pb_norm.specs.BoundedSums.{vars_of}
use Rattle.pb_norm.specs.Constraints.{weights}
use Rattle.pb_gentot.specs.inner.Sources.{second_of}
use Rattle.pb_gentot.proofs.Handed.{by_ids, has_fewer}
use Rattle.pb_gentot.proofs.claims.derive_one.Goals as goal

pub second-second-requires : goal.second-second-requires
second-second-requires g c =
    let is = c.index.ensures ∙ get_or_default_zero c.args.part.now.values.items c.args.place c.index.result.now c.requires.within in
    subst (Contains c.args.node.now.own.now.values.items) (sym is) c.requires.has

pub first_id-first-requires : goal.first_id-first-requires
first_id-first-requires g c = let part = c.args.part.now in has_fewer part.source (length part.values.items) c.args.place (omega (arith, c.requires.within)) part.ids

pub returns : goal.returns
returns g c =
    let is = c.index.ensures ∙ get_or_default_zero c.args.part.now.values.items c.args.place c.index.result.now c.requires.within in
    by_ids c.derive_by.result (g.T.StepSink.state c.args.sink.now) (g.T.StepSink.state c.derive_by.new.sink) (vars_of (weights c.args.others.now))
    (λ i. c.first_id-first.ensures i ++ (c.second-second.ensures ∙ ap (second_of c.args.node.now) is) i ∷ []) c.derive_by.ensures
