use Rattle.std.proofs.Common.{◌++◌, ◌∷◌, [], length, ap, ◌∙◌, arith}
use Rattle.pb_tree.specs.Places.{place_of}
use Rattle.pb_tree.proofs.Places.{place_within}
use Rattle.pb_gentot.specs.inner.Ids.{ids_at}
use Rattle.pb_gentot.proofs.Handed.{by_ids, has_fewer}
use Rattle.pb_gentot.proofs.derivation.derive_root.Goals as goal

pub first_id-requires : goal.first_id-requires
first_id-requires g c =
    let root = c.args.root.now in
    let place = c.place_in-place.ensures ∙ ap (place_of c.args.cap) c.as_slice.ensures.value in
    has_fewer root.source (length root.values.items) c.place_in-place.result (omega (arith, place, place_within c.args.cap root.values.items c.requires.has)) root.ids

pub returns : goal.returns
returns g c =
    let place = c.place_in-place.ensures ∙ ap (place_of c.args.cap) c.as_slice.ensures.value in
    by_ids c.derive_by.result (g.T.StepSink.state c.args.sink.now) (g.T.StepSink.state c.derive_by.new.sink) []
    (λ i. (c.first_id.ensures ∙ ap (ids_at c.args.root.now.source) place) i ++ c.args.own ∷ []) c.derive_by.ensures
