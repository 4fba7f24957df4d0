use Rattle.std.proofs.Common.{◌∙◌, ◌++◌, ◌∷◌, [], List, ap, arith, map, sym, take}
use Rattle.std.proofs.lemmas.List.{map_more, take_all}
use Rattle.pb_norm.specs.Constraints.{weighted}
use Rattle.pb_diagram.specs.declared.node.Node.{Node}
use Rattle.pb_diagram.specs.GuardedSteps.{node_in}
use Rattle.pb_diagram.proofs.nodes.list_level.Goals as goal

pub loop-place-preserved : goal.loop-place-preserved
loop-place-preserved c =
    let layer = c.args.layer in
    let node = node_in (weighted layer.term.now).coef layer.whole layer.next.now in
    let before = map node (take c.loop-place.place layer.nodes.now) in
    c.in_ok-push.ensures.items
    ∙ ap (λ (ns : List Node). ns ++ c.node_of.result ∷ []) c.loop-place.invariant
    ∙ ap (λ (n : Node). before ++ n ∷ []) c.node_of.ensures
    ∙ sym (map_more node layer.nodes.now c.loop-place.place (record { low = 0; top = 0 }) (omega arith))

pub returns : goal.returns
returns c =
    let layer = c.args.layer in
    c.loop-place.invariant ∙ ap (map (node_in (weighted layer.term.now).coef layer.whole layer.next.now)) (take_all c.loop-place.place layer.nodes.now (omega arith))
