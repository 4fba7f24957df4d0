use Rattle.std.proofs.Common.{◌+◌, ◌∙◌, ◌++◌, ◌∷◌, [], List, ap, arith, drop, map}
use Rattle.std.proofs.lemmas.List.{length-map}
use Rattle.pb_norm.specs.Constraints.{weighted, weights}
use Rattle.pb_diagram.specs.declared.node.Node.{Node}
use Rattle.pb_diagram.specs.GuardedSteps.{node_in, nodes_in}
use Rattle.pb_diagram.proofs.DiagramSteps.{read_layer}
use Rattle.pb_diagram.proofs.GuardedNodes.{nodes_done, nodes_left, nodes_listed}
use Rattle.pb_diagram.proofs.nodes.list_nodes.Goals as goal

pub loop-i-init : goal.loop-i-init
loop-i-init c = record {
  left = c.weight_of-whole.ensures;
  listed = ap (λ (ls : List (List Node)). ls ++ nodes_in (weights c.args.shape.terms.now) c.args.shape.levels.now) c.new-levels.ensures.items;
}

pub layer-layer-requires-clause-left : goal.layer-layer-requires-clause-left
layer-layer-requires-clause-left c = c.loop-i.invariant.left

pub loop-i-preserved : goal.loop-i-preserved
loop-i-preserved c =
    let shape = c.args.shape in
    let layer = c.layer-layer.result in
    let told = c.layer-layer.ensures in
    let read = read_layer shape c.loop-i.i layer c.loop-i-test.true told.term told.rest told.nodes told.next in
    let ts = weights shape.terms.now in
    let before = c.loop-i.levels.items in
    let now = map (node_in (weighted layer.term.now).coef layer.whole layer.next.now) layer.nodes.now in
    let rest = nodes_in (drop (c.loop-i.i + 1) ts) (drop (c.loop-i.i + 1) shape.levels.now) in
    record {
      left = read.whole_is;
      listed =
          ap (λ (ls : List (List Node)). ls ++ rest) c.in_ok-push.ensures.items
          ∙ ap (λ (ns : List Node). (before ++ ns ∷ []) ++ rest) (c.from_vec.ensures ∙ c.in_ok-list_level.ensures)
          ∙ nodes_listed (nodes_in ts shape.levels.now) before now (nodes_in (drop c.loop-i.i ts) (drop c.loop-i.i shape.levels.now)) rest c.loop-i.invariant.listed (nodes_left ts shape.levels.now c.loop-i.i _ _ _ _ read);
    }

pub returns : goal.returns
returns c = nodes_done (weights c.args.shape.terms.now) c.args.shape.levels.now c.loop-i.i c.loop-i.levels.items (omega (arith, length-map c.args.shape.terms.now weighted)) c.loop-i.invariant.listed
