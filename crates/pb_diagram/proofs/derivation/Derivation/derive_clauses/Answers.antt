use Rattle.std.proofs.Common.{◌≡◌, ◌<◌, ◌^◌, ◌+◌, ◌*◌, ◌++◌, ℕ, List, [], ◌∷◌, length, drop, map, refl, ap, arith}
use Rattle.std.proofs.lemmas.List.{length-map}
use Rattle.pb_norm.specs.BoundedSums.{sum_within}
use Rattle.pb_norm.specs.Constraints.{weighted, weights}
use Rattle.pb_derive.specs.Claims.{claim_steps}
use Rattle.pb_derive.specs.Justifications.{Justification, by_justification}
use Rattle.pb_family.proofs.Deriving.{deriving_from, deriving_as, steps_last}
use Rattle.pb_family.proofs.Sequence.{justifications_ids}
use Rattle.pb_diagram.specs.declared.interval.Interval.{Interval}
use Rattle.pb_diagram.specs.Clauses.{diagram_fresh, node_count}
use Rattle.pb_diagram.specs.DiagramSteps.{top_justification}
use Rattle.pb_diagram.specs.inner.NodesAt.{below_at, level_at}
use Rattle.pb_diagram.proofs.DiagramSteps.{read_layer, read_counts, read_next}
use Rattle.pb_diagram.proofs.NodeSteps.{level_few}
use Rattle.pb_diagram.proofs.WholeSteps.{level_fault, level_taken, no_justification}
use Rattle.pb_diagram.proofs.derivation.Derivation.derive_clauses.Goals as goal

pub loop-i-init : goal.loop-i-init
loop-i-init g c = record {
  left = c.weight_of-whole.ensures;
  room = ap (λ (ls : List (List Interval)). c.args.self.now.base + 2 * node_count ls) c.args.self.now.shape.nodes;
  count = omega (arith, ap (λ (ls : List (List Interval)). node_count ls) c.args.self.now.shape.nodes);
  taken = deriving_from _ refl;
}

pub invariant_of-claims : goal.invariant_of-claims
invariant_of-claims g c =
    let shape = c.args.self.now.shape in
    let told = c.layer-layer.ensures in
    let read = read_layer shape c.loop-i.i c.layer-layer.result c.loop-i-test.true told.term told.rest told.nodes told.next in
    let counts = read_counts _ _ _ _ _ _ _ read in
    let next = read_next _ _ _ _ _ _ _ read in
    let few : diagram_fresh (sum_within shape.terms.now shape.bound) < 2 ^ 31 = omega (arith, shape.count, shape.small) in
    record {
      own = omega (arith, c.loop-i.invariant.room, c.args.self.now.modest);
      low = omega (arith, c.loop-i.invariant.room, c.args.self.now.modest);
      high = omega (arith, c.loop-i.invariant.count, c.loop-i.invariant.room);
    }

pub derive_level-requires : goal.derive_level-requires
derive_level-requires g c =
    let shape = c.args.self.now.shape in
    let told = c.layer-layer.ensures in
    let read = read_layer shape c.loop-i.i c.layer-layer.result c.loop-i-test.true told.term told.rest told.nodes told.next in
    record { few = omega (arith, read_counts _ _ _ _ _ _ _ read, c.loop-i.invariant.count, c.requires, shape.count, shape.small) }

pub returns-in_err-derive_level : goal.returns-in_err-derive_level
returns-in_err-derive_level g c =
    let told = c.layer-layer.ensures in
    let read = read_layer c.args.self.now.shape c.loop-i.i c.layer-layer.result c.loop-i-test.true told.term told.rest told.nodes told.next in
    level_fault _ _ _ _ _ _ _ read c.loop-i.id _ refl (top_justification 0 c.args.self.now.base c.args.self.now.own ∷ []) (g.T.StepSink.state c.args.sink.now) (g.T.StepSink.state c.loop-i.sink) c.loop-i.invariant.taken
    _ told.rest c.from_residual.result _ (g.T.StepSink.state c.derive_level.new.sink) c.from_residual.ensures.1 c.in_err-derive_level.ensures

pub loop-i-preserved : goal.loop-i-preserved
loop-i-preserved g c =
    let layer = c.layer-layer.result in
    let told = c.layer-layer.ensures in
    let read = read_layer c.args.self.now.shape c.loop-i.i layer c.loop-i-test.true told.term told.rest told.nodes told.next in
    let counts = read_counts _ _ _ _ _ _ _ read in
    let left = read.whole_is in
    let now = g.T.StepSink.state c.loop-i.sink in
    let nodes = c.layer-layer.result.nodes.now in
    let next = c.layer-layer.result.next.now in
    let nid : ℕ = c.loop-i.id + 2 * length nodes in
    let more = told.rest in
    let t = weighted layer.term.now in
    let rest = drop (c.loop-i.i + 1) (weights c.args.self.now.shape.terms.now) in
    let given = weights layer.rest.now in
    let same : length (level_at t given next nid c.loop-i.id nodes) ≡ length (level_at t rest next nid c.loop-i.id nodes) = λ x. length (level_at t (more x) next nid c.loop-i.id nodes) in
    record {
      left = left;
      room = omega (arith, counts, c.loop-i.invariant.room);
      count = omega (arith, counts, c.in_ok-derive_level.ensures.ids, justifications_ids now.next (level_at t given next nid c.loop-i.id nodes), same, level_few t rest (below_at next nid) 0 c.loop-i.id nodes, c.loop-i.invariant.count);
      taken = level_taken _ _ _ _ _ _ _ read c.loop-i.id nid refl (top_justification 0 c.args.self.now.base c.args.self.now.own ∷ []) (g.T.StepSink.state c.args.sink.now) now c.loop-i.invariant.taken given more (g.T.StepSink.state c.derive_level.new.sink) c.in_ok-derive_level.ensures;
    }

pub derive_claim-requires-clause-few : goal.derive_claim-requires-clause-few
derive_claim-requires-clause-few g c = omega (arith, c.loop-i.invariant.count, c.requires, c.args.self.now.shape.count, c.args.self.now.shape.small)

pub returns : goal.returns
returns g c =
    let now = g.T.StepSink.state c.loop-i.sink in
    let top : List Justification = top_justification 0 c.args.self.now.base c.args.self.now.own ∷ [] in
    let none = no_justification (weights c.args.self.now.shape.terms.now) c.args.self.now.shape.levels.now c.loop-i.i c.loop-i.id (omega (arith, length-map c.args.self.now.shape.terms.now weighted)) in
    steps_last c.derive_claim.result (claim_steps now.next (map by_justification top)) (g.T.StepSink.state c.derive_claim.new.sink)
    (deriving_as (ap (λ (rs : List Justification). claim_steps now.next (map by_justification (rs ++ top))) none) c.loop-i.invariant.taken) c.derive_claim.ensures

pub layer-layer-requires-clause-left : goal.layer-layer-requires-clause-left
layer-layer-requires-clause-left g c = c.loop-i.invariant.left
