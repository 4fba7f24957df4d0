use Rattle.pb_norm.specs.BoundedSums.{sum_within}
use Rattle.pb_family.proofs.Emission.{hands_if_memory, takes_no_memory}
use Rattle.pb_diagram.specs.Clauses.{diagram_clauses}
use Rattle.pb_diagram.proofs.diagram.DiagramFamily.emit.Goals as goal

pub returns : goal.returns
returns g c = record {
  hands = hands_if_memory _ _ _ _ _ _ c.sink_result.ensures (λ x. diagram_clauses (sum_within (c.shape.ensures.terms x) (c.shape.ensures.bound x)) c.args.first) c.emit_whole.ensures;
  never = λ none. takes_no_memory _ _ c.sink_result.ensures;
}
