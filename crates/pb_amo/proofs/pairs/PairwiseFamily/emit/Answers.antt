use Rattle.pb_norm.specs.Reduction.{lits_of}
use Rattle.pb_family.proofs.Emission.{hands_if_memory, takes_no_memory}
use Rattle.pb_amo.specs.Pairwise.{pairwise_clauses}
use Rattle.pb_amo.proofs.pairs.PairwiseFamily.emit.Goals as goal

pub returns : goal.returns
returns g c = record {
  hands = hands_if_memory _ _ _ _ _ _ c.sink_result.ensures (λ x. pairwise_clauses (lits_of (c.terms.ensures.weights x))) c.emit_pairs.ensures;
  never = λ none. takes_no_memory _ _ c.sink_result.ensures;
}
