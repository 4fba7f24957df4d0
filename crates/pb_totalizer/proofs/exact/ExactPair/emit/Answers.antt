use Rattle.pb_norm.specs.BoundedSums.{sum_within}
use Rattle.pb_family.proofs.Emission.{hands_if_memory, takes_no_memory}
use Rattle.pb_totalizer.specs.Exact.{exact_clauses}
use Rattle.pb_totalizer.proofs.WholeTrees.{whole_of}
use Rattle.pb_totalizer.proofs.exact.ExactPair.emit.Goals as goal

pub invariant_of-whole : goal.invariant_of-whole
invariant_of-whole g c =
    let f = c.args.self.now in
    record { whole = whole_of f.terms.items c.as_slice.result.now f.bound c.args.first f.units f.proper f.few c.as_slice.ensures.value c.requires.low c.requires.fits }

pub returns : goal.returns
returns g c = record {
  hands = hands_if_memory _ _ _ _ _ _ c.sink_result.ensures (λ x. exact_clauses (sum_within (c.as_slice.ensures.value x) c.args.self.now.bound) c.args.first) c.emit_exact.ensures;
  never = λ none. takes_no_memory _ _ c.sink_result.ensures;
}
