use Rattle.std.proofs.Common.{◌<◌, ◌^◌, List, length, ap, arith}
use Rattle.std.proofs.lemmas.List.{length-map}
use Rattle.pb_norm.specs.Constraints.{Weighted, weights}
use Rattle.pb_norm.specs.Reduction.{lits_of}
use Rattle.pb_amo.proofs.Claiming.{few_pairs}
use Rattle.pb_amo.proofs.pairs.PairwiseDeriveImpl.derive.Goals as goal

pub derive_pairs-requires-clause-room : goal.derive_pairs-requires-clause-room
derive_pairs-requires-clause-room g c =
    let ts = weights c.terms.result.now in
    let few : length (lits_of ts) < 2 ^ 31 = omega (arith, length-map ts (λ (t : Weighted). t.lit), ap (λ (us : List Weighted). length us) c.terms.ensures.weights, c.terms.ensures.few) in
    omega (arith, few_pairs (length (lits_of ts)) few, c.requires.few)
