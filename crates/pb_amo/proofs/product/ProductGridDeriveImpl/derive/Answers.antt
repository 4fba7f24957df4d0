use Rattle.std.proofs.Common.{◌≡◌, ◌∙◌, List, length, ap, arith}
use Rattle.std.proofs.lemmas.List.{length-map}
use Rattle.pb_norm.specs.Constraints.{Weighted, weights}
use Rattle.pb_norm.specs.Reduction.{lits_of}
use Rattle.pb_amo.specs.Product.{product_fresh}
use Rattle.pb_amo.specs.laws.GridCounts.{count_linear}
use Rattle.pb_amo.proofs.product.ProductGridDeriveImpl.derive.Goals as goal

pub derive_grid-requires-clause-room : goal.derive_grid-requires-clause-room
derive_grid-requires-clause-room g c =
    let f = c.args.self.now in
    let ts = weights c.terms.result.now in
    let n = length (lits_of ts) in
    let size : n ≡ length f.sum.of.now.terms = length-map ts (λ (t : Weighted). t.lit) ∙ ap (λ (us : List Weighted). length us) c.terms.ensures.weights in
    omega (arith, c.requires.few, c.requires.low, c.requires.fits, ap product_fresh size, size, f.sum.few, count_linear n n (omega arith))
