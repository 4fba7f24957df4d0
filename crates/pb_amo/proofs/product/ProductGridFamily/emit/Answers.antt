use Rattle.pb_norm.specs.Reduction.{lits_of}
use Rattle.pb_family.proofs.Emission.{takes_as}
use Rattle.pb_amo.specs.Product.{product_clauses}
use Rattle.pb_amo.proofs.product.ProductGridFamily.emit.Goals as goal

pub returns-clause-hands : goal.returns-clause-hands
returns-clause-hands g c =
    let sink = g.S.ClauseSink in
    takes_as _ _ (sink.state c.args.sink.now) (sink.state c.emit_grid.new.sink) (λ x. product_clauses (lits_of (c.terms.ensures.weights x)) c.args.first) c.in_ok-emit_grid.ensures
