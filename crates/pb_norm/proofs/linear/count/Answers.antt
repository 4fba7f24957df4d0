use Rattle.std.proofs.Common.{◌^◌, refl, arith}
use Rattle.std.proofs.lemmas.List.{length-map}
use Rattle.pb_norm.specs.Constraints.{weighted, weights}
use Rattle.pb_norm.proofs.Lengths.{few_terms}
use Rattle.pb_norm.proofs.linear.count.Goals as goal

pub returns-in-Some-last-clause-few : goal.returns-in-Some-last-clause-few
returns-in-Some-last-clause-few c =
    let few = few_terms c.args.terms.now (weights c.args.terms.now) c.in-Some.first.now c.in-Some-last.last.now (2 ^ 31) refl c.requires c.in-Some.ensures.value c.in-Some-last.ensures.value c.index.ensures.low c.index-2.ensures.high in
    omega (arith, few, length-map c.args.terms.now weighted)
