use Rattle.std.proofs.Common.{◌≡◌, ◌∙◌, sym, IsTrue, arith}
use Rattle.std.proofs.lemmas.Bool.Decides.{nat_tests}
use Rattle.std.proofs.lemmas.Option.{IfSome_then}
use Rattle.pb_database.proofs.UnitLemmas.{clause-is}
use Rattle.pb_database.proofs.packed.short_form.Goals as goal

pub returns : goal.returns
returns c =
    let units : IsTrue c.are_units.result = grind (arith, nat_tests, c.if-not-are_units.false) in
    let degree : c.args.constraint.now.degree ≡ 1 = sym c.degree.ensures.value ∙ c.if-degree-ne1.false in
    IfSome_then c.short.result c.short.ensures (λ form e. e ∙ clause-is c.terms-terms.result.now c.args.constraint.now (c.are_units.ensures units) c.terms-terms.ensures.weights degree)
