use Rattle.std.proofs.Common.{◌∙◌, arith, sym}
use Rattle.pb_operations.proofs.Excesses.{IsTermAt, coef_of-here, coef_of-other}
use Rattle.pb_operations.proofs.implication.coef_at.Goals as goal

pub returns-then-eq : goal.returns-then-eq
returns-then-eq c =
    let item : IsTermAt c.args.terms.now c.args.place c.index-terms-place.result = record { below = omega (arith, c.if-place-terms.false); here = c.index-terms-place.is } in
    c.weight.ensures ∙ coef_of-here c.args.terms.now c.args.place c.args.lit c.index-terms-place.result c.requires.ascending item c.requires.starts (sym c.if-eq.ensures)

pub returns-else-eq : goal.returns-else-eq
returns-else-eq c =
    let item : IsTermAt c.args.terms.now c.args.place c.index-terms-place.result = record { below = omega (arith, c.if-place-terms.false); here = c.index-terms-place.is } in
    coef_of-other c.args.terms.now c.args.place c.args.lit c.index-terms-place.result c.requires.ascending item c.requires.starts (sym c.if-eq.ensures)
