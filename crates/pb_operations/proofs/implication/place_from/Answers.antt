use Rattle.std.proofs.Common.{◌≤◌, ◌<◌, ◌∙◌, arith, ap}
use Rattle.std.proofs.lemmas.Bool.Decides.{nat_tests}
use Rattle.pb_base.specs.declared.literal.Term.{Term}
use Rattle.pb_operations.proofs.Excesses.{IsTermAt, skips_earlier, starts_at}
use Rattle.pb_operations.proofs.implication.place_from.Goals as goal

pub skipping-preserved : goal.skipping-preserved
skipping-preserved c =
    let item : IsTermAt c.args.terms.now c.skipping.place c.index-terms-place.result = record { below = c.skipping-test.true; here = c.index-terms-place.is } in
    let same = ap (λ (t : Term). t.lit.var) c.index-terms-place.is in
    let less : c.index-terms-place.result.lit.var < c.args.var = grind (arith, nat_tests, c.if-lt.ensures, same) in
    λ l le. c.skipping.invariant l le ∙ skips_earlier c.args.terms.now c.skipping.place c.args.var c.index-terms-place.result item less l le

pub returns-else-lt-clause-starts : goal.returns-else-lt-clause-starts
returns-else-lt-clause-starts c =
    let item : IsTermAt c.args.terms.now c.skipping.place c.index-terms-place.result = record { below = c.skipping-test.true; here = c.index-terms-place.is } in
    let same = ap (λ (t : Term). t.lit.var) c.index-terms-place.is in
    let above : c.args.var ≤ c.index-terms-place.result.lit.var = grind (arith, nat_tests, c.if-lt.ensures, same) in
    starts_at c.args.terms.now c.skipping.place c.args.var c.index-terms-place.result c.requires item above
