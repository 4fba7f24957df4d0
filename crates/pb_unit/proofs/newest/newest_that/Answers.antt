use Rattle.std.proofs.Common.{◌∙◌, ◌<◌, ◌-◌, length, arith, true, subst}
use Rattle.std.specs.Fn.{FnReturnsAt}
use Rattle.std.proofs.lemmas.Fn.{says_at}
use Rattle.std.proofs.lemmas.List.{get_or_default}
use Rattle.pb_unit.proofs.newest.newest_that.Goals as goal

pub returns-then-passes-clause-at : goal.returns-then-passes-clause-at
returns-then-passes-clause-at g c = λ d.
    let below : length c.args.items.now - 1 - c.loop-back.back < length c.args.items.now = omega (arith, c.loop-back-test.true, c.min-back-end.ensures) in
    subst (λ x. FnReturnsAt g.F.Fn c.args.passes x true) (c.index-items-index.is ∙ get_or_default c.args.items.now (length c.args.items.now - 1 - c.loop-back.back) c.index-items-index.result d below)
    (says_at g.F.Fn c.passes.ensures c.if-passes.true)
