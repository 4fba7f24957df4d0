use Rattle.std.proofs.Common.{sym, ◌∙◌, subst}
use Rattle.std.proofs.lemmas.List.Elements.{All-more}
use Rattle.pb_rules.specs.inner.Tops.{IsWeakening}
use Rattle.pb_rules.proofs.pol.weakenings_in_front.Goals as goal

pub loop-place-preserved : goal.loop-place-preserved
loop-place-preserved c =
    All-more IsWeakening c.args.ops.now c.loop-place.place c.index-ops-place.result c.loop-place-test.true c.loop-place.invariant (subst IsWeakening c.index-ops-place.is (sym c.weakens.ensures ∙ c.if-not-weakens.false))
