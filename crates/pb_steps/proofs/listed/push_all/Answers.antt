use Rattle.pb_steps.specs.StepText.{with_blanks}
use Rattle.pb_steps.proofs.Written.{on_err, kept_further, grown, whole}
use Rattle.pb_steps.proofs.listed.push_all.Goals as goal

pub returns-in_err-push-clause-kept : goal.returns-in_err-push-clause-kept
returns-in_err-push-clause-kept g c = on_err _ (kept_further c.args.out.now.items _ c.loop-item.out.items _ c.loop-item.invariant c.in_err-push.ensures.kept)

pub loop-item-preserved : goal.loop-item-preserved
loop-item-preserved g c = grown (λ x. with_blanks (g.T.Listed.symbols x)) c.args.items.now c.loop-item.item-index c.item-item.result c.args.out.now.items c.loop-item.out.items c.push.new.out.items c.loop-item-test.true c.item-item.is c.loop-item.invariant c.in_ok-push.ensures.ok

pub returns-clause-ok : goal.returns-clause-ok
returns-clause-ok g c = whole g.T.Listed.symbols c.args.items.now c.loop-item.item-index c.args.out.now.items c.loop-item.out.items c.loop-item-test.false c.loop-item.invariant
