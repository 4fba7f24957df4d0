use Rattle.std.proofs.Common.{◌∙◌, sym}
use Rattle.pb_steps.specs.Database.{is_out}
use Rattle.pb_rules.proofs.Finding.{found_here, found_later}
use Rattle.pb_rules.proofs.del.first_out.Goals as goal

pub loop-id-preserved : goal.loop-id-preserved
loop-id-preserved c =
    c.loop-id.invariant ∙ found_later (is_out c.args.db.now.live) c.args.ids.now c.loop-id.id-index 0 c.loop-id-test.true (sym c.is_out.ensures ∙ c.if-is_out.false)

pub returns-then-is_out : goal.returns-then-is_out
returns-then-is_out c =
    sym (c.loop-id.invariant ∙ found_here (is_out c.args.db.now.live) c.args.ids.now c.loop-id.id-index 0 c.loop-id-test.true (sym c.is_out.ensures ∙ c.if-is_out.true))
