use Rattle.std.proofs.Common.{sym, ◌∙◌}
use Rattle.pb_desk.proofs.ReadLemmas.{refilled_before, refilled_over}
use Rattle.pb_desk.proofs.line.refill.Goals as goal

pub returns-then-not-is_empty-clause-filled : goal.returns-then-not-is_empty-clause-filled
returns-then-not-is_empty-clause-filled g c =
    refilled_before c.args.slot c.args.ahead.now c.bytes.result.now (g.D.Desk.state c.args.desk.now) c.requires.knows c.bytes.ensures (sym c.is_empty.ensures ∙ c.if-not-is_empty.true)

pub returns-then-is_over-clause-filled : goal.returns-then-is_over-clause-filled
returns-then-is_over-clause-filled g c =
    refilled_over c.args.slot c.args.ahead.now c.bytes.result.now (g.D.Desk.state c.args.desk.now) c.requires.knows c.bytes.ensures (sym c.is_empty.ensures ∙ c.if-not-is_empty.false) (sym c.is_over.ensures ∙ c.if-is_over.true)
