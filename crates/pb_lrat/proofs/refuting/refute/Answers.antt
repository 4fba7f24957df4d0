use Rattle.pb_lrat.proofs.Walking.{refutes_text, stops_text, wants_at_start}
use Rattle.pb_lrat.proofs.refuting.refute.Goals as goal

pub returns-clause-stopped : goal.returns-clause-stopped
returns-clause-stopped g c =
    stops_text c.take_lines.result c.args.slot c.args.vars c.args.clauses c.in_ok-checker.checker c.in_ok-lines.lines c.take_lines.new.lines (g.D.Desk.state c.args.desk.now) (g.D.Desk.state c.take_lines.new.desk) c.in_ok-lines.ensures c.in_ok-checker.ensures
    c.take_lines.ensures.stopped

pub returns-clause-refuted : goal.returns-clause-refuted
returns-clause-refuted g c =
    refutes_text c.take_lines.result c.args.slot c.args.vars c.args.clauses c.in_ok-checker.checker c.in_ok-lines.lines c.take_lines.new.lines (g.D.Desk.state c.args.desk.now) (g.D.Desk.state c.take_lines.new.desk) c.in_ok-lines.ensures c.in_ok-checker.ensures
    c.take_lines.ensures.refuted

pub returns-in_err-checker-clause-stopped : goal.returns-in_err-checker-clause-stopped
returns-in_err-checker-clause-stopped g c = wants_at_start c.from_residual-in_err-checker.result c.args.slot c.args.vars c.args.clauses (g.D.Desk.state c.args.desk.now) c.requires.not_ended c.from_residual-in_err-checker.ensures.1
