use Rattle.std.proofs.Common.{sym, subst}
use Rattle.pb_suite.specs.ProbeSpec.{SaysOfLits}
use Rattle.pb_suite.specs.ProbeSpec.SaysOfLits.{conflict, fixed}
use Rattle.pb_suite.proofs.commands.probe.line_of.Goals as goal

pub returns-in_ok-conflict_line-in-None : goal.returns-in_ok-conflict_line-in-None
returns-in_ok-conflict_line-in-None c = λ clauses are.
    subst (SaysOfLits clauses c.args.lits.now) (sym c.in_ok-conflict_line-in-None.ensures) (conflict (rw c.in-None.is at (c.in_ok-reached_literals.ensures clauses are)))

pub returns-in_ok-fixed_line-in-Some : goal.returns-in_ok-fixed_line-in-Some
returns-in_ok-fixed_line-in-Some c = λ clauses are.
    subst (SaysOfLits clauses c.args.lits.now) (sym c.in_ok-fixed_line-in-Some.ensures)
    (rw c.deref.ensures.value (fixed c.in-Some.found.items (rw c.in-Some.is at (c.in_ok-reached_literals.ensures clauses are))))
