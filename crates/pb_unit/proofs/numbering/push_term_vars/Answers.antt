use Rattle.std.proofs.Common.{arith}
use Rattle.pb_unit.proofs.Pushed.{term_vars_push}
use Rattle.pb_unit.proofs.numbering.push_term_vars.Goals as goal

pub loop-term-preserved : goal.loop-term-preserved
loop-term-preserved c = record {
  vars = term_vars_push c.loop-term.term-index c.args.out.now.items c.loop-term.out.items c.push_var.new.out.items c.args.terms.now c.term-item.result (omega arith) c.term-item.is c.loop-term.invariant.vars c.in_ok-push_var.ensures.var;
  names = c.in_ok-push_var.ensures.names;
}
