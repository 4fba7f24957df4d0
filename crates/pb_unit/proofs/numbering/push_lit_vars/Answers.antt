use Rattle.std.proofs.Common.{arith}
use Rattle.pb_unit.proofs.Pushed.{lit_vars_push}
use Rattle.pb_unit.proofs.numbering.push_lit_vars.Goals as goal

pub loop-lit-preserved : goal.loop-lit-preserved
loop-lit-preserved c = record {
  vars = lit_vars_push c.loop-lit.lit-index c.args.out.now.items c.loop-lit.out.items c.push_var.new.out.items c.args.lits.now c.lit-item.result (omega arith) c.lit-item.is c.loop-lit.invariant.vars c.in_ok-push_var.ensures.var;
  names = c.in_ok-push_var.ensures.names;
}
