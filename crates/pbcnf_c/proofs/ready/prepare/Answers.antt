use Rattle.std.proofs.Common.{◌∙◌, sym}
use Rattle.pbcnf_c.specs.Choices.{bound_of}
use Rattle.pbcnf_c.specs.Ready.StopsEncoding.{usage}
use Rattle.pbcnf_c.proofs.Prepared.{not_read, not_sized}
use Rattle.pbcnf_c.proofs.ready.prepare.Goals as goal

pub returns-in_default-clause-stopped : goal.returns-in_default-clause-stopped
returns-in_default-clause-stopped c = usage (sym c.options_of.ensures.value ∙ c.in_default.is)

pub returns-in-Err-clause-stopped : goal.returns-in-Err-clause-stopped
returns-in-Err-clause-stopped c = not_read c.args.chosen.now (bound_of c.args.bound.now) c.bound_of.result c.args.opb.now c.in-Some.options c.in-Err.outcome (sym c.options_of.ensures.value ∙ c.in-Some.is) c.bound_of.ensures c.in-Err.ensures.stopped

pub returns-in-Ok-clause-stopped : goal.returns-in-Ok-clause-stopped
returns-in-Ok-clause-stopped c = not_sized c.args.chosen.now (bound_of c.args.bound.now) c.bound_of.result c.args.opb.now c.in-Some.options c.in-Ok.problem c.size_up.result (sym c.options_of.ensures.value ∙ c.in-Some.is) c.bound_of.ensures c.in-Ok.ensures.denotes c.size_up.ensures.stopped
