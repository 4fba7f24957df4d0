use Rattle.std.proofs.Common.{None, Err, ap, subst, sym}
use Rattle.pb_base.specs.declared.limit.LimitKind.{LimitKind}
use Rattle.pb_suite.specs.declared.outcome.Outcome.TheVariants as outcome
use Rattle.pbcnf_c.specs.Ready.{StopsSizing}
use Rattle.pbcnf_c.specs.Ready.StopsSizing.{no_memory, over}
use Rattle.pbcnf_c.proofs.ready.size_up.Goals as goal

pub returns-in-Err-NoMemory-clause-stopped : goal.returns-in-Err-NoMemory-clause-stopped
returns-in-Err-NoMemory-clause-stopped c = no_memory

pub returns-clause-stopped : goal.returns-clause-stopped
returns-clause-stopped c =
    subst (λ (k : LimitKind). StopsSizing c.args.options c.args.problem (outcome.Limit None k None)) (sym c.in-Err-Limit.which-is)
    (over c.in-Err-Limit.which (c.in-Err-Limit.ensures.limit c.in-Err-Limit.which (ap Err c.in-Err-Limit.field-0-is)))
