use Rattle.std.proofs.Common.{rules, append_assoc, map}
use Rattle.std.proofs.lemmas.Result.{IfOk-equal, on_err_weaker}
use Rattle.pb_steps.specs.StepGrammar.StepSymbol.{number}
use Rattle.pb_steps.proofs.Written.{constraint_then, kept_further}
use Rattle.pb_steps.proofs.write.push_rup.Goals as goal

pub returns-clause-ok : goal.returns-clause-ok
returns-clause-ok c = rw (constraint_then c.args.terms.now c.args.right (map number c.args.ids.now)) (search (rules, IfOk-equal, append_assoc))

pub returns-clause-kept : goal.returns-clause-kept
returns-clause-kept c =
    on_err_weaker c.push_ids.result
    (λ h. kept_further c.args.out.now.items _ c.extend_from_slice.new.self.items _ c.in_ok-extend_from_slice.ensures.items (kept_further c.extend_from_slice.new.self.items _ c.push_constraint.new.out.items _ c.in_ok-push_constraint.ensures.ok h))
    c.push_ids.ensures.kept
