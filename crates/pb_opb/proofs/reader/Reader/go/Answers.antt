use Rattle.std.proofs.Common.{sym, subst, arith}
use Rattle.pb_base.specs.declared.expected.Expected.{Expected}
use Rattle.pb_opb.specs.declared.fault.Refusal.TheVariants.{Unexpected}
use Rattle.pb_opb.specs.reader.Front.{read_kinds}
use Rattle.pb_opb.specs.reader.Steps.{MayLead}
use Rattle.pb_opb.specs.reader.Takes.{Refuses}
use Rattle.pb_opb.proofs.Kept.{went, stopped-at, unexpected}
use Rattle.pb_opb.proofs.reader.Reader.go.Goals as goal

pub returns-in-Some-clause-ok : goal.returns-in-Some-clause-ok
returns-in-Some-clause-ok c = λ k leads.
    went c.args.self.now c.requires k c.in-Some.next _ c.go_on.new.self c.go_on.result (subst (MayLead c.args.self.now.stage k) c.in-Some.is leads) (omega (arith, c.stage_weight.ensures.value)) c.go_on.ensures.ok c.go_on.ensures.moved

pub returns-in-Some-clause-err : goal.returns-in-Some-clause-err
returns-in-Some-clause-err c = λ k leads.
    stopped-at c.args.self.now c.requires k c.in-Some.next _ c.go_on.result (subst (MayLead c.args.self.now.stage k) c.in-Some.is leads) (omega (arith, c.stage_weight.ensures.value)) c.go_on.ensures.err

pub returns-in-None-clause-err : goal.returns-in-None-clause-err
returns-in-None-clause-err c = λ k leads.
    subst (λ (e : Expected). Refuses (read_kinds c.args.self.now) k (Unexpected e)) (sym c.expected.ensures) (unexpected c.args.self.now c.requires k (subst (MayLead c.args.self.now.stage k) c.in-None.is leads))
