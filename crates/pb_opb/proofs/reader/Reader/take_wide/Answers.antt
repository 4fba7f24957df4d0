use Rattle.std.proofs.Common.{sym, subst}
use Rattle.pb_base.specs.declared.expected.Expected.{Expected}
use Rattle.pb_opb.specs.declared.fault.Refusal.TheVariants.{Unexpected}
use Rattle.pb_opb.specs.Grammar.Kind.{integer}
use Rattle.pb_opb.specs.reader.Front.{read_kinds}
use Rattle.pb_opb.specs.reader.Takes.{Refuses}
use Rattle.pb_opb.proofs.Kept.{wide-stopped, unexpected}
use Rattle.pb_opb.proofs.reader.Reader.take_wide.Goals as goal

pub returns-in-Some-clause-err : goal.returns-in-Some-clause-err
returns-in-Some-clause-err c = λ n great.
    wide-stopped c.args.self.now c.requires (integer n) c.in-Some.next c.go_on.result (c.in-Some.ensures n great) c.go_on.ensures.err

pub returns-in-None-clause-err : goal.returns-in-None-clause-err
returns-in-None-clause-err c = λ n great.
    subst (λ (e : Expected). Refuses (read_kinds c.args.self.now) (integer n) (Unexpected e)) (sym c.expected.ensures) (unexpected c.args.self.now c.requires (integer n) (c.in-None.ensures n great))
