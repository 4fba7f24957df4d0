use Rattle.std.proofs.Common.{sym, subst}
use Rattle.pb_base.specs.declared.expected.Expected.{Expected}
use Rattle.pb_opb.specs.declared.fault.Refusal.TheVariants.{Unexpected}
use Rattle.pb_opb.specs.Grammar.Kind.{end}
use Rattle.pb_opb.specs.reader.Front.{read_kinds}
use Rattle.pb_opb.specs.reader.Takes.{Refuses}
use Rattle.pb_opb.proofs.Kept.{finishes, unended}
use Rattle.pb_opb.proofs.reader.Reader.finish.Goals as goal

pub returns-in-Start-clause-ok : goal.returns-in-Start-clause-ok
returns-in-Start-clause-ok c = finishes c.args.self c.requires c.in-Start.is

pub returns : goal.returns
returns c = record {
  ok = tt;
  err = subst (λ (e : Expected). Refuses (read_kinds c.args.self) end (Unexpected e)) (sym c.expected.ensures) (unended c.args.self c.requires c.in_default.not-Start c.in_default.not-Next);
}
