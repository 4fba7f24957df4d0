use Rattle.std.proofs.Common.{Err, List, [], ℕ, ap, inl, refl, subst, arith}
use Rattle.pb_base.specs.declared.file.File.TheVariants.{Cnf}
use Rattle.pb_base.proofs.Members.{Contains-here}
use Rattle.pb_words.specs.ProbeWords.{as_probe_words}
use Rattle.pb_suite.specs.CommandSpec.{Text}
use Rattle.pb_suite.specs.ProbeSpec.{probe_spec}
use Rattle.pb_suite.specs.Refusals.{RefusesCnf}
use Rattle.pb_suite.specs.inner.Runs.{fetched}
use Rattle.pb_suite.specs.inner.Saying.{EndsSaying}
use Rattle.pb_suite.specs.Seen.{seen_from}
use Rattle.pb_suite.proofs.Afterwards.{implements_after}
use Rattle.pb_suite.proofs.Endings.{bare_memory}
use Rattle.pb_suite.proofs.Going.{goes_fetched, shelf_is_if}
use Rattle.pb_suite.proofs.ProbeSpecs.{line_due, HasForms}
use Rattle.pb_suite.proofs.Refused.{reading_implements}
use Rattle.pb_suite.proofs.Says.{saying_implements}
use Rattle.pb_suite.proofs.SeenLemmas.{reads_seen, stays_then, told_on}
use Rattle.pb_suite.proofs.SeenSteps.{said_stays, saying_seen, telling_desk}
use Rattle.pb_suite.proofs.commands.probe.probe_file.Goals as goal

pub returns-in-Err-clause-implements : goal.returns-in-Err-clause-implements
returns-in-Err-clause-implements g c =
    let w = as_probe_words c.args.asked.now in
    let text : Text = record { kind = Cnf; name = w.cnf } in
    let a = g.D.Desk.state c.args.desk.now in
    let b = g.D.Desk.state c.read_cnf.new.desk in
    reading_implements (probe_spec w) 0 text (omega arith) (Contains-here text []) (inl refl) RefusesCnf (λ shelf answer unread. unread) (seen_from b a) (seen_from b b)
    c.in-Err.outcome c.in-Err.ensures.stopped (λ steady is. c.in-Err.ensures.steady steady (ap Err is)) (λ e keeps shelf. c.in-Err.ensures.unsettled (ap Err e))

pub returns-in-Err-line_of-clause-implements : goal.returns-in-Err-line_of-clause-implements
returns-in-Err-line_of-clause-implements g c =
    let w = as_probe_words c.args.asked.now in
    let a = g.D.Desk.state c.args.desk.now in
    let b = g.D.Desk.state c.read_cnf.new.desk in
    let read = c.in-Ok.ensures.read in
    bare_memory (probe_spec w) (seen_from b a) (seen_from b b) (goes_fetched 1 0 w.cnf read.0 (seen_from b a) (seen_from b b) (omega arith) (reads_seen (fetched 0 w.cnf read.0) (λ v. refl) a b b read.1))

pub returns-in-Ok-line_of-clause-implements : goal.returns-in-Ok-line_of-clause-implements
returns-in-Ok-line_of-clause-implements g c =
    let w = as_probe_words c.args.asked.now in
    let a = g.D.Desk.state c.args.desk.now in
    let b = g.D.Desk.state c.read_cnf.new.desk in
    let d = g.D.Desk.state c.say.new.desk in
    let text = c.in-Ok.read in
    let read = c.in-Ok.ensures.read in
    let says = subst (λ (xs : List ℕ). EndsSaying xs b d c.say.result) c.deref.ensures.value c.say.ensures in
    let before = (said_stays c.in-Ok-line_of.line.items b d c.say.result says).kept in
    let goes = goes_fetched 1 0 w.cnf read.0 (seen_from d a) (seen_from d b) (omega arith) (reads_seen (fetched 0 w.cnf read.0) (λ v. refl) a b d read.1) in
    let line = c.in-Ok-line_of.line.items in
    let has = shelf_is_if (seen_from d a) (seen_from d b) goes (HasForms w text.head text.forms) (told_on a b d (λ t. HasForms w text.head text.forms t.shelf) before c.in-Ok.ensures.says) in
    let due = line_due w text.head text.forms line c.in-Ok-line_of.ensures (seen_from d b) has in
    implements_after (probe_spec w) (seen_from d a) (seen_from d b) (seen_from d d) goes _
    (saying_implements (probe_spec w) line (seen_from d b) (seen_from d d) (telling_desk b d (g.met.D.Desk.steady_tells c.read_cnf.new.desk)) due c.say.result (saying_seen line b d c.say.result says))

pub returns-in-Ok-line_of-clause-stays : goal.returns-in-Ok-line_of-clause-stays
returns-in-Ok-line_of-clause-stays g c = stays_then (g.D.Desk.state c.args.desk.now) (g.D.Desk.state c.read_cnf.new.desk) (g.D.Desk.state c.say.new.desk) c.in-Ok.ensures.stays (said_stays _ _ _ _ c.say.ensures)
