use Rattle.std.proofs.Common.{Bool, true, false, refl, sym, ◌∙◌, subst, arith}
use Rattle.pb_desk.proofs.ReadLemmas.{reads_begin}
use Rattle.pb_dimacs.proofs.RowLemmas.{row_stopped}
use Rattle.pb_desk.specs.LineReaders.{GivesLine}
use Rattle.pb_check.proofs.NextLines.{SaysSame, row_faulty, row_is, row_last, row_said, row_unread, row_unsaid}
use Rattle.pb_check.proofs.Readers.{row_ready}
use Rattle.pb_check.proofs.derivation.Derivation.next_step.Goals as goal

pub rows-init : goal.rows-init
rows-init g c =
    let old = c.args.self.now.lines in
    record {
      ready = c.requires.ready;
      slot = refl;
      later = omega arith;
      reads = reads_begin old.slot old.ahead (g.D.Desk.state c.args.desk.now) (SaysSame old old) c.requires.ready.knows (λ text. refl);
    }

pub returns-in-Err-clause-stopped : goal.returns-in-Err-clause-stopped
returns-in-Err-clause-stopped g c =
    row_unread c.of_line.result c.in-Err.fault c.args.self.now.lines c.rows.self.lines c.next_line.new.self (g.D.Desk.state c.args.desk.now) (g.D.Desk.state c.rows.desk) (g.D.Desk.state c.next_line.new.desk) c.of_line.ensures.value c.rows.invariant.slot c.rows.invariant.reads
    (row_stopped c.in-Err.fault c.rows.self.lines c.next_line.new.self (g.D.Desk.state c.rows.desk) (g.D.Desk.state c.next_line.new.desk) (c.in-Err.ensures.stopped c.rows.invariant.ready.fine).cause)

pub returns-in-Err-read_step-clause-stopped : goal.returns-in-Err-read_step-clause-stopped
returns-in-Err-read_step-clause-stopped g c =
    row_faulty c.of_step.result c.in-Err-read_step.fault c.args.self.now.lines c.rows.self.lines c.next_line.new.self (g.D.Desk.state c.args.desk.now) (g.D.Desk.state c.rows.desk) (g.D.Desk.state c.next_line.new.desk) c.line.result.now c.number.result c.of_step.ensures.value c.rows.invariant.slot c.line.ensures c.number.ensures c.in-Err-read_step.ensures.fault c.rows.invariant.reads
    (row_is c.in-Ok.more true c.rows.self.lines c.next_line.new.self (g.D.Desk.state c.rows.desk) (g.D.Desk.state c.next_line.new.desk) c.if-not-more.false (c.in-Ok.ensures.line c.rows.invariant.ready.fine))

pub returns-then-not-more-clause-next : goal.returns-then-not-more-clause-next
returns-then-not-more-clause-next g c =
    row_last c.args.self.now.lines c.rows.self.lines c.next_line.new.self (g.D.Desk.state c.args.desk.now) (g.D.Desk.state c.rows.desk) (g.D.Desk.state c.next_line.new.desk) c.rows.invariant.slot c.rows.invariant.reads (row_is c.in-Ok.more false c.rows.self.lines c.next_line.new.self (g.D.Desk.state c.rows.desk) (g.D.Desk.state c.next_line.new.desk) c.if-not-more.true (c.in-Ok.ensures.line c.rows.invariant.ready.fine))

pub returns-then-not-says_nothing-clause-next : goal.returns-then-not-says_nothing-clause-next
returns-then-not-says_nothing-clause-next g c =
    row_said c.args.self.now.lines c.rows.self.lines c.next_line.new.self (g.D.Desk.state c.args.desk.now) (g.D.Desk.state c.rows.desk) (g.D.Desk.state c.next_line.new.desk) c.line.result.now c.in-Ok-read_step.step c.rows.invariant.slot c.line.ensures c.in-Ok-read_step.ensures.ok (sym c.says_nothing.ensures ∙ c.if-not-says_nothing.true) c.rows.invariant.reads
    (row_is c.in-Ok.more true c.rows.self.lines c.next_line.new.self (g.D.Desk.state c.rows.desk) (g.D.Desk.state c.next_line.new.desk) c.if-not-more.false (c.in-Ok.ensures.line c.rows.invariant.ready.fine))

pub rows-preserved : goal.rows-preserved
rows-preserved g c =
    let given = c.in-Ok.ensures.line c.rows.invariant.ready.fine in
    let line = subst (λ (m : Bool). GivesLine m c.rows.self.lines c.next_line.new.self (g.D.Desk.state c.rows.desk) (g.D.Desk.state c.next_line.new.desk)) c.if-not-more.false given in
    record {
      ready = row_ready c.in-Ok.more c.rows.self.lines c.next_line.new.self (g.D.Desk.state c.rows.desk) (g.D.Desk.state c.next_line.new.desk) c.rows.invariant.ready given;
      slot = line.0.slot ∙ c.rows.invariant.slot;
      later = let next = line.1 in omega (arith, next, c.rows.invariant.later);
      reads = row_unsaid c.args.self.now.lines c.rows.self.lines c.next_line.new.self (g.D.Desk.state c.args.desk.now) (g.D.Desk.state c.rows.desk) (g.D.Desk.state c.next_line.new.desk) c.line.result.now c.in-Ok-read_step.step c.rows.invariant.slot c.line.ensures c.in-Ok-read_step.ensures.ok (sym c.says_nothing.ensures ∙ c.if-not-says_nothing.false) c.rows.invariant.reads
          (row_is c.in-Ok.more true c.rows.self.lines c.next_line.new.self (g.D.Desk.state c.rows.desk) (g.D.Desk.state c.next_line.new.desk) c.if-not-more.false given);
    }

pub returns-then-not-more-clause-ready : goal.returns-then-not-more-clause-ready
returns-then-not-more-clause-ready g c =
    row_ready c.in-Ok.more c.rows.self.lines c.next_line.new.self (g.D.Desk.state c.rows.desk) (g.D.Desk.state c.next_line.new.desk) c.rows.invariant.ready (c.in-Ok.ensures.line c.rows.invariant.ready.fine)

pub returns-then-not-says_nothing-clause-ready : goal.returns-then-not-says_nothing-clause-ready
returns-then-not-says_nothing-clause-ready g c =
    row_ready c.in-Ok.more c.rows.self.lines c.next_line.new.self (g.D.Desk.state c.rows.desk) (g.D.Desk.state c.next_line.new.desk) c.rows.invariant.ready (c.in-Ok.ensures.line c.rows.invariant.ready.fine)
