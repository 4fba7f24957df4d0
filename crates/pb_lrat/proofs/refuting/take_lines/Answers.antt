use Rattle.std.proofs.Common.{Bool, ℕ, ◌+◌, refl, sym, ap, ◌∙◌, subst}
use Rattle.std.specs.Prelude.{if◌then◌else◌}
use Rattle.pb_desk.specs.LineReaders.{GivesLine}
use Rattle.pb_dimacs.specs.Cursors.{GivesRow}
use Rattle.pb_dimacs.proofs.RowLemmas.{row_given, row_stopped}
use Rattle.pb_lrat.specs.declared.refute_fault.RefuteFault.{RefuteFault}
use Rattle.pb_lrat.specs.declared.denied.LratDenied.TheVariants.{NoEmptyClause}
use Rattle.pb_lrat.specs.LratWalk.LratEnding.{refuted, not_refuted}
use Rattle.pb_lrat.specs.Refuting.{StopsLines}
use Rattle.pb_desk.proofs.EndedLines.{passes_begin}
use Rattle.pb_desk.proofs.ReadLemmas.{reads_begin}
use Rattle.pb_lrat.proofs.Walking.{AllTaken, EndsSame, TakesOn, line_taken, line_stopped, passes_on, row_missed, text_ended}
use Rattle.pb_lrat.proofs.refuting.take_lines.Goals as goal

pub rows-init : goal.rows-init
rows-init g c =
    let a = g.D.Desk.state c.args.desk.now in
    record {
      goes_on = record { slot = refl; limits = refl; fine = c.requires.fine };
      reads = reads_begin c.args.lines.now.slot c.args.lines.now.ahead a (EndsSame c.args.checker.now c.args.lines.now c.args.checker.now c.args.lines.now) c.requires.knows (λ text. refl);
      passes = reads_begin c.args.lines.now.slot c.args.lines.now.ahead a (TakesOn c.args.checker.now c.args.lines.now c.args.checker.now c.args.lines.now) c.requires.knows (λ text. (passes_begin (AllTaken c.args.checker.now) text, λ within. within));
    }

pub returns-in-Err-clause-stopped : goal.returns-in-Err-clause-stopped
returns-in-Err-clause-stopped g c =
    let a = g.D.Desk.state c.args.desk.now in
    let b = g.D.Desk.state c.rows.desk in
    let d = g.D.Desk.state c.next_line.new.desk in
    subst (λ (f : RefuteFault). StopsLines f c.args.checker.now c.args.lines.now c.next_line.new.self a d) (sym c.of_line.ensures)
    (row_missed c.in-Err.fault c.args.checker.now c.rows.checker c.args.lines.now c.rows.lines c.next_line.new.self a b d c.rows.invariant.goes_on.slot c.rows.invariant.reads c.rows.invariant.passes
    (row_stopped c.in-Err.fault c.rows.lines c.next_line.new.self b d (c.in-Err.ensures.stopped c.rows.invariant.goes_on.fine).cause))

pub returns-then-finish-clause-refuted : goal.returns-then-finish-clause-refuted
returns-then-finish-clause-refuted g c =
    let a = g.D.Desk.state c.args.desk.now in
    let b = g.D.Desk.state c.rows.desk in
    let d = g.D.Desk.state c.next_line.new.desk in
    let n = c.next_line.new.self.number + 1 in
    let none = subst (λ (m : Bool). GivesRow m c.rows.lines c.next_line.new.self b d) c.if-not-more.true (row_given c.in-Ok.more c.rows.lines c.next_line.new.self b d (c.in-Ok.ensures.line c.rows.invariant.goes_on.fine)) in
    text_ended c.args.checker.now c.rows.checker c.args.lines.now c.rows.lines c.next_line.new.self a b d refuted c.rows.invariant.goes_on.slot c.rows.invariant.reads none
    (ap (λ (r : Bool). if r then refuted else not_refuted n NoEmptyClause) (sym c.finish.ensures ∙ c.if-finish.true))

pub returns-then-not-more-clause-stopped : goal.returns-then-not-more-clause-stopped
returns-then-not-more-clause-stopped g c =
    let a = g.D.Desk.state c.args.desk.now in
    let b = g.D.Desk.state c.rows.desk in
    let d = g.D.Desk.state c.next_line.new.desk in
    let n = c.next_line.new.self.number + 1 in
    let none = subst (λ (m : Bool). GivesRow m c.rows.lines c.next_line.new.self b d) c.if-not-more.true (row_given c.in-Ok.more c.rows.lines c.next_line.new.self b d (c.in-Ok.ensures.line c.rows.invariant.goes_on.fine)) in
    text_ended c.args.checker.now c.rows.checker c.args.lines.now c.rows.lines c.next_line.new.self a b d (not_refuted (c.number.result + 1) NoEmptyClause) c.rows.invariant.goes_on.slot c.rows.invariant.reads none
    (ap (λ (r : Bool). if r then refuted else not_refuted n NoEmptyClause) (sym c.finish.ensures ∙ c.if-finish.false) ∙ ap (λ (m : ℕ). not_refuted (m + 1) NoEmptyClause) (sym c.number.ensures))

pub returns-in-Err-line-clause-stopped : goal.returns-in-Err-line-clause-stopped
returns-in-Err-line-clause-stopped g c =
    let a = g.D.Desk.state c.args.desk.now in
    let b = g.D.Desk.state c.rows.desk in
    let d = g.D.Desk.state c.next_line.new.desk in
    let more = subst (λ (m : Bool). GivesRow m c.rows.lines c.next_line.new.self b d) c.if-not-more.false (row_given c.in-Ok.more c.rows.lines c.next_line.new.self b d (c.in-Ok.ensures.line c.rows.invariant.goes_on.fine)) in
    subst (λ (f : RefuteFault). StopsLines f c.args.checker.now c.args.lines.now c.next_line.new.self a d) (sym c.of_lrat.ensures)
    (line_stopped c.in-Err-line.fault c.args.checker.now c.rows.checker c.args.lines.now c.rows.lines c.next_line.new.self a b d c.line.result.now c.number-in-Err-line.result c.rows.invariant.goes_on.slot c.line.ensures c.number-in-Err-line.ensures
    c.in-Err-line.ensures.fault c.rows.invariant.reads more)

pub rows-preserved : goal.rows-preserved
rows-preserved g c =
    let a = g.D.Desk.state c.args.desk.now in
    let b = g.D.Desk.state c.rows.desk in
    let d = g.D.Desk.state c.next_line.new.desk in
    let given = c.in-Ok.ensures.line c.rows.invariant.goes_on.fine in
    let more = subst (λ (m : Bool). GivesRow m c.rows.lines c.next_line.new.self b d) c.if-not-more.false (row_given c.in-Ok.more c.rows.lines c.next_line.new.self b d given) in
    let line = subst (λ (m : Bool). GivesLine m c.rows.lines c.next_line.new.self b d) c.if-not-more.false given in
    record {
      goes_on = record { slot = line.0.slot ∙ c.rows.invariant.goes_on.slot; limits = line.0.limits ∙ c.rows.invariant.goes_on.limits; fine = line.0.fault ∙ c.rows.invariant.goes_on.fine };
      reads = line_taken c.args.checker.now c.rows.checker c.line-in-rows.new.self c.args.lines.now c.rows.lines c.next_line.new.self a b d c.line.result.now c.rows.invariant.goes_on.slot c.line.ensures c.in-Ok-line.ensures.ok c.rows.invariant.reads more;
      passes = passes_on c.args.checker.now c.rows.checker c.line-in-rows.new.self c.args.lines.now c.rows.lines c.next_line.new.self a b d c.line.result.now c.rows.invariant.goes_on.slot c.line.ensures c.in-Ok-line.ensures.ok c.rows.invariant.passes line;
    }
