use Rattle.std.proofs.Common.{ap, sym, subst}
use Rattle.pb_base.specs.declared.literal.Lit.{Lit}
use Rattle.pb_family.specs.StepSinks.{TakesSteps}
use Rattle.pb_family.proofs.TermSlices.{literal_of_term}
use Rattle.pb_counter.specs.CounterRows.{row_steps}
use Rattle.pb_counter.proofs.RowsHanding.{all_stopped}
use Rattle.pb_counter.proofs.halves.derive_one_row.Goals as goal

pub returns-in_err-derive_row-clause-hands : goal.returns-in_err-derive_row-clause-hands
returns-in_err-derive_row-clause-hands g c =
    let r = c.args.rows in
    let old = g.T.StepSink.state c.args.sink.now in
    let after = g.T.StepSink.state c.derive_row.new.sink in
    all_stopped c.from_residual.result _ c.from_residual.ensures.1
    (ap (λ (l : Lit). row_steps l r.first r.last r.order r.whole old.next) (sym (literal_of_term r.terms.now 0 c.index-rows-0.result c.requires.some))) c.in_err-derive_row.ensures.hands

pub returns-clause-hands : goal.returns-clause-hands
returns-clause-hands g c =
    let r = c.args.rows in
    let old = g.T.StepSink.state c.args.sink.now in
    let after = g.T.StepSink.state c.derive_row.new.sink in
    subst (λ (l : Lit). TakesSteps (row_steps l r.first r.last r.order r.whole old.next) old after) (sym (literal_of_term r.terms.now 0 c.index-rows-0.result c.requires.some)) c.in_ok-derive_row.ensures.hands
