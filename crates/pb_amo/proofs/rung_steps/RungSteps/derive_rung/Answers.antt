use Rattle.std.proofs.Common.{◌-◌, length, sym, arith}
use Rattle.pb_family.proofs.Deriving.{steps_same}
use Rattle.pb_family.proofs.TermSlices.{literal_of_term}
use Rattle.pb_amo.proofs.LadderHanding.{rung_same}
use Rattle.pb_amo.proofs.rung_steps.RungSteps.derive_rung.Goals as goal

pub returns : goal.returns
returns g c =
    let rungs = c.args.self.now.rungs in
    let ts = rungs.terms.now in
    let old = g.T.StepSink.state c.args.sink.now in
    steps_same c.derive_reification-2.result _ _ old (g.T.StepSink.state c.derive_reification-2.new.sink)
    (rung_same ts rungs.first c.args.number old.next _ _ _ (omega (arith, c.if-number-eq0.false)) c.bit-var.ensures
    (sym (literal_of_term ts (length ts - 1 - c.args.number) c.index-terms-terms.result (omega (arith, c.requires.within)))) c.bit.ensures) c.derive_reification-2.ensures
