use Rattle.std.proofs.Common.{◌≡◌, length, refl, sym, ◌∙◌, arith, eqb-true, false-eqb}
use Rattle.pb_family.proofs.Deriving.{steps_same, takes_no_steps}
use Rattle.pb_tree.proofs.TreePhases.{part_reifications, same_phases}
use Rattle.pb_gentot.specs.Generalized.{generalized}
use Rattle.pb_gentot.specs.inner.KeptTables.{justifications_by}
use Rattle.pb_gentot.proofs.KeptTables.{no_steps}
use Rattle.pb_gentot.proofs.Parts.{leaves_add}
use Rattle.pb_gentot.proofs.RisingSteps.{table_counted, table_same}
use Rattle.pb_gentot.proofs.table_steps.derive_table.Goals as goal

pub returns-then-is_empty : goal.returns-then-is_empty
returns-then-is_empty g c =
    let none : length c.args.terms.now ≡ 0 = eqb-true _ 0 (sym c.is_empty.ensures ∙ c.if-is_empty.true) in
    let old = g.T.StepSink.state c.args.sink.now in
    rw (no_steps c.args.bound c.args.terms.now c.args.first old.next none) (takes_no_steps old)

pub invariant_of-whole : goal.invariant_of-whole
invariant_of-whole g c =
    let some = false-eqb (length c.args.terms.now) 0 (sym c.if-is_empty.false ∙ c.is_empty.ensures) in
    record { whole = record { some = omega (arith, some); small = c.requires.small; positive = c.requires.positive; light = c.requires.light; low = c.requires.low; fits = c.requires.fits } }

pub derive_along-requires-clause-few : goal.derive_along-requires-clause-few
derive_along-requires-clause-few g c = λ id. omega (arith, table_counted c.args.bound c.args.terms.now id (leaves_add c.args.terms.now c.requires.positive), c.requires.modest)

pub returns : goal.returns
returns g c =
    let ts = c.args.terms.now in
    let old = g.T.StepSink.state c.args.sink.now in
    let rs = justifications_by c.args.bound ts 0 old.next in
    let qs = justifications_by c.args.bound ts c.args.first old.next in
    steps_same c.derive_along.result _ _ old (g.T.StepSink.state c.derive_along.new.sink) (same_phases old.next (part_reifications (generalized c.args.bound) ts c.args.first) rs qs (table_same c.args.bound ts c.args.first old.next old.next refl)) c.derive_along.ensures
