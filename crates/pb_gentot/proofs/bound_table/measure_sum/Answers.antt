use Rattle.std.proofs.Common.{◌≡◌, length, refl, sym, ◌∙◌, arith, eqb-true, false-eqb}
use Rattle.pb_gentot.specs.declared.measure.Part.{Part}
use Rattle.pb_gentot.proofs.KeptTables.{none_measured, many_fresh}
use Rattle.pb_gentot.proofs.bound_table.measure_sum.Goals as goal

pub returns-then-is_empty : goal.returns-then-is_empty
returns-then-is_empty c =
    let none : length c.args.terms.now ≡ 0 = eqb-true _ 0 (sym c.is_empty.ensures ∙ c.if-is_empty.true) in
    let part : Part = record { values = c.new.result; fresh = 0; clauses = 0 } in
    none_measured c.args.bound c.args.budget c.args.terms.now part none c.new.ensures.items refl refl

pub returns-then-terms-budget : goal.returns-then-terms-budget
returns-then-terms-budget c =
    let some = false-eqb (length c.args.terms.now) 0 (sym c.if-is_empty.false ∙ c.is_empty.ensures) in
    many_fresh c.args.bound c.args.budget c.args.terms.now (omega (arith, some)) (omega (arith, c.if-terms-budget.true))
