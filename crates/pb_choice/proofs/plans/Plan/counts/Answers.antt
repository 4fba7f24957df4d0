use Rattle.std.proofs.Common.{ap, length, arith}
use Rattle.pb_choice.proofs.FamilyCounts.{left_fresh_small, left_small}
use Rattle.pb_choice.proofs.RestTerms.{units_short}
use Rattle.pb_choice.proofs.plans.Plan.counts.Goals as goal

pub overflow_add-result : goal.overflow_add-result
overflow_add-result c =
    let p = c.args.self.now in
    omega (arith, c.len-units.ensures.few, c.len-units-2.ensures, ap length p.units_are, units_short p.constraint.now, c.clauses.ensures, left_small p.left)

pub returns-clause-few_fresh : goal.returns-clause-few_fresh
returns-clause-few_fresh c = omega (arith, c.fresh.ensures, left_fresh_small c.args.self.now.left)

pub returns-clause-few_clauses : goal.returns-clause-few_clauses
returns-clause-few_clauses c =
    let p = c.args.self.now in
    omega (arith, c.len-units.ensures.few, c.len-units-2.ensures, ap length p.units_are, units_short p.constraint.now, c.clauses.ensures, left_small p.left)
