use Rattle.pb_encode.proofs.measuring.count_found.Goals as goal

pub returns-in-Clause-clause-counts : goal.returns-in-Clause-clause-counts
returns-in-Clause-clause-counts c = rw c.in-Clause.is (c.add_clause.ensures c.args.options.now c.in-Clause.field-0.lits c.in-Clause.field-0.some)
