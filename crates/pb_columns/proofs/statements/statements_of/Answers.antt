use Rattle.std.proofs.lemmas.Bool.{false≢true}
use Rattle.pb_columns.specs.Columns.StopsColumns.{heavy, many, unfit}
use Rattle.pb_columns.proofs.statements.statements_of.Goals as goal

pub returns-then-not-is_fit-clause-stopped : goal.returns-then-not-is_fit-clause-stopped
returns-then-not-is_fit-clause-stopped c = unfit (λ fit. false≢true (c.if-not-is_fit.ensures.1 fit))

pub returns-then-columns-gt-MAX_STATEMENTS-clause-stopped : goal.returns-then-columns-gt-MAX_STATEMENTS-clause-stopped
returns-then-columns-gt-MAX_STATEMENTS-clause-stopped c = many c.if-columns-gt-MAX_STATEMENTS.true

pub returns-in-Some-clause-stopped : goal.returns-in-Some-clause-stopped
returns-in-Some-clause-stopped c =
    let found = c.in-Some.ensures in
    heavy c.in_ok-statements.statements found.0 found.1.0 c.in-Some.at c.in_ok-statements.ensures.given found.1.1.0 found.1.1.1.0 found.1.1.1.1
