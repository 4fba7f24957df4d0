use Rattle.std.proofs.Common.{◌≡◌, ◌∙◌, ◌≤◌, ◌^◌, IfOk, IsErrOf, subst}
use Rattle.pb_base.specs.Problems.{originals}
use Rattle.pb_named.specs.NamedProblems.{Table, all_names, by_table}
use Rattle.pb_named.specs.declared.numbering.NumberFault.TheVariants.{Variables as HasTooMany}
use Rattle.pb_named.proofs.TableLemmas.{table-made, known-objective, known-all_statements}
use Rattle.pb_named.proofs.numbering.by_names.Goals as goal

pub by_table-requires-clause-places : goal.by_table-requires-clause-places
by_table-requires-clause-places c =
    c.as_slice.ensures ∙ (table-made c.args.table.now.numbered (all_names c.args.problem) _ _ _ _ (λ i. record { numbered = c.args.table.now.numbered; names = c.requires i }) c.new-places.ensures (c.in_ok-note_problem.ensures.noted, c.in_ok-note_problem.ensures.places)).1

pub by_table-requires-clause-objective : goal.by_table-requires-clause-objective
by_table-requires-clause-objective c =
    known-objective c.args.table.now.numbered c.args.problem _ (table-made c.args.table.now.numbered (all_names c.args.problem) _ _ _ _ (λ i. record { numbered = c.args.table.now.numbered; names = c.requires i }) c.new-places.ensures (c.in_ok-note_problem.ensures.noted, c.in_ok-note_problem.ensures.places)).0

pub by_table-requires-clause-statements : goal.by_table-requires-clause-statements
by_table-requires-clause-statements c =
    known-all_statements c.args.table.now.numbered c.args.problem _ (table-made c.args.table.now.numbered (all_names c.args.problem) _ _ _ _ (λ i. record { numbered = c.args.table.now.numbered; names = c.requires i }) c.new-places.ensures (c.in_ok-note_problem.ensures.noted, c.in_ok-note_problem.ensures.places)).0

pub returns-clause-ok : goal.returns-clause-ok
returns-clause-ok c =
    subst (λ (t : Table). IfOk c.by_table.result (λ p. p ≡ by_table t c.args.problem))
    (table-made c.args.table.now.numbered (all_names c.args.problem) _ _ _ _ (λ i. record { numbered = c.args.table.now.numbered; names = c.requires i }) c.new-places.ensures (c.in_ok-note_problem.ensures.noted, c.in_ok-note_problem.ensures.places)).0
    c.by_table.ensures.ok

pub returns-clause-many : goal.returns-clause-many
returns-clause-many c =
    subst (λ (t : Table). IsErrOf c.by_table.result HasTooMany → 2 ^ 31 ≤ originals (by_table t c.args.problem))
    (table-made c.args.table.now.numbered (all_names c.args.problem) _ _ _ _ (λ i. record { numbered = c.args.table.now.numbered; names = c.requires i }) c.new-places.ensures (c.in_ok-note_problem.ensures.noted, c.in_ok-note_problem.ensures.places)).0
    c.by_table.ensures.many
