use Rattle.std.proofs.Common.{◌∙◌, subst, sym}
use Rattle.pb_columns.specs.Columns.{columns_at, Columns}
use Rattle.pbcnf_c.specs.Constraints.{StopsConstraints}
use Rattle.pbcnf_c.specs.Constraints.StopsConstraints.{usage}
use Rattle.pbcnf_c.specs.declared.constraints.Blame.{Blame}
use Rattle.pbcnf_c.proofs.Constrained.{columns_stop, not_sized}
use Rattle.pbcnf_c.proofs.constraints.prepare_all.Goals as goal

pub returns-in_default-clause-stopped : goal.returns-in_default-clause-stopped
returns-in_default-clause-stopped c = usage (sym c.options_of.ensures.value ∙ c.in_default.is)

pub returns-in-Err-clause-stopped : goal.returns-in-Err-clause-stopped
returns-in-Err-clause-stopped c =
    let columns = c.args.columns.now in
    let given : Columns = columns_at columns.words.now columns.literals.now columns.sums.now columns.first in
    subst (λ (b : Blame). StopsConstraints c.args.chosen.now given b.at b.outcome) (sym c.blame_of.ensures)
    (columns_stop c.args.chosen.now given c.in-Some.options c.in-Err.fault (sym c.options_of.ensures.value ∙ c.in-Some.is) c.in-Err.ensures.stopped)

pub returns-in-Err-size_up-clause-stopped : goal.returns-in-Err-size_up-clause-stopped
returns-in-Err-size_up-clause-stopped c =
    let columns = c.args.columns.now in
    let given : Columns = columns_at columns.words.now columns.literals.now columns.sums.now columns.first in
    not_sized c.args.chosen.now given c.in-Some.options c.in-Ok.statements c.problem_of.result c.in-Err-size_up.outcome
    (sym c.options_of.ensures.value ∙ c.in-Some.is) c.in-Ok.ensures.given c.in-Ok.ensures.within c.problem_of.ensures c.in-Err-size_up.ensures.stopped
