use Rattle.std.proofs.Common.{◌≡◌, ◌<◌, ◌^◌, List, sym, subst}
use Rattle.std.specs.Prelude.{IfOk}
use Rattle.pb_norm.specs.BoundedSums.{IsOverDistinct}
use Rattle.pb_norm.specs.Constraints.{AllPositive, Weighted, weight}
use Rattle.pb_family.specs.Budgets.{IfFits, IsOverExactly}
use Rattle.pb_gentot.specs.BoundTable.{table_fresh}
use Rattle.pb_encode.proofs.TableTerms.{table_fits}
use Rattle.pb_encode.proofs.table.table_of.Goals as goal

pub build-requires-clause-positive : goal.build-requires-clause-positive
build-requires-clause-positive c = subst AllPositive (sym c.in_ok-terms.ensures) (table_fits c.args.problem.now c.requires.within c.args.options.now).table.positive

pub build-requires-clause-distinct : goal.build-requires-clause-distinct
build-requires-clause-distinct c = subst IsOverDistinct (sym c.in_ok-terms.ensures) (table_fits c.args.problem.now c.requires.within c.args.options.now).table.distinct

pub build-requires-clause-light : goal.build-requires-clause-light
build-requires-clause-light c = subst (λ (ts : List Weighted). weight ts < 2 ^ 100) (sym c.in_ok-terms.ensures) (table_fits c.args.problem.now c.requires.within c.args.options.now).light

pub returns-clause-over : goal.returns-clause-over
returns-clause-over c =
    subst (λ (ts : List Weighted). IfOk c.build.result (λ built. IsOverExactly (table_fresh ts) c.args.options.now.budget built)) c.in_ok-terms.ensures c.build.ensures.over

pub returns-clause-terms : goal.returns-clause-terms
returns-clause-terms c = subst (λ (ts : List Weighted). IfOk c.build.result (λ built. IfFits (λ t. t ≡ ts) built)) c.in_ok-terms.ensures c.build.ensures.terms
