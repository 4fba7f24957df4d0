use Rattle.std.proofs.Common.{◌∙◌, List, ap, length, rules, subst, sym}
use Rattle.std.specs.Prelude.{All}
use Rattle.std.proofs.lemmas.Result.{err_from_is_err_and}
use Rattle.pb_base.specs.declared.problem.Raw.{Raw}
use Rattle.pb_columns.specs.declared.sum.PbcnfSum.{PbcnfSum}
use Rattle.pb_columns.specs.Columns.{conditions_in, IsCondition, IsSumUnder}
use Rattle.pb_columns.specs.Columns.StopsColumns.{no_memory, outside, stray, sum}
use Rattle.pb_columns.specs.Conditions.{AllUnder}
use Rattle.pb_columns.proofs.Columned.{heads_counted, heads_many, statements_many, sums_under, terms_many}
use Rattle.pb_columns.proofs.statements.joined.Goals as goal

pub returns-in_err-heads-clause-stopped : goal.returns-in_err-heads-clause-stopped
returns-in_err-heads-clause-stopped c =
    let p = err_from_is_err_and c.from_residual.result c.from_residual.ensures.1 in
    rw (p.1, p.2) (sum c.in_err-heads.field-0.0 c.in_err-heads.ensures.stopped)

pub returns-in-Some-clause-stopped : goal.returns-in-Some-clause-stopped
returns-in-Some-clause-stopped c = stray c.in-Some.ensures.0 c.in-Some.at c.in-Some.ensures.1 c.in-Some.ensures.2

pub returns-in-Some-first_outside-clause-stopped : goal.returns-in-Some-first_outside-clause-stopped
returns-in-Some-first_outside-clause-stopped c =
    outside c.in-Some-first_outside.place c.sum_at.result c.in-Some-first_outside.ensures.0 c.in-Some-first_outside.ensures.1 c.sum_at.ensures

pub from_columns-requires : goal.from_columns-requires
from_columns-requires c =
    let columns = c.args.columns.now in
    terms_many columns.words.now columns.literals.now columns.first c.in-Ok.terms c.in-Ok.ensures
    ∙ sym c.requires.counted
    ∙ sym (heads_counted c.in_ok-heads.heads columns.sums.now c.in_ok-heads.ensures.heads)

pub returns-in-Err-clause-stopped : goal.returns-in-Err-clause-stopped
returns-in-Err-clause-stopped c = no_memory

pub returns-in-Ok-clause-sums : goal.returns-in-Ok-clause-sums
returns-in-Ok-clause-sums c =
    let columns = c.args.columns.now in
    let on : All (λ (m : PbcnfSum). IsCondition columns.first m.condition) columns.sums.now = search rules in
    subst (AllUnder (IsSumUnder columns.first) (conditions_in columns.sums.now)) (sym c.from_columns.ensures)
    (sums_under columns.first c.in_ok-heads.heads columns.sums.now c.in-Ok.terms c.in_ok-heads.ensures.heads c.in_ok-heads.ensures.short on c.in-Ok.ensures.from c.in-Ok.ensures.below)

pub returns-in-Ok-clause-many : goal.returns-in-Ok-clause-many
returns-in-Ok-clause-many c =
    ap (λ (ss : List Raw). length ss) c.from_columns.ensures
    ∙ statements_many c.in_ok-heads.heads c.in-Ok.terms
    ∙ heads_many c.in_ok-heads.heads c.args.columns.now.sums.now c.in_ok-heads.ensures.heads
