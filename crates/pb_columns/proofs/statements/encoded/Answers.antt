use Rattle.std.proofs.Common.{◌≡◌, ◌-◌, ◌^◌, ◌∙◌, All, List, arith, length, subst, sym}
use Rattle.std.proofs.lemmas.List.{length-map}
use Rattle.pb_base.specs.declared.problem.Raw.{Raw}
use Rattle.pb_base.specs.Problems.{IsSumWithin, StaysBelow}
use Rattle.pb_columns.specs.declared.sum.PbcnfSum.{PbcnfSum}
use Rattle.pb_columns.specs.Columns.{conditions_in, IsLight, IsSumUnder}
use Rattle.pb_columns.specs.Columns.StopsColumns.{no_memory, over}
use Rattle.pb_columns.proofs.Columned.{is_within}
use Rattle.pb_columns.proofs.Conditioned.{posed_each, under_each}
use Rattle.pb_columns.proofs.Limits.{light, posed_in, posed_light}
use Rattle.pb_columns.proofs.statements.encoded.Goals as goal

many : (sums : List PbcnfSum) (ss : List Raw) → length ss ≡ length sums → length (conditions_in sums) ≡ length ss
many sums ss same = length-map sums (λ (m : PbcnfSum). m.condition) ∙ sym same

pub posed-requires-clause-light : goal.posed-requires-clause-light
posed-requires-clause-light c =
    let sums = c.args.columns.now.sums.now in
    under_each IsLight (StaysBelow (2 ^ 100)) light (conditions_in sums) c.args.statements (many sums c.args.statements c.requires.many) c.requires.light

pub returns-in_default-clause-stopped : goal.returns-in_default-clause-stopped
returns-in_default-clause-stopped c = no_memory

pub returns-then-len-gt-MAX_STATEMENTS-clause-stopped : goal.returns-then-len-gt-MAX_STATEMENTS-clause-stopped
returns-then-len-gt-MAX_STATEMENTS-clause-stopped c =
    over c.in-Ok.posed (record { asked = c.args.statements; given = c.requires.given; conditions = c.requires.conditions; posed_are = c.in-Ok.ensures })
    (omega (arith, c.len.ensures, c.if-len-gt-MAX_STATEMENTS.true))

pub returns-clause-within : goal.returns-clause-within
returns-clause-within c =
    let sums = c.args.columns.now.sums.now in
    let first = c.args.columns.now.first in
    let fit = c.requires.given.fit in
    let same = many sums c.args.statements c.requires.many in
    let are = sym c.in-Ok.ensures in
    is_within first c.in-Ok.posed fit.first_from fit.first_to (omega (arith, c.len.ensures, c.if-len-gt-MAX_STATEMENTS.false))
    (subst (All (λ (s : Raw). IsSumWithin (first - 1) s.terms)) are (posed_each (IsSumUnder first) (λ (s : Raw). IsSumWithin (first - 1) s.terms) (posed_in first) (conditions_in sums) c.args.statements same c.requires.sums))
    (subst (All (StaysBelow (2 ^ 100))) are (posed_each IsLight (StaysBelow (2 ^ 100)) posed_light (conditions_in sums) c.args.statements same c.requires.light))
