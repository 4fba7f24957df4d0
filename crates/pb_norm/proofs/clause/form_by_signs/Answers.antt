use Rattle.std.proofs.Common.{◌<◌, ◌^◌, ◌∙◌, ap, length, rules}
use Rattle.pb_norm.specs.ClauseForm.{clause_form}
use Rattle.pb_norm.specs.inner.Signs.{HasSigns}
use Rattle.pb_norm.proofs.SignTerms.{entries_in, clause-unsigned, clause-is, clause-linear}
use Rattle.pb_norm.proofs.clause.form_by_signs.Goals as goal

pub from_parts-requires-in-Some-clause-terms : goal.from_parts-requires-in-Some-clause-terms
from_parts-requires-in-Some-clause-terms c =
    let signs : HasSigns c.as_slice.result.now c.in-Some.signs = search rules in
    clause-unsigned c.as_slice.result.now c.in-Some.signs.entries _ (entries_in _ _ signs) c.in_ok-terms_of-in-Some.ensures

pub from_parts-requires-in-Some-clause-linear : goal.from_parts-requires-in-Some-clause-linear
from_parts-requires-in-Some-clause-linear c =
    let signs : HasSigns c.as_slice.result.now c.in-Some.signs = search rules in
    let short : length c.as_slice.result.now < 2 ^ 64 = search rules in
    clause-linear c.as_slice.result.now c.in-Some.signs.entries _ short (entries_in _ _ signs) c.in_ok-terms_of-in-Some.ensures

pub returns-in_ok-terms_of-in-Some : goal.returns-in_ok-terms_of-in-Some
returns-in_ok-terms_of-in-Some c =
    let signs : HasSigns c.as_slice.result.now c.in-Some.signs = search rules in
    c.from_parts-in-Some.ensures ∙ clause-is c.as_slice.result.now c.in-Some.signs.entries _ (entries_in _ _ signs) c.in_ok-terms_of-in-Some.ensures ∙ ap clause_form c.as_slice.ensures
