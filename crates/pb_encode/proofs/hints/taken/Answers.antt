use Rattle.std.proofs.Common.{◌∙◌, ap, subst, drop}
use Rattle.std.specs.Prelude.{All}
use Rattle.std.proofs.lemmas.List.Elements.{All-head, All-tail}
use Rattle.pb_encode.specs.inner.Hints.{IsHintOf}
use Rattle.pb_encode.proofs.hints.taken.Goals as goal

pub returns-then-hint-place-clause-told : goal.returns-then-hint-place-clause-told
returns-then-hint-place-clause-told c = λ o gs rest g here all.
    let first = All-head (IsHintOf o gs) c.in-Some.hint.now c.in-Some.rest.now (subst (All (IsHintOf o gs)) c.in-Some.ensures.cases.0 all.each) in
    first g rest (ap (λ n. drop n gs) c.if-hint-place.true ∙ here)

pub returns-then-hint-place-clause-left : goal.returns-then-hint-place-clause-left
returns-then-hint-place-clause-left c = λ o gs all.
    record { each = All-tail (IsHintOf o gs) c.in-Some.hint.now c.in-Some.rest.now (subst (All (IsHintOf o gs)) c.in-Some.ensures.cases.0 all.each) }
