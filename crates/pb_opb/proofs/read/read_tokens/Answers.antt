use Rattle.std.proofs.Common.{◌≤◌, ◌∙◌, List, ap, length, subst, sym}
use Rattle.pb_base.specs.declared.place.Place.{Place}
use Rattle.pb_opb.specs.Grammar.{Kind}
use Rattle.pb_opb.specs.Grammar.Kind.{end}
use Rattle.pb_opb.specs.reader.Takes.{Refuses, Finishes, IsTokenFault, fault_at}
use Rattle.pb_opb.proofs.Reading.{fault-at_end, spells}
use Rattle.pb_opb.proofs.Walk.{place-is, some-left, stands-first, stands-next, stands-fault, stands-end}
use Rattle.pb_opb.proofs.read.read_tokens.Goals as goal

pub loop-left-init : goal.loop-left-init
loop-left-init c = stands-first c.args.text.now _ _ c.past_gap-left.ensures.skips c.past_gap-left.ensures.front c.new-reader.ensures.read c.new-reader.ensures.kinds

pub loop-left-preserved : goal.loop-left-preserved
loop-left-preserved c =
    let some : 1 ≤ length c.loop-left.left.now = some-left _ (sym c.loop-left-test.ensures) in
    stands-next c.args.text.now c.loop-left.reader c.loop-left.left.now c.loop-left.invariant some c.take.new.self c.in-Ok.rest.now _ c.in-Ok.ensures.ok c.in-Ok.ensures.rest c.past_gap-left-in-Ok.ensures.skips c.past_gap-left-in-Ok.ensures.front

pub returns-in-Err-clause-fault : goal.returns-in-Err-clause-fault
returns-in-Err-clause-fault c =
    let text = c.args.text.now in
    let left = c.loop-left.left.now in
    let stands = c.loop-left.invariant in
    let some : 1 ≤ length left = some-left _ (sym c.loop-left-test.ensures) in
    let place = c.place_of.ensures ∙ place-is text c.loop-left.reader left stands some in
    subst (IsTokenFault text) (sym (c.at.ensures ∙ ap (λ (p : Place). fault_at p c.in-Err.refusal) place))
    (stands-fault text c.loop-left.reader left stands some c.in-Err.refusal c.requires c.in-Err.ensures.err)

pub returns-in-Ok-finish-clause-spells : goal.returns-in-Ok-finish-clause-spells
returns-in-Ok-finish-clause-spells c =
    let stands = c.loop-left.invariant in
    spells c.args.text.now stands.before c.in-Ok-finish.problem
    (stands-end c.args.text.now c.loop-left.reader c.loop-left.left.now stands (sym c.loop-left-test.ensures))
    (subst (λ (ks : List Kind). Finishes ks c.in-Ok-finish.problem) stands.kinds c.in-Ok-finish.ensures.ok)

pub returns-in-Err-finish-clause-fault : goal.returns-in-Err-finish-clause-fault
returns-in-Err-finish-clause-fault c =
    let stands = c.loop-left.invariant in
    subst (IsTokenFault c.args.text.now) (sym (c.at-in-Err-finish.ensures ∙ ap (λ (p : Place). fault_at p c.in-Err-finish.refusal) c.end_of.ensures))
    (fault-at_end c.args.text.now stands.before c.in-Err-finish.refusal c.requires
    (stands-end c.args.text.now c.loop-left.reader c.loop-left.left.now stands (sym c.loop-left-test.ensures))
    (subst (λ (ks : List Kind). Refuses ks end c.in-Err-finish.refusal) stands.kinds c.in-Err-finish.ensures.err))
