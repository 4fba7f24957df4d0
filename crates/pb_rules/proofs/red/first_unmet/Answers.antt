use Rattle.std.proofs.Common.{◌∙◌, get_or, sym, subst}
use Rattle.std.proofs.lemmas.Bool.{MatchBool-at_true, MatchBool-at_false}
use Rattle.pb_steps.specs.Database.{Database}
use Rattle.pb_steps.specs.Substitutions.{restriction}
use Rattle.pb_steps.specs.Allowed.{IsShown}
use Rattle.pb_steps.specs.Denials.{FirstUnmet}
use Rattle.std.specs.List.Sorted.{IsStrictlyIncreasing}
use Rattle.pb_rules.specs.inner.Obligations.{HasNamed, SlotIsMet, SlotIsUnmet}
use Rattle.pb_rules.proofs.Obliged.{first_at, first_own, all_met, met_more, met_below, met_all}
use Rattle.pb_rules.proofs.red.first_unmet.Goals as goal

pub loop-id-preserved : goal.loop-id-preserved
loop-id-preserved c =
    let claim = c.args.claim.now in
    let sets = c.args.sets.now in
    let ids = c.deref-id-items.result.now in
    let id = get_or ids c.loop-id.id-index 0 in
    let met = MatchBool-at_true (SlotIsMet c.loop-id.db claim sets id) (SlotIsUnmet c.loop-id.db claim sets id) c.if-not-branch.false c.in_ok-slot_is_met.ensures.met in
    let here = subst (λ (db : Database). SlotIsMet db claim sets id) c.loop-id.invariant.same met in
    record {
      same = c.slot_is_met.ensures.same ∙ c.loop-id.invariant.same;
      met = met_more c.args.db.now claim sets ids c.loop-id.id-index c.loop-id-test.true here c.loop-id.invariant.met;
    }

pub returns-then-not-branch-clause-unmet : goal.returns-then-not-branch-clause-unmet
returns-then-not-branch-clause-unmet c =
    let claim = c.args.claim.now in
    let sets = c.args.sets.now in
    let ids = c.deref-id-items.result.now in
    let id = get_or ids c.loop-id.id-index 0 in
    let unmet = MatchBool-at_false (SlotIsMet c.loop-id.db claim sets id) (SlotIsUnmet c.loop-id.db claim sets id) c.if-not-branch.true c.in_ok-slot_is_met.ensures.met in
    let named = subst (HasNamed c.args.db.now.live sets) (sym c.deref-id-items.ensures.value) c.in_ok-ids.ensures.named in
    let up = subst IsStrictlyIncreasing (sym c.deref-id-items.ensures.value) c.in_ok-ids.ensures.rising in
    first_at c.args.db.now claim sets id c.next-next.ensures.ordered (met_below c.args.db.now claim sets ids c.loop-id.id-index named up c.loop-id-test.true c.loop-id.invariant.met)
    (subst (λ (db : Database). SlotIsUnmet db claim sets id) c.loop-id.invariant.same unmet)

pub returns-then-not-branch-2-clause-unmet : goal.returns-then-not-branch-2-clause-unmet
returns-then-not-branch-2-clause-unmet c =
    let claim = c.args.claim.now in
    let sets = c.args.sets.now in
    let fails = MatchBool-at_false (IsShown c.loop-id.db.live claim (restriction sets claim)) (¬ IsShown c.loop-id.db.live claim (restriction sets claim)) c.if-not-branch-2.true c.in_ok-own_is_met.ensures.met in
    let named = subst (HasNamed c.args.db.now.live sets) (sym c.deref-id-items.ensures.value) c.in_ok-ids.ensures.named in
    let met = met_all c.args.db.now claim sets c.deref-id-items.result.now c.loop-id.id-index named c.loop-id-test.false c.loop-id.invariant.met in
    subst (FirstUnmet c.args.db.now claim sets) (sym c.next-next.ensures.value)
    (first_own c.args.db.now claim sets c.next-next.ensures.ordered met (subst (λ (db : Database). ¬ IsShown db.live claim (restriction sets claim)) c.loop-id.invariant.same fails))

pub returns-clause-unmet : goal.returns-clause-unmet
returns-clause-unmet c =
    let claim = c.args.claim.now in
    let sets = c.args.sets.now in
    let own = MatchBool-at_true (IsShown c.loop-id.db.live claim (restriction sets claim)) (¬ IsShown c.loop-id.db.live claim (restriction sets claim)) c.if-not-branch-2.false c.in_ok-own_is_met.ensures.met in
    let named = subst (HasNamed c.args.db.now.live sets) (sym c.deref-id-items.ensures.value) c.in_ok-ids.ensures.named in
    let met = met_all c.args.db.now claim sets c.deref-id-items.result.now c.loop-id.id-index named c.loop-id-test.false c.loop-id.invariant.met in
    all_met c.args.db.now claim sets c.next-next.ensures.ordered met (subst (λ (db : Database). IsShown db.live claim (restriction sets claim)) c.loop-id.invariant.same own)
