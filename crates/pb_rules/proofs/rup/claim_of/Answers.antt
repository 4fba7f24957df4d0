use Rattle.std.proofs.Common.{sym, inl, inr, None}
use Rattle.pb_steps.specs.declared.step.Step.TheVariants.{Rup}
use Rattle.pb_rules.proofs.Seen.{seen_denial-vars, seen_denial-slim, rup-allowed, rup-conflict, rup-none}
use Rattle.pb_rules.proofs.rup.claim_of.Goals as goal

pub returns-in-Some-clause-fault : goal.returns-in-Some-clause-fault
returns-in-Some-clause-fault c = λ clause. inl (sym (c.in-Some.ensures clause))

pub claim_of-requires : goal.claim_of-requires
claim_of-requires c = seen_denial-slim c.args.db.now c.args.terms.now c.args.right.now c.args.ids.now None (sym (c.in_default.ensures None))

pub is_shown-requires-clause-within : goal.is_shown-requires-clause-within
is_shown-requires-clause-within c =
    c.in_ok-claim.ensures.within c.args.db.now.vars (seen_denial-vars c.args.db.now (Rup c.args.terms.now c.args.right.now c.args.ids.now) None (sym (c.in_default.ensures None)))

pub returns-then-not-branch-clause-fault : goal.returns-then-not-branch-clause-fault
returns-then-not-branch-clause-fault c =
    let none = rup-none c.args.db.now c.args.terms.now c.args.right.now c.args.ids.now c.in_ok-claim.claim c.in_ok-is_shown.field-0 c.in_ok-claim.ensures.claim c.in_ok-is_shown.ensures.answer c.if-not-branch.true in
    λ clause. inr (sym (c.in_default.ensures clause), none)

pub returns-clause-within : goal.returns-clause-within
returns-clause-within c =
    c.in_ok-claim.ensures.within c.args.db.now.vars (seen_denial-vars c.args.db.now (Rup c.args.terms.now c.args.right.now c.args.ids.now) None (sym (c.in_default.ensures None)))

pub returns-clause-allowed : goal.returns-clause-allowed
returns-clause-allowed c =
    let conflict = rup-conflict c.args.db.now c.args.terms.now c.args.right.now c.args.ids.now c.in_ok-claim.claim c.in_ok-is_shown.field-0 c.in_ok-claim.ensures.claim c.in_ok-is_shown.ensures.answer c.if-not-branch.false in
    λ clause. rup-allowed c.args.db.now c.args.terms.now c.args.right.now c.args.ids.now clause c.requires (sym (c.in_default.ensures clause)) conflict
