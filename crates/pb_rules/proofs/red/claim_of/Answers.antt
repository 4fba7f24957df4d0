use Rattle.std.proofs.Common.{◌≡◌, ◌∙◌, sym, inl, inr, subst, ℕ, None, Option}
use Rattle.std.specs.Prelude.{All, MatchOption}
use Rattle.pb_norm.specs.Constraints.{Constraint}
use Rattle.pb_norm.specs.Halves.{written}
use Rattle.pb_steps.specs.Allowed.{IsMet, obligations}
use Rattle.pb_steps.specs.Denials.{FirstUnmet}
use Rattle.pb_rules.proofs.Obliged.{red-seen_denial, red-fresh, red-slim, red-vars, red-allowed}
use Rattle.pb_rules.proofs.red.claim_of.Goals as goal

pub returns-in-Some-clause-fault : goal.returns-in-Some-clause-fault
returns-in-Some-clause-fault c = λ clause. inl (red-seen_denial c.args.db.now c.args.terms.now c.args.right.now c.args.sets.now clause ∙ sym c.in-Some.ensures)

pub claim_of-requires : goal.claim_of-requires
claim_of-requires c = red-slim c.args.db.now c.args.terms.now c.args.right.now c.args.sets.now (red-seen_denial c.args.db.now c.args.terms.now c.args.right.now c.args.sets.now None ∙ sym c.in_default.ensures)

pub first_unmet-requires-clause-claim_within : goal.first_unmet-requires-clause-claim_within
first_unmet-requires-clause-claim_within c =
    c.in_ok-claim.ensures.within c.args.db.now.vars (red-vars c.args.db.now c.args.terms.now c.args.right.now c.args.sets.now (red-seen_denial c.args.db.now c.args.terms.now c.args.right.now c.args.sets.now None ∙ sym c.in_default.ensures))

pub first_unmet-requires-clause-fresh : goal.first_unmet-requires-clause-fresh
first_unmet-requires-clause-fresh c = red-fresh c.args.db.now c.args.terms.now c.args.right.now c.args.sets.now (red-seen_denial c.args.db.now c.args.terms.now c.args.right.now c.args.sets.now None ∙ sym c.in_default.ensures)

pub returns-in-Some-2-clause-fault : goal.returns-in-Some-2-clause-fault
returns-in-Some-2-clause-fault c =
    let db = c.args.db.now in
    let claim = written c.args.terms.now c.args.right.now in
    let unmet : FirstUnmet db c.in_ok-claim.claim c.args.sets.now c.in-Some-2.id = subst (λ (o : Option ℕ). MatchOption o (All (IsMet db c.in_ok-claim.claim c.args.sets.now) (obligations db c.in_ok-claim.claim c.args.sets.now)) (FirstUnmet db c.in_ok-claim.claim c.args.sets.now)) c.in-Some-2.is c.in_ok-id.ensures.unmet in
    let first : FirstUnmet db claim c.args.sets.now c.in-Some-2.id = subst (λ (x : Constraint). FirstUnmet db x c.args.sets.now c.in-Some-2.id) c.in_ok-claim.ensures.claim unmet in
    λ clause. inr (red-seen_denial db c.args.terms.now c.args.right.now c.args.sets.now clause ∙ sym c.in_default.ensures, first)

pub returns-clause-allowed : goal.returns-clause-allowed
returns-clause-allowed c =
    let db = c.args.db.now in
    let none : c.in_ok-id.field-0 ≡ None = cc in
    let met = subst (λ (o : Option ℕ). MatchOption o (All (IsMet db c.in_ok-claim.claim c.args.sets.now) (obligations db c.in_ok-claim.claim c.args.sets.now)) (FirstUnmet db c.in_ok-claim.claim c.args.sets.now)) none c.in_ok-id.ensures.unmet in
    let all = subst (λ (x : Constraint). All (IsMet db x c.args.sets.now) (obligations db x c.args.sets.now)) c.in_ok-claim.ensures.claim met in
    λ clause. red-allowed db c.args.terms.now c.args.right.now c.args.sets.now clause c.requires (red-seen_denial db c.args.terms.now c.args.right.now c.args.sets.now clause ∙ sym c.in_default.ensures) all

pub returns-clause-within : goal.returns-clause-within
returns-clause-within c =
    c.in_ok-claim.ensures.within c.args.db.now.vars (red-vars c.args.db.now c.args.terms.now c.args.right.now c.args.sets.now (red-seen_denial c.args.db.now c.args.terms.now c.args.right.now c.args.sets.now None ∙ sym c.in_default.ensures))
