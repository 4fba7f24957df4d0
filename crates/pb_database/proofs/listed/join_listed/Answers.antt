use Rattle.std.proofs.Common.{List, ℕ, ◌++◌, subst}
use Rattle.std.proofs.lemmas.Bool.{OnTrue_at}
use Rattle.std.proofs.lemmas.List.{take_all}
use Rattle.pb_database.specs.inner.Slots.{listed_slots}
use Rattle.pb_database.specs.inner.Mirrors.{IsCovered, HasJust}
use Rattle.pb_database.proofs.Refuting.{just-more}
use Rattle.pb_database.proofs.listed.join_listed.Goals as goal

pub loop-id-preserved : goal.loop-id-preserved
loop-id-preserved c = record {
  covered = subst (λ (vars : ℕ). IsCovered vars c.join_at.new.places.items c.join_at.new.engine) c.loop-id.invariant.covered.vars_are c.join_at.ensures.covered;
  joined = λ cs h. just-more c.args.slots.now c.args.ids.now c.loop-id.id-index cs c.join_at.new.engine c.loop-id-test.true (OnTrue_at c.if-not-join_at.false c.join_at.ensures.joined _ (c.loop-id.invariant.joined cs h));
}

pub returns-clause-joined : goal.returns-clause-joined
returns-clause-joined c = λ cs h.
    subst (λ (ids : List ℕ). HasJust (cs ++ listed_slots c.args.slots.now ids) c.loop-id.engine) (take_all c.loop-id.id-index c.args.ids.now c.loop-id-test.false) (c.loop-id.invariant.joined cs h)
