use Rattle.std.proofs.Common.{refl, sym, subst}
use Rattle.pb_unit.specs.States.{StandWithin}
use Rattle.pb_unit.proofs.Queueing.{kept_fresh, within_all}
use Rattle.pb_unit.proofs.engine.Engine.over.Goals as goal

pub over-requires : goal.over-requires
over-requires c = record {
  within = subst (StandWithin c.args.vars) (sym c.into_places-places.ensures) (within_all c.args.vars c.args.constraints c.requires.within);
}

pub invariant_of-result : goal.invariant_of-result
invariant_of-result c =
    rw (c.in_ok-assumed.ensures, c.in_ok-queue.ensures.held, c.in_ok-queue.ensures.places, c.in_ok-queue.ensures.counted, c.in_ok-queue.ensures.phase)
    (kept_fresh c.args.vars c.args.vars c.into_places-places.result _ _ _ refl
    (subst (StandWithin c.args.vars) (sym c.into_places-places.ensures) (within_all c.args.vars c.args.constraints c.requires.within))
    c.in_ok-queue.ensures.store)
