use Rattle.std.proofs.Common.{◌∙◌, ℕ, [], arith, subst, take, get_or}
use Rattle.std.specs.Prelude.{All}
use Rattle.std.proofs.lemmas.List.{take_all}
use Rattle.std.proofs.lemmas.List.Elements.{All-more, All-weaker}
use Rattle.pb_norm.specs.Constraints.{Constraint}
use Rattle.pb_norm.proofs.Rooms.{room-le}
use Rattle.pb_unit.specs.States.{standing, Stands}
use Rattle.pb_unit.specs.Steps.{IsCalm}
use Rattle.pb_unit.specs.Index.{room_at}
use Rattle.pb_unit.proofs.Visits.{then, calm_more}
use Rattle.pb_unit.proofs.queue.look_all.Goals as goal

pub look-requires-clause-bound : goal.look-requires-clause-bound
look-requires-clause-bound c = λ d at.
    omega (arith, c.requires.bound _ d at, room-le c.args.held.now.lits c.loop-place.held.lits (c.loop-place.invariant.advances []).kept d.terms, c.room_of.ensures)

pub returns-then-not-look-clause-advances : goal.returns-then-not-look-clause-advances
returns-then-not-look-clause-advances c = λ given.
    then (standing c.args.places.now) given c.args.held.now.lits c.loop-place.held.lits c.look.new.held.lits (c.loop-place.invariant.advances given) (c.look.ensures.advances given)

pub loop-place-preserved : goal.loop-place-preserved
loop-place-preserved c = record {
  vars = c.look.ensures.vars ∙ c.loop-place.invariant.vars;
  advances = λ given. then (standing c.args.places.now) given c.args.held.now.lits c.loop-place.held.lits c.look.new.held.lits (c.loop-place.invariant.advances given) (c.look.ensures.advances given);
  calm =
      let P : ℕ → Type 0 = λ p. (d : Constraint) → Stands c.args.places.now p d → IsCalm (room_at c.args.kept.now p) c.look.new.held.lits d in
      let here : P (get_or c.args.tight.now c.loop-place.place-index 0) = λ d at. subst (λ (r : ℕ). IsCalm r c.look.new.held.lits d) c.room_of.ensures (c.if-not-look.ensures.calm d at) in
      let before : All P (take c.loop-place.place-index c.args.tight.now) =
      All-weaker (λ (p : ℕ). (d : Constraint) → Stands c.args.places.now p d → IsCalm (room_at c.args.kept.now p) c.loop-place.held.lits d) P (λ p h d at. calm_more (room_at c.args.kept.now p) d c.loop-place.held.lits c.look.new.held.lits (c.look.ensures.advances []).kept (h d at)) (take c.loop-place.place-index c.args.tight.now) c.loop-place.invariant.calm in
      All-more P c.args.tight.now c.loop-place.place-index 0 c.loop-place-test.true before here;
}

pub returns-clause-calm : goal.returns-clause-calm
returns-clause-calm c = λ _.
    subst (All (λ (p : ℕ). (d : Constraint) → Stands c.args.places.now p d → IsCalm (room_at c.args.kept.now p) c.loop-place.held.lits d)) (take_all c.loop-place.place-index c.args.tight.now (omega arith)) c.loop-place.invariant.calm
