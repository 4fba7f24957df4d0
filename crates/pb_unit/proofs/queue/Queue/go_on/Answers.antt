use Rattle.std.proofs.Common.{◌≡◌, ◌≤◌, ◌-◌, [], ℕ, List, length, arith, subst, sym}
use Rattle.pb_norm.specs.Constraints.{Constraint, weight}
use Rattle.pb_norm.specs.Propagation.{room}
use Rattle.pb_unit.specs.declared.kept.Counters.{Counters}
use Rattle.pb_unit.specs.States.{Stands, standing}
use Rattle.pb_unit.specs.Trails.{oldest}
use Rattle.pb_unit.specs.Index.{room_at, IsCounted}
use Rattle.pb_unit.proofs.Visits.{then}
use Rattle.pb_unit.proofs.Telling.{bound_at, drop_part}
use Rattle.pb_unit.proofs.Queueing.{full_rooms, oldest-none, counted_grown, longer}
use Rattle.pb_unit.proofs.queue.Queue.go_on.Goals as goal

pub begin-requires-clause-bound : goal.begin-requires-clause-bound
begin-requires-clause-bound c =
    let q = c.args.self.now in
    subst (λ (ks : List Counters). (p : ℕ) (d : Constraint) → Stands q.places p d → room q.held.lits d.terms ≤ room_at ks p) (sym c.deref.ensures.value)
    (bound_at q.held.vars q.places q.lists q.kept.items (oldest q.counted q.held.lits) q.held.lits c.requires.queue.counts (drop_part (length q.held.lits - q.counted) q.held.lits))

pub begin-requires-clause-full : goal.begin-requires-clause-full
begin-requires-clause-full c = λ e.
    let q = c.args.self.now in
    subst (λ (ks : List Counters). (p : ℕ) (d : Constraint) → Stands q.places p d → room_at ks p ≡ weight d.terms) (sym c.deref.ensures.value)
    (full_rooms q.held.vars q.places q.lists q.kept.items (oldest q.counted q.held.lits) c.requires.queue.counts (oldest-none q.counted q.held.lits (c.requires.queue.fresh e)))

pub returns-in-Some-clause-in_held : goal.returns-in-Some-clause-in_held
returns-in-Some-clause-in_held c =
    omega (arith, c.requires.queue.in_held, longer (standing c.args.self.now.places) [] c.args.self.now.held.lits c.begin.new.held.lits (c.begin.ensures.advances []))

pub returns-in-Some-clause-counts : goal.returns-in-Some-clause-counts
returns-in-Some-clause-counts c =
    let q = c.args.self.now in
    counted_grown q.held.vars c.begin.new.held.vars q.places q.lists q.kept.items q.held.lits c.begin.new.held.lits q.counted c.begin.ensures.vars (c.begin.ensures.advances []) c.requires.queue.in_held c.requires.queue.counts

pub tell_rest-requires-clause-in_held : goal.tell_rest-requires-clause-in_held
tell_rest-requires-clause-in_held c =
    omega (arith, c.requires.queue.in_held, longer (standing c.args.self.now.places) [] c.args.self.now.held.lits c.begin.new.held.lits (c.begin.ensures.advances []))

pub tell_rest-requires-clause-counts : goal.tell_rest-requires-clause-counts
tell_rest-requires-clause-counts c =
    let q = c.args.self.now in
    subst (λ (ks : List Counters). IsCounted c.begin.new.held.vars q.places q.lists ks (oldest q.counted c.begin.new.held.lits)) (sym c.deref_mut.ensures.value)
    (counted_grown q.held.vars c.begin.new.held.vars q.places q.lists q.kept.items q.held.lits c.begin.new.held.lits q.counted c.begin.ensures.vars (c.begin.ensures.advances []) c.requires.queue.in_held c.requires.queue.counts)

pub returns-clause-advances : goal.returns-clause-advances
returns-clause-advances c = λ given.
    then (standing c.args.self.now.places) given c.args.self.now.held.lits c.begin.new.held.lits c.tell_rest.new.held.lits (c.begin.ensures.advances given) (c.tell_rest.ensures.advances given)
