use Rattle.std.proofs.Common.{◌≡◌, ◌+◌, ◌-◌, ◌++◌, List, subst, arith}
use Rattle.pb_steps.specs.declared.step.Step.{Step}
use Rattle.pb_derive.specs.Deletions.{deletion_steps}
use Rattle.pb_family.specs.StepSinks.{TakesSteps}
use Rattle.pb_family.proofs.Deriving.{steps_same}
use Rattle.pb_diagram.specs.GuardedSteps.{all_orders}
use Rattle.pb_diagram.specs.inner.Ladders.{core_in, lower, lower_terms, orders_of, sums_of}
use Rattle.pb_diagram.proofs.GuardedHanding.{first_fault, stops_as, then_others}
use Rattle.pb_diagram.proofs.GuardedPhases.{core-few, few, ladder_slice, low-orders, orders_ids, orders_phase, small}
use Rattle.pb_diagram.proofs.guarded.Guarded.derive_ordered.Goals as goal

pub derive_levels-requires : goal.derive_levels-requires
derive_levels-requires g c =
    let s = c.args.self.now in
    let l = c.args.ladder.now in
    let xs = c.as_slice.result.now in
    let h = ladder_slice s l xs c.as_slice.ensures.value c.requires.is in
    record { few = omega (arith, c.requires.next, orders_ids s xs l.empty l.order l.end h, few s xs l.empty l.order l.end h, (small s xs l.empty l.order l.end h).0, s.modest) }

pub derive_core-requires : goal.derive_core-requires
derive_core-requires g c =
    let s = c.args.self.now in
    let l = c.args.ladder.now in
    let xs = c.as_slice.result.now in
    let h = ladder_slice s l xs c.as_slice.ensures.value c.requires.is in
    record { is = c.requires.is; next = omega (arith, c.requires.next, c.in_ok-derive_levels.ensures.next, orders_ids s xs l.empty l.order l.end h) }

pub overflow_sub-count : goal.overflow_sub-count
overflow_sub-count g c =
    let s = c.args.self.now in
    let l = c.args.ladder.now in
    let xs = c.as_slice.result.now in
    let h = ladder_slice s l xs c.as_slice.ensures.value c.requires.is in
    omega (arith, c.orders-orders.ensures, c.requires.is.end, low-orders s xs l.empty l.order l.end h)

pub derive_deletions-requires : goal.derive_deletions-requires
derive_deletions-requires g c =
    let s = c.args.self.now in
    let l = c.args.ladder.now in
    let xs = c.as_slice.result.now in
    let h = ladder_slice s l xs c.as_slice.ensures.value c.requires.is in
    let bound = small s xs l.empty l.order l.end h in
    let f = few s xs l.empty l.order l.end h in
    record {
      fits = omega (arith, c.orders-orders.ensures, c.requires.is.end, bound.0, f, s.modest);
      few = omega (arith, c.requires.next, c.in_ok-derive_levels.ensures.next, orders_ids s xs l.empty l.order l.end h, c.in_ok-derive_core.ensures.ids, core-few s, bound.0, f, s.modest);
    }

pub returns-in_err-derive_levels : goal.returns-in_err-derive_levels
returns-in_err-derive_levels g c =
    let s = c.args.self.now in
    let l = c.args.ladder.now in
    let xs = c.as_slice.result.now in
    let h = ladder_slice s l xs c.as_slice.ensures.value c.requires.is in
    let old = (g.T.StepSink.state c.args.sink.now) in
    let one : List Step = all_orders s.base (s.first + 1) (lower_terms s) (lower s) (orders_of s) in
    let three : List Step = deletion_steps 1 (orders_of s) (sums_of s - orders_of s) in
    first_fault c.from_residual.result one (core_in s ++ three) old _ (g.T.StepSink.state c.derive_levels.new.sink) c.from_residual.ensures.1
    (stops_as (orders_phase s xs l.empty l.order l.end h old.next) c.in_err-derive_levels.ensures.hands)

pub returns-in_err-derive_core : goal.returns-in_err-derive_core
returns-in_err-derive_core g c =
    let s = c.args.self.now in
    let l = c.args.ladder.now in
    let xs = c.as_slice.result.now in
    let h = ladder_slice s l xs c.as_slice.ensures.value c.requires.is in
    let old = (g.T.StepSink.state c.args.sink.now) in
    let e = c.from_residual-in_err-derive_core in
    let one : List Step = all_orders s.base (s.first + 1) (lower_terms s) (lower s) (orders_of s) in
    let three : List Step = deletion_steps 1 (orders_of s) (sums_of s - orders_of s) in
    then_others e.result one (core_in s ++ three) old (g.T.StepSink.state c.derive_levels.new.sink) (g.T.StepSink.state c.derive_core.new.sink) (subst (λ (ss : List Step). TakesSteps ss old (g.T.StepSink.state c.derive_levels.new.sink)) (orders_phase s xs l.empty l.order l.end h old.next) c.in_ok-derive_levels.ensures.hands)
    (first_fault e.result (core_in s) three (g.T.StepSink.state c.derive_levels.new.sink) _ (g.T.StepSink.state c.derive_core.new.sink) e.ensures.1 c.in_err-derive_core.ensures)

pub returns : goal.returns
returns g c =
    let s = c.args.self.now in
    let l = c.args.ladder.now in
    let xs = c.as_slice.result.now in
    let h = ladder_slice s l xs c.as_slice.ensures.value c.requires.is in
    let old = (g.T.StepSink.state c.args.sink.now) in
    let r = c.derive_deletions.result in
    let one : List Step = all_orders s.base (s.first + 1) (lower_terms s) (lower s) (orders_of s) in
    let three : List Step = deletion_steps 1 (orders_of s) (sums_of s - orders_of s) in
    let count : l.end - c.orders-orders.result ≡ sums_of s - orders_of s = omega (arith, c.orders-orders.ensures, c.requires.is.end) in
    let same : deletion_steps 1 c.orders-orders.result (l.end - c.orders-orders.result) ≡ three = (λ x. deletion_steps 1 (c.orders-orders.ensures x) (count x)) in
    then_others r one (core_in s ++ three) old (g.T.StepSink.state c.derive_levels.new.sink) (g.T.StepSink.state c.derive_deletions.new.sink) (subst (λ (ss : List Step). TakesSteps ss old (g.T.StepSink.state c.derive_levels.new.sink)) (orders_phase s xs l.empty l.order l.end h old.next) c.in_ok-derive_levels.ensures.hands)
    (then_others r (core_in s) three (g.T.StepSink.state c.derive_levels.new.sink) (g.T.StepSink.state c.derive_core.new.sink) (g.T.StepSink.state c.derive_deletions.new.sink) c.in_ok-derive_core.ensures (steps_same r _ _ (g.T.StepSink.state c.derive_core.new.sink) (g.T.StepSink.state c.derive_deletions.new.sink) same c.derive_deletions.ensures))
