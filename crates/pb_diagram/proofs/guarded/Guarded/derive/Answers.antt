use Rattle.std.proofs.Common.{◌≡◌, ◌+◌, ◌-◌, ◌∙◌, ◌++◌, ℕ, List, ap, subst, sym, arith}
use Rattle.pb_steps.specs.declared.step.Step.{Step}
use Rattle.pb_derive.specs.Deletions.{deletion_steps}
use Rattle.pb_derive.specs.Reifications.{reification_steps}
use Rattle.pb_family.specs.StepSinks.{TakesSteps}
use Rattle.pb_family.proofs.Deriving.{steps_lack_first, steps_same}
use Rattle.pb_diagram.specs.declared.parts.Kind.TheVariants.{Nodes}
use Rattle.pb_diagram.specs.GuardedSteps.{all_reifications, count_nodes}
use Rattle.pb_diagram.specs.inner.Ladders.{lower, lower_terms, ordered_in}
use Rattle.pb_diagram.proofs.GuardedHanding.{first_fault, stops_as, then_others}
use Rattle.pb_diagram.proofs.GuardedLevels.{fresh_is, whole_is}
use Rattle.pb_diagram.proofs.GuardedPhases.{few, ladder_slice, nodes_ids, nodes_phase, ordered-few}
use Rattle.pb_diagram.proofs.GuardedTurns.{turn}
use Rattle.pb_diagram.proofs.guarded.Guarded.derive.Goals as goal

pub returns-in_err-ladder : goal.returns-in_err-ladder
returns-in_err-ladder g c = steps_lack_first _ (g.T.StepSink.state c.args.sink.now) c.from_residual.result c.from_residual.ensures.1

pub derive_levels-requires : goal.derive_levels-requires
derive_levels-requires g c =
    let s = c.args.self.now in
    let old = (g.T.StepSink.state c.args.sink.now) in
    let l = c.in_ok-ladder.ladder in
    let xs = c.as_slice.result.now in
    let h = ladder_slice s l xs c.as_slice.ensures.value c.in_ok-ladder.ensures in
    let one : List Step = reification_steps s.base (all_reifications (s.first + 1) (lower_terms s) (lower s)) in
    let three : List Step = deletion_steps 2 s.base (count_nodes (lower s)) in
    let same = whole_is s old.next c.requires in
    let same_one = ap (λ (k : ℕ). turn s.first Nodes k xs) (sym c.requires) ∙ nodes_phase s xs l.empty l.order l.end h in
    record { few = omega (arith, c.requires, nodes_ids s xs l.empty l.order l.end h, few s xs l.empty l.order l.end h, s.modest) }

pub returns-in_err-derive_levels : goal.returns-in_err-derive_levels
returns-in_err-derive_levels g c =
    let s = c.args.self.now in
    let old = (g.T.StepSink.state c.args.sink.now) in
    let l = c.in_ok-ladder.ladder in
    let xs = c.as_slice.result.now in
    let h = ladder_slice s l xs c.as_slice.ensures.value c.in_ok-ladder.ensures in
    let one : List Step = reification_steps s.base (all_reifications (s.first + 1) (lower_terms s) (lower s)) in
    let three : List Step = deletion_steps 2 s.base (count_nodes (lower s)) in
    let same = whole_is s old.next c.requires in
    let same_one = ap (λ (k : ℕ). turn s.first Nodes k xs) (sym c.requires) ∙ nodes_phase s xs l.empty l.order l.end h in
    let e = c.from_residual-in_err-derive_levels in
    steps_same e.result _ _ old (g.T.StepSink.state c.derive_levels.new.sink) same (first_fault e.result one (ordered_in s ++ three) old _ (g.T.StepSink.state c.derive_levels.new.sink) e.ensures.1 (stops_as same_one c.in_err-derive_levels.ensures.hands))

pub derive_ordered-requires : goal.derive_ordered-requires
derive_ordered-requires g c =
    let s = c.args.self.now in
    let old = (g.T.StepSink.state c.args.sink.now) in
    let l = c.in_ok-ladder.ladder in
    let xs = c.as_slice.result.now in
    let h = ladder_slice s l xs c.as_slice.ensures.value c.in_ok-ladder.ensures in
    let one : List Step = reification_steps s.base (all_reifications (s.first + 1) (lower_terms s) (lower s)) in
    let three : List Step = deletion_steps 2 s.base (count_nodes (lower s)) in
    let same = whole_is s old.next c.requires in
    let same_one = ap (λ (k : ℕ). turn s.first Nodes k xs) (sym c.requires) ∙ nodes_phase s xs l.empty l.order l.end h in
    record { is = c.in_ok-ladder.ensures; next = omega (arith, c.requires, c.in_ok-derive_levels.ensures.next, nodes_ids s xs l.empty l.order l.end h) }

pub returns-in_err-derive_ordered : goal.returns-in_err-derive_ordered
returns-in_err-derive_ordered g c =
    let s = c.args.self.now in
    let old = (g.T.StepSink.state c.args.sink.now) in
    let l = c.in_ok-ladder.ladder in
    let xs = c.as_slice.result.now in
    let h = ladder_slice s l xs c.as_slice.ensures.value c.in_ok-ladder.ensures in
    let one : List Step = reification_steps s.base (all_reifications (s.first + 1) (lower_terms s) (lower s)) in
    let three : List Step = deletion_steps 2 s.base (count_nodes (lower s)) in
    let same = whole_is s old.next c.requires in
    let same_one = ap (λ (k : ℕ). turn s.first Nodes k xs) (sym c.requires) ∙ nodes_phase s xs l.empty l.order l.end h in
    let taken = subst (λ (ss : List Step). TakesSteps ss old (g.T.StepSink.state c.derive_levels.new.sink)) same_one c.in_ok-derive_levels.ensures.hands in
    let e = c.from_residual-in_err-derive_ordered in
    steps_same e.result _ _ old (g.T.StepSink.state c.derive_ordered.new.sink) same (then_others e.result one (ordered_in s ++ three) old (g.T.StepSink.state c.derive_levels.new.sink) (g.T.StepSink.state c.derive_ordered.new.sink) taken (first_fault e.result (ordered_in s) three (g.T.StepSink.state c.derive_levels.new.sink) _ (g.T.StepSink.state c.derive_ordered.new.sink) e.ensures.1 c.in_err-derive_ordered.ensures))

pub overflow_sub-below : goal.overflow_sub-below
overflow_sub-below g c = omega (arith, fresh_is c.args.self.now)

pub derive_deletions-requires : goal.derive_deletions-requires
derive_deletions-requires g c =
    let s = c.args.self.now in
    let old = (g.T.StepSink.state c.args.sink.now) in
    let l = c.in_ok-ladder.ladder in
    let xs = c.as_slice.result.now in
    let h = ladder_slice s l xs c.as_slice.ensures.value c.in_ok-ladder.ensures in
    let one : List Step = reification_steps s.base (all_reifications (s.first + 1) (lower_terms s) (lower s)) in
    let three : List Step = deletion_steps 2 s.base (count_nodes (lower s)) in
    let same = whole_is s old.next c.requires in
    let same_one = ap (λ (k : ℕ). turn s.first Nodes k xs) (sym c.requires) ∙ nodes_phase s xs l.empty l.order l.end h in
    let f = few s xs l.empty l.order l.end h in
    record {
      fits = omega (arith, fresh_is s, f, s.modest);
      few = omega (arith, c.requires, c.in_ok-derive_levels.ensures.next, nodes_ids s xs l.empty l.order l.end h, c.in_ok-derive_ordered.ensures.ids, ordered-few s, f, s.modest);
    }

pub returns : goal.returns
returns g c =
    let s = c.args.self.now in
    let old = (g.T.StepSink.state c.args.sink.now) in
    let l = c.in_ok-ladder.ladder in
    let xs = c.as_slice.result.now in
    let h = ladder_slice s l xs c.as_slice.ensures.value c.in_ok-ladder.ensures in
    let one : List Step = reification_steps s.base (all_reifications (s.first + 1) (lower_terms s) (lower s)) in
    let three : List Step = deletion_steps 2 s.base (count_nodes (lower s)) in
    let same = whole_is s old.next c.requires in
    let same_one = ap (λ (k : ℕ). turn s.first Nodes k xs) (sym c.requires) ∙ nodes_phase s xs l.empty l.order l.end h in
    let taken = subst (λ (ss : List Step). TakesSteps ss old (g.T.StepSink.state c.derive_levels.new.sink)) same_one c.in_ok-derive_levels.ensures.hands in
    let r = c.derive_deletions.result in
    let same_three = ap (deletion_steps 2 s.base) (let e : s.fresh - 1 ≡ count_nodes (lower s) = omega (arith, fresh_is s) in e) in
    steps_same r _ _ old (g.T.StepSink.state c.derive_deletions.new.sink) same (then_others r one (ordered_in s ++ three) old (g.T.StepSink.state c.derive_levels.new.sink) (g.T.StepSink.state c.derive_deletions.new.sink) taken (then_others r (ordered_in s) three (g.T.StepSink.state c.derive_levels.new.sink) (g.T.StepSink.state c.derive_ordered.new.sink) (g.T.StepSink.state c.derive_deletions.new.sink) c.in_ok-derive_ordered.ensures (steps_same r _ _ (g.T.StepSink.state c.derive_ordered.new.sink) (g.T.StepSink.state c.derive_deletions.new.sink) same_three c.derive_deletions.ensures)))
