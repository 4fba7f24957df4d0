use Rattle.std.proofs.Common.{◌≡◌, ◌+◌, ◌-◌, [], ◌∷◌, ℕ, List, ap, drop, length, refl, subst, take, arith}
use Rattle.std.specs.Prelude.{IfOk}
use Rattle.std.proofs.lemmas.Result.{IfOk-from_err}
use Rattle.pb_norm.specs.Constraints.{weights}
use Rattle.pb_steps.specs.declared.op.PolOp.TheVariants.{Axiom, Weaken}
use Rattle.pb_steps.specs.declared.step.Step.{Step}
use Rattle.pb_steps.specs.declared.step.Step.TheVariants.{Pol}
use Rattle.pb_family.specs.Fresh.{positive_of}
use Rattle.pb_family.specs.StepSinks.{TakesSteps}
use Rattle.pb_family.proofs.Deriving.{steps_same}
use Rattle.pb_family.proofs.TermSlices.{light_from, light_terms}
use Rattle.pb_diagram.specs.declared.parts.Kind.TheVariants.{Climb}
use Rattle.pb_diagram.specs.declared.tier.Tier.{Tier}
use Rattle.pb_diagram.specs.GuardedSteps.{all_terms, terms_line}
use Rattle.pb_diagram.specs.inner.Ladders.{held_of, lower, lower_terms, sums_of}
use Rattle.pb_diagram.specs.inner.Rungs.{behind}
use Rattle.pb_diagram.proofs.GuardedHanding.{first_fault, line_next, stops_as, then_others}
use Rattle.pb_diagram.proofs.GuardedPhases.{above, behind_them, climbs_ids, few, ladder_slice, small, sums_phase, tiers-length}
use Rattle.pb_diagram.proofs.GuardedTurns.{turn}
use Rattle.pb_diagram.proofs.guarded.Guarded.derive_sums.Goals as goal

pub overflow_sub-from : goal.overflow_sub-from
overflow_sub-from g c =
    let s = c.args.self.now in
    let l = c.args.ladder.now in
    let xs = c.as_slice-tiers.result.now in
    let h = ladder_slice s l xs c.as_slice-tiers.ensures.value c.requires.is in
    omega (arith, c.requires.is.within, ap (length {A = Tier}) c.as_slice-tiers.ensures.value, tiers-length s xs l.empty l.order l.end h)

pub slice_bounds-above-start : goal.slice_bounds-above-start
slice_bounds-above-start g c = omega (arith, c.requires.is.within, ap (length {A = Tier}) c.as_slice-tiers.ensures.value)

pub terms_line-requires : goal.terms_line-requires
terms_line-requires g c =
    let s = c.args.self.now in
    record { fits = light_terms _ (omega (arith, light_from s.terms.now (length s.terms.now - c.args.ladder.now.empty), s.light)) }

pub hand_line-requires : goal.hand_line-requires
hand_line-requires g c =
    let s = c.args.self.now in
    let l = c.args.ladder.now in
    let xs = c.as_slice-tiers.result.now in
    let h = ladder_slice s l xs c.as_slice-tiers.ensures.value c.requires.is in
    record { few = omega (arith, c.requires.next, (small s xs l.empty l.order l.end h).0, few s xs l.empty l.order l.end h, s.modest) }

pub derive_levels-requires : goal.derive_levels-requires
derive_levels-requires g c =
    let s = c.args.self.now in
    let l = c.args.ladder.now in
    let xs = c.as_slice-tiers.result.now in
    let h = ladder_slice s l xs c.as_slice-tiers.ensures.value c.requires.is in
    record { few = omega (arith, c.requires.next, line_next (c.in_ok-hand_line.ensures _ c.terms_line.ensures), climbs_ids s xs l.empty l.order l.end h, (small s xs l.empty l.order l.end h).1, few s xs l.empty l.order l.end h, s.modest) }

pub returns-in_err-hand_line : goal.returns-in_err-hand_line
returns-in_err-hand_line g c =
    let s = c.args.self.now in
    let l = c.args.ladder.now in
    let xs = c.as_slice-tiers.result.now in
    let h = ladder_slice s l xs c.as_slice-tiers.ensures.value c.requires.is in
    let old = (g.T.StepSink.state c.args.sink.now) in
    let behind_is = behind_them s xs l.empty l.order l.end h (length s.terms.now - l.empty) refl in
    let k : ℕ = length s.terms.now - l.empty in
    let line : Pol (Axiom (positive_of c.new-guard.result) ∷ Weaken c.new-guard.result ∷ all_terms (weights (take (length s.terms.now - k) (drop k s.terms.now)))) ∷ [] ≡ terms_line s.first (behind (lower_terms s) (lower s)) ∷ [] =
    (λ x. Pol (Axiom (positive_of (c.new-guard.ensures x)) ∷ Weaken (c.new-guard.ensures x) ∷ all_terms (behind_is x)) ∷ []) in
    let one : List Step = terms_line s.first (behind (lower_terms s) (lower s)) ∷ [] in
    let two : List Step = turn s.first Climb (sums_of s + 1) (above s xs l.empty l.order l.end h) in
    record {
      hands = steps_same c.from_residual.result _ _ old (g.T.StepSink.state c.hand_line.new.sink) (sums_phase s xs l.empty l.order l.end h)
          (first_fault c.from_residual.result one two old _ (g.T.StepSink.state c.hand_line.new.sink) c.from_residual.ensures.1 (stops_as line (c.in_err-hand_line.ensures _ c.terms_line.ensures)));
      next = IfOk-from_err _ _ c.from_residual.ensures.0;
    }

pub returns : goal.returns
returns g c =
    let s = c.args.self.now in
    let l = c.args.ladder.now in
    let xs = c.as_slice-tiers.result.now in
    let h = ladder_slice s l xs c.as_slice-tiers.ensures.value c.requires.is in
    let old = (g.T.StepSink.state c.args.sink.now) in
    let r = c.derive_levels.result in
    let behind_is = behind_them s xs l.empty l.order l.end h (length s.terms.now - l.empty) refl in
    let k : ℕ = length s.terms.now - l.empty in
    let line : Pol (Axiom (positive_of c.new-guard.result) ∷ Weaken c.new-guard.result ∷ all_terms (weights (take (length s.terms.now - k) (drop k s.terms.now)))) ∷ [] ≡ terms_line s.first (behind (lower_terms s) (lower s)) ∷ [] =
    (λ x. Pol (Axiom (positive_of (c.new-guard.ensures x)) ∷ Weaken (c.new-guard.ensures x) ∷ all_terms (behind_is x)) ∷ []) in
    let one : List Step = terms_line s.first (behind (lower_terms s) (lower s)) ∷ [] in
    let two : List Step = turn s.first Climb (sums_of s + 1) (above s xs l.empty l.order l.end h) in
    let taken = subst (λ (ss : List Step). TakesSteps ss old (g.T.StepSink.state c.hand_line.new.sink)) line (c.in_ok-hand_line.ensures _ c.terms_line.ensures) in
    let at : (g.T.StepSink.state c.hand_line.new.sink).next ≡ sums_of s + 1 = omega (arith, line_next taken, c.requires.next) in
    record {
      hands = steps_same r _ _ old (g.T.StepSink.state c.derive_levels.new.sink) (sums_phase s xs l.empty l.order l.end h)
          (then_others r one two old (g.T.StepSink.state c.hand_line.new.sink) (g.T.StepSink.state c.derive_levels.new.sink) taken (steps_same r _ _ (g.T.StepSink.state c.hand_line.new.sink) (g.T.StepSink.state c.derive_levels.new.sink) (ap (λ (n : ℕ). turn s.first Climb n (above s xs l.empty l.order l.end h)) at) c.derive_levels.ensures.hands));
      next = subst (λ (n : ℕ). IfOk r (λ x. (g.T.StepSink.state c.derive_levels.new.sink).next ≡ n)) (let e : (g.T.StepSink.state c.hand_line.new.sink).next + _ ≡ held_of s + 1 = omega (arith, at, climbs_ids s xs l.empty l.order l.end h) in e) c.derive_levels.ensures.next;
    }
