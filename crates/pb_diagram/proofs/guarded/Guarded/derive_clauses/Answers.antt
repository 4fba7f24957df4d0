use Rattle.std.proofs.Common.{◌≡◌, ◌+◌, ◌-◌, ◌++◌, [], ◌∷◌, ℕ, List, ap, length, refl, subst, arith}
use Rattle.pb_steps.specs.declared.step.Step.{Step}
use Rattle.pb_steps.specs.declared.step.Step.TheVariants.{Out}
use Rattle.pb_derive.specs.Claims.{Claim, claim_steps}
use Rattle.pb_family.specs.StepSinks.{TakesSteps}
use Rattle.pb_family.proofs.Deriving.{steps_same}
use Rattle.pb_family.specs.Derivations.{ids_in_turn, in_turn}
use Rattle.pb_family.proofs.Sequence.{claims_ids}
use Rattle.pb_diagram.specs.declared.tier.Tier.{Tier}
use Rattle.pb_diagram.specs.inner.Parts.{count_of, ids_of, piece_of}
use Rattle.pb_diagram.specs.Guards.{Rung}
use Rattle.pb_diagram.specs.GuardedSteps.{all_claims}
use Rattle.pb_diagram.specs.inner.Ladders.{held_of, lower, lower_terms, root_node, root_term}
use Rattle.pb_diagram.specs.laws.PartIds.{claims_take as level_claims_take}
use Rattle.pb_diagram.proofs.GuardedHanding.{first_fault, stops_as, then_others}
use Rattle.pb_diagram.proofs.GuardedPhases.{back_few, back_ids, back_phase, claims_phase, few, last, last_is, own_claims, own_is, small}
use Rattle.pb_diagram.proofs.GuardedTurns.{back, level_claims-few}
use Rattle.pb_diagram.proofs.guarded.Guarded.derive_clauses.Goals as goal

pub derive_clauses-requires : goal.derive_clauses-requires
derive_clauses-requires g c =
    let s = c.args.self.now in
    let l = c.args.ladder.now in
    let xs = l.tiers.items in
    let h = c.requires.is in
    let root = c.args.root.now in
    let held = held_of s in
    let is = own_is s xs l.empty l.order l.end h root c.requires.root in
    let old = (g.T.StepSink.state c.args.sink.now) in
    let own = own_claims s xs l.empty l.order l.end h root c.requires.root in
    let later = all_claims s.base (s.first + 1) (lower_terms s) (lower s) in
    let end = last s xs l.empty l.order l.end h root c.requires.root in
    record { few = omega (arith, c.requires.next, ap (length {A = Claim}) is, level_claims-few (root_term s).lit (s.first + 1) s.first (held + 1) (root_node s ∷ []), (small s xs l.empty l.order l.end h).1, few s xs l.empty l.order l.end h, s.modest) }

pub derive_back-requires : goal.derive_back-requires
derive_back-requires g c =
    let s = c.args.self.now in
    let l = c.args.ladder.now in
    let xs = l.tiers.items in
    let h = c.requires.is in
    let root = c.args.root.now in
    let held = held_of s in
    let is = own_is s xs l.empty l.order l.end h root c.requires.root in
    let old = (g.T.StepSink.state c.args.sink.now) in
    let own = own_claims s xs l.empty l.order l.end h root c.requires.root in
    let later = all_claims s.base (s.first + 1) (lower_terms s) (lower s) in
    let end = last s xs l.empty l.order l.end h root c.requires.root in
    let taken = subst (λ (cs : List Claim). TakesSteps (claim_steps old.next cs) old (g.T.StepSink.state c.derive_clauses.new.sink)) is c.in_ok-derive_clauses.ensures in
    let at_1 : (g.T.StepSink.state c.derive_clauses.new.sink).next ≡ old.next + length own = omega (arith, taken.ids, claims_ids old.next own (level_claims_take (root_term s).lit (s.first + 1) s.first (held + 1) (root_node s ∷ []))) in
    let listed = ap (λ (ys : List Tier). ids_in_turn count_of ids_of (back s.first ys)) c.as_slice.ensures.value in
    record { few = omega (arith, c.requires.next, at_1, listed, level_claims-few (root_term s).lit (s.first + 1) s.first (held + 1) (root_node s ∷ []), back_few s xs l.empty l.order l.end h, (small s xs l.empty l.order l.end h).1, few s xs l.empty l.order l.end h, s.modest) }

pub overflow_sub-before : goal.overflow_sub-before
overflow_sub-before g c = omega (arith, ap (λ (x : Rung). x.counts) c.requires.root)

pub derive_root-requires : goal.derive_root-requires
derive_root-requires g c =
    let s = c.args.self.now in
    let l = c.args.ladder.now in
    let xs = l.tiers.items in
    let h = c.requires.is in
    let root = c.args.root.now in
    let held = held_of s in
    let is = own_is s xs l.empty l.order l.end h root c.requires.root in
    let old = (g.T.StepSink.state c.args.sink.now) in
    let own = own_claims s xs l.empty l.order l.end h root c.requires.root in
    let later = all_claims s.base (s.first + 1) (lower_terms s) (lower s) in
    let end = last s xs l.empty l.order l.end h root c.requires.root in
    let taken = subst (λ (cs : List Claim). TakesSteps (claim_steps old.next cs) old (g.T.StepSink.state c.derive_clauses.new.sink)) is c.in_ok-derive_clauses.ensures in
    let at_1 : (g.T.StepSink.state c.derive_clauses.new.sink).next ≡ old.next + length own = omega (arith, taken.ids, claims_ids old.next own (level_claims_take (root_term s).lit (s.first + 1) s.first (held + 1) (root_node s ∷ []))) in
    let listed = ap (λ (ys : List Tier). ids_in_turn count_of ids_of (back s.first ys)) c.as_slice.ensures.value in
    let handed_2 = subst (λ (ys : List Tier). TakesSteps (in_turn count_of ids_of piece_of (g.T.StepSink.state c.derive_clauses.new.sink).next (back s.first ys)) (g.T.StepSink.state c.derive_clauses.new.sink) (g.T.StepSink.state c.derive_back.new.sink)) c.as_slice.ensures.value c.in_ok-derive_back.ensures.hands in
    let taken_2 = subst (λ (ss : List Step). TakesSteps ss (g.T.StepSink.state c.derive_clauses.new.sink) (g.T.StepSink.state c.derive_back.new.sink)) (back_phase s xs l.empty l.order l.end h (g.T.StepSink.state c.derive_clauses.new.sink).next) handed_2 in
    let at_2 : (g.T.StepSink.state c.derive_back.new.sink).next ≡ (g.T.StepSink.state c.derive_clauses.new.sink).next + length later = omega (arith, c.in_ok-derive_back.ensures.next, listed, back_ids s xs l.empty l.order l.end h) in
    record { few = omega (arith, c.requires.next, at_1, at_2, level_claims-few (root_term s).lit (s.first + 1) s.first (held + 1) (root_node s ∷ []), back_ids s xs l.empty l.order l.end h, back_few s xs l.empty l.order l.end h, (small s xs l.empty l.order l.end h).1, few s xs l.empty l.order l.end h, s.modest) }

pub returns-in_err-derive_clauses : goal.returns-in_err-derive_clauses
returns-in_err-derive_clauses g c =
    let s = c.args.self.now in
    let l = c.args.ladder.now in
    let xs = l.tiers.items in
    let h = c.requires.is in
    let root = c.args.root.now in
    let held = held_of s in
    let is = own_is s xs l.empty l.order l.end h root c.requires.root in
    let old = (g.T.StepSink.state c.args.sink.now) in
    let own = own_claims s xs l.empty l.order l.end h root c.requires.root in
    let later = all_claims s.base (s.first + 1) (lower_terms s) (lower s) in
    let end = last s xs l.empty l.order l.end h root c.requires.root in
    let second : ℕ = old.next + length own in
    let third : ℕ = second + length later in
    steps_same c.from_residual.result _ _ old (g.T.StepSink.state c.derive_clauses.new.sink) (claims_phase s xs l.empty l.order l.end h root c.requires.root old.next second third refl refl)
    (first_fault c.from_residual.result (claim_steps old.next own) (claim_steps second later ++ claim_steps third (end ∷ [])) old _ (g.T.StepSink.state c.derive_clauses.new.sink) c.from_residual.ensures.1
    (stops_as (ap (claim_steps old.next) is) c.in_err-derive_clauses.ensures))

pub returns-in_err-derive_back : goal.returns-in_err-derive_back
returns-in_err-derive_back g c =
    let s = c.args.self.now in
    let l = c.args.ladder.now in
    let xs = l.tiers.items in
    let h = c.requires.is in
    let root = c.args.root.now in
    let held = held_of s in
    let is = own_is s xs l.empty l.order l.end h root c.requires.root in
    let old = (g.T.StepSink.state c.args.sink.now) in
    let own = own_claims s xs l.empty l.order l.end h root c.requires.root in
    let later = all_claims s.base (s.first + 1) (lower_terms s) (lower s) in
    let end = last s xs l.empty l.order l.end h root c.requires.root in
    let taken = subst (λ (cs : List Claim). TakesSteps (claim_steps old.next cs) old (g.T.StepSink.state c.derive_clauses.new.sink)) is c.in_ok-derive_clauses.ensures in
    let at_1 : (g.T.StepSink.state c.derive_clauses.new.sink).next ≡ old.next + length own = omega (arith, taken.ids, claims_ids old.next own (level_claims_take (root_term s).lit (s.first + 1) s.first (held + 1) (root_node s ∷ []))) in
    let e = c.from_residual-in_err-derive_back in
    let third : ℕ = (g.T.StepSink.state c.derive_clauses.new.sink).next + length later in
    steps_same e.result _ _ old (g.T.StepSink.state c.derive_back.new.sink) (claims_phase s xs l.empty l.order l.end h root c.requires.root old.next (g.T.StepSink.state c.derive_clauses.new.sink).next third at_1 refl)
    (then_others e.result (claim_steps old.next own) (claim_steps (g.T.StepSink.state c.derive_clauses.new.sink).next later ++ claim_steps third (end ∷ [])) old (g.T.StepSink.state c.derive_clauses.new.sink) (g.T.StepSink.state c.derive_back.new.sink) taken
    (first_fault e.result (claim_steps (g.T.StepSink.state c.derive_clauses.new.sink).next later) (claim_steps third (end ∷ [])) (g.T.StepSink.state c.derive_clauses.new.sink) _ (g.T.StepSink.state c.derive_back.new.sink) e.ensures.1
    (stops_as (back_phase s xs l.empty l.order l.end h (g.T.StepSink.state c.derive_clauses.new.sink).next)
    (stops_as (ap (λ (ys : List Tier). in_turn count_of ids_of piece_of (g.T.StepSink.state c.derive_clauses.new.sink).next (back s.first ys)) c.as_slice.ensures.value) c.in_err-derive_back.ensures.hands))))

pub returns : goal.returns
returns g c =
    let s = c.args.self.now in
    let l = c.args.ladder.now in
    let xs = l.tiers.items in
    let h = c.requires.is in
    let root = c.args.root.now in
    let held = held_of s in
    let is = own_is s xs l.empty l.order l.end h root c.requires.root in
    let old = (g.T.StepSink.state c.args.sink.now) in
    let own = own_claims s xs l.empty l.order l.end h root c.requires.root in
    let later = all_claims s.base (s.first + 1) (lower_terms s) (lower s) in
    let end = last s xs l.empty l.order l.end h root c.requires.root in
    let taken = subst (λ (cs : List Claim). TakesSteps (claim_steps old.next cs) old (g.T.StepSink.state c.derive_clauses.new.sink)) is c.in_ok-derive_clauses.ensures in
    let at_1 : (g.T.StepSink.state c.derive_clauses.new.sink).next ≡ old.next + length own = omega (arith, taken.ids, claims_ids old.next own (level_claims_take (root_term s).lit (s.first + 1) s.first (held + 1) (root_node s ∷ []))) in
    let listed = ap (λ (ys : List Tier). ids_in_turn count_of ids_of (back s.first ys)) c.as_slice.ensures.value in
    let handed_2 = subst (λ (ys : List Tier). TakesSteps (in_turn count_of ids_of piece_of (g.T.StepSink.state c.derive_clauses.new.sink).next (back s.first ys)) (g.T.StepSink.state c.derive_clauses.new.sink) (g.T.StepSink.state c.derive_back.new.sink)) c.as_slice.ensures.value c.in_ok-derive_back.ensures.hands in
    let taken_2 = subst (λ (ss : List Step). TakesSteps ss (g.T.StepSink.state c.derive_clauses.new.sink) (g.T.StepSink.state c.derive_back.new.sink)) (back_phase s xs l.empty l.order l.end h (g.T.StepSink.state c.derive_clauses.new.sink).next) handed_2 in
    let at_2 : (g.T.StepSink.state c.derive_back.new.sink).next ≡ (g.T.StepSink.state c.derive_clauses.new.sink).next + length later = omega (arith, c.in_ok-derive_back.ensures.next, listed, back_ids s xs l.empty l.order l.end h) in
    let r = c.derive_root.result in
    let counts : root.counts - 1 ≡ held = omega (arith, ap (λ (x : Rung). x.counts) c.requires.root) in
    let final = ap (λ (st : Step). st ∷ Out (g.T.StepSink.state c.derive_back.new.sink).next ∷ []) (last_is s xs l.empty l.order l.end h root c.requires.root (root.counts - 1) counts) in
    steps_same r _ _ old (g.T.StepSink.state c.derive_root.new.sink) (claims_phase s xs l.empty l.order l.end h root c.requires.root old.next (g.T.StepSink.state c.derive_clauses.new.sink).next (g.T.StepSink.state c.derive_back.new.sink).next at_1 at_2)
    (then_others r (claim_steps old.next own) (claim_steps (g.T.StepSink.state c.derive_clauses.new.sink).next later ++ claim_steps (g.T.StepSink.state c.derive_back.new.sink).next (end ∷ [])) old (g.T.StepSink.state c.derive_clauses.new.sink) (g.T.StepSink.state c.derive_root.new.sink) taken
    (then_others r (claim_steps (g.T.StepSink.state c.derive_clauses.new.sink).next later) (claim_steps (g.T.StepSink.state c.derive_back.new.sink).next (end ∷ [])) (g.T.StepSink.state c.derive_clauses.new.sink) (g.T.StepSink.state c.derive_back.new.sink) (g.T.StepSink.state c.derive_root.new.sink) taken_2 (steps_same r _ _ (g.T.StepSink.state c.derive_back.new.sink) (g.T.StepSink.state c.derive_root.new.sink) final c.derive_root.ensures)))
