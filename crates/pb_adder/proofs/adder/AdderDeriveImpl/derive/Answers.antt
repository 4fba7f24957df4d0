use Rattle.std.proofs.Common.{◌≡◌, ◌+◌, ◌*◌, ◌∙◌, ◌++◌, ◌^◌, List, length, refl, ap, subst, arith}
use Rattle.std.specs.List.{flat_map}
use Rattle.pb_norm.specs.Constraints.{weights}
use Rattle.pb_derive.specs.Deletions.{deletion_steps}
use Rattle.pb_derive.specs.Reifications.{reification_steps}
use Rattle.pb_family.specs.StepSinks.{TakesSteps, StopsInSteps}
use Rattle.pb_family.proofs.Deriving.{steps_same}
use Rattle.pb_steps.specs.declared.step.Step.{Step}
use Rattle.pb_adder.specs.AdderSteps.{adder_steps, defining_steps, proving_steps}
use Rattle.pb_adder.specs.GateReifications.{gate_reifications}
use Rattle.pb_adder.specs.Network.{network_gates}
use Rattle.pb_adder.specs.declared.gate.Gate.{Gate}
use Rattle.pb_adder.specs.laws.CountLaws.{network_fresh}
use Rattle.pb_adder.proofs.DerivationIds.{defining_ids, proving_ids}
use Rattle.pb_adder.proofs.Fits.{gates_fit}
use Rattle.pb_adder.proofs.Walking.{part_stopped, middle_stopped, last_handed}
use Rattle.pb_adder.proofs.adder.AdderDeriveImpl.derive.Given.{Over}
use Rattle.pb_adder.proofs.adder.AdderDeriveImpl.derive.Goals.{In_ok-derive_reifications}
use Rattle.pb_adder.proofs.adder.AdderDeriveImpl.derive.Goals as goal

pub derive_reifications-requires : goal.derive_reifications-requires
derive_reifications-requires g c =
    let same = c.as_slice-gates.ensures.value ∙ c.args.self.now.added in
    record { low = c.requires.low; fits = gates_fit c.args.first (2 ^ 31) (weights c.args.self.now.terms) same c.requires.fits; few = omega (arith, c.requires.few, c.requires.fits, ap length same, network_fresh (weights c.args.self.now.terms)) }

pub returns-in_err-derive_reifications : goal.returns-in_err-derive_reifications
returns-in_err-derive_reifications g c =
    let f = c.args.self.now in
    let ts = weights f.terms in
    let old = g.T.StepSink.state c.args.sink.now in
    let mid = g.T.StepSink.state c.derive_reifications.new.sink in
    let count = length (network_gates ts) in
    part_stopped c.from_residual.result _ (adder_steps ts f.bound c.args.first c.args.id old.next) (defining_steps ts c.args.first old.next)
    (proving_steps ts f.bound c.args.first c.args.id old.next (old.next + 4 * count) ++ deletion_steps 2 old.next (2 * count)) old mid c.from_residual.ensures.1 refl
    (subst (λ (gs : List Gate). StopsInSteps (reification_steps old.next (flat_map (gate_reifications c.args.first) gs)) old mid c.in_err-derive_reifications.field-0.0) (c.as_slice-gates.ensures.value ∙ f.added) c.in_err-derive_reifications.ensures)

-- the reifications were taken, and which id is next
taken : (g : Over) (c : In_ok-derive_reifications g)
    → (let old = g.T.StepSink.state c.args.sink.now in TakesSteps (defining_steps (weights c.args.self.now.terms) c.args.first old.next) old (g.T.StepSink.state c.derive_reifications.new.sink))
taken g c =
    let old = g.T.StepSink.state c.args.sink.now in
    subst (λ (gs : List Gate). TakesSteps (reification_steps old.next (flat_map (gate_reifications c.args.first) gs)) old (g.T.StepSink.state c.derive_reifications.new.sink)) (c.as_slice-gates.ensures.value ∙ c.args.self.now.added) c.in_ok-derive_reifications.ensures

next : (g : Over) (c : In_ok-derive_reifications g) → (g.T.StepSink.state c.derive_reifications.new.sink).next ≡ (g.T.StepSink.state c.args.sink.now).next + 4 * length (network_gates (weights c.args.self.now.terms))
next g c = omega (arith, (taken g c).ids, defining_ids (weights c.args.self.now.terms) c.args.first (g.T.StepSink.state c.args.sink.now).next)

pub derive_proof-requires : goal.derive_proof-requires
derive_proof-requires g c = record {
  low = c.requires.low;
  fits = c.requires.fits;
  known = omega (arith, c.next_id-base.ensures, c.requires.known);
  given = omega (arith, c.next_id-base.ensures, c.requires.few);
  next = omega (arith, next g (goal.at.derive_proof-requires g c).In_ok-derive_reifications, c.next_id-base.ensures);
}

pub returns-in_err-derive_proof : goal.returns-in_err-derive_proof
returns-in_err-derive_proof g c =
    let s = (goal.at.returns-in_err-derive_proof g c).In_ok-derive_reifications in
    let f = c.args.self.now in
    let ts = weights f.terms in
    let old = g.T.StepSink.state c.args.sink.now in
    let after = g.T.StepSink.state c.derive_proof.new.sink in
    middle_stopped c.from_residual-in_err-derive_proof.result _ (adder_steps ts f.bound c.args.first c.args.id old.next) (defining_steps ts c.args.first old.next) (proving_steps ts f.bound c.args.first c.args.id old.next (old.next + 4 * length (network_gates ts)))
    (deletion_steps 2 old.next (2 * length (network_gates ts))) old _ after c.from_residual-in_err-derive_proof.ensures.1 refl (taken g s)
    (subst (λ (ss : List Step). StopsInSteps ss (g.T.StepSink.state c.derive_reifications.new.sink) after c.in_err-derive_proof.field-0.0) (λ i. proving_steps ts f.bound c.args.first c.args.id (c.next_id-base.ensures i) (next g s i)) c.in_err-derive_proof.ensures)

pub derive_deletions-requires-clause-few : goal.derive_deletions-requires-clause-few
derive_deletions-requires-clause-few g c =
    let f = c.args.self.now in
    omega (
      arith,
      next g (goal.at.derive_deletions-requires-clause-few g c).In_ok-derive_reifications,
      c.in_ok-derive_proof.ensures.ids,
      proving_ids (weights f.terms) f.bound c.args.first c.args.id c.next_id-base.result (g.T.StepSink.state c.derive_reifications.new.sink).next f.small,
      c.requires.few,
      c.requires.fits,
      network_fresh (weights f.terms),
    )

pub returns : goal.returns
returns g c =
    let s = (goal.at.returns g c).In_ok-derive_reifications in
    let f = c.args.self.now in
    let ts = weights f.terms in
    let old = g.T.StepSink.state c.args.sink.now in
    let late = g.T.StepSink.state c.derive_proof.new.sink in
    let count = length (network_gates ts) in
    let same = c.as_slice-gates.ensures.value ∙ f.added in
    last_handed c.derive_deletions.result (adder_steps ts f.bound c.args.first c.args.id old.next) (defining_steps ts c.args.first old.next) (proving_steps ts f.bound c.args.first c.args.id old.next (old.next + 4 * count))
    (deletion_steps 2 old.next (2 * count)) old _ late _ refl (taken g s)
    (subst (λ (ss : List Step). TakesSteps ss (g.T.StepSink.state c.derive_reifications.new.sink) late) (λ i. proving_steps ts f.bound c.args.first c.args.id (c.next_id-base.ensures i) (next g s i)) c.in_ok-derive_proof.ensures)
    (steps_same c.derive_deletions.result _ (deletion_steps 2 old.next (2 * count)) late (g.T.StepSink.state c.derive_deletions.new.sink) (λ i. deletion_steps 2 (c.next_id-base.ensures i) (2 * length (same i))) c.derive_deletions.ensures)
