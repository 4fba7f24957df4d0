use Rattle.std.proofs.Common.{◌≡◌, ◌<◌, ◌+◌, ◌∙◌, ◌++◌, ◌^◌, ℕ, List, length, refl, ap, sym, subst, arith}
use Rattle.std.specs.Prelude.{All}
use Rattle.std.proofs.lemmas.List.Elements.{All-map}
use Rattle.pb_norm.specs.Constraints.{weights}
use Rattle.pb_derive.specs.Claims.{claim_steps}
use Rattle.pb_family.specs.StepSinks.{TakesSteps, StopsInSteps}
use Rattle.pb_family.proofs.Deriving.{steps_same}
use Rattle.pb_steps.specs.declared.step.Step.{Step}
use Rattle.pb_adder.specs.AdderSteps.{adder_claims, blocks, last_deletion, last_sum, levels_of, proving_steps, sum_steps}
use Rattle.pb_adder.specs.LeveledGates.{Leveled, leveled_gates}
use Rattle.pb_adder.specs.laws.CountLaws.{network_fresh}
use Rattle.pb_adder.specs.laws.Leveling.{network_levels}
use Rattle.pb_adder.specs.laws.StepCounts.{few_blocks, levels-length}
use Rattle.pb_adder.proofs.DerivationIds.{adder_claims_ids}
use Rattle.pb_adder.proofs.Walking.{part_stopped, middle_stopped, last_handed}
use Rattle.pb_adder.proofs.Walks.{last_below, sums_ids}
use Rattle.pb_adder.proofs.adder.Adder.derive_proof.Given.{Over}
use Rattle.pb_adder.proofs.adder.Adder.derive_proof.Goals.{In_ok-last}
use Rattle.pb_adder.proofs.adder.Adder.derive_proof.Goals as goal

pub invariant_of-summands : goal.invariant_of-summands
invariant_of-summands g c =
    let f = c.args.self.now in
    let ts = weights f.terms in
    let Low : ℕ → Type 0 = λ l. l < 126 in
    let same = c.as_slice-heights.ensures.value ∙ f.leveled in
    record {
      low = subst (All Low) (sym same) (All-map Low (λ (x : Leveled). x.level) (leveled_gates ts) (network_levels ts f.small));
      fits = omega (arith, c.requires.given, c.requires.fits, ap length same, levels-length ts, network_fresh ts);
    }

pub derive_sums-requires : goal.derive_sums-requires
derive_sums-requires g c =
    let f = c.args.self.now in
    let ts = weights f.terms in
    record { given = omega (arith, c.requires.known, c.requires.given); room = omega (arith, c.requires.next, c.requires.given, c.requires.fits, ap length (c.as_slice-heights.ensures.value ∙ f.leveled), levels-length ts, network_fresh ts) }

pub returns-in_err-last : goal.returns-in_err-last
returns-in_err-last g c =
    let f = c.args.self.now in
    let ts = weights f.terms in
    let old = g.T.StepSink.state c.args.sink.now in
    let mid = g.T.StepSink.state c.derive_sums.new.sink in
    let levels = levels_of ts in
    let parts = blocks levels in
    let last = last_sum c.args.id old.next parts in
    part_stopped c.from_residual.result _ (proving_steps ts f.bound c.args.first c.args.id c.args.base old.next) (sum_steps c.args.base c.args.id old.next parts)
    (claim_steps (old.next + length parts) (adder_claims ts f.bound c.args.first c.args.base last) ++ last_deletion last levels) old mid c.from_residual.ensures.1 refl
    (subst (λ (ls : List ℕ). StopsInSteps (sum_steps c.args.base c.args.id old.next (blocks ls)) old mid c.in_err-last.field-0.0) (c.as_slice-heights.ensures.value ∙ f.leveled) c.in_err-last.ensures.steps)

-- the sums were taken, which id is next, and which the last sum has
taken : (g : Over) (c : In_ok-last g)
    → (let old = g.T.StepSink.state c.args.sink.now in TakesSteps (sum_steps c.args.base c.args.id old.next (blocks (levels_of (weights c.args.self.now.terms)))) old (g.T.StepSink.state c.derive_sums.new.sink))
taken g c =
    let old = g.T.StepSink.state c.args.sink.now in
    subst (λ (ls : List ℕ). TakesSteps (sum_steps c.args.base c.args.id old.next (blocks ls)) old (g.T.StepSink.state c.derive_sums.new.sink)) (c.as_slice-heights.ensures.value ∙ c.args.self.now.leveled) c.in_ok-last.ensures.steps

next : (g : Over) (c : In_ok-last g) → (g.T.StepSink.state c.derive_sums.new.sink).next ≡ (g.T.StepSink.state c.args.sink.now).next + length (blocks (levels_of (weights c.args.self.now.terms)))
next g c = omega (arith, (taken g c).ids, sums_ids c.args.base c.args.id (g.T.StepSink.state c.args.sink.now).next (blocks (levels_of (weights c.args.self.now.terms))))

last_is : (g : Over) (c : In_ok-last g) → c.in_ok-last.last ≡ last_sum c.args.id (g.T.StepSink.state c.args.sink.now).next (blocks (levels_of (weights c.args.self.now.terms)))
last_is g c = c.in_ok-last.ensures.last ∙ ap (λ (ls : List ℕ). last_sum c.args.id (g.T.StepSink.state c.args.sink.now).next (blocks ls)) (c.as_slice-heights.ensures.value ∙ c.args.self.now.leveled)

pub derive_clauses-requires : goal.derive_clauses-requires
derive_clauses-requires g c =
    let ts = weights c.args.self.now.terms in
    let sums = next g (goal.at.derive_clauses-requires g c).In_ok-last in
    record { low = c.requires.low; fits = c.requires.fits; given = c.requires.given; few = omega (arith, sums, few_blocks (levels_of ts), c.requires.next, c.requires.given, levels-length ts) }

pub returns-in_err-derive_clauses : goal.returns-in_err-derive_clauses
returns-in_err-derive_clauses g c =
    let s = (goal.at.returns-in_err-derive_clauses g c).In_ok-last in
    let f = c.args.self.now in
    let ts = weights f.terms in
    let old = g.T.StepSink.state c.args.sink.now in
    let after = g.T.StepSink.state c.derive_clauses.new.sink in
    let parts = blocks (levels_of ts) in
    let last = last_sum c.args.id old.next parts in
    let claims = claim_steps (old.next + length parts) (adder_claims ts f.bound c.args.first c.args.base last) in
    middle_stopped c.from_residual-in_err-derive_clauses.result _ (proving_steps ts f.bound c.args.first c.args.id c.args.base old.next) (sum_steps c.args.base c.args.id old.next parts) claims (last_deletion last (levels_of ts)) old _ after
    c.from_residual-in_err-derive_clauses.ensures.1 refl (taken g s)
    (subst (λ (ss : List Step). StopsInSteps ss (g.T.StepSink.state c.derive_sums.new.sink) after c.in_err-derive_clauses.field-0.0) (λ i. claim_steps (next g s i) (adder_claims ts f.bound c.args.first c.args.base (last_is g s i))) c.in_err-derive_clauses.ensures)

pub derive_last_deletion-requires-clause-given : goal.derive_last_deletion-requires-clause-given
derive_last_deletion-requires-clause-given g c =
    let f = c.args.self.now in
    let ts = weights f.terms in
    let old = g.T.StepSink.state c.args.sink.now in
    let heights = c.as_slice-heights.result.now in
    let size = ap length (c.as_slice-heights.ensures.value ∙ f.leveled) in
    omega (
      arith,
      c.in_ok-last.ensures.last,
      few_blocks heights,
      last_below (2 ^ 62) c.args.id old.next (blocks heights) (omega (arith, c.requires.known, c.requires.given)) (omega (arith, few_blocks heights, c.requires.next, c.requires.given, c.requires.fits, size, levels-length ts, network_fresh ts)),
    )

pub derive_last_deletion-requires-clause-few : goal.derive_last_deletion-requires-clause-few
derive_last_deletion-requires-clause-few g c =
    let f = c.args.self.now in
    let ts = weights f.terms in
    omega (
      arith,
      next g (goal.at.derive_last_deletion-requires-clause-few g c).In_ok-last,
      few_blocks (levels_of ts),
      c.in_ok-derive_clauses.ensures.ids,
      adder_claims_ids ts f.bound c.args.first c.args.base c.in_ok-last.last (g.T.StepSink.state c.derive_sums.new.sink).next f.small,
      c.requires.next,
      c.requires.given,
      c.requires.fits,
      levels-length ts,
      network_fresh ts,
    )

pub returns : goal.returns
returns g c =
    let s = (goal.at.returns g c).In_ok-last in
    let f = c.args.self.now in
    let ts = weights f.terms in
    let old = g.T.StepSink.state c.args.sink.now in
    let late = g.T.StepSink.state c.derive_clauses.new.sink in
    let parts = blocks (levels_of ts) in
    let last = last_sum c.args.id old.next parts in
    let claims = claim_steps (old.next + length parts) (adder_claims ts f.bound c.args.first c.args.base last) in
    last_handed c.derive_last_deletion.result (proving_steps ts f.bound c.args.first c.args.id c.args.base old.next) (sum_steps c.args.base c.args.id old.next parts) claims (last_deletion last (levels_of ts)) old _ late _ refl (taken g s)
    (subst (λ (ss : List Step). TakesSteps ss (g.T.StepSink.state c.derive_sums.new.sink) late) (λ i. claim_steps (next g s i) (adder_claims ts f.bound c.args.first c.args.base (last_is g s i))) c.in_ok-derive_clauses.ensures)
    (steps_same c.derive_last_deletion.result (last_deletion c.in_ok-last.last c.as_slice-heights.result.now) (last_deletion last (levels_of ts)) late (g.T.StepSink.state c.derive_last_deletion.new.sink) (λ i. last_deletion (last_is g s i) ((c.as_slice-heights.ensures.value ∙ f.leveled) i)) c.derive_last_deletion.ensures)
