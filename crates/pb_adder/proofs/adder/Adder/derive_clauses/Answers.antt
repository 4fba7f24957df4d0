use Rattle.std.proofs.Common.{◌≡◌, ◌+◌, ◌∙◌, ◌^◌, List, length, ap, subst, arith}
use Rattle.pb_norm.specs.Constraints.{weights}
use Rattle.pb_derive.specs.Claims.{claim_steps}
use Rattle.pb_family.specs.StepSinks.{TakesSteps, StopsInSteps}
use Rattle.pb_family.proofs.Deriving.{steps_same}
use Rattle.pb_adder.specs.AdderSteps.{adder_claims, gate_claims, row_claims}
use Rattle.pb_adder.specs.Comparator.{comparator}
use Rattle.pb_adder.specs.Network.{network_ends, network_gates}
use Rattle.pb_adder.specs.declared.gate.Gate.{Gate}
use Rattle.pb_adder.specs.laws.AdderShort.{gate_claims_few}
use Rattle.pb_adder.specs.laws.CountLaws.{network_fresh}
use Rattle.pb_adder.proofs.Fits.{ends_few, ends_fit, gates_fit}
use Rattle.pb_adder.proofs.Walking.{part_stopped, parts_handed}
use Rattle.pb_adder.proofs.Walks.{claims-append, gate_claims_ids}
use Rattle.pb_adder.proofs.adder.Adder.derive_clauses.Goals as goal

pub derive_gates-requires : goal.derive_gates-requires
derive_gates-requires g c =
    let same = c.as_slice.ensures.value ∙ c.args.self.now.added in
    let count = network_fresh (weights c.args.self.now.terms) in
    record {
      low = c.requires.low;
      fits = gates_fit c.args.first (2 ^ 31) (weights c.args.self.now.terms) same c.requires.fits;
      given = omega (arith, c.requires.given, c.requires.fits, ap length same, count);
      few = omega (arith, c.requires.few, c.requires.fits, ap length same, count);
    }

pub returns-in_err-derive_gates : goal.returns-in_err-derive_gates
returns-in_err-derive_gates g c =
    let ts = weights c.args.self.now.terms in
    let old = g.T.StepSink.state c.args.sink.now in
    let after = g.T.StepSink.state c.derive_gates.new.sink in
    let gates = gate_claims c.args.first c.args.base (network_gates ts) in
    let rows = row_claims c.args.last (comparator c.args.first c.args.self.now.bound (network_ends ts)) in
    part_stopped c.from_residual.result _ (claim_steps old.next (adder_claims ts c.args.self.now.bound c.args.first c.args.base c.args.last)) (claim_steps old.next gates) (claim_steps (old.next + length gates) rows) old after c.from_residual.ensures.1
    (claims-append old.next gates rows)
    (subst (λ (gs : List Gate). StopsInSteps (claim_steps old.next (gate_claims c.args.first c.args.base gs)) old after c.in_err-derive_gates.field-0.0) (c.as_slice.ensures.value ∙ c.args.self.now.added) c.in_err-derive_gates.ensures)

pub derive_rows-requires : goal.derive_rows-requires
derive_rows-requires g c =
    let own = c.args.self.now in
    let gates = c.as_slice.result.now in
    let ended = c.as_slice-2.ensures.value ∙ own.ended in
    let ids = gate_claims_ids c.args.first c.args.base (g.T.StepSink.state c.args.sink.now).next gates in
    let count = ap length (c.as_slice.ensures.value ∙ own.added) in
    record {
      low = c.requires.low;
      few = ends_few (weights own.terms) _ ended own.small;
      fits = ends_fit c.args.first (2 ^ 31) (weights own.terms) ended c.requires.fits;
      room = omega (arith, c.in_ok-derive_gates.ensures.ids, ids, gate_claims_few c.args.first c.args.base gates, c.requires.few, c.requires.fits, count, network_fresh (weights own.terms));
    }

pub returns : goal.returns
returns g c =
    let ts = weights c.args.self.now.terms in
    let old = g.T.StepSink.state c.args.sink.now in
    let mid = g.T.StepSink.state c.derive_gates.new.sink in
    let after = g.T.StepSink.state c.derive_rows.new.sink in
    let bound = c.args.self.now.bound in
    let gates = gate_claims c.args.first c.args.base (network_gates ts) in
    let rows = row_claims c.args.last (comparator c.args.first bound (network_ends ts)) in
    let same = c.as_slice-2.ensures.value ∙ c.args.self.now.ended in
    let taken = subst (λ (gs : List Gate). TakesSteps (claim_steps old.next (gate_claims c.args.first c.args.base gs)) old mid) (c.as_slice.ensures.value ∙ c.args.self.now.added) c.in_ok-derive_gates.ensures in
    let count : mid.next ≡ old.next + length gates = omega (arith, taken.ids, gate_claims_ids c.args.first c.args.base old.next (network_gates ts)) in
    parts_handed c.derive_rows.result (claim_steps old.next (adder_claims ts bound c.args.first c.args.base c.args.last)) (claim_steps old.next gates) (claim_steps (old.next + length gates) rows) old mid after (claims-append old.next gates rows) taken
    (steps_same c.derive_rows.result (claim_steps mid.next (row_claims c.args.last (comparator c.args.first bound c.as_slice-2.result.now))) (claim_steps (old.next + length gates) rows) mid after (λ i. claim_steps (count i) (row_claims c.args.last (comparator c.args.first bound (same i)))) c.derive_rows.ensures)
