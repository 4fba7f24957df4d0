use Rattle.std.proofs.Common.{◌≡◌, ◌∙◌, ap, sym, arith, map}
use Rattle.pb_norm.specs.Constraints.{weight, weights}
use Rattle.pb_norm.specs.BoundedSums.{sum_within}
use Rattle.pb_norm.specs.Reduction.{opposite}
use Rattle.pb_norm.specs.inner.Kept.{on_term}
use Rattle.pb_family.proofs.Deriving.{steps_lack_first}
use Rattle.pb_family.proofs.TermSlices.{light_terms}
use Rattle.pb_diagram.specs.Clauses.{diagram_fresh}
use Rattle.pb_diagram.proofs.ReificationSteps.{turned_terms}
use Rattle.pb_diagram.proofs.diagram.Diagram.derive_plainly.Goals as goal

pub negated_terms-requires : goal.negated_terms-requires
negated_terms-requires g c =
    let terms = c.as_slice.result.now in
    let same = ap (λ ts. weight (weights ts)) c.as_slice.ensures.value in
    record { fits = light_terms terms (omega (arith, c.args.self.now.light)) }

pub returns-in_err-negated : goal.returns-in_err-negated
returns-in_err-negated g c = steps_lack_first _ (g.T.StepSink.state c.args.sink.now) c.from_residual.result c.from_residual.ensures.1

pub invariant_of-derivation : goal.invariant_of-derivation
invariant_of-derivation g c =
    let shape = c.shape.result in
    let told = c.shape.ensures in
    let negated = c.as_slice-2.ensures.value ∙ c.in_ok-negated.ensures ∙ ap (map (on_term opposite)) (c.as_slice.ensures.value ∙ sym told.terms) in
    let fresh : diagram_fresh (sum_within shape.terms.now shape.bound) ≡ diagram_fresh (sum_within c.args.self.now.terms.items c.args.self.now.bound) = λ x. diagram_fresh (sum_within (told.terms x) (told.bound x)) in
    record {
      turned = ap weights negated ∙ turned_terms shape.terms.now;
      low = c.requires.low;
      fits = omega (arith, c.requires.fits);
      modest = omega (arith, c.next_id.ensures, c.requires.few);
    }
