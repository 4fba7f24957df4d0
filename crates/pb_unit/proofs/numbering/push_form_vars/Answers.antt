use Rattle.std.proofs.Common.{◌<◌, ◌∙◌, ◌++◌, ℕ, List, ap, sym, append_assoc, length, take, arith}
use Rattle.pb_base.specs.declared.literal.Term.{Term}
use Rattle.pb_norm.specs.Constraints.{weights}
use Rattle.pb_unit.specs.Renaming.{form_vars, term_vars}
use Rattle.pb_unit.proofs.ReadForms.{vars_read}
use Rattle.pb_unit.proofs.numbering.push_form_vars.Goals as goal

pub loop-place-preserved : goal.loop-place-preserved
loop-place-preserved c =
    let before : List ℕ = c.args.out.now.items in
    let i : ℕ = c.loop-place.place in
    let ts : List Term = c.deref.result.now in
    let so_far : List ℕ = form_vars (take i c.args.forms.now) in
    let below : i < length c.args.forms.now = omega (arith, c.loop-place-test.true, c.len-place-end.ensures) in
    record {
      vars =
          c.in_ok-push_term_vars.ensures.vars
          ∙ ap (λ (vs : List ℕ). vs ++ term_vars (weights ts)) c.loop-place.invariant.vars
          ∙ append_assoc before so_far (term_vars (weights ts))
          ∙ ap (λ (us : List Term). before ++ (so_far ++ term_vars (weights us))) c.deref.ensures.value
          ∙ ap (λ (vs : List ℕ). before ++ vs) (sym (vars_read c.args.forms.now i c.read.new.terms.items c.in_ok-read.field-0 below c.in_ok-read.ensures));
      names = c.in_ok-push_term_vars.ensures.names;
    }
