use Rattle.std.proofs.Common.{◌<◌, ◌∙◌, ◌++◌, ◌∷◌, [], ℕ, List, append_assoc, length, map, take, ap, arith, subst, sym}
use Rattle.std.specs.Prelude.{Contains}
use Rattle.pb_base.specs.declared.literal.Term.{Term}
use Rattle.pb_norm.specs.Constraints.{Constraint, constraint_of}
use Rattle.pb_unit.specs.Reaching.{OfConstraint}
use Rattle.pb_unit.specs.Renaming.{number_in, renamed}
use Rattle.pb_unit.proofs.ReadForms.{map_read, of_read}
use Rattle.pb_unit.proofs.numbering.push_numbered.Goals as goal

pub numbered_form-requires-clause-known : goal.numbered_form-requires-clause-known
numbered_form-requires-clause-known c =
    let below : c.loop-place.place < length c.args.forms.now = omega (arith, c.loop-place-test.true, c.len-place-end.ensures) in
    subst (λ (ts : List Term). OfConstraint (Contains c.args.names.now) (constraint_of ts c.in_ok-degree.degree)) (sym c.deref.ensures.value)
    (of_read c.args.forms.now c.loop-place.place c.read.new.terms.items c.in_ok-degree.degree below c.in_ok-degree.ensures (OfConstraint (Contains c.args.names.now)) c.requires)

pub loop-place-preserved : goal.loop-place-preserved
loop-place-preserved c =
    let f : Constraint → Constraint = renamed (number_in c.args.names.now) in
    let i : ℕ = c.loop-place.place in
    let before : List Constraint = c.args.made.now in
    let so_far : List Constraint = map f (take i c.args.forms.now) in
    let below : i < length c.args.forms.now = omega (arith, c.loop-place-test.true, c.len-place-end.ensures) in
    c.in_ok-push.ensures.ok
    ∙ ap (λ (cs : List Constraint). cs ++ c.in_ok-form.form ∷ []) c.loop-place.invariant
    ∙ append_assoc before so_far (c.in_ok-form.form ∷ [])
    ∙ ap (λ (d : Constraint). before ++ (so_far ++ d ∷ [])) (c.in_ok-form.ensures ∙ ap (λ (us : List Term). f (constraint_of us c.in_ok-degree.degree)) c.deref.ensures.value)
    ∙ ap (λ (cs : List Constraint). before ++ cs) (sym (map_read c.args.forms.now i c.read.new.terms.items c.in_ok-degree.degree below c.in_ok-degree.ensures f))
