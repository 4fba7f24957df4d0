use Rattle.std.proofs.Common.{◌∙◌, ap, refl, sym}
use Rattle.std.specs.Prelude.{Some}
use Rattle.pb_steps.specs.Operations.{IsNarrow, multiple}
use Rattle.pb_operations.proofs.Parts.{scaled-room, multiple-made, made-is, made-is_linear}
use Rattle.pb_operations.proofs.algebra.multiple.Goals as goal

pub scale_terms-requires : goal.scale_terms-requires
scale_terms-requires c =
    scaled-room c.args.factor c.args.constraint.now _ c.terms.ensures.weights (sym c.has_room_for_multiple.ensures ∙ c.if-not-has_room_for_multiple.false)

pub from_parts-requires-clause-terms : goal.from_parts-requires-clause-terms
from_parts-requires-clause-terms c =
    (multiple-made c.args.factor c.args.constraint.now _ _ _ _ c.requires c.terms.ensures.linear (sym c.has_room_for_multiple.ensures ∙ c.if-not-has_room_for_multiple.false) c.terms.ensures.weights c.in_ok-terms.ensures c.degree.ensures.value refl).unsigned

pub from_parts-requires-clause-linear : goal.from_parts-requires-clause-linear
from_parts-requires-clause-linear c =
    made-is_linear (multiple c.args.factor c.args.constraint.now) _ _
    (multiple-made c.args.factor c.args.constraint.now _ _ _ _ c.requires c.terms.ensures.linear (sym c.has_room_for_multiple.ensures ∙ c.if-not-has_room_for_multiple.false) c.terms.ensures.weights c.in_ok-terms.ensures c.degree.ensures.value refl)

pub returns : goal.returns
returns c =
    let narrow : IsNarrow (multiple c.args.factor c.args.constraint.now) = sym c.has_room_for_multiple.ensures ∙ c.if-not-has_room_for_multiple.false in
    let same = c.from_parts.ensures ∙ made-is (multiple c.args.factor c.args.constraint.now) _ _
    (multiple-made c.args.factor c.args.constraint.now _ _ _ _ c.requires c.terms.ensures.linear narrow c.terms.ensures.weights c.in_ok-terms.ensures c.degree.ensures.value refl) in
    ap Some same ∙ rw narrow refl
