use Rattle.std.proofs.Common.{◌∙◌, sym, subst, refl}
use Rattle.pb_norm.specs.Constraints.{IsLinear, Constraint, constraint_of}
use Rattle.pb_norm.proofs.KeptTerms.{terms_of-weights}
use Rattle.pb_unit.specs.Renaming.{number_in}
use Rattle.pb_unit.proofs.Numbered.{numbered_is, numbered_known, numbered_linear, numbered_unsigned}
use Rattle.pb_unit.proofs.numbering.Names.numbered_form.Goals as goal

pub from_parts-requires-clause-terms : goal.from_parts-requires-clause-terms
from_parts-requires-clause-terms c =
    numbered_unsigned (number_in c.args.self.now) (constraint_of c.args.terms.now c.args.degree) c.args.terms.now c.in_ok-terms.terms.items (sym (terms_of-weights c.args.terms.now c.requires.unsigned)) c.in_ok-terms.ensures

pub from_parts-requires-clause-linear : goal.from_parts-requires-clause-linear
from_parts-requires-clause-linear c =
    let form : Constraint = constraint_of c.args.terms.now c.args.degree in
    let is = numbered_is (number_in c.args.self.now) form c.args.terms.now c.in_ok-terms.terms.items (sym (terms_of-weights c.args.terms.now c.requires.unsigned)) c.in_ok-terms.ensures c.args.degree refl in
    subst IsLinear (sym is) (numbered_linear c.args.self.now c.len.ensures.names form c.requires.known c.requires.linear)

pub numbered_terms-requires : goal.numbered_terms-requires
numbered_terms-requires c = numbered_known c.args.self.now (constraint_of c.args.terms.now c.args.degree) c.args.terms.now (sym (terms_of-weights c.args.terms.now c.requires.unsigned)) c.requires.known

pub returns : goal.returns
returns c =
    c.from_parts.ensures ∙
    numbered_is (number_in c.args.self.now) (constraint_of c.args.terms.now c.args.degree) c.args.terms.now c.in_ok-terms.terms.items (sym (terms_of-weights c.args.terms.now c.requires.unsigned)) c.in_ok-terms.ensures c.args.degree refl
