use Rattle.std.proofs.Common.{◌∙◌, sym, subst}
use Rattle.pb_norm.specs.Constraints.{AreUnsigned, IsLinear}
use Rattle.pb_database.proofs.UnitLemmas.{clause-of_terms, unit_terms-unsigned}
use Rattle.pb_database.proofs.packed.clause.Goals as goal

pub from_parts-requires-clause-terms : goal.from_parts-requires-clause-terms
from_parts-requires-clause-terms c = subst AreUnsigned (sym c.in_ok-terms.ensures) (unit_terms-unsigned c.args.lits.now)

pub from_parts-requires-clause-linear : goal.from_parts-requires-clause-linear
from_parts-requires-clause-linear c = subst IsLinear (sym (clause-of_terms c.args.lits.now c.in_ok-terms.terms.items c.in_ok-terms.ensures)) c.requires

pub returns : goal.returns
returns c = c.from_parts.ensures ∙ clause-of_terms c.args.lits.now c.in_ok-terms.terms.items c.in_ok-terms.ensures
