use Rattle.std.proofs.Common.{◌≡◌, ◌∙◌, ap, sym, subst, List, ℕ}
use Rattle.pb_base.specs.declared.literal.Term.{Term}
use Rattle.pb_norm.specs.Constraints.{Weighted, AreUnsigned, IsLinear, constraint_of, terms_of, weights}
use Rattle.pb_norm.proofs.KeptTerms.{weights-terms_of, terms_of-unsigned}
use Rattle.pb_database.proofs.short_sum.ShortSum.read.Goals as goal

-- terms as they came, of those that are kept, are the constraint
as-kept : (ts : List Term) (us vs : List Weighted) (d : ℕ) → ts ≡ terms_of us → us ≡ vs → constraint_of ts d ≡ record { terms = vs; degree = d }
as-kept ts us vs d e f = ap (λ (ws : List Weighted). record { terms = ws; degree = d }) (ap weights e ∙ (weights-terms_of us ∙ f))

pub from_parts-requires-clause-terms : goal.from_parts-requires-clause-terms
from_parts-requires-clause-terms c = subst AreUnsigned (sym c.in_ok-terms.ensures) (terms_of-unsigned c.deref.result.now)

pub from_parts-requires-clause-linear : goal.from_parts-requires-clause-linear
from_parts-requires-clause-linear c =
    subst IsLinear (sym (as-kept c.in_ok-terms.terms.items c.deref.result.now c.self.inside.terms.items c.self.inside.degree c.in_ok-terms.ensures c.deref.ensures.value)) c.self.invariant

pub returns : goal.returns
returns c =
    c.from_parts.ensures ∙
    (as-kept c.in_ok-terms.terms.items c.deref.result.now c.self.inside.terms.items c.self.inside.degree c.in_ok-terms.ensures c.deref.ensures.value ∙ c.self.view_is)
