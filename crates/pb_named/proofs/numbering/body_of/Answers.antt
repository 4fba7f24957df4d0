use Rattle.std.proofs.Common.{◌≡◌, ◌∙◌, List, IfOk, ap, sym, subst}
use Rattle.pb_named.specs.NamedTerms.{NamedTerm}
use Rattle.pb_named.specs.NamedProblems.{products_in, terms_of}
use Rattle.pb_named.specs.inner.Kept.{body_terms}
use Rattle.pb_named.proofs.NumberLemmas.{noting}
use Rattle.pb_named.proofs.numbering.body_of.Goals as goal

pub returns-in_ok-write_named-in-Plain-clause-terms : goal.returns-in_ok-write_named-in-Plain-clause-terms
returns-in_ok-write_named-in-Plain-clause-terms c =
    let t = c.args.table.now in
    subst (λ (ns : List NamedTerm). IfOk c.terms_of.result (λ ts. ts ≡ terms_of t (noting c.args.products.now (products_in t ns)) ns))
    (c.as_slice.ensures.value ∙ c.in_ok-write_named-in-Plain.ensures ∙ ap body_terms (sym c.in-Plain.is)) c.terms_of.ensures.terms

pub returns-in-Whole-clause-terms : goal.returns-in-Whole-clause-terms
returns-in-Whole-clause-terms c =
    let t = c.args.table.now in
    subst (λ (ns : List NamedTerm). IfOk c.terms_of-in-Whole.result (λ ts. ts ≡ terms_of t (noting c.args.products.now (products_in t ns)) ns))
    (ap body_terms (sym c.in-Whole.is)) c.terms_of-in-Whole.ensures.terms
