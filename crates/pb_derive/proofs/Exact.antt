-- What constraints add up to exactly.
use Rattle.std.proofs.Common.{◌≡◌, ◌≤◌, ◌+◌, ℕ, true, false, cond, List, [], ◌∷◌, ap, ◌∙◌, arith, pos, subst, sym}
use Rattle.std.specs.Prelude.{All, sum_by}
use Rattle.std.proofs.lemmas.Int.{ints}
use Rattle.std.proofs.lemmas.List.Elements.{All-head, All-tail}
use Rattle.pb_base.specs.declared.literal.Lit.{Lit}
use Rattle.pb_base.specs.Literals.{Assignment, is_same}
use Rattle.pb_norm.specs.Constraints.{Weighted, Constraint, AllPositive, IsAscending, value, term_value, terms_of}
use Rattle.pb_norm.specs.Addition.{coef_of, sum_of}
use Rattle.pb_norm.specs.Halves.{written}
use Rattle.pb_norm.specs.NormalForms.{net}
use Rattle.pb_norm.proofs.AdditionValues.{joined-value}
use Rattle.pb_norm.proofs.NetForm.{same_nets}
use Rattle.pb_derive.specs.inner.Exact.{IsSum}
use Rattle.pb_derive.specs.Forms.{AreSameTerms, IsFormOf}
use Rattle.pb_derive.specs.inner.Follows.{degrees, value_in}
use Rattle.pb_derive.proofs.Closed.{ArePositive, sum_from-positive}
use Rattle.pb_derive.proofs.Closing.{sum_from, AllAscending, sum_from-ascending, sum_from-coefs, net-coefs, degrees-cons, value_in-cons, coef_in-cons}
use Rattle.pb_derive.proofs.SameTerms.{written-form, written-all}

-- where no constraint has more than its degree, what is lacking is added exactly
exact_lacks : (a : Assignment) (c : Constraint) (ds : List Constraint) → AllAscending ds → value a c.terms ≤ c.degree → All (λ d. value a d.terms ≤ d.degree) ds →
    (c.degree + degrees ds) + value a (sum_from c ds).terms ≡ (sum_from c ds).degree + (value a c.terms + value_in a ds)
exact_lacks a c [] ups h hs = omega arith
exact_lacks a c (d ∷ ds) ups h hs =
    let up : IsAscending d.terms = All-head (λ (c : Constraint). IsAscending c.terms) d ds ups in
    let here : value a d.terms ≤ d.degree = All-head (λ (d : Constraint). value a d.terms ≤ d.degree) d ds hs in
    let values = joined-value a c.terms d.terms up in
    let rest = exact_lacks a (sum_of c d) ds (All-tail (λ (c : Constraint). IsAscending c.terms) d ds ups) (omega (arith, values, h, here)) (All-tail (λ (d : Constraint). value a d.terms ≤ d.degree) d ds hs) in
    omega (arith, rest, values, h, here, degrees-cons d ds, value_in-cons a d ds)

-- the terms are those of the other constraint, as it is written
pub exact_terms : (c : Constraint) (ds : List Constraint) (t : Constraint) → IsAscending c.terms → AllAscending ds → AllPositive c.terms → ArePositive ds → IsSum (c ∷ ds) t → (sum_from c ds).terms ≡ (written (terms_of t.terms) (pos t.degree)).terms
exact_terms c ds t up ups positive positives h =
    let s : Constraint = sum_from c ds in
    let w : Constraint = written (terms_of t.terms) (pos t.degree) in
    let form : IsFormOf t w = written-form t.terms t.degree h.apart h.positive in
    let coefs : (l : Lit) → coef_of w.terms l ≡ coef_of t.terms l = λ l. form.terms (λ t. cond (is_same t.lit l) t.coef 0) in
    let nets : (v : ℕ) → net (terms_of s.terms) v ≡ net (terms_of w.terms) v = λ v.
    let plus : Lit = record { var = v; positive = true } in
    let minus : Lit = record { var = v; positive = false } in
    omega (arith, ints, net-coefs v s.terms, net-coefs v w.terms, sum_from-coefs c ds plus, coef_in-cons plus c ds, coef_in-cons minus c ds, h.coefs plus, coefs plus, coefs minus) in
    same_nets s.terms w.terms (sum_from-positive c ds positive positives) (sum_from-ascending c ds up ups) form.positive form.ascending nets

pub exact_form : (c : Constraint) (ds : List Constraint) (t : Constraint) → IsAscending c.terms → AllAscending ds → AllPositive c.terms → ArePositive ds → IsSum (c ∷ ds) t → IsFormOf t (sum_from c ds)
exact_form c ds t up ups positive positives h =
    let s : Constraint = sum_from c ds in
    let form = written-form t.terms t.degree h.apart h.positive in
    let same = exact_terms c ds t up ups positive positives h in
    let lacks = exact_lacks h.under c ds ups (All-head (λ (d : Constraint). value h.under d.terms ≤ d.degree) c ds h.tight) (All-tail (λ (d : Constraint). value h.under d.terms ≤ d.degree) c ds h.tight) in
    let terms : AreSameTerms s.terms t.terms = λ f. ap (λ (us : List Weighted). sum_by f us) same ∙ form.terms f in
    let values : value h.under s.terms ≡ value h.under t.terms = terms (term_value h.under) in
    record {
      terms = terms;
      degree = omega (arith, lacks, h.degree, degrees-cons c ds, value_in-cons h.under c ds, values);
      positive = sum_from-positive c ds positive positives;
      ascending = sum_from-ascending c ds up ups;
    }

pub exact_vars : (P : ℕ → Type 0) (c : Constraint) (ds : List Constraint) (t : Constraint) → IsAscending c.terms → AllAscending ds → AllPositive c.terms → ArePositive ds → IsSum (c ∷ ds) t → All (λ u. P u.lit.var) t.terms → All (λ u. P u.lit.var) (sum_from c ds).terms
exact_vars P c ds t up ups positive positives h named =
    subst (λ (us : List Weighted). All (λ u. P u.lit.var) us) (sym (exact_terms c ds t up ups positive positives h)) (written-all (λ (u : Weighted). P u.lit.var) t.terms t.degree h.apart named)
