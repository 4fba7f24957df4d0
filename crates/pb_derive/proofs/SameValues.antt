-- Terms in normal form are told by their values.
use Rattle.std.proofs.Common.{◌≡◌, ◌+◌, ◌==◌, ℕ, Bool, true, false, not, cond, List, [], ◌∷◌, arith, refl, ap, sym, ◌∙◌, pos, ◌+ℤ◌, neg_ℤ, inl, inr, eq-eqb}
use Rattle.std.proofs.lemmas.Int.{ints}
use Rattle.std.proofs.lemmas.Bool.{cases_eq, ne_eqb}
use Rattle.pb_base.specs.Literals.{Assignment}
use Rattle.pb_norm.specs.Constraints.{Weighted, AllPositive, IsAscending, term_value, value, terms_of, term_of}
use Rattle.pb_norm.specs.NormalForms.{signed_coef, net}
use Rattle.pb_norm.proofs.AdditionValues.{value-cons}
use Rattle.pb_norm.proofs.NetForm.{same_nets, net-head, net-other}

-- the assignment with one value written over it
with_value : Assignment → ℕ → Bool → Assignment
with_value a v b n = cond (n == v) b (a n)

flip : (a : Assignment) (ts : List Weighted) (v : ℕ) → pos (value (with_value a v true) ts) ≡ pos (value (with_value a v false) ts) +ℤ net (terms_of ts) v
unfolding with_value
flip a [] v = refl
flip a (t ∷ ts) v =
    let more = value-cons (with_value a v true) t ts in
    let less = value-cons (with_value a v false) t ts in
    let rest = flip a ts v in
    elim (cases_eq t.lit.var v) as (λ _. pos (value (with_value a v true) (t ∷ ts)) ≡ pos (value (with_value a v false) (t ∷ ts)) +ℤ net (terms_of (t ∷ ts)) v) [
      | inl same ↦
          let here : pos (term_value (with_value a v true) t) ≡ pos (term_value (with_value a v false) t) +ℤ signed_coef (term_of t) =
          ap (λ (b : Bool). pos (cond (cond t.lit.positive (cond b true (a t.lit.var)) (not (cond b true (a t.lit.var)))) t.coef 0)) (eq-eqb t.lit.var v same)
          ∙ signs t.lit.positive t.coef
          ∙ ap (λ (b : Bool). pos (cond (cond t.lit.positive (cond b false (a t.lit.var)) (not (cond b false (a t.lit.var)))) t.coef 0) +ℤ signed_coef (term_of t)) (sym (eq-eqb t.lit.var v same)) in
          omega (arith, ints, more, less, rest, here, net-head t ts v same)
      | inr other ↦
          let here : term_value (with_value a v true) t ≡ term_value (with_value a v false) t =
          ap (λ (b : Bool). cond (cond t.lit.positive (cond b true (a t.lit.var)) (not (cond b true (a t.lit.var)))) t.coef 0) (ne_eqb t.lit.var v other)
          ∙ ap (λ (b : Bool). cond (cond t.lit.positive (cond b false (a t.lit.var)) (not (cond b false (a t.lit.var)))) t.coef 0) (sym (ne_eqb t.lit.var v other)) in
          omega (arith, ints, more, less, rest, here, net-other t ts v other)
    ]
  where
    signs : (p : Bool) (n : ℕ) → pos (cond (cond p true (not true)) n 0) ≡ pos (cond (cond p false (not false)) n 0) +ℤ cond p (pos n) (neg_ℤ (pos n))
    signs true n = omega (arith, ints)
    signs false n = omega (arith, ints)

-- where the values differ by what does not depend on the assignment, the terms are the same
pub same_values : (ts us : List Weighted) (m n : ℕ) → AllPositive ts → IsAscending ts → AllPositive us → IsAscending us
    → ((a : Assignment) → value a ts + m ≡ value a us + n) → ts ≡ us
same_values ts us m n h up k high same =
    same_nets ts us h up k high (λ v.
    let a : Assignment = λ w. false in
    omega (arith, ints, flip a ts v, flip a us v, same (with_value a v true), same (with_value a v false)))
