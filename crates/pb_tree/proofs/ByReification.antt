-- The own clauses of a lawful scheme's node hold where outputs have their reifications.
use Rattle.std.proofs.Common.{◌≡◌, ◌≤◌, ◌+◌, ◌⊎◌, ℕ, Bool, true, leb, List, [], ◌∷◌, min, sym, ap, ◌∙◌, subst, arith, inl, inr}
use Rattle.std.specs.Prelude.{Contains}
use Rattle.std.specs.List.{list_any}
use Rattle.std.proofs.lemmas.Bool.{le-leb, leb-true, or_left, or_right}
use Rattle.pb_base.specs.declared.literal.Lit.{Lit}
use Rattle.pb_base.specs.Literals.{negated, lit_value, clause_value}
use Rattle.pb_base.proofs.Members.{Contains-nil, Contains-cons_cases}
use Rattle.pb_family.proofs.ShortClauses.{when_one, when_two}
use Rattle.pb_tree.specs.Tree.{Tree, node}
use Rattle.pb_tree.specs.Scheme.{Scheme, fresh_of, output, own_of}
use Rattle.pb_tree.proofs.Sums.{IsLawful}
use Rattle.pb_tree.proofs.Threes.{cases_two, cases_three}
use Rattle.pb_tree.proofs.Extending.{OutputsMean, IsOutputVar, IsByReification}

-- a clause with a true literal is true
pub clause_from : (a : ℕ → Bool) (c : List Lit) (k : Lit) → Contains c k → lit_value a k ≡ true → clause_value a c ≡ true
clause_from a [] k h on = absurd (Contains-nil k h)
clause_from a (l ∷ ls) k h on =
    elim (Contains-cons_cases l ls k h) as (λ _. clause_value a (l ∷ ls) ≡ true) [
      | inl same ↦ or_left (lit_value a l) (list_any (lit_value a) ls) (subst (λ (m : Lit). lit_value a m ≡ true) (sym same) on)
      | inr rest ↦ or_right (lit_value a l) (list_any (lit_value a) ls) (clause_from a ls k rest on)
    ]

abbrev Named : Scheme → Tree → Tree → ℕ → ℕ → Type 0
Named s l r first n = IsOutputVar s l first n ⊎ (IsOutputVar s r (first + fresh_of s l) n ⊎ IsOutputVar s (node l r) first n)

pub var_of : (k l : Lit) → k ≡ l → k.var ≡ l.var
var_of k l e = ap (λ (m : Lit). m.var) e

own_named : (s : Scheme) (W : ℕ → Type 0) → IsLawful s W → (l r : Tree) (first : ℕ) (c : List Lit) (k : Lit)
    → Contains (own_of s l r first) c → Contains c k → Named s l r first k.var
own_named s W laws l r first c k h m =
    let f = output s l first in
    let g = output s r (first + fresh_of s l) in
    let o = output s (node l r) first in
    let Goal : Type 0 = Named s l r first k.var in
    elim (laws.each_clause l r f g o c h) as (λ _. Goal) [
      | inl one ↦ elim (cases_two (negated (f one.0)) (o one.0) k (subst (λ (d : List Lit). Contains d k) one.2 m)) as (λ _. Goal) [
        | inl e ↦ inl (one.0, one.1, sym (var_of (negated (f one.0)) k e))
        | inr e ↦ inr (inr (one.0, laws.left_value l r one.0 one.1, sym (var_of (o one.0) k e)))
      ]
      | inr more ↦ elim more as (λ _. Goal) [
        | inl one ↦ elim (cases_two (negated (g one.0)) (o one.0) k (subst (λ (d : List Lit). Contains d k) one.2 m)) as (λ _. Goal) [
          | inl e ↦ inr (inl (one.0, one.1, sym (var_of (negated (g one.0)) k e)))
          | inr e ↦ inr (inr (one.0, laws.right_value l r one.0 one.1, sym (var_of (o one.0) k e)))
        ]
        | inr two ↦
            let w = min (two.0 + two.1) s.cap in
            elim (cases_three (negated (f two.0)) (negated (g two.1)) (o w) k (subst (λ (d : List Lit). Contains d k) two.5 m)) as (λ _. Goal) [
              | inl e ↦ inl (two.0, two.2, sym (var_of (negated (f two.0)) k e))
              | inr rest ↦ elim rest as (λ _. Goal) [
                | inl e ↦ inr (inl (two.1, two.3, sym (var_of (negated (g two.1)) k e)))
                | inr e ↦ inr (inr (w, two.4, sym (var_of (o w) k e)))
              ]
            ]
      ]
    ]

up : (u x y : ℕ) → leb u x ≡ true → x ≤ y → leb u y ≡ true
up u x y h le = let low = leb-true u x h in le-leb u y (omega arith)

own_holds : (s : Scheme) (W : ℕ → Type 0) → IsLawful s W → (l r : Tree) (first : ℕ) (v : ℕ → Bool) (x y : ℕ)
    → OutputsMean s v l first x → OutputsMean s v r (first + fresh_of s l) y → OutputsMean s v (node l r) first (x + y) → (c : List Lit)
    → Contains (own_of s l r first) c → clause_value v c ≡ true
own_holds s W laws l r first v x y left right own c h =
    let f = output s l first in
    let g = output s r (first + fresh_of s l) in
    let o = output s (node l r) first in
    elim (laws.each_clause l r f g o c h) as (λ _. clause_value v c ≡ true) [
      | inl one ↦ rw one.2 (when_one v (f one.0) (o one.0) (λ on. own one.0 (laws.left_value l r one.0 one.1) ∙ up one.0 x (x + y) (sym (left one.0 one.1) ∙ on) (omega arith)))
      | inr more ↦ elim more as (λ _. clause_value v c ≡ true) [
        | inl one ↦ rw one.2 (when_one v (g one.0) (o one.0) (λ on. own one.0 (laws.right_value l r one.0 one.1) ∙ up one.0 y (x + y) (sym (right one.0 one.1) ∙ on) (omega arith)))
        | inr two ↦ rw two.5 (when_two v (f two.0) (g two.1) (o (min (two.0 + two.1) s.cap)) (λ on also.
            let low = leb-true two.0 x (sym (left two.0 two.2) ∙ on) in
            let and_low = leb-true two.1 y (sym (right two.1 two.3) ∙ also) in
            own (min (two.0 + two.1) s.cap) two.4 ∙ le-leb (min (two.0 + two.1) s.cap) (x + y) (omega arith)))
      ]
    ]

pub lawful_by_reification : (s : Scheme) (W : ℕ → Type 0) → IsLawful s W → IsByReification s (own_of s)
lawful_by_reification s W laws = record {
  names = λ l r first c k h m. own_named s W laws l r first c k h m;
  holds = λ l r first v x y few also left right own c h. own_holds s W laws l r first v x y left right own c h;
}
