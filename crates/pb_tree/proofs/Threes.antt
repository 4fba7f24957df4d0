-- Clauses of three literals, and what two of them leave.
use Rattle.std.proofs.Common.{◌≡◌, ◌⊎◌, List, [], ◌∷◌, refl, sym, ◌∙◌, subst, inl, inr}
use Rattle.std.specs.Prelude.{Contains}
use Rattle.pb_base.specs.declared.literal.Lit.{Lit}
use Rattle.pb_base.specs.Literals.{negated}
use Rattle.pb_norm.proofs.Derived.{Derived, second_of, first_of_two}
use Rattle.pb_norm.proofs.Derived.Derived.{by_clause}
use Rattle.pb_base.proofs.Members.{Contains-nil, Contains-here, Contains-there, Contains-cons_cases}
use Rattle.pb_family.proofs.ShortClauses.{twice}

pub cases_two : (a b k : Lit) → Contains (a ∷ b ∷ []) k → (a ≡ k) ⊎ (b ≡ k)
cases_two a b k h =
    elim (Contains-cons_cases a (b ∷ []) k h) as (λ _. (a ≡ k) ⊎ (b ≡ k)) [
      | inl e ↦ inl e
      | inr rest ↦ elim (Contains-cons_cases b [] k rest) as (λ _. (a ≡ k) ⊎ (b ≡ k)) [ inl e ↦ inr e | inr none ↦ absurd (Contains-nil k none) ]
    ]

pub cases_three : (a b d k : Lit) → Contains (a ∷ b ∷ d ∷ []) k → (a ≡ k) ⊎ ((b ≡ k) ⊎ (d ≡ k))
cases_three a b d k h =
    elim (Contains-cons_cases a (b ∷ d ∷ []) k h) as (λ _. (a ≡ k) ⊎ ((b ≡ k) ⊎ (d ≡ k))) [
      | inl e ↦ inl e
      | inr rest ↦ inr (cases_two b d k rest)
    ]

-- by a clause that is an implication from one literal
pub implied : (cs : List (List Lit)) (given : List Lit) (a b : Lit) → Contains cs (negated a ∷ b ∷ []) → Derived cs given a → Derived cs given b
implied cs given a b listed d = second_of cs given (negated a) b listed (twice cs given a d)

pub denied : (cs : List (List Lit)) (given : List Lit) (a b : Lit) → Contains cs (negated a ∷ b ∷ []) → Derived cs given (negated b) → Derived cs given (negated a)
denied cs given a b listed d = first_of_two cs given (negated a) b listed d

-- by one of three literals, where each is the derived one or false
of_three : (cs : List (List Lit)) (given : List Lit) (a b d l : Lit) → Contains cs (a ∷ b ∷ d ∷ []) → Contains (a ∷ b ∷ d ∷ []) l
    → (a ≡ l) ⊎ Derived cs given (negated a) → (b ≡ l) ⊎ Derived cs given (negated b) → (d ≡ l) ⊎ Derived cs given (negated d) → Derived cs given l
of_three cs given a b d l listed here one two three =
    by_clause (a ∷ b ∷ d ∷ []) listed here (λ k h other.
    elim (cases_three a b d k h) as (λ _. Derived cs given (negated k)) [
      | inl e ↦ falsified a k e one other
      | inr rest ↦ elim rest as (λ _. Derived cs given (negated k)) [ inl e ↦ falsified b k e two other | inr e ↦ falsified d k e three other ]
    ])
  where
    falsified : (x k : Lit) → x ≡ k → (x ≡ l) ⊎ Derived cs given (negated x) → ¬ (k ≡ l) → Derived cs given (negated k)
    falsified x k e (inl same) other = absurd (other (sym e ∙ same))
    falsified x k e (inr d) other = subst (λ (m : Lit). Derived cs given (negated m)) e d

-- and from two
pub implied_both : (cs : List (List Lit)) (given : List Lit) (a b d : Lit) → Contains cs (negated a ∷ negated b ∷ d ∷ []) → Derived cs given a → Derived cs given b → Derived cs given d
implied_both cs given a b d listed da db =
    of_three cs given (negated a) (negated b) d d listed (Contains-there (negated a) (negated b ∷ d ∷ []) d (Contains-there (negated b) (d ∷ []) d (Contains-here d []))) (inr (twice cs given a da)) (inr (twice cs given b db)) (inl refl)

pub denied_left : (cs : List (List Lit)) (given : List Lit) (a b d : Lit) → Contains cs (negated a ∷ negated b ∷ d ∷ []) → Derived cs given b → Derived cs given (negated d) → Derived cs given (negated a)
denied_left cs given a b d listed db dd =
    of_three cs given (negated a) (negated b) d (negated a) listed (Contains-here (negated a) (negated b ∷ d ∷ [])) (inl refl) (inr (twice cs given b db)) (inr dd)

pub denied_right : (cs : List (List Lit)) (given : List Lit) (a b d : Lit) → Contains cs (negated a ∷ negated b ∷ d ∷ []) → Derived cs given a → Derived cs given (negated d) → Derived cs given (negated b)
denied_right cs given a b d listed da dd =
    of_three cs given (negated a) (negated b) d (negated b) listed (Contains-there (negated a) (negated b ∷ d ∷ []) (negated b) (Contains-here (negated b) (d ∷ []))) (inr (twice cs given a da)) (inl refl) (inr dd)
