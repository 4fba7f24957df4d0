-- The literals that hold, by variable.
use Rattle.std.proofs.Common.{◌≡◌, ◌≤◌, ◌<◌, ◌+◌, ◌-◌, ◌⊎◌, ℕ, zero, suc, Bool, true, false, cond, List, [], ◌∷◌, ◌++◌, refl, sym, ap, subst, arith, inl, inr}
use Rattle.std.specs.Prelude.{Contains}
use Rattle.std.proofs.lemmas.List.Elements.{Contains-append_left, Contains-append_right, Contains-append_cases}
use Rattle.std.proofs.lemmas.List.Kept.{AllPairs-cons}
use Rattle.std.proofs.lemmas.List.Elements.{All-nil}
use Rattle.pb_base.specs.declared.literal.Lit.{Lit}
use Rattle.pb_base.specs.Literals.{is_among}
use Rattle.pb_base.proofs.Members.{Contains-nil, Contains-here, Contains-cons_cases, from_among, not_among_from}
use Rattle.pb_base.proofs.Pairs.{AllPairs-nil}
use Rattle.pb_norm.specs.Forced.{IsConsistent}
use Rattle.pb_unit.specs.Reaching.{AreAscending, value_at, held_to}
use Rattle.pb_unit.proofs.Ordered.{AllPairs-append}

abbrev Before : Lit → Lit → Type 0
Before k l = k.var < l.var

abbrev lit_at : ℕ → Bool → Lit
lit_at v p = record { var = v; positive = p }

-- ---- one variable

only : (k l : Lit) → Contains (k ∷ []) l → k ≡ l
only k l h = elim (Contains-cons_cases k [] l h) as (λ _. k ≡ l) [ inl same ↦ same | inr none ↦ absurd (Contains-nil l none) ]

value_at-has : (held : List Lit) (v : ℕ) (l : Lit) → Contains (value_at held v) l → (l.var ≡ v) × (is_among held l ≡ true)
value_at-has held v l h = by_tests (is_among held (lit_at v true)) (is_among held (lit_at v false)) refl refl h
  where
    found : (p : Bool) → is_among held (lit_at v p) ≡ true → lit_at v p ≡ l → (l.var ≡ v) × (is_among held l ≡ true)
    found p holds same = (sym (ap (λ (k : Lit). k.var) same), subst (λ (k : Lit). is_among held k ≡ true) same holds)

    by_tests : (a b : Bool) → is_among held (lit_at v true) ≡ a → is_among held (lit_at v false) ≡ b → Contains (cond a (lit_at v true ∷ []) (cond b (lit_at v false ∷ []) [])) l → (l.var ≡ v) × (is_among held l ≡ true)
    by_tests true b p n h = found true p (only (lit_at v true) l h)
    by_tests false true p n h = found false n (only (lit_at v false) l h)
    by_tests false false p n h = absurd (Contains-nil l h)

value_at-from : (held : List Lit) → IsConsistent held → (v : ℕ) (p : Bool) → is_among held (lit_at v p) ≡ true → Contains (value_at held v) (lit_at v p)
value_at-from held apart v true holds = rw holds (Contains-here (lit_at v true) [])
value_at-from held apart v false holds =
    let other : is_among held (lit_at v true) ≡ false = not_among_from held (lit_at v true) (apart (lit_at v false) (from_among held (lit_at v false) holds)) in
    rw (other, holds) (Contains-here (lit_at v false) [])

value_at-ascending : (held : List Lit) (v : ℕ) → AreAscending (value_at held v)
value_at-ascending held v = by_tests (is_among held (lit_at v true)) (is_among held (lit_at v false))
  where
    one : (k : Lit) → AreAscending (k ∷ [])
    one k = AllPairs-cons Before k [] (All-nil (Before k)) (AllPairs-nil Before)

    by_tests : (a b : Bool) → AreAscending (cond a (lit_at v true ∷ []) (cond b (lit_at v false ∷ []) []))
    by_tests true b = one (lit_at v true)
    by_tests false true = one (lit_at v false)
    by_tests false false = AllPairs-nil Before

-- ---- all variables up to a number

pub held_to-has : (held : List Lit) (n : ℕ) (l : Lit) → Contains (held_to held n) l → (1 ≤ l.var) × (l.var ≤ n) × (is_among held l ≡ true)
held_to-has held zero l h = absurd (Contains-nil l h)
held_to-has held (suc n) l h =
    elim (Contains-append_cases (held_to held n) (value_at held (suc n)) l h) as (λ _. (1 ≤ l.var) × (l.var ≤ suc n) × (is_among held l ≡ true)) [
      | inl k ↦ let has = held_to-has held n l k in (has.0, omega (arith, has.1), has.2)
      | inr k ↦ let has = value_at-has held (suc n) l k in (omega (arith, has.0), omega (arith, has.0), has.1)
    ]

pub held_to-from : (held : List Lit) → IsConsistent held → (n : ℕ) (l : Lit) → 1 ≤ l.var → l.var ≤ n → is_among held l ≡ true → Contains (held_to held n) l
held_to-from held apart zero l low high holds = absurd (omega arith)
held_to-from held apart (suc n) l low high holds =
    elim (at_last l.var n high) as (λ _. Contains (held_to held n ++ value_at held (suc n)) l) [
      | inl below ↦ Contains-append_left (held_to held n) (value_at held (suc n)) l (held_to-from held apart n l low below holds)
      | inr last ↦ Contains-append_right (held_to held n) (value_at held (suc n)) l (subst (λ (v : ℕ). Contains (value_at held v) l) last (value_at-from held apart l.var l.positive holds))
    ]
  where
    at_last : (v n : ℕ) → v ≤ suc n → (v ≤ n) ⊎ (v ≡ suc n)
    at_last v n le = grind arith

pub held_to-ascending : (held : List Lit) (n : ℕ) → AreAscending (held_to held n)
held_to-ascending held zero = AllPairs-nil Before
held_to-ascending held (suc n) =
    AllPairs-append Before (held_to held n) (value_at held (suc n)) (held_to-ascending held n) (value_at-ascending held (suc n))
    (λ k l h j. omega (arith, (held_to-has held n k h).1, (value_at-has held (suc n) l j).0))

-- one variable more, as the code counts them
pub held_to-more : (held : List Lit) (i : ℕ) → 1 ≤ i → held_to held (i + 1 - 1) ≡ held_to held (i - 1) ++ value_at held i
held_to-more held zero some = absurd (omega arith)
held_to-more held (suc i) some =
    let more : suc i + 1 - 1 ≡ suc i = omega arith in
    let less : suc i - 1 ≡ i = omega arith in
    rw (more, less) refl
