-- Variables by their places among some.
use Rattle.std.proofs.Common.{◌≡◌, ◌≤◌, ◌<◌, ◌+◌, ◌-◌, ◌^◌, ◌⊎◌, ◌∙◌, ℕ, zero, suc, Bool, true, false, cond, List, [], ◌∷◌, ◌++◌, append_assoc, length, get_or, refl, sym, ap, subst, arith, inl, inr}
use Rattle.std.specs.Prelude.{Contains, All, ◌==◌, slice_index, Result, Ok, Err}
use Rattle.std.specs.List.{AllPairs, dedup}
use Rattle.std.specs.List.Retain.{DiffersFromLast, IsFiltered}
use Rattle.std.specs.List.Sorted.{IsBinarySearchResult, IsPermutation, IsSorted, IsStrictlyIncreasing}
use Rattle.std.specs.Result.{MatchResult}
use Rattle.std.specs.Ordering.{nat_cmp}
use lib.Dec.{eqb}
use Rattle.std.proofs.lemmas.Bool.{eq-eqb, ne_eqb, cases_eq}
use Rattle.std.proofs.lemmas.List.Elements.{All-nil, All-cons, All-head, All-tail, All-contains, All-weaker, Contains-append_right}
use Rattle.std.proofs.lemmas.List.Filters.{dedup_is}
use Rattle.std.proofs.lemmas.List.Kept.{AllPairs-cons, Contains-dedup_nat, Contains-from_dedup}
use Rattle.std.proofs.lemmas.List.Sorted.{searched, All-permutation, Contains-permutation}
use Rattle.std.proofs.lemmas.Map.Keys.{IsStrictlyIncreasing-dedup}
use Rattle.pb_base.specs.declared.literal.Lit.{Lit}
use Rattle.pb_base.proofs.Members.{Contains-nil, Contains-here, Contains-there, Contains-cons_cases}
use Rattle.pb_base.proofs.Pairs.{AllPairs-head, AllPairs-nil, AllPairs-tail}
use Rattle.pb_norm.specs.Constraints.{Constraint, Weighted}
use Rattle.pb_unit.specs.Reaching.{IsUpTo, OfConstraint, OfLit, OfTerm}
use Rattle.pb_unit.specs.Renaming.{all_vars, form_vars, lit_vars, name_at, number_in, term_vars, AreNamed, AreNames, IsName}

abbrev Below : ℕ → ℕ → Type 0
Below m n = m < n

-- ---- the order

pub rising_from : (ns : List ℕ) → IsStrictlyIncreasing ns → AllPairs Below ns
rising_from [] up = AllPairs-nil Below
rising_from (n ∷ []) up = AllPairs-cons Below n [] (All-nil (Below n)) (AllPairs-nil Below)
rising_from (n ∷ m ∷ ns) up =
    let first : n < m = up 0 (omega arith) in
    let next : IsStrictlyIncreasing (m ∷ ns) = λ k within.
    let e : suc k + 1 ≡ suc (k + 1) = omega arith in
    subst (λ (j : ℕ). slice_index (m ∷ ns) k < slice_index (n ∷ m ∷ ns) j) e (up (suc k) (omega arith)) in
    let rest = rising_from (m ∷ ns) next in
    AllPairs-cons Below n (m ∷ ns) (All-cons (Below n) m ns first (All-weaker (Below m) (Below n) (λ k above. omega (arith, first, above)) ns (AllPairs-head Below m ns rest))) rest

pub rises_at : (ns : List ℕ) → AllPairs Below ns → (i j : ℕ) → i < j → j < length ns → get_or ns i 0 < get_or ns j 0
rises_at [] up i j lt within = absurd (omega arith)
rises_at (n ∷ ns) up i zero lt within = absurd (omega arith)
rises_at (n ∷ ns) up zero (suc j) lt within = AllPairs-head Below n ns up j 0 (omega arith)
rises_at (n ∷ ns) up (suc i) (suc j) lt within = rises_at ns (AllPairs-tail Below n ns up) i j (omega arith) (omega arith)

-- as many as there is room for
rising_few : (ns : List ℕ) (low most : ℕ) → AllPairs Below ns → All (λ n. low ≤ n) ns → All (λ n. n < most) ns → low ≤ most → low + length ns ≤ most
rising_few [] low most up from to le = omega arith
rising_few (n ∷ ns) low most up from to le =
    let here : low ≤ n = All-head (λ (k : ℕ). low ≤ k) n ns from in
    let below : n < most = All-head (λ (k : ℕ). k < most) n ns to in
    let rest = rising_few ns (n + 1) most (AllPairs-tail Below n ns up) (All-weaker (Below n) (λ (k : ℕ). n + 1 ≤ k) (λ k above. omega (arith, above)) ns (AllPairs-head Below n ns up)) (All-tail (λ (k : ℕ). k < most) n ns to) (omega (arith, below)) in
    omega (arith, here, rest)

pub names_few : (ns : List ℕ) → AreNames ns → length ns < 2 ^ 31
names_few ns is =
    let few = rising_few ns 1 (2 ^ 31) is.rising (All-weaker IsName (λ (k : ℕ). 1 ≤ k) (λ k name. omega (arith, name.low)) ns is.all) (All-weaker IsName (λ (k : ℕ). k < 2 ^ 31) (λ k name. name.high) ns is.all) (omega arith) in
    omega (arith, few)

-- ---- places

pub number-low : (ns : List ℕ) (v : ℕ) → 1 ≤ number_in ns v
number-low [] v = omega arith
number-low (n ∷ ns) v = by_test (n == v)
  where
    by_test : (b : Bool) → 1 ≤ cond b 1 (suc (number_in ns v))
    by_test true = omega arith
    by_test false = omega arith

number-high : (ns : List ℕ) (v : ℕ) → Contains ns v → number_in ns v ≤ length ns
number-high [] v h = absurd (Contains-nil v h)
number-high (n ∷ ns) v h =
    elim (cases_eq n v) as (λ _. number_in (n ∷ ns) v ≤ length (n ∷ ns)) [
      | inl same ↦ rw (eq-eqb n v same) (omega arith)
      | inr other ↦ rw (ne_eqb n v other)
          (elim (Contains-cons_cases n ns v h) as (λ _. suc (number_in ns v) ≤ length (n ∷ ns)) [ inl same ↦ absurd (other same) | inr rest ↦ let le = number-high ns v rest in omega (arith, le) ])
    ]

pub number-up_to : (ns : List ℕ) (v : ℕ) → Contains ns v → IsUpTo (length ns) (number_in ns v)
number-up_to ns v h = record { low = number-low ns v; high = number-high ns v h }

-- the variable at the place of a variable
pub name-number : (ns : List ℕ) (v : ℕ) → Contains ns v → name_at ns (number_in ns v) ≡ v
name-number [] v h = absurd (Contains-nil v h)
name-number (n ∷ ns) v h =
    elim (cases_eq n v) as (λ _. name_at (n ∷ ns) (number_in (n ∷ ns) v) ≡ v) [
      | inl same ↦ rw (eq-eqb n v same) same
      | inr other ↦ rw (ne_eqb n v other)
          (elim (Contains-cons_cases n ns v h) as (λ _. name_at (n ∷ ns) (suc (number_in ns v)) ≡ v) [
            | inl same ↦ absurd (other same)
            | inr rest ↦
                let low = number-low ns v in
                let e : suc (number_in ns v) - 1 ≡ suc (number_in ns v - 1) = omega (arith, low) in
                ap (λ (i : ℕ). get_or (n ∷ ns) i 0) e ∙ name-number ns v rest
          ])
    ]

-- the place of the variable at a place
number-at : (ns : List ℕ) → AllPairs Below ns → (i : ℕ) → i < length ns → number_in ns (get_or ns i 0) ≡ suc i
number-at [] up i within = absurd (omega arith)
number-at (n ∷ ns) up zero within = rw (eq-eqb n n refl) refl
number-at (n ∷ ns) up (suc i) within =
    let above : n < get_or ns i 0 = AllPairs-head Below n ns up i 0 (omega arith) in
    rw (ne_eqb n (get_or ns i 0) (λ e. omega (arith, above, e))) (ap suc (number-at ns (AllPairs-tail Below n ns up) i (omega arith)))

pub number-name : (ns : List ℕ) → AllPairs Below ns → (i : ℕ) → IsUpTo (length ns) i → number_in ns (name_at ns i) ≡ i
number-name ns up i is =
    let at = number-at ns up (i - 1) (omega (arith, is.low, is.high)) in
    omega (arith, at, is.low)

pub number-found : (ns : List ℕ) → AllPairs Below ns → (i v : ℕ) → i < length ns → get_or ns i 0 ≡ v → number_in ns v ≡ i + 1
number-found ns up i v within is =
    let at = number-at ns up i within in
    ap (number_in ns) (sym is) ∙ omega (arith, at)

pub name-rises : (ns : List ℕ) → AllPairs Below ns → (i j : ℕ) → IsUpTo (length ns) i → IsUpTo (length ns) j → i < j → name_at ns i < name_at ns j
name-rises ns up i j is js lt = rises_at ns up (i - 1) (j - 1) (omega (arith, is.low, lt)) (omega (arith, js.low, js.high))

pub number-rises : (ns : List ℕ) → AllPairs Below ns → (u v : ℕ) → Contains ns u → Contains ns v → u < v → number_in ns u < number_in ns v
number-rises ns up u v hu hv lt =
    elim (order (number_in ns u) (number_in ns v)) as (λ _. number_in ns u < number_in ns v) [
      | inl below ↦ below
      | inr others ↦ elim others as (λ _. number_in ns u < number_in ns v) [
        | inl same ↦ let e : u ≡ v = sym (name-number ns u hu) ∙ ap (name_at ns) same ∙ name-number ns v hv in absurd (omega (arith, e, lt))
        | inr above ↦
            let down = name-rises ns up (number_in ns v) (number_in ns u) (number-up_to ns v hv) (number-up_to ns u hu) above in
            absurd (omega (arith, down, name-number ns u hu, name-number ns v hv, lt))
      ]
    ]
  where
    order : (a b : ℕ) → (a < b) ⊎ ((a ≡ b) ⊎ (b < a))
    order a b = grind arith

-- ---- the variables that occur

Contains-var : (ts : List Weighted) (rest : List ℕ) → All (OfTerm (Contains (term_vars ts ++ rest))) ts
Contains-var [] rest = All-nil (OfTerm (Contains rest))
Contains-var (t ∷ ts) rest =
    All-cons (OfTerm (Contains (term_vars (t ∷ ts) ++ rest))) t ts (Contains-here t.lit.var (term_vars ts ++ rest))
    (All-weaker (OfTerm (Contains (term_vars ts ++ rest))) (OfTerm (Contains (term_vars (t ∷ ts) ++ rest))) (λ u h. Contains-there t.lit.var (term_vars ts ++ rest) u.lit.var h) ts (Contains-var ts rest))

more_of : (before names : List ℕ) (c : Constraint) → OfConstraint (Contains names) c → OfConstraint (Contains (before ++ names)) c
more_of before names c h = All-weaker (OfTerm (Contains names)) (OfTerm (Contains (before ++ names))) (λ u k. Contains-append_right before names u.lit.var k) c.terms h

named_constraints : (cs : List Constraint) (rest : List ℕ) → All (OfConstraint (Contains (form_vars cs ++ rest))) cs
named_constraints [] rest = All-nil (OfConstraint (Contains rest))
named_constraints (c ∷ cs) rest =
    let same : form_vars (c ∷ cs) ++ rest ≡ term_vars c.terms ++ (form_vars cs ++ rest) = append_assoc (term_vars c.terms) (form_vars cs) rest in
    subst (λ (names : List ℕ). All (OfConstraint (Contains names)) (c ∷ cs)) (sym same)
    (All-cons (OfConstraint (Contains (term_vars c.terms ++ (form_vars cs ++ rest)))) c cs (Contains-var c.terms (form_vars cs ++ rest))
    (All-weaker (OfConstraint (Contains (form_vars cs ++ rest))) (OfConstraint (Contains (term_vars c.terms ++ (form_vars cs ++ rest)))) (more_of (term_vars c.terms) (form_vars cs ++ rest)) cs (named_constraints cs rest)))

named_lits : (ls : List Lit) → All (OfLit (Contains (lit_vars ls))) ls
named_lits [] = All-nil (OfLit (Contains []))
named_lits (l ∷ ls) = All-cons (OfLit (Contains (lit_vars (l ∷ ls)))) l ls (Contains-here l.var (lit_vars ls)) (All-weaker (OfLit (Contains (lit_vars ls))) (OfLit (Contains (lit_vars (l ∷ ls)))) (λ k h. Contains-there l.var (lit_vars ls) k.var h) ls (named_lits ls))

pub all_named : (cs : List Constraint) (ls : List Lit) → AreNamed (all_vars cs ls) cs ls
all_named cs ls = record {
  constraints = named_constraints cs (lit_vars ls);
  lits = All-weaker (OfLit (Contains (lit_vars ls))) (OfLit (Contains (all_vars cs ls))) (λ l h. Contains-append_right (form_vars cs) (lit_vars ls) l.var h) ls (named_lits ls);
}

-- what holds of each of the variables holds of all that occur
module _ (names : List ℕ) (cs : List Constraint) (ls : List Lit) (is : AreNamed names cs ls) (K : ℕ → Type 0) (gives : (v : ℕ) → Contains names v → K v) where
  pub of_constraints : All (OfConstraint K) cs
  of_constraints = All-weaker (OfConstraint (Contains names)) (OfConstraint K) (λ c h. All-weaker (OfTerm (Contains names)) (OfTerm K) (λ t k. gives t.lit.var k) c.terms h) cs is.constraints

  pub of_lits : All (OfLit K) ls
  of_lits = All-weaker (OfLit (Contains names)) (OfLit K) (λ l h. gives l.var h) ls is.lits

-- ---- the variables, each once, ascending

module _ (vars sorted names : List ℕ) (moved : IsPermutation vars sorted) (once : IsFiltered (DiffersFromLast eqb) [] sorted names) where
  once_is : names ≡ dedup eqb sorted
  once_is = dedup_is eqb sorted names once

  pub names_have : (v : ℕ) → Contains vars v → Contains names v
  names_have v h = subst (λ (ns : List ℕ). Contains ns v) (sym once_is) (Contains-dedup_nat sorted v (Contains-permutation vars sorted v moved h))

  from_names : (v : ℕ) → Contains names v → Contains sorted v
  from_names v h = Contains-from_dedup eqb sorted v (subst (λ (ns : List ℕ). Contains ns v) once_is h)

  pub names_are : IsSorted nat_cmp sorted → All IsName vars → AreNames names
  names_are up all = record {
    rising = rising_from names (subst IsStrictlyIncreasing (sym once_is) (IsStrictlyIncreasing-dedup sorted up));
    all = all_from names (λ v h. All-contains IsName sorted v (All-permutation IsName vars sorted moved all) (from_names v h));
  }
    where
      all_from : (ns : List ℕ) → ((v : ℕ) → Contains ns v → IsName v) → All IsName ns
      all_from [] h = All-nil IsName
      all_from (n ∷ ns) h = All-cons IsName n ns (h n (Contains-here n ns)) (all_from ns (λ v k. h v (Contains-there n ns v k)))

-- ---- a search among them

contains_at : (ns : List ℕ) (v : ℕ) → Contains ns v → (k : ℕ) × (k < length ns) × (get_or ns k 0 ≡ v)
contains_at [] v h = absurd (Contains-nil v h)
contains_at (n ∷ ns) v h =
    elim (Contains-cons_cases n ns v h) as (λ _. (k : ℕ) × (k < length (n ∷ ns)) × (get_or (n ∷ ns) k 0 ≡ v)) [
      | inl same ↦ (0, omega arith, same)
      | inr rest ↦ let at = contains_at ns v rest in (suc at.0, omega (arith, at.1), at.2)
    ]

module _ (ns : List ℕ) (up : AllPairs Below ns) (v : ℕ) (known : Contains ns v) (r : Result ℕ ℕ) (searches : IsBinarySearchResult (λ y. nat_cmp y v) ns r) where
  no_fall : (i j : ℕ) → i ≤ j → j < length ns → get_or ns i 0 ≤ get_or ns j 0
  no_fall i j le within = elim (at_or i j le) as (λ _. get_or ns i 0 ≤ get_or ns j 0) [
    | inl same ↦ let e : get_or ns i 0 ≡ get_or ns j 0 = ap (λ (k : ℕ). get_or ns k 0) same in omega (arith, e)
    | inr below ↦ let lt = rises_at ns up i j below within in omega (arith, lt)
  ]
    where
      at_or : (i j : ℕ) → i ≤ j → (i ≡ j) ⊎ (i < j)
      at_or i j le = grind arith

  said : MatchResult r (λ i. (i < length ns) × (get_or ns i 0 ≡ v)) (λ i. (i ≤ length ns) × ((k : ℕ) → k < i → get_or ns k 0 < v) × ((k : ℕ) → i ≤ k → k < length ns → v < get_or ns k 0))
  said = searched ns v r searches no_fall

  search_finds : (i : ℕ) → r ≡ Ok i → (i < length ns) × (number_in ns v ≡ i + 1)
  search_finds i is =
      let at = subst (λ (q : Result ℕ ℕ). MatchResult q (λ i. (i < length ns) × (get_or ns i 0 ≡ v)) (λ i. (i ≤ length ns) × ((k : ℕ) → k < i → get_or ns k 0 < v) × ((k : ℕ) → i ≤ k → k < length ns → v < get_or ns k 0))) is said in
      (at.0, number-found ns up i v at.0 at.1)

  search_hits : (i : ℕ) → r ≡ Err i → ⊥
  search_hits i is =
      let none = subst (λ (q : Result ℕ ℕ). MatchResult q (λ i. (i < length ns) × (get_or ns i 0 ≡ v)) (λ i. (i ≤ length ns) × ((k : ℕ) → k < i → get_or ns k 0 < v) × ((k : ℕ) → i ≤ k → k < length ns → v < get_or ns k 0))) is said in
      let at = contains_at ns v known in
      elim (side at.0 i) as (λ _. ⊥) [
        | inl below ↦ let lt = none.1 at.0 below in omega (arith, lt, at.2)
        | inr above ↦ let lt = none.2 at.0 above at.1 in omega (arith, lt, at.2)
      ]
    where
      side : (k i : ℕ) → (k < i) ⊎ (i ≤ k)
      side k i = grind arith

-- among names that have the variable
module _ (ns items : List ℕ) (v w : ℕ) (same : items ≡ ns) (are : AreNames ns) (known : Contains ns v) (of : w ≡ v) (r : Result ℕ ℕ) (searches : IsBinarySearchResult (λ y. nat_cmp y w) items r) where
  are_items : AreNames items
  are_items = subst AreNames (sym same) are

  has : Contains items w
  has = subst (λ (ms : List ℕ). Contains ms w) (sym same) (subst (Contains ns) (sym of) known)

  pub names_found : (i : ℕ) → r ≡ Ok i → (i + 1 < 2 ^ 31) × (i + 1 ≡ number_in ns v)
  names_found i is =
      let at = search_finds items are_items.rising w has r searches i is in
      (omega (arith, at.0, names_few items are_items), sym at.1 ∙ ap (λ (ms : List ℕ). number_in ms w) same ∙ ap (number_in ns) of)

  pub names_hit : (i : ℕ) → r ≡ Err i → ⊥
  names_hit i is = search_hits items are_items.rising w has r searches i is
