-- Sets of literals in order: a list that was sorted and holds each literal once is the set of its literals.
use Rattle.std.proofs.Common.{◌≡◌, ◌≢◌, ℕ, ◌+◌, ◌<◌, ◌≤◌, ◌^◌, ◌==◌, ◌&&◌, ◌||◌, nat_lt, Bool, true, false, cond, not, List, [], ◌∷◌, length, refl, sym, ap, ◌∙◌, subst, arith, inl, inr}
use Rattle.std.specs.Prelude.{Contains, All}
use Rattle.std.specs.List.{AllByRecursion, AllPairs, dedup}
use Rattle.std.proofs.lemmas.Bool.Decides.{nat_tests}
use Rattle.std.proofs.lemmas.List.Elements.{All-nil, All-cons}
use Rattle.std.proofs.lemmas.List.Filters.{dedup_is}
use Rattle.std.proofs.lemmas.List.Kept.{AllPairs-cons, IsStrictlySortedBy-dedup, Contains-dedup, Contains-from_dedup}
use Rattle.std.proofs.lemmas.List.Sorted.{Contains-permutation, IsPermutation-sym}
use Rattle.std.proofs.lemmas.Map.Keys.{sorted_head, sorted_tail}
use Rattle.std.proofs.lemmas.Cmp.{by_ranked, ranked, eq_by_cmp_equiv, then_total, on_total, nat_cmp_total}
use Rattle.std.specs.Cmp.{IsTotalOrder, IsEquivalence, bool_cmp_total}
use Rattle.std.specs.Ordering.{nat_cmp, bool_cmp, ordering_then, eq_by_cmp, is_eq}
use Rattle.std.specs.declared.cmp.Ordering.{Ordering}
use Rattle.std.specs.declared.cmp.Ordering.TheVariants.{Less}
use Rattle.std.specs.List.Sorted.{IsPermutation, IsSorted, IsStrictlySortedBy}
use Rattle.std.specs.List.Retain.{IsFiltered, DiffersFromLast}
use mathlib.Core.Bool.{beq}
use Rattle.pb_base.proofs.LiteralLemmas.{same_lit, is_same-refl}
use Rattle.pb_base.proofs.Members.{Contains-nil, Contains-here, Contains-there, Contains-cons_cases}
use Rattle.pb_base.specs.declared.literal.Lit.{Lit}
use Rattle.pb_base.specs.Literals.{is_same}
use Rattle.pb_base.specs.Problems.{IsProductWithin}
use Rattle.pb_named.specs.declared.products.Factor.{Factor}
use Rattle.pb_named.specs.declared.products.Factor.TheVariants.{Nought, Single, Product}
use Rattle.pb_named.specs.Products.{is_before, placed, as_set, is_opposed, factor_of_set, factor_of}

abbrev one_if : Bool → ℕ
one_if true = 1
one_if false = 0

-- the order of literals, as numbers
abbrev pub rank : Lit → ℕ
rank l = l.var + l.var + one_if l.positive

-- each literal stands before all behind it
abbrev pub Ascends : List Lit → Type 0
Ascends [] = Unit {0}
Ascends (l ∷ ls) = AllByRecursion (λ k. rank l < rank k) ls × Ascends ls

before-by : (v w : ℕ) (p q : Bool) → (nat_lt v w || (v == w && not p && q)) ≡ true → v + v + one_if p < w + w + one_if q
before-by v w true true h = grind (arith, nat_tests)
before-by v w true false h = grind (arith, nat_tests)
before-by v w false true h = grind (arith, nat_tests)
before-by v w false false h = grind (arith, nat_tests)

behind-by : (v w : ℕ) (p q : Bool) → (nat_lt v w || (v == w && not p && q)) ≡ false → w + w + one_if q ≤ v + v + one_if p
behind-by v w true true h = grind (arith, nat_tests)
behind-by v w true false h = grind (arith, nat_tests)
behind-by v w false true h = grind (arith, nat_tests)
behind-by v w false false h = grind (arith, nat_tests)

same-by : (v w : ℕ) (p q : Bool) → v + v + one_if p ≡ w + w + one_if q → (v ≡ w) × (p ≡ q)
same-by v w true true e = (omega arith, refl)
same-by v w false false e = (omega arith, refl)
same-by v w true false e = absurd (omega arith)
same-by v w false true e = absurd (omega arith)

pub before-rank : (k l : Lit) → is_before k l ≡ true → rank k < rank l
before-rank k l h = before-by k.var l.var k.positive l.positive h

behind-rank : (k l : Lit) → is_before k l ≡ false → rank l ≤ rank k
behind-rank k l h = behind-by k.var l.var k.positive l.positive h

rank-one : (k l : Lit) → rank k ≡ rank l → k ≡ l
rank-one k l e = let same = same-by k.var l.var k.positive l.positive e in λ i. record { var = same.0 i; positive = same.1 i }

-- a literal neither before nor the same stands behind
strictly-behind : (k l : Lit) → is_before k l ≡ false → is_same k l ≡ false → rank l < rank k
strictly-behind k l before same =
    let least = behind-rank k l before in
    let differ : rank l ≡ rank k → ⊥ = λ e. (let bad = sym same ∙ ap (is_same k) (rank-one l k e) ∙ is_same-refl k in cc) in
    omega (arith, least, differ)

all-above : (m n : ℕ) (ks : List Lit) → m < n → AllByRecursion (λ k. n < rank k) ks → AllByRecursion (λ k. m < rank k) ks
all-above m n [] less h = tt
all-above m n (k ∷ ks) less h = ((let above = h.0 in omega arith), all-above m n ks less h.1)

placed-all : (P : Lit → Type 0) (l : Lit) (ks : List Lit) → P l → AllByRecursion P ks → AllByRecursion P (placed l ks)
placed-all P l [] p h = (p, tt)
placed-all P l (k ∷ ks) p h = by-tests (is_before l k) (is_same l k) (placed-all P l ks p h.1)
  where
    by-tests : (b c : Bool) → AllByRecursion P (placed l ks) → AllByRecursion P (cond b (l ∷ k ∷ ks) (cond c (k ∷ ks) (k ∷ placed l ks)))
    by-tests true c rest = (p, (h.0, h.1))
    by-tests false true rest = h
    by-tests false false rest = (h.0, rest)

placed-ascends : (l : Lit) (ks : List Lit) → Ascends ks → Ascends (placed l ks)
placed-ascends l [] h = (tt, tt)
placed-ascends l (k ∷ ks) h = by-tests (is_before l k) (is_same l k) refl refl (placed-ascends l ks h.1)
  where
    by-tests : (b c : Bool) → is_before l k ≡ b → is_same l k ≡ c → Ascends (placed l ks) → Ascends (cond b (l ∷ k ∷ ks) (cond c (k ∷ ks) (k ∷ placed l ks)))
    by-tests true c e f rest = let less = before-rank l k e in ((less, all-above (rank l) (rank k) ks less h.0), h)
    by-tests false true e f rest = h
    by-tests false false e f rest = (placed-all (λ m. rank k < rank m) l ks (strictly-behind l k e f) h.0, rest)

placed-has : (l : Lit) (ks : List Lit) → Contains (placed l ks) l
placed-has l [] = Contains-here l []
placed-has l (k ∷ ks) = by-tests (is_before l k) (is_same l k) refl (placed-has l ks)
  where
    by-tests : (b c : Bool) → is_same l k ≡ c → Contains (placed l ks) l → Contains (cond b (l ∷ k ∷ ks) (cond c (k ∷ ks) (k ∷ placed l ks))) l
    by-tests true c f rest = Contains-here l (k ∷ ks)
    by-tests false true f rest = subst (Contains (k ∷ ks)) (sym (same_lit l k f)) (Contains-here k ks)
    by-tests false false f rest = Contains-there k (placed l ks) l rest

placed-keeps : (l : Lit) (ks : List Lit) (n : Lit) → Contains ks n → Contains (placed l ks) n
placed-keeps l [] n h = absurd (Contains-nil n h)
placed-keeps l (k ∷ ks) n h = by-tests (is_before l k) (is_same l k) (placed-keeps l ks n)
  where
    by-tests : (b c : Bool) → (Contains ks n → Contains (placed l ks) n) → Contains (cond b (l ∷ k ∷ ks) (cond c (k ∷ ks) (k ∷ placed l ks))) n
    by-tests true c rest = Contains-there l (k ∷ ks) n h
    by-tests false true rest = h
    by-tests false false rest = elim (Contains-cons_cases k ks n h) as (λ _. Contains (k ∷ placed l ks) n) [
      | inl same ↦ subst (Contains (k ∷ placed l ks)) same (Contains-here k (placed l ks))
      | inr later ↦ Contains-there k (placed l ks) n (rest later)
    ]

placed-length : (l : Lit) (ks : List Lit) → (1 ≤ length (placed l ks)) × (length (placed l ks) ≤ 1 + length ks)
placed-length l [] = (omega arith, omega arith)
placed-length l (k ∷ ks) = by-tests (is_before l k) (is_same l k) (placed-length l ks).1
  where
    by-tests : (b c : Bool) → length (placed l ks) ≤ 1 + length ks → (1 ≤ length (cond b (l ∷ k ∷ ks) (cond c (k ∷ ks) (k ∷ placed l ks)))) × (length (cond b (l ∷ k ∷ ks) (cond c (k ∷ ks) (k ∷ placed l ks))) ≤ 1 + length (k ∷ ks))
    by-tests true c rest = (omega arith, omega arith)
    by-tests false true rest = (omega arith, omega arith)
    by-tests false false rest = (omega arith, omega arith)

-- ---- the set of some literals

pub as_set-all : (P : Lit → Type 0) (ls : List Lit) → AllByRecursion P ls → AllByRecursion P (as_set ls)
as_set-all P [] h = tt
as_set-all P (l ∷ ls) h = placed-all P l (as_set ls) h.0 (as_set-all P ls h.1)

pub as_set-ascends : (ls : List Lit) → Ascends (as_set ls)
as_set-ascends [] = tt
as_set-ascends (l ∷ ls) = placed-ascends l (as_set ls) (as_set-ascends ls)

as_set-has : (ls : List Lit) (n : Lit) → Contains ls n → Contains (as_set ls) n
as_set-has [] n h = absurd (Contains-nil n h)
as_set-has (l ∷ ls) n h = elim (Contains-cons_cases l ls n h) as (λ _. Contains (placed l (as_set ls)) n) [
  | inl same ↦ subst (Contains (placed l (as_set ls))) same (placed-has l (as_set ls))
  | inr later ↦ placed-keeps l (as_set ls) n (as_set-has ls n later)
]

contained : (P : Lit → Type 0) (ls : List Lit) (n : Lit) → AllByRecursion P ls → Contains ls n → P n
contained P [] n all h = absurd (Contains-nil n h)
contained P (l ∷ ls) n all h = elim (Contains-cons_cases l ls n h) as (λ _. P n) [
  | inl same ↦ subst P same all.0
  | inr later ↦ contained P ls n all.1 later
]

all-contained : (xs ls : List Lit) → ((n : Lit) → Contains xs n → Contains ls n) → AllByRecursion (Contains ls) xs
all-contained [] ls h = tt
all-contained (x ∷ xs) ls h = (h x (Contains-here x xs), all-contained xs ls (λ n later. h n (Contains-there x xs n later)))

as_set-from : (ls : List Lit) (n : Lit) → Contains (as_set ls) n → Contains ls n
as_set-from ls n h = contained (Contains ls) (as_set ls) n (as_set-all (Contains ls) ls (all-contained ls ls (λ m there. there))) h

as_set-length : (ls : List Lit) → length (as_set ls) ≤ length ls
as_set-length [] = omega arith
as_set-length (l ∷ ls) = let rest = as_set-length ls in let here = (placed-length l (as_set ls)).1 in omega arith

as_set-some : (l : Lit) (ls : List Lit) → 1 ≤ length (as_set (l ∷ ls))
as_set-some l ls = (placed-length l (as_set ls)).0

-- two lists in order with the same literals are one
ascends-same : (xs ys : List Lit) → Ascends xs → Ascends ys → ((n : Lit) → Contains xs n → Contains ys n) → ((n : Lit) → Contains ys n → Contains xs n) → xs ≡ ys
ascends-same [] [] rx ry to from = refl
ascends-same [] (y ∷ ys) rx ry to from = absurd (Contains-nil y (from y (Contains-here y ys)))
ascends-same (x ∷ xs) [] rx ry to from = absurd (Contains-nil x (to x (Contains-here x xs)))
ascends-same (x ∷ xs) (y ∷ ys) rx ry to from =
    let heads : x ≡ y =
    elim (Contains-cons_cases y ys x (to x (Contains-here x xs))) as (λ _. x ≡ y) [
      | inl same ↦ sym same
      | inr later ↦ elim (Contains-cons_cases x xs y (from y (Contains-here y ys))) as (λ _. x ≡ y) [
        | inl same ↦ same
        | inr also ↦ absurd (
            let one = contained (λ k. rank y < rank k) ys x ry.0 later in
            let two = contained (λ k. rank x < rank k) xs y rx.0 also in
            omega arith)
      ]
    ] in
    let ranks = ap rank heads in
    let tail_to : ((n : Lit) → Contains xs n → Contains ys n) = λ n h.
    elim (Contains-cons_cases y ys n (to n (Contains-there x xs n h))) as (λ _. Contains ys n) [
      | inl same ↦ absurd (let above = contained (λ k. rank x < rank k) xs n rx.0 h in let is = ap rank same in omega arith)
      | inr rest ↦ rest
    ] in
    let tail_from : ((n : Lit) → Contains ys n → Contains xs n) = λ n h.
    elim (Contains-cons_cases x xs n (from n (Contains-there y ys n h))) as (λ _. Contains xs n) [
      | inl same ↦ absurd (let above = contained (λ k. rank y < rank k) ys n ry.0 h in let is = ap rank same in omega arith)
      | inr rest ↦ rest
    ] in
    ap (λ (k : Lit). k ∷ xs) heads ∙ ap (λ (zs : List Lit). y ∷ zs) (ascends-same xs ys rx.1 ry.1 tail_to tail_from)

pub set-is : (ls xs : List Lit) → Ascends xs → ((n : Lit) → Contains ls n → Contains xs n) → ((n : Lit) → Contains xs n → Contains ls n) → xs ≡ as_set ls
set-is ls xs up to from = ascends-same xs (as_set ls) up (as_set-ascends ls) (λ n h. as_set-has ls n (from n h)) (λ n h. to n (as_set-from ls n h))

-- ---- the order in which the code sorts

abbrev lit_cmp : Lit → Lit → Ordering
lit_cmp k l = ordering_then (nat_cmp k.var l.var) (bool_cmp k.positive l.positive)

lit_cmp-total : IsTotalOrder lit_cmp
lit_cmp-total = then_total (on_total (λ (l : Lit). l.var) nat_cmp_total) (on_total (λ (l : Lit). l.positive) bool_cmp_total)

same-bools : (p q : Bool) → beq p q ≡ is_eq (bool_cmp p q)
same-bools true true = refl
same-bools true false = refl
same-bools false true = refl
same-bools false false = refl

ties-by : (v w : ℕ) (p q : Bool) → ((v == w) && beq p q) ≡ is_eq (ordering_then (nat_cmp v w) (bool_cmp p q))
ties-by v w p q =
    by_ranked (v < w) (v ≡ w) (w < v) (nat_cmp v w) (ranked v w (nat_cmp v w) refl)
    (λ e less. (let other : (v == w) ≡ false = grind (arith, nat_tests) in ap (λ (b : Bool). b && beq p q) other ∙ sym (ap (λ (o : Ordering). is_eq (ordering_then o (bool_cmp p q))) e)))
    (λ e is. (let here : (v == w) ≡ true = grind (arith, nat_tests) in ap (λ (b : Bool). b && beq p q) here ∙ same-bools p q ∙ sym (ap (λ (o : Ordering). is_eq (ordering_then o (bool_cmp p q))) e)))
    (λ e more. (let other : (v == w) ≡ false = grind (arith, nat_tests) in ap (λ (b : Bool). b && beq p q) other ∙ sym (ap (λ (o : Ordering). is_eq (ordering_then o (bool_cmp p q))) e)))

ties : (k l : Lit) → is_same k l ≡ eq_by_cmp lit_cmp k l
ties k l = ties-by k.var l.var k.positive l.positive

is_same-equivalence : IsEquivalence is_same
is_same-equivalence = let own = eq_by_cmp_equiv lit_cmp-total in record {
  refl = is_same-refl;
  symm = λ k l. ties k l ∙ own.symm k l ∙ sym (ties l k);
  congr = λ k l m h. ties k m ∙ own.congr k l m (sym (ties k l) ∙ h) ∙ sym (ties l m);
}

less-bools : (v : ℕ) (p q : Bool) → bool_cmp p q ≡ Less → v + v + one_if p < v + v + one_if q
less-bools v true true h = cc
less-bools v true false h = cc
less-bools v false true h = omega arith
less-bools v false false h = cc

one_if-low : (p : Bool) → one_if p ≤ 1
one_if-low true = omega arith
one_if-low false = omega arith

less-by : (v w : ℕ) (p q : Bool) → ordering_then (nat_cmp v w) (bool_cmp p q) ≡ Less → v + v + one_if p < w + w + one_if q
less-by v w p q h =
    by_ranked (v < w) (v ≡ w) (w < v) (nat_cmp v w) (ranked v w (nat_cmp v w) refl)
    (λ e less. omega (arith, less, one_if-low p))
    (λ e is. (let signs = less-bools v p q (sym (ap (λ (o : Ordering). ordering_then o (bool_cmp p q)) e) ∙ h) in omega (arith, signs, is)))
    (λ e more. (let bad = sym (ap (λ (o : Ordering). ordering_then o (bool_cmp p q)) e) ∙ h in cc))

all-less : (l : Lit) (ls : List Lit) → AllByRecursion (λ k. lit_cmp l k ≡ Less) ls → AllByRecursion (λ k. rank l < rank k) ls
all-less l [] h = tt
all-less l (k ∷ ks) h = (less-by l.var k.var l.positive k.positive h.0, all-less l ks h.1)

strict-ascends : (ls : List Lit) → IsStrictlySortedBy lit_cmp ls → Ascends ls
strict-ascends [] h = tt
strict-ascends (l ∷ ls) h = (all-less l ls (sorted_head lit_cmp l ls h), strict-ascends ls (sorted_tail lit_cmp l ls h))

-- a list that was sorted, and in which each literal that stands twice was left out once
pub sorted-set : (xs ys zs : List Lit) → IsPermutation xs ys → IsSorted lit_cmp ys → IsFiltered (DiffersFromLast is_same) [] ys zs → zs ≡ as_set xs
sorted-set xs ys zs moved sorted once =
    let is : zs ≡ dedup is_same ys = dedup_is is_same ys zs once in
    is ∙ set-is xs (dedup is_same ys) (strict-ascends (dedup is_same ys) (IsStrictlySortedBy-dedup lit_cmp-total ties ys sorted))
    (λ n h. Contains-dedup is_same-equivalence same_lit ys n (Contains-permutation xs ys n moved h))
    (λ n h. Contains-permutation ys xs n (IsPermutation-sym xs ys moved) (Contains-from_dedup is_same ys n h))

-- what is made of it
pub factor-one : (ls zs : List Lit) (l : Lit) → zs ≡ as_set ls → zs ≡ l ∷ [] → Single l ≡ factor_of ls
factor-one ls zs l set one = ap factor_of_set (sym one ∙ set)

pub factor-more : (ls zs : List Lit) (b : Bool) → zs ≡ as_set ls → (length zs ≡ 1 → ⊥) → is_opposed zs ≡ b → cond b Nought (Product zs) ≡ factor_of ls
factor-more ls zs b set more opposed = ap (λ (c : Bool). cond c Nought (Product zs)) (sym opposed) ∙ by-set zs more ∙ ap factor_of_set set
  where
    by-set : (ks : List Lit) → (length ks ≡ 1 → ⊥) → cond (is_opposed ks) Nought (Product ks) ≡ factor_of_set ks
    by-set [] more = refl
    by-set (k ∷ []) more = absurd (more refl)
    by-set (k ∷ m ∷ ks) more = refl

-- ---- what a product is

-- in a set without opposite literals the variables ascend
rising-by : (v w : ℕ) (p q : Bool) → v + v + one_if p < w + w + one_if q → (w == v) ≡ false → v < w
rising-by v w true true h e = grind (arith, nat_tests)
rising-by v w true false h e = grind (arith, nat_tests)
rising-by v w false true h e = grind (arith, nat_tests)
rising-by v w false false h e = grind (arith, nat_tests)

abbrev VarsAscend : List Lit → Type 0
VarsAscend [] = Unit {0}
VarsAscend (l ∷ ls) = AllByRecursion (λ k. l.var < k.var) ls × VarsAscend ls

all-beyond : (m n : ℕ) (ks : List Lit) → m < n → AllByRecursion (λ k. n < k.var) ks → AllByRecursion (λ k. m < k.var) ks
all-beyond m n [] less h = tt
all-beyond m n (k ∷ ks) less h = ((let above = h.0 in omega arith), all-beyond m n ks less h.1)

or-false : (a b : Bool) → (a || b) ≡ false → (a ≡ false) × (b ≡ false)
or-false true b h = cc
or-false false b h = (refl, h)

vars-ascend : (ls : List Lit) → Ascends ls → is_opposed ls ≡ false → VarsAscend ls
vars-ascend [] up apart = tt
vars-ascend (l ∷ []) up apart = (tt, tt)
vars-ascend (l ∷ k ∷ ks) up apart =
    let tests = or-false (k.var == l.var) (is_opposed (k ∷ ks)) apart in
    let rest = vars-ascend (k ∷ ks) up.1 tests.1 in
    let less : l.var < k.var = rising-by l.var k.var l.positive k.positive up.0.0 tests.0 in
    ((less, all-beyond l.var k.var ks less rest.0), rest)

abbrev Differs : Lit → Lit → Type 0
Differs k l = k.var ≢ l.var

all-differ : (l : Lit) (ks : List Lit) → AllByRecursion (λ k. l.var < k.var) ks → All (Differs l) ks
all-differ l [] h = All-nil (Differs l)
all-differ l (k ∷ ks) h = All-cons (Differs l) k ks (λ e. (let less = h.0 in omega arith)) (all-differ l ks h.1)

vars-distinct : (ls : List Lit) → VarsAscend ls → AllPairs Differs ls
vars-distinct [] up = λ i j d less within. absurd (omega arith)
vars-distinct (l ∷ ls) up = AllPairs-cons Differs l ls (all-differ l ls up.0) (vars-distinct ls up.1)

to-all : (P : Lit → Type 0) (ls : List Lit) → AllByRecursion P ls → All P ls
to-all P [] h = All-nil P
to-all P (l ∷ ls) h = All-cons P l ls h.0 (to-all P ls h.1)

-- what literals of the first variables come to
abbrev pub IsFactorWithin : ℕ → Factor → Type 0
IsFactorWithin vars Nought = Unit {0}
IsFactorWithin vars (Single l) = (1 ≤ l.var) × (l.var ≤ vars)
IsFactorWithin vars (Product ls) = IsProductWithin vars ls

abbrev pub IsLitWithin : ℕ → Lit → Type 0
IsLitWithin vars l = (1 ≤ l.var) × (l.var ≤ vars)

lows : (vars : ℕ) (ls : List Lit) → AllByRecursion (IsLitWithin vars) ls → AllByRecursion (λ l. 1 ≤ l.var) ls
lows vars [] h = tt
lows vars (l ∷ ls) h = (h.0.0, lows vars ls h.1)

highs : (vars : ℕ) (ls : List Lit) → AllByRecursion (IsLitWithin vars) ls → AllByRecursion (λ l. l.var ≤ vars) ls
highs vars [] h = tt
highs vars (l ∷ ls) h = (h.0.1, highs vars ls h.1)

set-within : (vars : ℕ) (ls : List Lit) → Ascends ls → AllByRecursion (IsLitWithin vars) ls → 1 ≤ length ls → length ls ≤ 2 ^ 20 → IsFactorWithin vars (factor_of_set ls)
set-within vars [] up all some few = absurd (omega arith)
set-within vars (l ∷ []) up all some few = all.0
set-within vars (k ∷ l ∷ ls) up all some few = by-test (is_opposed (k ∷ l ∷ ls)) refl
  where
    by-test : (b : Bool) → is_opposed (k ∷ l ∷ ls) ≡ b → IsFactorWithin vars (cond b Nought (Product (k ∷ l ∷ ls)))
    by-test true e = tt
    by-test false e = record {
      vars_from = to-all (λ m. 1 ≤ m.var) (k ∷ l ∷ ls) (lows vars (k ∷ l ∷ ls) all);
      vars_within = to-all (λ m. m.var ≤ vars) (k ∷ l ∷ ls) (highs vars (k ∷ l ∷ ls) all);
      distinct = vars-distinct (k ∷ l ∷ ls) (vars-ascend (k ∷ l ∷ ls) up e);
      count_from = omega arith;
      count = few;
    }

pub factor-within : (vars : ℕ) (l : Lit) (ls : List Lit) → AllByRecursion (IsLitWithin vars) (l ∷ ls) → length (l ∷ ls) ≤ 2 ^ 20 → IsFactorWithin vars (factor_of (l ∷ ls))
factor-within vars l ls all few =
    let shorter = as_set-length (l ∷ ls) in
    set-within vars (as_set (l ∷ ls)) (as_set-ascends (l ∷ ls)) (as_set-all (IsLitWithin vars) (l ∷ ls) all) (as_set-some l ls) (omega arith)
