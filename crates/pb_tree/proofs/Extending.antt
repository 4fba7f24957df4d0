-- What the clauses along a tree name, how many they are, and values for the fresh variables, each by what it means.
use Rattle.std.proofs.Common.{◌≡◌, ◌<◌, ◌≤◌, ◌+◌, ◌-◌, ◌⊎◌, ◌++◌, ℕ, Bool, true, false, cond, ltb, leb, List, [], length, get_or, min, refl, sym, ap, ◌∙◌, subst, arith, inl, inr, length-append}
use Rattle.std.specs.Prelude.{Contains, All}
use Rattle.std.proofs.lemmas.Bool.{cases_Bool, cond-true, cond-false, lt-ltb, le-ltb, le-leb, lt-leb}
use Rattle.std.proofs.lemmas.List.Elements.{Contains-append_cases, All-weaker, All-contains_itself}
use Rattle.pb_base.specs.declared.literal.Lit.{Lit}
use Rattle.pb_base.specs.Literals.{lit_value, clause_value, AgreeBelow}
use Rattle.pb_base.proofs.Members.{Contains-nil, Contains-cons_cases}
use Rattle.pb_norm.specs.Constraints.{Weighted}
use Rattle.pb_norm.proofs.Agreement.{lit_value-agree, clause_value-agree}
use Rattle.pb_tree.specs.Tree.{Tree, empty, leaf, node, IsLeafOf, leaf_sum}
use Rattle.pb_tree.specs.Scheme.{Scheme, values, fresh_of, output, along, count_along}
use Rattle.pb_tree.proofs.Pushing.{passing}
use Rattle.pb_tree.proofs.Sums.{IsLawful}

pub all_from_each : {X : Type 0} (P : X → Type 0) (xs : List X) → ((x : X) → Contains xs x → P x) → All P xs
all_from_each P xs each = All-weaker (Contains xs) P each xs (All-contains_itself xs)

-- ---- reifications

-- the output of each value of a part says whether the sum reaches it
abbrev pub OutputsMean : Scheme → (ℕ → Bool) → Tree → ℕ → ℕ → Type 0
OutputsMean s a t first sum = (u : ℕ) → Contains (values s t) u → lit_value a (output s t first u) ≡ leb u sum

-- a literal is of a value's output
abbrev pub IsOutputVar : Scheme → Tree → ℕ → ℕ → Type 0
IsOutputVar s t first n = (u : ℕ) × Contains (values s t) u × (n ≡ (output s t first u).var)

-- What clauses along a tree need: they name outputs alone, and hold where outputs have their reifications.
pub record IsByReification (s : Scheme) (own : Tree → Tree → ℕ → List (List Lit)) : Type 0 where
  pub names : (l r : Tree) (first : ℕ) (c : List Lit) (k : Lit) → Contains (own l r first) c → Contains c k
      → IsOutputVar s l first k.var ⊎ (IsOutputVar s r (first + fresh_of s l) k.var ⊎ IsOutputVar s (node l r) first k.var)
  pub holds : (l r : Tree) (first : ℕ) (a : ℕ → Bool) (x y : ℕ) → x ≤ leaf_sum s.weight l → y ≤ leaf_sum s.weight r
      → OutputsMean s a l first x → OutputsMean s a r (first + fresh_of s l) y → OutputsMean s a (node l r) first (x + y)
      → (c : List Lit) → Contains (own l r first) c → clause_value a c ≡ true

-- ---- names

-- a variable of a leaf, or a fresh one
abbrev pub IsNamed : Scheme → Tree → ℕ → ℕ → Type 0
IsNamed s t first n = ((u : Weighted) × IsLeafOf t u × (u.lit.var ≡ n)) ⊎ ((first ≤ n) × (n < first + fresh_of s t))

pub output_named : (s : Scheme) (W : ℕ → Type 0) → IsLawful s W → (t : Tree) (first u : ℕ) → Contains (values s t) u → IsNamed s t first (output s t first u).var
output_named s W laws empty first u h = absurd (Contains-nil u h)
output_named s W laws (leaf t) first u h = inl (t, refl, refl)
output_named s W laws (node l r) first u h = let within = laws.place_within l r u h in inr (omega arith, omega arith)

named_left : (s : Scheme) (l r : Tree) (first n : ℕ) → IsNamed s l first n → IsNamed s (node l r) first n
named_left s l r first n named = elim named as (λ _. IsNamed s (node l r) first n) [ inl own ↦ inl (own.0, inl own.1, own.2) | inr fresh ↦ inr (omega arith, omega arith) ]

named_right : (s : Scheme) (l r : Tree) (first n : ℕ) → IsNamed s r (first + fresh_of s l) n → IsNamed s (node l r) first n
named_right s l r first n named = elim named as (λ _. IsNamed s (node l r) first n) [ inl own ↦ inl (own.0, inr own.1, own.2) | inr fresh ↦ inr (omega arith, omega arith) ]

var_named : (s : Scheme) (W : ℕ → Type 0) → IsLawful s W → (t : Tree) (first n : ℕ) → IsOutputVar s t first n → IsNamed s t first n
var_named s W laws t first n is = subst (λ (m : ℕ). IsNamed s t first m) (sym is.2) (output_named s W laws t first is.0 is.1)

pub parts_of_clause : (s : Scheme) (own : Tree → Tree → ℕ → List (List Lit)) (l r : Tree) (first : ℕ) (c : List Lit) → Contains (along s own (node l r) first) c
    → Contains (along s own l first) c ⊎ (Contains (along s own r (first + fresh_of s l)) c ⊎ Contains (own l r first) c)
parts_of_clause s own l r first c h =
    let lefts = along s own l first in
    let rights = along s own r (first + fresh_of s l) in
    elim (Contains-append_cases lefts (rights ++ own l r first) c h) as (λ _. Contains lefts c ⊎ (Contains rights c ⊎ Contains (own l r first) c)) [
      | inl left ↦ inl left
      | inr rest ↦ inr (Contains-append_cases rights (own l r first) c rest)
    ]

pub along_named : (s : Scheme) (W : ℕ → Type 0) → IsLawful s W → (own : Tree → Tree → ℕ → List (List Lit)) → IsByReification s own
    → (t : Tree) (first : ℕ) (c : List Lit) → Contains (along s own t first) c → (k : Lit) → Contains c k → IsNamed s t first k.var
along_named s W laws own by empty first c h k m = absurd (Contains-nil c h)
along_named s W laws own by (leaf t) first c h k m = absurd (Contains-nil c h)
along_named s W laws own by (node l r) first c h k m =
    let middle = first + fresh_of s l in
    elim (parts_of_clause s own l r first c h) as (λ _. IsNamed s (node l r) first k.var) [
      | inl left ↦ named_left s l r first k.var (along_named s W laws own by l first c left k m)
      | inr rest ↦ elim rest as (λ _. IsNamed s (node l r) first k.var) [
        | inl right ↦ named_right s l r first k.var (along_named s W laws own by r middle c right k m)
        | inr here ↦ elim (by.names l r first c k here m) as (λ _. IsNamed s (node l r) first k.var) [
          | inl one ↦ named_left s l r first k.var (var_named s W laws l first k.var one)
          | inr more ↦ elim more as (λ _. IsNamed s (node l r) first k.var) [
            | inl two ↦ named_right s l r first k.var (var_named s W laws r middle k.var two)
            | inr three ↦ var_named s W laws (node l r) first k.var three
          ]
        ]
      ]
    ]

-- ---- counts

pub along_counted : (s : Scheme) (own : Tree → Tree → ℕ → List (List Lit)) (count : Tree → Tree → ℕ) → ((l r : Tree) (first : ℕ) → length (own l r first) ≡ count l r)
    → (t : Tree) (first : ℕ) → length (along s own t first) ≡ count_along count t
along_counted s own count each empty first = refl
along_counted s own count each (leaf t) first = refl
along_counted s own count each (node l r) first =
    let lefts = along s own l first in
    let rights = along s own r (first + fresh_of s l) in
    omega (
      arith,
      length-append lefts (rights ++ own l r first),
      length-append rights (own l r first),
      along_counted s own count each l first,
      along_counted s own count each r (first + fresh_of s l),
      each l r first,
    )

-- ---- values for the fresh variables

leaf_sum-agree : (f g : Weighted → ℕ) (t : Tree) → ((u : Weighted) → IsLeafOf t u → f u ≡ g u) → leaf_sum f t ≡ leaf_sum g t
leaf_sum-agree f g empty same = refl
leaf_sum-agree f g (leaf u) same = same u refl
leaf_sum-agree f g (node l r) same =
    omega (arith, leaf_sum-agree f g l (λ u h. same u (inl h)), leaf_sum-agree f g r (λ u h. same u (inr h)))

pub at_most_weight : (b : Bool) (n : ℕ) → cond b n 0 ≤ n
at_most_weight true n = omega arith
at_most_weight false n = omega arith

-- what passes is at most the whole
pub passing_within : (s : Scheme) (p : Lit → Bool) (t : Tree) → leaf_sum (passing s p) t ≤ leaf_sum s.weight t
passing_within s p empty = omega arith
passing_within s p (leaf t) = at_most_weight (p t.lit) (s.weight t)
passing_within s p (node l r) = omega (arith, passing_within s p l, passing_within s p r)

-- below a number as before, and from there on whether the value at the place is within the sum
risen : (ℕ → Bool) → ℕ → List ℕ → ℕ → ℕ → Bool
risen v base us sum n = cond (ltb n base) (v n) (leb (get_or us (n - base) 0) sum)

risen-below : (v : ℕ → Bool) (base : ℕ) (us : List ℕ) (sum : ℕ) → AgreeBelow base v (risen v base us sum)
unfolding risen
risen-below v base us sum n below = sym (cond-true (ltb n base) (v n) (leb (get_or us (n - base) 0) sum) (lt-ltb n base below))

risen-at : (v : ℕ → Bool) (base : ℕ) (us : List ℕ) (sum k u : ℕ) → get_or us k 0 ≡ u → risen v base us sum (base + k) ≡ leb u sum
unfolding risen
risen-at v base us sum k u is =
    let n = base + k in
    cond-false (ltb n base) (v n) (leb (get_or us (n - base) 0) sum) (le-ltb n base (omega arith))
    ∙ ap (λ (i : ℕ). leb (get_or us i 0) sum) (let e : n - base ≡ k = omega arith in e)
    ∙ ap (λ (i : ℕ). leb i sum) is

-- a named variable is below what follows the fresh ones
named_below : (s : Scheme) (t : Tree) (first n : ℕ) → ((u : Weighted) → IsLeafOf t u → u.lit.var < first) → IsNamed s t first n → n < first + fresh_of s t
named_below s t first n below named =
    elim named as (λ _. n < first + fresh_of s t) [
      | inl own ↦ let h = below own.0 own.1 in omega (arith, own.2, h)
      | inr fresh ↦ fresh.1
    ]

-- an assignment that agrees below the fresh variables, makes all clauses true and gives each output its reification
pub record Extension (s : Scheme) (own : Tree → Tree → ℕ → List (List Lit)) (v : ℕ → Bool) (t : Tree) (first : ℕ) : Type 0 where
  pub now : ℕ → Bool
  pub agrees : AgreeBelow first v now
  pub holds : (c : List Lit) → Contains (along s own t first) c → clause_value now c ≡ true
  pub means : OutputsMean s now t first (leaf_sum (passing s (lit_value v)) t)

leaf_means : (s : Scheme) (v : ℕ → Bool) (t : Weighted) → 1 ≤ min (s.weight t) s.cap → (u : ℕ) → min (s.weight t) s.cap ≡ u → lit_value v t.lit ≡ leb u (passing s (lit_value v) t)
leaf_means s v t some u is =
    elim (cases_Bool (lit_value v t.lit)) as (λ _. lit_value v t.lit ≡ leb u (passing s (lit_value v) t)) [
      | inl on ↦ let whole : passing s (lit_value v) t ≡ s.weight t = cond-true (lit_value v t.lit) (s.weight t) 0 on in
          on ∙ sym (le-leb u (passing s (lit_value v) t) (omega arith))
      | inr off ↦ let nothing : passing s (lit_value v) t ≡ 0 = cond-false (lit_value v t.lit) (s.weight t) 0 off in
          off ∙ sym (lt-leb u (passing s (lit_value v) t) (omega arith))
    ]

pub extension : (s : Scheme) (W : ℕ → Type 0) → IsLawful s W → 1 ≤ s.cap → (own : Tree → Tree → ℕ → List (List Lit)) → IsByReification s own → (v : ℕ → Bool) (t : Tree) (first : ℕ)
    → ((u : Weighted) → IsLeafOf t u → u.lit.var < first) → ((u : Weighted) → IsLeafOf t u → 1 ≤ s.weight u) → Extension s own v t first
extension s W laws cap own by v empty first below positive = record {
  now = v;
  agrees = λ n h. refl;
  holds = λ c h. absurd (Contains-nil c h);
  means = λ u h. absurd (Contains-nil u h);
}
extension s W laws cap own by v (leaf t) first below positive = record {
  now = v;
  agrees = λ n h. refl;
  holds = λ c h. absurd (Contains-nil c h);
  means = λ u h. elim (Contains-cons_cases (min (s.weight t) s.cap) [] u h) as (λ _. lit_value v t.lit ≡ leb u (passing s (lit_value v) t)) [
    | inl same ↦ leaf_means s v t (let some = positive t refl in omega arith) u same
    | inr none ↦ absurd (Contains-nil u none)
  ];
}
extension s W laws cap own by v (node l r) first below positive =
    let middle = first + fresh_of s l in
    let base = first + fresh_of s l + fresh_of s r in
    let us = values s (node l r) in
    let x = leaf_sum (passing s (lit_value v)) l in
    let y = leaf_sum (passing s (lit_value v)) r in
    let below_left = λ (u : Weighted) (h : IsLeafOf l u). below u (inl h) in
    let below_right : ((u : Weighted) → IsLeafOf r u → u.lit.var < middle) = λ u h. let b = below u (inr h) in omega arith in
    let one = extension s W laws cap own by v l first below_left (λ u h. positive u (inl h)) in
    let two = extension s W laws cap own by one.now r middle below_right (λ u h. positive u (inr h)) in
    let w = risen two.now base us (x + y) in
    let last = risen-below two.now base us (x + y) in
    let from_middle : AgreeBelow middle one.now w = λ n h. two.agrees n h ∙ last n (omega arith) in
    let from_first : AgreeBelow first v w = λ n h. one.agrees n h ∙ from_middle n (omega arith) in
    let right_sum : leaf_sum (passing s (lit_value one.now)) r ≡ y =
    leaf_sum-agree (passing s (lit_value one.now)) (passing s (lit_value v)) r (λ u h.
    ap (λ (b : Bool). cond b (s.weight u) 0) (sym (lit_value-agree v one.now u.lit (one.agrees u.lit.var (below u (inr h)))))) in
    let left_means : OutputsMean s w l first x = λ u h.
    sym (lit_value-agree one.now w (output s l first u) (from_middle (output s l first u).var (named_below s l first (output s l first u).var below_left (output_named s W laws l first u h)))) ∙ one.means u h in
    let right_means : OutputsMean s w r middle y = λ u h.
    sym (lit_value-agree two.now w (output s r middle u) (last (output s r middle u).var (named_below s r middle (output s r middle u).var below_right (output_named s W laws r middle u h)))) ∙ two.means u h ∙ ap (leb u) right_sum in
    let own_means : OutputsMean s w (node l r) first (x + y) = λ u h. risen-at two.now base us (x + y) (s.place u us) u (laws.at_place l r u h) in
    record {
      now = w;
      agrees = from_first;
      holds = λ c h.
          elim (parts_of_clause s own l r first c h) as (λ _. clause_value w c ≡ true) [
            | inl left ↦
                sym (clause_value-agree middle one.now w from_middle c (all_from_each (λ k. k.var < middle) c (λ k m. named_below s l first k.var below_left (along_named s W laws own by l first c left k m))))
                ∙ one.holds c left
            | inr rest ↦ elim rest as (λ _. clause_value w c ≡ true) [
              | inl right ↦
                  sym (clause_value-agree base two.now w last c (all_from_each (λ k. k.var < base) c (λ k m. named_below s r middle k.var below_right (along_named s W laws own by r middle c right k m))))
                  ∙ two.holds c right
              | inr here ↦ by.holds l r first w x y (passing_within s (lit_value v) l) (passing_within s (lit_value v) r) left_means right_means own_means c here
            ]
          ];
      means = own_means;
    }
