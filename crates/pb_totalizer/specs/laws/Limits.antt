-- The clauses from the outputs of a node to its parts, one by one, and what unit propagation makes of them.
use Rattle.std.proofs.Common.{◌≡◌, ◌<◌, ◌≤◌, ◌+◌, ◌-◌, ◌⊎◌, ◌++◌, ℕ, List, [], ◌∷◌, length, min, refl, sym, ap, ◌∙◌, subst, arith, inl, inr, zero, suc}
use Rattle.std.specs.Prelude.{Contains, nat_lt}
use Rattle.std.specs.List.{filter, range_with_len}
use Rattle.std.proofs.lemmas.Bool.{cases_lt, cond-true, cond-false, lt-ltb, le-ltb, ltb-true}
use Rattle.std.proofs.lemmas.List.Elements.{Contains-append_left, Contains-append_right, Contains-append_cases}
use Rattle.pb_base.specs.declared.literal.Lit.{Lit}
use Rattle.pb_base.specs.Literals.{negated}
use Rattle.pb_base.proofs.Members.{Contains-nil, Contains-here, Contains-cons_cases}
use Rattle.pb_norm.proofs.Derived.{Derived}
use Rattle.pb_norm.proofs.Derived.Derived.{by_clause}
use Rattle.pb_family.proofs.ShortClauses.{twice}
use Rattle.pb_totalizer.specs.Exact.{unless_last, limit_clause, limits, limit_clauses, limit_count}
use Rattle.pb_totalizer.specs.laws.PairRows.{row_listed, row_cases, rows_counted}

-- ---- which clauses there are

pub limit_listed : (count a b : ℕ) (f g h : ℕ → Lit) (i j : ℕ) → i ≤ a → j ≤ b → i + j < count → Contains (limit_clauses count a b f g h) (limit_clause a b f g h i j)
limit_listed count a b f g h i j left right below = row_listed (limit_clause a b f g h) (λ i j. nat_lt (i + j) count) a b i j left right (lt-ltb (i + j) count below)

pub limit_cases : (count a b : ℕ) (f g h : ℕ → Lit) (c : List Lit) → Contains (limit_clauses count a b f g h) c
    → (i : ℕ) × (j : ℕ) × (i ≤ a) × (j ≤ b) × (i + j < count) × (limit_clause a b f g h i j ≡ c)
limit_cases count a b f g h c listed =
    let found = row_cases (limit_clause a b f g h) (λ i j. nat_lt (i + j) count) a b c listed in
    (found.0, found.1, found.2, found.3, ltb-true (found.0 + found.1) count found.4, found.5)

-- ---- the literals of one

last_is : (f : ℕ → Lit) (a i : ℕ) (k : Lit) → Contains (unless_last f a i) k → (i < a) × (k ≡ f (i + 1))
last_is f a i k h =
    elim (cases_lt i a) as (λ _. (i < a) × (k ≡ f (i + 1))) [
      | inl below ↦
          let e : unless_last f a i ≡ f (i + 1) ∷ [] = cond-true (nat_lt i a) (f (i + 1) ∷ []) [] (lt-ltb i a below) in
          (below, elim (Contains-cons_cases (f (i + 1)) [] k (subst (λ (ls : List Lit). Contains ls k) e h)) as (λ _. k ≡ f (i + 1)) [ inl same ↦ sym same | inr none ↦ absurd (Contains-nil k none) ])
      | inr above ↦
          let e : unless_last f a i ≡ [] = cond-false (nat_lt i a) (f (i + 1) ∷ []) [] (le-ltb i a above) in
          absurd (Contains-nil k (subst (λ (ls : List Lit). Contains ls k) e h))
    ]

last_here : (f : ℕ → Lit) (a i : ℕ) → i < a → Contains (unless_last f a i) (f (i + 1))
last_here f a i below =
    subst (λ (ls : List Lit). Contains ls (f (i + 1))) (sym (cond-true (nat_lt i a) (f (i + 1) ∷ []) [] (lt-ltb i a below))) (Contains-here (f (i + 1)) [])

-- of the left part, of the right part, or the node's
pub limit_literal : (a b : ℕ) (f g h : ℕ → Lit) (i j : ℕ) (k : Lit) → Contains (limit_clause a b f g h i j) k
    → ((i < a) × (k ≡ f (i + 1))) ⊎ (((j < b) × (k ≡ g (j + 1))) ⊎ (k ≡ negated (h (i + j + 1))))
limit_literal a b f g h i j k m =
    let o = negated (h (i + j + 1)) in
    let Goal : Type 0 = ((i < a) × (k ≡ f (i + 1))) ⊎ (((j < b) × (k ≡ g (j + 1))) ⊎ (k ≡ o)) in
    elim (Contains-append_cases (unless_last f a i) (unless_last g b j ++ o ∷ []) k m) as (λ _. Goal) [
      | inl left ↦ inl (last_is f a i k left)
      | inr rest ↦ elim (Contains-append_cases (unless_last g b j) (o ∷ []) k rest) as (λ _. Goal) [
        | inl right ↦ inr (inl (last_is g b j k right))
        | inr last ↦ elim (Contains-cons_cases o [] k last) as (λ _. Goal) [ inl same ↦ inr (inr (sym same)) | inr none ↦ absurd (Contains-nil k none) ]
      ]
    ]

pub limit_left : (a b : ℕ) (f g h : ℕ → Lit) (i j : ℕ) → i < a → Contains (limit_clause a b f g h i j) (f (i + 1))
limit_left a b f g h i j below = Contains-append_left (unless_last f a i) (unless_last g b j ++ negated (h (i + j + 1)) ∷ []) (f (i + 1)) (last_here f a i below)

pub limit_right : (a b : ℕ) (f g h : ℕ → Lit) (i j : ℕ) → j < b → Contains (limit_clause a b f g h i j) (g (j + 1))
limit_right a b f g h i j below =
    Contains-append_right (unless_last f a i) (unless_last g b j ++ negated (h (i + j + 1)) ∷ []) (g (j + 1))
    (Contains-append_left (unless_last g b j) (negated (h (i + j + 1)) ∷ []) (g (j + 1)) (last_here g b j below))

pub limit_own : (a b : ℕ) (f g h : ℕ → Lit) (i j : ℕ) → Contains (limit_clause a b f g h i j) (negated (h (i + j + 1)))
limit_own a b f g h i j =
    let o = negated (h (i + j + 1)) in
    Contains-append_right (unless_last f a i) (unless_last g b j ++ o ∷ []) o (Contains-append_right (unless_last g b j) (o ∷ []) o (Contains-here o []))

-- ---- unit propagation

-- one of the literals, where each is the derived one or false
limit_gives : (cs : List (List Lit)) (given : List Lit) (a b : ℕ) (f g h : ℕ → Lit) (i j : ℕ) (l : Lit) → Contains cs (limit_clause a b f g h i j) → Contains (limit_clause a b f g h i j) l
    → (i < a → (f (i + 1) ≡ l) ⊎ Derived cs given (negated (f (i + 1)))) → (j < b → (g (j + 1) ≡ l) ⊎ Derived cs given (negated (g (j + 1))))
    → (negated (h (i + j + 1)) ≡ l) ⊎ Derived cs given (negated (negated (h (i + j + 1)))) → Derived cs given l
limit_gives cs given a b f g h i j l listed here left right own =
    by_clause (limit_clause a b f g h i j) listed here (λ k m other.
    elim (limit_literal a b f g h i j k m) as (λ _. Derived cs given (negated k)) [
      | inl one ↦ falsified (f (i + 1)) k one.1 (left one.0) other
      | inr rest ↦ elim rest as (λ _. Derived cs given (negated k)) [ inl two ↦ falsified (g (j + 1)) k two.1 (right two.0) other | inr last ↦ falsified (negated (h (i + j + 1))) k last own other ]
    ])
  where
    falsified : (x k : Lit) → k ≡ x → (x ≡ l) ⊎ Derived cs given (negated x) → ¬ (k ≡ l) → Derived cs given (negated k)
    falsified x k e (inl same) other = absurd (other (e ∙ same))
    falsified x k e (inr d) other = subst (λ (m : Lit). Derived cs given (negated m)) (sym e) d

-- where the literals of the parts are false, the node's is
pub limit_denies : (cs : List (List Lit)) (given : List Lit) (a b : ℕ) (f g h : ℕ → Lit) (i j : ℕ) → Contains cs (limit_clause a b f g h i j)
    → (i < a → Derived cs given (negated (f (i + 1)))) → (j < b → Derived cs given (negated (g (j + 1)))) → Derived cs given (negated (h (i + j + 1)))
limit_denies cs given a b f g h i j listed left right =
    limit_gives cs given a b f g h i j (negated (h (i + j + 1))) listed (limit_own a b f g h i j) (λ m. inr (left m)) (λ m. inr (right m)) (inl refl)

-- where the node's is true and the right part's false, the left part's is true
pub limit_raises_left : (cs : List (List Lit)) (given : List Lit) (a b : ℕ) (f g h : ℕ → Lit) (i j : ℕ) → Contains cs (limit_clause a b f g h i j)
    → i < a → (j < b → Derived cs given (negated (g (j + 1)))) → Derived cs given (h (i + j + 1)) → Derived cs given (f (i + 1))
limit_raises_left cs given a b f g h i j listed below right own =
    limit_gives cs given a b f g h i j (f (i + 1)) listed (limit_left a b f g h i j below) (λ m. inl refl) (λ m. inr (right m)) (inr (twice cs given (h (i + j + 1)) own))

pub limit_raises_right : (cs : List (List Lit)) (given : List Lit) (a b : ℕ) (f g h : ℕ → Lit) (i j : ℕ) → Contains cs (limit_clause a b f g h i j)
    → j < b → (i < a → Derived cs given (negated (f (i + 1)))) → Derived cs given (h (i + j + 1)) → Derived cs given (g (j + 1))
limit_raises_right cs given a b f g h i j listed below left own =
    limit_gives cs given a b f g h i j (g (j + 1)) listed (limit_right a b f g h i j below) (λ m. inr (left m)) (λ m. inl refl) (inr (twice cs given (h (i + j + 1)) own))

-- ---- how many there are

pub limits_counted : (count a b : ℕ) (f g h : ℕ → Lit) → length (limit_clauses count a b f g h) ≡ limit_count count a b
limits_counted count a b f g h = rows_counted (limit_clause a b f g h) (λ i j. nat_lt (i + j) count) a b

-- as the code counts them
limits_from : (c i k n : ℕ) → filter (λ j. nat_lt (i + j) c) (range_with_len k n) ≡ range_with_len k (min (k + n) (c - i) - k)
limits_from c i k zero = ap (range_with_len k) (let e : 0 ≡ min (k + 0) (c - i) - k = omega arith in e)
limits_from c i k (suc n) =
    let tail = filter (λ (j : ℕ). nat_lt (i + j) c) (range_with_len (k + 1) n) in
    let rest = limits_from c i (k + 1) n in
    elim (cases_lt (i + k) c) as (λ _. filter (λ j. nat_lt (i + j) c) (range_with_len k (suc n)) ≡ range_with_len k (min (k + suc n) (c - i) - k)) [
      | inl below ↦
          let count : suc (min (k + 1 + n) (c - i) - (k + 1)) ≡ min (k + suc n) (c - i) - k = omega arith in
          cond-true (nat_lt (i + k) c) (k ∷ tail) tail (lt-ltb (i + k) c below)
          ∙ ap (λ (js : List ℕ). k ∷ js) rest
          ∙ ap (range_with_len k) count
      | inr above ↦
          let none : min (k + 1 + n) (c - i) - (k + 1) ≡ 0 = omega arith in
          let also : 0 ≡ min (k + suc n) (c - i) - k = omega arith in
          cond-false (nat_lt (i + k) c) (k ∷ tail) tail (le-ltb (i + k) c above)
          ∙ rest
          ∙ ap (range_with_len (k + 1)) none
          ∙ ap (range_with_len k) also
    ]

pub limits_are : (count b i high : ℕ) → high ≡ min (b + 1) (count - i) → limits count b i ≡ range_with_len 0 (high - 0)
limits_are count b i high is = limits_from count i 0 (b + 1) ∙ ap (range_with_len 0) (let e : min (0 + (b + 1)) (count - i) - 0 ≡ high - 0 = omega arith in e)
