-- The clauses between neighbours of an ascending list, and what unit propagation makes of them.
use Rattle.std.proofs.Common.{◌≡◌, ◌<◌, ◌≤◌, ◌+◌, ◌-◌, ℕ, suc, List, [], ◌∷◌, ◌++◌, append-nil, length, get_or, map, refl, sym, ap, ◌∙◌, subst, arith, inl, inr}
use Rattle.std.specs.Prelude.{Contains}
use Rattle.std.specs.List.{range_with_len}
use Rattle.std.proofs.lemmas.List.{length-map}
use Rattle.pb_base.specs.declared.literal.Lit.{Lit}
use Rattle.pb_base.specs.Literals.{negated}
use Rattle.pb_base.proofs.Members.{Contains-nil, Contains-here, Contains-there, Contains-cons_cases}
use Rattle.pb_norm.proofs.Derived.{Derived}
use Rattle.pb_tree.specs.Pairs.{Pair, pair_of}
use Rattle.pb_tree.proofs.Lists.{Contains-map_cases}
use Rattle.pb_tree.proofs.PairLists.{map-map}
use Rattle.pb_tree.proofs.Threes.{implied, denied}
use Rattle.pb_gentot.specs.BoundTable.{neighbours, neighbour_clause}
use Rattle.pb_gentot.specs.Rising.{Rising}

pub neighbours_counted : (us : List ℕ) → length (neighbours us) ≡ length us - 1
neighbours_counted [] = refl
neighbours_counted (u ∷ []) = refl
neighbours_counted (u ∷ v ∷ us) = let rest = neighbours_counted (v ∷ us) in omega arith

-- both stand in the list, the lower one first
pub neighbour_cases : (us : List ℕ) → Rising us → (p : Pair) → Contains (neighbours us) p → Contains us p.left × Contains us p.right × (p.left < p.right)
neighbour_cases [] rising p h = absurd (Contains-nil p h)
neighbour_cases (u ∷ []) rising p h = absurd (Contains-nil p h)
neighbour_cases (u ∷ v ∷ us) rising p h =
    let all = u ∷ v ∷ us in
    elim (Contains-cons_cases (pair_of u v) (neighbours (v ∷ us)) p h) as (λ _. Contains all p.left × Contains all p.right × (p.left < p.right)) [
      | inl same ↦
          subst (λ (q : Pair). Contains all q.left × Contains all q.right × (q.left < q.right)) same
          (Contains-here u (v ∷ us), Contains-there u (v ∷ us) v (Contains-here v us), rising.0 v (Contains-here v us))
      | inr rest ↦
          let found = neighbour_cases (v ∷ us) rising.1 p rest in
          (Contains-there u (v ∷ us) p.left found.0, Contains-there u (v ∷ us) p.right found.1, found.2)
    ]

-- ---- by their places

-- those at a place and behind it
abbrev pub pair_at : List ℕ → ℕ → Pair
pair_at us k = pair_of (get_or us k 0) (get_or us (k + 1) 0)

neighbours_from : (us all : List ℕ) (a : ℕ) → ((k : ℕ) → get_or us k 0 ≡ get_or all (a + k) 0) → neighbours us ≡ map (pair_at all) (range_with_len a (length us - 1))
neighbours_from [] all a same = refl
neighbours_from (u ∷ []) all a same = refl
neighbours_from (u ∷ v ∷ us) all a same =
    let one : u ≡ get_or all a 0 = same 0 ∙ ap (λ (n : ℕ). get_or all n 0) (let e : a + 0 ≡ a = omega arith in e) in
    let two : v ≡ get_or all (a + 1) 0 = same 1 in
    let rest = neighbours_from (v ∷ us) all (a + 1) (λ k. same (suc k) ∙ ap (λ (n : ℕ). get_or all n 0) (let e : a + suc k ≡ a + 1 + k = omega arith in e)) in
    let short : length (v ∷ us) - 1 ≡ length us = omega arith in
    let long : suc (length us) ≡ length (u ∷ v ∷ us) - 1 = omega arith in
    (λ i. pair_of (one i) (two i) ∷ rest i)
    ∙ ap (λ (n : ℕ). pair_at all a ∷ map (pair_at all) (range_with_len (a + 1) n)) short
    ∙ ap (λ (n : ℕ). map (pair_at all) (range_with_len a n)) long

pub neighbours_by_places : (us : List ℕ) → neighbours us ≡ map (pair_at us) (range_with_len 0 (length us - 1))
neighbours_by_places us = neighbours_from us us 0 (λ k. ap (λ (n : ℕ). get_or us n 0) (let e : k ≡ 0 + k = omega arith in e))

-- ---- the clauses

abbrev pub clauses_between : (ℕ → Lit) → List ℕ → List (List Lit)
clauses_between f us = map (neighbour_clause f) (neighbours us)

-- of those at a place
abbrev pub clause_at : (ℕ → Lit) → List ℕ → ℕ → List Lit
clause_at f us k = neighbour_clause f (pair_at us k)

-- all are left at first
pub between_starts : (f : ℕ → Lit) (us : List ℕ) → clauses_between f us ≡ map (clause_at f us) (range_with_len 0 (length us - 1 - 0)) ++ []
between_starts f us =
    let n = length us - 1 in
    let whole : n ≡ n - 0 = omega arith in
    ap (map (neighbour_clause f)) (neighbours_by_places us)
    ∙ map-map (neighbour_clause f) (pair_at us) (range_with_len 0 n)
    ∙ ap (λ (m : ℕ). map (clause_at f us) (range_with_len 0 m)) whole
    ∙ sym (append-nil (map (clause_at f us) (range_with_len 0 (n - 0))))

pub between_counted : (f : ℕ → Lit) (us : List ℕ) → length (clauses_between f us) ≡ length us - 1
between_counted f us = length-map (neighbours us) (neighbour_clause f) ∙ neighbours_counted us

pub between_cases : (f : ℕ → Lit) (us : List ℕ) → Rising us → (c : List Lit) → Contains (clauses_between f us) c
    → (u : ℕ) × (v : ℕ) × Contains us u × Contains us v × (u < v) × (negated (f v) ∷ f u ∷ [] ≡ c)
between_cases f us rising c h =
    let found = Contains-map_cases (neighbour_clause f) (neighbours us) c h in
    let both = neighbour_cases us rising found.0 found.1 in
    (found.0.left, found.0.right, both.0, both.1, both.2, found.2)

-- the least of a list
least : (v : ℕ) (us : List ℕ) → Rising (v ∷ us) → (x : ℕ) → Contains (v ∷ us) x → v ≤ x
least v us rising x h = elim (Contains-cons_cases v us x h) as (λ _. v ≤ x) [ inl same ↦ omega arith | inr rest ↦ let below = rising.0 x rest in omega arith ]

only : (w x : ℕ) → Contains (w ∷ []) x → x ≡ w
only w x h = elim (Contains-cons_cases w [] x h) as (λ _. x ≡ w) [ inl same ↦ sym same | inr none ↦ absurd (Contains-nil x none) ]

-- from a value's literal to that of each lower one
pub lowered : (cs : List (List Lit)) (given : List Lit) (f : ℕ → Lit) (us : List ℕ) → Rising us → ((c : List Lit) → Contains (clauses_between f us) c → Contains cs c)
    → (u x : ℕ) → Contains us u → Contains us x → u ≤ x → Derived cs given (f x) → Derived cs given (f u)
lowered cs given f [] rising listed u x hu hx le d = absurd (Contains-nil u hu)
lowered cs given f (w ∷ []) rising listed u x hu hx le d =
    let low = least w [] rising u hu in
    let is = only w x hx in
    subst (λ (n : ℕ). Derived cs given (f n)) (let e : x ≡ u = omega arith in e) d
lowered cs given f (w ∷ v ∷ us) rising listed u x hu hx le d =
    let first = negated (f v) ∷ f w ∷ [] in
    let rest = clauses_between f (v ∷ us) in
    let inside : (c : List Lit) → Contains rest c → Contains cs c = λ c m. listed c (Contains-there first rest c m) in
    let low = least w (v ∷ us) rising u hu in
    elim (Contains-cons_cases w (v ∷ us) x hx) as (λ _. Derived cs given (f u)) [
      | inl same ↦ subst (λ (n : ℕ). Derived cs given (f n)) (let e : x ≡ u = omega arith in e) d
      | inr later ↦ elim (Contains-cons_cases w (v ∷ us) u hu) as (λ _. Derived cs given (f u)) [
        | inr also ↦ lowered cs given f (v ∷ us) rising.1 inside u x also later le d
        | inl here ↦ subst (λ (n : ℕ). Derived cs given (f n)) here
            (implied cs given (f v) (f w) (listed first (Contains-here first rest)) (lowered cs given f (v ∷ us) rising.1 inside v x (Contains-here v us) later (least v us rising.1 x later) d))
      ]
    ]

-- and from the negation of a value's literal to that of each higher one
pub raised : (cs : List (List Lit)) (given : List Lit) (f : ℕ → Lit) (us : List ℕ) → Rising us → ((c : List Lit) → Contains (clauses_between f us) c → Contains cs c)
    → (u x : ℕ) → Contains us u → Contains us x → u ≤ x → Derived cs given (negated (f u)) → Derived cs given (negated (f x))
raised cs given f [] rising listed u x hu hx le d = absurd (Contains-nil u hu)
raised cs given f (w ∷ []) rising listed u x hu hx le d =
    let low = least w [] rising u hu in
    let is = only w x hx in
    subst (λ (n : ℕ). Derived cs given (negated (f n))) (let e : u ≡ x = omega arith in e) d
raised cs given f (w ∷ v ∷ us) rising listed u x hu hx le d =
    let first = negated (f v) ∷ f w ∷ [] in
    let rest = clauses_between f (v ∷ us) in
    let inside : (c : List Lit) → Contains rest c → Contains cs c = λ c m. listed c (Contains-there first rest c m) in
    let low = least w (v ∷ us) rising u hu in
    elim (Contains-cons_cases w (v ∷ us) x hx) as (λ _. Derived cs given (negated (f x))) [
      | inl same ↦ subst (λ (n : ℕ). Derived cs given (negated (f n))) (let e : u ≡ x = omega arith in e) d
      | inr later ↦ elim (Contains-cons_cases w (v ∷ us) u hu) as (λ _. Derived cs given (negated (f x))) [
        | inr also ↦ raised cs given f (v ∷ us) rising.1 inside u x also later le d
        | inl here ↦ raised cs given f (v ∷ us) rising.1 inside v x (Contains-here v us) later (least v us rising.1 x later)
            (denied cs given (f v) (f w) (listed first (Contains-here first rest)) (subst (λ (n : ℕ). Derived cs given (negated (f n))) (sym here) d))
      ]
    ]
