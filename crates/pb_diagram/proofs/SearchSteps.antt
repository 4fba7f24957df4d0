-- The steps of a search for the nodes of a diagram.
use Rattle.std.proofs.Common.{◌≡◌, ◌≢◌, ◌<◌, ◌≤◌, ◌+◌, ◌-◌, ◌++◌, ◌⊎◌, ℕ, List, [], ◌∷◌, length, get_or, drop, set, replicate, refl, sym, ap, ◌∙◌, subst, arith, inl, inr, zero, suc, length-append, length-set, get_or-set_same, get_or-set_other}
use Rattle.std.specs.Prelude.{Contains, sum}
use Rattle.std.proofs.lemmas.Bool.{cases_lt, cases_eq}
use Rattle.std.proofs.lemmas.List.{drop_more, length-replicate, get_or_past, get_or-replicate, get_or_append_left, get_or_push}
use Rattle.std.proofs.lemmas.List.Sums.{sum_by-drop_more}
use Rattle.pb_base.proofs.Members.{Contains-nil, Contains-here}
use Rattle.pb_diagram.specs.declared.interval.Interval.{Interval}
use Rattle.pb_diagram.specs.Levels.{level, levels_from}
use Rattle.pb_diagram.specs.inner.Nodes.{LiesIn, IsResidue, IsNode}
use Rattle.pb_diagram.specs.laws.LevelFacts.{first_residue, residue_off, residue_on}
use Rattle.pb_diagram.specs.laws.Search.{nodes_at, before_at, IsPartSearched, IsKnown, IsIntervalClosed, IsWanted, IsSearch, IsJoined, IsMissing, IsGrown}
use Rattle.pb_diagram.specs.Sums.{sums}
use Rattle.pb_diagram.proofs.Joins.{JoinedNode, joined_node, apart_from}

-- ---- places

pub before_at_next : (before coefs : List ℕ) (i : ℕ) → i < length coefs → before_at before coefs (i + 1) ≡ get_or coefs i 0 ∷ before_at before coefs i
before_at_next before [] i within = absurd (omega arith)
before_at_next before (a ∷ []) zero within = refl
before_at_next before (a ∷ b ∷ rest) zero within = refl
before_at_next before (a ∷ rest) (suc i) within =
    let shift : suc i + 1 ≡ suc (i + 1) = omega arith in
    ap (before_at before (a ∷ rest)) shift ∙ before_at_next (a ∷ before) rest i (omega arith)

pub levels_from_length : (bound : ℕ) (before coefs : List ℕ) → length (levels_from bound before coefs) ≡ length coefs
levels_from_length bound before [] = refl
levels_from_length bound before (a ∷ rest) = let same = levels_from_length bound (a ∷ before) rest in omega arith

pub levels_from_at : (bound : ℕ) (before coefs : List ℕ) (i : ℕ) → i < length coefs → nodes_at (levels_from bound before coefs) i ≡ level bound (before_at before coefs i) (drop i coefs)
levels_from_at bound before [] i within = absurd (omega arith)
levels_from_at bound before (a ∷ rest) zero within = refl
levels_from_at bound before (a ∷ rest) (suc i) within = levels_from_at bound (a ∷ before) rest i (omega arith)

-- a residue below the sum of what is left has something left
pub some_left : (coefs : List ℕ) (i residue : ℕ) → residue < sum (drop i coefs) → i < length coefs
some_left [] zero residue below = absurd (omega arith)
some_left [] (suc i) residue below = absurd (omega arith)
some_left (a ∷ rest) zero residue below = omega arith
some_left (a ∷ rest) (suc i) residue below = let later = some_left rest i residue below in omega arith

-- ---- the start

pub before_at_first : (before coefs : List ℕ) → before_at before coefs 0 ≡ before
before_at_first before [] = refl
before_at_first before (a ∷ rest) = refl

start_path : (bound : ℕ) (coefs : List ℕ) (known : List (List Interval)) → bound < sum coefs → ((i : ℕ) → i < length coefs → nodes_at known i ≡ []) → (i : ℕ) → i < length (bound ∷ []) → IsWanted bound (before_at [] coefs i) (drop i coefs) (nodes_at known i) (get_or (bound ∷ []) i 0)
start_path bound coefs known below none zero within =
    record {
      reached = subst (λ (l : List ℕ). IsResidue bound l bound) (sym (before_at_first [] coefs)) (record { spent = 0; is_sum = Contains-here 0 []; whole = omega arith });
      below = below;
      missing = λ h among inside. Contains-nil h (subst (λ (l : List Interval). Contains l h) (none 0 (some_left coefs 0 bound below)) among);
    }
start_path bound coefs known below none (suc i) within = absurd (omega arith)

pub search_starts : (bound : ℕ) (coefs : List ℕ) → bound < sum coefs → IsSearch bound coefs (replicate (length coefs) []) (bound ∷ [])
search_starts bound coefs below =
    let known = replicate (length coefs) [] in
    let none : (i : ℕ) → i < length coefs → nodes_at known i ≡ [] = λ i within. get_or-replicate (length coefs) i [] [] within in
    record {
      levels = length-replicate (length coefs) [];
      parts = λ i within. subst (λ (l : List Interval). IsPartSearched bound (before_at [] coefs i) (drop i coefs) l) (sym (none i within)) (record { apart = tt; is_node = λ g h. absurd (Contains-nil g h) });
      closed = λ i within g h. absurd (Contains-nil g (subst (λ (l : List Interval). Contains l g) (none i within) h));
      path = start_path bound coefs known below none;
      root = inl (omega arith);
    }

-- ---- one more residue is wanted

pub search_pushes : (bound : ℕ) (coefs : List ℕ) (known : List (List Interval)) (wanted : List ℕ) (i child : ℕ) → IsSearch bound coefs known wanted → i + 1 ≡ length wanted
    → IsMissing (get_or coefs i 0) (sum (drop (i + 1) coefs)) (nodes_at known (i + 1)) (get_or wanted i 0) child
    → IsSearch bound coefs known (wanted ++ child ∷ [])
search_pushes bound coefs known wanted i child search depth missing =
    let want = search.path i (omega arith) in
    let within = some_left coefs i (get_or wanted i 0) want.below in
    let a = get_or coefs i 0 in
    let r = get_or wanted i 0 in
    let before = a ∷ before_at [] coefs i in
    let all : sum (drop i coefs) ≡ a + sum (drop (i + 1) coefs) = sum_by-drop_more (λ x. x) coefs i 0 within in
    let under = want.below in
    let reached : IsResidue bound before child × (child < sum (drop (i + 1) coefs)) = elim missing.0 as (λ _. IsResidue bound before child × (child < sum (drop (i + 1) coefs))) [
      | inl off ↦ (subst (IsResidue bound before) (sym off.1) (residue_off bound a (before_at [] coefs i) r want.reached), omega (arith, off.0, off.1))
      | inr on ↦ (subst (IsResidue bound before) (sym on.1) (residue_on bound a (before_at [] coefs i) r want.reached on.0), omega (arith, on.0, on.1))
    ] in
    let child_want : IsWanted bound (before_at [] coefs (i + 1)) (drop (i + 1) coefs) (nodes_at known (i + 1)) child =
    record { reached = subst (λ (l : List ℕ). IsResidue bound l child) (sym (before_at_next [] coefs i within)) reached.0; below = reached.1; missing = missing.1 } in
    record {
      levels = search.levels;
      parts = search.parts;
      closed = search.closed;
      path = λ k below.
          elim (cases_lt k (length wanted)) as (λ _. IsWanted bound (before_at [] coefs k) (drop k coefs) (nodes_at known k) (get_or (wanted ++ child ∷ []) k 0)) [
            | inl old ↦ subst (λ (n : ℕ). IsWanted bound (before_at [] coefs k) (drop k coefs) (nodes_at known k) n) (sym (get_or_append_left wanted (child ∷ []) 0 k old)) (search.path k old)
            | inr new ↦
                let place : i + 1 ≡ k = omega (arith, length-append wanted (child ∷ [])) in
                subst (λ (n : ℕ). IsWanted bound (before_at [] coefs k) (drop k coefs) (nodes_at known k) n) (sym (get_or_push wanted child 0 k (omega arith)))
                (subst (λ (n : ℕ). IsWanted bound (before_at [] coefs n) (drop n coefs) (nodes_at known n) child) place child_want)
          ];
      root = inl (omega (arith, length-append wanted (child ∷ [])));
    }

pub search_depth : (bound : ℕ) (coefs : List ℕ) (known : List (List Interval)) (wanted : List ℕ) → IsSearch bound coefs known wanted → length wanted ≤ length coefs
search_depth bound coefs known wanted search =
    elim (cases_lt 0 (length wanted)) as (λ _. length wanted ≤ length coefs) [
      | inl some ↦
          let want = search.path (length wanted - 1) (omega arith) in
          let within = some_left coefs (length wanted - 1) (get_or wanted (length wanted - 1) 0) want.below in
          omega arith
      | inr none ↦ omega arith
    ]

-- ---- one more node is known

at_set : (known : List (List Interval)) (i k : ℕ) (more : List Interval) → i < length known → ((k ≡ i) × (nodes_at (set known i more) k ≡ more)) ⊎ ((k ≢ i) × (nodes_at (set known i more) k ≡ nodes_at known k))
at_set known i k more within =
    elim (cases_eq k i) as (λ _. ((k ≡ i) × (nodes_at (set known i more) k ≡ more)) ⊎ ((k ≢ i) × (nodes_at (set known i more) k ≡ nodes_at known k))) [
      | inl same ↦ inl (same, ap (nodes_at (set known i more)) same ∙ get_or-set_same known i more [] within)
      | inr other ↦ inr (other, get_or-set_other known i k more [] other)
    ]

-- each level has what it had
pub at_set_keeps : (known : List (List Interval)) (i : ℕ) (g : Interval) (more : List Interval) → i < length known → IsGrown (nodes_at known i) g more → (k : ℕ) (h : Interval) → Contains (nodes_at known k) h → Contains (nodes_at (set known i more) k) h
at_set_keeps known i g more within grown k h among =
    elim (at_set known i k more within) as (λ _. Contains (nodes_at (set known i more) k) h) [
      | inl here ↦ subst (λ (l : List Interval). Contains l h) (sym here.1) (grown.keeps h (subst (λ (n : ℕ). Contains (nodes_at known n) h) here.0 among))
      | inr other ↦ subst (λ (l : List Interval). Contains l h) (sym other.1) among
    ]

still_closed : (a : ℕ) (rest : List ℕ) (next more : List Interval) (g : Interval) → ((h : Interval) → Contains next h → Contains more h) → IsIntervalClosed a rest next g → IsIntervalClosed a rest more g
still_closed a rest next more g keeps closed = record {
  off = λ inner. let found = closed.off inner in (found.0, keeps found.0 found.1, found.2);
  on = λ room. let found = closed.on room in (found.0, keeps found.0 found.1, found.2);
}

-- the nodes known of the next level, which are none at the last
pub next_part : (bound : ℕ) (coefs : List ℕ) (known : List (List Interval)) (wanted : List ℕ) → IsSearch bound coefs known wanted → (i : ℕ) → i < length coefs → IsPartSearched bound (get_or coefs i 0 ∷ before_at [] coefs i) (drop (i + 1) coefs) (nodes_at known (i + 1))
next_part bound coefs known wanted search i within =
    let before = get_or coefs i 0 ∷ before_at [] coefs i in
    let rest = drop (i + 1) coefs in
    let same_length = search.levels in
    elim (cases_lt (i + 1) (length coefs)) as (λ _. IsPartSearched bound before rest (nodes_at known (i + 1))) [
      | inl inner ↦ subst (λ (l : List ℕ). IsPartSearched bound l rest (nodes_at known (i + 1))) (before_at_next [] coefs i within) (search.parts (i + 1) inner)
      | inr last ↦ subst (λ (l : List Interval). IsPartSearched bound before rest l) (sym (get_or_past known (i + 1) [] (omega arith))) (record { apart = tt; is_node = λ g h. absurd (Contains-nil g h) })
    ]

-- the node of a wanted residue, which is made of its children
module _ (bound : ℕ) (coefs : List ℕ) (known : List (List Interval)) (wanted : List ℕ) (i residue : ℕ) (g : Interval) (search : IsSearch bound coefs known wanted) (below : i < length wanted) (top : residue ≡ get_or wanted i 0)
    (joined : IsJoined (get_or coefs i 0) (sum (drop (i + 1) coefs)) (nodes_at known (i + 1)) residue g) where
  want : IsWanted bound (before_at [] coefs i) (drop i coefs) (nodes_at known i) residue
  want = subst (λ (n : ℕ). IsWanted bound (before_at [] coefs i) (drop i coefs) (nodes_at known i) n) (sym top) (search.path i below)

  within : i < length coefs
  within = some_left coefs i residue want.below

  made : JoinedNode bound (get_or coefs i 0) (before_at [] coefs i) (drop (i + 1) coefs) (nodes_at known (i + 1)) residue g
  made =
      joined_node bound (get_or coefs i 0) (before_at [] coefs i) (drop (i + 1) coefs) (nodes_at known (i + 1)) residue g (next_part bound coefs known wanted search i within) want.reached
      (subst (λ (l : List ℕ). residue < sum l) (drop_more coefs i 0 within) want.below) joined

  node : IsNode bound (before_at [] coefs i) (drop i coefs) g
  node = subst (λ (l : List ℕ). IsNode bound (before_at [] coefs i) l g) (sym (drop_more coefs i 0 within)) made.node

  -- it rises, and stands apart from the nodes of the level
  pub joined_apart : (g.low < g.top) × ((h : Interval) → Contains (nodes_at known i) h → (h.top ≤ g.low) ⊎ (g.top ≤ h.low))
  joined_apart = (node.interval.rises, (λ h among. apart_from (sums (drop i coefs)) g h residue node.interval ((search.parts i within).is_node h among).interval made.inside (want.missing h among)))

  pub search_inserts : (less : List ℕ) (more : List Interval) → wanted ≡ less ++ residue ∷ [] → i ≡ length less → IsGrown (nodes_at known i) g more → IsSearch bound coefs (set known i more) less
  search_inserts less more split place grown =
      let count = ap length split ∙ length-append less (residue ∷ []) in
      let same_length = search.levels in
      let in_known : i < length known = omega (arith, within) in
      let keeps = at_set_keeps known i g more in_known grown in
      let now = set known i more in
      record {
        levels = length-set known i more ∙ search.levels;
        parts = λ k below.
            elim (at_set known i k more in_known) as (λ _. IsPartSearched bound (before_at [] coefs k) (drop k coefs) (nodes_at now k)) [
              | inl at ↦ subst (λ (l : List Interval). IsPartSearched bound (before_at [] coefs k) (drop k coefs) l) (sym at.1)
                  (subst (λ (n : ℕ). IsPartSearched bound (before_at [] coefs n) (drop n coefs) more) (sym at.0) (record {
                    apart = grown.apart;
                    is_node = λ h among.
                        elim (grown.cases h among) as (λ _. IsNode bound (before_at [] coefs i) (drop i coefs) h) [
                          | inl e ↦ subst (λ (j : Interval). IsNode bound (before_at [] coefs i) (drop i coefs) j) e node
                          | inr old ↦ (search.parts i within).is_node h old
                        ];
                  }))
              | inr other ↦ subst (λ (l : List Interval). IsPartSearched bound (before_at [] coefs k) (drop k coefs) l) (sym other.1) (search.parts k below)
            ];
        closed = λ k below h among.
            let still = still_closed (get_or coefs k 0) (drop (k + 1) coefs) (nodes_at known (k + 1)) (nodes_at now (k + 1)) h (keeps (k + 1)) in
            elim (at_set known i k more in_known) as (λ _. IsIntervalClosed (get_or coefs k 0) (drop (k + 1) coefs) (nodes_at now (k + 1)) h) [
              | inl at ↦ elim (grown.cases h (subst (λ (l : List Interval). Contains l h) at.1 among)) as (λ _. IsIntervalClosed (get_or coefs k 0) (drop (k + 1) coefs) (nodes_at now (k + 1)) h) [
                | inl e ↦ still (subst (λ (n : ℕ). IsIntervalClosed (get_or coefs n 0) (drop (n + 1) coefs) (nodes_at known (n + 1)) h) (sym at.0) (subst (λ (j : Interval). IsIntervalClosed (get_or coefs i 0) (drop (i + 1) coefs) (nodes_at known (i + 1)) j) e made.closed))
                | inr old ↦ still (search.closed k below h (subst (λ (n : ℕ). Contains (nodes_at known n) h) (sym at.0) old))
              ]
              | inr other ↦ still (search.closed k below h (subst (λ (l : List Interval). Contains l h) other.1 among))
            ];
        path = λ k below.
            let old = search.path k (omega arith) in
            let other : k ≢ i = omega arith in
            let same : get_or wanted k 0 ≡ get_or less k 0 = ap (λ (l : List ℕ). get_or l k 0) split ∙ get_or_append_left less (residue ∷ []) 0 k below in
            subst (λ (n : ℕ). IsWanted bound (before_at [] coefs k) (drop k coefs) (nodes_at now k) n) same
            (subst (λ (l : List Interval). IsWanted bound (before_at [] coefs k) (drop k coefs) l (get_or wanted k 0)) (sym (get_or-set_other known i k more [] other)) old);
        root = elim (cases_lt 0 (length less)) as (λ _. (0 < length less) ⊎ IsKnown (nodes_at now 0) bound) [
          | inl some ↦ inl some
          | inr none ↦
              let at_zero : i ≡ 0 = omega arith in
              let nothing : before_at [] coefs i ≡ [] = ap (before_at [] coefs) at_zero ∙ before_at_first [] coefs in
              let start : residue ≡ bound = first_residue bound residue (subst (λ (l : List ℕ). IsResidue bound l residue) nothing want.reached) in
              let stands : Contains (nodes_at now 0) g = subst (λ (n : ℕ). Contains (nodes_at now n) g) at_zero (subst (λ (l : List Interval). Contains l g) (sym (get_or-set_same known i more [] in_known)) grown.here) in
              inr (g, stands, subst (λ (n : ℕ). LiesIn n g) start made.inside)
        ];
      }
