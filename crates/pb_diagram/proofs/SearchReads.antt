-- What the code of a search reads and changes.
use Rattle.std.proofs.Common.{◌≡◌, ◌<◌, ◌≤◌, ◌+◌, ◌-◌, ◌^◌, ◌++◌, ◌⊎◌, ℕ, List, [], ◌∷◌, length, get_or, drop, take, set, replicate, refl, sym, ap, ◌∙◌, subst, arith, inl, inr, true, length-append, zero, suc}
use Rattle.std.specs.Prelude.{Contains, sum, Option, None, IfSome}
use Rattle.std.proofs.lemmas.List.{get_or-map, length-map, get_or_default, take_all, take_more}
use Rattle.std.proofs.lemmas.List.Sums.{sum-map, sum_by-cons, sum_by-drop_more, sum_by-set, sum_by-take-drop}
use Rattle.std.proofs.lemmas.Bool.{both_ways}
use Rattle.pb_norm.specs.BoundedSums.{BoundedSum}
use Rattle.std.specs.Int.RustNames.{unsigned_abs}
use Rattle.pb_base.specs.declared.literal.Term.{Term}
use Rattle.pb_norm.specs.Constraints.{Weighted, weight, weighted, weights}
use Rattle.pb_diagram.specs.declared.interval.Interval.{Interval}
use Rattle.pb_diagram.specs.declared.search.Top.{Top}
use Rattle.pb_diagram.specs.Clauses.{node_count}
use Rattle.pb_diagram.specs.Levels.{coefs_of, levels_of}
use Rattle.pb_diagram.specs.laws.Search.{nodes_at, before_at, IsPartSearched, IsSearch, IsOff, IsJoined, IsMissing, IsGrown, IsTop, IsSearching, IsSideAt, IsKept, Advanced}
use Rattle.pb_diagram.specs.laws.SumFacts.{sums-le}
use Rattle.pb_diagram.proofs.SearchSteps.{some_left, search_depth, search_starts, search_pushes, next_part, search_inserts, joined_apart}
use Rattle.pb_diagram.proofs.SearchEnds.{search_ends, search_count}

next_within : (bound : ℕ) (before rest : List ℕ) (nodes : List Interval) → IsPartSearched bound before rest nodes → (h : Interval) → Contains nodes h → (h.low ≤ sum rest) × (h.top ≤ sum rest)
next_within bound before rest nodes part h among =
    let interval = (part.is_node h among).interval in
    (sums-le rest h.low interval.low_in, sums-le rest h.top interval.top_in)

pub top_is : (c : BoundedSum) (known : List (List Interval)) (wanted : List ℕ) (left : ℕ) (sides : List (Option Interval)) (last : Option Interval) (top : Top) → IsSearching c known wanted left → IsKept c known wanted sides last → sum (coefs_of c.terms) < 2 ^ 100
    → top.off ≡ get_or sides top.place None → top.last ≡ last → top.place + 1 ≡ length wanted → top.residue ≡ get_or wanted top.place 0 → (top.place < length c.terms → top.coef ≡ get_or (coefs_of c.terms) top.place 0) → IsTop c known wanted left top
top_is c known wanted left sides last top searching kept small off_at last_at depth residue_is coef_at =
    let coefs = coefs_of c.terms in
    let search = searching.state in
    let i = top.place in
    let within = some_left coefs i (get_or wanted i 0) (search.path i (omega arith)).below in
    let same_length = search.levels in
    let terms : length coefs ≡ length c.terms = length-map c.terms (λ t. t.coef) in
    let here : sum (drop i coefs) ≡ get_or coefs i 0 + sum (drop (i + 1) coefs) = sum_by-drop_more (λ x. x) coefs i 0 within in
    let most : sum (drop i coefs) ≤ sum coefs = omega (arith, sum_by-take-drop (λ x. x) coefs i) in
    let next = next_part c.bound coefs known wanted search i within in
    let coef_is = coef_at (omega arith) in
    let rest : sum (drop (i + 1) coefs) ≡ left = ap (λ (n : ℕ). sum (drop n coefs)) depth ∙ sym searching.left_is in
    record {
      depth = depth;
      residue_is = residue_is;
      coef_is = coef_is;
      within = omega arith;
      seen = record {
        apart = next.apart;
        fits = omega arith;
        bounded = omega arith;
        within = λ h among. subst (λ (n : ℕ). (h.low ≤ n) × (h.top ≤ n)) rest (next_within c.bound (get_or coefs i 0 ∷ before_at [] coefs i) (drop (i + 1) coefs) (nodes_at known (i + 1)) next h among);
        kept =
            let side = subst (λ (o : Option Interval). IsSideAt c known wanted i o) (sym off_at) (kept.offs i (omega arith)) in
            subst (λ (r : ℕ). IfSome top.off (IsOff top.coef left (nodes_at known (i + 1)) r)) (sym residue_is)
            (subst (λ (n : ℕ). IfSome top.off (IsOff top.coef n (nodes_at known (i + 1)) (get_or wanted i 0))) rest
            (subst (λ (a : ℕ). IfSome top.off (IsOff a (sum (drop (i + 1) coefs)) (nodes_at known (i + 1)) (get_or wanted i 0))) (sym coef_is) side));
        among = subst (λ (o : Option Interval). IfSome o (Contains (nodes_at known (i + 1)))) (sym last_at) (subst (λ (n : ℕ). IfSome last (Contains (nodes_at known n))) (sym depth) kept.among);
      };
    }

module _ (c : BoundedSum) (known : List (List Interval)) (wanted : List ℕ) (left : ℕ) (top : Top) (searching : IsSearching c known wanted left) (at : IsTop c known wanted left top) where
  abbrev coefs : List ℕ
  coefs = coefs_of c.terms

  rest : left ≡ sum (drop (top.place + 1) (coefs_of c.terms))
  rest = searching.left_is ∙ ap (λ (n : ℕ). sum (drop n coefs)) (sym at.depth)

  -- what is said of the last residue, by the lists
  by_lists : (P : ℕ → ℕ → ℕ → Type 0) → P top.coef left top.residue → P (get_or (coefs_of c.terms) top.place 0) (sum (drop (top.place + 1) (coefs_of c.terms))) (get_or wanted top.place 0)
  by_lists P h =
      subst (λ (a : ℕ). P a (sum (drop (top.place + 1) coefs)) (get_or wanted top.place 0)) at.coef_is
      (subst (λ (n : ℕ). P top.coef n (get_or wanted top.place 0)) rest (subst (λ (r : ℕ). P top.coef left r) at.residue_is h))

  -- the next level has a coefficient, where a child's residue is wanted there
  pub child_level : (child : ℕ) → IsMissing top.coef left (nodes_at known (top.place + 1)) top.residue child
      → (top.place + 1 < length c.terms) × (left ≡ get_or (coefs_of c.terms) (top.place + 1) 0 + sum (drop (length wanted + 1) (coefs_of c.terms)))
  child_level child missing =
      let i = top.place in
      let depth = at.depth in
      let residue_is = at.residue_is in
      let coef_is = at.coef_is in
      let under = (searching.state.path i (omega arith)).below in
      let terms : length coefs ≡ length c.terms = length-map c.terms (λ t. t.coef) in
      let here : sum (drop i coefs) ≡ get_or coefs i 0 + sum (drop (i + 1) coefs) = sum_by-drop_more (λ x. x) coefs i 0 (some_left coefs i (get_or wanted i 0) under) in
      let same_left = rest in
      let some : 0 < left = elim missing.0 as (λ _. 0 < left) [
        | inl off ↦ omega (arith, off.0)
        | inr on ↦ omega (arith, on.0)
      ] in
      let next = some_left coefs (i + 1) 0 (omega arith) in
      let there : sum (drop (i + 1) coefs) ≡ get_or coefs (i + 1) 0 + sum (drop (i + 1 + 1) coefs) = sum_by-drop_more (λ x. x) coefs (i + 1) 0 next in
      let same : sum (drop (i + 1 + 1) coefs) ≡ sum (drop (length wanted + 1) coefs) = ap (λ (n : ℕ). sum (drop (n + 1) coefs)) depth in
      (omega arith, omega arith)

  pub wants : (less child : ℕ) → IsMissing top.coef left (nodes_at known (top.place + 1)) top.residue child → less + get_or (coefs_of c.terms) (top.place + 1) 0 ≡ left → IsSearching c known (wanted ++ child ∷ []) less
  wants less child missing less_is =
      let exact = by_lists (λ a n r. IsMissing a n (nodes_at known (top.place + 1)) r child) missing in
      let longer : length wanted + 1 ≡ length (wanted ++ child ∷ []) = omega (arith, length-append wanted (child ∷ [])) in
      record {
        state = search_pushes c.bound coefs known wanted top.place child searching.state at.depth exact;
        left_is = (let now : less ≡ sum (drop (length wanted + 1) coefs) = omega (arith, (child_level child missing).1) in now) ∙ ap (λ (n : ℕ). sum (drop n coefs)) longer;
      }

  -- what the last residue's false child says, by the levels' places
  pub side_at : (side : Option Interval) → IfSome side (IsOff top.coef left (nodes_at known (top.place + 1)) top.residue) → IsSideAt c known wanted top.place side
  side_at side is = by_lists (λ a n r. IfSome side (IsOff a n (nodes_at known (top.place + 1)) r)) is

  module _ (g : Interval) (joined : IsJoined top.coef left (nodes_at known (top.place + 1)) top.residue g) where
    exact : IsJoined (get_or (coefs_of c.terms) top.place 0) (sum (drop (top.place + 1) (coefs_of c.terms))) (nodes_at known (top.place + 1)) top.residue g
    exact = by_lists (λ a n r. IsJoined a n (nodes_at known (top.place + 1)) top.residue g) joined

    -- a joined node rises, and stands apart from the nodes of its level
    pub joined_stands : (g.low < g.top) × ((h : Interval) → Contains (nodes_at known top.place) h → (h.top ≤ g.low) ⊎ (g.top ≤ h.low))
    joined_stands = joined_apart c.bound coefs known wanted top.place top.residue g searching.state (omega (arith, at.depth)) at.residue_is exact

    pub joins : (less : List ℕ) (more : List Interval) → wanted ≡ less ++ top.residue ∷ [] → IsGrown (nodes_at known top.place) g more → IsSearching c (set known top.place more) less (left + top.coef)
    joins less more split grown =
        let i = top.place in
        let place : i ≡ length less = omega (arith, at.depth, ap length split, length-append less (top.residue ∷ [])) in
        let within : i < length coefs = omega (arith, at.within, length-map c.terms (λ t. t.coef)) in
        let here : sum (drop i coefs) ≡ get_or coefs i 0 + sum (drop (i + 1) coefs) = sum_by-drop_more (λ x. x) coefs i 0 within in
        let now : left + top.coef ≡ sum (drop i coefs) = omega (arith, here, rest, at.coef_is) in
        record {
          state = search_inserts c.bound coefs known wanted i top.residue g searching.state (omega (arith, at.depth)) at.residue_is exact less more split place grown;
          left_is = now ∙ ap (λ (n : ℕ). sum (drop n coefs)) place;
        }

-- the coefficient that is read of the terms
pub coef_read : (c : BoundedSum) (terms : List Term) (i : ℕ) (t : Term) → weights terms ≡ c.terms → i < length c.terms → t ≡ get_or terms i t → unsigned_abs t.coef ≡ get_or (coefs_of c.terms) i 0
coef_read c terms i t same within is =
    let long = ap length same in
    let count = length-map terms weighted in
    ap (λ (u : Term). unsigned_abs u.coef) is
    ∙ sym (ap (λ (u : Weighted). u.coef) (get_or-map weighted terms i t (weighted t) (omega arith)))
    ∙ sym (get_or-map (λ (u : Weighted). u.coef) (weights terms) i (weighted t) 0 (omega arith))
    ∙ ap (λ (ts : List Weighted). get_or (coefs_of ts) i 0) same

-- the level that is read of the levels
pub row_read : (known : List (List Interval)) (place : ℕ) (now : List Interval) → now ≡ get_or known place now → place < length known → now ≡ nodes_at known place
row_read known place now read within = read ∙ get_or_default known place now [] within

-- what a pop leaves before the last residue
pub popped : (wanted less : List ℕ) (place residue : ℕ) → less ≡ take (length wanted - 1) wanted → place + 1 ≡ length wanted → residue ≡ get_or wanted place 0 → wanted ≡ less ++ residue ∷ []
popped wanted less place residue fewer depth residue_is =
    let last : length wanted - 1 ≡ place = omega arith in
    let before : less ≡ take place wanted = fewer ∙ ap (λ (n : ℕ). take n wanted) last in
    sym (take_all (place + 1) wanted (omega arith)) ∙ take_more wanted place 0 (omega arith) ∙ ap (λ (r : ℕ). take place wanted ++ r ∷ []) (sym residue_is) ∙ ap (λ (l : List ℕ). l ++ residue ∷ []) (sym before)

-- one more node is known, and one residue less is wanted
pub advances : (known : List (List Interval)) (wanted less : List ℕ) (place residue : ℕ) (g : Interval) (more : List Interval) → place < length known → wanted ≡ less ++ residue ∷ [] → IsGrown (nodes_at known place) g more → Advanced true known (set known place more) wanted less
advances known wanted less place residue g more within split grown =
    let count = sum_by-set (length {A = Interval}) known place more [] within in
    let longer = grown.longer in
    record {
      found = λ is. (omega arith, omega (arith, ap length split, length-append less (residue ∷ [])));
      wants = λ is_not. absurd (both_ways true is_not refl);
    }

pub none_known : (n : ℕ) → node_count (replicate n []) ≡ 0
none_known zero = refl
none_known (suc n) = let less = none_known n in omega (arith, sum_by-cons (length {A = Interval}) [] (replicate n []))

pub some_terms : (terms : List Term) (ts : List Weighted) (bound : ℕ) → weights terms ≡ ts → bound < weight ts → 0 < length terms
some_terms [] ts bound same above = let none = ap weight same in absurd (omega arith)
some_terms (t ∷ terms) ts bound same above = omega arith

pub starts : (c : BoundedSum) (known : List (List Interval)) (left : ℕ) (terms : List Term) (t : Term) → weights terms ≡ c.terms → t ≡ get_or terms 0 t → c.bound < weight c.terms → known ≡ replicate (length c.terms) [] → left ≡ weight c.terms - unsigned_abs t.coef
    → IsSearching c known (c.bound ∷ []) left
starts c known left terms t same is above none left_is =
    let coefs = coefs_of c.terms in
    let count : length coefs ≡ length c.terms = length-map c.terms (λ t. t.coef) in
    let whole : sum coefs ≡ weight c.terms = sum-map (λ (t : Weighted). t.coef) c.terms in
    let over : c.bound < sum coefs = omega arith in
    let some = some_left coefs 0 c.bound over in
    let first = coef_read c terms 0 t same (omega arith) is in
    let here : sum coefs ≡ get_or coefs 0 0 + sum (drop 1 coefs) = sum_by-drop_more (λ x. x) coefs 0 0 some in
    record {
      state = subst (λ (l : List (List Interval)). IsSearch c.bound coefs l (c.bound ∷ [])) (ap (λ (n : ℕ). replicate n []) count ∙ sym none) (search_starts c.bound coefs over);
      left_is = omega arith;
    }

-- the search has come to its end
pub ended : (c : BoundedSum) (known : List (List Interval)) (wanted : List ℕ) (left : ℕ) → IsSearching c known wanted left → length wanted ≡ 0 → known ≡ levels_of c
ended c known [] left searching none = search_ends c.bound (coefs_of c.terms) known searching.state
ended c known (r ∷ wanted) left searching none = absurd (omega arith)

-- not more residues are wanted than there are levels
pub deep : (c : BoundedSum) (known : List (List Interval)) (wanted : List ℕ) (left : ℕ) → IsSearching c known wanted left → length wanted ≤ length c.terms
deep c known wanted left searching = omega (arith, search_depth c.bound (coefs_of c.terms) known wanted searching.state, length-map c.terms (λ t. t.coef))

pub counted : (c : BoundedSum) (known : List (List Interval)) (wanted : List ℕ) (left : ℕ) → IsSearching c known wanted left → node_count known ≤ node_count (levels_of c)
counted c known wanted left searching = search_count c.bound (coefs_of c.terms) known wanted searching.state
