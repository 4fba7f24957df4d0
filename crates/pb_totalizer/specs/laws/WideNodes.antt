-- The windows of a block and the clauses by them.
use Rattle.std.proofs.Common.{◌≡◌, ◌≤◌, ◌<◌, ◌+◌, ◌-◌, ◌*◌, ◌^◌, ◌++◌, inl, inr, ℕ, zero, suc, true, List, [], ◌∷◌, get_or, refl, ap, sym, ◌∙◌, subst, arith}
use Rattle.std.specs.Prelude.{All, map, sum_by}
use Rattle.std.proofs.lemmas.List.{map-append}
use Rattle.std.proofs.lemmas.List.Elements.{All-nil, All-cons, All-head, All-tail, All-append, All-map, All-weaker}
use Rattle.std.proofs.lemmas.List.Kept.{AllPairs-cons}
use Rattle.pb_base.specs.declared.literal.Lit.{Lit}
use Rattle.pb_base.specs.Literals.{negated}
use Rattle.pb_base.proofs.Pairs.{AllPairs-nil}
use Rattle.pb_norm.specs.Addition.{sum_of}
use Rattle.pb_norm.specs.Constraints.{Weighted, Constraint, AllPositive, weight}
use Rattle.pb_norm.specs.Reduction.{opposite}
use Rattle.pb_norm.proofs.AdditionSizes.{weight-cons}
use Rattle.pb_steps.specs.Database.{Database}
use Rattle.pb_derive.specs.Forms.{AreApartTerms, IsFormOf}
use Rattle.pb_derive.specs.Later.{IsNumbered, Knows}
use Rattle.pb_derive.specs.Ones.{unit_of, ones}
use Rattle.pb_derive.specs.Reifications.{spare, reverse_of}
use Rattle.pb_derive.specs.inner.Ran.{StepGives}
use Rattle.pb_derive.proofs.Appends.{weight-append}
use Rattle.pb_derive.proofs.ClauseClaims.{claim_of}
use Rattle.pb_derive.proofs.Expressions.{known, plus, over as divide, expression_adds}
use Rattle.pb_derive.proofs.FormOperations.{form_as}
use Rattle.pb_derive.proofs.Lines.{Adds}
use Rattle.pb_derive.proofs.Opposites.{weight-opposite, opposite-append}
use Rattle.pb_derive.proofs.UnaryRows.{Other, weighing, reached, places_of, places-weight}
use Rattle.pb_family.specs.Fresh.{positive_of}
use Rattle.pb_tree.specs.Pairs.{unless_none}
use Rattle.pb_tree.specs.Scheme.{fresh_of, output}
use Rattle.pb_tree.specs.Tree.{Tree, empty, leaf, node}
use Rattle.pb_tree.proofs.Extending.{IsNamed, output_named}
use Rattle.pb_tree.proofs.TreeParts.{IsOver}
use Rattle.pb_totalizer.specs.Exact.{outputs_of}
use Rattle.pb_totalizer.specs.OutputBlocks.{block_end}
use Rattle.pb_totalizer.specs.OutputSteps.{outputs, inputs, input_count, before, pair_step}
use Rattle.pb_totalizer.specs.OutputWindows.{last_of, blocks_of, wide_others, wide_narrows, block_with, window_step}
use Rattle.pb_totalizer.specs.Totalizer.{totalizer}
use Rattle.pb_totalizer.specs.laws.BlockForms.{block_of, block-apart, block-positive, block-within}
use Rattle.pb_totalizer.specs.laws.BlockTold.{block_terms, NarrowsKnown}
use Rattle.pb_totalizer.specs.laws.CountForms.{both-apart}
use Rattle.pb_totalizer.specs.laws.OutputAdds.{Below, Named}
use Rattle.pb_totalizer.specs.laws.OutputClaims.{claim_gives}
use Rattle.pb_totalizer.specs.laws.OutputForms.{Some, meaning_at}
use Rattle.pb_totalizer.specs.laws.OutputParts.{IsFull, some_outputs, outputs-weight, outputs-apart, outputs-named, ones-some, names_apart, named-low, left_below, right_below}
use Rattle.pb_totalizer.specs.laws.TotalizerLaws.{node_length, values_length, value_from, totalizer_lawful}
use Rattle.pb_totalizer.specs.laws.WindowForms.{IsSide, opposite_side, crossed_opposite, three-apart, three-positive, both_narrowed, single, single-weight, clause_left}

-- ---- terms of a part: over its outputs, and each variable once

pub record IsOf (bound : ℕ) (t : Tree) (first : ℕ) (xs : List Weighted) : Type 0 where
  pub apart : AreApartTerms xs
  pub positive : AllPositive xs
  pub named : All (λ u. IsNamed (totalizer bound) t first u.lit.var) xs

pub outputs-of : (bound : ℕ) (t : Tree) (first : ℕ) → IsOf bound t first (ones (outputs bound t first))
outputs-of bound t first = record { apart = outputs-apart bound t first; positive = ones-some (outputs bound t first); named = outputs-named bound t first }

pub block-of-part : (bound : ℕ) (t : Tree) (first k : ℕ) → IsFull t → k < blocks_of bound t → IsOf bound t first (block_terms bound t first k)
block-of-part bound empty first k full within = absurd full
block-of-part bound (leaf t) first k full within =
    let one : Weighted = weighing 1 t.lit in
    record {
      apart = AllPairs-cons Other one [] (All-nil (Other one)) (AllPairs-nil Other);
      positive = All-cons Some one [] (omega arith) (All-nil Some);
      named = All-cons (λ (u : Weighted). IsNamed (totalizer bound) (leaf t) first u.lit.var) one [] (inl (t, refl, refl)) (All-nil (λ (u : Weighted). IsNamed (totalizer bound) (leaf t) first u.lit.var));
    }
block-of-part bound (node l r) first k full within =
    let p : ℕ = first + before bound l r in
    let n : ℕ = block_end (last_of bound (node l r)) (32 * k) - 32 * k in
    record {
      apart = block-apart p (32 * k) n;
      positive = block-positive p (32 * k) n;
      named = All-weaker (λ (t : Weighted). (p + 32 * k ≤ t.lit.var) × (t.lit.var < p + suc (32 * k) + n)) (λ (u : Weighted). IsNamed (totalizer bound) (node l r) first u.lit.var)
          (λ u h. inr (omega (arith, h.0), omega (arith, h.1, within, some_outputs bound (node l r) full))) (block_of p (32 * k) n) (block-within p (32 * k) n);
    }

pub block-weight : (bound : ℕ) (t : Tree) (first k : ℕ) → IsFull t → k < blocks_of bound t → weight (block_terms bound t first k) ≡ suc (block_end (last_of bound t) (32 * k))
block-weight bound empty first k full within = absurd full
block-weight bound (leaf t) first k full within = omega (arith, weight-cons (weighing 1 t.lit) [], within)
block-weight bound (node l r) first k full within =
    let p : ℕ = first + before bound l r in
    let n : ℕ = block_end (last_of bound (node l r)) (32 * k) - 32 * k in
    omega (arith, weight-cons (reached (suc (32 * k)) (p + 32 * k)) (places_of true 1 (p + suc (32 * k)) n), places-weight true 1 (p + suc (32 * k)) n, within)

pub single-of : (bound : ℕ) (t : Tree) (first i : ℕ) → i ≤ outputs_of bound t → IsOf bound t first (single (output (totalizer bound) t first) i)
single-of bound t first zero le = record { apart = AllPairs-nil Other; positive = All-nil Some; named = All-nil (λ (u : Weighted). IsNamed (totalizer bound) t first u.lit.var) }
single-of bound t first (suc i) le =
    let one : Weighted = weighing (suc i) (output (totalizer bound) t first (suc i)) in
    record {
      apart = AllPairs-cons Other one [] (All-nil (Other one)) (AllPairs-nil Other);
      positive = All-cons Some one [] (omega arith) (All-nil Some);
      named = All-cons (λ (u : Weighted). IsNamed (totalizer bound) t first u.lit.var) one [] (output_named (totalizer bound) _ (totalizer_lawful bound) t first (suc i) (value_from bound t (suc i) (omega arith) le)) (All-nil (λ (u : Weighted). IsNamed (totalizer bound) t first u.lit.var));
    }

-- the same as a literal of a clause
pub units-of : (bound : ℕ) (t : Tree) (first i : ℕ) → i ≤ outputs_of bound t → IsOf bound t first (ones (unless_none (output (totalizer bound) t first) i))
units-of bound t first zero le = record { apart = AllPairs-nil Other; positive = All-nil Some; named = All-nil (λ (u : Weighted). IsNamed (totalizer bound) t first u.lit.var) }
units-of bound t first (suc i) le =
    let one : Weighted = unit_of (negated (output (totalizer bound) t first (suc i))) in
    record {
      apart = AllPairs-cons Other one [] (All-nil (Other one)) (AllPairs-nil Other);
      positive = All-cons Some one [] (omega arith) (All-nil Some);
      named = All-cons (λ (u : Weighted). IsNamed (totalizer bound) t first u.lit.var) one [] (output_named (totalizer bound) _ (totalizer_lawful bound) t first (suc i) (value_from bound t (suc i) (omega arith) le)) (All-nil (λ (u : Weighted). IsNamed (totalizer bound) t first u.lit.var));
    }

-- what holds of the terms' variables holds of the literals'
pub lits-from : (top : ℕ) (ls : List Lit) → All (λ t. t.lit.var < top) (ones ls) → All (λ l. l.var < top) ls
lits-from top [] h = All-nil (λ (l : Lit). l.var < top)
lits-from top (l ∷ ls) h = All-cons (λ (l : Lit). l.var < top) l ls (All-head (λ (t : Weighted). t.lit.var < top) (unit_of l) (ones ls) h) (lits-from top ls (All-tail (λ (t : Weighted). t.lit.var < top) (unit_of l) (ones ls) h))

-- ---- what a node's block needs

pub record NodeKnown (db : Database) (top bound : ℕ) (l r : Tree) (first id next other : ℕ) : Type 0 where
  pub vars : top ≤ db.vars + 1
  pub numbered : IsNumbered db
  pub reverse : (j : ℕ) → j < outputs_of bound (node l r) → Knows db (id + 2 * before bound l r + 2 * j + 1) (reverse_of (meaning_at (first + before bound l r) (inputs bound l r first) j))
  pub lefts : (i : ℕ) → i ≤ outputs_of bound l → NarrowsKnown db (wide_others bound l next + i) (block_terms bound l first (block_with i)) (single (output (totalizer bound) l first) i)
  pub rights : (j : ℕ) → j ≤ outputs_of bound r → NarrowsKnown db (wide_others bound r other + j) (block_terms bound r (first + fresh_of (totalizer bound) l) (block_with j)) (single (output (totalizer bound) r (first + fresh_of (totalizer bound) l)) j)
  pub left_narrows : (k : ℕ) → k < blocks_of bound l → NarrowsKnown db (wide_narrows bound l next + k) (ones (outputs bound l first)) (block_terms bound l first k)
  pub right_narrows : (k : ℕ) → k < blocks_of bound r → NarrowsKnown db (wide_narrows bound r other + k) (ones (outputs bound r (first + fresh_of (totalizer bound) l))) (block_terms bound r (first + fresh_of (totalizer bound) l) k)

module _ (top bound : ℕ) (l r : Tree) (low first id next other : ℕ) (full : IsFull (node l r)) (few : bound + 1 ≤ 2 ^ 31) (over : IsOver (totalizer bound) low (node l r)) (below : low ≤ first) (under : first + fresh_of (totalizer bound) (node l r) ≤ top) where
  abbrev middle : ℕ
  middle = first + fresh_of (totalizer bound) l

  abbrev p : ℕ
  p = first + before bound l r

  abbrev row : ℕ
  row = id + 2 * before bound l r

  abbrev m : ℕ
  m = input_count bound l r

  abbrev ls : List Weighted
  ls = ones (outputs bound l first)

  abbrev rs : List Weighted
  rs = ones (outputs bound r middle)

  abbrev f : ℕ → Lit
  f = output (totalizer bound) l first

  abbrev g : ℕ → Lit
  g = output (totalizer bound) r middle

  crossed : (xs ys : List Weighted) → IsOf bound l first xs → IsOf bound r middle ys → All (λ t. All (Other t) ys) xs
  crossed xs ys hx hy =
      All-weaker (λ (t : Weighted). IsNamed (totalizer bound) l first t.lit.var) (λ (t : Weighted). All (Other t) ys) (λ t named.
      All-weaker (λ (u : Weighted). IsNamed (totalizer bound) r middle u.lit.var) (Other t) (λ u also. names_apart bound l r low first below over t.lit.var u.lit.var named also) ys hy.named) xs hx.named

  left-low : (xs : List Weighted) → IsOf bound l first xs → All (λ t. t.lit.var < p) xs
  left-low xs h = All-weaker (λ (t : Weighted). IsNamed (totalizer bound) l first t.lit.var) (λ (t : Weighted). t.lit.var < p) (λ t named. omega (arith, named-low bound l low first t.lit.var (left_below bound l r low first below over) below named)) xs h.named

  right-low : (xs : List Weighted) → IsOf bound r middle xs → All (λ t. t.lit.var < p) xs
  right-low xs h =
      All-weaker (λ (t : Weighted). IsNamed (totalizer bound) r middle t.lit.var) (λ (t : Weighted). t.lit.var < p) (λ t named. omega (arith, named-low bound r low middle t.lit.var (right_below bound l r low first below over) (omega (arith, below)) named)) xs h.named

  left_weight : weight ls ≡ outputs_of bound l
  left_weight = outputs-weight bound l first

  right_weight : weight rs ≡ outputs_of bound r
  right_weight = outputs-weight bound r middle

  left_some : 1 ≤ outputs_of bound l
  left_some = some_outputs bound l full.0

  right_some : 1 ≤ outputs_of bound r
  right_some = some_outputs bound r full.1

  -- ---- the constraint of a window, about a sum from 1 on

  abbrev o : ℕ → Lit
  o s = positive_of (p + (s - 1))

  abbrev c : ℕ → ℕ
  c s = spare (meaning_at p (ls ++ rs) (s - 1))

  abbrev pub window_of : ℕ → ℕ → ℕ → Constraint
  window_of s k j = record {
    terms = weighing (c s) (o s) ∷ (map opposite (block_terms bound l first k) ++ map opposite (block_terms bound r middle j));
    degree = weight (block_terms bound l first k) + weight (block_terms bound r middle j) + 1 - s;
  }

  c_is : (s : ℕ) → 1 ≤ s → c s ≡ weight ls + weight rs + 1 - s
  c_is s some = omega (arith, weight-append ls rs, some)

  c_some : (s : ℕ) → 1 ≤ s → s ≤ outputs_of bound (node l r) → 1 ≤ c s
  c_some s some within = omega (arith, c_is s some, left_weight, right_weight, node_length bound l r, within)

  above : (s : ℕ) → p ≤ p + (s - 1)
  above s = omega arith

  left-side : (s : ℕ) (some : 1 ≤ c s) (xs : List Weighted) → IsOf bound l first xs → IsSide p (c s) (o s) some (above s) xs
  left-side s some xs h = record { apart = h.apart; positive = h.positive; low = left-low xs h }

  right-side : (s : ℕ) (some : 1 ≤ c s) (xs : List Weighted) → IsOf bound r middle xs → IsSide p (c s) (o s) some (above s) xs
  right-side s some xs h = record { apart = h.apart; positive = h.positive; low = right-low xs h }

  abbrev pub clause_of : ℕ → ℕ → List Lit
  clause_of i j = unless_none f i ++ (unless_none g j ++ o (i + j) ∷ [])

  clause-split : (i j : ℕ) → ones (clause_of i j) ≡ ones (unless_none f i) ++ (ones (unless_none g j) ++ unit_of (o (i + j)) ∷ [])
  clause-split i j = map-append unit_of (unless_none f i) (unless_none g j ++ o (i + j) ∷ []) ∙ ap (λ (ws : List Weighted). ones (unless_none f i) ++ ws) (map-append unit_of (unless_none g j) (o (i + j) ∷ []))

  module _ (i j : ℕ) (left : i ≤ outputs_of bound l) (right : j ≤ outputs_of bound r) where
    abbrev F : List Weighted
    F = ones (unless_none f i)

    abbrev G : List Weighted
    G = ones (unless_none g j)

    abbrev O : Weighted
    O = unit_of (o (i + j))

    own-other : (xs : List Weighted) → All (λ t. t.lit.var < p) xs → All (λ t. All (Other t) (O ∷ [])) xs
    own-other xs h = All-weaker (λ (t : Weighted). t.lit.var < p) (λ (t : Weighted). All (Other t) (O ∷ [])) (λ t k. All-cons (Other t) O [] (λ e. omega (arith, k, e)) (All-nil (Other t))) xs h

    clause-apart : AreApartTerms (ones (clause_of i j))
    clause-apart =
        let hf = units-of bound l first i left in
        let hg = units-of bound r middle j right in
        let cross = crossed F G hf hg in
        let beyond = own-other F (left-low F hf) in
        let both : All (λ t. All (Other t) (G ++ O ∷ [])) F = λ n d w. All-append (Other (get_or F n d)) G (O ∷ []) (cross n d w) (beyond n d w) in
        subst AreApartTerms (sym (clause-split i j))
        (both-apart F (G ++ O ∷ []) hf.apart (both-apart G (O ∷ []) hg.apart (AllPairs-cons Other O [] (All-nil (Other O)) (AllPairs-nil Other)) (own-other G (right-low G hg))) both)

    pub clause-named : 1 ≤ i + j → i + j ≤ outputs_of bound (node l r) → All (Named top) (ones (clause_of i j))
    clause-named some within =
        let low : (xs : List Weighted) → All (λ t. t.lit.var < p) xs → All (Named top) xs = λ xs h. All-weaker (λ (t : Weighted). t.lit.var < p) (Named top) (λ t k. omega (arith, k, under)) xs h in
        subst (All (Named top)) (sym (clause-split i j))
        (All-append (Named top) F (G ++ O ∷ []) (low F (left-low F (units-of bound l first i left)))
        (All-append (Named top) G (O ∷ []) (low G (right-low G (units-of bound r middle j right))) (All-cons (Named top) O [] (omega (arith, some, within, under)) (All-nil (Named top)))))

  window_small : (s k j : ℕ) → 1 ≤ s → k < blocks_of bound l → j < blocks_of bound r → weight (window_of s k j).terms + (window_of s k j).degree ≤ 2 ^ 40
  window_small s k j some left right =
      let ks : List Weighted = block_terms bound l first k in
      let ms : List Weighted = block_terms bound r middle j in
      omega (
        arith,
        weight-cons (weighing (c s) (o s)) (map opposite ks ++ map opposite ms),
        weight-append (map opposite ks) (map opposite ms),
        weight-opposite ks,
        weight-opposite ms,
        block-weight bound l first k full.0 left,
        block-weight bound r middle j full.1 right,
        c_is s some,
        left_weight,
        right_weight,
        values_length bound l,
        values_length bound r,
        few,
      )

  module _ (db : Database) (h : NodeKnown db top bound l r first id next other) where
    pub window_adds : (s k j : ℕ) → 1 ≤ s → s ≤ outputs_of bound (node l r) → s ≤ block_end (last_of bound l) (32 * k) + block_end (last_of bound r) (32 * j) + 2 → k < blocks_of bound l → j < blocks_of bound r
        → Adds (Below top) db (window_step (row + 2 * (s - 1) + 1) (wide_narrows bound l next + k) (wide_narrows bound r other + j)) (window_of s k j)
    window_adds s k j some within reach left right =
        let ks : List Weighted = block_terms bound l first k in
        let ms : List Weighted = block_terms bound r middle j in
        let n = h.left_narrows k left in
        let q = h.right_narrows j right in
        let kw = block-weight bound l first k full.0 left in
        let mw = block-weight bound r middle j full.1 right in
        let ok = block-of-part bound l first k full.0 left in
        let om = block-of-part bound r middle j full.1 right in
        let or = outputs-of bound r middle in
        let rev = reverse_of (meaning_at p (ls ++ rs) (s - 1)) in
        let back = h.reverse (s - 1) (omega (arith, some, within)) in
        let least = c_some s some within in
        let shape : Constraint = record { terms = weighing (c s) (o s) ∷ (map opposite ls ++ map opposite rs); degree = weight ls + weight rs + 1 - s } in
        let start : IsFormOf shape back.0 = form_as rev shape back.0 (λ z. ap (λ (ts : List Weighted). sum_by z (weighing (c s) (o s) ∷ ts)) (opposite-append ls rs)) (c_is s some) back.2 in
        let t : Constraint = window_of s k j in
        let narrow_k : weight ks ≤ weight ls = omega (arith, kw, left_weight, left_some) in
        let narrow_m : weight ms ≤ weight rs = omega (arith, mw, right_weight, right_some) in
        let xs : List Weighted = map opposite ks in
        let ys : List Weighted = map opposite ms in
        let sk = left-side s least ks ok in
        let sm = right-side s least ms om in
        expression_adds (Below top) db (plus (plus (known (row + 2 * (s - 1) + 1) rev back) (known (wide_narrows bound l next + k) n.said n.known)) (known (wide_narrows bound r other + j) q.said q.known)) t
        ((tt, tt), tt) (omega arith)
        (omega (arith, n.small, q.small, weight-cons (weighing (c s) (o s)) (map opposite (ls ++ rs)), weight-opposite (ls ++ rs), weight-append ls rs, left_weight, right_weight, values_length bound l, values_length bound r, few))
        (both_narrowed p (c s) (o s) least (above s) ls rs ks ms s n.said q.said n.narrows q.narrows (omega (arith, narrow_k)) (omega (arith, narrow_m)) (omega (arith, left_weight, right_weight, node_length bound l r, within))
        (omega (arith, kw, mw, reach, narrow_m)) (omega (arith, kw, mw, reach)) sk (right-side s least rs or) sm (crossed ks rs ok or) (crossed ks ms ok om) back.0 n.known.0 q.known.0 start n.known.2 q.known.2)
        (record {
          apart = three-apart p (c s) (o s) least (above s) xs ys (opposite_side p (c s) (o s) least (above s) ks sk) (opposite_side p (c s) (o s) least (above s) ms sm) (crossed_opposite p (c s) (o s) least (above s) ks ms (crossed ks ms ok om));
          positive = three-positive p (c s) (o s) least (above s) xs ys (opposite_side p (c s) (o s) least (above s) ks sk) (opposite_side p (c s) (o s) least (above s) ms sm);
          named = All-cons (Named top) (weighing (c s) (o s)) (xs ++ ys) (omega (arith, some, within, under))
              (All-append (Named top) xs ys (All-map (Named top) opposite ks (All-weaker (λ (u : Weighted). u.lit.var < p) (Named top) (λ u k. omega (arith, k, under)) ks (left-low ks ok)))
              (All-map (Named top) opposite ms (All-weaker (λ (u : Weighted). u.lit.var < p) (Named top) (λ u k. omega (arith, k, under)) ms (right-low ms om))));
        })

    -- a clause by the window of its blocks
    pub clause_adds : (window i j : ℕ) → i ≤ outputs_of bound l → j ≤ outputs_of bound r → 1 ≤ i + j → i + j ≤ outputs_of bound (node l r) → Knows db window (window_of (i + j) (block_with i) (block_with j))
        → StepGives db (pair_step window (wide_others bound l next + i) (wide_others bound r other + j) m) (clause_of i j)
    clause_adds window i j left right some within held =
        let s : ℕ = i + j in
        let k : ℕ = block_with i in
        let q : ℕ = block_with j in
        let ks : List Weighted = block_terms bound l first k in
        let ms : List Weighted = block_terms bound r middle q in
        let us : List Weighted = single f i in
        let vs : List Weighted = single g j in
        let one = h.lefts i left in
        let two = h.rights j right in
        let in_k : k < blocks_of bound l = omega (arith, left, left_some) in
        let in_q : q < blocks_of bound r = omega (arith, right, right_some) in
        let kw = block-weight bound l first k full.0 in_k in
        let mw = block-weight bound r middle q full.1 in_q in
        let ou = single-of bound l first i left in
        let ov = single-of bound r middle j right in
        let om = block-of-part bound r middle q full.1 in_q in
        let uw = single-weight f i in
        let vw = single-weight g j in
        let least = c_some s some within in
        let clause : List Lit = clause_of i j in
        let su = left-side s least us ou in
        let sv = right-side s least vs ov in
        let opposite_left = opposite_side p (c s) (o s) least (above s) us su in
        let opposite_right = opposite_side p (c s) (o s) least (above s) vs sv in
        let top_c : c s ≤ m = omega (arith, c_is s some, left_weight, right_weight, some) in
        let narrowed = both_narrowed p (c s) (o s) least (above s) ks ms us vs s one.said two.said one.narrows two.narrows (omega (arith, uw, kw, left)) (omega (arith, vw, mw, right)) (omega (arith, kw, mw, left, right)) (omega (arith, uw, mw, right)) (omega (arith, uw, vw))
        su (right-side s least ms om) sv (crossed us ms ou om) (crossed us vs ou ov) held.0 one.known.0 two.known.0 held.2 one.known.2 two.known.2 in
        let e : weight us + weight vs + 1 - s ≡ 1 = omega (arith, uw, vw) in
        let last : Constraint = record { terms = weighing (c s) (o s) ∷ (map opposite us ++ map opposite vs); degree = 1 } in
        let whole : IsFormOf last (sum_of (sum_of held.0 one.known.0) two.known.0) = form_as (record { terms = last.terms; degree = weight us + weight vs + 1 - s }) last (sum_of (sum_of held.0 one.known.0) two.known.0) (λ x. refl) e narrowed in
        let form = clause_left m (c s) i j (o s) f g (sum_of (sum_of held.0 one.known.0) two.known.0) least top_c (omega (arith, left)) (omega (arith, right)) whole in
        let apart : AreApartTerms (ones clause) = clause-apart i j left right in
        claim_gives (Below top) db (pair_step window (wide_others bound l next + i) (wide_others bound r other + j) m) clause apart
        (expression_adds (Below top) db (divide m (plus (plus (known window (window_of s k q) held) (known (wide_others bound l next + i) one.said one.known)) (known (wide_others bound r other + j) two.said two.known))) (claim_of clause)
        (omega (arith, left_some), ((tt, tt), tt)) (omega arith) (omega (arith, one.small, two.small, window_small s k q some in_k in_q)) form
        (record { apart = apart; positive = ones-some clause; named = clause-named i j left right some within }))
