-- The clauses of a large node are put out block by block, and nothing else is left.
use Rattle.std.proofs.Common.{◌≡◌, ◌≤◌, ◌<◌, ◌+◌, ◌-◌, ◌*◌, ◌/◌, ◌%◌, ◌^◌, ◌++◌, ℕ, zero, suc, List, [], ◌∷◌, length, refl, ap, sym, ◌∙◌, subst, arith, append-nil, append_assoc}
use Rattle.std.specs.Prelude.{All, Contains, map, min, max}
use Rattle.std.specs.List.{flat_map, range_with_len}
use Rattle.std.proofs.lemmas.List.{map-append, length-map}
use Rattle.std.proofs.lemmas.List.Concat.{flat_map-cons}
use Rattle.std.proofs.lemmas.List.Elements.{All-map}
use Rattle.pb_base.specs.declared.literal.Lit.{Lit}
use Rattle.pb_norm.specs.Constraints.{Weighted, Constraint}
use Rattle.pb_steps.specs.Database.{Database}
use Rattle.pb_derive.specs.Claims.{Claim, claim_steps}
use Rattle.pb_derive.specs.Later.{IsLater, Knows}
use Rattle.pb_derive.specs.inner.Ran.{StepGives, IsClaim, RanSwept}
use Rattle.pb_derive.proofs.FollowedBy.{followed_swept}
use Rattle.pb_derive.proofs.Laters.{known_below, later_then, later_knows}
use Rattle.pb_derive.proofs.Lines.{LinesRan, lines_ran}
use Rattle.pb_derive.proofs.Running.{swept_none, claims_ran}
use Rattle.pb_derive.proofs.Scoped.{scoped}
use Rattle.pb_family.specs.Fresh.{positive_of}
use Rattle.pb_tree.specs.Pairs.{Pair, pair_of, unless_none, pair_clause}
use Rattle.pb_tree.specs.Scheme.{values, fresh_of, output}
use Rattle.pb_tree.specs.Tree.{Tree, node}
use Rattle.pb_tree.proofs.Extending.{all_from_each}
use Rattle.pb_tree.proofs.Lists.{Contains-range_cases, Contains-map_cases, Contains-flat_map_cases}
use Rattle.pb_tree.proofs.PairLists.{map-map}
use Rattle.pb_tree.proofs.TreeParts.{IsOver}
use Rattle.pb_totalizer.specs.Exact.{outputs_of}
use Rattle.pb_totalizer.specs.OutputBlocks.{block_end}
use Rattle.pb_totalizer.specs.OutputWindows.{last_of, blocks_of, block_with, window_sum, window_line, window_lines, window_count, first_number, number_count, block_pairs, wide_claim, block_claims, block_steps, blocks_steps}
use Rattle.pb_totalizer.specs.Totalizer.{partners, totalizer}
use Rattle.pb_totalizer.specs.laws.ByPairs.{partner_bounds}
use Rattle.pb_totalizer.specs.OutputSteps.{input_count, before, totalizer_pairs}
use Rattle.pb_totalizer.specs.laws.BlockTold.{NarrowsKnown, narrows_later}
use Rattle.pb_totalizer.specs.laws.OutputAdds.{Below}
use Rattle.pb_totalizer.specs.laws.OutputNodes.{Cleared}
use Rattle.pb_totalizer.specs.laws.OutputParts.{IsFull, some_outputs}
use Rattle.pb_totalizer.specs.laws.TotalizerLaws.{node_length}
use Rattle.pb_totalizer.specs.laws.WideNodes.{NodeKnown, window_of, clause_of, clause-named, lits-from, window_adds, clause_adds}

-- what a block needs stays known
pub node_later : (P : ℕ → Type 0) (db end : Database) (top bound : ℕ) (l r : Tree) (first id next other : ℕ) → IsLater P db end → NodeKnown db top bound l r first id next other → NodeKnown end top bound l r first id next other
node_later P db end top bound l r first id next other later h =
    let keep : (i : ℕ) (ts us : List Weighted) → NarrowsKnown db i ts us → NarrowsKnown end i ts us = λ i ts us k. narrows_later P db end i ts us later (known_below db i k.said h.numbered k.known) k in
    record {
      vars = omega (arith, h.vars, later.vars);
      numbered = later.numbered;
      reverse = λ j within. let k = h.reverse j within in later_knows P db end _ _ later (known_below db _ _ h.numbered k) k;
      lefts = λ i within. keep _ _ _ (h.lefts i within);
      rights = λ j within. keep _ _ _ (h.rights j within);
      left_narrows = λ k within. keep _ _ _ (h.left_narrows k within);
      right_narrows = λ k within. keep _ _ _ (h.right_narrows k within);
    }

-- ---- the pairs of a block

pub record IsBlockPair (bound : ℕ) (l r : Tree) (k : ℕ) (u : Pair) : Type 0 where
  pub block : block_with u.left ≡ k
  pub left : u.left ≤ outputs_of bound l
  pub right : u.right ≤ outputs_of bound r
  pub some : 1 ≤ u.left + u.right
  pub fits : u.left + u.right ≤ bound + 1

in_block : (bound : ℕ) (l : Tree) (k i : ℕ) → IsFull l → first_number k ≤ i → i < first_number k + number_count (last_of bound l) k → k < blocks_of bound l → (block_with i ≡ k) × (i ≤ outputs_of bound l)
in_block bound l zero i full from to within = let some = some_outputs bound l full in (omega (arith, to), omega (arith, to, some))
in_block bound l (suc k) i full from to within = let some = some_outputs bound l full in (omega (arith, from, to), omega (arith, from, to, within, some))

pub block_pair : (bound : ℕ) (l r : Tree) (k : ℕ) (u : Pair) → IsFull l → k < blocks_of bound l → Contains (block_pairs (bound + 1) (outputs_of bound r) (first_number k) (number_count (last_of bound l) k)) u → IsBlockPair bound l r k u
block_pair bound l r k u full within listed =
    let b : ℕ = outputs_of bound r in
    let row = Contains-flat_map_cases (λ (i : ℕ). map (pair_of i) (partners (bound + 1) b i)) (range_with_len (first_number k) (number_count (last_of bound l) k)) u listed in
    let i : ℕ = row.0 in
    let range = Contains-range_cases (first_number k) (number_count (last_of bound l) k) i row.1 in
    let found = Contains-map_cases (pair_of i) (partners (bound + 1) b i) u row.2 in
    let bounds = partner_bounds (bound + 1) b i found.0 found.1 in
    let one : u.left ≡ i = sym (ap (λ (q : Pair). q.left) found.2) in
    let two : u.right ≡ found.0 = sym (ap (λ (q : Pair). q.right) found.2) in
    let place = in_block bound l k i full range.0 range.1 within in
    record {
      block = ap block_with one ∙ place.0;
      left = omega (arith, one, place.1);
      right = omega (arith, two, bounds.2);
      some = omega (arith, one, two, bounds.0);
      fits = omega (arith, one, two, bounds.1);
    }

module _ (top bound : ℕ) (l r : Tree) (low first id next other : ℕ) (full : IsFull (node l r)) (few : bound + 1 ≤ 2 ^ 31) (over : IsOver (totalizer bound) low (node l r)) (below : low ≤ first) (under : first + fresh_of (totalizer bound) (node l r) ≤ top) where
  abbrev P : ℕ → Type 0
  P = Below top

  abbrev W : ℕ → ℕ → ℕ
  W k x = window_sum bound l r k (x / 65) (x % 65)

  sum_bounds : (k x : ℕ) → (1 ≤ W k x) × (W k x ≤ outputs_of bound (node l r)) × (W k x ≤ block_end (last_of bound l) (32 * k) + block_end (last_of bound r) (32 * (x / 65)) + 2)
  sum_bounds k x = let some = some_outputs bound (node l r) full in (omega arith, omega (arith, some), omega arith)

  abbrev at_window : ℕ → ℕ → ℕ → ℕ
  at_window k j s = 65 * j + (s - 32 * k - 32 * j)

  module _ (db : Database) (k : ℕ) (within : k < blocks_of bound l) (h : NodeKnown db top bound l r first id next other) where
    abbrev S : ℕ → Constraint
    S x = window_of top bound l r low first id next other full few over below under (W k x) k (x / 65)

    windows : LinesRan P db (window_lines bound l r id next other k) db.next S (window_count bound r)
    windows =
        lines_ran P db db.next (window_line bound l r id next other k) S (window_count bound r) h.numbered refl
        (λ x less mid later known.
        let sums = sum_bounds k x in
        window_adds top bound l r low first id next other full few over below under mid (node_later P db mid top bound l r first id next other later h) (W k x) k (x / 65) sums.0 sums.1 sums.2 within (omega (arith, less)))

    abbrev mid : Database
    mid = windows.added.ran.end

    abbrev count : ℕ
    count = window_count bound r

    at_mid : mid.next ≡ db.next + count
    at_mid = windows.added.ran.next

    -- the window of two numbers
    window_known : (i j : ℕ) → block_with i ≡ k → i ≤ outputs_of bound l → j ≤ outputs_of bound r → 1 ≤ i + j → i + j ≤ outputs_of bound (node l r)
        → Knows mid (db.next + at_window k (block_with j) (i + j)) (window_of top bound l r low first id next other full few over below under (i + j) (block_with i) (block_with j))
    window_known i j own left right some fits =
        let q : ℕ = block_with j in
        let y : ℕ = i + j - 32 * k - 32 * q in
        let x : ℕ = 65 * q + y in
        let lefts : 1 ≤ outputs_of bound l = some_outputs bound l full.0 in
        let rights : 1 ≤ outputs_of bound r = some_outputs bound r full.1 in
        let small : y ≤ 64 = omega (arith, own) in
        let block : x / 65 ≡ q = omega (arith, small) in
        let rest : x % 65 ≡ y = omega (arith, small) in
        let whole : 32 * k + 32 * q + y ≡ i + j = omega (arith, own) in
        let sum : W k x ≡ i + j = ap (λ (u : ℕ). max 1 (min (32 * k + 32 * u + x % 65) (min (outputs_of bound (node l r)) (block_end (last_of bound l) (32 * k) + block_end (last_of bound r) (32 * u) + 2)))) block
        ∙ ap (λ (u : ℕ). max 1 (min (32 * k + 32 * q + u) (min (outputs_of bound (node l r)) (block_end (last_of bound l) (32 * k) + block_end (last_of bound r) (32 * q) + 2)))) rest
        ∙ (let e : max 1 (min (32 * k + 32 * q + y) (min (outputs_of bound (node l r)) (block_end (last_of bound l) (32 * k) + block_end (last_of bound r) (32 * q) + 2))) ≡ i + j = omega (arith, whole, own, left, right, some, fits, lefts, rights) in e) in
        let Sum : ℕ → ℕ → ℕ → Constraint = window_of top bound l r low first id next other full few over below under in
        subst (λ (b : ℕ). Knows mid (db.next + x) (Sum (i + j) b q)) (sym own)
        (subst (λ (u : ℕ). Knows mid (db.next + x) (Sum (i + j) k u)) block (subst (λ (s : ℕ). Knows mid (db.next + x) (Sum s k (x / 65))) sum (windows.known x (omega (arith, small, right, rights)))))

    same_own : (i j : ℕ) → i + j ≤ bound + 1 → positive_of (first + before bound l r + (i + j - 1)) ≡ output (totalizer bound) (node l r) first (min (i + j) (bound + 1))
    same_own i j fits = ap positive_of (let e : first + before bound l r + (i + j - 1) ≡ first + fresh_of (totalizer bound) l + fresh_of (totalizer bound) r + (min (i + j) (bound + 1) - 1) = omega (arith, fits) in e)

    abbrev f : ℕ → Lit
    f = output (totalizer bound) l first

    abbrev g : ℕ → Lit
    g = output (totalizer bound) r (first + fresh_of (totalizer bound) l)

    abbrev claim : Pair → Claim
    claim = wide_claim bound l r first next other db.next k (input_count bound l r)

    is_claim : (u : Pair) → block_with u.left ≡ k → u.left ≤ outputs_of bound l → u.right ≤ outputs_of bound r → 1 ≤ u.left + u.right → u.left + u.right ≤ bound + 1 → IsClaim P mid (claim u)
    is_claim u own left right some fits =
        let i : ℕ = u.left in
        let j : ℕ = u.right in
        let shape : Lit → List Lit = λ o. unless_none f i ++ (unless_none g j ++ o ∷ []) in
        let under_own : i + j ≤ outputs_of bound (node l r) = omega (arith, node_length bound l r, left, right, fits) in
        let held = window_known i j own left right some under_own in
        let id_below = known_below mid _ _ windows.added.ran.later.numbered held in
        let clause = clause_of top bound l r low first id next other full few over below under i j in
        record {
          named = subst (λ (o : Lit). All (λ c. c.var < top) (shape o)) (same_own i j fits) (lits-from top clause (clause-named top bound l r low first id next other full few over below under i j left right some under_own));
          takes = refl;
          gives = λ end after.
              let later = later_then P db mid end windows.added.ran.later after in
              subst (λ (o : Lit). StepGives end (claim u).step (shape o)) (same_own i j fits)
              (clause_adds top bound l r low first id next other full few over below under end (node_later P db end top bound l r first id next other later h) (db.next + at_window k (block_with j) (i + j)) i j left right some under_own (later_knows P mid end _ _ after id_below held));
        }

    -- ---- the clauses of the block

    abbrev pairs : List Pair
    pairs = block_pairs (bound + 1) (outputs_of bound r) (first_number k) (number_count (last_of bound l) k)

    claims_hold : All (IsClaim P mid) (block_claims bound l r first next other db.next k)
    claims_hold =
        All-map (IsClaim P mid) claim pairs
        (all_from_each (λ (u : Pair). IsClaim P mid (claim u)) pairs (λ u listed.
        let at = block_pair bound l r k u full.0 within listed in
        is_claim u at.block at.left at.right at.some at.fits))

    -- a block's windows and clauses
    pub block_swept : RanSwept (Below top) db (block_steps bound l r first id next other k db.next) (map (pair_clause (bound + 1) f g (output (totalizer bound) (node l r) first)) pairs) (count + length pairs)
    block_swept =
        let claims = block_claims bound l r first next other db.next k in
        let clauses = map (pair_clause (bound + 1) f g (output (totalizer bound) (node l r) first)) pairs in
        let ran = claims_ran P mid claims windows.added.ran.later.numbered claims_hold in
        let own : map (λ (c : Claim). c.clause) claims ≡ clauses = map-map (λ (c : Claim). c.clause) claim pairs in
        let number : length claims ≡ length pairs = length-map pairs claim in
        let second : RanSwept P mid (claim_steps (db.next + count) claims) clauses (length pairs) =
        subst (λ (n : ℕ). RanSwept P mid (claim_steps (db.next + count) claims) clauses n) number
        (subst (λ (cs : List (List Lit)). RanSwept P mid (claim_steps (db.next + count) claims) cs (length claims)) own
        (subst (λ (n : ℕ). RanSwept P mid (claim_steps n claims) (map (λ (c : Claim). c.clause) claims) (length claims)) at_mid ran)) in
        (scoped P db (window_lines bound l r id next other k) (claim_steps (db.next + count) claims) clauses count (length pairs) count 1 windows.added.ran h.numbered windows.added.adding second (omega arith)).all

-- ---- the blocks one after another

-- the pairs of so many blocks from one on
abbrev pub pairs_from : ℕ → ℕ → ℕ → ℕ → ℕ → List Pair
pairs_from cap b last k zero = []
pairs_from cap b last k (suc n) = block_pairs cap b (first_number k) (number_count last k) ++ pairs_from cap b last (suc k) n

module _ (top bound : ℕ) (l r : Tree) (low first id next other : ℕ) (full : IsFull (node l r)) (few : bound + 1 ≤ 2 ^ 31) (over : IsOver (totalizer bound) low (node l r)) (below : low ≤ first) (under : first + fresh_of (totalizer bound) (node l r) ≤ top) where
  abbrev own : Pair → List Lit
  own = pair_clause (bound + 1) (output (totalizer bound) l first) (output (totalizer bound) r (first + fresh_of (totalizer bound) l)) (output (totalizer bound) (node l r) first)

  abbrev all_pairs : ℕ → ℕ → List Pair
  all_pairs k n = pairs_from (bound + 1) (outputs_of bound r) (last_of bound l) k n

  pub blocks_swept : (db : Database) (k n : ℕ) → k + n ≤ blocks_of bound l → NodeKnown db top bound l r first id next other
      → Cleared (Below top) db (blocks_steps bound l r first id next other k n db.next)
      (map (pair_clause (bound + 1) (output (totalizer bound) l first) (output (totalizer bound) r (first + fresh_of (totalizer bound) l)) (output (totalizer bound) (node l r) first)) (pairs_from (bound + 1) (outputs_of bound r) (last_of bound l) k n))
  blocks_swept db k zero le h = record { ids = 0; swept = swept_none (Below top) db h.numbered }
  blocks_swept db k (suc n) le h =
      let here = block_pairs (bound + 1) (outputs_of bound r) (first_number k) (number_count (last_of bound l) k) in
      let one = block_swept top bound l r low first id next other full few over below under db k (omega (arith, le)) h in
      let mid : Database = one.ran.end in
      let rest = blocks_swept mid (suc k) n (omega (arith, le)) (node_later (Below top) db mid top bound l r first id next other one.ran.later h) in
      let ids : ℕ = window_count bound r + length here in
      let whole = followed_swept (Below top) db (block_steps bound l r first id next other k) (blocks_steps bound l r first id next other (suc k) n) (map own here) (map own (all_pairs (suc k) n)) ids rest.ids one rest.swept in
      record {
        ids = ids + rest.ids;
        swept = subst (λ (cs : List (List Lit)). RanSwept (Below top) db (blocks_steps bound l r first id next other k (suc n) db.next) cs (ids + rest.ids)) (sym (map-append own here (all_pairs (suc k) n))) whole;
      }

-- ---- all blocks have all pairs

flat-range : (f : ℕ → List Pair) (a n m : ℕ) → flat_map f (range_with_len a n) ++ flat_map f (range_with_len (a + n) m) ≡ flat_map f (range_with_len a (n + m))
flat-range f a zero m = ap (λ (b : ℕ). flat_map f (range_with_len b m)) (let e : a + 0 ≡ a = omega arith in e) ∙ ap (λ (b : ℕ). flat_map f (range_with_len a b)) (let e : m ≡ 0 + m = omega arith in e)
flat-range f a (suc n) m =
    let step : a + suc n ≡ a + 1 + n = omega arith in
    let more : suc (n + m) ≡ suc n + m = omega arith in
    ap (λ (ps : List Pair). ps ++ flat_map f (range_with_len (a + suc n) m)) (flat_map-cons f a (range_with_len (a + 1) n))
    ∙ append_assoc (f a) (flat_map f (range_with_len (a + 1) n)) (flat_map f (range_with_len (a + suc n) m))
    ∙ ap (λ (b : ℕ). f a ++ (flat_map f (range_with_len (a + 1) n) ++ flat_map f (range_with_len b m))) step
    ∙ ap (λ (ps : List Pair). f a ++ ps) (flat-range f (a + 1) n m)
    ∙ sym (flat_map-cons f a (range_with_len (a + 1) (n + m)))
    ∙ ap (λ (b : ℕ). flat_map f (range_with_len a b)) more

-- from a block on, up to the last one
blocks-pairs : (cap b last k n : ℕ) → k + suc n ≡ suc (last / 32) → pairs_from cap b last k (suc n) ≡ flat_map (λ i. map (pair_of i) (partners cap b i)) (range_with_len (first_number k) (last + 2 - first_number k))
blocks-pairs cap b last k zero at =
    let count : number_count last k ≡ last + 2 - first_number k = by_first k at in
    append-nil (block_pairs cap b (first_number k) (number_count last k)) ∙ ap (block_pairs cap b (first_number k)) count
  where
    by_first : (k : ℕ) → k + 1 ≡ suc (last / 32) → number_count last k ≡ last + 2 - first_number k
    by_first zero e = omega (arith, e)
    by_first (suc k) e = omega (arith, e)
blocks-pairs cap b last k (suc n) at =
    let f : ℕ → List Pair = λ i. map (pair_of i) (partners cap b i) in
    let c : ℕ = number_count last k in
    let rest : ℕ = last + 2 - first_number (suc k) in
    let next : first_number (suc k) ≡ first_number k + c = by_next k at in
    let whole : c + rest ≡ last + 2 - first_number k = by_whole k at in
    ap (λ (ps : List Pair). block_pairs cap b (first_number k) c ++ ps) (blocks-pairs cap b last (suc k) n (omega (arith, at)))
    ∙ ap (λ (a : ℕ). flat_map f (range_with_len (first_number k) c) ++ flat_map f (range_with_len a rest)) next
    ∙ flat-range f (first_number k) c rest ∙ ap (λ (m : ℕ). flat_map f (range_with_len (first_number k) m)) whole
  where
    by_next : (k : ℕ) → k + suc (suc n) ≡ suc (last / 32) → first_number (suc k) ≡ first_number k + number_count last k
    by_next zero e = omega (arith, e)
    by_next (suc k) e = omega (arith, e)

    by_whole : (k : ℕ) → k + suc (suc n) ≡ suc (last / 32) → number_count last k + (last + 2 - first_number (suc k)) ≡ last + 2 - first_number k
    by_whole zero e = omega (arith, e)
    by_whole (suc k) e = omega (arith, e)

pub all-blocks : (bound : ℕ) (l r : Tree) → 1 ≤ outputs_of bound l → pairs_from (bound + 1) (outputs_of bound r) (last_of bound l) 0 (blocks_of bound l) ≡ totalizer_pairs (bound + 1) (values (totalizer bound) l) (values (totalizer bound) r)
all-blocks bound l r some =
    let z : ℕ = last_of bound l in
    let count : z + 2 - 0 ≡ outputs_of bound l + 1 = omega (arith, some) in
    blocks-pairs (bound + 1) (outputs_of bound r) z 0 (z / 32) (omega arith)
    ∙ ap (λ (n : ℕ). flat_map (λ i. map (pair_of i) (partners (bound + 1) (outputs_of bound r) i)) (range_with_len 0 n)) count
