-- The lines of an exact sum's derivation are within their limits, and short.
use Rattle.std.proofs.Common.{◌≡◌, ◌≤◌, ◌<◌, ◌+◌, ◌-◌, ◌*◌, ◌^◌, ℕ, zero, suc, Bool, true, false, cond, not, List, [], ◌∷◌, ◌++◌, length, min, map, refl, ap, sym, ◌∙◌, subst, arith, inl, inr, length-append}
use Rattle.std.specs.Prelude.{Contains, All, nat_lt, count_by}
use Rattle.std.specs.List.{flat_map, range_with_len}
use Rattle.std.proofs.Math.Nat.{mul-le-mul_right}
use Rattle.std.proofs.lemmas.Bool.{cases_lt, cond-true, cond-false, lt-ltb, le-ltb}
use Rattle.std.proofs.lemmas.List.{length-map}
use Rattle.std.proofs.lemmas.List.Concat.{flat_map-cons}
use Rattle.std.proofs.lemmas.List.Elements.{All-nil, All-cons, All-append}
use Rattle.std.proofs.lemmas.List.FromFn.{length-range_with_len}
use Rattle.std.proofs.lemmas.List.Sums.{sum_by-cons, count_by-le-length}
use Rattle.pb_base.proofs.Members.{All-append_both}
use Rattle.pb_norm.specs.Constraints.{Weighted, weight}
use Rattle.pb_norm.specs.BoundedSums.{BoundedSum, IsProper, vars_of}
use Rattle.pb_norm.specs.Reduction.{all_weigh}
use Rattle.pb_steps.specs.Sayable.{IsId, IsVariable, IsSayable}
use Rattle.pb_derive.specs.Justifications.{Justification}
use Rattle.pb_derive.specs.Short.{AreShort}
use Rattle.pb_derive.proofs.ShortJustifications.{gone_in}
use Rattle.pb_family.specs.Derivations.{AreOriginal, MayStart}
use Rattle.pb_family.proofs.UnitSums.{unit_weight}
use Rattle.pb_tree.specs.Pairs.{Pair, pair_of}
use Rattle.pb_tree.specs.Scheme.{fresh_of, own_count_of}
use Rattle.pb_tree.specs.Tree.{Tree, node, tree_of}
use Rattle.pb_tree.specs.TreeSteps.{leaves, output_ids, pair_justifications, justifications_along, root_justification}
use Rattle.pb_tree.proofs.AlongJustifications.{clause_in}
use Rattle.pb_tree.proofs.AlongShort.{IsShort, Starts, gone-append, along_gone, along_short, known_terms, terms_sayable, terms_short}
use Rattle.pb_tree.proofs.Extending.{at_most_weight}
use Rattle.pb_tree.proofs.PairJustifications.{all_map}
use Rattle.pb_tree.proofs.PairCounts.{count-cons, count-append, count-map, count_none}
use Rattle.pb_tree.proofs.TreeDerives.{not_empty}
use Rattle.pb_tree.proofs.TreeRows.{leaves_of}
use Rattle.pb_tree.proofs.TreeShort.{length-vars, some_or_none, pairs_gone_few, output_ids_are, own_short as pairs_own_short, root_short}
use Rattle.pb_totalizer.specs.Exact.{limits, outputs_of, limit_count_of, exact_fresh, exact_size}
use Rattle.pb_totalizer.specs.ExactSteps.{after_ids, after_weakened, limit_justification, limit_pairs, limit_justifications, own_justifications, least_justification, exact_justifications, exact_steps}
use Rattle.pb_totalizer.specs.Totalizer.{totalizer}
use Rattle.pb_totalizer.specs.OutputSteps.{totalizer_pairs}
use Rattle.pb_totalizer.specs.laws.ByPairs.{totalizer_by_pairs}
use Rattle.pb_totalizer.specs.laws.Counting.{own_in_grid}
use Rattle.pb_totalizer.specs.laws.ExactDerives.{unit_weighs}
use Rattle.pb_totalizer.specs.laws.ExactLaws.{exact_counts, root_outputs}
use Rattle.pb_totalizer.specs.laws.ExactJustifications.{pair_bounds, after_all, exact_justifications_clauses}
use Rattle.pb_totalizer.specs.laws.LimitCounts.{limits_in_grid, size_split}
use Rattle.pb_totalizer.specs.laws.Limits.{limits_are}
use Rattle.pb_totalizer.specs.laws.Shares.{few_shared}
use Rattle.pb_totalizer.specs.laws.Sparing.{totalizer_sparing}
use Rattle.pb_totalizer.specs.laws.TotalizerLaws.{IsCapped, value_from, totalizer_lawful}

-- ---- how many variables go

-- the index is past the last one
abbrev is_past : ℕ → ℕ → Bool
is_past a i = not (nat_lt i a)

past_below : (a i : ℕ) → i < a → is_past a i ≡ false
past_below a i below = ap not (lt-ltb i a below)

past_above : (a i : ℕ) → a ≤ i → is_past a i ≡ true
past_above a i above = ap not (le-ltb i a above)

-- in a row of numbers
past_row : (b k n : ℕ) → count_by (is_past b) (range_with_len k n) ≤ min n (k + n - b)
past_row b k zero = let none : count_by (is_past b) (range_with_len k zero) ≡ 0 = refl in omega (arith, none)
past_row b k (suc n) =
    let rest = past_row b (k + 1) n in
    let split = count-cons (is_past b) k (range_with_len (k + 1) n) in
    elim (cases_lt k b) as (λ _. count_by (is_past b) (range_with_len k (suc n)) ≤ min (suc n) (k + suc n - b)) [
      | inl below ↦ let here : cond {A = ℕ} (is_past b k) 1 0 ≡ 0 = ap (λ (t : Bool). cond {A = ℕ} t 1 0) (past_below b k below) in omega (arith, rest, split, here)
      | inr above ↦ let here : cond {A = ℕ} (is_past b k) 1 0 ≡ 1 = ap (λ (t : Bool). cond {A = ℕ} t 1 0) (past_above b k above) in omega (arith, rest, split, here)
    ]

abbrev row : ℕ → ℕ → ℕ → List Pair
row c b i = map (pair_of i) (limits c b i)

row_of : (c b i : ℕ) → limits c b i ≡ range_with_len 0 (min (b + 1) (c - i))
row_of c b i =
    let high = min (b + 1) (c - i) in
    limits_are c b i high refl ∙ ap (range_with_len 0) (let e : high - 0 ≡ high = omega arith in e)

-- of the rows from k on, no more lack the right than there are numbers from k to below c
rights_few : (c b k n : ℕ) → count_by (λ p. is_past b p.right) (flat_map (row c b) (range_with_len k n)) ≤ c - k
rights_few c b k zero = let none : count_by (λ (p : Pair). is_past b p.right) (flat_map (row c b) (range_with_len k zero)) ≡ 0 = refl in omega (arith, none)
rights_few c b k (suc n) =
    let p = λ (q : Pair). is_past b q.right in
    let rest = rights_few c b (k + 1) n in
    let split : count_by p (flat_map (row c b) (range_with_len k (suc n))) ≡ count_by p (row c b k) + count_by p (flat_map (row c b) (range_with_len (k + 1) n)) =
    ap (count_by p) (flat_map-cons (row c b) k (range_with_len (k + 1) n)) ∙ count-append p (row c b k) (flat_map (row c b) (range_with_len (k + 1) n)) in
    let one : count_by p (row c b k) ≡ count_by (is_past b) (range_with_len 0 (min (b + 1) (c - k))) = count-map p (pair_of k) (limits c b k) ∙ ap (count_by (is_past b)) (row_of c b k) in
    omega (arith, rest, split, one, past_row b 0 (min (b + 1) (c - k)))

-- and only the last row lacks the left
lefts_few : (c b a k n : ℕ) → k + n ≤ a + 1 → count_by (λ p. is_past a p.left) (flat_map (row c b) (range_with_len k n)) ≤ c
lefts_few c b a k zero within = let none : count_by (λ (p : Pair). is_past a p.left) (flat_map (row c b) (range_with_len k zero)) ≡ 0 = refl in omega (arith, none)
lefts_few c b a k (suc n) within =
    let p = λ (q : Pair). is_past a q.left in
    let split : count_by p (flat_map (row c b) (range_with_len k (suc n))) ≡ count_by p (row c b k) + count_by p (flat_map (row c b) (range_with_len (k + 1) n)) =
    ap (count_by p) (flat_map-cons (row c b) k (range_with_len (k + 1) n)) ∙ count-append p (row c b k) (flat_map (row c b) (range_with_len (k + 1) n)) in
    elim (cases_lt k a) as (λ _. count_by (λ p. is_past a p.left) (flat_map (row c b) (range_with_len k (suc n))) ≤ c) [
      | inl below ↦
          let none : count_by p (row c b k) ≡ 0 = count-map p (pair_of k) (limits c b k) ∙ count_none (λ (j : ℕ). is_past a k) (limits c b k) (λ j h. past_below a k below) in
          omega (arith, split, none, lefts_few c b a (k + 1) n (omega arith))
      | inr last ↦
          let end : n ≡ 0 = omega arith in
          let none : count_by p (flat_map (row c b) (range_with_len (k + 1) n)) ≡ 0 = ap (λ (m : ℕ). count_by p (flat_map (row c b) (range_with_len (k + 1) m))) end in
          let size : length (row c b k) ≡ min (b + 1) (c - k) = length-map (limits c b k) (pair_of k) ∙ ap length (row_of c b k) ∙ length-range_with_len 0 (min (b + 1) (c - k)) in
          omega (arith, split, none, count_by-le-length p (row c b k), size)
    ]

after_gone : (bound : ℕ) (t : Tree) (i : ℕ) → length (after_weakened bound t i) ≡ cond (is_past (outputs_of bound t) i) (length (leaves t)) 0
after_gone bound t i =
    let test = nat_lt i (outputs_of bound t) in
    by_test test
  where
    by_test : (b : Bool) → length (cond {A = List ℕ} b [] (vars_of (leaves t))) ≡ cond (not b) (length (leaves t)) 0
    by_test true = refl
    by_test false = length-vars (leaves t)

limit_justifications_gone : (bound : ℕ) (l r : Tree) (first id : ℕ) (ps : List Pair)
    → gone_in (map (limit_justification bound l r first id) ps)
    ≡ count_by (λ p. is_past (outputs_of bound l) p.left) ps * length (leaves l) + count_by (λ p. is_past (outputs_of bound r) p.right) ps * length (leaves r)
limit_justifications_gone bound l r first id [] =
    let none : gone_in (map (limit_justification bound l r first id) []) ≡ 0 = refl in
    none ∙ (let e : 0 ≡ 0 * length (leaves l) + 0 * length (leaves r) = omega arith in e)
limit_justifications_gone bound l r first id (p ∷ ps) =
    let a = length (leaves l) in
    let b = length (leaves r) in
    let past_left = λ (q : Pair). is_past (outputs_of bound l) q.left in
    let past_right = λ (q : Pair). is_past (outputs_of bound r) q.right in
    let i = count_by past_left ps in
    let j = count_by past_right ps in
    let one = sum_by-cons (λ (r : Justification). length r.weakened) (limit_justification bound l r first id p) (map (limit_justification bound l r first id) ps) in
    let two = length-append (after_weakened bound l p.left) (after_weakened bound r p.right) in
    let three : count_by past_left (p ∷ ps) * a ≡ cond (past_left p) a 0 + i * a = ap (λ (n : ℕ). n * a) (count-cons past_left p ps) ∙ sym (some_or_none (past_left p) a i) in
    let four : count_by past_right (p ∷ ps) * b ≡ cond (past_right p) b 0 + j * b = ap (λ (n : ℕ). n * b) (count-cons past_right p ps) ∙ sym (some_or_none (past_right p) b j) in
    omega (arith, one, two, after_gone bound l p.left, after_gone bound r p.right, three, four, limit_justifications_gone bound l r first id ps)

limits_gone : (bound : ℕ) (l r : Tree) (first id : ℕ) → gone_in (limit_justifications bound l r first id) ≤ outputs_of bound (node l r) * (length (leaves l) + length (leaves r))
limits_gone bound l r first id =
    let a = outputs_of bound l in
    let b = outputs_of bound r in
    let c = outputs_of bound (node l r) in
    let m = length (leaves l) in
    let n = length (leaves r) in
    let ps = limit_pairs c a b in
    let lows = mul-le-mul_right m (lefts_few c b a 0 (a + 1) (omega arith)) in
    let highs = mul-le-mul_right n (rights_few c b 0 (a + 1)) in
    let none : c - 0 ≡ c = omega arith in
    let same : (c - 0) * n ≡ c * n = ap (λ (k : ℕ). k * n) none in
    let here : c * (m + n) ≡ c * m + c * n = omega arith in
    omega (arith, limit_justifications_gone bound l r first id ps, lows, highs, same, here)

-- ---- each justification

after_ids_are : (bound : ℕ) (t : Tree) (id i : ℕ) → 1 ≤ id → id + 2 * fresh_of (totalizer bound) t < 2 ^ 63 → All IsId (after_ids bound t id i) × (length (after_ids bound t id i) ≤ 1)
after_ids_are bound t id i low high =
    let s = totalizer bound in
    let test = nat_lt i (outputs_of bound t) in
    let seconds = map (λ (k : ℕ). k + 1) (output_ids s t id (i + 1)) in
    elim (cases_lt i (outputs_of bound t)) as (λ _. All IsId (after_ids bound t id i) × (length (after_ids bound t id i) ≤ 1)) [
      | inl below ↦
          let same : after_ids bound t id i ≡ seconds = cond-true test seconds [] (lt-ltb i (outputs_of bound t) below) in
          let are = output_ids_are s (IsCapped bound) (totalizer_lawful bound) t id (i + 1) low high (value_from bound t (i + 1) (omega arith) (omega arith)) in
          (subst (λ (is : List ℕ). All IsId is) (sym same) are.1, omega (arith, ap length same, length-map (output_ids s t id (i + 1)) (λ (k : ℕ). k + 1), are.2))
      | inr above ↦
          let same : after_ids bound t id i ≡ [] = cond-false test seconds [] (le-ltb i (outputs_of bound t) above) in
          (subst (λ (is : List ℕ). All IsId is) (sym same) (All-nil IsId), omega (arith, ap length same))
    ]

after_few : (bound : ℕ) (t : Tree) (i : ℕ) → length (after_weakened bound t i) ≤ length (leaves t)
after_few bound t i = omega (arith, after_gone bound t i, at_most_weight (is_past (outputs_of bound t) i) (length (leaves t)))

limit_short : (bound n : ℕ) (l r : Tree) (first id : ℕ) → 1 ≤ id → id + 2 * fresh_of (totalizer bound) (node l r) < 2 ^ 63 → All (λ w. IsVariable w.lit.var) (leaves (node l r)) → length (leaves (node l r)) ≤ n
    → (p : Pair) → Contains (limit_pairs (outputs_of bound (node l r)) (outputs_of bound l) (outputs_of bound r)) p → IsShort n (limit_justification bound l r first id p)
limit_short bound n l r first id low high known few p h =
    let s = totalizer bound in
    let next = id + 2 * fresh_of s l in
    let left = after_ids_are bound l id p.left low (omega arith) in
    let right = after_ids_are bound r next p.right (omega arith) (omega arith) in
    let w = p.left + p.right + 1 in
    let bounds = pair_bounds (outputs_of bound (node l r)) (outputs_of bound l) (outputs_of bound r) p h in
    let own = output_ids_are s (IsCapped bound) (totalizer_lawful bound) (node l r) id w low high (value_from bound (node l r) w (omega arith) (omega (arith, bounds.2))) in
    let lefts = after_ids bound l id p.left in
    let rights = after_ids bound r next p.right in
    let owns = output_ids s (node l r) id w in
    let parts = All-append_both (λ (w : Weighted). IsVariable w.lit.var) (leaves l) (leaves r) known in
    let size : length owns ≡ 1 = refl in
    record {
      some = not_empty lefts rights owns (omega (arith, size));
      three = omega (arith, length-append lefts (rights ++ owns), length-append rights owns, left.1, right.1, size);
      ids = All-append IsId lefts (rights ++ owns) left.0 (All-append IsId rights owns right.0 own.0);
      variables = All-append IsVariable (after_weakened bound l p.left) (after_weakened bound r p.right) (after_all IsVariable bound l p.left parts.0) (after_all IsVariable bound r p.right parts.1);
      few = omega (arith, few, length-append (after_weakened bound l p.left) (after_weakened bound r p.right), after_few bound l p.left, after_few bound r p.right, length-append (leaves l) (leaves r));
    }

own_short : (bound n : ℕ) (l r : Tree) (first id : ℕ) → 1 ≤ id → id + 2 * fresh_of (totalizer bound) (node l r) < 2 ^ 63 → All (λ w. IsVariable w.lit.var) (leaves (node l r)) → length (leaves (node l r)) ≤ n
    → All (IsShort n) (own_justifications bound l r first id)
own_short bound n l r first id low high known few =
    All-append (IsShort n) (pair_justifications (totalizer bound) (totalizer_pairs (bound + 1)) l r first id) (limit_justifications bound l r first id)
    (pairs_own_short (totalizer bound) (IsCapped bound) (totalizer_lawful bound) (totalizer_pairs (bound + 1)) (totalizer_by_pairs bound) n l r first id low high known few)
    (all_map (IsShort n) (limit_justification bound l r first id) (limit_pairs (outputs_of bound (node l r)) (outputs_of bound l) (outputs_of bound r)) (limit_short bound n l r first id low high known few))

least_short : (bound n : ℕ) (t : Tree) (first id lower : ℕ) → 1 ≤ id → id + 2 * fresh_of (totalizer bound) t < 2 ^ 63 → IsId lower → 1 ≤ bound → bound ≤ outputs_of bound t → IsShort n (least_justification bound t first id lower)
least_short bound n t first id lower low high given some within =
    let s = totalizer bound in
    let are = output_ids_are s (IsCapped bound) (totalizer_lawful bound) t id bound low high (value_from bound t bound some within) in
    let seconds = map (λ (k : ℕ). k + 1) (output_ids s t id bound) in
    record {
      some = not_empty [] seconds (lower ∷ []) (omega arith);
      three = omega (arith, length-append seconds (lower ∷ []), length-map (output_ids s t id bound) (λ (k : ℕ). k + 1), are.2);
      ids = All-append IsId seconds (lower ∷ []) are.1 (All-cons IsId lower [] given (All-nil IsId));
      variables = All-nil IsVariable;
      few = omega arith;
    }

-- ---- the whole

module _ (m : BoundedSum) (units : all_weigh 1 m.terms ≡ true) (proper : IsProper m) (few_terms : length m.terms < 2 ^ 31) (first lower upper next : ℕ) (original : AreOriginal first m.terms)
    (from_below : MayStart first (exact_fresh m) lower next) (from_above : MayStart first (exact_fresh m) upper next) where
  abbrev t : Tree
  t = tree_of m.terms

  abbrev rs : List Justification
  rs = exact_justifications m first next lower upper

  light : weight m.terms < 2 ^ 100
  light = omega (arith, unit_weight m.terms units, few_terms)

  starts : Starts first (exact_fresh m) next
  starts = let given = from_below.given in let known = from_below.known in record { low = from_below.low; fits = from_below.fits; from = omega arith; few = from_below.few }

  all_short : All (IsShort (length m.terms)) rs
  all_short =
      let n = length m.terms in
      let s = totalizer m.bound in
      let fits = from_below.fits in
      let few = from_below.few in
      let lower_given = from_below.given in
      let lower_known = from_below.known in
      let upper_given = from_above.given in
      let upper_known = from_above.known in
      let room = root_outputs m units proper in
      let top = value_from m.bound t (m.bound + 1) (omega arith) room in
      let size : length (leaves t) ≡ n = ap length (leaves_of m.terms) in
      let last = root_justification s t first next upper in
      All-append (IsShort n) (justifications_along s (own_justifications m.bound) t first next) (least_justification m.bound t first next lower ∷ last ∷ [])
      (along_short n s (own_justifications m.bound) (own_short m.bound n) t first next (omega arith) (omega arith) (known_terms m.terms first (exact_fresh m) fits original) (omega arith))
      (All-cons (IsShort n) (least_justification m.bound t first next lower) (last ∷ []) (least_short m.bound n t first next lower (omega arith) (omega arith) (lower_given, omega arith) proper.bound_from (omega arith))
      (All-cons (IsShort n) last []
      (root_short s (IsCapped m.bound) (totalizer_lawful m.bound) (totalizer_pairs (m.bound + 1)) (totalizer_by_pairs m.bound) n t first next upper (omega arith) (omega arith) (upper_given, omega arith) top) (All-nil (IsShort n))))

  counted : length rs ≡ exact_size m
  counted = sym (length-map rs clause_in) ∙ ap length (exact_justifications_clauses m first next lower upper) ∙ exact_counts m first

  few_justifications : length rs < 5 * 2 ^ 60
  few_justifications =
      let fits = from_below.fits in
      let fresh : exact_fresh m ≤ 2 ^ 31 = omega arith in
      omega (
        arith,
        counted,
        size_split m,
        few_shared m.bound (own_count_of (totalizer m.bound)) (own_in_grid m.bound) t proper.bound_from fresh,
        few_shared m.bound (limit_count_of m.bound) (limits_in_grid m.bound) t proper.bound_from fresh,
      )

  pub exact_sayable : All IsSayable (exact_steps m first lower upper next)
  exact_sayable =
      terms_sayable (totalizer m.bound) (totalizer_pairs (m.bound + 1)) (totalizer_by_pairs m.bound) m.terms (unit_weighs m units proper) light first next original starts rs few_justifications all_short

  all_gone : gone_in rs ≤ 2 * (exact_fresh m * length m.terms)
  all_gone =
      let s = totalizer m.bound in
      let n = length m.terms in
      let size : length (leaves t) ≡ n = ap length (leaves_of m.terms) in
      let along = along_gone s (own_justifications m.bound) (λ u. 1 ≤ 1)
      (λ l r h first id. omega (
        arith,
        gone-append (pair_justifications s (totalizer_pairs (m.bound + 1)) l r first id) (limit_justifications m.bound l r first id),
        pairs_gone_few s (totalizer_pairs (m.bound + 1)) (totalizer_sparing m.bound) l r first id h,
        limits_gone m.bound l r first id,
      )) t first next (λ u h. omega arith) in
      let same : exact_fresh m * length (leaves t) ≡ exact_fresh m * n = ap (λ (k : ℕ). exact_fresh m * k) size in
      let ends = least_justification m.bound t first next lower ∷ root_justification s t first next upper ∷ [] in
      let none : gone_in ends ≡ 0 = refl in
      omega (arith, gone-append (justifications_along s (own_justifications m.bound) t first next) ends, along, same, none)

  pub exact_short : length m.terms ≤ 2 ^ 21 → AreShort (length m.terms) (exact_fresh m) (exact_size m) (exact_steps m first lower upper next)
  exact_short narrow =
      subst (λ (k : ℕ). AreShort (length m.terms) (exact_fresh m) k (exact_steps m first lower upper next)) counted
      (terms_short (totalizer m.bound) (totalizer_pairs (m.bound + 1)) (totalizer_by_pairs m.bound) m.terms (unit_weighs m units proper) light first next original starts rs few_justifications all_short narrow all_gone)
