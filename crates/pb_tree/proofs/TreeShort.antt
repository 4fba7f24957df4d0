-- The lines of a derivation along a tree are within their limits, and short.
use Rattle.std.proofs.Common.{◌≡◌, ◌≤◌, ◌<◌, ◌+◌, ◌*◌, ◌^◌, ℕ, zero, suc, Bool, true, false, cond, List, [], ◌∷◌, ◌++◌, length, min, map, refl, ap, sym, ◌∙◌, subst, arith, inl, inr, length-append}
use Rattle.std.specs.Prelude.{Contains, All, count_by}
use Rattle.std.proofs.Math.Nat.{mul-le-mul_right}
use Rattle.std.proofs.lemmas.List.{length-map}
use Rattle.std.proofs.lemmas.List.Elements.{All-nil, All-cons, All-append}
use Rattle.std.proofs.lemmas.List.Sums.{sum_by-cons}
use Rattle.pb_base.proofs.Members.{All-append_both}
use Rattle.pb_norm.specs.Constraints.{Weighted, weight}
use Rattle.pb_norm.specs.BoundedSums.{BoundedSum, vars_of}
use Rattle.pb_steps.specs.Sayable.{IsId, IsVariable, IsSayable}
use Rattle.pb_derive.specs.Justifications.{Justification}
use Rattle.pb_derive.specs.Short.{AreShort}
use Rattle.pb_derive.proofs.ShortJustifications.{gone_in}
use Rattle.pb_family.specs.Derivations.{AreOriginal, MayStart}
use Rattle.pb_tree.specs.Pairs.{Pair}
use Rattle.pb_tree.specs.Scheme.{Scheme, values, fresh_of, tree_clauses}
use Rattle.pb_tree.specs.Tree.{Tree, empty, leaf, node, tree_of}
use Rattle.pb_tree.specs.TreeSteps.{leaves, output_ids, part_ids, part_weakened, pair_justification, pair_justifications, justifications, root_justification, tree_justifications, tree_steps}
use Rattle.pb_tree.proofs.AlongShort.{IsShort, Starts, gone-append, along_gone, along_short, known_terms, terms_sayable, terms_short}
use Rattle.pb_tree.proofs.Laws.{Suits, cap_value}
use Rattle.pb_tree.proofs.PairCounts.{is_none, count-cons}
use Rattle.pb_tree.proofs.PairJustifications.{IsByPairs, IsPositive, tree_justifications_clauses, all_map}
use Rattle.pb_tree.proofs.Sums.{IsLawful}
use Rattle.pb_tree.proofs.TreeDerives.{not_empty, part_all, leaves_positive, weighs_of}
use Rattle.pb_tree.proofs.TreeParts.{IsPart}
use Rattle.pb_tree.proofs.TreeRows.{leaves_of}

-- ---- how many variables go

-- the pairs that lack a value on a side are no more than the other side has values, and a node has no fewer than a part
pub record IsSparing (s : Scheme) (pairs : List ℕ → List ℕ → List Pair) : Type 0 where
  pub no_left : (l r : Tree) → IsPositive s l → IsPositive s r → count_by (λ p. is_none p.left) (pairs (values s l) (values s r)) ≤ length (values s r)
  pub no_right : (l r : Tree) → IsPositive s l → IsPositive s r → count_by (λ p. is_none p.right) (pairs (values s l) (values s r)) ≤ length (values s l)
  pub left_grows : (l r : Tree) → length (values s l) ≤ length (values s (node l r))
  pub right_grows : (l r : Tree) → length (values s r) ≤ length (values s (node l r))

pub length-vars : (ts : List Weighted) → length (vars_of ts) ≡ length ts
length-vars ts = length-map ts (λ (t : Weighted). t.lit.var)

part_gone : (t : Tree) (u : ℕ) → length (part_weakened t u) ≡ cond (is_none u) (length (leaves t)) 0
part_gone t zero = length-vars (leaves t)
part_gone t (suc u) = refl

pub some_or_none : (b : Bool) (n k : ℕ) → cond b n 0 + k * n ≡ (cond b 1 0 + k) * n
some_or_none true n k = omega arith
some_or_none false n k = omega arith

pairs_gone : (s : Scheme) (l r : Tree) (first id : ℕ) (ps : List Pair)
    → gone_in (map (pair_justification s l r first id) ps) ≡ count_by (λ p. is_none p.left) ps * length (leaves l) + count_by (λ p. is_none p.right) ps * length (leaves r)
pairs_gone s l r first id [] =
    let none : gone_in (map (pair_justification s l r first id) []) ≡ 0 = refl in
    none ∙ (let e : 0 ≡ 0 * length (leaves l) + 0 * length (leaves r) = omega arith in e)
pairs_gone s l r first id (p ∷ ps) =
    let a = length (leaves l) in
    let b = length (leaves r) in
    let no_left = λ (q : Pair). is_none q.left in
    let no_right = λ (q : Pair). is_none q.right in
    let one = sum_by-cons (λ (r : Justification). length r.weakened) (pair_justification s l r first id p) (map (pair_justification s l r first id) ps) in
    let two = length-append (part_weakened l p.left) (part_weakened r p.right) in
    let three : count_by no_left (p ∷ ps) * a ≡ cond (no_left p) a 0 + count_by no_left ps * a = ap (λ (n : ℕ). n * a) (count-cons no_left p ps) ∙ sym (some_or_none (no_left p) a (count_by no_left ps)) in
    let four : count_by no_right (p ∷ ps) * b ≡ cond (no_right p) b 0 + count_by no_right ps * b = ap (λ (n : ℕ). n * b) (count-cons no_right p ps) ∙ sym (some_or_none (no_right p) b (count_by no_right ps)) in
    omega (arith, one, two, part_gone l p.left, part_gone r p.right, three, four, pairs_gone s l r first id ps)

pub pairs_gone_few : (s : Scheme) (pairs : List ℕ → List ℕ → List Pair) → IsSparing s pairs → (l r : Tree) (first id : ℕ) → IsPositive s (node l r)
    → gone_in (pair_justifications s pairs l r first id) ≤ length (values s (node l r)) * (length (leaves l) + length (leaves r))
pairs_gone_few s pairs sparing l r first id positive =
    let ps = pairs (values s l) (values s r) in
    let a = length (leaves l) in
    let b = length (leaves r) in
    let c = length (values s (node l r)) in
    let i = count_by (λ (p : Pair). is_none p.left) ps in
    let j = count_by (λ (p : Pair). is_none p.right) ps in
    let lows : i * a ≤ c * a = mul-le-mul_right a (omega (arith, sparing.no_left l r (λ u h. positive u (inl h)) (λ u h. positive u (inr h)), sparing.right_grows l r)) in
    let highs : j * b ≤ c * b = mul-le-mul_right b (omega (arith, sparing.no_right l r (λ u h. positive u (inl h)) (λ u h. positive u (inr h)), sparing.left_grows l r)) in
    let here : c * (a + b) ≡ c * a + c * b = omega arith in
    omega (arith, pairs_gone s l r first id ps, lows, highs, here)

pub justifications_gone : (s : Scheme) (pairs : List ℕ → List ℕ → List Pair) → IsSparing s pairs → (t : Tree) (first id : ℕ) → IsPositive s t → gone_in (justifications s pairs t first id) ≤ 2 * (fresh_of s t * length (leaves t))
justifications_gone s pairs sparing t first id positive =
    along_gone s (pair_justifications s pairs) (λ u. 1 ≤ s.weight u) (λ l r h first id. omega (arith, pairs_gone_few s pairs sparing l r first id h)) t first id positive

-- ---- each justification

-- the outputs have their ids
abbrev none_ids : All IsId [] × All IsId [] × (0 ≤ 1)
none_ids = (All-nil IsId, All-nil IsId, omega arith)

pub output_ids_are : (s : Scheme) (W : ℕ → Type 0) → IsLawful s W → (t : Tree) (id u : ℕ) → 1 ≤ id → id + 2 * fresh_of s t < 2 ^ 63 → Contains (values s t) u
    → All IsId (output_ids s t id u) × All IsId (map (λ i. i + 1) (output_ids s t id u)) × (length (output_ids s t id u) ≤ 1)
output_ids_are s W laws empty id u low high h = none_ids
output_ids_are s W laws (leaf t) id u low high h = none_ids
output_ids_are s W laws (node l r) id u low high h =
    let i = id + 2 * (fresh_of s l + fresh_of s r + s.place u (values s (node l r))) in
    let within = laws.place_within l r u h in
    let one : IsId i = (omega arith, omega arith) in
    let two : IsId (i + 1) = (omega arith, omega arith) in
    (All-cons IsId i [] one (All-nil IsId), All-cons IsId (i + 1) [] two (All-nil IsId), omega arith)

part_ids_are : (s : Scheme) (W : ℕ → Type 0) → IsLawful s W → (t : Tree) (id u : ℕ) → 1 ≤ id → id + 2 * fresh_of s t < 2 ^ 63 → IsPart (values s t) u
    → All IsId (part_ids s t id u) × (length (part_ids s t id u) ≤ 1)
part_ids_are s W laws t id zero low high h = (All-nil IsId, omega arith)
part_ids_are s W laws t id (suc u) low high h =
    let are = output_ids_are s W laws t id (suc u) low high (elim h as (λ _. Contains (values s t) (suc u)) [ inl none ↦ absurd (omega (arith, none)) | inr here ↦ here ]) in
    (are.0, are.2)

part_few : (t : Tree) (u : ℕ) → length (part_weakened t u) ≤ length (leaves t)
part_few t zero = omega (arith, length-vars (leaves t))
part_few t (suc u) = omega arith

module _ (s : Scheme) (W : ℕ → Type 0) (laws : IsLawful s W) (pairs : List ℕ → List ℕ → List Pair) (by : IsByPairs s pairs) where
  pair_short : (n : ℕ) (l r : Tree) (first id : ℕ) → 1 ≤ id → id + 2 * fresh_of s (node l r) < 2 ^ 63 → All (λ w. IsVariable w.lit.var) (leaves (node l r)) → length (leaves (node l r)) ≤ n
      → (p : Pair) → Contains (pairs (values s l) (values s r)) p → IsShort n (pair_justification s l r first id p)
  pair_short n l r first id low high known few p h =
      let w = min (p.left + p.right) s.cap in
      let next = id + 2 * fresh_of s l in
      let left = part_ids_are s W laws l id p.left low (omega arith) (by.lefts l r p h) in
      let right = part_ids_are s W laws r next p.right (omega arith) (omega arith) (by.rights l r p h) in
      let own = output_ids_are s W laws (node l r) id w low high (by.owns l r p h) in
      let lefts = part_ids s l id p.left in
      let rights = part_ids s r next p.right in
      let owns = map (λ (i : ℕ). i + 1) (output_ids s (node l r) id w) in
      let parts = All-append_both (λ (w : Weighted). IsVariable w.lit.var) (leaves l) (leaves r) known in
      let size : length owns ≡ 1 = refl in
      record {
        some = not_empty lefts rights owns (omega (arith, size));
        three = omega (arith, length-append lefts (rights ++ owns), length-append rights owns, left.1, right.1, size);
        ids = All-append IsId lefts (rights ++ owns) left.0 (All-append IsId rights owns right.0 own.1);
        variables = All-append IsVariable (part_weakened l p.left) (part_weakened r p.right) (part_all IsVariable l p.left parts.0) (part_all IsVariable r p.right parts.1);
        few = omega (arith, few, length-append (part_weakened l p.left) (part_weakened r p.right), part_few l p.left, part_few r p.right, length-append (leaves l) (leaves r));
      }

  pub own_short : (n : ℕ) (l r : Tree) (first id : ℕ) → 1 ≤ id → id + 2 * fresh_of s (node l r) < 2 ^ 63 → All (λ w. IsVariable w.lit.var) (leaves (node l r)) → length (leaves (node l r)) ≤ n
      → All (IsShort n) (pair_justifications s pairs l r first id)
  own_short n l r first id low high known few = all_map (IsShort n) (pair_justification s l r first id) (pairs (values s l) (values s r)) (pair_short n l r first id low high known few)

  pub justifications_short : (n : ℕ) (t : Tree) (first id : ℕ) → 1 ≤ id → id + 2 * fresh_of s t < 2 ^ 63 → All (λ w. IsVariable w.lit.var) (leaves t) → length (leaves t) ≤ n → All (IsShort n) (justifications s pairs t first id)
  justifications_short n t first id low high known few = along_short n s (pair_justifications s pairs) (own_short n) t first id low high known few

  pub root_short : (n : ℕ) (t : Tree) (first id own : ℕ) → 1 ≤ id → id + 2 * fresh_of s t < 2 ^ 63 → IsId own → Contains (values s t) s.cap → IsShort n (root_justification s t first id own)
  root_short n t first id own low high given top =
      let are = output_ids_are s W laws t id s.cap low high top in
      record {
        some = not_empty [] (output_ids s t id s.cap) (own ∷ []) (omega arith);
        three = omega (arith, length-append (output_ids s t id s.cap) (own ∷ []), are.2);
        ids = All-append IsId (output_ids s t id s.cap) (own ∷ []) are.0 (All-cons IsId own [] given (All-nil IsId));
        variables = All-nil IsVariable;
        few = omega arith;
      }

  tree_short : (n : ℕ) (t : Tree) (first id own : ℕ) → 1 ≤ id → id + 2 * fresh_of s t < 2 ^ 63 → IsId own → Contains (values s t) s.cap → All (λ w. IsVariable w.lit.var) (leaves t) → length (leaves t) ≤ n
      → All (IsShort n) (tree_justifications s pairs t first id own)
  tree_short n t first id own low high given top known few =
      All-append (IsShort n) (justifications s pairs t first id) (root_justification s t first id own ∷ []) (justifications_short n t first id low high known few)
      (All-cons (IsShort n) (root_justification s t first id own) [] (root_short n t first id own low high given top) (All-nil (IsShort n)))

-- ---- the whole

module _ (s : Scheme) (W : ℕ → Type 0) (laws : IsLawful s W) (pairs : List ℕ → List ℕ → List Pair) (by : IsByPairs s pairs) (m : BoundedSum) (suits : Suits s m) (light : weight m.terms < 2 ^ 100)
    (first id next : ℕ) (original : AreOriginal first m.terms) (start : MayStart first (fresh_of s (tree_of m.terms)) id next) where
  abbrev t : Tree
  t = tree_of m.terms

  abbrev fresh : ℕ
  fresh = fresh_of s (tree_of m.terms)

  abbrev rs : List Justification
  rs = tree_justifications s pairs (tree_of m.terms) first next id

  starts : Starts first fresh next
  starts = let given = start.given in let known = start.known in record { low = start.low; fits = start.fits; from = omega arith; few = start.few }

  all_short : All (IsShort (length m.terms)) rs
  all_short =
      let fits = start.fits in
      let given = start.given in
      let known = start.known in
      let few = start.few in
      let own : IsId id = (given, omega arith) in
      let size : length (leaves t) ≡ length m.terms = ap length (leaves_of m.terms) in
      tree_short s W laws pairs by (length m.terms) t first next id (omega arith) (omega arith) own (cap_value s W laws m suits) (known_terms m.terms first fresh start.fits original) (omega arith)

  count_justifications : length rs ≡ length (tree_clauses s t first)
  count_justifications = sym (length-map rs (λ (r : Justification). r.clause)) ∙ ap length (tree_justifications_clauses s pairs by t first next id (leaves_positive s W laws pairs by m suits))

  module _ (few_clauses : length (tree_clauses s (tree_of m.terms) first) < 5 * 2 ^ 60) where
    few_justifications : length rs < 5 * 2 ^ 60
    few_justifications = omega (arith, few_clauses, count_justifications)

    pub tree_sayable : All IsSayable (tree_steps s pairs (tree_of m.terms) first id next)
    tree_sayable = terms_sayable s pairs by m.terms (weighs_of s m suits) light first next original starts rs few_justifications all_short

    pub tree_lines_short : IsSparing s pairs → length m.terms ≤ 2 ^ 21 → AreShort (length m.terms) (fresh_of s (tree_of m.terms)) (length (tree_clauses s (tree_of m.terms) first)) (tree_steps s pairs (tree_of m.terms) first id next)
    tree_lines_short sparing narrow =
        let n = length m.terms in
        let size : length (leaves t) ≡ n = ap length (leaves_of m.terms) in
        let gone : gone_in (justifications s pairs t first next) ≤ 2 * (fresh * n) = subst (λ (k : ℕ). gone_in (justifications s pairs t first next) ≤ 2 * (fresh * k)) size (justifications_gone s pairs sparing t first next (leaves_positive s W laws pairs by m suits)) in
        let last : gone_in (root_justification s t first next id ∷ []) ≡ 0 = refl in
        subst (λ (k : ℕ). AreShort n fresh k (tree_steps s pairs t first id next)) count_justifications
        (terms_short s pairs by m.terms (weighs_of s m suits) light first next original starts rs few_justifications all_short narrow (omega (arith, gone, last, gone-append (justifications s pairs t first next) (root_justification s t first next id ∷ []))))
