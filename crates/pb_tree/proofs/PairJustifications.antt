-- Each clause along a tree follows from the constraints that its justification names.
use Rattle.std.proofs.Common.{◌≡◌, ◌≢◌, ◌≤◌, ◌<◌, ◌+◌, ◌-◌, ◌*◌, ◌^◌, ◌⊎◌, ℕ, zero, suc, List, [], ◌∷◌, ◌++◌, min, refl, ap, sym, ◌∙◌, arith, inl, inr}
use Rattle.std.specs.Prelude.{Contains, All, map}
use Rattle.std.proofs.lemmas.List.Elements.{All-nil, All-cons, All-append, Contains-append_left, Contains-append_right, Contains-append_cases}
use Rattle.pb_base.specs.declared.literal.Lit.{Lit}
use Rattle.pb_base.specs.Literals.{negated}
use Rattle.pb_base.proofs.Members.{Contains-nil, Contains-here, Contains-there, Contains-cons_cases, among_from}
use Rattle.pb_norm.specs.Constraints.{Weighted, Constraint, weight}
use Rattle.pb_norm.specs.Reduction.{opposite}
use Rattle.pb_tree.specs.Tree.{Tree, node, IsLeafOf}
use Rattle.pb_tree.specs.Scheme.{Scheme, values, fresh_of, output, own_of, clauses_of, tree_clauses}
use Rattle.pb_tree.proofs.Sums.{IsLawful}
use Rattle.pb_tree.proofs.Extending.{IsNamed, output_named}
use Rattle.pb_tree.specs.Pairs.{unless_none, Pair, pair_clause}
use Rattle.pb_derive.specs.Reifications.{reverse_of}
use Rattle.pb_derive.specs.inner.Follows.{AllKnown}
use Rattle.pb_derive.proofs.Justified.{IsJustified, ReificationsKnown}
use Rattle.pb_tree.specs.TreeSteps.{leaves, reifications, output_ids, part_ids, part_weakened, pair_justification, pair_justifications, justifications, root_justification, tree_justifications}
use Rattle.pb_tree.proofs.AlongJustifications.{clause_in, along_clauses, along_justified}
use Rattle.pb_tree.proofs.PairLists.{map-append, map-map}
use Rattle.pb_tree.proofs.TreeReifications.{reification, output_known, known_left, known_right}
use Rattle.pb_tree.proofs.TreeParts.{IsOver, IsPart, AreFromParts, given_value, given_part, over_left, over_right}
use Rattle.pb_derive.proofs.Appends.{weight-append}
use Rattle.pb_derive.proofs.Sides.{follows_pair, follows_root}

-- each leaf adds something
abbrev pub IsPositive : Scheme → Tree → Type 0
IsPositive s t = (u : Weighted) → IsLeafOf t u → 1 ≤ s.weight u

-- What derivations need of a scheme: its clauses go by pairs of values.
pub record IsByPairs (s : Scheme) (pairs : List ℕ → List ℕ → List Pair) : Type 0 where
  pub merged : (l r : Tree) → IsPositive s l → IsPositive s r → (f g h : ℕ → Lit) → s.merged (values s l) (values s r) f g h ≡ map (pair_clause s.cap f g h) (pairs (values s l) (values s r))
  pub lefts : (l r : Tree) (p : Pair) → Contains (pairs (values s l) (values s r)) p → IsPart (values s l) p.left
  pub rights : (l r : Tree) (p : Pair) → Contains (pairs (values s l) (values s r)) p → IsPart (values s r) p.right
  pub owns : (l r : Tree) (p : Pair) → Contains (pairs (values s l) (values s r)) p → Contains (values s (node l r)) (min (p.left + p.right) s.cap)
  pub from : AreFromParts s
  pub low : (t : Tree) → IsPositive s t → (u : ℕ) → Contains (values s t) u → 1 ≤ u

-- ---- the clauses

pub pairs_clauses : (s : Scheme) (pairs : List ℕ → List ℕ → List Pair) → IsByPairs s pairs → (l r : Tree) (first id : ℕ) → IsPositive s (node l r) → map clause_in (pair_justifications s pairs l r first id) ≡ own_of s l r first
pairs_clauses s pairs by l r first id positive =
    map-map clause_in (pair_justification s l r first id) (pairs (values s l) (values s r))
    ∙ sym (by.merged l r (λ u h. positive u (inl h)) (λ u h. positive u (inr h)) (output s l first) (output s r (first + fresh_of s l)) (output s (node l r) first))

pub justifications_clauses : (s : Scheme) (pairs : List ℕ → List ℕ → List Pair) → IsByPairs s pairs → (t : Tree) (first id : ℕ) → IsPositive s t → map clause_in (justifications s pairs t first id) ≡ clauses_of s t first
justifications_clauses s pairs by t first id positive = along_clauses s (pair_justifications s pairs) (own_of s) (λ u. 1 ≤ s.weight u) (pairs_clauses s pairs by) t first id positive

-- the justifications are of the clauses, in order
pub tree_justifications_clauses : (s : Scheme) (pairs : List ℕ → List ℕ → List Pair) → IsByPairs s pairs → (t : Tree) (first id own : ℕ) → IsPositive s t → map clause_in (tree_justifications s pairs t first id own) ≡ tree_clauses s t first
tree_justifications_clauses s pairs by t first id own positive =
    map-append clause_in (justifications s pairs t first id) (root_justification s t first id own ∷ [])
    ∙ ap (λ (cs : List (List Lit)). cs ++ (negated (output s t first s.cap) ∷ []) ∷ []) (justifications_clauses s pairs by t first id positive)

-- ---- the literals of a pair's clause

unless_here : (f : ℕ → Lit) (u : ℕ) → u ≢ 0 → Contains (unless_none f u) (negated (f u))
unless_here f zero some = absurd (some refl)
unless_here f (suc u) some = Contains-here (negated (f (suc u))) []

pair_left : (cap : ℕ) (f g h : ℕ → Lit) (p : Pair) → p.left ≢ 0 → Contains (pair_clause cap f g h p) (negated (f p.left))
pair_left cap f g h p some = Contains-append_left (unless_none f p.left) (unless_none g p.right ++ h (min (p.left + p.right) cap) ∷ []) (negated (f p.left)) (unless_here f p.left some)

pair_right : (cap : ℕ) (f g h : ℕ → Lit) (p : Pair) → p.right ≢ 0 → Contains (pair_clause cap f g h p) (negated (g p.right))
pair_right cap f g h p some =
    let last = h (min (p.left + p.right) cap) ∷ [] in
    Contains-append_right (unless_none f p.left) (unless_none g p.right ++ last) (negated (g p.right)) (Contains-append_left (unless_none g p.right) last (negated (g p.right)) (unless_here g p.right some))

pair_own : (cap : ℕ) (f g h : ℕ → Lit) (p : Pair) → Contains (pair_clause cap f g h p) (h (min (p.left + p.right) cap))
pair_own cap f g h p =
    let o = h (min (p.left + p.right) cap) in
    Contains-append_right (unless_none f p.left) (unless_none g p.right ++ o ∷ []) o (Contains-append_right (unless_none g p.right) (o ∷ []) o (Contains-here o []))

-- each literal is one of these
part_cases : (f : ℕ → Lit) (u : ℕ) (k : Lit) → Contains (unless_none f u) k → (u ≢ 0) × (k ≡ negated (f u))
part_cases f zero k h = absurd (Contains-nil k h)
part_cases f (suc u) k h =
    ((λ e. omega arith), elim (Contains-cons_cases (negated (f (suc u))) [] k h) as (λ _. k ≡ negated (f (suc u))) [ inl same ↦ sym same | inr none ↦ absurd (Contains-nil k none) ])

pair_cases : (cap : ℕ) (f g h : ℕ → Lit) (p : Pair) (k : Lit) → Contains (pair_clause cap f g h p) k
    → ((p.left ≢ 0) × (k ≡ negated (f p.left))) ⊎ (((p.right ≢ 0) × (k ≡ negated (g p.right))) ⊎ (k ≡ h (min (p.left + p.right) cap)))
pair_cases cap f g h p k m =
    let o = h (min (p.left + p.right) cap) in
    let Goal : Type 0 = ((p.left ≢ 0) × (k ≡ negated (f p.left))) ⊎ (((p.right ≢ 0) × (k ≡ negated (g p.right))) ⊎ (k ≡ o)) in
    elim (Contains-append_cases (unless_none f p.left) (unless_none g p.right ++ o ∷ []) k m) as (λ _. Goal) [
      | inl left ↦ inl (part_cases f p.left k left)
      | inr rest ↦ elim (Contains-append_cases (unless_none g p.right) (o ∷ []) k rest) as (λ _. Goal) [
        | inl right ↦ inr (inl (part_cases g p.right k right))
        | inr last ↦ elim (Contains-cons_cases o [] k last) as (λ _. Goal) [ inl same ↦ inr (inr (sym same)) | inr none ↦ absurd (Contains-nil k none) ]
      ]
    ]

-- ---- a pair's clause follows

pub known-append : (K : ℕ → Constraint → Type 0) (is js : List ℕ) (ss us : List Constraint) → AllKnown K is ss → AllKnown K js us → AllKnown K (is ++ js) (ss ++ us)
known-append K [] js [] us h k = k
known-append K [] js (s ∷ ss) us h k = absurd h
known-append K (i ∷ is) js [] us h k = absurd h
known-append K (i ∷ is) js (s ∷ ss) us h k = (h.0, known-append K is js ss us h.1 k)

some_part : (us : List ℕ) (u : ℕ) → u ≢ 0 → IsPart us u → Contains us u
some_part us u some part = elim part as (λ _. Contains us u) [ inl none ↦ absurd (some none) | inr here ↦ here ]

-- a named variable of one part is none of the other's leaves
pub named_apart : (s : Scheme) (low first n : ℕ) (t other : Tree) → ((u v : Weighted) → IsLeafOf t u → IsLeafOf other v → u.lit.var ≢ v.lit.var) → ((v : Weighted) → IsLeafOf other v → v.lit.var < low)
    → low ≤ first → IsNamed s t first n → (v : Weighted) → IsLeafOf other v → n ≢ v.lit.var
named_apart s low first n t other apart below le named v m e =
    elim named [
      | inl own ↦ apart own.0 v own.1 m (own.2 ∙ e)
      | inr fresh ↦ let less = below v m in omega arith
    ]

pub pair_justified : (K : ℕ → Constraint → Type 0) (s : Scheme) (W : ℕ → Type 0) → IsLawful s W → (pairs : List ℕ → List ℕ → List Pair) → IsByPairs s pairs
    → (low : ℕ) (l r : Tree) (first id : ℕ) → low ≤ first → IsOver s low (node l r) → weight (leaves (node l r)) < 2 ^ 100 → ReificationsKnown K id (reifications s (node l r) first)
    → (p : Pair) → Contains (pairs (values s l) (values s r)) p → IsJustified K (pair_justification s l r first id p)
pair_justified K s W laws pairs by low l r first id le over light known p listed =
    let t = node l r in
    let middle = first + fresh_of s l in
    let f = output s l first in
    let g = output s r middle in
    let h = output s t first in
    let w = min (p.left + p.right) s.cap in
    let clause = pair_clause s.cap f g h p in
    let left = by.lefts l r p listed in
    let right = by.rights l r p listed in
    let here = by.owns l r p listed in
    let above : (n : ℕ) → n ≡ (h w).var → (v : Weighted) → IsLeafOf t v → n ≢ v.lit.var = λ n is v m e. let less = over.below v m in omega arith in
    let others = over.apart.2 in
    let one = given_part K s W laws by.from low l first id p.left clause (over_left s low l r over) (known_left K s l r first id known) left
    (λ some. among_from clause (negated (f p.left)) (pair_left s.cap f g h p some))
    (λ none k m v n. elim (pair_cases s.cap f g h p k m) as (λ _. k.var ≢ v.lit.var) [
      | inl same ↦ absurd (same.0 none)
      | inr rest ↦ elim rest as (λ _. k.var ≢ v.lit.var) [
        | inl same ↦ λ e. named_apart s low middle (g p.right).var r l (λ a b x y z. others b a y x (sym z)) (λ a x. over.below a (inl x)) (omega arith)
            (output_named s W laws r middle p.right (some_part (values s r) p.right same.0 right)) v n (sym (ap (λ (k : Lit). k.var) same.1) ∙ e)
        | inr same ↦ above k.var (ap (λ (k : Lit). k.var) same) v (inl n)
      ]
    ]) in
    let two = given_part K s W laws by.from low r middle (id + 2 * fresh_of s l) p.right clause (over_right s low l r over) (known_right K s l r first id known) right
    (λ some. among_from clause (negated (g p.right)) (pair_right s.cap f g h p some))
    (λ none k m v n. elim (pair_cases s.cap f g h p k m) as (λ _. k.var ≢ v.lit.var) [
      | inl same ↦ λ e. named_apart s low first (f p.left).var l r others (λ a x. over.below a (inr x)) le
          (output_named s W laws l first p.left (some_part (values s l) p.left same.0 left)) v n (sym (ap (λ (k : Lit). k.var) same.1) ∙ e)
      | inr rest ↦ elim rest as (λ _. k.var ≢ v.lit.var) [
        | inl same ↦ absurd (same.0 none)
        | inr same ↦ above k.var (ap (λ (k : Lit). k.var) same) v (inr n)
      ]
    ]) in
    let both = output_known K s W laws l r first id w known here in
    let m = reification (h w).var (leaves t) w in
    let last = reverse_of m ∷ [] in
    let ids = map (λ (i : ℕ). i + 1) (output_ids s t id w) in (
      one.0 ++ (two.0 ++ last),
      known-append K (part_ids s l id p.left) (part_ids s r (id + 2 * fresh_of s l) p.right ++ ids) one.0 (two.0 ++ last) one.1 (known-append K (part_ids s r (id + 2 * fresh_of s l) p.right) ids two.0 last two.1 (both.1, tt)),
      follows_pair clause (leaves l) (leaves r) p.left p.right one.0 two.0 (part_weakened l p.left) (part_weakened r p.right) m one.2 two.2 refl (omega arith)
          (among_from clause (h w) (pair_own s.cap f g h p)) (omega (arith, light, weight-append (leaves l) (leaves r))) (pair_justification s l r first id p).ids,
    )

-- ---- all of them

pub all_map : {X Y : Type 0} (P : Y → Type 0) (f : X → Y) (xs : List X) → ((x : X) → Contains xs x → P (f x)) → All P (map f xs)
all_map P f [] each = All-nil P
all_map P f (x ∷ xs) each = All-cons P (f x) (map f xs) (each x (Contains-here x xs)) (all_map P f xs (λ y h. each y (Contains-there x xs y h)))

pub pairs_justified : (K : ℕ → Constraint → Type 0) (s : Scheme) (W : ℕ → Type 0) → IsLawful s W → (pairs : List ℕ → List ℕ → List Pair) → IsByPairs s pairs
    → (low : ℕ) (l r : Tree) (first id : ℕ) → low ≤ first → IsOver s low (node l r) → weight (leaves (node l r)) < 2 ^ 100 → ReificationsKnown K id (reifications s (node l r) first)
    → All (IsJustified K) (pair_justifications s pairs l r first id)
pairs_justified K s W laws pairs by low l r first id le over light known =
    all_map (IsJustified K) (pair_justification s l r first id) (pairs (values s l) (values s r)) (pair_justified K s W laws pairs by low l r first id le over light known)

pub justifications_justified : (K : ℕ → Constraint → Type 0) (s : Scheme) (W : ℕ → Type 0) → IsLawful s W → (pairs : List ℕ → List ℕ → List Pair) → IsByPairs s pairs
    → (low : ℕ) (t : Tree) (first id : ℕ) → low ≤ first → IsOver s low t → weight (leaves t) < 2 ^ 100 → ReificationsKnown K id (reifications s t first)
    → All (IsJustified K) (justifications s pairs t first id)
justifications_justified K s W laws pairs by low t first id le over light known =
    along_justified K s (pair_justifications s pairs) low (pairs_justified K s W laws pairs by low) t first id le over light known

-- the root's, where the sum's own constraint stands under an id
pub root_justified : (K : ℕ → Constraint → Type 0) (s : Scheme) (W : ℕ → Type 0) → IsLawful s W → AreFromParts s → (low : ℕ) (t : Tree) (first id own bound : ℕ) → IsOver s low t → weight (leaves t) < 2 ^ 100
    → ReificationsKnown K id (reifications s t first) → s.cap ≡ bound + 1 → bound ≤ weight (leaves t) → Contains (values s t) s.cap → K own (record { terms = map opposite (leaves t); degree = weight (leaves t) - bound })
    → IsJustified K (root_justification s t first id own)
root_justified K s W laws from low t first id own bound over light known cut within top held =
    let root = negated (output s t first s.cap) in
    let clause = root ∷ [] in
    let side = given_value K s W laws from low t first id s.cap clause over known top (among_from clause root (Contains-here root [])) in
    let constraint : Constraint = record { terms = map opposite (leaves t); degree = weight (leaves t) - bound } in (
      side.0 ++ constraint ∷ [],
      known-append K (output_ids s t id s.cap) (own ∷ []) side.0 (constraint ∷ []) side.1 (held, tt),
      follows_root clause (leaves t) bound s.cap side.0 side.2 (omega arith) within light (root_justification s t first id own).ids,
    )

-- and all of them
pub tree_justified : (K : ℕ → Constraint → Type 0) (s : Scheme) (W : ℕ → Type 0) → IsLawful s W → (pairs : List ℕ → List ℕ → List Pair) → IsByPairs s pairs
    → (low : ℕ) (t : Tree) (first id own bound : ℕ) → low ≤ first → IsOver s low t → weight (leaves t) < 2 ^ 100 → ReificationsKnown K id (reifications s t first)
    → s.cap ≡ bound + 1 → bound ≤ weight (leaves t) → Contains (values s t) s.cap → K own (record { terms = map opposite (leaves t); degree = weight (leaves t) - bound })
    → All (IsJustified K) (tree_justifications s pairs t first id own)
tree_justified K s W laws pairs by low t first id own bound le over light known cut within top held =
    All-append (IsJustified K) (justifications s pairs t first id) (root_justification s t first id own ∷ [])
    (justifications_justified K s W laws pairs by low t first id le over light known)
    (All-cons (IsJustified K) (root_justification s t first id own) [] (root_justified K s W laws by.from low t first id own bound over light known cut within top held) (All-nil (IsJustified K)))
