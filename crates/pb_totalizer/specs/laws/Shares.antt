-- The clauses of a totalizer, in either direction, are at most about a sixth of the square of its fresh variables.
use Rattle.std.proofs.Common.{◌≡◌, ◌≤◌, ◌+◌, ◌*◌, ◌^◌, ◌⊎◌, ℕ, length, min, refl, arith, inl, inr}
use Rattle.std.proofs.lemmas.Bool.{cases_lt}
use Rattle.std.proofs.lemmas.List.FromFn.{length-range_with_len}
use Rattle.std.proofs.lemmas.Nat.{mul-le}
use Rattle.pb_tree.specs.Tree.{Tree, empty, leaf, node}
use Rattle.pb_tree.specs.Scheme.{values, fresh_of, count_along}
use Rattle.pb_totalizer.specs.Totalizer.{totalizer}
use Rattle.pb_totalizer.specs.laws.TotalizerLaws.{values_length}
use Rattle.pb_totalizer.specs.laws.Counting.{IsInGrid}

-- a part has no more outputs than fresh variables, or is a leaf
abbrev IsCovered : ℕ → ℕ → Type 0
IsCovered a f = (a ≤ f) ⊎ (a ≡ 1)

product_grid : (a b : ℕ) → (a + 1) * (b + 1) ≡ a * b + a + b + 1
product_grid a b = omega arith

square_three : (f g c : ℕ) → (f + g + c) * (f + g + c) ≡ f * f + g * g + c * c + 2 * (f * g) + 2 * (f * c) + 2 * (g * c)
square_three f g c = omega arith

-- what the square of a node's fresh variables has beyond those of its parts
abbrev Beyond : ℕ → ℕ → ℕ → ℕ
Beyond f g c = c * c + 2 * (f * g) + 2 * (f * c) + 2 * (g * c) + 12 * c

-- both parts are covered
room_both : (cap a b c f g : ℕ) → a ≤ cap → b ≤ cap → c ≡ min (a + b) cap → a ≤ f → b ≤ g → 6 * (a * b) + 6 * a + 6 * b ≤ Beyond f g c
room_both cap a b c f g small also is af bg =
    let one = mul-le a b f g af bg in
    let left = mul-le a b f c af (omega arith) in
    let right = mul-le b a g c bg (omega arith) in
    let turn : b * a ≡ a * b = omega arith in
    omega (arith, one, left, right, turn)

-- one part is a leaf, and the other is covered
room_one : (cap b c f g : ℕ) → 2 ≤ cap → b ≤ cap → c ≡ min (1 + b) cap → b ≤ g → 6 * (1 * b) + 6 * 1 + 6 * b ≤ Beyond f g c
room_one cap b c f g two small is bg =
    elim (cases_lt c 2) as (λ _. 6 * (1 * b) + 6 * 1 + 6 * b ≤ Beyond f g c) [
      | inl few ↦ omega arith
      | inr many ↦
          let square = mul-le 2 2 c c many many in
          let right = mul-le b 2 g c bg many in
          let turn : b * 2 ≡ 2 * b = omega arith in
          omega (arith, square, right, turn)
    ]

node_room : (cap a b c f g : ℕ) → 2 ≤ cap → a ≤ cap → b ≤ cap → c ≡ min (a + b) cap → IsCovered a f → IsCovered b g → 6 * (a * b) + 6 * a + 6 * b ≤ Beyond f g c
node_room cap a b c f g two small also is (inl af) (inl bg) = room_both cap a b c f g small also is af bg
node_room cap a b c f g two small also is (inl af) (inr bl) =
    let turned = room_one cap a c g f two small (omega (arith, bl)) af in
    rw bl (omega (arith, turned))
node_room cap a b c f g two small also is (inr al) (inl bg) = rw al (room_one cap b c f g two also (omega (arith, al)) bg)
node_room cap a b c f g two small also is (inr al) (inr bl) = rw al (rw bl (let full : c ≡ 2 = omega (arith, al, bl) in omega arith))

share_step : (cap a b c f g x y m : ℕ) → 2 ≤ cap → a ≤ cap → b ≤ cap → c ≡ min (a + b) cap → IsCovered a f → IsCovered b g → m + 1 ≤ (a + 1) * (b + 1) → 6 * x ≤ f * f + 12 * f → 6 * y ≤ g * g + 12 * g
    → 6 * (x + y + m) ≤ (f + g + c) * (f + g + c) + 12 * (f + g + c)
share_step cap a b c f g x y m two small also is left right own xs ys =
    omega (arith, node_room cap a b c f g two small also is left right, product_grid a b, square_three f g c)

record Share (bound : ℕ) (count : Tree → Tree → ℕ) (t : Tree) : Type 0 where
  covered : IsCovered (length (values (totalizer bound) t)) (fresh_of (totalizer bound) t)
  clauses : 6 * count_along count t ≤ fresh_of (totalizer bound) t * fresh_of (totalizer bound) t + 12 * fresh_of (totalizer bound) t

share : (bound : ℕ) (count : Tree → Tree → ℕ) → IsInGrid bound count → (t : Tree) → 1 ≤ bound → Share bound count t
share bound count inside empty some = record { covered = inl (omega arith); clauses = omega arith }
share bound count inside (leaf t) some = record { covered = inr refl; clauses = omega arith }
share bound count inside (node l r) some =
    let s = totalizer bound in
    let a = length (values s l) in
    let b = length (values s r) in
    let left = share bound count inside l some in
    let right = share bound count inside r some in
    let c = length (values s (node l r)) in
    let long : c ≡ min (a + b) (bound + 1) = length-range_with_len 1 (min (a + b) (bound + 1)) in
    record {
      covered = inl (omega arith);
      clauses = share_step (bound + 1) a b c (fresh_of s l) (fresh_of s r) (count_along count l) (count_along count r) (count l r) (omega arith) (values_length bound l) (values_length bound r) long left.covered right.covered
          (inside l r) left.clauses right.clauses;
    }

-- as many as the ids have room for
pub few_shared : (bound : ℕ) (count : Tree → Tree → ℕ) → IsInGrid bound count → (t : Tree) → 1 ≤ bound → fresh_of (totalizer bound) t ≤ 2 ^ 31 → count_along count t ≤ 3 * 2 ^ 58
few_shared bound count inside t some few =
    let square = mul-le (fresh_of (totalizer bound) t) (fresh_of (totalizer bound) t) (2 ^ 31) (2 ^ 31) few few in
    omega (arith, (share bound count inside t some).clauses, square)
