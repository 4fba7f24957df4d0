-- Trees of adders, as the code makes them from halves.
use Rattle.std.proofs.Common.{◌≡◌, ◌≤◌, ◌<◌, ◌+◌, ◌*◌, ◌^◌, ◌%◌, ◌++◌, ◌∙◌, ℕ, zero, suc, List, [], ◌∷◌, length, take, drop, get_or, refl, ap, sym, arith, append_assoc}
use Rattle.std.proofs.lemmas.Bool.{cond-true, cond-false, le-leb, lt-leb}
use Rattle.std.proofs.Math.Nat.{pow-le-pow_right}
use Rattle.std.specs.Prelude.{nat_le}
use Rattle.pb_steps.specs.declared.op.PolOp.{PolOp}
use Rattle.pb_steps.specs.declared.op.PolOp.TheVariants.{Add}
use Rattle.pb_adder.specs.AdderSteps.{line_ops, tree_ops}

-- a power of a small height is what its bits say
pub half_is : (k : ℕ) → k ≤ 16 → 1 * 2 ^ k % 18446744073709551616 ≡ 2 ^ k
half_is k few = let small : 2 ^ k ≤ 2 ^ 16 = pow-le-pow_right {n = 2} (omega arith) {i = k} {j = 16} few in omega (arith, small)

-- one adder
pub tree_one : (n id : ℕ) (levels : List ℕ) → n ≡ 0 → 1 ≤ length levels → line_ops (get_or levels 0 0) id ≡ tree_ops n id levels
unfolding tree_ops
tree_one zero id [] none some = absurd (omega (arith, some))
tree_one zero id (level ∷ levels) none some = refl
tree_one (suc n) id levels none some = absurd (omega (arith, none))

-- a tree that is less high
narrow : (m id : ℕ) (levels : List ℕ) → length levels ≤ 2 ^ m → tree_ops m id levels ≡ tree_ops (suc m) id levels
unfolding tree_ops
narrow m id levels few =
    sym (cond-true (nat_le (length levels) (2 ^ m)) (tree_ops m id levels) (tree_ops m id (take (2 ^ m) levels) ++ (tree_ops m (id + 4 * 2 ^ m) (drop (2 ^ m) levels) ++ Add ∷ [])) (le-leb (length levels) (2 ^ m) few))

pub tree_narrow : (m n id : ℕ) (levels : List ℕ) → n ≡ suc m → length levels ≤ 2 ^ m → tree_ops m id levels ≡ tree_ops n id levels
tree_narrow m n id levels on few = narrow m id levels few ∙ ap (λ (j : ℕ). tree_ops j id levels) (sym on)

-- both halves
halves : (m id : ℕ) (levels : List ℕ) → 2 ^ m < length levels → tree_ops m id (take (2 ^ m) levels) ++ (tree_ops m (id + 4 * 2 ^ m) (drop (2 ^ m) levels) ++ Add ∷ []) ≡ tree_ops (suc m) id levels
unfolding tree_ops
halves m id levels more =
    sym (cond-false (nat_le (length levels) (2 ^ m)) (tree_ops m id levels) (tree_ops m id (take (2 ^ m) levels) ++ (tree_ops m (id + 4 * 2 ^ m) (drop (2 ^ m) levels) ++ Add ∷ [])) (lt-leb (length levels) (2 ^ m) more))

pub tree_halves : (m n id half : ℕ) (levels lefts rights : List ℕ) → n ≡ suc m → half ≡ 2 ^ m → half < length levels → lefts ≡ take half levels → rights ≡ drop half levels
    → tree_ops m id lefts ++ (tree_ops m (id + 4 * half) rights ++ Add ∷ []) ≡ tree_ops n id levels
tree_halves m n id half levels lefts rights on is more front back =
    let left : lefts ≡ take (2 ^ m) levels = front ∙ ap (λ (j : ℕ). take j levels) is in
    let right : rights ≡ drop (2 ^ m) levels = back ∙ ap (λ (j : ℕ). drop j levels) is in
    (λ i. tree_ops m id (left i) ++ (tree_ops m (id + 4 * is i) (right i) ++ Add ∷ []))
    ∙ halves m id levels (omega (arith, is, more))
    ∙ ap (λ (j : ℕ). tree_ops j id levels) (sym on)

pub behind : (ops us vs : List PolOp) → ((ops ++ us) ++ vs) ++ Add ∷ [] ≡ ops ++ (us ++ (vs ++ Add ∷ []))
behind ops us vs = append_assoc (ops ++ us) vs (Add ∷ []) ∙ append_assoc ops us (vs ++ Add ∷ [])
