-- No clause of an equality has more literals than its halves have terms, and 128.
use Rattle.std.proofs.Common.{◌≡◌, ◌≤◌, ◌<◌, ◌+◌, ◌^◌, ◌++◌, ℕ, Bool, true, false, cond, List, [], ◌∷◌, length, ap, subst, arith, nat_lt, length-append}
use Rattle.std.specs.Prelude.{map}
use Rattle.std.specs.List.{range_with_len}
use Rattle.std.proofs.lemmas.List.{length-map}
use Rattle.pb_base.specs.declared.literal.Lit.{Lit}
use Rattle.pb_base.specs.Literals.{negated}
use Rattle.pb_norm.specs.BoundedSums.{BoundedSum}
use Rattle.pb_norm.specs.Constraints.{Constraint, Weighted, weight}
use Rattle.pb_norm.specs.Reduction.{opposite}
use Rattle.pb_tree.specs.Scheme.{fresh_of, output, own_of, values}
use Rattle.pb_tree.specs.Tree.{Tree, tree_of}
use Rattle.pb_tree.specs.Tree.Tree.{empty, leaf, node}
use Rattle.pb_totalizer.specs.Exact.{exact_along, exact_clauses, exact_own, limit_clause, limit_clauses, limits, limits_of, outputs_of, unless_last}
use Rattle.pb_totalizer.specs.Totalizer.{partners, sum_clause, totalizer}
use Rattle.pb_base.specs.declared.options.Options.{Options}
use Rattle.pb_choice.specs.Clauses.{constraint_clauses, constraint_fresh}
use Rattle.pb_choice.specs.Equals.{equality_clauses, is_joint, literals_asked}
use Rattle.pb_choice.specs.EqualityLaws.{IsEquality}
use Rattle.pb_choice.proofs.FewLiterals.{HaveFewLiterals, constraint_few_literals, flattened, joined, longer, mapped, none, sum_short, two}

-- ---- totalizers in both directions

last_short : (f : ℕ → Lit) (a i : ℕ) → length (unless_last f a i) ≤ 1
last_short f a i = by_test (nat_lt i a)
  where
    by_test : (b : Bool) → length (cond {A = List Lit} b (f (i + 1) ∷ []) []) ≤ 1
    by_test true = omega arith
    by_test false = omega arith

limit_short : (a b : ℕ) (f g h : ℕ → Lit) (i j : ℕ) → length (limit_clause a b f g h i j) ≤ 4
limit_short a b f g h i j =
    let last : List Lit = negated (h (i + j + 1)) ∷ [] in
    omega (arith, length-append (unless_last f a i) (unless_last g b j ++ last), length-append (unless_last g b j) last, last_short f a i, last_short g b j)

limits_short : (count a b : ℕ) (f g h : ℕ → Lit) → HaveFewLiterals 4 (limit_clauses count a b f g h)
limits_short count a b f g h =
    flattened 4 (λ i. map (limit_clause a b f g h i) (limits count b i)) (λ i. mapped 4 (limit_clause a b f g h i) (limit_short a b f g h i) (limits count b i)) (range_with_len 0 (a + 1))

own_short : (bound : ℕ) (l r : Tree) (first : ℕ) → HaveFewLiterals 4 (exact_own bound l r first)
own_short bound l r first =
    let t = totalizer bound in
    let f = output t l first in
    let g = output t r (first + fresh_of t l) in
    let h = output t (node l r) first in
    joined 4 (own_of t l r first) (limits_of bound l r first)
    (flattened 4 (λ i. map (sum_clause f g h i) (partners (bound + 1) (length (values t r)) i)) (λ i. mapped 4 (sum_clause f g h i) (sum_short f g h i) (partners (bound + 1) (length (values t r)) i)) (range_with_len 0 (length (values t l) + 1)))
    (limits_short (outputs_of bound (node l r)) (outputs_of bound l) (outputs_of bound r) f g h)

along_short : (bound : ℕ) (t : Tree) (first : ℕ) → HaveFewLiterals 4 (exact_along bound t first)
along_short bound empty first = none 4
along_short bound (leaf u) first = none 4
along_short bound (node l r) first =
    let after = first + fresh_of (totalizer bound) l in
    let rights = exact_along bound r after in
    joined 4 (exact_along bound l first) (rights ++ exact_own bound l r first) (along_short bound l first)
    (joined 4 rights (exact_own bound l r first) (along_short bound r after) (own_short bound l r first))

pub exact_short : (m : BoundedSum) (first : ℕ) → HaveFewLiterals 4 (exact_clauses m first)
exact_short m first =
    let t = tree_of m.terms in
    let o = output (totalizer m.bound) t first in
    joined 4 (exact_along m.bound t first) ((o m.bound ∷ []) ∷ (negated (o (m.bound + 1)) ∷ []) ∷ []) (along_short m.bound t first) (two 4 (o m.bound ∷ []) (negated (o (m.bound + 1)) ∷ []) (omega arith) (omega arith))

-- ---- equalities

pub equality_few_literals : (o : Options) (c d : Constraint) (first : ℕ) → IsEquality c d → weight c.terms < 2 ^ 100 → weight d.terms < 2 ^ 100 → HaveFewLiterals (length c.terms + 128) (equality_clauses o c d first)
equality_few_literals o c d first equality lower_light upper_light = by_test (is_joint o c)
  where
    as_long : length d.terms ≡ length c.terms
    as_long = let turned : length d.terms ≡ length (map opposite c.terms) = ap (λ (ts : List Weighted). length ts) equality.halves.turned in omega (arith, turned, length-map c.terms opposite)

    upper : HaveFewLiterals (length c.terms + 128) (constraint_clauses o d (first + constraint_fresh o c))
    upper = subst (λ (k : ℕ). HaveFewLiterals (k + 128) (constraint_clauses o d (first + constraint_fresh o c))) as_long (constraint_few_literals o d (first + constraint_fresh o c) equality.upper_linear upper_light)

    by_test : (b : Bool) → HaveFewLiterals (length c.terms + 128) (cond b (exact_clauses (literals_asked c) first) (constraint_clauses o c first ++ constraint_clauses o d (first + constraint_fresh o c)))
    by_test true = longer 4 (length c.terms + 128) (omega arith) (exact_clauses (literals_asked c) first) (exact_short (literals_asked c) first)
    by_test false =
        joined (length c.terms + 128) (constraint_clauses o c first) (constraint_clauses o d (first + constraint_fresh o c)) (constraint_few_literals o c first equality.lower_linear lower_light) upper
