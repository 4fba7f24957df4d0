-- The outputs of the parts of a tree: how many there are, their variables, and what they count.
use Rattle.std.proofs.Common.{◌≡◌, ◌≢◌, ◌≤◌, ◌<◌, ◌+◌, ◌-◌, ◌/◌, inl, inr, ℕ, zero, suc, List, [], ◌∷◌, length, take, drop, refl, ap, sym, ◌∙◌, arith, length-drop}
use Rattle.std.specs.Prelude.{All, map, min, sum_by}
use Rattle.std.specs.List.{range_with_len}
use Rattle.std.proofs.lemmas.List.{length-take, length-map}
use Rattle.std.proofs.lemmas.List.Elements.{All-nil, All-cons, All-append, All-map, All-weaker}
use Rattle.std.proofs.lemmas.List.Kept.{AllPairs-cons}
use Rattle.std.proofs.lemmas.List.Sums.{sum_by-cons}
use Rattle.pb_base.specs.declared.literal.Lit.{Lit}
use Rattle.pb_base.specs.Literals.{Assignment}
use Rattle.pb_base.proofs.Pairs.{AllPairs-nil}
use Rattle.pb_norm.specs.Constraints.{Weighted, AllPositive, weight, value}
use Rattle.pb_norm.proofs.AdditionValues.{value-cons}
use Rattle.pb_derive.specs.Forms.{AreApartTerms}
use Rattle.pb_derive.specs.Ones.{unit_of, ones}
use Rattle.pb_derive.proofs.Appends.{weight-append}
use Rattle.pb_derive.proofs.Rups.{ones-weight}
use Rattle.pb_derive.proofs.UnaryRows.{Other, reached, count, reached-value}
use Rattle.pb_derive.proofs.UnitTerms.{ones-all}
use Rattle.pb_family.specs.Fresh.{positive_of}
use Rattle.pb_tree.specs.Tree.{Tree, empty, leaf, node, split_within, tree_of, IsLeafOf}
use Rattle.pb_tree.specs.Scheme.{values, fresh_of, output}
use Rattle.pb_tree.proofs.Extending.{IsNamed, output_named, all_from_each}
use Rattle.pb_tree.proofs.Splitting.{halves}
use Rattle.pb_tree.proofs.TreeParts.{IsOver}
use Rattle.pb_totalizer.specs.Exact.{outputs_of}
use Rattle.pb_totalizer.specs.OutputSteps.{outputs, inputs, input_count, before}
use Rattle.pb_totalizer.specs.Totalizer.{totalizer}
use Rattle.pb_totalizer.specs.laws.CountForms.{both-apart}
use Rattle.pb_totalizer.specs.laws.OutputForms.{Some, count-first}
use Rattle.pb_totalizer.specs.laws.TotalizerLaws.{node_length, totalizer_lawful}

-- ---- no part is empty

abbrev pub IsFull : Tree → Type 0
IsFull empty = ⊥
IsFull (leaf t) = Unit {0}
IsFull (node l r) = IsFull l × IsFull r

full_within : (more : ℕ) (ts : List Weighted) → 1 ≤ length ts → length ts ≤ more → IsFull (split_within more ts)
unfolding split_within
full_within zero ts some fits = absurd (omega (arith, some, fits))
full_within (suc more) [] some fits = absurd (omega (arith, some))
full_within (suc more) (t ∷ []) some fits = tt
full_within (suc more) (t ∷ u ∷ us) some fits =
    let ts = t ∷ u ∷ us in
    let n = length ts / 2 in
    let short = halves t u us more fits in
    (full_within more (take n ts) (omega (arith, length-take n ts)) short.0, full_within more (drop n ts) (omega (arith, length-drop n ts)) short.1)

pub full_tree : (ts : List Weighted) → 1 ≤ length ts → IsFull (tree_of ts)
full_tree ts some = full_within (length ts) ts some (omega arith)

pub some_outputs : (bound : ℕ) (t : Tree) → IsFull t → 1 ≤ outputs_of bound t
some_outputs bound empty full = absurd full
some_outputs bound (leaf t) full = omega arith
some_outputs bound (node l r) full = omega (arith, node_length bound l r, some_outputs bound l full.0)

-- as many leaves as terms
pub ones-sum : (ts : List Weighted) → sum_by (λ (t : Weighted). 1) ts ≡ length ts
ones-sum [] = refl
ones-sum (t ∷ ts) = omega (arith, sum_by-cons (λ (t : Weighted). 1) t ts, ones-sum ts)

-- ---- variables in a row

abbrev run : ℕ → ℕ → ℕ → List Lit
run q j n = map (λ u. positive_of (q + (u - 1))) (range_with_len j n)

run-value : (a : Assignment) (q j n : ℕ) → 1 ≤ j → value a (ones (run q j n)) ≡ count a (q + (j - 1)) n
run-value a q j zero some = refl
run-value a q j (suc n) some =
    let v : ℕ = q + (j - 1) in
    omega (
      arith,
      value-cons a (reached 1 v) (ones (run q (j + 1) n)),
      reached-value a 1 v,
      run-value a q (j + 1) n (omega arith),
      count-first a v n,
      ap (λ (k : ℕ). count a k n) (let e : q + (j + 1 - 1) ≡ suc v = omega (arith, some) in e),
    )

run-within : (q j n : ℕ) → 1 ≤ j → All (λ t. (q + (j - 1) ≤ t.lit.var) × (t.lit.var < q + (j - 1) + n)) (ones (run q j n))
run-within q j zero some = All-nil (λ (t : Weighted). (q + (j - 1) ≤ t.lit.var) × (t.lit.var < q + (j - 1) + 0))
run-within q j (suc n) some =
    All-cons (λ (t : Weighted). (q + (j - 1) ≤ t.lit.var) × (t.lit.var < q + (j - 1) + suc n)) (reached 1 (q + (j - 1))) (ones (run q (j + 1) n)) (omega arith, omega arith)
    (All-weaker (λ (t : Weighted). (q + (j + 1 - 1) ≤ t.lit.var) × (t.lit.var < q + (j + 1 - 1) + n)) (λ (t : Weighted). (q + (j - 1) ≤ t.lit.var) × (t.lit.var < q + (j - 1) + suc n)) (λ t h. (omega (arith, h.0, some), omega (arith, h.1, some))) (ones (run q (j + 1) n))
    (run-within q (j + 1) n (omega arith)))

run-apart : (q j n : ℕ) → 1 ≤ j → AreApartTerms (ones (run q j n))
run-apart q j zero some = AllPairs-nil Other
run-apart q j (suc n) some =
    AllPairs-cons Other (reached 1 (q + (j - 1))) (ones (run q (j + 1) n))
    (All-weaker (λ (t : Weighted). (q + (j + 1 - 1) ≤ t.lit.var) × (t.lit.var < q + (j + 1 - 1) + n)) (Other (reached 1 (q + (j - 1)))) (λ t h e. omega (arith, h.0, some, e)) (ones (run q (j + 1) n)) (run-within q (j + 1) n (omega arith)))
    (run-apart q (j + 1) n (omega arith))

-- ---- the outputs of a part

pub node-counted : (bound : ℕ) (l r : Tree) (first : ℕ) (a : Assignment) → value a (ones (outputs bound (node l r) first)) ≡ count a (first + before bound l r) (outputs_of bound (node l r))
node-counted bound l r first a =
    let q : ℕ = first + fresh_of (totalizer bound) l + fresh_of (totalizer bound) r in
    let n : ℕ = min (outputs_of bound l + outputs_of bound r) (bound + 1) in
    run-value a q 1 n (omega arith) ∙ ap (λ (v : ℕ). count a v n) (let e : q + (1 - 1) ≡ first + before bound l r = omega arith in e) ∙ ap (count a (first + before bound l r)) (sym (node_length bound l r))

pub outputs-weight : (bound : ℕ) (t : Tree) (first : ℕ) → weight (ones (outputs bound t first)) ≡ outputs_of bound t
outputs-weight bound t first = ones-weight (outputs bound t first) ∙ length-map (values (totalizer bound) t) (output (totalizer bound) t first)

pub inputs-weight : (bound : ℕ) (l r : Tree) (first : ℕ) → weight (inputs bound l r first) ≡ input_count bound l r
inputs-weight bound l r first =
    omega (arith, weight-append (ones (outputs bound l first)) (ones (outputs bound r (first + fresh_of (totalizer bound) l))), outputs-weight bound l first, outputs-weight bound r (first + fresh_of (totalizer bound) l))

pub ones-some : (ls : List Lit) → AllPositive (ones ls)
ones-some ls = ones-all Some ls (λ i d w. omega arith)

pub inputs-positive : (bound : ℕ) (l r : Tree) (first : ℕ) → AllPositive (inputs bound l r first)
inputs-positive bound l r first =
    All-append Some (ones (outputs bound l first)) (ones (outputs bound r (first + fresh_of (totalizer bound) l))) (ones-some (outputs bound l first)) (ones-some (outputs bound r (first + fresh_of (totalizer bound) l)))

-- each is a leaf's literal or a fresh variable
pub outputs-named : (bound : ℕ) (t : Tree) (first : ℕ) → All (λ u. IsNamed (totalizer bound) t first u.lit.var) (ones (outputs bound t first))
outputs-named bound t first =
    ones-all (λ (u : Weighted). IsNamed (totalizer bound) t first u.lit.var) (outputs bound t first)
    (All-map (λ (l : Lit). IsNamed (totalizer bound) t first l.var) (output (totalizer bound) t first) (values (totalizer bound) t)
    (all_from_each (λ (u : ℕ). IsNamed (totalizer bound) t first (output (totalizer bound) t first u).var) (values (totalizer bound) t) (λ u h. output_named (totalizer bound) _ (totalizer_lawful bound) t first u h)))

-- leaves stand below the fresh variables
abbrev pub AreLeavesBelow : ℕ → Tree → Type 0
AreLeavesBelow low t = (u : Weighted) → IsLeafOf t u → u.lit.var < low

pub named-low : (bound : ℕ) (t : Tree) (low first n : ℕ) → AreLeavesBelow low t → low ≤ first → IsNamed (totalizer bound) t first n → n < first + fresh_of (totalizer bound) t
named-low bound t low first n below le named =
    elim named as (λ _. n < first + fresh_of (totalizer bound) t) [
      | inl own ↦ omega (arith, own.2, below own.0 own.1, le)
      | inr fresh ↦ fresh.1
    ]

pub outputs-low : (bound : ℕ) (t : Tree) (low first : ℕ) → AreLeavesBelow low t → low ≤ first → All (λ u. u.lit.var < first + fresh_of (totalizer bound) t) (ones (outputs bound t first))
outputs-low bound t low first below le =
    All-weaker (λ (u : Weighted). IsNamed (totalizer bound) t first u.lit.var) (λ (u : Weighted). u.lit.var < first + fresh_of (totalizer bound) t) (λ u named. named-low bound t low first u.lit.var below le named) (ones (outputs bound t first)) (outputs-named bound t first)

pub outputs-apart : (bound : ℕ) (t : Tree) (first : ℕ) → AreApartTerms (ones (outputs bound t first))
outputs-apart bound empty first = AllPairs-nil Other
outputs-apart bound (leaf t) first = AllPairs-cons Other (unit_of t.lit) [] (All-nil (Other (unit_of t.lit))) (AllPairs-nil Other)
outputs-apart bound (node l r) first =
    run-apart (first + fresh_of (totalizer bound) l + fresh_of (totalizer bound) r) 1 (min (outputs_of bound l + outputs_of bound r) (bound + 1)) (omega arith)

-- ---- the inputs of a node

module _ (bound : ℕ) (l r : Tree) (low first : ℕ) (le : low ≤ first) (over : IsOver (totalizer bound) low (node l r)) where
  abbrev middle : ℕ
  middle = first + fresh_of (totalizer bound) l

  abbrev lefts : List Weighted
  lefts = ones (outputs bound l first)

  abbrev rights : List Weighted
  rights = ones (outputs bound r middle)

  pub left_below : AreLeavesBelow low l
  left_below = λ u h. over.below u (inl h)

  pub right_below : AreLeavesBelow low r
  right_below = λ u h. over.below u (inr h)

  pub names_apart : (n k : ℕ) → IsNamed (totalizer bound) l first n → IsNamed (totalizer bound) r middle k → n ≢ k
  names_apart n k one other e =
      elim one as (λ _. ⊥) [
        | inl leaf_l ↦ elim other as (λ _. ⊥) [
          | inl leaf_r ↦ over.apart.2 leaf_l.0 leaf_r.0 leaf_l.1 leaf_r.1 (leaf_l.2 ∙ e ∙ sym leaf_r.2)
          | inr fresh_r ↦ omega (arith, left_below leaf_l.0 leaf_l.1, leaf_l.2, fresh_r.0, e, le)
        ]
        | inr fresh_l ↦ elim other as (λ _. ⊥) [
          | inl leaf_r ↦ omega (arith, right_below leaf_r.0 leaf_r.1, leaf_r.2, fresh_l.0, e, le)
          | inr fresh_r ↦ omega (arith, fresh_l.1, fresh_r.0, e)
        ]
      ]

  pub parts-apart : All (λ t. All (Other t) (ones (outputs bound r (first + fresh_of (totalizer bound) l)))) (ones (outputs bound l first))
  parts-apart =
      All-weaker (λ (t : Weighted). IsNamed (totalizer bound) l first t.lit.var) (λ (t : Weighted). All (Other t) rights) (λ t named.
      All-weaker (λ (u : Weighted). IsNamed (totalizer bound) r middle u.lit.var) (Other t) (λ u also. names_apart t.lit.var u.lit.var named also) rights (outputs-named bound r middle)) lefts (outputs-named bound l first)

  pub inputs-apart : AreApartTerms (inputs bound l r first)
  inputs-apart = both-apart lefts rights (outputs-apart bound l first) (outputs-apart bound r middle) parts-apart

  pub lefts-low : All (λ t. t.lit.var < first + before bound l r) (ones (outputs bound l first))
  lefts-low = All-weaker (λ (t : Weighted). t.lit.var < middle) (λ (t : Weighted). t.lit.var < first + before bound l r) (λ t h. omega (arith, h)) lefts (outputs-low bound l low first left_below le)

  pub rights-low : All (λ t. t.lit.var < first + before bound l r) (ones (outputs bound r (first + fresh_of (totalizer bound) l)))
  rights-low = All-weaker (λ (t : Weighted). t.lit.var < middle + fresh_of (totalizer bound) r) (λ (t : Weighted). t.lit.var < first + before bound l r) (λ t h. omega (arith, h)) rights (outputs-low bound r low middle right_below (omega (arith, le)))

  pub inputs-low : All (λ t. t.lit.var < first + before bound l r) (inputs bound l r first)
  inputs-low = All-append (λ (t : Weighted). t.lit.var < first + before bound l r) lefts rights lefts-low rights-low
