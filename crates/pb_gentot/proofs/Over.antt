-- The values and clauses of a node over two parts, as the code has them.
use Rattle.std.proofs.Common.{◌≡◌, ◌≤◌, ◌+◌, ℕ, List, min, sym, ap, ◌∙◌, subst, arith}
use Rattle.std.specs.Prelude.{All, Contains}
use Rattle.std.proofs.lemmas.List.Elements.{All-contains}
use Rattle.pb_tree.proofs.Extending.{all_from_each}
use Rattle.pb_gentot.specs.declared.outputs.Outputs.TheVariants.{Fresh}
use Rattle.pb_gentot.specs.declared.merge.Emitted.{Emitted}
use Rattle.pb_gentot.specs.Generalized.{ascending, sums, value_clauses}
use Rattle.pb_gentot.specs.laws.GeneralizedLaws.{ascending_has, sums_left, sums_right, sums_both}
use Rattle.pb_gentot.specs.inner.Outputs.{output_in}
use Rattle.pb_gentot.specs.inner.Nodes.{part_output}
use Rattle.pb_gentot.specs.inner.Parts.{node_values, clauses_over_parts}
use Rattle.pb_gentot.specs.Rising.{Rising}
use Rattle.pb_gentot.proofs.RisingLists.{rising_ascending}

pub made_rising : (cap : ℕ) (us vs ws : List ℕ) → ws ≡ ascending cap (sums cap us vs) → Rising ws
made_rising cap us vs ws is = subst Rising (sym is) (rising_ascending cap (sums cap us vs))

-- each value of the parts is one of the node, and so is each sum of two, cut
pub record HasSums (cap : ℕ) (us vs ws : List ℕ) : Type 0 where
  pub lefts : All (Contains ws) us
  pub rights : All (Contains ws) vs
  pub both : All (λ u. All (λ v. Contains ws (min (u + v) cap)) vs) us

pub has_sums : (cap : ℕ) (us vs ws : List ℕ) → All (λ u. u ≤ cap) us → All (λ v. v ≤ cap) vs → ws ≡ ascending cap (sums cap us vs) → HasSums cap us vs ws
has_sums cap us vs ws left right is =
    let inside : (n : ℕ) → Contains (sums cap us vs) n → n ≤ cap → Contains ws n = λ n h le. subst (λ (xs : List ℕ). Contains xs n) (sym is) (ascending_has cap (sums cap us vs) n h le) in
    record {
      lefts = all_from_each (Contains ws) us (λ u h. inside u (sums_left cap us vs u h) (All-contains (λ n. n ≤ cap) us u left h));
      rights = all_from_each (Contains ws) vs (λ v h. inside v (sums_right cap us vs v h) (All-contains (λ n. n ≤ cap) vs v right h));
      both = all_from_each (λ u. All (λ v. Contains ws (min (u + v) cap)) vs) us (λ u h.
          all_from_each (λ v. Contains ws (min (u + v) cap)) vs (λ v k. inside (min (u + v) cap) (sums_both cap us vs u v h k) (omega arith)));
    }

-- the values by those of the parts, where the code has these as slices
pub values_made : (cap : ℕ) (us vs ws lefts rights : List ℕ) → us ≡ lefts → vs ≡ rights → ws ≡ ascending cap (sums cap us vs) → ws ≡ ascending cap (sums cap lefts rights)
values_made cap us vs ws lefts rights left right is = is ∙ (λ i. ascending cap (sums cap (left i) (right i)))

-- the clauses by the parts, where the code has the node's values
pub clauses_made : (cap first : ℕ) (left right : Emitted) (ws : List ℕ) → ws ≡ node_values cap left right
    → value_clauses cap left.values.items right.values.items (part_output left) (part_output right) (output_in (Fresh first) ws) ≡ clauses_over_parts cap first left right
clauses_made cap first left right ws is = ap (λ (us : List ℕ). value_clauses cap left.values.items right.values.items (part_output left) (part_output right) (output_in (Fresh first) us)) is
