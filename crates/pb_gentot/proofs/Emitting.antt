-- The clauses of a node over two parts, as the code hands them over.
use Rattle.std.proofs.Common.{◌≡◌, ◌≤◌, ◌<◌, ◌+◌, ℕ, List, length, get_or, sym, ap, ◌∙◌, subst, arith}
use Rattle.pb_base.specs.declared.literal.Lit.{Lit}
use Rattle.pb_base.specs.declared.literal.Term.{Term}
use Rattle.pb_norm.specs.Constraints.{weights}
use Rattle.pb_base.proofs.Members.{Contains-nil}
use Rattle.pb_family.specs.Fresh.{positive_of}
use Rattle.pb_family.specs.Handing.{StopsInClauses}
use Rattle.pb_family.specs.Sinks.{SinkState}
use Rattle.pb_family.specs.declared.sink.SinkFault.{SinkFault}
use Rattle.pb_tree.specs.Tree.{Tree, empty, leaf, node, tree_of}
use Rattle.pb_tree.specs.Scheme.{values, fresh_of, output, own_of}
use Rattle.pb_tree.specs.Places.{place_of}
use Rattle.pb_tree.specs.Walks.{AreParts, fresh_over}
use Rattle.pb_gentot.specs.inner.Outputs.{HasRoom, output_at, output_in}
use Rattle.pb_gentot.specs.declared.outputs.Outputs.{Outputs}
use Rattle.pb_gentot.specs.declared.outputs.Outputs.TheVariants.{Single, Fresh}
use Rattle.pb_gentot.specs.Rising.{Rising}
use Rattle.pb_gentot.proofs.RisingLists.{place_at, rising_ascending}
use Rattle.pb_gentot.specs.declared.merge.Emitted.{Emitted}
use Rattle.pb_gentot.specs.inner.Parts.{IsEmitted, clauses_over_parts, node_values, output_over}
use Rattle.pb_gentot.specs.Generalized.{generalized, value_clauses, sums}
use Rattle.pb_gentot.proofs.Parts.{values_are_over}

rising_of : (bound : ℕ) (t : Tree) → Rising (values (generalized bound) t)
rising_of bound empty = tt
rising_of bound (leaf t) = ((λ n h. absurd (Contains-nil n h)), tt)
rising_of bound (node l r) = rising_ascending (bound + 1) (sums (bound + 1) (values (generalized bound) l) (values (generalized bound) r))

-- fewer outputs have room too
pub room_fewer : (given : Outputs) (n k : ℕ) → k ≤ n → HasRoom given n → HasRoom given k
room_fewer (Single lit) n k le room = tt
room_fewer (Fresh first) n k le room = (room.0, omega (arith, room.1, le))

-- the literal at a place is that of the value there
pub output_placed : (given : Outputs) (us : List ℕ) (i : ℕ) → Rising us → i < length us → output_at given i ≡ output_in given us (get_or us i 0)
output_placed given us i rising within = ap (output_at given) (sym (place_at us i 0 rising within))

pub rising_values : (bound : ℕ) (t : Tree) (us : List ℕ) → us ≡ values (generalized bound) t → Rising us
rising_values bound t us is = subst Rising (sym is) (rising_of bound t)

pub node_output : (bound : ℕ) (l r : Tree) (first base : ℕ) (us : List ℕ) → base ≡ first + fresh_of (generalized bound) l + fresh_of (generalized bound) r → us ≡ values (generalized bound) (node l r)
    → output_in (Fresh base) us ≡ output (generalized bound) (node l r) first
node_output bound l r first base us is own = λ i u. positive_of (is i + place_of u (own i))

-- ---- over two parts of a walk

module _ (bound : ℕ) {ts front back : List Term} {before next : ℕ} (parts : AreParts (generalized bound) ts front back before next) (first : ℕ) (left right : Emitted)
    (lefts : IsEmitted bound front (first + before) left) (rights : IsEmitted bound back (first + (before + fresh_over (generalized bound) front)) right) where
  over_output : output_over (bound + 1) (first + next) left right ≡ output (generalized bound) (node (tree_of (weights front)) (tree_of (weights back))) (first + before)
  over_output =
      let start : first + next ≡ first + before + fresh_over (generalized bound) front + fresh_over (generalized bound) back = omega (arith, parts.behind) in
      node_output bound (tree_of (weights front)) (tree_of (weights back)) (first + before) (first + next) (node_values (bound + 1) left right) start
      (values_are_over bound (tree_of (weights front)) (tree_of (weights back)) left.values.items right.values.items lefts.values_are rights.values_are)

  pub parts_output : output_over (bound + 1) (first + next) left right ≡ output (generalized bound) (tree_of (weights ts)) (first + before)
  parts_output = over_output ∙ ap (λ (t : Tree). output (generalized bound) t (first + before)) (sym parts.halves.tree)

  pub parts_own : clauses_over_parts (bound + 1) (first + next) left right ≡ own_of (generalized bound) (tree_of (weights front)) (tree_of (weights back)) (first + before)
  parts_own =
      let middle : first + (before + fresh_over (generalized bound) front) ≡ first + before + fresh_over (generalized bound) front = omega arith in
      let behind = rights.outputs_are ∙ ap (output (generalized bound) (tree_of (weights back))) middle in
      λ i. value_clauses (bound + 1) (lefts.values_are i) (rights.values_are i) (lefts.outputs_are i) (behind i) (over_output i)

-- a first part of the same clauses, written another way
pub stops_as : {R : Type 0} (cs ds : List (List Lit)) (f : SinkFault) (a b : SinkState R) → cs ≡ ds → StopsInClauses cs a b f → StopsInClauses ds a b f
stops_as cs ds f a b same h = subst (λ (xs : List (List Lit)). StopsInClauses xs a b f) same h
