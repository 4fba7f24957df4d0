-- The clauses of a large node are put out by blocks, and nothing else is left.
use Rattle.std.proofs.Common.{◌≡◌, ◌+◌, ◌-◌, ◌*◌, ◌++◌, ℕ, List, refl, ap, sym, ◌∙◌, subst, arith}
use Rattle.std.specs.Prelude.{map}
use Rattle.pb_base.specs.declared.literal.Lit.{Lit}
use Rattle.pb_steps.specs.declared.step.Step.{Step}
use Rattle.pb_steps.specs.Database.{Database}
use Rattle.pb_derive.specs.Later.{IsLater}
use Rattle.pb_derive.specs.inner.Ran.{RanSwept}
use Rattle.pb_derive.proofs.Laters.{known_below, later_then}
use Rattle.pb_derive.proofs.Lines.{Added, added_then}
use Rattle.pb_derive.proofs.Scoped.{scoped}
use Rattle.pb_tree.specs.Pairs.{Pair, pair_clause}
use Rattle.pb_tree.specs.Scheme.{fresh_of, output, own_of}
use Rattle.pb_tree.specs.Tree.{Tree, node}
use Rattle.pb_tree.proofs.PairJustifications.{IsPositive}
use Rattle.pb_totalizer.specs.Exact.{outputs_of}
use Rattle.pb_totalizer.specs.OutputSteps.{inputs, input_count, before}
use Rattle.pb_totalizer.specs.OutputWindows.{last_of, blocks_of, wide_lines, wide_size, blocks_steps, wide_node_steps}
use Rattle.pb_totalizer.specs.Totalizer.{totalizer}
use Rattle.pb_totalizer.specs.laws.BlockTold.{narrows_later, WideTold, wide_told}
use Rattle.pb_totalizer.specs.laws.ByPairs.{totalizer_by_pairs}
use Rattle.pb_totalizer.specs.laws.OutputAdds.{Below, IsReified, reified_later}
use Rattle.pb_totalizer.specs.laws.OutputKnown.{node_reified, part_known}
use Rattle.pb_totalizer.specs.laws.OutputNodes.{MayDerive, derive_later, left_may, right_may, Cleared}
use Rattle.pb_totalizer.specs.laws.OutputParts.{some_outputs, left_below, right_below}
use Rattle.pb_totalizer.specs.laws.WideBlocks.{pairs_from, blocks_swept, all-blocks}
use Rattle.pb_totalizer.specs.laws.WideNodes.{NodeKnown}

module _ (db : Database) (top bound : ℕ) (l r : Tree) (low first id : ℕ) (h : MayDerive db top bound (node l r) low first id) where
  abbrev P : ℕ → Type 0
  P = Below top

  abbrev middle : ℕ
  middle = first + fresh_of (totalizer bound) l

  abbrev right_id : ℕ
  right_id = id + 2 * fresh_of (totalizer bound) l

  abbrev other : ℕ
  other = db.next + wide_size bound l

  abbrev one_may : MayDerive db top bound l low first id
  one_may = left_may db top bound l r low first id h

  left_told : WideTold db top bound l first id db.next
  left_told = wide_told db top bound l first id db.next (record {
    full = h.full.0;
    few = h.few;
    under = one_may.under;
    vars = h.vars;
    numbered = h.numbered;
    at = refl;
    known = part_known db top bound l low first id h.full.0 (left_below bound l r low first h.below h.over) (omega (arith, h.below, h.under)) one_may.known;
    before = one_may.before;
  })

  abbrev mid1 : Database
  mid1 = left_told.added.ran.end

  abbrev later_1 : IsLater P db mid1
  later_1 = left_told.added.ran.later

  right_told : WideTold mid1 top bound r middle right_id other
  right_told =
      let first_may = right_may db top bound l r low first id h in
      let may = derive_later db mid1 top bound r low middle right_id later_1 first_may in
      wide_told mid1 top bound r middle right_id other (record {
        full = h.full.1;
        few = h.few;
        under = may.under;
        vars = may.vars;
        numbered = may.numbered;
        at = left_told.added.ran.next;
        known = part_known mid1 top bound r low middle right_id h.full.1 (right_below bound l r low first h.below h.over) (omega (arith, h.below, h.under)) may.known;
        before = omega (arith, first_may.before, left_told.added.ran.next);
      })

  abbrev mid2 : Database
  mid2 = right_told.added.ran.end

  abbrev later_2 : IsLater P mid1 mid2
  later_2 = right_told.added.ran.later

  abbrev all_later : IsLater P db mid2
  all_later = later_then P db mid1 mid2 later_1 later_2

  abbrev size : ℕ
  size = wide_size bound l + wide_size bound r

  abbrev lines : List Step
  lines = wide_lines bound l first id db.next ++ wide_lines bound r middle right_id other

  abbrev both_told : Added P db lines size
  both_told = added_then P db (wide_lines bound l first id db.next) (wide_lines bound r middle right_id other) (wide_size bound l) (wide_size bound r) left_told.added right_told.added

  at_2 : mid2.next ≡ db.next + size
  at_2 = omega (arith, right_told.added.ran.next, left_told.added.ran.next)

  reified : IsReified mid2 (first + before bound l r) (id + 2 * before bound l r) (outputs_of bound (node l r) - 1) (input_count bound l r) (inputs bound l r first)
  reified =
      reified_later P db mid2 (first + before bound l r) (id + 2 * before bound l r) (outputs_of bound (node l r) - 1) (input_count bound l r) (inputs bound l r first) all_later (omega (arith, h.before, some_outputs bound (node l r) h.full))
      (node_reified db bound l r first id h.full h.known)

  node_known : NodeKnown mid2 top bound l r first id db.next other
  node_known = record {
    vars = omega (arith, h.vars, all_later.vars);
    numbered = all_later.numbered;
    reverse = λ j within. reified.reverse j (omega (arith, within));
    lefts = λ i within. let k = left_told.known i within in narrows_later P mid1 mid2 _ _ _ later_2 (known_below mid1 _ k.said later_1.numbered k.known) k;
    rights = right_told.known;
    left_narrows = λ i within. let k = left_told.narrow i within in narrows_later P mid1 mid2 _ _ _ later_2 (known_below mid1 _ k.said later_1.numbered k.known) k;
    right_narrows = right_told.narrow;
  }

  abbrev own : Pair → List Lit
  own = pair_clause (bound + 1) (output (totalizer bound) l first) (output (totalizer bound) r middle) (output (totalizer bound) (node l r) first)

  clauses_own : map own (pairs_from (bound + 1) (outputs_of bound r) (last_of bound l) 0 (blocks_of bound l)) ≡ own_of (totalizer bound) l r first
  clauses_own =
      let some_l : IsPositive (totalizer bound) l = λ u listed. omega arith in
      let some_r : IsPositive (totalizer bound) r = λ u listed. omega arith in
      ap (map own) (all-blocks bound l r (some_outputs bound l h.full.0)) ∙ sym ((totalizer_by_pairs bound).merged l r some_l some_r (output (totalizer bound) l first) (output (totalizer bound) r middle) (output (totalizer bound) (node l r) first))

  pub wide_node_swept : Cleared (Below top) db (wide_node_steps bound l r first id db.next) (own_of (totalizer bound) l r first)
  wide_node_swept =
      let blocks = blocks_swept top bound l r low first id db.next other h.full h.few h.over h.below h.under mid2 0 (blocks_of bound l) (omega arith) node_known in
      let body : ℕ → List Step = λ n. blocks_steps bound l r first id db.next other 0 (blocks_of bound l) n in
      let second : RanSwept P mid2 (body (db.next + size)) (own_of (totalizer bound) l r first) blocks.ids =
      subst (λ (cs : List (List Lit)). RanSwept P mid2 (body (db.next + size)) cs blocks.ids) clauses_own
      (subst (λ (n : ℕ). RanSwept P mid2 (body n) (map own (pairs_from (bound + 1) (outputs_of bound r) (last_of bound l) 0 (blocks_of bound l))) blocks.ids) at_2 blocks.swept) in
      let whole = scoped P db lines (body (db.next + size)) (own_of (totalizer bound) l r first) size blocks.ids size 1 both_told.ran h.numbered both_told.adding second (omega arith) in
      record { ids = size + blocks.ids; swept = whole.all }
