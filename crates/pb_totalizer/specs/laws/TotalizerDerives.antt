-- The clauses of a totalizer are derived over the outputs of its nodes' parts.
use Rattle.std.proofs.Common.{◌≡◌, ◌≤◌, ◌<◌, ◌+◌, ◌-◌, ◌*◌, ◌^◌, ◌++◌, ℕ, true, List, [], ◌∷◌, length, refl, ap, sym, ◌∙◌, subst, arith}
use Rattle.std.specs.Prelude.{All, map}
use Rattle.std.proofs.lemmas.List.Elements.{All-nil, All-cons}
use Rattle.pb_base.specs.declared.literal.Lit.{Lit}
use Rattle.pb_base.specs.Literals.{negated}
use Rattle.pb_norm.specs.BoundedSums.{BoundedSum, IsProper}
use Rattle.pb_norm.specs.Constraints.{Weighted, weight}
use Rattle.pb_norm.specs.Reduction.{lits_of, all_weigh, opposite}
use Rattle.pb_steps.specs.declared.step.Step.{Step}
use Rattle.pb_steps.specs.Database.{Database}
use Rattle.pb_derive.specs.Claims.{Claim, claim_steps}
use Rattle.pb_derive.specs.Deletions.{deletion_steps}
use Rattle.pb_derive.specs.Derivations.{HasRoom, IsReadyFor, Derives}
use Rattle.pb_derive.specs.FollowedBy.{followed_by}
use Rattle.pb_derive.specs.Later.{IsLater, Knows}
use Rattle.pb_derive.specs.Ones.{ones}
use Rattle.pb_derive.specs.Reifications.{Reification, reification_steps}
use Rattle.pb_derive.specs.inner.Ran.{IsClaim, RanSwept, StepGives}
use Rattle.pb_derive.proofs.FollowedBy.{followed_swept}
use Rattle.pb_derive.proofs.Justified.{room_of}
use Rattle.pb_derive.proofs.Laters.{known_below, later_knows, later_then}
use Rattle.pb_derive.proofs.Lines.{Added, added_then}
use Rattle.pb_derive.proofs.Meant.{Meant, reifications_ran}
use Rattle.pb_derive.proofs.Phases.{reifications_add, swept_derives}
use Rattle.pb_derive.proofs.Running.{claims_ran}
use Rattle.pb_derive.proofs.Scoped.{Scoped, scoped}
use Rattle.pb_derive.proofs.UnitTerms.{ones-lits}
use Rattle.pb_family.specs.Families.{VarsBelow}
use Rattle.pb_family.specs.Fresh.{positive_of}
use Rattle.pb_family.proofs.UnitSums.{coefficients_one, unit_weight}
use Rattle.pb_tree.specs.Scheme.{fresh_of, output, clauses_of, tree_clauses}
use Rattle.pb_tree.specs.Tree.{Tree, empty, leaf, node, tree_of}
use Rattle.pb_tree.proofs.AlongDerives.{over_terms}
use Rattle.pb_tree.proofs.Splitting.{split_sum}
use Rattle.pb_tree.proofs.TreeDerives.{weighs_of}
use Rattle.pb_tree.proofs.TreeParts.{IsOver}
use Rattle.pb_tree.proofs.TreeRows.{leaves_of}
use Rattle.pb_totalizer.specs.Exact.{outputs_of}
use Rattle.pb_totalizer.specs.Totalizer.{totalizer, totalizer_clauses, totalizer_fresh, totalizer_size}
use Rattle.pb_totalizer.specs.OutputSteps.{before, meanings, totalizer_pairs}
use Rattle.pb_totalizer.specs.TotalizerSteps.{nodes_steps, nodes_in, sum_at, sum_lines, root_claim, root_steps, totalizer_steps_of, totalizer_steps}
use Rattle.pb_totalizer.specs.laws.ByPairs.{totalizer_by_pairs}
use Rattle.pb_totalizer.specs.laws.OutputAdds.{Below}
use Rattle.pb_totalizer.specs.laws.WholeCounts.{whole-few}
use Rattle.pb_totalizer.specs.laws.OutputKnown.{length-meanings}
use Rattle.pb_totalizer.specs.laws.OutputLeaves.{leaf_terms}
use Rattle.pb_totalizer.specs.laws.OutputReifications.{IsRising, rising_reifications, rising_known, meanings-row, meanings-rising}
use Rattle.pb_totalizer.specs.laws.OutputNodes.{MayDerive, derive_later, left_may, right_may, Cleared}
use Rattle.pb_totalizer.specs.laws.NodesSwept.{nodes_swept}
use Rattle.pb_totalizer.specs.laws.OutputParts.{IsFull, full_tree, ones-sum}
use Rattle.pb_totalizer.specs.laws.OutputTrees.{summed_later, below_next, root_gives, leaf_weight-left, SumsRan, sums_ran}
use Rattle.pb_totalizer.specs.laws.TotalizerLaws.{totalizer_suits, totalizer_counts, leaf_count, values_count}

-- what the whole starts from: room for the fresh variables, and the sum's own constraint
pub record MayStartTree (db : Database) (bound : ℕ) (t : Tree) (first own : ℕ) : Type 0 where
  pub full : IsFull t
  pub few : bound + 1 ≤ 2 ^ 31
  pub many : weight (leaf_terms t) ≤ 2 ^ 32
  pub over : IsOver (totalizer bound) first t
  pub room : HasRoom first (fresh_of (totalizer bound) t) db
  pub wide : outputs_of bound t ≡ bound + 1
  pub two : 1 ≤ bound
  pub proper : bound ≤ weight (leaf_terms t)
  pub stands : Knows db own (record { terms = map opposite (leaf_terms t); degree = weight (leaf_terms t) - bound })

module _ (db : Database) (bound : ℕ) (l r : Tree) (first own : ℕ) (h : MayStartTree db bound (node l r) first own) where
  abbrev t : Tree
  t = node l r

  abbrev top : ℕ
  top = first + fresh_of (totalizer bound) (node l r)

  abbrev P : ℕ → Type 0
  P = Below top

  abbrev ms : List Reification
  ms = meanings bound (node l r) first

  abbrev id : ℕ
  id = db.next

  size : length ms ≡ fresh_of (totalizer bound) t
  size = length-meanings bound t first

  rising : All IsRising ms
  rising = meanings-rising bound h.few t first first (omega arith) h.over

  meant : Meant P db ms
  meant =
      subst (λ (n : ℕ). Meant (λ v. v < first + n) db ms) size
      (reifications_ran (λ v. v < first + length ms) db ms h.room.numbered (rising_reifications db first ms (meanings-row bound h.few t first) rising (subst (λ (n : ℕ). HasRoom first n db) (sym size) h.room)))

  abbrev mid : Database
  mid = meant.ran.end

  abbrev later : IsLater P db mid
  later = meant.ran.later

  may : MayDerive mid top bound t first first id
  may = record {
    full = h.full;
    few = h.few;
    over = h.over;
    below = omega arith;
    under = omega arith;
    vars = omega (arith, h.room.vars, later.vars);
    numbered = later.numbered;
    known = rising_known mid id ms rising meant.meant;
    before = omega (arith, meant.ran.next, size);
  }

  -- ---- the sums

  abbrev at : ℕ
  at = mid.next

  abbrev middle : ℕ
  middle = first + fresh_of (totalizer bound) l

  abbrev right_id : ℕ
  right_id = id + 2 * fresh_of (totalizer bound) l

  some_ids : 1 ≤ at
  some_ids = omega (arith, known_below db own _ h.room.numbered h.stands, later.next)

  left_sums : SumsRan mid top bound l first id at
  left_sums = sums_ran mid top bound l first first id at (left_may mid top bound l r first first id may) (omega (arith, leaf_weight-left l r, h.many)) some_ids refl

  abbrev mid1 : Database
  mid1 = left_sums.added.ran.end

  at_1 : mid1.next ≡ at + nodes_in l
  at_1 = left_sums.added.ran.next

  right_sums : SumsRan mid1 top bound r middle right_id (at + nodes_in l)
  right_sums =
      sums_ran mid1 top bound r first middle right_id (at + nodes_in l) (derive_later mid mid1 top bound r first middle right_id left_sums.added.ran.later (right_may mid top bound l r first first id may)) (omega (arith, leaf_weight-left l r, h.many)) (omega (arith, some_ids)) at_1

  abbrev mid2 : Database
  mid2 = right_sums.added.ran.end

  abbrev lines : List Step
  lines = sum_lines bound l id at ++ sum_lines bound r right_id (at + nodes_in l)

  abbrev count : ℕ
  count = nodes_in l + nodes_in r

  abbrev both_added : Added P mid lines count
  both_added = added_then P mid (sum_lines bound l id at) (sum_lines bound r right_id (at + nodes_in l)) (nodes_in l) (nodes_in r) left_sums.added right_sums.added

  at_2 : mid2.next ≡ at + count
  at_2 = omega (arith, right_sums.added.ran.next, at_1)

  later_2 : IsLater P mid mid2
  later_2 = later_then P mid mid1 mid2 left_sums.added.ran.later right_sums.added.ran.later

  -- ---- the clauses of the nodes, and that of the root

  nodes : Cleared P mid2 (nodes_steps bound t first id mid2.next) (clauses_of (totalizer bound) t first)
  nodes = nodes_swept mid2 top bound t first first id (derive_later mid mid2 top bound t first first id later_2 may)

  abbrev mid3 : Database
  mid3 = nodes.swept.ran.end

  later_3 : IsLater P mid2 mid3
  later_3 = nodes.swept.ran.later

  abbrev claim : Claim
  claim = root_claim bound l r first own id at

  abbrev clause : List Lit
  clause = negated (output (totalizer bound) t first (bound + 1)) ∷ []

  left_place : sum_at l at < mid1.next
  left_place = below_next l at mid1.next some_ids (omega (arith, at_1))

  right_place : sum_at r (at + nodes_in l) < mid2.next
  right_place = below_next r (at + nodes_in l) mid2.next (omega (arith, some_ids)) (omega (arith, at_2))

  same_root : positive_of (first + before bound l r + bound) ≡ output (totalizer bound) t first (bound + 1)
  same_root = ap positive_of (let e : first + before bound l r + bound ≡ first + fresh_of (totalizer bound) l + fresh_of (totalizer bound) r + (bound + 1 - 1) = omega arith in e)

  is_claim : IsClaim P mid3 claim
  is_claim = record {
    named = subst (λ (o : Lit). All (λ k. k.var < top) (negated o ∷ [])) same_root (All-cons (λ (k : Lit). k.var < top) (negated (positive_of (first + before bound l r + bound))) [] (omega (arith, h.wide)) (All-nil (λ (k : Lit). k.var < top)));
    takes = refl;
    gives = λ end after.
        let later_end : IsLater P mid2 end = later_then P mid2 mid3 end later_3 after in
        let from_start : IsLater P mid end = later_then P mid mid2 end later_2 later_end in
        let one = summed_later P mid2 end bound l first (sum_at l at) later_end (omega (arith, left_place, right_sums.added.ran.later.next)) (summed_later P mid1 mid2 bound l first (sum_at l at) right_sums.added.ran.later left_place left_sums.summed) in
        let two = summed_later P mid2 end bound r middle (sum_at r (at + nodes_in l)) later_end right_place right_sums.summed in
        let held = later_knows P db end own _ (later_then P db mid end later from_start) (known_below db own _ h.room.numbered h.stands) h.stands in
        subst (λ (o : Lit). StepGives end claim.step (negated o ∷ [])) same_root
        (root_gives end top bound l r first first id (derive_later mid end top bound t first first id from_start may) h.many h.wide h.proper own (sum_at l at) (sum_at r (at + nodes_in l)) one two held);
  }

  root : RanSwept P mid3 (claim_steps mid3.next (claim ∷ [])) (clause ∷ []) 1
  root = claims_ran P mid3 (claim ∷ []) later_3.numbered (All-cons (IsClaim P mid3) claim [] is_claim (All-nil (IsClaim P mid3)))

  abbrev clauses : List (List Lit)
  clauses = clauses_of (totalizer bound) t first ++ clause ∷ []

  abbrev ending : ℕ → List Step
  ending n = claim_steps n (claim ∷ [])

  abbrev body : ℕ → List Step
  body = followed_by (nodes_steps bound t first id) ending

  inner : RanSwept P mid2 (body (at + count)) clauses (nodes.ids + 1)
  inner = subst (λ (n : ℕ). RanSwept P mid2 (body n) clauses (nodes.ids + 1)) at_2 (followed_swept P mid2 (nodes_steps bound t first id) ending (clauses_of (totalizer bound) t first) (clause ∷ []) nodes.ids 1 nodes.swept root)

  with_sums : Scoped P mid (lines ++ (body (at + count) ++ deletion_steps 1 at count)) clauses (count + (nodes.ids + 1)) count
  with_sums = scoped P mid lines (body (at + count)) clauses count (nodes.ids + 1) 1 count both_added.ran later.numbered both_added.adding inner (omega arith)

  abbrev all_ids : ℕ
  all_ids = count + (nodes.ids + 1)

  middle_steps : RanSwept P mid (root_steps bound l r first own id (id + 2 * length ms)) clauses all_ids
  middle_steps = subst (λ (n : ℕ). RanSwept P mid (root_steps bound l r first own id n) clauses all_ids) meant.ran.next with_sums.all

  pub tree_derived : Derives db (totalizer_steps_of bound (node l r) first own db.next) (tree_clauses (totalizer bound) (node l r) first) (first + fresh_of (totalizer bound) (node l r))
  tree_derived =
      let all = scoped P db (reification_steps id ms) (root_steps bound l r first own id (id + 2 * length ms)) clauses (2 * length ms) all_ids 2 (length ms) meant.ran h.room.numbered (reifications_add id ms) middle_steps refl in
      swept_derives db (totalizer_steps_of bound (node l r) first own db.next) clauses top (2 * length ms + all_ids) h.room.numbered all.all

-- ---- any tree that the sum has

tree_derives : (db : Database) (bound : ℕ) (t : Tree) (first own : ℕ) → MayStartTree db bound t first own → Derives db (totalizer_steps_of bound t first own db.next) (tree_clauses (totalizer bound) t first) (first + fresh_of (totalizer bound) t)
tree_derives db bound empty first own h = absurd h.full
tree_derives db bound (leaf t) first own h = absurd (omega (arith, h.wide, h.two))
tree_derives db bound (node l r) first own h = tree_derived db bound l r first own h

-- from each database that is ready, the steps run and put out the clauses
pub totalizer_derives : (m : BoundedSum) → all_weigh 1 m.terms ≡ true → IsProper m → length m.terms < 2 ^ 31 → (first id : ℕ) (db : Database) → VarsBelow first m.terms → IsReadyFor m first (totalizer_fresh m) id db
    → Derives db (totalizer_steps m first id db.next) (totalizer_clauses m first) (first + totalizer_fresh m)
totalizer_derives m units proper few first id db below ready =
    let t : Tree = tree_of m.terms in
    let s = totalizer m.bound in
    let suits = totalizer_suits m units proper in
    let same : leaf_terms t ≡ m.terms = ap (λ (ts : List Weighted). ones (lits_of ts)) (leaves_of m.terms) ∙ ones-lits m.terms (coefficients_one m.terms units) in
    let total : weight (leaf_terms t) ≡ weight m.terms = ap weight same in
    let size = unit_weight m.terms units in
    let leaves_many : leaf_count t ≡ length m.terms = split_sum (λ (t : Weighted). 1) m.terms ∙ ones-sum m.terms in
    tree_derives db m.bound t first id (record {
      full = full_tree m.terms (omega (arith, size, proper.heavy));
      few = omega (arith, size, proper.heavy, few);
      many = omega (arith, total, size, few);
      over = over_terms s (totalizer_pairs (m.bound + 1)) (totalizer_by_pairs m.bound) m.terms (weighs_of s m suits) first below (omega (arith, size, few));
      room = room_of m first (totalizer_fresh m) id db ready;
      wide = omega (arith, values_count m.bound t, leaves_many, size, proper.heavy);
      two = proper.bound_from;
      proper = omega (arith, total, proper.heavy);
      stands = subst (λ (ts : List Weighted). Knows db id (record { terms = map opposite ts; degree = weight ts - m.bound })) (sym same) ready.stands;
    })

-- the steps are few
pub totalizer_lines : (m : BoundedSum) → all_weigh 1 m.terms ≡ true → IsProper m → (first id next : ℕ) → length (totalizer_steps m first id next) ≤ 8 * (totalizer_fresh m + totalizer_size m)
totalizer_lines m units proper first id next =
    omega (arith, whole-few m.bound (tree_of m.terms) first id next (full_tree m.terms (omega (arith, unit_weight m.terms units, proper.heavy))), totalizer_counts m first)
