-- The clauses of a node are put out, by all outputs of its parts, and nothing else is left.
use Rattle.std.proofs.Common.{◌≡◌, ◌≢◌, ◌≤◌, ◌<◌, ◌+◌, ◌-◌, ◌*◌, ◌^◌, ◌++◌, ℕ, List, [], ◌∷◌, length, refl, ap, sym, ◌∙◌, subst, arith}
use Rattle.std.specs.Prelude.{All, Contains, map, min}
use Rattle.std.proofs.lemmas.List.Elements.{All-map}
use Rattle.pb_base.specs.declared.literal.Lit.{Lit}
use Rattle.pb_base.proofs.Members.{Contains-map}
use Rattle.pb_steps.specs.declared.step.Step.{Step}
use Rattle.pb_steps.specs.Database.{Database}
use Rattle.pb_derive.specs.Claims.{Claim, claim_steps}
use Rattle.pb_derive.specs.Later.{IsNumbered, IsLater, Knows}
use Rattle.pb_derive.specs.inner.Ran.{StepGives, IsClaim, RanSwept}
use Rattle.pb_derive.proofs.Justified.{ReificationsKnown}
use Rattle.pb_derive.proofs.Laters.{known_below, later_then}
use Rattle.pb_derive.proofs.Lines.{Added, added_then}
use Rattle.pb_derive.proofs.Running.{claims_ran}
use Rattle.pb_derive.proofs.Scoped.{scoped}
use Rattle.pb_family.specs.Fresh.{positive_of}
use Rattle.pb_tree.specs.Pairs.{Pair, unless_none}
use Rattle.pb_tree.specs.Scheme.{values, fresh_of, output, own_of}
use Rattle.pb_tree.specs.Tree.{Tree, node}
use Rattle.pb_tree.proofs.Extending.{all_from_each}
use Rattle.pb_tree.proofs.PairLists.{map-map}
use Rattle.pb_tree.proofs.PairJustifications.{IsPositive}
use Rattle.pb_tree.proofs.TreeParts.{IsOver, over_left, over_right}
use Rattle.pb_totalizer.specs.Exact.{outputs_of}
use Rattle.pb_totalizer.specs.Totalizer.{totalizer}
use Rattle.pb_totalizer.specs.OutputSteps.{outputs, inputs, input_count, before, meanings, part_lines, part_size, part_others, pair_claim, node_claims, totalizer_pairs, narrow_node_steps}
use Rattle.pb_totalizer.specs.laws.ByPairs.{pair_bounds, totalizer_by_pairs}
use Rattle.pb_totalizer.specs.laws.OutputAdds.{Below, IsReified, reified_later}
use Rattle.pb_totalizer.specs.laws.OutputClaims.{MayPair, clause-named, pair_gives}
use Rattle.pb_totalizer.specs.laws.OutputKnown.{left_known, right_known, node_reified, part_known, meanings_later}
use Rattle.pb_totalizer.specs.laws.OutputParts.{IsFull, some_outputs, outputs-weight, outputs-apart, left_below, right_below, parts-apart, lefts-low, rights-low}
use Rattle.pb_totalizer.specs.laws.OutputTold.{OthersKnown, others_later, PartTold, part_told}
use Rattle.pb_totalizer.specs.laws.TotalizerLaws.{node_length, values_length, value_from}

-- what the clauses of a tree start from: what its fresh variables mean
pub record MayDerive (db : Database) (top bound : ℕ) (t : Tree) (low first id : ℕ) : Type 0 where
  pub full : IsFull t
  pub few : bound + 1 ≤ 2 ^ 31
  pub over : IsOver (totalizer bound) low t
  pub below : low ≤ first
  pub under : first + fresh_of (totalizer bound) t ≤ top
  pub vars : top ≤ db.vars + 1
  pub numbered : IsNumbered db
  pub known : ReificationsKnown (Knows db) id (meanings bound t first)
  pub before : id + 2 * fresh_of (totalizer bound) t ≤ db.next

pub derive_later : (db end : Database) (top bound : ℕ) (t : Tree) (low first id : ℕ) → IsLater (Below top) db end → MayDerive db top bound t low first id → MayDerive end top bound t low first id
derive_later db end top bound t low first id later h = record {
  full = h.full;
  few = h.few;
  over = h.over;
  below = h.below;
  under = h.under;
  vars = omega (arith, h.vars, later.vars);
  numbered = later.numbered;
  known = meanings_later (Below top) db end bound t first id later h.before h.known;
  before = omega (arith, h.before, later.next);
}

-- steps that put out clauses and leave nothing else
pub record Cleared (P : ℕ → Type 0) (db : Database) (steps : List Step) (clauses : List (List Lit)) : Type 1 where
  pub ids : ℕ
  pub swept : RanSwept P db steps clauses ids

module _ (db : Database) (top bound : ℕ) (l r : Tree) (low first id : ℕ) (h : MayDerive db top bound (node l r) low first id) where
  abbrev P : ℕ → Type 0
  P = Below top

  abbrev middle : ℕ
  middle = first + fresh_of (totalizer bound) l

  abbrev right_id : ℕ
  right_id = id + 2 * fresh_of (totalizer bound) l

  pub left_may : MayDerive db top bound l low first id
  left_may = record {
    full = h.full.0;
    few = h.few;
    over = over_left (totalizer bound) low l r h.over;
    below = h.below;
    under = omega (arith, h.under);
    vars = h.vars;
    numbered = h.numbered;
    known = left_known (Knows db) bound l r first id h.known;
    before = omega (arith, h.before);
  }

  pub right_may : MayDerive db top bound r low (first + fresh_of (totalizer bound) l) (id + 2 * fresh_of (totalizer bound) l)
  right_may = record {
    full = h.full.1;
    few = h.few;
    over = over_right (totalizer bound) low l r h.over;
    below = omega (arith, h.below);
    under = omega (arith, h.under);
    vars = h.vars;
    numbered = h.numbered;
    known = right_known (Knows db) bound l r first id h.known;
    before = omega (arith, h.before);
  }

  -- ---- the lines about both parts

  left_told : PartTold db top bound l first id db.next
  left_told = part_told db top bound l first id db.next (record {
    full = h.full.0;
    few = h.few;
    under = left_may.under;
    vars = h.vars;
    numbered = h.numbered;
    at = refl;
    known = part_known db top bound l low first id h.full.0 (left_below bound l r low first h.below h.over) (omega (arith, h.below, h.under)) left_may.known;
    before = left_may.before;
  })

  abbrev mid1 : Database
  mid1 = left_told.added.ran.end

  abbrev later_1 : IsLater P db mid1
  later_1 = left_told.added.ran.later

  abbrev at_1 : ℕ
  at_1 = db.next + part_size bound l

  right_told : PartTold mid1 top bound r middle right_id at_1
  right_told =
      let may = derive_later db mid1 top bound r low middle right_id later_1 right_may in
      part_told mid1 top bound r middle right_id at_1 (record {
        full = h.full.1;
        few = h.few;
        under = may.under;
        vars = may.vars;
        numbered = may.numbered;
        at = left_told.added.ran.next;
        known = part_known mid1 top bound r low middle right_id h.full.1 (right_below bound l r low first h.below h.over) (omega (arith, h.below, h.under)) may.known;
        before = omega (arith, right_may.before, left_told.added.ran.next);
      })

  abbrev mid2 : Database
  mid2 = right_told.added.ran.end

  abbrev later_2 : IsLater P mid1 mid2
  later_2 = right_told.added.ran.later

  abbrev all_later : IsLater P db mid2
  all_later = later_then P db mid1 mid2 later_1 later_2

  abbrev size : ℕ
  size = part_size bound l + part_size bound r

  abbrev lines : List Step
  lines = part_lines bound l first id db.next ++ part_lines bound r middle right_id at_1

  abbrev both_told : Added P db lines size
  both_told = added_then P db (part_lines bound l first id db.next) (part_lines bound r middle right_id at_1) (part_size bound l) (part_size bound r) left_told.added right_told.added

  at_2 : mid2.next ≡ db.next + size
  at_2 = omega (arith, right_told.added.ran.next, left_told.added.ran.next)

  -- ---- the clauses

  abbrev p : ℕ
  p = first + before bound l r

  abbrev row : ℕ
  row = id + 2 * before bound l r

  abbrev f : ℕ → Lit
  f = output (totalizer bound) l first

  abbrev g : ℕ → Lit
  g = output (totalizer bound) r middle

  reified : IsReified mid2 p row (outputs_of bound (node l r) - 1) (input_count bound l r) (inputs bound l r first)
  reified =
      reified_later P db mid2 p row (outputs_of bound (node l r) - 1) (input_count bound l r) (inputs bound l r first) all_later (omega (arith, h.before, some_outputs bound (node l r) h.full))
      (node_reified db bound l r first id h.full h.known)

  output_in : (t : Tree) (at i : ℕ) → i ≤ outputs_of bound t → i ≢ 0 → Contains (outputs bound t at) (output (totalizer bound) t at i)
  output_in t at i le some = Contains-map (output (totalizer bound) t at) (values (totalizer bound) t) i (value_from bound t i (omega (arith, some)) le)

  may_pair : (i j : ℕ) → i ≤ outputs_of bound l → j ≤ outputs_of bound r → 1 ≤ i + j → i + j ≤ bound + 1 → MayPair top p row (input_count bound l r) f g (outputs bound l first) (outputs bound r middle) i j
  may_pair i j left right some within = record {
    left_in = output_in l first i left;
    right_in = output_in r middle j right;
    left = omega (arith, left, outputs-weight bound l first);
    right = omega (arith, right, outputs-weight bound r middle);
    some = some;
    count = omega (arith, outputs-weight bound l first, outputs-weight bound r middle);
    few = omega (arith, values_length bound l, values_length bound r, h.few);
    lefts_low = lefts-low bound l r low first h.below h.over;
    rights_low = rights-low bound l r low first h.below h.over;
    rights_apart = outputs-apart bound r middle;
    cross = parts-apart bound l r low first h.below h.over;
    under = omega (arith, h.under, node_length bound l r, left, right, some, within);
  }

  -- the node's own output, as the clause has it
  same_own : (i j : ℕ) → i + j ≤ bound + 1 → positive_of (p + (i + j - 1)) ≡ output (totalizer bound) (node l r) first (min (i + j) (bound + 1))
  same_own i j within = ap positive_of (let e : p + (i + j - 1) ≡ first + fresh_of (totalizer bound) l + fresh_of (totalizer bound) r + (min (i + j) (bound + 1) - 1) = omega (arith, within) in e)

  is_claim : (u : Pair) → u.left ≤ outputs_of bound l → u.right ≤ outputs_of bound r → 1 ≤ u.left + u.right → u.left + u.right ≤ bound + 1 → IsClaim P mid2 (pair_claim bound l r first id db.next u)
  is_claim u left right some within =
      let i : ℕ = u.left in
      let j : ℕ = u.right in
      let may = may_pair i j left right some within in
      let step = (pair_claim bound l r first id db.next u).step in
      let shape : Lit → List Lit = λ o. unless_none f i ++ (unless_none g j ++ o ∷ []) in
      let low_id : row + 2 * (i + j - 1) + 1 < mid2.next = omega (arith, h.before, all_later.next, node_length bound l r, left, right, some, within) in
      let left_place : part_others bound l db.next + i < mid1.next = known_under l mid1 first (part_others bound l db.next + i) i (left_told.known i left) left_told.added.ran.later.numbered in
      let right_place : part_others bound r at_1 + j < mid2.next = known_under r mid2 middle (part_others bound r at_1 + j) j (right_told.known j right) right_told.added.ran.later.numbered in
      record {
        named = subst (λ (o : Lit). All (λ k. k.var < top) (shape o)) (same_own i j within) (clause-named top p row (input_count bound l r) f g (outputs bound l first) (outputs bound r middle) i j may);
        takes = refl;
        gives = λ end later.
            let one = others_later P mid2 end bound l first (part_others bound l db.next + i) i later (omega (arith, left_place, later_2.next)) (others_later P mid1 mid2 bound l first (part_others bound l db.next + i) i later_2 left_place (left_told.known i left)) in
            let two = others_later P mid2 end bound r middle (part_others bound r at_1 + j) j later right_place (right_told.known j right) in
            let rev = reified_later P mid2 end p row (outputs_of bound (node l r) - 1) (input_count bound l r) (inputs bound l r first) later (omega (arith, h.before, all_later.next, some_outputs bound (node l r) h.full)) reified in
            subst (λ (o : Lit). StepGives end step (shape o)) (same_own i j within)
            (pair_gives top p row (input_count bound l r) f g (outputs bound l first) (outputs bound r middle) i j may end (part_others bound l db.next + i) (part_others bound r at_1 + j) one.said two.said one.others two.others one.small two.small
            (rev.reverse (i + j - 1) (omega (arith, node_length bound l r, left, right, some, within))) one.known two.known);
      }
    where
      known_under : (t : Tree) (end : Database) (at k i : ℕ) → OthersKnown end bound t at k i → IsNumbered end → k < end.next
      known_under t end at k i o numbered = known_below end k o.said numbered o.known

  claims_hold : All (IsClaim P mid2) (node_claims bound l r first id db.next)
  claims_hold =
      let pairs = totalizer_pairs (bound + 1) (values (totalizer bound) l) (values (totalizer bound) r) in
      All-map (IsClaim P mid2) (pair_claim bound l r first id db.next) pairs
      (all_from_each (λ (u : Pair). IsClaim P mid2 (pair_claim bound l r first id db.next u)) pairs (λ u listed.
      let bounds = pair_bounds (bound + 1) (values (totalizer bound) l) (values (totalizer bound) r) u listed in
      is_claim u bounds.0 bounds.1 bounds.2 bounds.3))

  abbrev clause_in : Claim → List Lit
  clause_in c = c.clause

  claims_own : map clause_in (node_claims bound l r first id db.next) ≡ own_of (totalizer bound) l r first
  claims_own =
      let pairs = totalizer_pairs (bound + 1) (values (totalizer bound) l) (values (totalizer bound) r) in
      let some_l : IsPositive (totalizer bound) l = λ u listed. omega arith in
      let some_r : IsPositive (totalizer bound) r = λ u listed. omega arith in
      map-map clause_in (pair_claim bound l r first id db.next) pairs
      ∙ sym ((totalizer_by_pairs bound).merged l r some_l some_r f g (output (totalizer bound) (node l r) first))

  pub narrow_swept : Cleared (Below top) db (narrow_node_steps bound l r first id db.next) (own_of (totalizer bound) l r first)
  narrow_swept =
      let claims = node_claims bound l r first id db.next in
      let ran = claims_ran P mid2 claims all_later.numbered claims_hold in
      let clauses = map clause_in claims in
      let second : RanSwept P mid2 (claim_steps (db.next + size) claims) (own_of (totalizer bound) l r first) (length claims) =
      subst (λ (cs : List (List Lit)). RanSwept P mid2 (claim_steps (db.next + size) claims) cs (length claims)) claims_own
      (subst (λ (n : ℕ). RanSwept P mid2 (claim_steps n claims) clauses (length claims)) at_2 ran) in
      let whole = scoped P db lines (claim_steps (db.next + size) claims) (own_of (totalizer bound) l r first) size (length claims) size 1 both_told.ran h.numbered both_told.adding second (omega arith) in
      record { ids = size + length claims; swept = whole.all }
