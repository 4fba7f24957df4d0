-- What is known of the outputs along a tree, once they are reified.
use Rattle.std.proofs.Common.{◌≡◌, ◌≤◌, ◌<◌, ◌+◌, ◌-◌, ◌*◌, ℕ, zero, suc, List, ◌++◌, length, get_or, refl, sym, ◌∙◌, subst, arith, length-append}
use Rattle.std.specs.Prelude.{min}
use Rattle.std.specs.List.{range_with_len}
use Rattle.pb_norm.specs.Constraints.{Weighted, Constraint}
use Rattle.pb_steps.specs.Database.{Database}
use Rattle.pb_derive.specs.Later.{Knows, IsLater}
use Rattle.pb_derive.specs.Reifications.{Reification, forward_of, reverse_of}
use Rattle.pb_derive.proofs.Justified.{ReificationsKnown, known_front, known_back}
use Rattle.pb_derive.proofs.Laters.{later_knows}
use Rattle.pb_tree.specs.Tree.{Tree, empty, leaf, node}
use Rattle.pb_tree.specs.Scheme.{fresh_of}
use Rattle.pb_tree.specs.TreeSteps.{reifications_from}
use Rattle.pb_totalizer.specs.Exact.{outputs_of}
use Rattle.pb_totalizer.specs.OutputSteps.{inputs, input_count, before, node_meanings, meanings}
use Rattle.pb_totalizer.specs.Totalizer.{totalizer}
use Rattle.pb_totalizer.specs.laws.OutputAdds.{IsReified}
use Rattle.pb_totalizer.specs.laws.OutputForms.{meaning_at}
use Rattle.pb_totalizer.specs.laws.OutputParts.{IsFull, AreLeavesBelow, some_outputs, inputs-weight}
use Rattle.pb_totalizer.specs.laws.OutputTold.{IsPartKnown}
use Rattle.pb_totalizer.specs.laws.TotalizerLaws.{node_length}

pub length-run : (var j n : ℕ) (ts : List Weighted) → length (reifications_from var ts (range_with_len j n)) ≡ n
length-run var j zero ts = refl
length-run var j (suc n) ts = omega (arith, length-run (var + 1) (j + 1) n ts)

pub at-run : (var j n k : ℕ) (ts : List Weighted) (d : Reification) → k < n → get_or (reifications_from var ts (range_with_len j n)) k d ≡ record { var = var + k; sum = ts; least = j + k }
at-run var j zero k ts d within = absurd (omega (arith, within))
at-run var j (suc n) zero ts d within =
    let e : var ≡ var + 0 = omega arith in
    let f : j ≡ j + 0 = omega arith in
    λ i. record { var = e i; sum = ts; least = f i }
at-run var j (suc n) (suc k) ts d within =
    let e : var + 1 + k ≡ var + suc k = omega arith in
    let f : j + 1 + k ≡ j + suc k = omega arith in
    at-run (var + 1) (j + 1) n k ts d (omega (arith, within)) ∙ (λ i. record { var = e i; sum = ts; least = f i })

pub length-node : (bound : ℕ) (l r : Tree) (first : ℕ) → length (node_meanings bound l r first) ≡ outputs_of bound (node l r)
length-node bound l r first = length-run (first + before bound l r) 1 (min (outputs_of bound l + outputs_of bound r) (bound + 1)) (inputs bound l r first) ∙ sym (node_length bound l r)

pub length-meanings : (bound : ℕ) (t : Tree) (first : ℕ) → length (meanings bound t first) ≡ fresh_of (totalizer bound) t
length-meanings bound empty first = refl
length-meanings bound (leaf t) first = refl
length-meanings bound (node l r) first =
    let rights = meanings bound r (first + fresh_of (totalizer bound) l) in
    let own = node_meanings bound l r first in
    omega (
      arith,
      length-append (meanings bound l first) (rights ++ own),
      length-append rights own,
      length-meanings bound l first,
      length-meanings bound r (first + fresh_of (totalizer bound) l),
      length-node bound l r first,
    )

-- ---- parts of what is known

module _ (K : ℕ → Constraint → Type 0) (bound : ℕ) (l r : Tree) (first id : ℕ) (h : ReificationsKnown K id (meanings bound (node l r) first)) where
  abbrev middle : ℕ
  middle = first + fresh_of (totalizer bound) l

  abbrev rights : List Reification
  rights = meanings bound r middle

  abbrev own : List Reification
  own = node_meanings bound l r first

  pub left_known : ReificationsKnown K id (meanings bound l first)
  left_known = known_front K id (meanings bound l first) (rights ++ own) h

  rest_known : ReificationsKnown K (id + 2 * fresh_of (totalizer bound) l) (rights ++ own)
  rest_known = known_back K id (fresh_of (totalizer bound) l) (meanings bound l first) (rights ++ own) (length-meanings bound l first) h

  pub right_known : ReificationsKnown K (id + 2 * fresh_of (totalizer bound) l) (meanings bound r (first + fresh_of (totalizer bound) l))
  right_known = known_front K (id + 2 * fresh_of (totalizer bound) l) rights own rest_known

  own_known : ReificationsKnown K (id + 2 * before bound l r) own
  own_known =
      subst (λ (n : ℕ). ReificationsKnown K n own) (let e : id + 2 * fresh_of (totalizer bound) l + 2 * fresh_of (totalizer bound) r ≡ id + 2 * before bound l r = omega arith in e)
      (known_back K (id + 2 * fresh_of (totalizer bound) l) (fresh_of (totalizer bound) r) rights own (length-meanings bound r middle) rest_known)

  pub place_known : (j : ℕ) → j < outputs_of bound (node l r) → K (id + 2 * before bound l r + 2 * j) (forward_of (meaning_at (first + before bound l r) (inputs bound l r first) j)) × K (id + 2 * before bound l r + 2 * j + 1) (reverse_of (meaning_at (first + before bound l r) (inputs bound l r first) j))
  place_known j within =
      let p : ℕ = first + before bound l r in
      let ts = inputs bound l r first in
      let n : ℕ = min (outputs_of bound l + outputs_of bound r) (bound + 1) in
      let e : 1 + j ≡ suc j = omega arith in
      own_known j (meaning_at p ts j) (record {
        within = omega (arith, within, length-node bound l r first);
        here = at-run p 1 n j ts (meaning_at p ts j) (omega (arith, within, node_length bound l r)) ∙ (λ i. record { var = p + j; sum = ts; least = e i });
      })

module _ (db : Database) (bound : ℕ) (l r : Tree) (first id : ℕ) (full : IsFull (node l r)) (h : ReificationsKnown (Knows db) id (meanings bound (node l r) first)) where
  last-within : (j : ℕ) → j < suc (outputs_of bound (node l r) - 1) → j < outputs_of bound (node l r)
  last-within j within = omega (arith, within, some_outputs bound (node l r) full)

  pub node_reified : IsReified db (first + before bound l r) (id + 2 * before bound l r) (outputs_of bound (node l r) - 1) (input_count bound l r) (inputs bound l r first)
  node_reified = record {
    size = inputs-weight bound l r first;
    within = omega (arith, node_length bound l r, some_outputs bound (node l r) full);
    forward = λ j within. (place_known (Knows db) bound l r first id h j (last-within j within)).0;
    reverse = λ j within. (place_known (Knows db) bound l r first id h j (last-within j within)).1;
  }

pub part_known : (db : Database) (top bound : ℕ) (t : Tree) (low first id : ℕ) → IsFull t → AreLeavesBelow low t → low ≤ top → ReificationsKnown (Knows db) id (meanings bound t first) → IsPartKnown db top bound t first id
part_known db top bound empty low first id full below le h = absurd full
part_known db top bound (leaf t) low first id full below le h = omega (arith, below t refl, le)
part_known db top bound (node l r) low first id full below le h = node_reified db bound l r first id full h

-- it stays known
pub meanings_later : (P : ℕ → Type 0) (db end : Database) (bound : ℕ) (t : Tree) (first id : ℕ) → IsLater P db end → id + 2 * fresh_of (totalizer bound) t ≤ db.next → ReificationsKnown (Knows db) id (meanings bound t first) → ReificationsKnown (Knows end) id (meanings bound t first)
meanings_later P db end bound t first id later below h k m at =
    let both = h k m at in
    let under : k < fresh_of (totalizer bound) t = omega (arith, at.within, length-meanings bound t first) in
    (later_knows P db end (id + 2 * k) (forward_of m) later (omega (arith, below, under)) both.0, later_knows P db end (id + 2 * k + 1) (reverse_of m) later (omega (arith, below, under)) both.1)
