-- The lines of a level's order run, and its order is known then.
use Rattle.std.proofs.Common.{◌≡◌, ◌≤◌, ◌<◌, ◌+◌, ◌-◌, ◌^◌, ℕ, zero, suc, List, [], ◌∷◌, length, subst, arith}
use Rattle.pb_base.specs.declared.literal.Lit.{Lit}
use Rattle.pb_steps.specs.declared.step.Step.{Step}
use Rattle.pb_steps.specs.declared.step.Step.TheVariants.{Pol}
use Rattle.pb_steps.specs.Database.{Database}
use Rattle.pb_derive.specs.Later.{Knows, IsNumbered, IsLater}
use Rattle.pb_derive.specs.Reifications.{forward_of, reverse_of}
use Rattle.pb_derive.proofs.Laters.{later_same, later_then, later_knows}
use Rattle.pb_derive.proofs.Lines.{Added, added_none, added_then, added_as, line_ran}
use Rattle.pb_diagram.specs.declared.node.Node.{Node}
use Rattle.pb_diagram.specs.Guards.{child_reification, order_ops, order_lines}
use Rattle.pb_diagram.specs.laws.NodeWorths.{IsOrdered, order_of, all_but}
use Rattle.pb_diagram.specs.laws.OrderLines.{IsOffPair, IsOnPair, order_adds}

module _ (P : ℕ → Type 0) (order q count : ℕ) (l : Lit) (p : ℕ) where
  -- nodes from a place on, each beside the next one: their constraints are known, and so are their children's places
  abbrev pub AreBeside : (db : Database) → IsOrdered db order q count → ℕ → ℕ → List Node → Type 0
  AreBeside db ordered k counts [] = Unit {0}
  AreBeside db ordered k counts (n ∷ []) = Unit {0}
  AreBeside db ordered k counts (n ∷ m ∷ ns) =
      Knows db counts (forward_of (child_reification l q (p + k) n))
      × (Knows db (counts + 3) (reverse_of (child_reification l q (p + suc k) m))
      × (IsOffPair db order q count ordered (all_but (p + suc k)) n.off m.off
      × (IsOnPair db order q count ordered (all_but (p + suc k)) n.on m.on
      × AreBeside db ordered (suc k) (counts + 2) (m ∷ ns))))

  pub record OrderRan (db : Database) (steps : List Step) (id k n : ℕ) : Type 0 where
    pub added : Added P db steps (n - 1)
    pub known : (j i : ℕ) → i ≡ id + j → suc j < n → Knows added.ran.end i (order_of p (k + j))

  pub order_ran : (db : Database) (id k counts : ℕ) (ns : List Node) → IsNumbered db → db.next ≡ id → p + k + length ns ≤ q → count < 2 ^ 32 → ((v : ℕ) → p ≤ v → v < q → P v)
      → ((mid : Database) → IsLater P db mid → (o : IsOrdered mid order q count) × AreBeside mid o k counts ns) → OrderRan db (order_lines order q counts ns) id k (length ns)
  order_ran db id k counts [] numbered at within few named facts = record { added = added_none P db numbered; known = λ j i e less. absurd (omega (arith, less)) }
  order_ran db id k counts (n ∷ []) numbered at within few named facts = record { added = added_none P db numbered; known = λ j i e less. absurd (omega (arith, less)) }
  order_ran db id k counts (n ∷ m ∷ ns) numbered at within few named facts =
      let here = facts db (later_same P db numbered) in
      let step : Step = Pol (order_ops order q counts (counts + 3) n m) in
      let one = line_ran P db step id (order_of p k) numbered at
      (order_adds P db order q count here.0 l p k counts (counts + 3) n m (omega (arith, within)) here.1.0 here.1.1.0 here.1.1.1.0 here.1.1.1.1.0 (named (p + k) (omega arith) (omega (arith, within))) (named (p + suc k) (omega arith) (omega (arith, within))) few) in
      let end : Database = one.added.ran.end in
      let grows = one.added.ran.later in
      let rest = order_ran end (id + 1) (suc k) (counts + 2) (m ∷ ns) grows.numbered (omega (arith, one.added.ran.next, at)) (omega (arith, within)) few named
      (λ mid later. let f = facts mid (later_then P db end mid grows later) in (f.0, f.1.1.1.1.1)) in
      let last : Database = rest.added.ran.end in
      record {
        added = added_as P db (step ∷ order_lines order q (counts + 2) (m ∷ ns)) (1 + (length (m ∷ ns) - 1)) (length (n ∷ m ∷ ns) - 1) (omega arith) (added_then P db (step ∷ []) (order_lines order q (counts + 2) (m ∷ ns)) 1 (length (m ∷ ns) - 1) one.added rest.added);
        known = λ j i e less. by_place j i e less last end one.known rest.added.ran.later (omega (arith, one.added.ran.next, at)) rest.known;
      }
    where
      by_place : (j i : ℕ) → i ≡ id + j → suc j < length (n ∷ m ∷ ns) → (last : Database) (end : Database) → Knows end id (order_of p k) → IsLater P end last → id < end.next
          → ((j i : ℕ) → i ≡ id + 1 + j → suc j < length (m ∷ ns) → Knows last i (order_of p (suc k + j))) → Knows last i (order_of p (k + j))
      by_place zero i e less last end first later below rest =
          let same : id ≡ i = omega (arith, e) in
          let place : k ≡ k + 0 = omega arith in
          subst (λ (o : ℕ). Knows last i (order_of p o)) place (subst (λ (o : ℕ). Knows last o (order_of p k)) same (later_knows P end last id (order_of p k) later below first))
      by_place (suc j) i e less last end first later below rest =
          let place : suc k + j ≡ k + suc j = omega arith in
          subst (λ (o : ℕ). Knows last i (order_of p o)) place (rest j i (omega (arith, e)) (omega (arith, less)))
