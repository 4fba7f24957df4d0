-- What is said of the nodes of a level, node by node.
use Rattle.std.proofs.Common.{◌≡◌, ◌≤◌, ◌<◌, ◌+◌, ◌-◌, ◌*◌, ◌∙◌, ℕ, zero, suc, List, [], ◌∷◌, ◌++◌, drop, length, refl, ap, sym, append_assoc, arith}
use Rattle.std.proofs.lemmas.List.{drop_all, length-drop}
use Rattle.pb_base.specs.declared.literal.Lit.{Lit}
use Rattle.pb_steps.specs.declared.step.Step.{Step}
use Rattle.pb_steps.specs.declared.step.Step.TheVariants.{Pol}
use Rattle.pb_derive.specs.Reifications.{reification_steps}
use Rattle.pb_family.specs.Derivations.{pieces}
use Rattle.pb_diagram.specs.declared.node.Node.{Node}
use Rattle.pb_diagram.specs.Guards.{child_reification, level_reifications, order_lines, order_ops}
use Rattle.pb_diagram.specs.GuardedSteps.{level_claims, off_claims, on_claim}
use Rattle.pb_diagram.specs.inner.Tiers.{node_at}
use Rattle.pb_diagram.proofs.GuardedOps.{nodes_left_from}

-- ---- what they mean

module _ (l : Lit) (q p : ℕ) (ns : List Node) where
  abbrev pub node_piece : ℕ → ℕ → List Step
  node_piece id j = reification_steps id (child_reification l q (p + j) (node_at ns j) ∷ [])

  reifications_left : (i : ℕ) → i < length ns → level_reifications l q (p + i) (drop i ns) ≡ child_reification l q (p + i) (node_at ns i) ∷ level_reifications l q (p + (i + 1)) (drop (i + 1) ns)
  reifications_left i within =
      ap (level_reifications l q (p + i)) (nodes_left_from ns i within)
      ∙ ap (λ (v : ℕ). child_reification l q (p + i) (node_at ns i) ∷ level_reifications l q v (drop (i + 1) ns)) (let e : p + i + 1 ≡ p + (i + 1) = omega arith in e)

  nodes_from : (n i next : ℕ) → i + n ≡ length ns → reification_steps next (level_reifications l q (p + i) (drop i ns)) ≡ pieces node_piece 2 next i n
  nodes_from zero i next e = ap (λ (ms : List Node). reification_steps next (level_reifications l q (p + i) ms)) (drop_all i ns (omega (arith, e)))
  nodes_from (suc n) i next e =
      ap (reification_steps next) (reifications_left i (omega (arith, e)))
      ∙ ap (λ (ss : List Step). node_piece next i ++ ss) (nodes_from n (i + 1) (next + 2) (omega (arith, e)))

  pub node_pieces : (next : ℕ) → reification_steps next (level_reifications l q p ns) ≡ pieces node_piece 2 next 0 (length ns)
  node_pieces next =
      ap (λ (v : ℕ). reification_steps next (level_reifications l q v ns)) (let e : p ≡ p + 0 = omega arith in e)
      ∙ nodes_from (length ns) 0 next (let e : 0 + length ns ≡ length ns = omega arith in e)

-- ---- their order

module _ (order q counts : ℕ) (ns : List Node) where
  abbrev pub order_piece : ℕ → ℕ → List Step
  order_piece id j = Pol (order_ops order q (counts + 2 * j) (counts + 2 * j + 3) (node_at ns j) (node_at ns (j + 1))) ∷ []

  orders_left : (i : ℕ) → i + 1 < length ns → order_lines order q (counts + 2 * i) (drop i ns) ≡ order_piece 0 i ++ order_lines order q (counts + 2 * (i + 1)) (drop (i + 1) ns)
  orders_left i within =
      let n = node_at ns i in
      let m = node_at ns (i + 1) in
      let line = Pol (order_ops order q (counts + 2 * i) (counts + 2 * i + 3) n m) in
      let there = nodes_left_from ns (i + 1) within in
      ap (order_lines order q (counts + 2 * i)) (nodes_left_from ns i (omega (arith, within)) ∙ ap (λ (ms : List Node). n ∷ ms) there)
      ∙ (ap (λ (c : ℕ). line ∷ order_lines order q c (m ∷ drop (i + 1 + 1) ns)) (let e : counts + 2 * i + 2 ≡ counts + 2 * (i + 1) = omega arith in e)
      ∙ ap (λ (ms : List Node). line ∷ order_lines order q (counts + 2 * (i + 1)) ms) (sym there))

  -- one node has none behind it
  single : (c i : ℕ) → length ns ≤ i + 1 → order_lines order q c (drop i ns) ≡ []
  single c i short = few (drop i ns) (omega (arith, length-drop i ns, short))
    where
      few : (ms : List Node) → length ms ≤ 1 → order_lines order q c ms ≡ []
      few [] h = refl
      few (m ∷ []) h = refl
      few (m ∷ k ∷ ms) h = absurd (omega (arith, h))

  orders_from : (n i next : ℕ) → i + n ≡ length ns - 1 → order_lines order q (counts + 2 * i) (drop i ns) ≡ pieces order_piece 1 next i n
  orders_from zero i next e = single (counts + 2 * i) i (omega (arith, e))
  orders_from (suc n) i next e =
      orders_left i (omega (arith, e)) ∙ ap (λ (ss : List Step). order_piece 0 i ++ ss) (orders_from n (i + 1) (next + 1) (omega (arith, e)))

  pub order_pieces : (next : ℕ) → order_lines order q counts ns ≡ pieces order_piece 1 next 0 (length ns - 1)
  order_pieces next =
      ap (λ (c : ℕ). order_lines order q c ns) (let e : counts ≡ counts + 2 * 0 = omega arith in e)
      ∙ orders_from (length ns - 1) 0 next (let e : 0 + (length ns - 1) ≡ length ns - 1 = omega arith in e)

-- ---- their clauses

pub claims_left : (l : Lit) (q p counts i : ℕ) (ns : List Node) → i < length ns
    → level_claims l q (p + i) (counts + 2 * i) (drop i ns)
    ≡ (off_claims l q (p + i) (counts + 2 * i) (node_at ns i) ++ on_claim l q (p + i) (counts + 2 * i) (node_at ns i) ∷ []) ++ level_claims l q (p + (i + 1)) (counts + 2 * (i + 1)) (drop (i + 1) ns)
claims_left l q p counts i ns within =
    let n = node_at ns i in
    let offs = off_claims l q (p + i) (counts + 2 * i) n in
    let on = on_claim l q (p + i) (counts + 2 * i) n in
    ap (level_claims l q (p + i) (counts + 2 * i)) (nodes_left_from ns i within)
    ∙ (ap (λ (v : ℕ). offs ++ (on ∷ level_claims l q v (counts + 2 * i + 2) (drop (i + 1) ns))) (let e : p + i + 1 ≡ p + (i + 1) = omega arith in e)
    ∙ (ap (λ (c : ℕ). offs ++ (on ∷ level_claims l q (p + (i + 1)) c (drop (i + 1) ns))) (let e : counts + 2 * i + 2 ≡ counts + 2 * (i + 1) = omega arith in e)
    ∙ sym (append_assoc offs (on ∷ []) (level_claims l q (p + (i + 1)) (counts + 2 * (i + 1)) (drop (i + 1) ns)))))
