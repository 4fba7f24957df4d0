-- The phases of the derivation by guards, as they are handed over one after another.
use Rattle.std.proofs.Common.{◌≡◌, ◌≤◌, ◌+◌, ◌-◌, ◌*◌, ◌^◌, ◌∙◌, ℕ, Bool, true, false, cond, List, [], ◌∷◌, ◌++◌, drop, length, length-append, length-drop, map, take, refl, ap, sym, subst, arith}
use Rattle.std.specs.Prelude.{All, count_by}
use Rattle.std.proofs.lemmas.List.{drop-drop, length-map, take_all}
use Rattle.std.proofs.lemmas.List.Elements.{All-append, All-cons, All-nil}
use Rattle.std.proofs.lemmas.List.Sums.{sum_by-cons}
use Rattle.pb_norm.specs.Constraints.{Weighted, weighted, weights}
use Rattle.pb_steps.specs.declared.step.Step.{Step}
use Rattle.pb_steps.specs.Steps.{takes_id}
use Rattle.pb_derive.specs.Claims.{Claim, claim_steps}
use Rattle.pb_derive.specs.Deletions.{deletion_steps}
use Rattle.pb_derive.specs.Reifications.{reification_steps}
use Rattle.pb_family.specs.Derivations.{in_turn, ids_in_turn}
use Rattle.pb_family.proofs.Sequence.{claims_ids, claims_split}
use Rattle.pb_family.proofs.TermSlices.{weights_from}
use Rattle.pb_diagram.specs.declared.guarded.Guarded.{Guarded}
use Rattle.pb_diagram.specs.declared.guarded.Ladder.{Ladder}
use Rattle.pb_diagram.specs.declared.node.Node.{Node}
use Rattle.pb_diagram.specs.declared.parts.Kind.TheVariants.{Nodes, Order, Climb}
use Rattle.pb_diagram.specs.declared.tier.Tier.{Tier}
use Rattle.pb_diagram.specs.Guards.{Rung, child_reification, split_line}
use Rattle.pb_diagram.specs.GuardedSteps.{all_claims, all_orders, all_reifications, count_nodes, level_claims, root_claim, root_goal, root_of, sums_steps, terms_line}
use Rattle.pb_diagram.specs.inner.Ladders.{IsLadder, IsLadderOf, claims_in, core_in, held_of, lower, lower_terms, ordered_in, orders_of, root_node, root_term, rung_at, sums_of, terms_of, whole_in}
use Rattle.pb_diagram.specs.inner.Parts.{count_of, ids_of, nodes_from, piece_of, root_width}
use Rattle.pb_diagram.specs.inner.Rungs.{behind, risen}
use Rattle.pb_diagram.specs.inner.Tiers.{node_at, rung_in}
use Rattle.pb_diagram.specs.laws.GuardedCounts.{climbs-few, orders-few, over-lines}
use Rattle.pb_diagram.specs.laws.PartIds.{claims_take as level_claims_take}
use Rattle.pb_diagram.proofs.GuardedLevels.{first_drop, fresh_is, lower_shape, some_terms}
use Rattle.pb_diagram.proofs.GuardedRungs.{all_sums, behind_is, climbs}
use Rattle.pb_diagram.proofs.GuardedTurns.{all_claims-few, all_claims_take, all_nodes, all_nodes-ids, back, clauses_all, climbs_all, climbs_all-ids, ids, level_claims-few, orders_all, orders_all-ids, rungs-length, sizes, turn, turn_counts}

module _ (g : Guarded) (tiers : List Tier) (empty order end : ℕ) (h : IsLadder g 1 tiers empty order end (g.first + 1)) where
  abbrev ts : List Weighted
  ts = lower_terms g

  abbrev ls : List (List Node)
  ls = lower g

  abbrev base : ℕ
  base = g.base

  abbrev orders : ℕ
  orders = orders_of g

  abbrev q : ℕ
  q = g.first + 1

  -- ---- the numbers are small

  pub few : count_nodes ls + 1 ≤ 2 ^ 31
  few = omega (arith, fresh_is g, g.fits, g.low)

  pub small : (sums_of g ≤ base + 3 * count_nodes ls) × (held_of g ≤ base + 7 * count_nodes ls)
  small = (omega (arith, (orders-few orders ls).1), omega (arith, (orders-few orders ls).1, (climbs-few (sums_of g) ls).1))

  pub low-orders : orders ≤ sums_of g
  low-orders = (orders-few orders ls).0

  -- ---- what the nodes mean, and their orders

  pub nodes_phase : turn g.first Nodes base tiers ≡ reification_steps base (all_reifications q ts ls)
  nodes_phase = all_nodes g.first base orders ts ls (lower_shape g) q tiers h.whole base

  pub nodes_ids : ids g.first Nodes tiers ≡ 2 * count_nodes ls
  nodes_ids = all_nodes-ids g.first base orders ts ls (lower_shape g) q tiers h.whole

  pub orders_phase : (next : ℕ) → turn g.first Order next tiers ≡ all_orders base q ts ls orders
  orders_phase next = orders_all g.first base orders ts ls (lower_shape g) q tiers h.whole next

  pub orders_ids : ids g.first Order tiers + orders ≡ sums_of g
  orders_ids = orders_all-ids g.first base orders ts ls (lower_shape g) q tiers h.whole

  -- ---- their sums

  same : length ts ≡ length ls
  same = sizes g.first base orders ts ls (lower_shape g)

  pub tiers-length : length tiers + 1 ≡ length g.terms.now
  tiers-length =
      omega (
        arith,
        length-map tiers rung_in,
        ap (length {A = Rung}) h.whole,
        rungs-length base orders q ts ls same,
        length-drop 1 (terms_of g),
        length-map g.terms.now weighted,
        some_terms g,
      )

  abbrev pub above : List Tier
  above = take (length tiers - empty) (drop empty tiers)

  above_is : above ≡ drop empty tiers
  above_is = take_all (length tiers - empty) (drop empty tiers) (omega (arith, length-drop empty tiers))

  pub climbs_phase : turn g.first Climb (sums_of g + 1) above ≡ climbs g.first (risen base orders q ts ls) (sums_of g)
  climbs_phase = climbs_all g.first base orders ts ls (lower_shape g) q above (ap (map rung_in) above_is ∙ h.climbs) (sums_of g)

  pub climbs_ids : sums_of g + ids g.first Climb above ≡ held_of g
  climbs_ids = climbs_all-ids g.first base orders ts ls (lower_shape g) q above (ap (map rung_in) above_is ∙ h.climbs) (sums_of g)

  -- the terms behind the last level with nodes
  pub behind_them : (k : ℕ) → k ≡ length g.terms.now - empty → weights (take (length g.terms.now - k) (drop k g.terms.now)) ≡ behind ts ls
  behind_them k at =
      let risen-length : length (risen base orders q ts ls) ≡ length tiers - empty = omega (arith, ap (length {A = Rung}) h.climbs, length-map (drop empty tiers) rung_in, length-drop empty tiers) in
      let all : 1 + length (risen base orders q ts ls) ≡ k = omega (arith, risen-length, at, tiers-length, h.within) in
      weights_from g.terms.now k k refl
      ∙ (ap (λ (n : ℕ). drop n (terms_of g)) (sym all)
      ∙ (sym (drop-drop (length (risen base orders q ts ls)) 1 (terms_of g)) ∙ sym (behind_is base orders q ts ls same)))

  pub sums_phase : terms_line g.first (behind ts ls) ∷ turn g.first Climb (sums_of g + 1) above ≡ sums_steps g.first base orders q ts ls (sums_of g)
  sums_phase = ap (λ (ss : List Step). terms_line g.first (behind ts ls) ∷ ss) climbs_phase ∙ sym (all_sums base orders g.first q ts ls (sums_of g) same)

  -- ---- the clauses

  abbrev lower_claims : List Claim
  lower_claims = all_claims base q ts ls

  pub back_phase : (next : ℕ) → in_turn count_of ids_of piece_of next (back g.first tiers) ≡ claim_steps next lower_claims
  back_phase next = clauses_all g.first base orders ts ls (lower_shape g) q tiers h.whole next

  pub back_ids : ids_in_turn count_of ids_of (back g.first tiers) ≡ length lower_claims
  back_ids = sym (turn_counts (back g.first tiers) 0) ∙ (ap (count_by takes_id) (back_phase 0) ∙ claims_ids 0 lower_claims (all_claims_take base q ts ls))

  pub back_few : ids_in_turn count_of ids_of (back g.first tiers) ≤ 2 * count_nodes ls
  back_few = omega (arith, back_ids, all_claims-few base q ts ls)

  -- the root's level, as the code has it
  module _ (root : Tier) (is : rung_in root ≡ rung_at (terms_of g) g.levels.now 0 (g.first + 1) (held_of g + 1) order) where
    alone : (ns : List Node) → length ns ≡ 1 → ns ≡ node_at ns 0 ∷ []
    alone [] e = absurd (omega (arith, e))
    alone (n ∷ []) e = refl
    alone (n ∷ m ∷ ns) e = absurd (omega (arith, e))

    low-first : g.first + 1 - length (nodes_from g.levels.now 0) ≡ g.first
    low-first = omega (arith, g.root)

    pub root_is : rung_in root ≡ root_of (root_term g) (root_node g) ls g.first orders (held_of g)
    root_is = is ∙ (λ x. record {
      term = root_term g;
      nodes = alone (nodes_from g.levels.now 0) g.root x;
      next = sym (first_drop g.levels.now 1) x;
      var = low-first x;
      after = g.first + 1;
      counts = held_of g + 1;
      order = h.order x;
    })

    abbrev pub r : Rung
    r = root_of (root_term g) (root_node g) ls g.first orders (held_of g)

    pub root_nodes : root.nodes.now ≡ root_node g ∷ []
    root_nodes = ap (λ (x : Rung). x.nodes) root_is

    pub meaning_is : (next : ℕ) → reification_steps next (child_reification root.lit.now root.after (root.var + 0) (node_at root.nodes.now 0) ∷ []) ≡ reification_steps next (child_reification (root_term g).lit (g.first + 1) g.first (root_node g) ∷ [])
    meaning_is next =
        ap (λ (x : Rung). reification_steps next (child_reification x.term.lit x.after (x.var + 0) (node_at x.nodes 0) ∷ [])) root_is
        ∙ ap (λ (v : ℕ). reification_steps next (child_reification (root_term g).lit (g.first + 1) v (root_node g) ∷ [])) (let e : g.first + 0 ≡ g.first = omega arith in e)

    abbrev pub own_claims : List Claim
    own_claims = level_claims (root_term g).lit (g.first + 1) g.first (held_of g + 1) (root_node g ∷ [])

    pub own_is : level_claims root.lit.now root.after root.var root.counts root.nodes.now ≡ own_claims
    own_is = ap (λ (x : Rung). level_claims x.term.lit x.after x.var x.counts x.nodes) root_is

    abbrev pub last : Claim
    last = root_claim r g.own (held_of g)

    pub last_is : (before : ℕ) → before ≡ held_of g → (split_line (rung_in root) (root_goal (rung_in root) g.own before) (root_width (rung_in root))) ≡ last.step
    last_is before e = ap (λ (b : ℕ). split_line (rung_in root) (root_goal (rung_in root) g.own b) (root_width (rung_in root))) e ∙ ap (λ (x : Rung). split_line x (root_goal x g.own (held_of g)) (root_width x)) root_is

    -- all clauses, in three parts
    pub claims_phase : (next second third : ℕ) → second ≡ next + length own_claims → third ≡ second + length lower_claims
        → claim_steps next own_claims ++ (claim_steps second lower_claims ++ claim_steps third (last ∷ [])) ≡ claim_steps next (claims_in g)
    claims_phase next second third one two =
        (λ x. claim_steps next own_claims ++ (claim_steps (one x) lower_claims ++ claim_steps ((two ∙ ap (λ (k : ℕ). k + length lower_claims) one) x) (last ∷ [])))
        ∙ sym (claims_split next own_claims (lower_claims ++ last ∷ []) ∙ ap (λ (ss : List Step). claim_steps next own_claims ++ ss) (claims_split (next + length own_claims) lower_claims (last ∷ [])))

pub ladder_slice : (g : Guarded) (l : Ladder) (xs : List Tier) → xs ≡ l.tiers.items → IsLadderOf g l → IsLadder g 1 xs l.empty l.order l.end (g.first + 1)
ladder_slice g l xs same h = subst (λ (ys : List Tier). IsLadder g 1 ys l.empty l.order l.end (g.first + 1)) (sym same) h

-- ---- how many ids the steps take, at most

ids-le : (ss : List Step) → count_by takes_id ss ≤ length ss
ids-le [] = omega arith
ids-le (s ∷ ss) = omega (arith, sum_by-cons (λ (x : Step). cond (takes_id x) 1 0) s ss, one (takes_id s), ids-le ss)
  where
    one : (b : Bool) → cond {A = ℕ} b 1 0 ≤ 1
    one true = omega arith
    one false = omega arith

module _ (g : Guarded) where
  abbrev below : ℕ
  below = count_nodes (lower g)

  claims-few : length (claims_in g) ≤ 2 * below + 3
  claims-few =
      let own : List Claim = level_claims (root_term g).lit (g.first + 1) g.first (held_of g + 1) (root_node g ∷ []) in
      let later : List Claim = all_claims g.base (g.first + 1) (lower_terms g) (lower g) in
      let last : List Claim = root_claim (root_of (root_term g) (root_node g) (lower g) g.first (orders_of g) (held_of g)) g.own (held_of g) ∷ [] in
      omega (
        arith,
        length-append own (later ++ last),
        length-append later last,
        level_claims-few (root_term g).lit (g.first + 1) g.first (held_of g + 1) (root_node g ∷ []),
        all_claims-few g.base (g.first + 1) (lower_terms g) (lower g),
      )

  pub whole-few : length (whole_in g) ≤ 14 * below + 10
  whole-few = omega (arith, claims-few, over-lines (root_term g) (lower_terms g) (root_node g) (lower g) g.first g.own g.base (length (claims_in g)) (lower_shape g) refl)

  abbrev core_end : List Step
  core_end = deletion_steps 1 (orders_of g) (sums_of g - orders_of g)

  abbrev order_steps : List Step
  order_steps = all_orders g.base (g.first + 1) (lower_terms g) (lower g) (orders_of g)

  abbrev node_steps : List Step
  node_steps = reification_steps g.base (all_reifications (g.first + 1) (lower_terms g) (lower g))

  abbrev whole_end : List Step
  whole_end = deletion_steps 2 g.base below

  pub ordered-few : count_by takes_id (ordered_in g) ≤ 14 * below + 10
  ordered-few = omega (arith, ids-le (ordered_in g), length-append node_steps (ordered_in g ++ whole_end), length-append (ordered_in g) whole_end, whole-few)

  pub core-few : count_by takes_id (core_in g) ≤ 14 * below + 10
  core-few =
      omega (
        arith,
        ids-le (core_in g),
        length-append node_steps (ordered_in g ++ whole_end),
        length-append (ordered_in g) whole_end,
        length-append order_steps (core_in g ++ core_end),
        length-append (core_in g) core_end,
        whole-few,
      )

  pub claims_take : All (λ (c : Claim). takes_id c.step ≡ true) (claims_in g)
  claims_take =
      let Takes : Claim → Type 0 = λ c. takes_id c.step ≡ true in
      let own : List Claim = level_claims (root_term g).lit (g.first + 1) g.first (held_of g + 1) (root_node g ∷ []) in
      let later : List Claim = all_claims g.base (g.first + 1) (lower_terms g) (lower g) in
      let last : Claim = root_claim (root_of (root_term g) (root_node g) (lower g) g.first (orders_of g) (held_of g)) g.own (held_of g) in
      All-append Takes own (later ++ last ∷ []) (level_claims_take (root_term g).lit (g.first + 1) g.first (held_of g + 1) (root_node g ∷ []))
      (All-append Takes later (last ∷ []) (all_claims_take g.base (g.first + 1) (lower_terms g) (lower g)) (All-cons Takes last [] refl (All-nil Takes)))

  pub claims_count : (next : ℕ) → count_by takes_id (claim_steps next (claims_in g)) ≤ 2 * below + 3
  claims_count next = omega (arith, claims_ids next (claims_in g) claims_take, claims-few)
