-- What is said of levels, as it is handed over level by level.
use Rattle.std.proofs.Common.{◌≡◌, ◌≤◌, ◌<◌, ◌+◌, ◌-◌, ◌*◌, ◌∙◌, ℕ, true, cond, List, [], ◌∷◌, ◌++◌, get_or, length, map, reverse, refl, ap, sym, append-nil, arith}
use Rattle.std.specs.Prelude.{All, Option, None, Some, count_by}
use Rattle.std.specs.List.{flat_map, range_with_len}
use Rattle.std.proofs.lemmas.List.{get_or-map, get_or-reverse, length-map, length-reverse, map-append}
use Rattle.std.proofs.lemmas.List.Elements.{All-append, All-nil}
use Rattle.std.proofs.lemmas.List.Sums.{sum_by-append}
use mathlib.Core.List.{reverse-cons}
use Rattle.pb_base.specs.declared.literal.Lit.{Lit}
use Rattle.pb_norm.specs.Constraints.{Weighted}
use Rattle.pb_steps.specs.declared.op.PolOp.TheVariants.{Push}
use Rattle.pb_steps.specs.declared.step.Step.{Step}
use Rattle.pb_steps.specs.declared.step.Step.TheVariants.{Del}
use Rattle.pb_steps.specs.Steps.{takes_id}
use Rattle.pb_derive.specs.Claims.{Claim, claim_steps}
use Rattle.pb_derive.specs.Reifications.{Reification, reification_steps}
use Rattle.pb_family.specs.Derivations.{ids_in_turn, in_turn, pieces}
use Rattle.pb_family.proofs.Sequence.{claims_split, pieces_ids, reifications_ids, reifications_split}
use Rattle.pb_diagram.specs.declared.node.Node.{Node}
use Rattle.pb_diagram.specs.declared.parts.Kind.{Kind}
use Rattle.pb_diagram.specs.declared.parts.Kind.TheVariants.{Nodes, Order, Climb, Clauses}
use Rattle.pb_diagram.specs.declared.parts.Part.{Part}
use Rattle.pb_diagram.specs.declared.tier.Tier.{Tier}
use Rattle.pb_diagram.specs.Guards.{Rung, climb_line, guard, guard_width, rung_steps, split_line}
use Rattle.pb_diagram.specs.GuardedSteps.{all_claims, all_orders, all_reifications, climbs_at, count_nodes, level_claims, off_claims_by, on_claim, orders_end, rung_of}
use Rattle.pb_diagram.specs.inner.Parts.{climb_piece, count_of, ids_of, part, piece_of}
use Rattle.pb_diagram.specs.inner.Rungs.{risen, rungs}
use Rattle.pb_diagram.specs.inner.Tiers.{rung_in}
use Rattle.pb_diagram.specs.laws.NodesOver.{AreLevels}
use Rattle.pb_diagram.specs.laws.PartIds.{claims_take, part_piece_ids}
use Rattle.pb_diagram.specs.laws.RungFacts.{count-cons, length-all, length-level}
use Rattle.pb_diagram.proofs.GuardedPieces.{node_pieces, order_pieces}
use Rattle.pb_diagram.proofs.GuardedRungs.{all_claimed_back, all_in_order, all_meanings, claims_of_rung, climbs, climbs_end, flat_back, meanings, one_more, order_of_rung}

-- ---- lists

pub reverse_map : {X Y : Type 0} (f : X → Y) (xs : List X) → reverse (map f xs) ≡ map f (reverse xs)
reverse_map f [] = refl
reverse_map {Y = Y} f (x ∷ xs) =
    reverse-cons (f x) (map f xs) ∙ (ap (λ (ys : List Y). ys ++ f x ∷ []) (reverse_map f xs) ∙ (sym (map-append f (reverse xs) (x ∷ [])) ∙ ap (map f) (sym (reverse-cons x xs))))

flat_reverse : {X Y : Type 0} (f : X → List Y) (xs : List X) → flat_map f (reverse xs) ≡ flat_back f xs
flat_reverse f [] = refl
flat_reverse {Y = Y} f (x ∷ xs) = ap (flat_map f) (reverse-cons x xs) ∙ (one_more f (reverse xs) x ∙ ap (λ (ys : List Y). ys ++ f x) (flat_reverse f xs))

-- an item's image
pub image_at : {X Y : Type 0} (f : X → Y) (xs : List X) (k : ℕ) (x : X) (y : Y) → k < length xs → x ≡ get_or xs k x → y ≡ f x → y ≡ get_or (map f xs) k y
image_at {Y = Y} f xs k x y within at is = is ∙ (ap f at ∙ sym (get_or-map f xs k x y within))

-- from the last one on
pub image_back : {X Y : Type 0} (f : X → Y) (xs : List X) (k : ℕ) (x : X) (y : Y) → k < length xs → x ≡ get_or xs (length xs - 1 - k) x → y ≡ f x → y ≡ get_or (reverse (map f xs)) k y
image_back f xs k x y within at is =
    let size : length xs ≡ length (map f xs) = sym (length-map xs f) in
    image_at f xs (length xs - 1 - k) x y (omega (arith, within)) at is
    ∙ (ap (λ (n : ℕ). get_or (map f xs) (n - 1 - k) y) size ∙ sym (get_or-reverse (map f xs) k y (omega (arith, within, size))))

pub size_back : {X Y : Type 0} (f : X → Y) (xs : List X) → length (reverse (map f xs)) ≡ length xs
size_back f xs = length-reverse (map f xs) ∙ length-map xs f

-- ---- how many ids they take

pub turn_counts : (ps : List Part) (next : ℕ) → count_by takes_id (in_turn count_of ids_of piece_of next ps) ≡ ids_in_turn count_of ids_of ps
turn_counts [] next = refl
turn_counts (p ∷ ps) next =
    omega (
      arith,
      sum_by-append (λ (s : Step). cond (takes_id s) 1 0) (pieces (piece_of p) (ids_of p) next 0 (count_of p)) (in_turn count_of ids_of piece_of (next + ids_of p * count_of p) ps),
      pieces_ids (piece_of p) (ids_of p) (λ id k. part_piece_ids p.kind p.tier p.guard id k) next 0 (count_of p),
      turn_counts ps (next + ids_of p * count_of p),
    )

module _ (v : ℕ) where
  abbrev pub turn : Kind → ℕ → List Tier → List Step
  turn kind next ts = in_turn count_of ids_of piece_of next (map (part kind v) ts)

  abbrev pub ids : Kind → List Tier → ℕ
  ids kind ts = ids_in_turn count_of ids_of (map (part kind v) ts)

  nodes_turn : (ts : List Tier) (next : ℕ) → turn Nodes next ts ≡ reification_steps next (flat_map meanings (map rung_in ts))
  nodes_turn [] next = refl
  nodes_turn (t ∷ ts) next =
      let here : List Reification = meanings (rung_in t) in
      let later : List Reification = flat_map meanings (map rung_in ts) in
      let size : next + 2 * length t.nodes.now ≡ next + 2 * length here = omega (arith, length-level t.lit.now t.after t.var t.nodes.now) in
      ap (λ (ss : List Step). ss ++ turn Nodes (next + 2 * length t.nodes.now) ts) (sym (node_pieces t.lit.now t.after t.var t.nodes.now next))
      ∙ (ap (λ (ss : List Step). reification_steps next here ++ ss) (nodes_turn ts (next + 2 * length t.nodes.now) ∙ ap (λ (n : ℕ). reification_steps n later) size)
      ∙ sym (reifications_split next here later))

  orders_turn : (ts : List Tier) (next : ℕ) → turn Order next ts ≡ flat_map order_of_rung (map rung_in ts)
  orders_turn [] next = refl
  orders_turn (t ∷ ts) next =
      let rest : ℕ = next + 1 * (length t.nodes.now - 1) in
      ap (λ (ss : List Step). ss ++ turn Order rest ts) (sym (order_pieces t.order t.after t.counts t.nodes.now next))
      ∙ ap (λ (ss : List Step). order_of_rung (rung_in t) ++ ss) (orders_turn ts rest)

  climb_is : (r : Rung) (before : ℕ) → climb_piece v r (before + 1) ≡ rung_steps v r before
  climb_is r before =
      let one : before + 1 + 1 ≡ before + 2 = omega arith in
      let three : before + 1 + 2 ≡ before + 3 = omega arith in
      let same : before + 1 - 1 ≡ before = omega arith in
      λ i. reification_steps (before + 1) (guard v r ∷ []) ++ (split_line r (Push (one i) ∷ []) (guard_width r) ∷ climb_line r (before + 1) (three i) (same i) ∷ Del (range_with_len (same i) 4) ∷ [])

  pub climbs_turn : (ts : List Tier) (before : ℕ) → turn Climb (before + 1) ts ≡ climbs v (map rung_in ts) before
  climbs_turn [] before = refl
  climbs_turn (t ∷ ts) before =
      let r = rung_in t in
      let next : before + 1 + 4 * 1 ≡ before + 4 + 1 = omega arith in
      ap (λ (ss : List Step). ss ++ turn Climb (before + 1 + 4 * 1) ts) (append-nil (climb_piece v r (before + 1)) ∙ climb_is r before)
      ∙ ap (λ (ss : List Step). rung_steps v r before ++ ss) (ap (λ (n : ℕ). turn Climb n ts) next ∙ climbs_turn ts (before + 4))

  clauses_turn : (ts : List Tier) (next : ℕ) → turn Clauses next ts ≡ claim_steps next (flat_map claims_of_rung (map rung_in ts))
  clauses_turn [] next = refl
  clauses_turn (t ∷ ts) next =
      let here : List Claim = claims_of_rung (rung_in t) in
      let later : List Claim = flat_map claims_of_rung (map rung_in ts) in
      let size : next + length here * 1 ≡ next + length here = omega arith in
      ap (λ (ss : List Step). ss ++ turn Clauses (next + length here * 1) ts) (append-nil (claim_steps next here))
      ∙ (ap (λ (ss : List Step). claim_steps next here ++ ss) (ap (λ (n : ℕ). turn Clauses n ts) size ∙ clauses_turn ts (next + length here))
      ∙ sym (claims_split next here later))

  -- from the last level to the first
  abbrev pub back : List Tier → List Part
  back ts = reverse (map (part Clauses v) ts)

  back_turn : (ts : List Tier) (next : ℕ) → in_turn count_of ids_of piece_of next (back ts) ≡ claim_steps next (flat_back claims_of_rung (map rung_in ts))
  back_turn ts next =
      ap (in_turn count_of ids_of piece_of next) (reverse_map (part Clauses v) ts)
      ∙ (clauses_turn (reverse ts) next
      ∙ ap (claim_steps next) (ap (flat_map claims_of_rung) (sym (reverse_map rung_in ts)) ∙ flat_reverse claims_of_rung (map rung_in ts)))

  nodes_ids : (ts : List Tier) → ids Nodes ts ≡ 2 * length (flat_map meanings (map rung_in ts))
  nodes_ids ts = sym (turn_counts (map (part Nodes v) ts) 0) ∙ (ap (count_by takes_id) (nodes_turn ts 0) ∙ reifications_ids 0 (flat_map meanings (map rung_in ts)))

  abbrev steps_up : List Rung → ℕ
  steps_up [] = 0
  steps_up (r ∷ rs) = (length r.nodes - 1) + steps_up rs

  steps_more : (rs : List Rung) (r : Rung) → steps_up (rs ++ r ∷ []) ≡ steps_up rs + (length r.nodes - 1)
  steps_more [] r = omega arith
  steps_more (s ∷ rs) r = omega (arith, steps_more rs r)

  orders_ids : (ts : List Tier) → ids Order ts ≡ steps_up (map rung_in ts)
  orders_ids [] = refl
  orders_ids (t ∷ ts) = omega (arith, orders_ids ts)

  climbs_ids : (ts : List Tier) → ids Climb ts ≡ 4 * length (map rung_in ts)
  climbs_ids [] = refl
  climbs_ids (t ∷ ts) = omega (arith, climbs_ids ts)

  -- ---- of all levels

  module _ (base orders : ℕ) (ts : List Weighted) (ls : List (List Node)) (shape : AreLevels ts ls) where
    same_length : (us : List Weighted) (ms : List (List Node)) → AreLevels us ms → length us ≡ length ms
    same_length [] [] h = refl
    same_length [] (ns ∷ ms) h = absurd h
    same_length (u ∷ us) [] h = absurd h
    same_length (u ∷ us) (ns ∷ ms) h = omega (arith, same_length us ms h.1)

    pub sizes : length ts ≡ length ls
    sizes = same_length ts ls shape

    steps_end : (us : List Weighted) (ms : List (List Node)) (p next : ℕ) → length us ≡ length ms → steps_up (rungs base orders p us ms) + next ≡ orders_end next ms
    steps_end [] [] p next e = omega arith
    steps_end [] (ns ∷ ms) p next e = absurd (omega (arith, e))
    steps_end (u ∷ us) [] p next e = absurd (omega (arith, e))
    steps_end (u ∷ us) (ns ∷ ms) p next e = omega (arith, steps_more (rungs base orders (p + length ns) us ms) (rung_of u ns ms p base orders), steps_end us ms (p + length ns) next (omega (arith, e)))

    module _ (p : ℕ) (tiers : List Tier) (whole : map rung_in tiers ≡ rungs base orders p ts ls) where
      pub all_nodes : (next : ℕ) → turn Nodes next tiers ≡ reification_steps next (all_reifications p ts ls)
      all_nodes next = nodes_turn tiers next ∙ ap (reification_steps next) (ap (flat_map meanings) whole ∙ sym (all_meanings base orders p ts ls))

      pub all_nodes-ids : ids Nodes tiers ≡ 2 * count_nodes ls
      all_nodes-ids = nodes_ids tiers ∙ ap (λ (ms : List Reification). 2 * length ms) (ap (flat_map meanings) whole ∙ sym (all_meanings base orders p ts ls)) ∙ ap (λ (n : ℕ). 2 * n) (length-all p ts ls shape)

      pub orders_all : (next : ℕ) → turn Order next tiers ≡ all_orders base p ts ls orders
      orders_all next = orders_turn tiers next ∙ (ap (flat_map order_of_rung) whole ∙ sym (all_in_order base orders p ts ls))

      pub orders_all-ids : ids Order tiers + orders ≡ orders_end orders ls
      orders_all-ids = omega (arith, orders_ids tiers, ap steps_up whole, steps_end ts ls p orders sizes)

      pub clauses_all : (next : ℕ) → in_turn count_of ids_of piece_of next (back tiers) ≡ claim_steps next (all_claims base p ts ls)
      clauses_all next = back_turn tiers next ∙ ap (claim_steps next) (ap (flat_back claims_of_rung) whole ∙ sym (all_claimed_back base orders p ts ls))

    module _ (p : ℕ) (tiers : List Tier) (above : map rung_in tiers ≡ risen base orders p ts ls) where
      pub climbs_all : (before : ℕ) → turn Climb (before + 1) tiers ≡ climbs v (risen base orders p ts ls) before
      climbs_all before = climbs_turn tiers before ∙ ap (λ (rs : List Rung). climbs v rs before) above

      pub climbs_all-ids : (next : ℕ) → next + ids Climb tiers ≡ climbs_at next ls
      climbs_all-ids next = omega (arith, climbs_ids tiers, ap (length {A = Rung}) above, climbs_end base orders next p ts ls sizes)

-- ---- clauses

pub all_claims_take : (base p : ℕ) (ts : List Weighted) (ls : List (List Node)) → All (λ (c : Claim). takes_id c.step ≡ true) (all_claims base p ts ls)
all_claims_take base p [] ls = All-nil (λ (c : Claim). takes_id c.step ≡ true)
all_claims_take base p (t ∷ ts) [] = All-nil (λ (c : Claim). takes_id c.step ≡ true)
all_claims_take base p (t ∷ ts) (ns ∷ ls) =
    let q : ℕ = p + length ns in
    let counts : ℕ = base + 2 * count_nodes ls in
    All-append (λ (c : Claim). takes_id c.step ≡ true) (level_claims t.lit q p counts ns) (all_claims base q ts ls) (claims_take t.lit q p counts ns) (all_claims_take base q ts ls)

one_most : (l : Lit) (q p forward : ℕ) (f t : Option ℕ) → length (off_claims_by l q p forward f t) ≤ 1
one_most l q p forward None t = omega arith
one_most l q p forward (Some f) t = omega arith

pub level_claims-few : (l : Lit) (q p counts : ℕ) (ns : List Node) → length (level_claims l q p counts ns) ≤ 2 * length ns
level_claims-few l q p counts [] = omega arith
level_claims-few l q p counts (n ∷ ns) =
    omega (
      arith,
      length-both (off_claims_by l q p counts n.off n.on) (on_claim l q p counts n) (level_claims l q (p + 1) (counts + 2) ns),
      one_most l q p counts n.off n.on,
      level_claims-few l q (p + 1) (counts + 2) ns,
    )
  where
    length-both : (xs : List Claim) (c : Claim) (ys : List Claim) → length (xs ++ c ∷ ys) ≡ length xs + (1 + length ys)
    length-both [] c ys = omega arith
    length-both (x ∷ xs) c ys = omega (arith, length-both xs c ys)

pub all_claims-few : (base p : ℕ) (ts : List Weighted) (ls : List (List Node)) → length (all_claims base p ts ls) ≤ 2 * count_nodes ls
all_claims-few base p [] ls = omega arith
all_claims-few base p (t ∷ ts) [] = omega arith
all_claims-few base p (t ∷ ts) (ns ∷ ls) =
    let q : ℕ = p + length ns in
    let counts : ℕ = base + 2 * count_nodes ls in
    omega (arith, length-two (level_claims t.lit q p counts ns) (all_claims base q ts ls), level_claims-few t.lit q p counts ns, all_claims-few base q ts ls, count-cons ns ls)
  where
    length-two : (xs ys : List Claim) → length (xs ++ ys) ≡ length xs + length ys
    length-two [] ys = omega arith
    length-two (x ∷ xs) ys = omega (arith, length-two xs ys)

pub rungs-length : (base orders p : ℕ) (ts : List Weighted) (ls : List (List Node)) → length ts ≡ length ls → length (rungs base orders p ts ls) ≡ length ts
rungs-length base orders p [] ls e = refl
rungs-length base orders p (t ∷ ts) [] e = absurd (omega (arith, e))
rungs-length base orders p (t ∷ ts) (ns ∷ ls) e = omega (arith, one-more (rungs base orders (p + length ns) ts ls) (rung_of t ns ls p base orders), rungs-length base orders (p + length ns) ts ls (omega (arith, e)))
  where
    one-more : (rs : List Rung) (r : Rung) → length (rs ++ r ∷ []) ≡ length rs + 1
    one-more [] r = omega arith
    one-more (s ∷ rs) r = omega (arith, one-more rs r)
