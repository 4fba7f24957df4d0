-- What is known of the levels that the code of the steps by guards goes through.
use Rattle.std.proofs.Common.{◌≡◌, ◌≤◌, ◌<◌, ◌+◌, ◌-◌, ◌*◌, ◌^◌, ◌∙◌, ℕ, zero, suc, false, cond, List, [], ◌∷◌, ◌++◌, drop, length, map, get_or, refl, ap, sym, subst, arith}
use Rattle.std.specs.Prelude.{◌==◌}
use Rattle.std.proofs.Math.Dec.{eqb-suc-zero}
use Rattle.std.proofs.lemmas.Bool.{cond-false}
use Rattle.std.proofs.lemmas.List.{drop_all, drop_more, length-map, map-append}
use Rattle.pb_base.specs.declared.literal.Term.{Term}
use Rattle.pb_norm.specs.Constraints.{Weighted, weight, weighted, weights}
use Rattle.pb_norm.proofs.AdditionSizes.{weight-cons}
use Rattle.pb_diagram.specs.declared.guarded.Guarded.{Guarded}
use Rattle.pb_diagram.specs.declared.node.Node.{Node}
use Rattle.pb_diagram.specs.declared.tier.Tier.{Tier}
use Rattle.pb_diagram.specs.Guards.{Rung, last_top}
use Rattle.pb_diagram.specs.GuardedSteps.{count_nodes, first_nodes, guarded_by, guarded_over, head_order, orders_end, rung_of}
use Rattle.pb_diagram.specs.inner.Ladders.{IsLadder, lower, lower_terms, orders_of, rung_at, term_at, terms_of, whole_in}
use Rattle.pb_diagram.specs.inner.Parts.{nodes_from}
use Rattle.pb_diagram.specs.inner.Rungs.{risen, rungs}
use Rattle.pb_diagram.specs.inner.Tiers.{node_at, rung_in}
use Rattle.pb_diagram.specs.laws.GuardedCounts.{orders-few}
use Rattle.pb_diagram.specs.laws.LevelShape.{IsLevel}
use Rattle.pb_diagram.specs.laws.NodesOver.{AreLevels, ends_within}
use Rattle.pb_diagram.specs.laws.RungFacts.{count-cons}

-- ---- lists

one_on : (i : ℕ) → suc (i + 1) ≡ suc i + 1
one_on i = omega arith

pub levels_drop : (ts : List Weighted) (ls : List (List Node)) (i : ℕ) → AreLevels ts ls → AreLevels (drop i ts) (drop i ls)
levels_drop ts ls zero h = h
levels_drop [] [] (suc i) h = tt
levels_drop [] (ns ∷ ls) (suc i) h = absurd h
levels_drop (t ∷ ts) [] (suc i) h = absurd h
levels_drop (t ∷ ts) (ns ∷ ls) (suc i) h = levels_drop ts ls i h.1

pub levels_length : (ts : List Weighted) (ls : List (List Node)) → AreLevels ts ls → length ts ≡ length ls
levels_length [] [] h = refl
levels_length [] (ns ∷ ls) h = absurd h
levels_length (t ∷ ts) [] h = absurd h
levels_length (t ∷ ts) (ns ∷ ls) h = omega (arith, levels_length ts ls h.1)

pub first_from : (ls : List (List Node)) → first_nodes ls ≡ nodes_from ls 0
first_from [] = refl
first_from (ns ∷ ls) = refl

pub first_drop : (ls : List (List Node)) (i : ℕ) → first_nodes (drop i ls) ≡ nodes_from ls i
first_drop ls zero = first_from ls
first_drop [] (suc i) = refl
first_drop (ns ∷ ls) (suc i) = first_drop ls i

pub level_at : (ts : List Weighted) (ls : List (List Node)) (i : ℕ) → i < length ts → AreLevels ts ls → IsLevel (term_at ts i).coef (nodes_from ls i) (nodes_from ls (i + 1))
level_at [] ls i within h = absurd (omega (arith, within))
level_at (t ∷ ts) [] i within h = absurd h
level_at (t ∷ ts) (ns ∷ ls) zero within h = subst (IsLevel t.coef ns) (first_from ls) h.0
level_at (t ∷ ts) (ns ∷ ls) (suc i) within h =
    subst (λ (k : ℕ). IsLevel (term_at ts i).coef (nodes_from ls i) (nodes_from (ns ∷ ls) k)) (one_on i) (level_at ts ls i (omega (arith, within)) h.1)

pub end_at : (ts : List Weighted) (ls : List (List Node)) (i : ℕ) → AreLevels ts ls → last_top (nodes_from ls i) ≤ weight ts
end_at ts ls zero h = omega (arith, ends_within ts ls h, ap last_top (first_from ls))
end_at [] [] (suc i) h = omega arith
end_at [] (ns ∷ ls) (suc i) h = absurd h
end_at (t ∷ ts) [] (suc i) h = absurd h
end_at (t ∷ ts) (ns ∷ ls) (suc i) h = omega (arith, end_at ts ls i h.1, weight-cons t ts)

pub coef_at : (ts : List Weighted) (i : ℕ) → (term_at ts i).coef ≤ weight ts
coef_at [] i = omega arith
coef_at (t ∷ ts) zero = omega (arith, weight-cons t ts)
coef_at (t ∷ ts) (suc i) = omega (arith, coef_at ts i, weight-cons t ts)

-- a term of the code
pub weighted_at : (ts : List Term) (i : ℕ) (t : Term) → i < length ts → t ≡ get_or ts i t → weighted t ≡ term_at (weights ts) i
weighted_at [] i t within is = absurd (omega (arith, within))
weighted_at (u ∷ ts) zero t within is = ap weighted is
weighted_at (u ∷ ts) (suc i) t within is = weighted_at ts i t (omega (arith, within)) is

pub nodes_left : (ls : List (List Node)) (i : ℕ) → i < length ls → drop i ls ≡ nodes_from ls i ∷ drop (i + 1) ls
nodes_left ls i within = drop_more ls i [] within

pub terms_left : (ts : List Weighted) (i : ℕ) → i < length ts → drop i ts ≡ term_at ts i ∷ drop (i + 1) ts
terms_left ts i within = drop_more ts i (record { coef = 0; lit = record { var = 0; positive = false } }) within

count_first : (ls : List (List Node)) → count_nodes ls ≡ length (nodes_from ls 0) + count_nodes (drop 1 ls)
count_first [] = refl
count_first (ns ∷ ls) = count-cons ns ls

pub count_left : (ls : List (List Node)) (i : ℕ) → count_nodes (drop i ls) ≡ length (nodes_from ls i) + count_nodes (drop (i + 1) ls)
count_left ls zero = count_first ls
count_left [] (suc i) = let none : count_nodes (drop {A = List Node} (suc (i + 1)) []) ≡ count_nodes (drop {A = List Node} (suc i + 1) []) = ap (λ (k : ℕ). count_nodes (drop {A = List Node} k [])) (one_on i) in omega (arith, none)
count_left (ns ∷ ls) (suc i) = count_left ls i ∙ ap (λ (k : ℕ). length (nodes_from ls i) + count_nodes (drop k (ns ∷ ls))) (one_on i)

pub count_within : (ls : List (List Node)) (i : ℕ) → count_nodes (drop i ls) ≤ count_nodes ls
count_within ls zero = omega arith
count_within [] (suc i) = omega arith
count_within (ns ∷ ls) (suc i) = omega (arith, count_within ls i, count-cons ns ls)

-- the order of a level behind begins not behind the end of all
pub head-few : (next : ℕ) (ls : List (List Node)) → head_order next ls ≤ next + count_nodes ls
head-few next [] = omega arith
head-few next (ns ∷ ls) = omega (arith, (orders-few next ls).1, count-cons ns ls)

pub drop_push : {X : Type 0} (k : ℕ) (xs : List X) (x : X) → k ≤ length xs → drop k (xs ++ x ∷ []) ≡ drop k xs ++ x ∷ []
drop_push zero xs x le = refl
drop_push (suc k) [] x le = absurd (omega (arith, le))
drop_push (suc k) (y ∷ xs) x le = drop_push k xs x (omega (arith, le))

pub length_push : {X : Type 0} (xs : List X) (x : X) → length (xs ++ x ∷ []) ≡ length xs + 1
length_push [] x = omega arith
length_push (y ∷ xs) x = omega (arith, length_push xs x)

-- ---- the whole

by_root : (ts : List Weighted) (ls : List (List Node)) (first own next : ℕ) → AreLevels ts ls → length (nodes_from ls 0) ≡ 1 → guarded_by ts ls first own next ≡ guarded_over (term_at ts 0) (drop 1 ts) (node_at (nodes_from ls 0) 0) (drop 1 ls) first own next
by_root ts [] first own next shape one = absurd (omega (arith, one))
by_root [] (ns ∷ ls) first own next shape one = absurd shape
by_root (t ∷ ts) ([] ∷ ls) first own next shape one = absurd (omega (arith, one))
by_root (t ∷ ts) ((n ∷ ns) ∷ ls) first own next shape one = refl

some_levels : (ls : List (List Node)) → length (nodes_from ls 0) ≡ 1 → 1 ≤ length ls
some_levels [] one = absurd (omega (arith, one))
some_levels (ns ∷ ls) one = omega arith

module _ (g : Guarded) where
  abbrev pub ts : List Weighted
  ts = terms_of g

  abbrev pub ls : List (List Node)
  ls = g.levels.now

  pub whole_is : (next : ℕ) → g.base ≡ next → whole_in g ≡ guarded_by ts ls g.first g.own next
  whole_is next e = sym (by_root ts ls g.first g.own g.base g.shape g.root) ∙ ap (guarded_by ts ls g.first g.own) e

  pub some_terms : 1 ≤ length g.terms.now
  some_terms = omega (arith, levels_length ts ls g.shape, some_levels ls g.root, length-map g.terms.now weighted)

  pub fresh_is : g.fresh ≡ 1 + count_nodes (lower g)
  fresh_is = omega (arith, g.count, count_first ls, g.root)

  pub lower_shape : AreLevels (lower_terms g) (lower g)
  lower_shape = levels_drop ts ls 1 g.shape

  pub orders_are : g.base + 2 * (g.fresh - 1) ≡ orders_of g
  orders_are = omega (arith, fresh_is)

  pub lengths : length g.terms.now ≡ length ls
  lengths = omega (arith, levels_length ts ls g.shape, length-map g.terms.now weighted)

  -- ---- one more level

  module _ (tiers : List Tier) (empty first_order last after counts : ℕ) (i : ℕ) (within : i < length g.terms.now) (h : IsLadder g (i + 1) tiers empty first_order last after) (t : Tier) (is : rung_in t ≡ rung_at ts ls i after counts first_order) (here : counts ≡ g.base + 2 * count_nodes (drop (i + 1) ls)) where
    abbrev nodes : List Node
    nodes = nodes_from ls i

    abbrev r : Rung
    r = rung_of (term_at ts i) nodes (drop (i + 1) ls) (after - length nodes) g.base (orders_of g)

    room : length nodes ≤ after
    room = omega (arith, h.var, count_left ls i, g.count, count_within ls i, g.low)

    up : after - length nodes + length nodes ≡ after
    up = omega (arith, room)

    pub rung_is : rung_in t ≡ r
    rung_is = is ∙ (λ x. record {
      term = term_at ts i;
      nodes = nodes;
      next = sym (first_drop ls (i + 1)) x;
      var = after - length nodes;
      after = sym up x;
      counts = here x;
      order = h.order x;
    })

    left_terms : drop i ts ≡ term_at ts i ∷ drop (i + 1) ts
    left_terms = terms_left ts i (omega (arith, within, length-map g.terms.now weighted))

    left_nodes : drop i ls ≡ nodes ∷ drop (i + 1) ls
    left_nodes = nodes_left ls i (omega (arith, within, lengths))

    whole_more : map rung_in (tiers ++ t ∷ []) ≡ rungs g.base (orders_of g) (after - length nodes) (drop i ts) (drop i ls)
    whole_more =
        map-append rung_in tiers (t ∷ [])
        ∙ ((λ x. h.whole x ++ rung_is x ∷ [])
        ∙ (ap (λ (p : ℕ). rungs g.base (orders_of g) p (drop (i + 1) ts) (drop (i + 1) ls) ++ r ∷ []) (sym up)
        ∙ (λ x. rungs g.base (orders_of g) (after - length nodes) (sym left_terms x) (sym left_nodes x))))

    risen_none : (ns : List Node) → ns ≡ [] → risen g.base (orders_of g) (after - length nodes) (term_at ts i ∷ drop (i + 1) ts) (ns ∷ drop (i + 1) ls) ≡ []
    risen_none [] e = refl
    risen_none (n ∷ ns) e = absurd (omega (arith, ap (length {A = Node}) e))

    risen_some : (ns : List Node) (p : ℕ) → 1 ≤ length ns → risen g.base (orders_of g) p (term_at ts i ∷ drop (i + 1) ts) (ns ∷ drop (i + 1) ls) ≡ risen g.base (orders_of g) (p + length ns) (drop (i + 1) ts) (drop (i + 1) ls) ++ rung_of (term_at ts i) ns (drop (i + 1) ls) p g.base (orders_of g) ∷ []
    risen_some [] p some = absurd (omega (arith, some))
    risen_some (n ∷ ns) p some = refl

    left_risen : risen g.base (orders_of g) (after - length nodes) (drop i ts) (drop i ls) ≡ risen g.base (orders_of g) (after - length nodes) (term_at ts i ∷ drop (i + 1) ts) (nodes ∷ drop (i + 1) ls)
    left_risen = λ x. risen g.base (orders_of g) (after - length nodes) (left_terms x) (left_nodes x)

    no_nodes_here : length nodes ≡ 0 → nodes ≡ []
    no_nodes_here e = none nodes e
      where
        none : (ns : List Node) → length ns ≡ 0 → ns ≡ []
        none [] e = refl
        none (n ∷ ns) e = absurd (omega (arith, e))

    rest : (last_next : ℕ) → last_next ≡ last + (length nodes - 1) → (last ≡ head_order (orders_of g) (drop i ls)) × (last_next ≡ orders_end (orders_of g) (drop i ls))
    rest last_next e = (
      h.end ∙ ap (head_order (orders_of g)) (sym left_nodes),
      e ∙ (ap (λ (n : ℕ). n + (length nodes - 1)) h.end ∙ ap (orders_end (orders_of g)) (sym left_nodes)),
    )

    var_more : after - length nodes + count_nodes (drop i ls) ≡ g.first + g.fresh
    var_more = omega (arith, up, h.var, count_left ls i)

    -- it has no nodes
    pub ladder_empty : (last_next all_now : ℕ) → last_next ≡ last + (length nodes - 1) → length nodes ≡ 0 → all_now ≡ length (tiers ++ t ∷ []) → IsLadder g i (tiers ++ t ∷ []) all_now last last_next (after - length nodes)
    ladder_empty last_next all_now e none is_all = record {
      whole = whole_more;
      climbs = ap (map rung_in) (drop_all all_now (tiers ++ t ∷ []) (omega (arith, is_all))) ∙ sym (left_risen ∙ risen_none nodes (no_nodes_here none));
      within = omega (arith, is_all);
      order = (rest last_next e).0;
      end = (rest last_next e).1;
      var = var_more;
    }

    -- it has some
    pub ladder_more : (last_next : ℕ) → last_next ≡ last + (length nodes - 1) → 1 ≤ length nodes → IsLadder g i (tiers ++ t ∷ []) empty last last_next (after - length nodes)
    ladder_more last_next e some = record {
      whole = whole_more;
      climbs =
          ap (map rung_in) (drop_push empty tiers t h.within)
          ∙ (map-append rung_in (drop empty tiers) (t ∷ [])
          ∙ ((λ x. h.climbs x ++ rung_is x ∷ [])
          ∙ (ap (λ (p : ℕ). risen g.base (orders_of g) p (drop (i + 1) ts) (drop (i + 1) ls) ++ r ∷ []) (sym up)
          ∙ sym (left_risen ∙ risen_some nodes (after - length nodes) some))));
      within = omega (arith, h.within, length_push tiers t);
      order = (rest last_next e).0;
      end = (rest last_next e).1;
      var = var_more;
    }

    -- either
    pub ladder_next : (j last_next empty_next p : ℕ) (items : List Tier) → j ≡ i → items ≡ tiers ++ t ∷ [] → empty_next ≡ cond (length t.nodes.now == 0) (length items) empty → last_next ≡ last + (length t.nodes.now - 1) → p ≡ t.var
        → IsLadder g j items empty_next last last_next p
    ladder_next j last_next empty_next p items at pushed counted so_far from = by_nodes nodes refl
      where
        same_nodes : t.nodes.now ≡ nodes
        same_nodes = ap (λ (x : Rung). x.nodes) is

        same_var : p ≡ after - length nodes
        same_var = from ∙ ap (λ (x : Rung). x.var) is

        size : last_next ≡ last + (length nodes - 1)
        size = so_far ∙ ap (λ (ns : List Node). last + (length ns - 1)) same_nodes

        as_is : (e : ℕ) → IsLadder g i (tiers ++ t ∷ []) e last last_next (after - length nodes) → empty_next ≡ e → IsLadder g j items empty_next last last_next p
        as_is e k same =
            subst (λ (x : ℕ). IsLadder g x items empty_next last last_next p) (sym at)
            (subst (λ (ts : List Tier). IsLadder g i ts empty_next last last_next p) (sym pushed)
            (subst (λ (x : ℕ). IsLadder g i (tiers ++ t ∷ []) x last last_next p) (sym same) (subst (λ (x : ℕ). IsLadder g i (tiers ++ t ∷ []) e last last_next x) (sym same_var) k)))

        by_nodes : (ns : List Node) → nodes ≡ ns → IsLadder g j items empty_next last last_next p
        by_nodes [] e =
            as_is (length items) (ladder_empty last_next (length items) size (ap (length {A = Node}) e) (ap (length {A = Tier}) pushed))
            (counted ∙ ap (λ (ms : List Node). cond (length ms == 0) (length items) empty) (same_nodes ∙ e))
        by_nodes (n ∷ ns) e =
            as_is empty (ladder_more last_next size (omega (arith, ap (length {A = Node}) e)))
            (counted ∙ (ap (λ (ms : List Node). cond (length ms == 0) (length items) empty) (same_nodes ∙ e) ∙ cond-false (length (n ∷ ns) == 0) (length items) empty (eqb-suc-zero (length ns))))

  -- before the first
  pub ladder_none : (i after last_end order_now : ℕ) (items : List Tier) → items ≡ [] → length g.terms.now ≤ i → after ≡ g.first + g.fresh → order_now ≡ orders_of g → last_end ≡ orders_of g → IsLadder g i items 0 order_now last_end after
  ladder_none i after last_end order_now items no_items all from order end =
      let no_terms = drop_all i ts (omega (arith, all, length-map g.terms.now weighted)) in
      let none = drop_all i ls (omega (arith, all, lengths)) in
      record {
        whole = ap (map rung_in) no_items ∙ (λ x. rungs g.base (orders_of g) after (sym no_terms x) (sym none x));
        climbs = ap (map rung_in) no_items ∙ (λ x. risen g.base (orders_of g) after (sym no_terms x) (sym none x));
        within = omega arith;
        order = order ∙ ap (head_order (orders_of g)) (sym none);
        end = end ∙ ap (orders_end (orders_of g)) (sym none);
        var = omega (arith, from, ap count_nodes none);
      }

  -- ---- where the numbers of a level fit

  module _ (i : ℕ) where
    pub room-low : (p : ℕ) → p + count_nodes (drop (i + 1) ls) ≡ g.first + g.fresh → length (nodes_from ls i) < p
    room-low p at = omega (arith, at, g.count, count_within ls i, count_left ls i, g.low)

    pub room-high : (p : ℕ) → p + count_nodes (drop (i + 1) ls) ≡ g.first + g.fresh → p + length (nodes_from ls (i + 1)) ≤ 2 ^ 31
    room-high p at = omega (arith, at, count_left ls (i + 1), g.fits)

    pub room-counts : (counts : ℕ) → counts ≡ g.base + 2 * count_nodes (drop (i + 1) ls) → counts + 2 * length (nodes_from ls i) < 2 ^ 62
    room-counts counts here = omega (arith, here, count_left ls i, count_within ls i, g.count, g.fits, g.modest)

    pub room-order : (order : ℕ) → order ≡ head_order (orders_of g) (drop (i + 1) ls) → order + length (nodes_from ls (i + 1)) < 2 ^ 62
    room-order order here = omega (arith, here, head-few (orders_of g) (drop (i + 1) ls), count_left ls (i + 1), count_within ls (i + 1), fresh_is, g.count, count_within ls 1, g.fits, g.modest)

    pub room-end : (end : ℕ) → end ≡ orders_end (orders_of g) (drop (i + 1) ls) → end + length (nodes_from ls i) < 2 ^ 63
    room-end end here = omega (arith, here, (orders-few (orders_of g) (drop (i + 1) ls)).1, count_left ls i, count_within ls i, g.count, count_within ls 1, g.fits, g.modest)

pub level_as : {a b : ℕ} {ns ms next after : List Node} → a ≡ b → ns ≡ ms → next ≡ after → IsLevel b ms after → IsLevel a ns next
level_as {a} {b} {ns} {ms} {next} {after} e f k h =
    subst (λ (x : ℕ). IsLevel x ns next) (sym e) (subst (λ (xs : List Node). IsLevel b xs next) (sym f) (subst (IsLevel b ms) (sym k) h))

pub weights_left : (ts : List Term) (i : ℕ) (t : Term) → i < length ts → t ≡ get_or ts i t → drop i (weights ts) ≡ weighted t ∷ drop (i + 1) (weights ts)
weights_left [] i t within is = absurd (omega (arith, within))
weights_left (u ∷ ts) zero t within is = ap (λ (v : Term). weighted v ∷ weights ts) (sym is)
weights_left (u ∷ ts) (suc i) t within is = weights_left ts i t (omega (arith, within)) is ∙ ap (λ (k : ℕ). weighted t ∷ drop k (weights (u ∷ ts))) (one_on i)
