-- How far nodes reach whose child is at most at a place, as it is found from the first node on: children ascend with the nodes.
use Rattle.std.proofs.Common.{◌≡◌, ◌≤◌, ◌<◌, ◌+◌, ◌∙◌, ℕ, zero, suc, Bool, true, false, cond, List, [], ◌∷◌, drop, get_or, length, refl, ap, sym, subst, arith}
use Rattle.std.specs.Prelude.{Option, None, Some, max}
use Rattle.std.proofs.lemmas.Bool.{le-leb, leb-true, true≢false}
use Rattle.std.proofs.lemmas.List.{drop_all, drop_more}
use Rattle.pb_diagram.specs.declared.node.Node.{Node}
use Rattle.pb_diagram.specs.declared.side.Side.{Side}
use Rattle.pb_diagram.specs.declared.side.Side.TheVariants.{Off, On}
use Rattle.pb_diagram.specs.Guards.{is_by, reach_by}
use Rattle.pb_diagram.specs.laws.LevelShape.{AreSorted, IsBefore, OnLe, children_weaker, off_later, on_later, reach-none}
use Rattle.pb_diagram.specs.inner.Tiers.{IsReached, child_on, is_near, top_with}

-- ---- one child

-- where it is near, the node counts at all later places
near_top : (o : Option ℕ) (top j k : ℕ) → j ≤ k → is_near o j ≡ true → cond (is_by o k) top 0 ≡ top_with o top
near_top None top j k le near = refl
near_top (Some f) top j k le near = ap (λ (b : Bool). cond b top 0) (le-leb f k (omega (arith, leb-true f j near, le)))

near_far : (o : Option ℕ) (j : ℕ) → is_near o j ≡ false → is_by o j ≡ false
near_far None j far = refl
near_far (Some f) j far = far

on_far : (t u : Option ℕ) (j : ℕ) → OnLe t u → is_near t j ≡ false → is_by u j ≡ false
on_far None u j le far = absurd (true≢false far)
on_far (Some t) u j le far = on_later t u j le far

far_later : (s : Side) (n m : Node) (j : ℕ) → IsBefore n m → is_near (child_on s n) j ≡ false → is_by (child_on s m) j ≡ false
far_later Off n m j before far = off_later n.off m.off j before.off (near_far n.off j far)
far_later On n m j before far = on_far n.on m.on j before.on far

far_here : (s : Side) (n : Node) (j : ℕ) → is_near (child_on s n) j ≡ false → is_by (child_on s n) j ≡ false
far_here s n j far = near_far (child_on s n) j far

-- ---- lists

sorted_drop : (ns : List Node) (i : ℕ) → AreSorted ns → AreSorted (drop i ns)
sorted_drop ns zero sorted = sorted
sorted_drop [] (suc i) sorted = tt
sorted_drop (n ∷ ns) (suc i) sorted = sorted_drop ns i sorted.1

far_all : (s : Side) (n : Node) (ns : List Node) (j : ℕ) → AreSorted (n ∷ ns) → is_near (child_on s n) j ≡ false → reach_by (child_on s) (n ∷ ns) j ≡ 0
far_all s n ns j sorted far =
    reach-none (child_on s) j (n ∷ ns)
    (far_here s n j far, children_weaker (IsBefore n) (λ m. is_by (child_on s m) j ≡ false) (λ m before. far_later s n m j before far) ns sorted.0)

-- ---- the search

pub none_reached : (child : Node → Option ℕ) (ns : List Node) → IsReached child ns 0 0 0
none_reached child ns k le = omega arith

pub reached_later : (child : Node → Option ℕ) (ns : List Node) (seen reach j : ℕ) → IsReached child ns seen reach j → IsReached child ns seen reach (j + 1)
reached_later child ns seen reach j h k le = h k (omega (arith, le))

pub reached_more : (child : Node → Option ℕ) (ns : List Node) (seen reach j : ℕ) (n : Node) → seen < length ns → n ≡ get_or ns seen n → is_near (child n) j ≡ true → IsReached child ns seen reach j
    → IsReached child ns (seen + 1) (max reach (top_with (child n) n.top)) j
reached_more child ns seen reach j n within is near h k le =
    let here = ap (λ (ms : List Node). reach_by child ms k) (drop_more ns seen n within) in
    let same = ap (λ (m : Node). reach_by child (m ∷ drop (seen + 1) ns) k) (sym is) in
    omega (arith, h k le, here, same, near_top (child n) n.top j k le near)

-- no other node reaches there
pub reached_far : (s : Side) (ns : List Node) (seen reach j : ℕ) (n : Node) → seen < length ns → n ≡ get_or ns seen n → is_near (child_on s n) j ≡ false → AreSorted ns → IsReached (child_on s) ns seen reach j
    → reach_by (child_on s) ns j ≡ reach
reached_far s ns seen reach j n within is far sorted h =
    let left : drop seen ns ≡ n ∷ drop (seen + 1) ns = drop_more ns seen n within ∙ ap (λ (m : Node). m ∷ drop (seen + 1) ns) (sym is) in
    let none = far_all s n (drop (seen + 1) ns) j (subst AreSorted left (sorted_drop ns seen sorted)) far in
    omega (arith, h j (omega arith), ap (λ (ms : List Node). reach_by (child_on s) ms j) left, none)

pub reached_end : (child : Node → Option ℕ) (ns : List Node) (seen reach j : ℕ) → length ns ≤ seen → IsReached child ns seen reach j → reach_by child ns j ≡ reach
reached_end child ns seen reach j all h = omega (arith, h j (omega arith), ap (λ (ms : List Node). reach_by child ms j) (drop_all seen ns all))
