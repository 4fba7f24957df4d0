-- A level's nodes over the next level's: children ascend with the nodes, and none of them is left behind. Lists and numbers alone.
use Rattle.std.proofs.Common.{◌≡◌, ◌≤◌, ◌<◌, ◌+◌, ◌-◌, ◌⊎◌, inl, inr, ℕ, zero, suc, Bool, true, false, cond, List, [], ◌∷◌, length, refl, ap, subst, arith}
use Rattle.std.specs.Prelude.{Option, None, Some, max, min}
use Rattle.std.proofs.lemmas.Bool.{leb-true, leb-false, lt-leb, both_ways}
use Rattle.pb_diagram.specs.declared.node.Node.{Node}
use Rattle.pb_diagram.specs.Guards.{is_by, reach_by, last_top, off_of, on_of}
use Rattle.pb_diagram.specs.laws.LevelWorths.{AreChildren, IsOnChild}
use Rattle.pb_diagram.specs.laws.StepSums.{IsIn, AreUp, AreSteps, AreAbove}

-- the end of the node at a place
abbrev pub top_at : List Node → ℕ → ℕ
top_at [] j = 0
top_at (n ∷ ns) zero = n.top
top_at (n ∷ ns) (suc j) = top_at ns j

-- a false child ends not below its node
abbrev pub OffOver : List Node → ℕ → Option ℕ → Type 0
OffOver next top None = Unit {0}
OffOver next top (Some f) = (f < length next) × (top ≤ top_at next f)

-- a true child ends not below it with the coefficient added, and where there is none the coefficient reaches the end
abbrev pub OnOver : ℕ → List Node → ℕ → Option ℕ → Type 0
OnOver a next top None = top ≤ a
OnOver a next top (Some t) = (t < length next) × (top ≤ a + top_at next t)

-- the true child is not behind the false one
abbrev pub NotBehind : Option ℕ → Option ℕ → Type 0
NotBehind None t = Unit {0}
NotBehind (Some f) None = Unit {0}
NotBehind (Some f) (Some t) = t ≤ f

pub record IsOver (a : ℕ) (next : List Node) (n : Node) : Type 0 where
  pub off : OffOver next n.top n.off
  pub on : OnOver a next n.top n.on
  pub pair : NotBehind n.off n.on

-- false children of a node and of a later one: a missing one is the true end, behind all others
abbrev pub OffLe : Option ℕ → Option ℕ → Type 0
OffLe None None = Unit {0}
OffLe None (Some g) = ⊥
OffLe (Some f) None = Unit {0}
OffLe (Some f) (Some g) = f ≤ g

-- true children: a missing one is the false end, before all others
abbrev pub OnLe : Option ℕ → Option ℕ → Type 0
OnLe None None = Unit {0}
OnLe None (Some u) = Unit {0}
OnLe (Some t) None = ⊥
OnLe (Some t) (Some u) = t ≤ u

pub record IsBefore (n m : Node) : Type 0 where
  pub off : OffLe n.off m.off
  pub on : OnLe n.on m.on

abbrev pub AreSorted : List Node → Type 0
AreSorted [] = Unit {0}
AreSorted (n ∷ ns) = AreChildren (IsBefore n) ns × AreSorted ns

pub record IsLevel (a : ℕ) (ns next : List Node) : Type 0 where
  pub up : AreUp 0 ns
  pub rise : AreUp 0 next
  pub over : AreChildren (IsOver a next) ns
  pub sorted : AreSorted ns

-- ---- lists

pub children_weaker : (P Q : Node → Type 0) → ((n : Node) → P n → Q n) → (ns : List Node) → AreChildren P ns → AreChildren Q ns
children_weaker P Q each [] h = tt
children_weaker P Q each (n ∷ ns) h = (each n h.0, children_weaker P Q each ns h.1)

pub children_both : (P Q : Node → Type 0) (ns : List Node) → AreChildren P ns → AreChildren Q ns → AreChildren (λ n. P n × Q n) ns
children_both P Q [] h k = tt
children_both P Q (n ∷ ns) h k = ((h.0, k.0), children_both P Q ns h.1 k.1)

-- no node ends above the last one
pub tops-le_last : (low : ℕ) (ns : List Node) → AreUp low ns → AreChildren (λ n. n.top ≤ last_top ns) ns
tops-le_last low [] up = tt
tops-le_last low (n ∷ []) up = (omega arith, tt)
tops-le_last low (n ∷ m ∷ ns) up =
    let rest = tops-le_last n.top (m ∷ ns) up.1 in
    (omega (arith, up.1.0, rest.0), rest)

low-lt_top : (low : ℕ) (ns : List Node) → AreUp low ns → (j : ℕ) → j < length ns → low < top_at ns j
low-lt_top low [] up j within = absurd (omega (arith, within))
low-lt_top low (n ∷ ns) up zero within = up.0
low-lt_top low (n ∷ ns) up (suc j) within = omega (arith, up.0, low-lt_top n.top ns up.1 j (omega (arith, within)))

pub tops_up : (low : ℕ) (ns : List Node) → AreUp low ns → (i j : ℕ) → i ≤ j → j < length ns → top_at ns i ≤ top_at ns j
tops_up low [] up i j le within = absurd (omega (arith, within))
tops_up low (n ∷ ns) up zero zero le within = omega arith
tops_up low (n ∷ ns) up zero (suc j) le within = omega (arith, low-lt_top n.top ns up.1 j (omega (arith, within)))
tops_up low (n ∷ ns) up (suc i) zero le within = absurd (omega (arith, le))
tops_up low (n ∷ ns) up (suc i) (suc j) le within = tops_up n.top ns up.1 i j (omega (arith, le)) (omega (arith, within))

pub top-le_last : (low : ℕ) (ns : List Node) → AreUp low ns → (j : ℕ) → j < length ns → top_at ns j ≤ last_top ns
top-le_last low [] up j within = absurd (omega (arith, within))
top-le_last low (n ∷ []) up zero within = omega arith
top-le_last low (n ∷ []) up (suc j) within = absurd (omega (arith, within))
top-le_last low (n ∷ m ∷ ns) up zero within = omega (arith, up.1.0, top-le_last n.top (m ∷ ns) up.1 0 (omega arith))
top-le_last low (n ∷ m ∷ ns) up (suc j) within = top-le_last n.top (m ∷ ns) up.1 j (omega (arith, within))

pub last-le : (k : ℕ) (ns : List Node) → AreChildren (λ n. n.top ≤ k) ns → last_top ns ≤ k
last-le k [] h = omega arith
last-le k (n ∷ []) h = h.0
last-le k (n ∷ m ∷ ns) h = last-le k (m ∷ ns) h.1

pub some_last : (low : ℕ) (n : Node) (ns : List Node) → AreUp low (n ∷ ns) → low < last_top (n ∷ ns)
some_last low n [] up = up.0
some_last low n (m ∷ ns) up = omega (arith, up.0, some_last n.top m ns up.1)

-- ---- how far nodes reach

reach-le : (child : Node → Option ℕ) (j k : ℕ) (ns : List Node) → AreChildren (λ n. is_by (child n) j ≡ true → n.top ≤ k) ns → reach_by child ns j ≤ k
reach-le child j k [] h = omega arith
reach-le child j k (n ∷ ns) h = omega (arith, by_test (is_by (child n) j) h.0, reach-le child j k ns h.1)
  where
    by_test : (b : Bool) → (b ≡ true → n.top ≤ k) → cond b n.top 0 ≤ k
    by_test true h = h refl
    by_test false h = omega arith

pub reach-none : (child : Node → Option ℕ) (i : ℕ) (ns : List Node) → AreChildren (λ m. is_by (child m) i ≡ false) ns → reach_by child ns i ≡ 0
reach-none child i [] h = refl
reach-none child i (n ∷ ns) h = omega (arith, ap (λ (b : Bool). cond b n.top 0) h.0, reach-none child i ns h.1)

pub off_later : (f g : Option ℕ) (i : ℕ) → OffLe f g → is_by f i ≡ false → is_by g i ≡ false
off_later None None i le e = refl
off_later None (Some g) i le e = absurd le
off_later (Some f) None i le e = refl
off_later (Some f) (Some g) i le e = lt-leb g i (omega (arith, le, leb-false f i e))

pub on_later : (t : ℕ) (u : Option ℕ) (i : ℕ) → OnLe (Some t) u → is_by (Some t) i ≡ false → is_by u i ≡ false
on_later t None i le e = absurd le
on_later t (Some u) i le e = lt-leb u i (omega (arith, le, leb-false t i e))

off_in : (h : ℕ → ℕ) (next : List Node) (top : ℕ) (f : Option ℕ) → OffOver next top f → IsIn h (length next) f
off_in h next top None k = tt
off_in h next top (Some f) k = k.0

on_in : (h : ℕ → ℕ) (a : ℕ) (next : List Node) (top : ℕ) (t : Option ℕ) → OnOver a next top t → IsIn h (length next) t
on_in h a next top None k = tt
on_in h a next top (Some t) k = k.0

-- where the literal is false
pub off_steps : (h : ℕ → ℕ) (a : ℕ) (next : List Node) (o : ℕ) (ns : List Node) → AreChildren (IsOver a next) ns → AreSorted ns → AreSteps h off_of (length next) o ns
off_steps h a next o [] over sorted = tt
off_steps h a next o (n ∷ ns) over sorted = (
  (λ i e. inl (reach-none off_of i ns (children_weaker (IsBefore n) (λ m. is_by m.off i ≡ false) (λ m b. off_later n.off m.off i b.off e) ns sorted.0))),
  (off_in h next n.top n.off over.0.off, off_steps h a next (max o n.top) ns over.1 sorted.1),
)

-- and where it is true
pub on_steps : (h : ℕ → ℕ) (a : ℕ) (next : List Node) (own o : ℕ) (ns : List Node) → own ≤ o → AreChildren (IsOver a next) ns → AreChildren (λ n. IsOnChild (length next) own n.top n.off n.on) ns → AreSorted ns → AreSteps h on_of (length next) o ns
on_steps h a next own o [] le over ons sorted = tt
on_steps h a next own o (n ∷ ns) le over ons sorted = (
  by_child n.on ons.0 (children_weaker (IsBefore n) (λ m. OnLe n.on m.on) (λ m b. b.on) ns sorted.0),
  (on_in h a next n.top n.on over.0.on, on_steps h a next own (max o n.top) ns (omega (arith, le)) over.1 ons.1 sorted.1),
)
  where
    by_child : (t : Option ℕ) → IsOnChild (length next) own n.top n.off t → AreChildren (λ m. OnLe t m.on) ns → (i : ℕ) → is_by t i ≡ false → (reach_by on_of ns i ≡ 0) ⊎ (n.top ≤ o)
    by_child None child later i e = inr (omega (arith, child, le))
    by_child (Some t) child later i e = inl (reach-none on_of i ns (children_weaker (λ m. OnLe (Some t) m.on) (λ m. is_by m.on i ≡ false) (λ m k. on_later t m.on i k e) ns later))

above_from : (reach : ℕ → ℕ) (j : ℕ) (ns : List Node) → ((i k : ℕ) → k ≡ j + i → i < length ns → reach k ≤ top_at ns i) → AreAbove reach j ns
above_from reach j [] each = tt
above_from reach j (n ∷ ns) each = (each 0 j (omega arith) (omega arith), above_from reach (suc j) ns (λ i k e within. each (suc i) k (omega (arith, e)) (omega (arith, within))))

-- ---- of a level

module _ (a : ℕ) (ns next : List Node) (here : IsLevel a ns next) where
  abbrev own : ℕ
  own = min a (last_top ns)

  low_tops : AreChildren (λ n. n.top ≤ last_top ns) ns
  low_tops = tops-le_last 0 ns here.up

  both : AreChildren (λ n. IsOver a next n × (n.top ≤ last_top ns)) ns
  both = children_both (IsOver a next) (λ n. n.top ≤ last_top ns) ns here.over low_tops

  pub level-ons : AreChildren (λ n. IsOnChild (length next) (min a (last_top ns)) n.top n.off n.on) ns
  level-ons = children_weaker (λ n. IsOver a next n × (n.top ≤ last_top ns)) (λ n. IsOnChild (length next) own n.top n.off n.on) (λ n h. by_child n.top n.off n.on h.0.off h.0.on h.0.pair h.1) ns both
    where
      by_child : (top : ℕ) (f t : Option ℕ) → OffOver next top f → OnOver a next top t → NotBehind f t → top ≤ last_top ns → IsOnChild (length next) own top f t
      by_child top f None off on pair low = omega (arith, on, low)
      by_child top None (Some t) off on pair low = on.0
      by_child top (Some f) (Some t) off on pair low = (pair, off.0)

  pub level-off_steps : (h : ℕ → ℕ) → AreSteps h off_of (length next) 0 ns
  level-off_steps h = off_steps h a next 0 ns here.over here.sorted

  pub level-on_steps : (h : ℕ → ℕ) → AreSteps h on_of (length next) (min a (last_top ns)) ns
  level-on_steps h = on_steps h a next own own ns (omega arith) here.over level-ons here.sorted

  pub level-off_above : AreAbove (reach_by off_of ns) 0 next
  level-off_above = above_from (reach_by off_of ns) 0 next (λ i k same within. let e : i ≡ k = omega (arith, same) in
      subst (λ (j : ℕ). reach_by off_of ns j ≤ top_at next i) e (reach-le off_of i (top_at next i) ns (children_weaker (IsOver a next) (λ n. is_by n.off i ≡ true → n.top ≤ top_at next i) (λ n h. by_child n.top n.off i within h.off) ns here.over)))
    where
      by_child : (top : ℕ) (f : Option ℕ) (i : ℕ) → i < length next → OffOver next top f → is_by f i ≡ true → top ≤ top_at next i
      by_child top None i within k e = absurd (both_ways false refl e)
      by_child top (Some f) i within k e = omega (arith, k.1, tops_up 0 next here.rise f i (leb-true f i e) within)

  pub level-on_above : AreAbove (λ j. reach_by on_of ns j - min a (last_top ns)) 0 next
  level-on_above = above_from (λ j. reach_by on_of ns j - own) 0 next (λ i k same within.
      let e : i ≡ k = omega (arith, same) in
      let most = reach-le on_of i (own + top_at next i) ns (children_weaker (λ n. IsOver a next n × (n.top ≤ last_top ns)) (λ n. is_by n.on i ≡ true → n.top ≤ own + top_at next i) (λ n h. by_child n.top n.on i within h.0.on h.1) ns both) in
      subst (λ (j : ℕ). reach_by on_of ns j - own ≤ top_at next i) e (omega (arith, most)))
    where
      by_child : (top : ℕ) (t : Option ℕ) (i : ℕ) → i < length next → OnOver a next top t → top ≤ last_top ns → is_by t i ≡ true → top ≤ own + top_at next i
      by_child top None i within k low e = absurd (both_ways false refl e)
      by_child top (Some t) i within k low e = omega (arith, k.1, low, tops_up 0 next here.rise t i (leb-true t i e) within)

  -- the literal and the next level's nodes reach the end
  pub level-covered : last_top ns ≤ min a (last_top ns) + last_top next
  level-covered =
      let most = last-le (a + last_top next) ns (children_weaker (IsOver a next) (λ n. n.top ≤ a + last_top next) (λ n h. by_child n.top n.on h.on) ns here.over) in
      omega (arith, most)
    where
      by_child : (top : ℕ) (t : Option ℕ) → OnOver a next top t → top ≤ a + last_top next
      by_child top None k = omega (arith, k)
      by_child top (Some t) k = omega (arith, k.1, top-le_last 0 next here.rise t k.0)
