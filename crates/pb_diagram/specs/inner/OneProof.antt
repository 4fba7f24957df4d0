-- Facts about levels that have one proof at most, so that a type can have them.
use mathlib.Core.HLevel.{×_prop, Unit-prop, ⊥_prop}
use native.Mathlib.Bridge.{le_prop}
use Rattle.std.specs.Prelude.{ℕ, List, [], ◌∷◌, Option, None, Some}
use Rattle.pb_norm.specs.Constraints.{Weighted}
use Rattle.pb_diagram.specs.declared.node.Node.{Node}
use Rattle.pb_diagram.specs.GuardedSteps.{first_nodes}
use Rattle.pb_diagram.specs.laws.LevelShape.{AreSorted, IsBefore, IsLevel, IsOver, NotBehind, OffLe, OffOver, OnLe, OnOver}
use Rattle.pb_diagram.specs.laws.LevelWorths.{AreChildren}
use Rattle.pb_diagram.specs.laws.NodesOver.{AreLevels}
use Rattle.pb_diagram.specs.laws.StepSums.{AreUp}

up-prop : (low : ℕ) (ns : List Node) → IsProp (AreUp low ns)
up-prop low [] = Unit-prop
up-prop low (n ∷ ns) = ×_prop le_prop (up-prop n.top ns)

children-prop : (P : Node → Type 0) → ((n : Node) → IsProp (P n)) → (ns : List Node) → IsProp (AreChildren P ns)
children-prop P each [] = Unit-prop
children-prop P each (n ∷ ns) = ×_prop (each n) (children-prop P each ns)

off_over-prop : (next : List Node) (top : ℕ) (o : Option ℕ) → IsProp (OffOver next top o)
off_over-prop next top None = Unit-prop
off_over-prop next top (Some f) = ×_prop le_prop le_prop

on_over-prop : (a : ℕ) (next : List Node) (top : ℕ) (o : Option ℕ) → IsProp (OnOver a next top o)
on_over-prop a next top None = le_prop
on_over-prop a next top (Some t) = ×_prop le_prop le_prop

not_behind-prop : (f t : Option ℕ) → IsProp (NotBehind f t)
not_behind-prop None t = Unit-prop
not_behind-prop (Some f) None = Unit-prop
not_behind-prop (Some f) (Some t) = le_prop

over-prop : (a : ℕ) (next : List Node) (n : Node) → IsProp (IsOver a next n)
over-prop a next n = λ x y i. record { off = off_over-prop next n.top n.off x.off y.off i; on = on_over-prop a next n.top n.on x.on y.on i; pair = not_behind-prop n.off n.on x.pair y.pair i }

off_le-prop : (f g : Option ℕ) → IsProp (OffLe f g)
off_le-prop None None = Unit-prop
off_le-prop None (Some g) = ⊥_prop
off_le-prop (Some f) None = Unit-prop
off_le-prop (Some f) (Some g) = le_prop

on_le-prop : (t u : Option ℕ) → IsProp (OnLe t u)
on_le-prop None None = Unit-prop
on_le-prop None (Some u) = Unit-prop
on_le-prop (Some t) None = ⊥_prop
on_le-prop (Some t) (Some u) = le_prop

before-prop : (n m : Node) → IsProp (IsBefore n m)
before-prop n m = λ x y i. record { off = off_le-prop n.off m.off x.off y.off i; on = on_le-prop n.on m.on x.on y.on i }

sorted-prop : (ns : List Node) → IsProp (AreSorted ns)
sorted-prop [] = Unit-prop
sorted-prop (n ∷ ns) = ×_prop (children-prop (IsBefore n) (before-prop n) ns) (sorted-prop ns)

pub level-prop : (a : ℕ) (ns next : List Node) → IsProp (IsLevel a ns next)
level-prop a ns next = λ x y i. record { up = up-prop 0 ns x.up y.up i; rise = up-prop 0 next x.rise y.rise i; over = children-prop (IsOver a next) (over-prop a next) ns x.over y.over i; sorted = sorted-prop ns x.sorted y.sorted i }

pub levels-prop : (ts : List Weighted) (ls : List (List Node)) → IsProp (AreLevels ts ls)
levels-prop [] [] = Unit-prop
levels-prop [] (ns ∷ ls) = ⊥_prop
levels-prop (t ∷ ts) [] = ⊥_prop
levels-prop (t ∷ ts) (ns ∷ ls) = ×_prop (level-prop t.coef ns (first_nodes ls)) (levels-prop ts ls)
