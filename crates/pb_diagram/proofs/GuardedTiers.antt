-- What a level over the next one says of one of its nodes.
use Rattle.std.proofs.Common.{◌≡◌, ◌≤◌, ◌<◌, ◌-◌, ◌∙◌, ℕ, zero, suc, List, [], ◌∷◌, ap, get_or, length, refl, subst, sym, arith}
use Rattle.std.specs.Prelude.{Option, None, Some, slice_get}
use Rattle.pb_diagram.specs.declared.node.Node.{Node}
use Rattle.pb_diagram.specs.Guards.{last_top}
use Rattle.pb_diagram.specs.laws.GuardSplit.{IsIn}
use Rattle.pb_diagram.specs.laws.LevelShape.{IsLevel, IsOver, OffOver, OnOver, tops-le_last}
use Rattle.pb_diagram.specs.laws.LevelWorths.{AreChildren}
use Rattle.pb_diagram.specs.laws.StepSums.{AreUp}

children_at : (P : Node → Type 0) (ns : List Node) (i : ℕ) (n : Node) → i < length ns → n ≡ get_or ns i n → AreChildren P ns → P n
children_at P [] i n within is h = absurd (omega (arith, within))
children_at P (m ∷ ns) zero n within is h = subst P (sym is) h.0
children_at P (m ∷ ns) (suc i) n within is h = children_at P ns i n (omega (arith, within)) is h.1

off_within : (next : List Node) (top : ℕ) (o : Option ℕ) → OffOver next top o → IsIn (length next) o
off_within next top None h = tt
off_within next top (Some f) h = h.0

on_within : (a : ℕ) (next : List Node) (top : ℕ) (o : Option ℕ) → OnOver a next top o → IsIn (length next) o
on_within a next top None h = tt
on_within a next top (Some t) h = h.0

pub off_in_next : (a : ℕ) (ns next : List Node) (i : ℕ) (n : Node) → i < length ns → n ≡ get_or ns i n → IsLevel a ns next → IsIn (length next) n.off
off_in_next a ns next i n within is level = off_within next n.top n.off (children_at (IsOver a next) ns i n within is level.over).off

pub on_in_next : (a : ℕ) (ns next : List Node) (i : ℕ) (n : Node) → i < length ns → n ≡ get_or ns i n → IsLevel a ns next → IsIn (length next) n.on
on_in_next a ns next i n within is level = on_within a next n.top n.on (children_at (IsOver a next) ns i n within is level.over).on

pub top_within : (low : ℕ) (ns : List Node) (i : ℕ) (n : Node) → i < length ns → n ≡ get_or ns i n → AreUp low ns → n.top ≤ last_top ns
top_within low ns i n within is up = children_at (λ m. m.top ≤ last_top ns) ns i n within is (tops-le_last low ns up)

-- ---- the end of the last one

abbrev pub top_in : Option Node → ℕ
top_in None = 0
top_in (Some n) = n.top

pub top_in_last : (ns : List Node) → top_in (slice_get ns (length ns - 1)) ≡ last_top ns
top_in_last [] = refl
top_in_last (n ∷ []) = refl
top_in_last (n ∷ m ∷ ns) = ap (λ (i : ℕ). top_in (slice_get (n ∷ m ∷ ns) i)) (let e : length (n ∷ m ∷ ns) - 1 ≡ suc (length (m ∷ ns) - 1) = omega arith in e) ∙ top_in_last (m ∷ ns)
