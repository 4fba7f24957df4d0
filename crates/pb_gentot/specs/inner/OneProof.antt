-- Facts that have one proof at most, so that a type can have them.
use mathlib.Core.HLevel.{Π_prop, ×_prop, Unit-prop}
use native.Mathlib.Bridge.{le_prop}
use Rattle.std.specs.Prelude.{ℕ, List, [], ◌∷◌}
use Rattle.pb_gentot.specs.Rising.{Rising}
use Rattle.pb_gentot.specs.declared.node_ids.Source.{Source}
use Rattle.pb_gentot.specs.declared.node_ids.Source.TheVariants.{Leaf, Fresh}
use Rattle.pb_gentot.specs.declared.outputs.Outputs.{Outputs}
use Rattle.pb_gentot.specs.declared.outputs.Outputs.TheVariants as outputs
use Rattle.pb_gentot.specs.inner.Ids.{HasIds}
use Rattle.pb_gentot.specs.inner.Outputs.{HasRoom}

pub Rising-prop : (us : List ℕ) → IsProp (Rising us)
Rising-prop [] = Unit-prop
Rising-prop (u ∷ us) = ×_prop (Π_prop (λ n. Π_prop (λ h. le_prop))) (Rising-prop us)

pub HasIds-prop : (source : Source) (n : ℕ) → IsProp (HasIds source n)
HasIds-prop Leaf n = Unit-prop
HasIds-prop (Fresh id) n = le_prop

pub HasRoom-prop : (given : Outputs) (n : ℕ) → IsProp (HasRoom given n)
HasRoom-prop (outputs.Single lit) n = Unit-prop
HasRoom-prop (outputs.Fresh first) n = ×_prop le_prop le_prop
