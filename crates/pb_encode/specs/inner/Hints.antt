-- What a walk that planned groups tells the walks after it. It serves proofs alone.
use Rattle.std.specs.Prelude.{◌≡◌, List, [], ◌∷◌, All, drop, false}
use Rattle.pb_base.specs.declared.options.Options.{Options}
use Rattle.pb_choice.specs.Choice.{IsSentToAdder}
use Rattle.pb_choice.specs.Equals.{is_joint}
use Rattle.pb_choice.specs.Kept.{IsKeptOf}
use Rattle.pb_encode.specs.declared.groups.Group.{Group}
use Rattle.pb_encode.specs.declared.groups.Group.TheVariants.{Alone, Paired}
use Rattle.pb_encode.specs.declared.hints.Hint.{Hint}
use Rattle.pb_encode.specs.declared.hints.Hints.{Hints}
use Rattle.pb_encode.specs.declared.hints.Tells.{Tells}
use Rattle.pb_encode.specs.declared.hints.Tells.TheVariants.{Adder, Diagram}

-- all its constraints go to the adder, one by one
abbrev pub IsAdderGroup : Options → Group → Type 0
IsAdderGroup o (Alone c) = IsSentToAdder o c
IsAdderGroup o (Paired c d) = (is_joint o c ≡ false) × IsSentToAdder o c × IsSentToAdder o d

-- what is told of a group holds of it; diagrams are kept of single constraints alone
abbrev pub IsToldOf : Options → Group → Tells → Type 0
IsToldOf o g Adder = IsAdderGroup o g
IsToldOf o (Alone c) (Diagram k) = IsKeptOf o c k
IsToldOf o (Paired c d) (Diagram k) = ⊥

-- of the group that stands at its place
abbrev pub IsHintOf : Options → List Group → Hint → Type 0
IsHintOf o gs h = (g : Group) (rest : List Group) → drop h.place gs ≡ g ∷ rest → IsToldOf o g h.tells

pub record AreHintsOf (o : Options) (gs : List Group) (hints : List Hint) : Type 0 where
  pub each : All (IsHintOf o gs) hints

-- where the former are, so are the latter
abbrev pub StayHints : Options → List Group → Hints → Hints → Type 0
StayHints o gs old new = AreHintsOf o gs old.list.items → AreHintsOf o gs new.list.items

-- no group was gone over yet
pub record IsBlank (hints : Hints) : Type 0 where
  pub none : hints.list.items ≡ []
  pub first : hints.noted ≡ 0
