-- Which sums each family is for.
use Rattle.std.specs.Prelude.{◌<◌, ◌*◌, ◌^◌, length}
use Rattle.pb_norm.specs.Constraints.{weight}
use Rattle.pb_norm.specs.BoundedSums.{BoundedSum, IsProper}
use Rattle.pb_norm.specs.declared.reduction.Rest.{Rest}
use Rattle.pb_norm.specs.declared.reduction.Rest.TheVariants as rest
use Rattle.pb_norm.specs.Classes.{IsCardinality, IsAtMostOne}
use Rattle.pb_gentot.specs.Generalized.{generalized_size}
use Rattle.pb_choice.specs.declared.treatment.Treatment.{Treatment}
use Rattle.pb_choice.specs.declared.treatment.Treatment.TheVariants as treatment

-- what a family asks of a sum
abbrev pub Suits : Treatment → BoundedSum → Type 0
Suits treatment.Pairwise m = IsAtMostOne m
Suits treatment.Ladder m = IsAtMostOne m
Suits treatment.Product m = IsAtMostOne m
Suits treatment.Counter m = IsCardinality m
Suits treatment.Totalizer m = IsCardinality m
Suits treatment.Diagram m = IsProper m
Suits treatment.Tree m = IsProper m
Suits treatment.Adder m = Unit {0}
Suits t m = ⊥

-- the same of what is left
abbrev pub RestSuits : Treatment → Rest → Type 0
RestSuits t (rest.One m) = Suits t m
RestSuits t (rest.Card m) = Suits t m
RestSuits t (rest.General m) = Suits t m
RestSuits t other = Unit {0}

-- what the derivation of its clauses asks
pub record IsDerivable (t : Treatment) (m : BoundedSum) : Type 0 where
  pub suits : Suits t m
  pub proper : IsProper m
  pub few : length m.terms < 2 ^ 31
  pub light : weight m.terms < 2 ^ 100

-- the ids of a tree's clauses have room
abbrev pub HasRoom : Treatment → BoundedSum → Type 0
HasRoom treatment.Tree m = generalized_size m < 5 * 2 ^ 60
HasRoom t m = Unit {0}
