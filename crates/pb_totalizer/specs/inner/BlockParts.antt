-- All kinds of lines about the blocks of a row of fresh variables, in their order.
use Rattle.std.specs.Prelude.{List, [], ◌∷◌}
use Rattle.pb_totalizer.specs.declared.block_lines.BlockLines.{BlockLines}
use Rattle.pb_totalizer.specs.declared.block_parts.BlockKind.TheVariants.{Fronts, Tails, Heads, Backs, Others, Narrows}
use Rattle.pb_totalizer.specs.declared.block_parts.BlockPart.{BlockPart}

abbrev pub block_parts : BlockLines → List BlockPart
block_parts b =
    record { lines = b; kind = Fronts }
    ∷ record { lines = b; kind = Tails }
    ∷ record { lines = b; kind = Heads }
    ∷ record { lines = b; kind = Backs }
    ∷ record { lines = b; kind = Others }
    ∷ record { lines = b; kind = Narrows } ∷ []
