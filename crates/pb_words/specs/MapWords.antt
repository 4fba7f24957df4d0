-- What `map OPB` asks for. Our own.
use Rattle.std.specs.Prelude.{List, [], ◌∷◌, Option, codes, option_map}
use Rattle.clap.specs.Words.{App, Row, Text, first_of}
use Rattle.pb_words.specs.declared.map.MapArgs.{MapArgs}
use Rattle.pb_words.specs.Rules.{command_of, name_rule}

abbrev pub map_app : App
map_app = command_of (codes "map") (name_rule (codes "opb") ∷ [])

pub record MapWords : Type 0 where
  pub opb : Text

abbrev pub map_in : List Row → Option MapWords
map_in given = option_map (λ opb. record { opb = opb }) (first_of (codes "opb") given)

-- what a `MapArgs` says
abbrev pub as_map_words : MapArgs → MapWords
as_map_words m = record { opb = m.opb.now }
