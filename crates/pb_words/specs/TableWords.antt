-- A table of bounds on the objective, in words. Our own.
use Rattle.std.specs.Prelude.{Bool, false, List, Option, codes, option_map}
use Rattle.std.specs.Option.{option_map_or}
use Rattle.std.specs.Str.{bytes_eq}
use Rattle.clap.specs.Words.{Row, first_of}
use Rattle.pb_base.specs.declared.options.Options.{Options}
use Rattle.pb_words.specs.OptionWords.{options_in}

-- whether a table is asked for: clap says `true` of an option without a value that was given
abbrev pub table_in : List Row → Bool
table_in given = option_map_or (λ word. bytes_eq word (codes "true")) (first_of (codes "table") given) false

-- the options with a table, if it is asked for
abbrev pub tabled_in : List Row → Option Options
tabled_in given = option_map (λ (o : Options). record o { table = table_in given }) (options_in given)
