-- Command lines in worked examples.
use Rattle.std.specs.Prelude.{map, Option}
use Rattle.clap.specs.Words.{Text}
use Rattle.pb_base.specs.Words.{words_of}
use Rattle.pb_words.specs.Parsed.{Wanted, parsed_of}

-- what a line asks for whose words stand between blanks
abbrev pub said : Text → Option Wanted
said line = parsed_of (map (λ word. word.text) (words_of line))
