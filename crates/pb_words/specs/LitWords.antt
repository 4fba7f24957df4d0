-- Literals in words. Our own.
use Rattle.std.specs.Prelude.{List, [], ◌∷◌, Option, Some, None, option_map, option_and_then}
use Rattle.clap.specs.Words.{Text}
use Rattle.pb_base.specs.declared.literal.Lit.{Lit}
use Rattle.pb_base.specs.declared.literal_word.LitWord.{LitWord}
use Rattle.pb_base.specs.declared.literal_word.LitWord.TheVariants.{Within}
use Rattle.pb_base.specs.LiteralWords.{literal_of, limited_literal}

-- a variable's number has an end
abbrev pub lit_within : LitWord → Option Lit
lit_within (Within l) = Some l
lit_within _ = None

-- the literal of `x` and digits, behind an optional `~`, of a variable up to 2^31 - 1
abbrev pub lit_in : Text → Option Lit
lit_in word = lit_within (limited_literal (literal_of word))

-- the literals that the words are, if all are literals
abbrev pub lits_in : List Text → Option (List Lit)
lits_in [] = Some []
lits_in (word ∷ words) = option_and_then (λ l. option_map (λ ls. l ∷ ls) (lits_in words)) (lit_in word)
