-- What `decode OPB MODEL`, with a bound, asks for. Our own.
use Rattle.std.specs.Prelude.{ℤ, List, ◌∷◌, [], Option, Some, None, if◌then◌else◌, codes}
use Rattle.clap.specs.Words.{App, Row, Text, first_of}
use Rattle.pb_words.specs.declared.decode.DecodeArgs.{DecodeArgs}
use Rattle.pb_words.specs.BoundWords.{bound_in, bound_rules}
use Rattle.pb_words.specs.Names.{are_different}
use Rattle.pb_words.specs.Rules.{command_of, name_rule}

abbrev pub decode_app : App
decode_app = command_of (codes "decode") (name_rule (codes "opb") ∷ name_rule (codes "model") ∷ bound_rules)

pub record DecodeWords : Type 0 where
  pub opb : Text
  pub model : Text
  pub bound : Option ℤ

abbrev pub decode_from : Option Text → Option Text → Option (Option ℤ) → Option DecodeWords
decode_from (Some opb) (Some model) (Some bound) = if are_different (opb ∷ model ∷ []) then Some (record { opb = opb; model = model; bound = bound }) else None
decode_from _ _ _ = None

abbrev pub decode_in : List Row → Option DecodeWords
decode_in given = decode_from (first_of (codes "opb") given) (first_of (codes "model") given) (bound_in given)

-- what a `DecodeArgs` says
abbrev pub as_decode_words : DecodeArgs → DecodeWords
as_decode_words d = record { opb = d.opb.now; model = d.model.now; bound = d.bound }
