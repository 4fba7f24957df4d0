-- What `encode OPB CNF [PROOF]`, with the options, a bound and a table of bounds, asks for. Our own.
use Rattle.std.specs.Prelude.{ℤ, List, [], ◌∷◌, ◌++◌, Option, Some, None, if◌then◌else◌, codes, option_copied}
use Rattle.std.specs.Option.{option_to_list}
use Rattle.clap.specs.Words.{App, Row, Text, first_of, new_rule as optional_rule}
use Rattle.pb_base.specs.declared.options.Options.{Options}
use Rattle.pb_words.specs.declared.encode.EncodeArgs.{EncodeArgs}
use Rattle.pb_words.specs.BoundWords.{bound_in, bound_rules}
use Rattle.pb_words.specs.Names.{are_different}
use Rattle.pb_words.specs.OptionWords.{option_rules}
use Rattle.pb_words.specs.Rules.{command_of, flag_rule, name_rule}
use Rattle.pb_words.specs.TableWords.{tabled_in}

abbrev pub encode_app : App
encode_app = command_of (codes "encode") (name_rule (codes "opb") ∷ name_rule (codes "cnf") ∷ optional_rule (codes "proof") ∷ (option_rules ++ bound_rules ++ flag_rule (codes "table") ∷ []))

pub record EncodeWords : Type 0 where
  pub opb : Text
  pub cnf : Text
  pub proof : Option Text
  pub options : Options
  pub bound : Option ℤ

abbrev pub encode_from : Option Text → Option Text → Option Text → Option Options → Option (Option ℤ) → Option EncodeWords
encode_from (Some opb) (Some cnf) proof (Some options) (Some bound) =
    if are_different (opb ∷ cnf ∷ option_to_list proof) then Some (record { opb = opb; cnf = cnf; proof = proof; options = options; bound = bound }) else None
encode_from _ _ _ _ _ = None

abbrev pub encode_in : List Row → Option EncodeWords
encode_in given = encode_from (first_of (codes "opb") given) (first_of (codes "cnf") given) (first_of (codes "proof") given) (tabled_in given) (bound_in given)

-- what an `EncodeArgs` says
abbrev pub as_encode_words : EncodeArgs → EncodeWords
as_encode_words e = record { opb = e.opb.now; cnf = e.cnf.now; proof = option_copied e.proof; options = e.options; bound = e.bound }
