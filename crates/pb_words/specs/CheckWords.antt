-- What `check OPB CNF PROOF`, with a bound, asks for. Our own.
use Rattle.std.specs.Prelude.{ℤ, List, ◌∷◌, [], Option, Some, None, if◌then◌else◌, codes}
use Rattle.clap.specs.Words.{App, Row, Text, first_of}
use Rattle.pb_words.specs.declared.check.CheckArgs.{CheckArgs}
use Rattle.pb_words.specs.BoundWords.{bound_in, bound_rules}
use Rattle.pb_words.specs.Names.{are_different}
use Rattle.pb_words.specs.Rules.{command_of, name_rule}

abbrev pub check_app : App
check_app = command_of (codes "check") (name_rule (codes "opb") ∷ name_rule (codes "cnf") ∷ name_rule (codes "proof") ∷ bound_rules)

pub record CheckWords : Type 0 where
  pub opb : Text
  pub cnf : Text
  pub proof : Text
  pub bound : Option ℤ

abbrev pub check_from : Option Text → Option Text → Option Text → Option (Option ℤ) → Option CheckWords
check_from (Some opb) (Some cnf) (Some proof) (Some bound) =
    if are_different (opb ∷ cnf ∷ proof ∷ []) then Some (record { opb = opb; cnf = cnf; proof = proof; bound = bound }) else None
check_from _ _ _ _ = None

abbrev pub check_in : List Row → Option CheckWords
check_in given = check_from (first_of (codes "opb") given) (first_of (codes "cnf") given) (first_of (codes "proof") given) (bound_in given)

-- what a `CheckArgs` says
abbrev pub as_check_words : CheckArgs → CheckWords
as_check_words c = record { opb = c.opb.now; cnf = c.cnf.now; proof = c.proof.now; bound = c.bound }
