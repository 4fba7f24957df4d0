-- What `optimum OPB MODEL CNF PROOF LRAT` asks for. It takes no bound, since it gives the problem one of its own. Our own.
use Rattle.std.specs.Prelude.{List, ◌∷◌, [], Option, Some, None, if◌then◌else◌, codes}
use Rattle.clap.specs.Words.{App, Row, Text, first_of}
use Rattle.pb_words.specs.declared.optimum.OptimumArgs.{OptimumArgs}
use Rattle.pb_words.specs.Names.{are_different}
use Rattle.pb_words.specs.Rules.{command_of, name_rule}

abbrev pub optimum_app : App
optimum_app = command_of (codes "optimum") (name_rule (codes "opb") ∷ name_rule (codes "model") ∷ name_rule (codes "cnf") ∷ name_rule (codes "proof") ∷ name_rule (codes "lrat") ∷ [])

pub record OptimumWords : Type 0 where
  pub opb : Text
  pub model : Text
  pub cnf : Text
  pub proof : Text
  pub lrat : Text

abbrev pub optimum_from : Option Text → Option Text → Option Text → Option Text → Option Text → Option OptimumWords
optimum_from (Some opb) (Some model) (Some cnf) (Some proof) (Some lrat) =
    if are_different (opb ∷ model ∷ cnf ∷ proof ∷ lrat ∷ []) then Some (record { opb = opb; model = model; cnf = cnf; proof = proof; lrat = lrat }) else None
optimum_from _ _ _ _ _ = None

abbrev pub optimum_in : List Row → Option OptimumWords
optimum_in given = optimum_from (first_of (codes "opb") given) (first_of (codes "model") given) (first_of (codes "cnf") given) (first_of (codes "proof") given) (first_of (codes "lrat") given)

-- what an `OptimumArgs` says
abbrev pub as_optimum_words : OptimumArgs → OptimumWords
as_optimum_words o = record { opb = o.opb.now; model = o.model.now; cnf = o.cnf.now; proof = o.proof.now; lrat = o.lrat.now }
