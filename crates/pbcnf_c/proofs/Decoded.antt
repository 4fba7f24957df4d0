-- What decoding and listing names come to.
use Rattle.std.proofs.Common.{◌≡◌, List, ℕ, ℤ, Option, None, Ok, inl, inr, subst, sym}
use Rattle.std.specs.Prelude.{◌⊎◌}
use Rattle.pb_base.specs.declared.problem.Problem.{Problem}
use Rattle.pb_model.specs.declared.decoding.Decoded.TheVariants as decoded
use Rattle.pb_model.specs.declared.fault.ModelFault.{ModelFault}
use Rattle.pb_model.specs.declared.fault.ModelFault.TheVariants as model
use Rattle.pb_model.specs.declared.model.Model.{Model}
use Rattle.pb_model.specs.Decoding.{IsDecoded}
use Rattle.pb_model.specs.MapText.{map_text}
use Rattle.pb_model.specs.ModelReading.{told, IsFaultOf}
use Rattle.pb_model.specs.SolutionText.{solution_text}
use Rattle.pb_suite.specs.declared.outcome.Outcome.{Outcome}
use Rattle.pb_suite.specs.declared.outcome.Outcome.TheVariants as outcome
use Rattle.pb_suite.specs.Denoted.{Denotes}
use Rattle.pb_suite.specs.Refusals.{RefusesOpb}
use Rattle.pb_suite.specs.Refusals.RefusesModel.{token, limit}
use Rattle.pb_suite.specs.inner.Runs.{model_refusal}
use Rattle.pbcnf_c.specs.Decodings.{AreNamesOf, AreWords, Concludes, DecodesInto, GivesNone, IsSolutionOf, IsSolutionSaid, MapsInto, SaysAnswer, SaysNames, StopsDecoding, StopsMapping}
use Rattle.pbcnf_c.specs.Decodings.GivesNone.{no_memory as gives_no_memory}
use Rattle.pbcnf_c.specs.Decodings.StopsDecoding.{bad_model, bad_problem, no_memory, none}
use Rattle.pbcnf_c.specs.Decodings.StopsMapping.{no_memory as maps_no_memory, refused}
use Rattle.pbcnf_c.proofs.Endings.{ends_as}

-- ---- a solution

pub concluded : (p : Problem) (m : Model) (old new : List ℕ) (count : ℕ) (answer : Outcome) → IsDecoded p m decoded.Solution → SaysAnswer p m old new count answer → Concludes p m old new count answer
concluded p m old new count answer is says =
    ends_as (AreWords (solution_text p m.values)) (IsSolutionSaid p m) (λ a. a ≡ outcome.NoMemory) (GivesNone p m) 0 old new count answer
    (λ words are. record { decoded_is = is; words_are = are.0; count_is = are.1 }) (λ a wants. subst (GivesNone p m) (sym wants) gives_no_memory) says

pub decoded_of : (bound b : Option ℤ) (text said : List ℕ) (p : Problem) (m : Model) (old new : List ℕ) (count : ℕ) (answer : Outcome) → b ≡ bound → Denotes b text p → told p.vars said ≡ Ok m → Concludes p m old new count answer → DecodesInto bound text said old new count answer
decoded_of bound b text said p m old new count answer is denotes tells concludes =
    let here = subst (λ (x : Option ℤ). Denotes x text p) is denotes in
    ends_as (IsSolutionSaid p m) (IsSolutionOf bound text said) (GivesNone p m) (StopsDecoding bound text said) 0 old new count answer
    (λ words are. record { problem = p; values = m; denotes = here; tells = tells; said = are }) (λ a gives. none p m a here tells gives) concludes

pub not_read : (bound b : Option ℤ) (text said : List ℕ) (answer : Outcome) → b ≡ bound → (answer ≡ outcome.NoMemory) ⊎ RefusesOpb b text answer → StopsDecoding bound text said answer
not_read bound b text said answer is (inl wants) = subst (StopsDecoding bound text said) (sym wants) no_memory
not_read bound b text said answer is (inr refuses) = bad_problem answer (subst (λ (x : Option ℤ). RefusesOpb x text answer) is refuses)

not_told : (bound : Option ℤ) (text said : List ℕ) (p : Problem) (fault : ModelFault) → Denotes bound text p → IsFaultOf (told p.vars said) fault → StopsDecoding bound text said (model_refusal fault)
not_told bound text said p (model.Token place e) denotes is = bad_model p (model_refusal (model.Token place e)) denotes (token place e (is (λ no. cc)))
not_told bound text said p (model.Limit place which) denotes is = bad_model p (model_refusal (model.Limit place which)) denotes (limit place which (is (λ no. cc)))
not_told bound text said p model.NoMemory denotes is = no_memory

pub not_modelled : (bound b : Option ℤ) (text said : List ℕ) (p : Problem) (fault : ModelFault) (answer : Outcome) → b ≡ bound → Denotes b text p → IsFaultOf (told p.vars said) fault → answer ≡ model_refusal fault → StopsDecoding bound text said answer
not_modelled bound b text said p fault answer is denotes first same =
    subst (StopsDecoding bound text said) (sym same) (not_told bound text said p fault (subst (λ (x : Option ℤ). Denotes x text p) is denotes) first)

-- ---- names

pub mapped : (text : List ℕ) (p : Problem) (old new : List ℕ) (count : ℕ) (answer : Outcome) → Denotes None text p → SaysNames p old new count answer → MapsInto text old new count answer
mapped text p old new count answer denotes says =
    ends_as (AreWords (map_text p)) (AreNamesOf text) (λ a. a ≡ outcome.NoMemory) (StopsMapping text) 0 old new count answer
    (λ words are. record { problem = p; denotes = denotes; words_are = are.0; count_is = are.1 }) (λ a wants. subst (StopsMapping text) (sym wants) maps_no_memory) says

pub not_mapped : (text : List ℕ) (answer : Outcome) → (answer ≡ outcome.NoMemory) ⊎ RefusesOpb None text answer → StopsMapping text answer
not_mapped text answer (inl wants) = subst (StopsMapping text) (sym wants) maps_no_memory
not_mapped text answer (inr refuses) = refused answer refuses
