-- Why a text is not encoded.
use Rattle.std.proofs.Common.{◌≡◌, List, ℕ, ℤ, Option, Some, inl, inr, subst, sym}
use Rattle.std.specs.Prelude.{◌⊎◌, IfErr, Result}
use Rattle.std.proofs.lemmas.Result.{IfErr-weaker}
use Rattle.pb_base.specs.declared.options.Options.{Options}
use Rattle.pb_base.specs.declared.problem.Problem.{Problem}
use Rattle.pb_suite.specs.declared.outcome.Outcome.{Outcome}
use Rattle.pb_suite.specs.declared.outcome.Outcome.TheVariants as outcome
use Rattle.pb_suite.specs.Denoted.{Denotes}
use Rattle.pb_suite.specs.Refusals.{RefusesOpb}
use Rattle.pbcnf_c.specs.declared.options.PbcnfOptions.{PbcnfOptions}
use Rattle.pbcnf_c.specs.declared.ready.Ready.{Ready}
use Rattle.pbcnf_c.specs.Choices.{options_of}
use Rattle.pbcnf_c.specs.Ready.{StopsEncoding, StopsSizing}
use Rattle.pbcnf_c.specs.Ready.StopsEncoding.{no_memory, over, refused}
use Rattle.pbcnf_c.specs.Ready.StopsSizing.{no_memory as sizing_no_memory, over as sizing_over}

-- its text is not read
pub not_read : (chosen : PbcnfOptions) (bound b : Option ℤ) (text : List ℕ) (o : Options) (answer : Outcome) → options_of chosen ≡ Some o → b ≡ bound → (answer ≡ outcome.NoMemory) ⊎ RefusesOpb b text answer → StopsEncoding chosen bound text answer
not_read chosen bound b text o answer chosen_are is (inl wants) = subst (StopsEncoding chosen bound text) (sym wants) no_memory
not_read chosen bound b text o answer chosen_are is (inr refuses) = refused o answer chosen_are (subst (λ (x : Option ℤ). RefusesOpb x text answer) is refuses)

sized : (chosen : PbcnfOptions) (bound : Option ℤ) (text : List ℕ) (o : Options) (p : Problem) → options_of chosen ≡ Some o → Denotes bound text p → (answer : Outcome) → StopsSizing o p answer → StopsEncoding chosen bound text answer
sized chosen bound text o p chosen_are denotes _ (sizing_over which passes) = over o p which chosen_are denotes passes
sized chosen bound text o p chosen_are denotes _ sizing_no_memory = no_memory

-- it is not sized up
pub not_sized : (chosen : PbcnfOptions) (bound b : Option ℤ) (text : List ℕ) (o : Options) (p : Problem) (result : Result Ready Outcome) → options_of chosen ≡ Some o → b ≡ bound → Denotes b text p → IfErr result (StopsSizing o p) → IfErr result (StopsEncoding chosen bound text)
not_sized chosen bound b text o p result chosen_are is denotes stops =
    IfErr-weaker result (StopsSizing o p) (StopsEncoding chosen bound text) (sized chosen bound text o p chosen_are (subst (λ (x : Option ℤ). Denotes x text p) is denotes)) stops
