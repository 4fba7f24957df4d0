-- How checking ends.
use Rattle.std.specs.Prelude.{◌≡◌, ◌⊎◌, ℕ, List, ◌++◌, Err}
use Rattle.pb_base.specs.declared.file.File.TheVariants.{Cnf, Proof}
use Rattle.pb_base.specs.declared.problem.Problem.{Problem}
use Rattle.pb_desk.specs.Desk.{DeskState}
use Rattle.pb_check.specs.declared.verdict.CheckFault.{CheckFault}
use Rattle.pb_check.specs.declared.verdict.CheckFault.TheVariants.{Refused, Limit, ReadFault, NoMemory}
use Rattle.pb_desk.specs.TwoSlots.{TakesBoth, FailsBoth}
use Rattle.pb_check.specs.Turns.{Answer}
use Rattle.pb_check.specs.Walk.{Walk}

-- these beginnings of a CNF and of a derivation leave the answer open: none is the answer for all texts that begin so
abbrev pub LeavesOpen : Problem → List ℕ → List ℕ → Type 0
LeavesOpen p cnf proof = (answer : Answer) → ((behind other : List ℕ) → Walk p (cnf ++ behind) (proof ++ other) answer) → ⊥

-- why there is no verdict: a read failed, where what was taken of both texts left the answer open; memory was wanting; or this fault is the answer for the texts
abbrev pub StopsCheck : Problem → ℕ → ℕ → DeskState → DeskState → CheckFault → Type 0
StopsCheck p cnf proof old new ReadFault = FailsBoth cnf proof (LeavesOpen p) old new
StopsCheck p cnf proof old new NoMemory = TakesBoth cnf proof (λ c d. Unit {0}) old new
StopsCheck p cnf proof old new (Refused file place e) = TakesBoth cnf proof (λ c d. Walk p c d (Err (Refused file place e))) old new
StopsCheck p cnf proof old new (Limit file place which) = TakesBoth cnf proof (λ c d. Walk p c d (Err (Limit file place which))) old new

-- a refusal names one of the two texts
abbrev pub NamesText : CheckFault → Type 0
NamesText (Refused file place e) = (file ≡ Cnf) ⊎ (file ≡ Proof)
NamesText (Limit file place which) = (file ≡ Cnf) ⊎ (file ≡ Proof)
NamesText other = Unit {0}
