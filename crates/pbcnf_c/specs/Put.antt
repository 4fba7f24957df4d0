-- What is put of a problem that is ready. It serves proofs.
use Rattle.std.specs.Prelude.{◌≡◌, List, length}
use Rattle.pb_encode.specs.Bounds.{bound_rows}
use Rattle.pb_suite.specs.declared.outcome.Outcome.{Outcome}
use Rattle.pb_suite.specs.declared.outcome.Outcome.TheVariants as outcome
use Rattle.pbcnf_c.specs.declared.bounds.PbcnfRow.{PbcnfRow}
use Rattle.pbcnf_c.specs.declared.ready.Ready.{Ready}
use Rattle.pbcnf_c.specs.declared.size.PbcnfSize.{PbcnfSize}
use Rattle.pbcnf_c.specs.Bounds.{TellRows}
use Rattle.pbcnf_c.specs.Rooms.{Ends}
use Rattle.pbcnf_c.specs.Sizes.{no_size, problem_size}

-- these items, with the size of the encoding
abbrev pub IsSized : {X : Type 0} → List X → Ready → List X → PbcnfSize → Type 0
IsSized due r items size = (items ≡ due) × (size ≡ problem_size r.options r.problem (length items))

abbrev pub IsWanting : Outcome → Type 0
IsWanting answer = answer ≡ outcome.NoMemory

-- they are put, or there is no room for them, or memory was wanting
abbrev pub PutsOf : {X : Type 0} → List X → Ready → List X → List X → PbcnfSize → Outcome → Type 0
PutsOf due r old new size answer = Ends (IsSized due r) IsWanting no_size old new size answer

-- they tell the rows of its table, with the size of the encoding
abbrev pub AreSizedRows : Ready → List PbcnfRow → PbcnfSize → Type 0
AreSizedRows r given size = TellRows (bound_rows r.options r.problem) given × (size ≡ problem_size r.options r.problem (length given))
