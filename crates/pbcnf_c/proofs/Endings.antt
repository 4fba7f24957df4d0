-- How calls end, from how their parts do.
use Rattle.std.proofs.Common.{◌≡◌, ◌∙◌, List, ap, length, refl, subst, sym}
use Rattle.pb_encode.specs.declared.summary.Summary.{Summary}
use Rattle.pb_suite.specs.declared.outcome.Outcome.{Outcome}
use Rattle.pb_suite.specs.declared.outcome.Outcome.TheVariants as outcome
use Rattle.pbcnf_c.specs.declared.ready.Ready.{Ready}
use Rattle.pbcnf_c.specs.declared.size.PbcnfSize.{PbcnfSize}
use Rattle.pbcnf_c.specs.Put.{PutsOf}
use Rattle.pbcnf_c.specs.Ready.{IsReady}
use Rattle.pbcnf_c.specs.Rooms.{Ends, Fills}
use Rattle.pbcnf_c.specs.Rooms.Ends.{made, stopped}
use Rattle.pbcnf_c.specs.Sizes.{no_size, size_of}

-- what is made is more than that, and what stops is too
pub ends_as : {X S : Type 0} (Made More : List X → S → Type 0) (Stops Why : Outcome → Type 0) (none : S) (old new : List X) (told : S) (answer : Outcome) → ((items : List X) → Made items told → More items told) → ((a : Outcome) → Stops a → Why a) → Ends Made Stops none old new told answer → Ends More Why none old new told answer
ends_as Made More Stops Why none old new told _ more why (made items answer is fills) = made items answer (more items is) fills
ends_as Made More Stops Why none old new told _ more why (stopped answer stops same size) = stopped answer (why answer stops) same size

-- it stopped for this cause
pub stops_as : {X S : Type 0} (Made : List X → S → Type 0) (Stops : Outcome → Type 0) (none : S) (old : List X) (told : S) (answer why : Outcome) → Stops why → answer ≡ why → told ≡ none → Ends Made Stops none old old told answer
stops_as Made Stops none old told answer why stops is silent = stopped answer (subst Stops (sym is) stops) refl silent

-- the items that are due were put
pub put : {X : Type 0} (due items : List X) (r : Ready) (old new : List X) (size : PbcnfSize) (answer : Outcome) → IsReady r → items ≡ due → Fills items old new answer → size ≡ size_of r.summary (length items) → PutsOf due r old new size answer
put due items r old new size answer ready is fills sized = made items answer (is, sized ∙ ap (λ (m : Summary). size_of m (length items)) ready.summary) fills

-- memory was wanting
pub wants : {X : Type 0} (due : List X) (r : Ready) (old : List X) (size : PbcnfSize) (answer : Outcome) → answer ≡ outcome.NoMemory → size ≡ no_size → PutsOf due r old old size answer
wants due r old size answer is none = stopped answer is refl none
