-- What is put of a table of bounds, as what is put of its text.
use Rattle.std.proofs.Common.{◌≡◌, ◌<◌, ◌+◌, ◌∙◌, ◌++◌, [], ◌∷◌, List, ℕ, ℤ, Bool, false, cond, Option, Some, None, ap, get_or, length, map, refl, take}
use Rattle.std.proofs.lemmas.List.{map-append}
use Rattle.pb_base.specs.declared.literal.Lit.{Lit}
use Rattle.pb_family.proofs.Gathered.{map_next}
use Rattle.pb_base.specs.declared.options.Options.{Options}
use Rattle.pb_base.specs.declared.problem.Problem.{Problem}
use Rattle.pb_encode.specs.declared.summary.Summary.{Summary}
use Rattle.pb_encode.specs.Bounds.{bound_rows}
use Rattle.pb_encode.specs.Clauses.{table_first}
use Rattle.pb_encode.specs.Encodings.{problem_text}
use Rattle.pb_encode.specs.Summaries.{summary_of}
use Rattle.pb_encode.proofs.BoundRows.{table_tells}
use Rattle.pb_encode.proofs.BoundTexts.{no_rows}
use Rattle.pb_suite.specs.declared.outcome.Outcome.{Outcome}
use Rattle.pb_suite.proofs.Encodes.{encoding}
use Rattle.pbcnf_c.specs.declared.bounds.PbcnfRow.{PbcnfRow}
use Rattle.pbcnf_c.specs.declared.options.PbcnfOptions.{PbcnfOptions}
use Rattle.pbcnf_c.specs.declared.ready.Ready.{Ready}
use Rattle.pbcnf_c.specs.declared.size.PbcnfSize.{PbcnfSize}
use Rattle.pbcnf_c.specs.Bounds.{numbers_of, told_by, AreBoundRows, BoundsInto, TellRows}
use Rattle.pbcnf_c.specs.Put.{AreSizedRows, IsWanting}
use Rattle.pbcnf_c.specs.Ready.{IsReady, IsReadyFor, StopsEncoding}
use Rattle.pbcnf_c.specs.Rooms.{Ends, Fills}
use Rattle.pbcnf_c.specs.Rooms.Ends.{made}
use Rattle.pbcnf_c.specs.Sizes.{no_size, size_of}
use Rattle.pbcnf_c.proofs.Encoded.{wanting}
use Rattle.pbcnf_c.proofs.Endings.{ends_as}

-- ---- row after row

-- one row more is told
pub next : (rows : List (ℤ × Lit)) (i : ℕ) (r : ℤ × Lit) (given new : List PbcnfRow) (row : PbcnfRow) → i < length rows → r ≡ get_or rows i r → TellRows (take i rows) given → told_by row ≡ numbers_of r → new ≡ given ++ row ∷ []
    → TellRows (take (i + 1) rows) new
next rows i r given new row within is told tells pushed =
    map_next numbers_of rows i r [] (map told_by given) (map told_by new) (told_by row) within is told (ap (λ (gs : List PbcnfRow). map told_by gs) pushed ∙ map-append told_by given (row ∷ [])) tells

pub put_rows : (r : Ready) (items : List PbcnfRow) (old new : List PbcnfRow) (size : PbcnfSize) (answer : Outcome) → IsReady r → TellRows (bound_rows r.options r.problem) items → Fills items old new answer → size ≡ size_of r.summary (length items)
    → Ends (AreSizedRows r) IsWanting no_size old new size answer
put_rows r items old new size answer ready tells fills sized = made items answer (tells, sized ∙ ap (λ (m : Summary). size_of m (length items)) ready.summary) fills

-- ---- what it is of the text

none_given : (given : List PbcnfRow) → map told_by given ≡ [] → given ≡ []
none_given [] none = refl
none_given (r ∷ given) none = cc

without : (o : Options) (p : Problem) (given : List PbcnfRow) → o.table ≡ false → TellRows (bound_rows o p) given → given ≡ []
without o p given off tells =
    let untold = ap (λ (b : Bool). cond {A = Option ℕ} b (Some (table_first o p)) None) off in
    none_given given (tells ∙ ap (λ (rs : List (ℤ × Lit)). map numbers_of rs) (no_rows o p (summary_of o p) refl untold))

are_rows : (chosen : PbcnfOptions) (bound : Option ℤ) (text : List ℕ) (r : Ready) (given : List PbcnfRow) (size : PbcnfSize) → IsReady r → IsReadyFor chosen bound text r → AreSizedRows r given size → AreBoundRows chosen bound text given size
unfolding encoding
are_rows chosen bound text r given size ready denoted sized = record {
  options = r.options;
  cnf = problem_text r.options r.problem;
  rows = bound_rows r.options r.problem;
  chosen_are = denoted.chosen_are;
  encoding = encoding r.options bound text r.problem denoted.denotes ready.encodable;
  exact = refl;
  said = refl;
  told = sized.0;
  bounds = λ asked. table_tells r.options r.problem ready.within asked;
  none = λ off. without r.options r.problem given off sized.0;
  size_is = sized.1;
}

pub bounded : (chosen : PbcnfOptions) (bound : Option ℤ) (text : List ℕ) (r : Ready) (old new : List PbcnfRow) (size : PbcnfSize) (answer : Outcome) → IsReady r → IsReadyFor chosen bound text r → Ends (AreSizedRows r) IsWanting no_size old new size answer → BoundsInto chosen bound text old new size answer
bounded chosen bound text r old new size answer ready denoted puts =
    ends_as (AreSizedRows r) (AreBoundRows chosen bound text) IsWanting (StopsEncoding chosen bound text) no_size old new size answer
    (λ items is. are_rows chosen bound text r items size ready denoted is) (wanting chosen bound text) puts
