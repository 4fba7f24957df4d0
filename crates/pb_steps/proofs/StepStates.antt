-- The lines of steps other than `pol`, word by word.
use Rattle.std.proofs.Common.{◌≡◌, ℕ, Bool, true, false, cond, List, [], ◌∷◌, Option, Some, None, refl, ap, ◌∙◌}
use Rattle.std.specs.Prelude.{◌^◌, Result, Ok, Err, codes}
use Rattle.std.specs.Str.{bytes_eq}
use Rattle.pb_base.specs.declared.expected.Expected.{Expected}
use Rattle.pb_base.specs.declared.expected.Expected.TheVariants as expected
use Rattle.pb_base.specs.Numbers.{natural_of}
use Rattle.pb_base.specs.Words.{Chunk}
use Rattle.pb_steps.specs.declared.fault.StepFault.{StepFault}
use Rattle.pb_steps.specs.declared.fault.StepFault.TheVariants.{Token}
use Rattle.pb_steps.specs.LineWords.{and_then, number_between, id_in, integer_in, literal_in, variable_in, bit_in}
use Rattle.pb_steps.proofs.Judged.{FaultsAt, at_ok, at_token, at_either, at_then, at_id, at_number, at_integer, at_literal, at_variable, at_bit}
use Rattle.pb_steps.proofs.SpelledWords.{key_is}
use Rattle.pb_steps.proofs.WordByWord.{States, IsSound, Accepts, run, word}

-- what comes next; of a constraint, whether it is of a `rup` line
pub data LineState : Type 0 where
  terms_due : Bool → LineState
  lit_due : Bool → LineState
  right_due : Bool → LineState
  semi_due : Bool → LineState
  ids_due : LineState
  sets_due : ℕ → LineState
  arrow_due : ℕ → LineState
  value_due : ℕ → LineState
  some_ids_due : LineState
  one_id_due : LineState
  count_due : LineState
  key_due : List ℕ → LineState → LineState
  nothing_due : LineState

abbrev pub on_key : List ℕ → LineState → Expected → Chunk → Result LineState StepFault
on_key k next e w = cond (bytes_eq w.text k) (Ok next) (Err (Token w.column e))

abbrev pub behind_constraint : Bool → LineState
behind_constraint rup = cond rup ids_due (sets_due 0)

abbrev pub step_from : LineState → Chunk → Result LineState StepFault
step_from (terms_due rup) w = cond (bytes_eq w.text (codes ">=")) (Ok (right_due rup)) (and_then (λ _. Ok (lit_due rup)) (integer_in expected.Term w))
step_from (lit_due rup) w = and_then (λ _. Ok (terms_due rup)) (literal_in expected.Literal w)
step_from (right_due rup) w = and_then (λ _. Ok (semi_due rup)) (integer_in expected.Integer w)
step_from (semi_due rup) w = on_key (codes ";") (behind_constraint rup) expected.Semicolon w
step_from ids_due w = and_then (λ _. Ok ids_due) (id_in expected.Id w)
step_from (sets_due above) w = and_then (λ v. Ok (arrow_due v)) (variable_in above w)
step_from (arrow_due v) w = on_key (codes "->") (value_due v) expected.Arrow w
step_from (value_due v) w = and_then (λ _. Ok (sets_due v)) (bit_in w)
step_from some_ids_due w = and_then (λ _. Ok ids_due) (id_in expected.Id w)
step_from one_id_due w = and_then (λ _. Ok nothing_due) (id_in expected.Id w)
step_from count_due w = and_then (λ _. Ok nothing_due) (number_between 0 (2 ^ 63) expected.LoadedCount w.column (natural_of w.text))
step_from (key_due k next) w = on_key k next expected.Head w
step_from nothing_due w = Err (Token w.column expected.LineEnd)

abbrev pub wanting_at : LineState → Option Expected
wanting_at (terms_due rup) = Some expected.Term
wanting_at (lit_due rup) = Some expected.Literal
wanting_at (right_due rup) = Some expected.Integer
wanting_at (semi_due rup) = Some expected.Semicolon
wanting_at ids_due = None
wanting_at (sets_due above) = None
wanting_at (arrow_due v) = Some expected.Arrow
wanting_at (value_due v) = Some expected.Bit
wanting_at some_ids_due = Some expected.Id
wanting_at one_id_due = Some expected.Id
wanting_at count_due = Some expected.LoadedCount
wanting_at (key_due k next) = Some expected.Head
wanting_at nothing_due = None

abbrev pub line_states : States LineState
line_states = record { step = step_from; wanting = wanting_at }

-- ---- a fault stands at its word, and each state can come to an end

at_key : (k : List ℕ) (next : LineState) (e : Expected) (w : Chunk) → FaultsAt w.column (on_key k next e w)
at_key k next e w = at_either w.column (bytes_eq w.text k) (Ok next) (Err (Token w.column e)) (at_ok w.column next) (at_token w.column e)

stands_at : (s : LineState) (w : Chunk) → FaultsAt w.column (step_from s w)
stands_at (terms_due rup) w = at_either w.column (bytes_eq w.text (codes ">=")) (Ok (right_due rup)) _ (at_ok w.column (right_due rup)) (at_then w.column (λ _. Ok (lit_due rup)) (integer_in expected.Term w) (at_integer expected.Term w) (λ _. at_ok w.column (lit_due rup)))
stands_at (lit_due rup) w = at_then w.column (λ _. Ok (terms_due rup)) (literal_in expected.Literal w) (at_literal expected.Literal w) (λ _. at_ok w.column (terms_due rup))
stands_at (right_due rup) w = at_then w.column (λ _. Ok (semi_due rup)) (integer_in expected.Integer w) (at_integer expected.Integer w) (λ _. at_ok w.column (semi_due rup))
stands_at (semi_due rup) w = at_key (codes ";") (behind_constraint rup) expected.Semicolon w
stands_at ids_due w = at_then w.column (λ _. Ok ids_due) (id_in expected.Id w) (at_id expected.Id w) (λ _. at_ok w.column ids_due)
stands_at (sets_due above) w = at_then w.column (λ v. Ok (arrow_due v)) (variable_in above w) (at_variable above w) (λ v. at_ok w.column (arrow_due v))
stands_at (arrow_due v) w = at_key (codes "->") (value_due v) expected.Arrow w
stands_at (value_due v) w = at_then w.column (λ _. Ok (sets_due v)) (bit_in w) (at_bit w) (λ _. at_ok w.column (sets_due v))
stands_at some_ids_due w = at_then w.column (λ _. Ok ids_due) (id_in expected.Id w) (at_id expected.Id w) (λ _. at_ok w.column ids_due)
stands_at one_id_due w = at_then w.column (λ _. Ok nothing_due) (id_in expected.Id w) (at_id expected.Id w) (λ _. at_ok w.column nothing_due)
stands_at count_due w = at_then w.column (λ _. Ok nothing_due) (number_between 0 (2 ^ 63) expected.LoadedCount w.column (natural_of w.text)) (at_number 0 (2 ^ 63) expected.LoadedCount w.column (natural_of w.text)) (λ _. at_ok w.column nothing_due)
stands_at (key_due k next) w = at_key k next expected.Head w
stands_at nothing_due w = at_token w.column expected.LineEnd

abbrev Some_end : ℕ → LineState → Type 0
Some_end end s = (more : List Chunk) × Accepts line_states end s more

behind_key : (end : ℕ) (k : List ℕ) (next : LineState) → bytes_eq k k ≡ true → Some_end end next → Some_end end (key_due k next)
behind_key end k next same later = (word k ∷ later.0, ap (λ (b : Bool). and_then (λ t. run line_states end t later.0) (cond b (Ok next) (Err (Token 0 expected.Head)))) same ∙ later.1)

behind_semi : (end : ℕ) (rup : Bool) → Accepts line_states end (semi_due rup) (word (codes ";") ∷ [])
behind_semi end true = refl
behind_semi end false = refl

some_end : (end : ℕ) (s : LineState) → Some_end end s
some_end end (terms_due rup) = (word (codes ">=") ∷ word (codes "0") ∷ word (codes ";") ∷ [], behind_semi end rup)
some_end end (lit_due rup) = (word (codes "x1") ∷ word (codes ">=") ∷ word (codes "0") ∷ word (codes ";") ∷ [], behind_semi end rup)
some_end end (right_due rup) = (word (codes "0") ∷ word (codes ";") ∷ [], behind_semi end rup)
some_end end (semi_due rup) = (word (codes ";") ∷ [], behind_semi end rup)
some_end end ids_due = ([], refl)
some_end end (sets_due above) = ([], refl)
some_end end (arrow_due v) = (word (codes "->") ∷ word (codes "0") ∷ [], refl)
some_end end (value_due v) = (word (codes "0") ∷ [], refl)
some_end end some_ids_due = (word (codes "1") ∷ [], refl)
some_end end one_id_due = (word (codes "1") ∷ [], refl)
some_end end count_due = (word (codes "0") ∷ [], refl)
some_end end (key_due k next) = behind_key end k next (key_is k k refl) (some_end end next)
some_end end nothing_due = ([], refl)

pub line_sound : (end : ℕ) → IsSound line_states end
line_sound end = record { stands = stands_at; some = some_end end }
