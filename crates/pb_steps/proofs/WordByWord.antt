-- Lines that are read word by word: where their first fault stands.
use Rattle.std.proofs.Common.{◌≡◌, ◌++◌, ℕ, List, [], ◌∷◌, map, Option, Some, None, refl, sym, ap, ◌∙◌, subst, append_assoc}
use Rattle.std.specs.Prelude.{Result, Ok, Err}
use Rattle.pb_base.specs.declared.expected.Expected.{Expected}
use Rattle.pb_base.specs.Words.{Chunk}
use Rattle.pb_steps.specs.declared.fault.StepFault.{StepFault}
use Rattle.pb_steps.specs.declared.fault.StepFault.TheVariants.{Token}
use Rattle.pb_steps.specs.LineWords.{and_then}
use Rattle.pb_steps.specs.StepGrammar.{texts}
use Rattle.pb_steps.specs.laws.FirstWords.{begin_at, column_of, StandsFirst, StopsThere}
use Rattle.pb_steps.proofs.Judged.{no_fault, FaultsAt}

abbrev pub Stops : (List Chunk → Type 0) → List Chunk → List Chunk → Type 0
Stops P front [] = ¬ (P front)
Stops P front (w ∷ left) = (more : List Chunk) → ¬ (P (front ++ w ∷ more))

-- Words part at a column: lists with a property begin with those before it, and none with the next one too.
pub record Splits (P : List Chunk → Type 0) (end : ℕ) (ws : List Chunk) (column : Option ℕ) : Type 0 where
  pub front : List Chunk
  pub left : List Chunk
  pub cut : ws ≡ front ++ left
  pub at : column ≡ Some (begin_at end left)
  pub more : List Chunk
  pub fine : P (front ++ more)
  pub stops : Stops P front left

pub at_end : (P : List Chunk → Type 0) (end : ℕ) (more : List Chunk) → P more → ¬ (P []) → Splits P end [] (Some end)
at_end P end more some none = record { front = []; left = []; cut = refl; at = refl; more = more; fine = some; stops = none }

pub at_word : (P : List Chunk → Type 0) (end : ℕ) (w : Chunk) (ws more : List Chunk) → P more → ((us : List Chunk) → ¬ (P (w ∷ us))) → Splits P end (w ∷ ws) (Some w.column)
at_word P end w ws more some none = record { front = []; left = w ∷ ws; cut = refl; at = refl; more = more; fine = some; stops = none }

stops_behind : (P Q : List Chunk → Type 0) (w : Chunk) (front left : List Chunk) → ((us : List Chunk) → P (w ∷ us) → Q us) → Stops Q front left → Stops P (w ∷ front) left
stops_behind P Q w front [] from none = λ p. none (from front p)
stops_behind P Q w front (v ∷ left) from none = λ more p. none more (from (front ++ v ∷ more) p)

-- one word earlier
pub behind : (P Q : List Chunk → Type 0) (end : ℕ) (w : Chunk) (ws : List Chunk) (column : Option ℕ) → ((us : List Chunk) → Q us → P (w ∷ us)) → ((us : List Chunk) → P (w ∷ us) → Q us) → Splits Q end ws column → Splits P end (w ∷ ws) column
behind P Q end w ws column to from s = record {
  front = w ∷ s.front;
  left = s.left;
  cut = ap (λ (us : List Chunk). w ∷ us) s.cut;
  at = s.at;
  more = s.more;
  fine = to (s.front ++ s.more) s.fine;
  stops = stops_behind P Q w s.front s.left from s.stops;
}

-- ---- states

-- What a state makes of a word, and what is wanting where the line ends there.
pub record States (State : Type 0) : Type 0 where
  pub step : State → Chunk → Result State StepFault
  pub wanting : State → Option Expected

abbrev pub ended : ℕ → Option Expected → Result (Unit {0}) StepFault
ended end None = Ok tt
ended end (Some e) = Err (Token end e)

abbrev pub run : {State : Type 0} → States State → ℕ → State → List Chunk → Result (Unit {0}) StepFault
run m end s [] = ended end (m.wanting s)
run m end s (w ∷ ws) = and_then (λ t. run m end t ws) (m.step s w)

abbrev pub Accepts : {State : Type 0} → States State → ℕ → State → List Chunk → Type 0
Accepts m end s ws = run m end s ws ≡ Ok tt

-- a fault of a word stands at it, and from each state some words end a line
pub record IsSound {State : Type 0} (m : States State) (end : ℕ) : Type 0 where
  pub stands : (s : State) (w : Chunk) → FaultsAt w.column (m.step s w)
  pub some : (s : State) → (more : List Chunk) × Accepts m end s more

pub splits : {State : Type 0} (m : States State) (end : ℕ) → IsSound m end → (s : State) (ws : List Chunk) (fault : StepFault) → run m end s ws ≡ Err fault → Splits (Accepts m end s) end ws (column_of fault)
splits m end sound s [] fault h = by_end (m.wanting s) refl h
  where
    by_end : (o : Option Expected) → m.wanting s ≡ o → ended end o ≡ Err fault → Splits (Accepts m end s) end [] (column_of fault)
    by_end None is h = absurd (no_fault fault tt (sym h))
    by_end (Some e) is h =
        let same : Token end e ≡ fault = cc in
        let more = sound.some s in
        subst (λ (f : StepFault). Splits (Accepts m end s) end [] (column_of f)) same
        (at_end (Accepts m end s) end more.0 more.1 (λ p. no_fault (Token end e) tt (sym (ap (ended end) is) ∙ p)))
splits {State} m end sound s (w ∷ ws) fault h = by_step (m.step s w) refl (λ t g. splits m end sound t ws fault g) h
  where
    by_step : (r : Result State StepFault) → m.step s w ≡ r → ((t : State) → run m end t ws ≡ Err fault → Splits (Accepts m end t) end ws (column_of fault)) → and_then (λ t. run m end t ws) r ≡ Err fault
        → Splits (Accepts m end s) end (w ∷ ws) (column_of fault)
    by_step (Err other) is later h =
        let same : other ≡ fault = cc in
        let more = sound.some s in
        subst (λ (c : Option ℕ). Splits (Accepts m end s) end (w ∷ ws) c) (sym ((sound.stands s w).stands other is) ∙ ap column_of same)
        (at_word (Accepts m end s) end w ws more.0 more.1 (λ us p. no_fault other tt (sym (ap (and_then (λ t. run m end t us)) is) ∙ p)))
    by_step (Ok t) is later h =
        behind (Accepts m end s) (Accepts m end t) end w ws (column_of fault) (λ us p. ap (and_then (λ v. run m end v us)) is ∙ p) (λ us p. sym (ap (and_then (λ v. run m end v us)) is) ∙ p) (later t h)

-- ---- the same of words without their columns

texts-append : (us vs : List Chunk) → texts (us ++ vs) ≡ texts us ++ texts vs
texts-append [] vs = refl
texts-append (u ∷ us) vs = ap (λ (ts : List (List ℕ)). u.text ∷ ts) (texts-append us vs)

-- words of these texts
abbrev pub word : List ℕ → Chunk
word text = record { column = 0; text = text }

abbrev pub worded : List (List ℕ) → List Chunk
worded ts = map word ts

texts-worded : (ts : List (List ℕ)) → texts (worded ts) ≡ ts
texts-worded [] = refl
texts-worded (t ∷ ts) = ap (λ (us : List (List ℕ)). t ∷ us) (texts-worded ts)

pub texts-whole : (us : List Chunk) (ts : List (List ℕ)) → texts (us ++ worded ts) ≡ texts us ++ ts
texts-whole us ts = texts-append us (worded ts) ∙ ap (λ (vs : List (List ℕ)). texts us ++ vs) (texts-worded ts)

pub texts-next : (us : List Chunk) (w : Chunk) (ts : List (List ℕ)) → texts (us ++ w ∷ worded ts) ≡ (texts us ++ w.text ∷ []) ++ ts
texts-next us w ts =
    texts-append us (w ∷ worded ts)
    ∙ ap (λ (vs : List (List ℕ)). texts us ++ w.text ∷ vs) (texts-worded ts)
    ∙ sym (append_assoc (texts us) (w.text ∷ []) ts)

module _ (IsLine : List (List ℕ) → Type 0) (IsLike : List (List ℕ) → List (List ℕ) → List (List ℕ) → Type 0) (P : List Chunk → Type 0) (says : (us : List Chunk) → P us → IsLine (texts us)) (said : (us : List Chunk) → IsLine (texts us) → P us) where
  stops_there : (front left : List Chunk) → Stops P front left → StopsThere IsLine IsLike (texts front) (texts left)
  stops_there front [] none = λ line. none (said front line)
  stops_there front (w ∷ left) none = λ goes. none (worded goes.0) (said (front ++ w ∷ worded goes.0) (subst IsLine (sym (texts-next front w goes.0)) goes.2))

  -- where nothing else is asked of what follows
  pub stands : (end : ℕ) (ws : List Chunk) (column : Option ℕ) → ((front left : List Chunk) (more : List (List ℕ)) → ws ≡ front ++ left → IsLike (texts front) more (texts left)) → Splits P end ws column → StandsFirst IsLine IsLike end ws column
  stands end ws column like s = record {
    front = s.front;
    left = s.left;
    cut = s.cut;
    at = s.at;
    fine = (texts s.more, like s.front s.left (texts s.more) s.cut, subst IsLine (texts-append s.front s.more) (says (s.front ++ s.more) s.fine));
    stops = stops_there s.front s.left s.stops;
  }
