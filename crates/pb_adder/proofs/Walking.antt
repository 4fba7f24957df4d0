-- Loops over lists that hand over steps for one element after another.
use Rattle.std.proofs.Common.{◌≡◌, ◌<◌, ◌≤◌, ◌+◌, ◌*◌, ◌++◌, List, [], ◌∷◌, ℕ, length, get_or, drop, sym, ap, ◌∙◌, arith}
use Rattle.std.specs.Prelude.{Result, IsErrAnd, count_by}
use Rattle.std.proofs.lemmas.List.{drop_all, drop_more}
use Rattle.pb_steps.specs.Steps.{takes_id}
use Rattle.pb_steps.specs.declared.step.Step.{Step}
use Rattle.pb_family.specs.StepSinks.{StepState, TakesSteps, StopsInSteps, HandsSteps}
use Rattle.pb_family.specs.declared.sink.SinkFault.{SinkFault}
use Rattle.pb_family.proofs.Deriving.{Deriving, deriving_from, deriving_as, deriving_step, deriving_ends, steps_fault, steps_last}

-- what is left of a list begins with the element that is read
pub drop_next : {X : Type 0} (d : X) (xs : List X) (k : ℕ) (x : X) → k < length xs → x ≡ get_or xs k d → drop k xs ≡ x ∷ drop (k + 1) xs
drop_next {X} d xs k x within read = drop_more xs k d within ∙ ap (λ (y : X). y ∷ drop (k + 1) xs) (sym read)

-- the steps of each element, where what they depend on beside it moves from one to the next
abbrev pub walk : {X S : Type 0} → (S → X → List Step) → (S → X → S) → S → List X → List Step
walk piece move s [] = []
walk piece move s (x ∷ xs) = piece s x ++ walk piece move (move s x) xs

module _ {R X S : Type 0} {all : List Step} {old now : StepState R} (piece : S → X → List Step) (move : S → X → S) (d : X) (xs : List X) (k : ℕ) (x : X) (s : S) (within : k < length xs) (read : x ≡ get_or xs k d)
    (e : Deriving all (walk piece move s (drop k xs)) old now) where
  more : Deriving all (piece s x ++ walk piece move (move s x) (drop (k + 1) xs)) old now
  more = deriving_as (ap (walk piece move s) (drop_next d xs k x within read)) e

  -- the steps of the next element were taken
  pub walk_next : (t : S) (after : StepState R) → move s x ≡ t → TakesSteps (piece s x) now after → Deriving all (walk piece move t (drop (k + 1) xs)) old after
  walk_next t after moved h =
      deriving_as (ap (λ (u : S). walk piece move u (drop (k + 1) xs)) moved) (deriving_step {left = walk piece move (move s x) (drop (k + 1) xs)} (piece s x) after more h)

  -- the fault in them is handed on
  pub walk_fault : {T : Type 0} (r : Result T SinkFault) (f : SinkFault) (after : StepState R) → IsErrAnd r (λ g. g ≡ f) → StopsInSteps (piece s x) now after f → HandsSteps all r old after
  walk_fault r f after is h = steps_fault r f (piece s x) (walk piece move (move s x) (drop (k + 1) xs)) after is more h

-- all elements were taken
pub walk_ends : {R X S : Type 0} {all : List Step} {old now : StepState R} (piece : S → X → List Step) (move : S → X → S) (xs : List X) (k : ℕ) (s : S) → length xs ≤ k → Deriving all (walk piece move s (drop k xs)) old now → TakesSteps all old now
walk_ends piece move xs k s done e = deriving_ends (deriving_as (ap (walk piece move s) (drop_all k xs done)) e)

-- ---- elements that take the same number of ids

abbrev pub on : {X : Type 0} → ℕ → ℕ → X → ℕ
on width next x = next + width

-- of the steps of some elements, each of which takes so many ids, those of the first k were taken
pub record Walked {R X : Type 0} (piece : ℕ → X → List Step) (width : ℕ) (all : List Step) (xs : List X) (k : ℕ) (old now : StepState R) : Type 0 where
  pub steps : Deriving all (walk piece (on width) now.next (drop k xs)) old now
  pub next : now.next ≡ old.next + width * k

pub walked_from : {R X : Type 0} {all : List Step} (piece : ℕ → X → List Step) (width : ℕ) (xs : List X) (old : StepState R) → all ≡ walk piece (on width) old.next xs → Walked piece width all xs 0 old old
walked_from piece width xs old same = record { steps = deriving_from old same; next = omega arith }

module _ {R X : Type 0} {all : List Step} {old now : StepState R} {piece : ℕ → X → List Step} {width : ℕ} {xs : List X} {k : ℕ} (x : X) (within : k < length xs) (read : x ≡ get_or xs k x)
    (h : Walked piece width all xs k old now) where
  pub walked_next : (after : StepState R) → count_by takes_id (piece now.next x) ≡ width → TakesSteps (piece now.next x) now after → Walked piece width all xs (k + 1) old after
  walked_next after ids handed =
      let counts : now.next + width ≡ after.next = omega (arith, handed.ids, ids) in
      record {
        steps = walk_next piece (on width) x xs k x now.next within read h.steps after.next after counts handed;
        next = omega (arith, counts, h.next);
      }

  pub walked_fault : {T : Type 0} (r : Result T SinkFault) (f : SinkFault) (after : StepState R) → IsErrAnd r (λ g. g ≡ f) → StopsInSteps (piece now.next x) now after f → HandsSteps all r old after
  walked_fault r f after is part = walk_fault piece (on width) x xs k x now.next within read h.steps r f after is part

pub walked_ends : {R X : Type 0} {all : List Step} {old now : StepState R} {piece : ℕ → X → List Step} {width : ℕ} {xs : List X} {k : ℕ} → length xs ≤ k → Walked piece width all xs k old now → TakesSteps all old now
walked_ends {now = now} {piece} {width} {xs} {k} done h = walk_ends piece (on width) xs k now.next done h.steps

-- ---- two parts

-- the fault in the first is handed on
pub part_stopped : {R T : Type 0} (r : Result T SinkFault) (f : SinkFault) (all xs ys : List Step) (old after : StepState R) → IsErrAnd r (λ g. g ≡ f) → all ≡ xs ++ ys → StopsInSteps xs old after f → HandsSteps all r old after
part_stopped r f all xs ys old after is split h = steps_fault r f xs ys after is (deriving_from old split) h

-- the first was taken, and the second is handed over
pub parts_handed : {R T : Type 0} (r : Result T SinkFault) (all xs ys : List Step) (old mid after : StepState R) → all ≡ xs ++ ys → TakesSteps xs old mid → HandsSteps ys r mid after → HandsSteps all r old after
parts_handed r all xs ys old mid after split h k = steps_last r ys after (deriving_step {left = ys} xs mid (deriving_from old split) h) k

-- ---- three parts

-- the fault in the second is handed on
pub middle_stopped : {R T : Type 0} (r : Result T SinkFault) (f : SinkFault) (all xs ys zs : List Step) (old mid after : StepState R) → IsErrAnd r (λ g. g ≡ f) → all ≡ xs ++ (ys ++ zs) → TakesSteps xs old mid → StopsInSteps ys mid after f → HandsSteps all r old after
middle_stopped r f all xs ys zs old mid after is split h k = steps_fault r f ys zs after is (deriving_step {left = ys ++ zs} xs mid (deriving_from old split) h) k

-- the first two were taken, and the third is handed over
pub last_handed : {R T : Type 0} (r : Result T SinkFault) (all xs ys zs : List Step) (old mid late after : StepState R) → all ≡ xs ++ (ys ++ zs) → TakesSteps xs old mid → TakesSteps ys mid late → HandsSteps zs r late after → HandsSteps all r old after
last_handed r all xs ys zs old mid late after split h k l = steps_last r zs after (deriving_step {left = zs} ys late (deriving_step {left = ys ++ zs} xs mid (deriving_from old split) h) k) l
