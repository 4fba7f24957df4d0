-- One call after another.
use Rattle.std.proofs.Common.{◌≡◌, ℕ, ◌+◌, ◌-◌, length, List, ◌++◌, take, drop, refl, sym, ap, ◌∙◌}
use Rattle.std.proofs.Math.Seq.{take-add, take-length}
use Rattle.std.proofs.lemmas.List.{length-drop}
use Rattle.std.specs.Prelude.{Result, OnErr}
use Rattle.std.specs.declared.result.Result.TheVariants.{Ok, Err}
use Rattle.pb_base.proofs.FaultCounts.{rose_later}
use Rattle.pb_desk.specs.View.{View}
use Rattle.pb_desk.specs.Desk.{DeskState, Reads, Reaches, FailsToWrite, FailsToRead}

pub begin : (f : View → View) (a : DeskState) → ((v : View) → f v ≡ v) → Reaches f a a
begin f a stays = record { view = sym (stays a.view); tells = refl; reads = refl; writes = refl; ended = refl; keeps = refl }

-- a call that goes on from what was reached
pub then : (f g h : View → View) (a b c : DeskState) → ((v : View) → g (f v) ≡ h v) → Reaches f a b → Reaches g b c → Reaches h a c
then f g h a b c joins first second = record {
  view = second.view ∙ ap g first.view ∙ joins a.view;
  tells = second.tells ∙ first.tells;
  reads = second.reads ∙ first.reads;
  writes = second.writes ∙ first.writes;
  ended = second.ended ∙ first.ended;
  keeps = second.keeps ∙ first.keeps;
}

-- where all counts stay, those of faults do
pub as_reads : (f : View → View) (a b : DeskState) → Reaches f a b → Reads f a b
as_reads f a b h = record { view = h.view; tells = h.tells; reads = h.reads; writes = h.writes; kept = λ k. sym h.keeps ∙ k }

pub reads_by_then : (f g h : View → View) (a b c : DeskState) → ((v : View) → g (f v) ≡ h v) → Reads f a b → Reads g b c → Reads h a c
reads_by_then f g h a b c joins first second = record {
  view = second.view ∙ ap g first.view ∙ joins a.view;
  tells = second.tells ∙ first.tells;
  reads = second.reads ∙ first.reads;
  writes = second.writes ∙ first.writes;
  kept = λ k. first.kept (second.kept k);
}

pub then_fails_to_write : (f g h : View → View) (a b c : DeskState) → ((v : View) → g (f v) ≡ h v) → Reaches f a b → FailsToWrite g b c → FailsToWrite h a c
then_fails_to_write f g h a b c joins first second = record {
  view = second.view ∙ ap g first.view ∙ joins a.view;
  tells = second.tells ∙ first.tells;
  reads = second.reads ∙ first.reads;
  writes = rose_later _ _ _ first.writes second.writes;
  ended = second.ended ∙ first.ended;
  keeps = second.keeps ∙ first.keeps;
}

pub then_fails_to_read : (f g h : View → View) (a b c : DeskState) → ((v : View) → g (f v) ≡ h v) → Reads f a b → FailsToRead g b c → FailsToRead h a c
then_fails_to_read f g h a b c joins first second = record {
  view = second.view ∙ ap g first.view ∙ joins a.view;
  tells = second.tells ∙ first.tells;
  reads = rose_later _ _ _ first.reads second.reads;
  writes = second.writes ∙ first.writes;
  kept = λ k. first.kept (second.kept k);
}

-- the slice `&text[at..]`, as a goal has it
pub rest_is : (at : ℕ) (text : List ℕ) → take (length text - at) (drop at text) ≡ drop at text
rest_is at text = ap (λ (n : ℕ). take n (drop at text)) (sym (length-drop at text)) ∙ take-length (drop at text)

-- a text that went out up to here, and some more of it
pub further : (change : List ℕ → View → View) (text : List ℕ) (at count : ℕ) (a b c : DeskState) → ((xs ys : List ℕ) (v : View) → change ys (change xs v) ≡ change (xs ++ ys) v) → Reaches (change (take at text)) a b → Reaches (change (take count (take (length text - at) (drop at text)))) b c → Reaches (change (take (at + count) text)) a c
further change text at count a b c joins first second = then (change (take at text)) (change (take count (take (length text - at) (drop at text)))) (change (take (at + count) text)) a b c (λ v. joins (take at text) (take count (take (length text - at) (drop at text))) v ∙ ap (λ (xs : List ℕ). change xs v) (is_more)) first second
  where
    is_more : take at text ++ take count (take (length text - at) (drop at text)) ≡ take (at + count) text
    is_more = ap (λ (rest : List ℕ). take at text ++ take count rest) (rest_is at text) ∙ sym (take-add at count text)

-- what holds anyway holds at an `Err`
pub on_err : {T E P : Type 0} (r : Result T E) → P → OnErr r P
on_err (Ok x) p = tt
on_err (Err e) p = p
