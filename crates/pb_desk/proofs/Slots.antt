-- What the reading slots show after one of them moved on.
use Rattle.std.proofs.Common.{◌≡◌, ℕ, ◌+◌, ◌<◌, List, length, drop, get_or, set, true, false, Bool, refl, sym, ap, ◌∙◌, eq-eqb}
use Rattle.std.proofs.lemmas.List.{get_or-set_same, get_or-set_other, drop-drop}
use Rattle.std.proofs.lemmas.Bool.{eqb-true}
use mathlib.Core.Path.{fun_ext}
use Rattle.std.specs.Prelude.{◌==◌, is_some}
use Rattle.std.specs.declared.option.Option.{Option}
use Rattle.std.specs.declared.option.Option.TheVariants.{Some, None}
use Rattle.pb_desk.specs.declared.shelf.Named.{Named}
use Rattle.pb_desk.specs.declared.shelf.Reading.{Reading}
use Rattle.pb_desk.specs.View.{put, View, Told, taken}
use Rattle.pb_desk.specs.Memory.{left_of}

-- a function of each slot, after a write to one of them
pub at_set : {X : Type 0} (f : Option Reading → X) (slots : List (Option Reading)) (slot : ℕ) (next : Option Reading) → slot < length slots → (λ n. f (get_or (set slots slot next) n None)) ≡ put (λ n. f (get_or slots n None)) slot (f next)
at_set {X} f slots slot next lt = fun_ext (λ n. by_test n (n == slot) refl)
  where
    by_test : (n : ℕ) (found : Bool) → (n == slot) ≡ found → f (get_or (set slots slot next) n None) ≡ put (λ n. f (get_or slots n None)) slot (f next) n
    by_test n true is = let at : n ≡ slot = eqb-true n slot is in simp is (ap f (ap (λ (k : ℕ). get_or (set slots slot next) k None) at ∙ get_or-set_same slots slot next None lt))
    by_test n false is = simp is (ap f (get_or-set_other slots slot n next None (λ at. cc (eq-eqb n slot at))))

-- a place that has the value already
pub put_there : {X : Type 0} (f : ℕ → X) (place : ℕ) (x : X) → f place ≡ x → put f place x ≡ f
put_there {X} f place x there = fun_ext (λ n. by_test n (n == place) refl)
  where
    by_test : (n : ℕ) (found : Bool) → (n == place) ≡ found → put f place x n ≡ f n
    by_test n true is = let at : n ≡ place = eqb-true n place is in simp is (sym (ap f at ∙ there))
    by_test n false is = simp is

-- a slot's reading, so many bytes on
abbrev pub further_on : Reading → ℕ → Reading
further_on reading count = record { file = reading.file; place = reading.place + count }

-- which slots are open, and what each has left
abbrev pub open_in : List (Option Reading) → ℕ → Bool
open_in slots n = is_some (get_or slots n None)

abbrev pub left_in : List Named → List (Option Reading) → ℕ → List ℕ
left_in shelf slots n = left_of shelf (get_or slots n None)

pub open_still : (slots : List (Option Reading)) (slot : ℕ) (reading next : Reading) → get_or slots slot None ≡ Some reading → slot < length slots → open_in (set slots slot (Some next)) ≡ open_in slots
open_still slots slot reading next is lt = at_set is_some slots slot (Some next) lt ∙ put_there (open_in slots) slot true (ap is_some is)

pub left_falls : (shelf : List Named) (slots : List (Option Reading)) (slot count : ℕ) (reading : Reading) → get_or slots slot None ≡ Some reading → slot < length slots
    → left_in shelf (set slots slot (Some (further_on reading count))) ≡ put (left_in shelf slots) slot (drop count (left_in shelf slots slot))
left_falls shelf slots slot count reading is lt =
    at_set (left_of shelf) slots slot (Some (further_on reading count)) lt
    ∙ ap (λ (xs : List ℕ). put (left_in shelf slots) slot xs) (sym (ap (λ (o : Option Reading). drop count (left_of shelf o)) is ∙ drop-drop count reading.place _))

-- the view of a desk in memory after a slot moved on
pub moved : (shelf : List Named) (slots : List (Option Reading)) (slot count : ℕ) (reading : Reading) (view : View) (t : Told) (steady : Bool) → get_or slots slot None ≡ Some reading → slot < length slots → steady ≡ view.steady
    → record view { reading = open_in (set slots slot (Some (further_on reading count))); told = Some (record t { left = left_in shelf (set slots slot (Some (further_on reading count))) }); steady = steady }
    ≡ taken slot count (record view { reading = open_in slots; told = Some (record t { left = left_in shelf slots }) })
moved shelf slots slot count reading view t steady is lt still =
    ap (λ (f : ℕ → Bool). record view { reading = f; told = Some (record t { left = left_in shelf (set slots slot (Some (further_on reading count))) }); steady = steady }) (open_still slots slot reading (further_on reading count) is lt)
    ∙ ap (λ (f : ℕ → List ℕ). record view { reading = open_in slots; told = Some (record t { left = f }); steady = steady }) (left_falls shelf slots slot count reading is lt)
    ∙ ap (λ (b : Bool). record view { reading = open_in slots; told = Some (record t { left = put (left_in shelf slots) slot (drop count (left_in shelf slots slot)) }); steady = b }) still
