-- Writing twice is writing once.
use Rattle.std.proofs.Common.{◌≡◌, ℕ, List, [], ◌∷◌, ◌++◌, refl, ap, append_assoc, true, false, Bool}
use Rattle.std.proofs.lemmas.List.{append-nil}
use Rattle.std.specs.Prelude.{◌==◌}
use Rattle.std.specs.declared.option.Option.{Option}
use Rattle.std.specs.declared.option.Option.TheVariants.{Some, None}
use Rattle.pb_desk.specs.View.{Made, Told, View, appended, wrote, spoke}

pub appended-append : (slot : ℕ) (xs ys : List ℕ) (files : List Made) → appended slot ys (appended slot xs files) ≡ appended slot (xs ++ ys) files
appended-append slot xs ys [] = refl
appended-append slot xs ys (file ∷ files) = by_test (file.slot == slot) refl (appended-append slot xs ys files)
  where
    by_test : (found : Bool) → (file.slot == slot) ≡ found → appended slot ys (appended slot xs files) ≡ appended slot (xs ++ ys) files → appended slot ys (appended slot xs (file ∷ files)) ≡ appended slot (xs ++ ys) (file ∷ files)
    by_test true is further = simp (is, append_assoc)
    by_test false is further = simp is (ap (λ (fs : List Made). file ∷ fs) further)

pub appended-nil : (slot : ℕ) (files : List Made) → appended slot [] files ≡ files
appended-nil slot [] = refl
appended-nil slot (file ∷ files) = by_test (file.slot == slot) refl (appended-nil slot files)
  where
    by_test : (found : Bool) → (file.slot == slot) ≡ found → appended slot [] files ≡ files → appended slot [] (file ∷ files) ≡ file ∷ files
    by_test true is further = simp (is, append-nil)
    by_test false is further = simp is (ap (λ (fs : List Made). file ∷ fs) further)

pub wrote-nil : (slot : ℕ) (view : View) → wrote slot [] view ≡ view
wrote-nil slot view = elim view.told as (λ (o : Option Told). wrote slot [] (record view { told = o }) ≡ record view { told = o }) [
  | None ↦ refl
  | Some t ↦ ap (λ (files : List Made). record view { told = Some (record t { made = files }) }) (appended-nil slot t.made)
]

pub wrote-wrote : (slot : ℕ) (xs ys : List ℕ) (view : View) → wrote slot ys (wrote slot xs view) ≡ wrote slot (xs ++ ys) view
wrote-wrote slot xs ys view = elim view.told as (λ (o : Option Told). wrote slot ys (wrote slot xs (record view { told = o })) ≡ wrote slot (xs ++ ys) (record view { told = o })) [
  | None ↦ refl
  | Some t ↦ ap (λ (files : List Made). record view { told = Some (record t { made = files }) }) (appended-append slot xs ys t.made)
]

pub spoke-spoke : (xs ys : List ℕ) (view : View) → spoke ys (spoke xs view) ≡ spoke (xs ++ ys) view
spoke-spoke xs ys view = elim view.told as (λ (o : Option Told). spoke ys (spoke xs (record view { told = o })) ≡ spoke (xs ++ ys) (record view { told = o })) [
  | None ↦ refl
  | Some t ↦ ap (λ (said : List ℕ). record view { told = Some (record t { said = said }) }) (append_assoc t.said xs ys)
]
