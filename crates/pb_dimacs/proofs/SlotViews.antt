-- What a desk shows, by the bytes of one slot and the rest.
use Rattle.std.proofs.Common.{◌≡◌, ◌++◌, ℕ, List, [], ◌∷◌, refl, sym, ap, ◌∙◌, true, false, Bool, inl, inr, eq-eqb}
use Rattle.std.specs.Prelude.{◌==◌}
use Rattle.std.specs.Option.{option_map, unwrap_or}
use Rattle.std.specs.declared.option.Option.{Option}
use Rattle.std.specs.declared.option.Option.TheVariants.{Some, None}
use Rattle.pb_desk.specs.View.{Made, Told, View, appended, bytes_in, wrote}
use Rattle.pb_desk.specs.Desk.{HasSlot, written}
use Rattle.pb_dimacs.specs.Outboxes.{filled, beside}

-- ---- files

pub filled-appended : (slot : ℕ) (bytes xs : List ℕ) (files : List Made) → filled slot bytes (appended slot xs files) ≡ filled slot bytes files
filled-appended slot bytes xs [] = refl
filled-appended slot bytes xs (file ∷ files) = by_test (file.slot == slot) refl (filled-appended slot bytes xs files)
  where
    by_test : (found : Bool) → (file.slot == slot) ≡ found → filled slot bytes (appended slot xs files) ≡ filled slot bytes files → filled slot bytes (appended slot xs (file ∷ files)) ≡ filled slot bytes (file ∷ files)
    by_test true is further = simp is refl
    by_test false is further = simp is (ap (λ (fs : List Made). file ∷ fs) further)

filled-filled : (slot : ℕ) (bytes xs : List ℕ) (files : List Made) → filled slot bytes (filled slot xs files) ≡ filled slot bytes files
filled-filled slot bytes xs [] = refl
filled-filled slot bytes xs (file ∷ files) = by_test (file.slot == slot) refl (filled-filled slot bytes xs files)
  where
    by_test : (found : Bool) → (file.slot == slot) ≡ found → filled slot bytes (filled slot xs files) ≡ filled slot bytes files → filled slot bytes (filled slot xs (file ∷ files)) ≡ filled slot bytes (file ∷ files)
    by_test true is further = simp is refl
    by_test false is further = simp is (ap (λ (fs : List Made). file ∷ fs) further)

-- with more bytes than it has
filled_more : (slot : ℕ) (bytes xs : List ℕ) (files : List Made) → bytes ≡ bytes_in slot files → filled slot (bytes ++ xs) files ≡ appended slot xs files
filled_more slot bytes xs [] is_in = refl
filled_more slot bytes xs (file ∷ files) is_in = by_test (file.slot == slot) refl (filled_more slot bytes xs files)
  where
    by_test : (found : Bool) → (file.slot == slot) ≡ found → (bytes ≡ bytes_in slot files → filled slot (bytes ++ xs) files ≡ appended slot xs files) → filled slot (bytes ++ xs) (file ∷ files) ≡ appended slot xs (file ∷ files)
    by_test true is further =
        let head : bytes_in slot (file ∷ files) ≡ file.bytes = simp is refl in
        simp is (ap (λ (bs : List ℕ). record file { bytes = bs ++ xs } ∷ files) (is_in ∙ head))
    by_test false is further =
        let tail : bytes_in slot (file ∷ files) ≡ bytes_in slot files = simp is refl in
        simp is (ap (λ (fs : List Made). file ∷ fs) (further (is_in ∙ tail)))

-- with the bytes that it has
filled_same : (slot : ℕ) (bytes : List ℕ) (files : List Made) → bytes ≡ bytes_in slot files → filled slot bytes files ≡ files
filled_same slot bytes [] is_in = refl
filled_same slot bytes (file ∷ files) is_in = by_test (file.slot == slot) refl (filled_same slot bytes files)
  where
    by_test : (found : Bool) → (file.slot == slot) ≡ found → (bytes ≡ bytes_in slot files → filled slot bytes files ≡ files) → filled slot bytes (file ∷ files) ≡ file ∷ files
    by_test true is further =
        let head : bytes_in slot (file ∷ files) ≡ file.bytes = simp is refl in
        simp is (ap (λ (bs : List ℕ). record file { bytes = bs } ∷ files) (is_in ∙ head))
    by_test false is further =
        let tail : bytes_in slot (file ∷ files) ≡ bytes_in slot files = simp is refl in
        simp is (ap (λ (fs : List Made). file ∷ fs) (further (is_in ∙ tail)))

-- the slot's bytes behind more that were written
pub bytes_in-appended : (slot : ℕ) (xs : List ℕ) (files : List Made) → HasSlot slot files → bytes_in slot (appended slot xs files) ≡ bytes_in slot files ++ xs
bytes_in-appended slot xs [] h = absurd h
bytes_in-appended slot xs (file ∷ files) h = by_test (file.slot == slot) refl h (bytes_in-appended slot xs files)
  where
    by_test : (found : Bool) → (file.slot == slot) ≡ found → HasSlot slot (file ∷ files) → (HasSlot slot files → bytes_in slot (appended slot xs files) ≡ bytes_in slot files ++ xs) → bytes_in slot (appended slot xs (file ∷ files)) ≡ bytes_in slot (file ∷ files) ++ xs
    by_test true is k further = simp is refl
    by_test false is (inl at) further = cc (is, at, eq-eqb file.slot slot at)
    by_test false is (inr k) further = simp is (further k)

-- files that differ in the slot's bytes alone
files_are : (slot : ℕ) (xs : List ℕ) (ma mb : List Made) → filled slot [] mb ≡ filled slot [] ma → bytes_in slot mb ≡ bytes_in slot ma ++ xs → mb ≡ appended slot xs ma
files_are slot xs ma mb others bytes =
    let put = bytes_in slot mb in
    sym (filled_same slot put mb refl) ∙ sym (filled-filled slot put [] mb) ∙ ap (filled slot put) others ∙ filled-filled slot put [] ma
    ∙ ap (λ (bs : List ℕ). filled slot bs ma) bytes ∙ filled_more slot (bytes_in slot ma) xs ma refl

-- ---- views

-- what is told
told_is : (slot : ℕ) (xs : List ℕ) (ta tb : Option Told) → option_map (λ (t : Told). record t { made = filled slot [] t.made }) tb ≡ option_map (λ (t : Told). record t { made = filled slot [] t.made }) ta
    → option_map (written slot) tb ≡ option_map (λ (t : Told). written slot t ++ xs) ta → tb ≡ option_map (λ (t : Told). record t { made = appended slot xs t.made }) ta
told_is slot xs None None others bytes = refl
told_is slot xs None (Some b) others bytes = cc
told_is slot xs (Some a) None others bytes = cc
told_is slot xs (Some a) (Some b) others bytes =
    let same = ap (λ (o : Option Told). unwrap_or o a) others in
    let made = files_are slot xs a.made b.made (ap (λ (t : Told). t.made) same) (ap (λ (o : Option (List ℕ)). unwrap_or o []) bytes) in
    ap (λ (t : Told). Some (record t { made = b.made })) same ∙ ap (λ (files : List Made). Some (record a { made = files })) made

pub view_is : (slot : ℕ) (xs : List ℕ) (va vb : View) → beside slot vb ≡ beside slot va → option_map (written slot) vb.told ≡ option_map (λ (t : Told). written slot t ++ xs) va.told → vb ≡ wrote slot xs va
view_is slot xs va vb others bytes =
    let told = told_is slot xs va.told vb.told (ap (λ (v : View). v.told) others) bytes in
    ap (λ (v : View). record v { told = vb.told }) others ∙ ap (λ (o : Option Told). record va { told = o }) told

pub beside-wrote : (slot : ℕ) (xs : List ℕ) (view : View) → beside slot (wrote slot xs view) ≡ beside slot view
beside-wrote slot xs view = elim view.told as (λ (o : Option Told). beside slot (wrote slot xs (record view { told = o })) ≡ beside slot (record view { told = o })) [
  | None ↦ refl
  | Some t ↦ ap (λ (files : List Made). record view { told = Some (record t { made = files }) }) (filled-appended slot [] xs t.made)
]
