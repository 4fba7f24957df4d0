-- Lists that begin with a list.
use Rattle.std.proofs.Common.{◌≡◌, ◌++◌, ℕ, List, length, take, drop, sym, ap, ◌∙◌, append_assoc}
use Rattle.std.specs.Prelude.{Result, Ok, Err, OnOk, is_ok, if◌then◌else◌}
use Rattle.std.proofs.lemmas.List.{take-append-drop}
use Rattle.std.proofs.Math.Seq.{take-append_seam}

-- what begins with a list and more begins with the list
pub still_before : {X : Type 0} (start more now : List X) → take (length (start ++ more)) now ≡ start ++ more → take (length start) now ≡ start
still_before {X} start more now before =
    let long = length (start ++ more) in
    let whole : now ≡ start ++ (more ++ drop long now) = sym (take-append-drop long now) ∙ ap (λ (xs : List X). xs ++ drop long now) before ∙ append_assoc start more (drop long now) in
    ap (take (length start)) whole ∙ take-append_seam start (more ++ drop long now)

-- what more is appended to, behind what was appended before, if that does not fail
pub appended_all : {X T E : Type 0} (r : Result T E) (start made more said now : List X) → said ≡ start ++ made → now ≡ (if is_ok r then said ++ more else said) → OnOk r (now ≡ start ++ (made ++ more))
appended_all {X} (Ok x) start made more said now so_far appended = appended ∙ ap (λ (xs : List X). xs ++ more) so_far ∙ append_assoc start made more
appended_all (Err f) start made more said now so_far appended = tt

-- it begins as it did, also where that fails
pub appended_front : {T E : Type 0} (r : Result T E) (start made more said now : List ℕ) → said ≡ start ++ made → now ≡ (if is_ok r then said ++ more else said) → take (length start) now ≡ start
appended_front (Ok x) start made more said now so_far appended = ap (take (length start)) (appended ∙ ap (λ (xs : List ℕ). xs ++ more) so_far ∙ append_assoc start made more) ∙ take-append_seam start (made ++ more)
appended_front (Err f) start made more said now so_far appended = ap (take (length start)) (appended ∙ so_far) ∙ take-append_seam start made
