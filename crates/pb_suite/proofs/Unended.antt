-- Of a text that is read whole there was more to read, where a read of it failed.
use Rattle.std.proofs.Common.{◌≡◌, ◌≤◌, ◌^◌, ◌∙◌, arith, ℕ, Bool, true, false, List, [], Option, Some, None, ap, drop, length, subst, sym, take}
use Rattle.std.specs.Prelude.{if◌then◌else◌, IfSome}
use Rattle.std.specs.Option.{unwrap_or}
use Rattle.std.proofs.lemmas.List.{length-take}
use Rattle.pb_desk.specs.View.{put, Told, View}
use Rattle.pb_desk.specs.Desk.{DeskState, IfTold}
use Rattle.pb_desk.proofs.Readings.{put-same}
use Rattle.pb_suite.specs.CommandSpec.{taken_in, IsUnended}
use Rattle.pb_suite.specs.inner.Runs.{fetched, IsUnendedIn}
use Rattle.pb_suite.proofs.Endings.{always}
use Rattle.pb_suite.proofs.Takings.{before_rest, before-drop, taken-closed}
use Rattle.pb_suite.proofs.Texts.{told_more}

-- of a text that was opened, and of which so many bytes were read, those were taken
taken-fetched : (slot : ℕ) (name : List ℕ) (count : ℕ) (a b : DeskState) → b.view ≡ fetched slot name count a.view → IfTold b (λ t. (text : List ℕ) × (taken_in b.view t slot name ≡ Some (take count text)))
taken-fetched slot name count a b is = subst (λ (v : View). IfSome v.told (λ t. (text : List ℕ) × (taken_in v t slot name ≡ Some (take count text)))) (sym is) (by_cases a.view.told)
  where
    after : Option Told → View
    after told = fetched slot name count (record a.view { told = told })

    by_cases : (told : Option Told) → IfSome (after told).told (λ t. (text : List ℕ) × (taken_in (after told) t slot name ≡ Some (take count text)))
    by_cases None = tt
    by_cases (Some t) =
        let text : List ℕ = unwrap_or (t.shelf name) [] in
        let begun : ℕ → List ℕ = put t.left slot text in
        let left : List ℕ = put begun slot (drop count (begun slot)) slot in
        let rest : left ≡ drop count text = put-same begun slot (drop count (begun slot)) ∙ ap (λ (xs : List ℕ). drop count xs) (put-same t.left slot text) in
        (text, ap (λ (b : Bool). if b then Some (before_rest text left) else None) (put-same a.view.reading slot true) ∙ ap Some (ap (λ (xs : List ℕ). before_rest text xs) rest ∙ before-drop count text))

module _ (slot : ℕ) (name : List ℕ) (b : DeskState) where
  unended : (t : Told) (x : Option (List ℕ)) → taken_in b.view t slot name ≡ x → IfSome x (λ bytes. (b.ended slot ≡ false) × (length bytes ≤ 2 ^ 32)) → IsUnended slot name (taken_in b.view t) b.ended
  unended t x is holds = subst (λ (o : Option (List ℕ)). IfSome o (λ bytes. (b.ended slot ≡ false) × (length bytes ≤ 2 ^ 32))) (sym is) holds

  -- the slot is not open
  pub unended-closed : b.view.reading slot ≡ false → IsUnendedIn slot name b
  unended-closed closed = always b (λ t. IsUnended slot name (taken_in b.view t) b.ended) (λ t. unended t None (taken-closed b.view t slot name closed) tt)

  -- so many bytes were read, which a text may have, and not its end
  pub unended-fetched : (count : ℕ) (a : DeskState) → b.view ≡ fetched slot name count a.view → b.ended slot ≡ false → count ≤ 2 ^ 32 → IsUnendedIn slot name b
  unended-fetched count a is not_over le =
      told_more b (λ t. (text : List ℕ) × (taken_in b.view t slot name ≡ Some (take count text))) (λ t. IsUnended slot name (taken_in b.view t) b.ended)
      (λ t has. unended t (Some (take count has.0)) has.1 (not_over, omega (arith, le, length-take count has.0))) (taken-fetched slot name count a b is)
