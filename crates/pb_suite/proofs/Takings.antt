-- What was taken of texts, by what their slots have left.
use Rattle.std.proofs.Common.{◌≡◌, ◌∙◌, ◌+◌, ◌-◌, arith, ℕ, List, [], Bool, false, Option, Some, None, ap, drop, length, subst, sym, take}
use Rattle.std.specs.Prelude.{if◌then◌else◌, IfSome, IsSome, IsTrue}
use Rattle.std.specs.Option.{unwrap_or}
use Rattle.std.proofs.lemmas.List.{length-append, take-append-drop}
use Rattle.std.proofs.Math.Seq.{take-append_seam}
use Rattle.pb_desk.specs.View.{Told, View, opened, put, taken}
use Rattle.pb_desk.specs.Desk.{DeskState, IfTold}
use Rattle.pb_desk.proofs.Readings.{put-same}
use Rattle.pb_suite.specs.CommandSpec.{Shelf, taken_in}
use Rattle.pb_suite.proofs.Opened.{some_is}

-- the first bytes of a text, of which these are left
abbrev pub before_rest : List ℕ → List ℕ → List ℕ
before_rest text left = take (length text - length left) text

pub before-drop : (n : ℕ) (text : List ℕ) → before_rest text (drop n text) ≡ take n text
before-drop n text =
    let parts : length text ≡ length (take n text) + length (drop n text) = ap length (sym (take-append-drop n text)) ∙ length-append (take n text) (drop n text) in
    let count : length text - length (drop n text) ≡ length (take n text) = omega (arith, parts) in
    ap (λ (k : ℕ). take k text) count ∙ (ap (λ (xs : List ℕ). take (length (take n text)) xs) (sym (take-append-drop n text)) ∙ take-append_seam (take n text) (drop n text))

pub taken-closed : (v : View) (t : Told) (slot : ℕ) (name : List ℕ) → v.reading slot ≡ false → taken_in v t slot name ≡ None
taken-closed v t slot name closed = ap (λ (b : Bool). if b then Some (before_rest (unwrap_or (t.shelf name) []) (t.left slot)) else None) closed

-- of a text whose first bytes its slot has no more those were taken
pub taken-drop : (v : View) (t : Told) (slot : ℕ) (name text : List ℕ) (n : ℕ) → IsTrue (v.reading slot) → t.shelf name ≡ Some text → t.left slot ≡ drop n text → taken_in v t slot name ≡ Some (take n text)
taken-drop v t slot name text n reads is left =
    ap (λ (b : Bool). if b then Some (before_rest (unwrap_or (t.shelf name) []) (t.left slot)) else None) reads
    ∙ ap Some (ap (λ (o : Option (List ℕ)). before_rest (unwrap_or o []) (t.left slot)) is ∙ (ap (λ (xs : List ℕ). before_rest text xs) left ∙ before-drop n text))

-- of a text that was opened just now nothing was taken
pub taken-opened : (name : List ℕ) (a b : DeskState) → b.view ≡ opened 1 name a.view → IfTold b (λ t. taken_in b.view t 1 name ≡ Some [])
taken-opened name a b is = subst (λ (v : View). IfSome v.told (λ t. taken_in v t 1 name ≡ Some [])) (sym is) (by_cases a.view.told)
  where
    by_cases : (told : Option Told) → IfSome (opened 1 name (record a.view { told = told })).told (λ t. taken_in (opened 1 name (record a.view { told = told })) t 1 name ≡ Some [])
    by_cases None = tt
    by_cases (Some t) = ap Some (before-drop 0 (unwrap_or (t.shelf name) []))

-- the text stands in its slot from its first byte on
pub stands_whole : (slot : ℕ) (name : List ℕ) (a b : DeskState) → b.view ≡ opened slot name a.view → IfTold a (λ t. IsSome (t.shelf name)) → IfTold b (λ t. t.shelf name ≡ Some (t.left slot))
stands_whole slot name a b is found = subst (λ (v : View). IfSome v.told (λ t. t.shelf name ≡ Some (t.left slot))) (sym is) (by_cases a.view.told found)
  where
    by_cases : (told : Option Told) → IfSome told (λ t. IsSome (t.shelf name)) → IfSome (opened slot name (record a.view { told = told })).told (λ t. t.shelf name ≡ Some (t.left slot))
    by_cases None found = tt
    by_cases (Some t) found = some_is (t.shelf name) found ∙ ap Some (sym (put-same t.left slot (unwrap_or (t.shelf name) [])))

-- what is so of a shelf and of the first bytes that a slot has left is so of what was taken, where those were
pub taken-on : (slot count : ℕ) (name : List ℕ) (P : Shelf → Option (List ℕ) → Type 0) (b d : DeskState) → IsTrue (b.view.reading slot) → IfTold b (λ t. t.shelf name ≡ Some (t.left slot)) → d.view ≡ taken slot count b.view
    → IfTold b (λ t. P t.shelf (Some (take count (t.left slot)))) → IfTold d (λ t. P t.shelf (taken_in d.view t slot name))
taken-on slot count name P b d reads whole is holds =
    subst (λ (v : View). IfSome v.told (λ t. P t.shelf (taken_in v t slot name))) (sym is) (by_cases b.view.told whole holds)
  where
    after : Option Told → View
    after told = taken slot count (record b.view { told = told })

    by_cases : (told : Option Told) → IfSome told (λ t. t.shelf name ≡ Some (t.left slot)) → IfSome told (λ t. P t.shelf (Some (take count (t.left slot)))) → IfSome (after told).told (λ t. P t.shelf (taken_in (after told) t slot name))
    by_cases None whole holds = tt
    by_cases (Some t) whole holds =
        let u : Told = record t { left = put t.left slot (drop count (t.left slot)) } in
        subst (P t.shelf) (sym (taken-drop (after (Some t)) u slot name (t.left slot) count reads whole (put-same t.left slot (drop count (t.left slot))))) holds
