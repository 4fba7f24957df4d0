-- Reading twice is reading once.
use Rattle.std.proofs.Common.{◌≡◌, ℕ, ◌+◌, ◌≤◌, ◌<◌, List, ◌++◌, length, take, drop, refl, sym, ap, ◌∙◌, subst, arith, eq-eqb, length-append, true, false, Bool}
use Rattle.std.proofs.Math.Seq.{take-add}
use Rattle.std.proofs.lemmas.List.{length-drop, length-take-le, drop-drop, take-append-drop, append-nil}
use mathlib.Core.Path.{fun_ext}
use Rattle.std.specs.Prelude.{◌==◌, IfSome}
use Rattle.std.specs.Option.{option_map}
use Rattle.std.specs.declared.option.Option.{Option}
use Rattle.std.specs.declared.option.Option.TheVariants.{Some, None}
use Rattle.pb_desk.specs.View.{Told, View, put, taken}
use Rattle.pb_desk.specs.Desk.{DeskState, Reads, Advances, Gives, IfKept, IfTold}
use Rattle.pb_desk.proofs.Steps.{reads_by_then}

pub put-same : {X : Type 0} (f : ℕ → X) (place : ℕ) (x : X) → put f place x place ≡ x
put-same f place x = let is : (place == place) ≡ true = eq-eqb place place refl in simp is

pub put-put : {X : Type 0} (f : ℕ → X) (place : ℕ) (x y : X) → put (put f place x) place y ≡ put f place y
put-put {X} f place x y = fun_ext (λ n. by_test n (n == place) refl)
  where
    by_test : (n : ℕ) (found : Bool) → (n == place) ≡ found → put (put f place x) place y n ≡ put f place y n
    by_test n true is = simp is
    by_test n false is = simp is

pub taken-taken : (slot n m : ℕ) (view : View) → taken slot m (taken slot n view) ≡ taken slot (n + m) view
taken-taken slot n m view = elim view.told as (λ (o : Option Told). taken slot m (taken slot n (record view { told = o })) ≡ taken slot (n + m) (record view { told = o })) [
  | None ↦ refl
  | Some t ↦ ap (λ (left : ℕ → List ℕ). record view { told = Some (record t { left = left }) }) (both t)
]
  where
    both : (t : Told) → put (put t.left slot (drop n (t.left slot))) slot (drop m (put t.left slot (drop n (t.left slot)) slot)) ≡ put t.left slot (drop (n + m) (t.left slot))
    both t = put-put t.left slot (drop n (t.left slot)) _ ∙ ap (λ (xs : List ℕ). put t.left slot xs) (ap (λ (xs : List ℕ). drop m xs) (put-same t.left slot (drop n (t.left slot))) ∙ drop-drop m n (t.left slot))

-- what holds of a desk's left bytes after some were taken, of those before
pub told_after : (slot n : ℕ) (P : List ℕ → Type 0) (a b : DeskState) → b.view ≡ taken slot n a.view → IfTold b (λ t. P (t.left slot)) → IfTold a (λ t. P (drop n (t.left slot)))
told_after slot n P a b is holds = by_cases a.view.told (subst (λ (v : View). IfSome v.told (λ t. P (t.left slot))) is holds)
  where
    by_cases : (told : Option Told) → IfSome (option_map (λ (t : Told). record t { left = put t.left slot (drop n (t.left slot)) }) told) (λ t. P (t.left slot)) → IfSome told (λ t. P (drop n (t.left slot)))
    by_cases None h = tt
    by_cases (Some t) h = subst P (put-same t.left slot (drop n (t.left slot))) h

-- two facts of what is told, together
pub both_told : (P Q R : Told → Type 0) (a : DeskState) → ((t : Told) → P t → Q t → R t) → IfTold a P → IfTold a Q → IfTold a R
both_told P Q R a gives p q = by_cases a.view.told p q
  where
    by_cases : (told : Option Told) → IfSome told P → IfSome told Q → IfSome told R
    by_cases None p q = tt
    by_cases (Some t) p q = gives t p q

pub takes_more : (slot n m : ℕ) (room : List ℕ) (a b c : DeskState) → Advances slot n a b → Reads (taken slot m) b c → IfKept b c (λ t. Gives (t.left slot) m room) → Advances slot (n + m) a c
takes_more slot n m room a b c first second given = record {
  reached = reads_by_then (taken slot n) (taken slot m) (taken slot (n + m)) a b c (taken-taken slot n m) first.reached second;
  were_left = λ k. both_told (λ t. n ≤ length (t.left slot)) (λ t. Gives (drop n (t.left slot)) m room) (λ t. n + m ≤ length (t.left slot)) a
      (λ t le gives. omega (arith, gives.enough, length-drop n (t.left slot))) (first.were_left (second.kept k)) (told_after slot n (λ left. Gives left m room) a b first.reached.view (given k));
}

pub text_so_far : (slot n m : ℕ) (text room : List ℕ) (a b : DeskState) → Advances slot n a b → IfTold a (λ t. text ≡ take n (t.left slot)) → IfTold b (λ t. Gives (t.left slot) m room) → IfTold a (λ t. text ++ take m room ≡ take (n + m) (t.left slot))
text_so_far slot n m text room a b first so_far given = both_told (λ t. text ≡ take n (t.left slot)) (λ t. Gives (drop n (t.left slot)) m room) (λ t. text ++ take m room ≡ take (n + m) (t.left slot)) a
    (λ t is gives. rw (is, gives.bytes, take-add) refl) so_far (told_after slot n (λ left. Gives left m room) a b first.reached.view given)

pub whole_at_end : (slot n m : ℕ) (text room : List ℕ) (a b : DeskState) → Advances slot n a b → IfTold a (λ t. text ≡ take n (t.left slot)) → m ≡ 0 → 0 < length room → IfTold b (λ t. Gives (t.left slot) m room) → IfTold a (λ t. text ≡ t.left slot)
whole_at_end slot n m text room a b first so_far none some given = both_told (λ t. text ≡ take n (t.left slot)) (λ t. Gives (drop n (t.left slot)) m room) (λ t. text ≡ t.left slot) a
    (λ t is gives. is ∙ sym (append-nil (take n (t.left slot))) ∙ ap (λ (rest : List ℕ). take n (t.left slot) ++ rest) (sym (gives.end none some)) ∙ take-append-drop n (t.left slot)) so_far (told_after slot n (λ left. Gives left m room) a b first.reached.view given)

-- the text grew by what was read
pub grows : (slot n m : ℕ) (text room grown : List ℕ) (a b c : DeskState) → n ≡ length text → grown ≡ text ++ take m room → m ≤ length room → Advances slot n a b → Reads (taken slot m) b c → IfKept a b (λ t. text ≡ take n (t.left slot)) → IfKept b c (λ t. Gives (t.left slot) m room)
    → Advances slot (length grown) a c × IfKept a c (λ t. grown ≡ take (length grown) (t.left slot))
grows slot n m text room grown a b c is_n is_grown in_room first second so_far given =
    let longer : length grown ≡ n + m = omega (arith, ap length is_grown, length-append text (take m room), length-take-le m room in_room) in (
      subst (λ (k : ℕ). Advances slot k a c) (sym longer) (takes_more slot n m room a b c first second given),
      λ k. both_told (λ t. text ++ take m room ≡ take (n + m) (t.left slot)) (λ t. Unit {0}) (λ t. grown ≡ take (length grown) (t.left slot)) a
          (λ t is _. is_grown ∙ is ∙ ap (λ (k : ℕ). take k (t.left slot)) (sym longer)) (text_so_far slot n m text room a b first (so_far (second.kept k)) (given k)) (anyway a),
    )
  where
    anyway : (a : DeskState) → IfTold a (λ t. Unit {0})
    anyway a = elim a.view.told as (λ (o : Option Told). IfSome o (λ t. Unit {0})) [ None ↦ tt | Some t ↦ tt ]
