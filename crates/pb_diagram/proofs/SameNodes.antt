-- Lists of nodes in order.
use Rattle.std.proofs.Common.{◌≡◌, ◌≤◌, List, [], ◌∷◌, length, refl, sym, ap, ◌∙◌, subst, arith, inl, inr}
use Rattle.std.specs.Prelude.{Contains}
use Rattle.pb_base.proofs.Members.{Contains-nil, Contains-here, Contains-there, Contains-cons_cases}
use Rattle.pb_diagram.specs.declared.interval.Interval.{Interval}
use Rattle.pb_diagram.specs.Intervals.{AreApart}
use Rattle.pb_diagram.specs.inner.Known.{Rise}

abbrev Within : List Interval → List Interval → Type 0
Within xs ys = (g : Interval) → Contains xs g → Contains ys g

rise_tail : (g : Interval) (gs : List Interval) → Rise (g ∷ gs) → Rise gs
rise_tail g gs rise h among = rise h (Contains-there g gs h among)

-- what stands after the head in one list stands after the same head in the other
after_head : (x : Interval) (xs ys : List Interval) → AreApart (x ∷ xs) → Rise (x ∷ xs) → Within (x ∷ xs) (x ∷ ys) → Within xs ys
after_head x xs ys apart rise within g among =
    elim (Contains-cons_cases x ys g (within g (Contains-there x xs g among))) as (λ _. Contains ys g) [
      | inl e ↦
          let low = apart.0 g among in
          let up = rise x (Contains-here x xs) in
          let same = ap (λ (h : Interval). h.low) e in
          absurd (omega arith)
      | inr later ↦ later
    ]

same_head : (x y : Interval) (xs ys : List Interval) → AreApart (x ∷ xs) → AreApart (y ∷ ys) → Rise (x ∷ xs) → Rise (y ∷ ys) → Within (x ∷ xs) (y ∷ ys) → Within (y ∷ ys) (x ∷ xs) → x ≡ y
same_head x y xs ys apart_x apart_y rise_x rise_y one two =
    elim (Contains-cons_cases y ys x (one x (Contains-here x xs))) as (λ _. x ≡ y) [
      | inl e ↦ sym e
      | inr later ↦ elim (Contains-cons_cases x xs y (two y (Contains-here y ys))) as (λ _. x ≡ y) [
        | inl e ↦ e
        | inr also ↦
            let low = apart_y.0 x later in
            let high = apart_x.0 y also in
            let up = rise_x x (Contains-here x xs) in
            let up_too = rise_y y (Contains-here y ys) in
            absurd (omega arith)
      ]
    ]

-- lists in order with the same members are one
pub same_nodes : (xs ys : List Interval) → AreApart xs → AreApart ys → Rise xs → Rise ys → Within xs ys → Within ys xs → xs ≡ ys
same_nodes [] [] apart_x apart_y rise_x rise_y one two = refl
same_nodes [] (y ∷ ys) apart_x apart_y rise_x rise_y one two = absurd (Contains-nil y (two y (Contains-here y ys)))
same_nodes (x ∷ xs) [] apart_x apart_y rise_x rise_y one two = absurd (Contains-nil x (one x (Contains-here x xs)))
same_nodes (x ∷ xs) (y ∷ ys) apart_x apart_y rise_x rise_y one two =
    let head = same_head x y xs ys apart_x apart_y rise_x rise_y one two in
    let forth = after_head x xs ys apart_x rise_x (subst (λ (g : Interval). Within (x ∷ xs) (g ∷ ys)) (sym head) one) in
    let back = after_head y ys xs apart_y rise_y (subst (λ (g : Interval). Within (y ∷ ys) (g ∷ xs)) head two) in
    let tail = same_nodes xs ys apart_x.1 apart_y.1 (rise_tail x xs rise_x) (rise_tail y ys rise_y) forth back in
    ap (λ (g : Interval). g ∷ xs) head ∙ ap (λ (gs : List Interval). y ∷ gs) tail

-- a list in order of members of another is not longer
pub length_within : (xs ys : List Interval) → AreApart xs → AreApart ys → Rise xs → Rise ys → Within xs ys → length xs ≤ length ys
length_within [] ys apart_x apart_y rise_x rise_y within = omega arith
length_within (x ∷ xs) [] apart_x apart_y rise_x rise_y within = absurd (Contains-nil x (within x (Contains-here x xs)))
length_within (x ∷ xs) (y ∷ ys) apart_x apart_y rise_x rise_y within =
    elim (Contains-cons_cases y ys x (within x (Contains-here x xs))) as (λ _. length (x ∷ xs) ≤ length (y ∷ ys)) [
      | inl e ↦
          let rest = length_within xs ys apart_x.1 apart_y.1 (rise_tail x xs rise_x) (rise_tail y ys rise_y)
          (after_head x xs ys apart_x rise_x (subst (λ (g : Interval). Within (x ∷ xs) (g ∷ ys)) e within)) in
          omega arith
      | inr later ↦
          let low = apart_y.0 x later in
          let skips : Within (x ∷ xs) ys = λ g among.
          elim (Contains-cons_cases y ys g (within g among)) as (λ _. Contains ys g) [
            | inl e ↦ elim (Contains-cons_cases x xs g among) as (λ _. Contains ys g) [
              | inl e2 ↦ subst (λ (h : Interval). Contains ys h) e2 later
              | inr among_xs ↦
                  let order = apart_x.0 g among_xs in
                  let same = ap (λ (h : Interval). h.low) e in
                  let up = rise_x x (Contains-here x xs) in
                  let up_too = rise_y y (Contains-here y ys) in
                  absurd (omega arith)
            ]
            | inr rest ↦ rest
          ] in
          let rest = length_within (x ∷ xs) ys apart_x apart_y.1 rise_x (rise_tail y ys rise_y) skips in
          omega arith
    ]
