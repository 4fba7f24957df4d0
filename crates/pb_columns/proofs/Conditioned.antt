-- Statements under conditions are statements with one more term.
use Rattle.std.proofs.Common.{◌≡◌, ◌∙◌, ◌++◌, [], ◌∷◌, zero, suc, append-nil, append_assoc, length, Bool, true, false, cond, not, List, pos, negsuc, ℤ, ◌+ℤ◌, ◌-ℤ◌, ◌≤ℤ◌, ap, arith, inl, inr, refl, sym}
use Rattle.std.specs.Prelude.{◌↔◌, All}
use Rattle.std.proofs.lemmas.Bool.{cases_Bool, false≢true}
use Rattle.std.proofs.lemmas.Int.{ints}
use Rattle.std.proofs.lemmas.List.Elements.{All-nil, All-cons, All-head, All-tail, All-append}
use Rattle.pb_base.specs.declared.literal.Lit.{Lit}
use Rattle.pb_base.specs.declared.literal.Term.{Term}
use Rattle.pb_base.specs.declared.problem.Raw.{Raw}
use Rattle.pb_base.specs.declared.problem.Relation.{Relation}
use Rattle.pb_base.specs.declared.problem.Relation.TheVariants.{AtLeast, AtMost, Equal}
use Rattle.pb_base.specs.Literals.{Assignment, lit_value, negated}
use Rattle.pb_base.specs.Problems.{Satisfies, sum_value}
use Rattle.pb_base.proofs.LiteralLemmas.{lit_value-negated}
use Rattle.pb_base.proofs.Members.{All-append_both}
use Rattle.pb_columns.specs.declared.sum.PbcnfSum.{PbcnfSum}
use Rattle.pb_columns.specs.Columns.{conditions_in}
use Rattle.pb_columns.specs.Conditions.{greatest, halves_under, least, least_under, literal_at, most_under, negative_part, posed, posed_under, positive_part, shift_down, shift_up, shifted, under, AllUnder, HoldUnder, IsOn}

-- ---- bounds of sums

part_above : (z : ℤ) → z ≤ℤ positive_part z
part_above (pos n) = omega (arith, ints)
part_above (negsuc n) = omega (arith, ints)

part_below : (z : ℤ) → negative_part z ≤ℤ z
part_below (pos n) = omega (arith, ints)
part_below (negsuc n) = omega (arith, ints)

term_above : (b : Bool) (z : ℤ) → negative_part z ≤ℤ cond b z (pos 0)
term_above true z = part_below z
term_above false (pos n) = omega (arith, ints)
term_above false (negsuc n) = omega (arith, ints)

term_below : (b : Bool) (z : ℤ) → cond b z (pos 0) ≤ℤ positive_part z
term_below true z = part_above z
term_below false (pos n) = omega (arith, ints)
term_below false (negsuc n) = omega (arith, ints)

least_below : (a : Assignment) (ts : List Term) → least ts ≤ℤ sum_value a ts
least_below a [] = omega (arith, ints)
least_below a (t ∷ ts) = omega (arith, ints, term_above (lit_value a t.lit) t.coef, least_below a ts)

greatest_above : (a : Assignment) (ts : List Term) → sum_value a ts ≤ℤ greatest ts
greatest_above a [] = omega (arith, ints)
greatest_above a (t ∷ ts) = omega (arith, ints, term_below (lit_value a t.lit) t.coef, greatest_above a ts)

-- the sum with its one more term
sum_shifted : (a : Assignment) (l : Lit) (shift : ℤ) (ts : List Term) → sum_value a (shifted l shift ts) ≡ sum_value a ts +ℤ cond (not (lit_value a l)) shift (pos 0)
sum_shifted a l shift [] =
    let turned : cond (lit_value a (negated l)) shift (pos 0) ≡ cond (not (lit_value a l)) shift (pos 0) = ap (λ (b : Bool). cond b shift (pos 0)) (lit_value-negated a l) in
    omega (arith, ints, turned)
sum_shifted a l shift (t ∷ ts) = omega (arith, ints, sum_shifted a l shift ts)

off : (b : Bool) (z : ℤ) → b ≡ true → cond (not b) z (pos 0) ≡ pos 0
off true z on = refl
off false z on = absurd (false≢true on)

on_else : (b : Bool) (z : ℤ) → b ≡ false → cond (not b) z (pos 0) ≡ z
on_else true z off = absurd (false≢true (sym off))
on_else false z off = refl

-- ---- one statement

least_asked : (a : Assignment) (l : Lit) (ts : List Term) (right : ℤ) → Satisfies a (least_under l ts right) ↔ (lit_value a l ≡ true → right ≤ℤ sum_value a ts)
least_asked a l ts right =
    let sum = sum_shifted a l (shift_up ts right) ts in (
      λ holds on. (let none = off (lit_value a l) (shift_up ts right) on in omega (arith, ints, holds, sum, none)),
      λ asked. elim (cases_Bool (lit_value a l)) as (λ _. Satisfies a (least_under l ts right)) [
        | inl on ↦ (let none = off (lit_value a l) (shift_up ts right) on in let here = asked on in omega (arith, ints, here, sum, none))
        | inr no_cond ↦ (let all = on_else (lit_value a l) (shift_up ts right) no_cond in omega (arith, ints, sum, all, part_above (right -ℤ least ts), least_below a ts))
      ],
    )

most_asked : (a : Assignment) (l : Lit) (ts : List Term) (right : ℤ) → Satisfies a (most_under l ts right) ↔ (lit_value a l ≡ true → sum_value a ts ≤ℤ right)
most_asked a l ts right =
    let sum = sum_shifted a l (shift_down ts right) ts in (
      λ holds on. (let none = off (lit_value a l) (shift_down ts right) on in omega (arith, ints, holds, sum, none)),
      λ asked. elim (cases_Bool (lit_value a l)) as (λ _. Satisfies a (most_under l ts right)) [
        | inl on ↦ (let none = off (lit_value a l) (shift_down ts right) on in let here = asked on in omega (arith, ints, here, sum, none))
        | inr no_cond ↦ (let all = on_else (lit_value a l) (shift_down ts right) no_cond in omega (arith, ints, sum, all, part_below (right -ℤ greatest ts), greatest_above a ts))
      ],
    )

alone : (a : Assignment) (s : Raw) (P : Type 0) → Satisfies a s ↔ P → All (Satisfies a) (s ∷ []) ↔ P
alone a s P is = (λ all. is.0 (All-head (Satisfies a) s [] all), λ p. All-cons (Satisfies a) s [] (is.1 p) (All-nil (Satisfies a)))

pub asked_under : (a : Assignment) (l : Lit) (r : Relation) (ts : List Term) (right : ℤ) → All (Satisfies a) (halves_under r l ts right) ↔ (lit_value a l ≡ true → Satisfies a (record { terms = ts; relation = r; right = right }))
asked_under a l AtLeast ts right = alone a (least_under l ts right) (lit_value a l ≡ true → right ≤ℤ sum_value a ts) (least_asked a l ts right)
asked_under a l AtMost ts right = alone a (most_under l ts right) (lit_value a l ≡ true → sum_value a ts ≤ℤ right) (most_asked a l ts right)
asked_under a l Equal ts right =
    let low = least_asked a l ts right in
    let high = most_asked a l ts right in
    let lower = least_under l ts right in
    let upper = most_under l ts right in (
      λ all on. (
          let up = low.0 (All-head (Satisfies a) lower (upper ∷ []) all) on in
          let down = high.0 (All-head (Satisfies a) upper [] (All-tail (Satisfies a) lower (upper ∷ []) all)) on in
          omega (arith, ints, up, down)
          ),
      λ asked. All-cons (Satisfies a) lower (upper ∷ [])
          (low.1 (λ on. (let same : sum_value a ts ≡ right = asked on in omega (arith, ints, same))))
          (All-cons (Satisfies a) upper [] (high.1 (λ on. (let same : sum_value a ts ≡ right = asked on in omega (arith, ints, same)))) (All-nil (Satisfies a))),
    )

-- ---- all statements

both_sides : {P Q P' Q' : Type 0} → P ↔ P' → Q ↔ Q' → (P × Q) ↔ (P' × Q')
both_sides one other = (λ pq. (one.0 pq.0, other.0 pq.1), λ pq. (one.1 pq.0, other.1 pq.1))

joined_all : (a : Assignment) (xs ys : List Raw) → All (Satisfies a) (xs ++ ys) ↔ (All (Satisfies a) xs × All (Satisfies a) ys)
joined_all a xs ys = (λ all. All-append_both (Satisfies a) xs ys all, λ two. All-append (Satisfies a) xs ys two.0 two.1)

conditional : (a : Assignment) (z : ℤ) (s : Raw) → (z ≡ pos 0 → ⊥) → All (Satisfies a) (under (literal_at z) s) ↔ (lit_value a (literal_at z) ≡ true → Satisfies a s) → All (Satisfies a) (under (literal_at z) s) ↔ (IsOn a z → Satisfies a s)
conditional a z s some is = (
  λ all on. elim on as (λ _. Satisfies a s) [ inl none ↦ absurd (some none) | inr true_is ↦ is.0 all true_is ],
  λ asked. is.1 (λ on. asked (inr on)),
)

pub asked_one : (a : Assignment) (z : ℤ) (s : Raw) → All (Satisfies a) (posed_under z s) ↔ (IsOn a z → Satisfies a s)
asked_one a (pos zero) s = (λ all on. All-head (Satisfies a) s [] all, λ asked. All-cons (Satisfies a) s [] (asked (inl refl)) (All-nil (Satisfies a)))
asked_one a (pos (suc n)) s = conditional a (pos (suc n)) s (λ none. absurd (cc)) (asked_under a (literal_at (pos (suc n))) s.relation s.terms s.right)
asked_one a (negsuc n) s = conditional a (negsuc n) s (λ none. absurd (cc)) (asked_under a (literal_at (negsuc n)) s.relation s.terms s.right)

pub asked_all : (a : Assignment) (zs : List ℤ) (ss : List Raw) → All (Satisfies a) (posed zs ss) ↔ HoldUnder a zs ss
asked_all a [] [] = (λ all. tt, λ none. All-nil (Satisfies a))
asked_all a (z ∷ zs) [] = (λ all. tt, λ none. All-nil (Satisfies a))
asked_all a [] (s ∷ ss) =
    let rest = asked_all a [] ss in (
      λ all. (All-head (Satisfies a) s ss all, rest.0 (All-tail (Satisfies a) s ss all)),
      λ two. All-cons (Satisfies a) s ss two.0 (rest.1 two.1),
    )
asked_all a (z ∷ zs) (s ∷ ss) =
    let here = joined_all a (posed_under z s) (posed zs ss) in
    let two = both_sides (asked_one a z s) (asked_all a zs ss) in (
      λ all. two.0 (here.0 all),
      λ asked. here.1 (two.1 asked),
    )

-- ---- one after another

pub posed_more : (zs : List ℤ) (ss : List Raw) (z : ℤ) (s : Raw) → length zs ≡ length ss → posed (zs ++ z ∷ []) (ss ++ s ∷ []) ≡ posed zs ss ++ posed_under z s
posed_more [] [] z s same = append-nil (posed_under z s)
posed_more [] (t ∷ ss) z s same = absurd (omega (arith, same))
posed_more (y ∷ zs) [] z s same = absurd (omega (arith, same))
posed_more (y ∷ zs) (t ∷ ss) z s same =
    ap (λ (rest : List Raw). posed_under y t ++ rest) (posed_more zs ss z s (omega (arith, same)))
    ∙ sym (append_assoc (posed_under y t) (posed zs ss) (posed_under z s))

-- where there is no condition, nothing changes
pub posed_plain : (zs : List ℤ) (ss : List Raw) → All (λ (z : ℤ). z ≡ pos 0) zs → posed zs ss ≡ ss
posed_plain [] ss none = refl
posed_plain (z ∷ zs) [] none = refl
posed_plain (z ∷ zs) (s ∷ ss) none =
    ap (λ (y : ℤ). posed_under y s ++ posed zs ss) (All-head (λ (z : ℤ). z ≡ pos 0) z zs none)
    ∙ ap (λ (rest : List Raw). s ∷ rest) (posed_plain zs ss (All-tail (λ (z : ℤ). z ≡ pos 0) z zs none))

-- of sums without a condition
pub plain : (sums : List PbcnfSum) (ss : List Raw) → All (λ (m : PbcnfSum). m.condition ≡ pos 0) sums → posed (conditions_in sums) ss ≡ ss
plain [] ss none = refl
plain (m ∷ sums) [] none = refl
plain (m ∷ sums) (s ∷ ss) none =
    ap (λ (y : ℤ). posed_under y s ++ posed (conditions_in sums) ss) (All-head (λ (m : PbcnfSum). m.condition ≡ pos 0) m sums none)
    ∙ ap (λ (rest : List Raw). s ∷ rest) (plain sums ss (All-tail (λ (m : PbcnfSum). m.condition ≡ pos 0) m sums none))

-- ---- statements beside their conditions

pub under_more : (P : ℤ → Raw → Type 0) (zs : List ℤ) (ss : List Raw) (z : ℤ) (s : Raw) → length zs ≡ length ss → AllUnder P zs ss → P z s → AllUnder P (zs ++ z ∷ []) (ss ++ s ∷ [])
under_more P [] [] z s same all is = (is, tt)
under_more P [] (t ∷ ss) z s same all is = absurd (omega (arith, same))
under_more P (y ∷ zs) [] z s same all is = absurd (omega (arith, same))
under_more P (y ∷ zs) (t ∷ ss) z s same all is = (all.0, under_more P zs ss z s (omega (arith, same)) all.1 is)

-- what is so of each is so of all that are made of them
pub posed_each : (P : ℤ → Raw → Type 0) (Q : Raw → Type 0) → ((z : ℤ) (s : Raw) → P z s → All Q (posed_under z s)) → (zs : List ℤ) (ss : List Raw) → length zs ≡ length ss → AllUnder P zs ss → All Q (posed zs ss)
posed_each P Q each [] [] same all = All-nil Q
posed_each P Q each [] (s ∷ ss) same all = absurd (omega (arith, same))
posed_each P Q each (z ∷ zs) [] same all = All-nil Q
posed_each P Q each (z ∷ zs) (s ∷ ss) same all = All-append Q (posed_under z s) (posed zs ss) (each z s all.0) (posed_each P Q each zs ss (omega (arith, same)) all.1)

-- and of themselves
pub under_each : (P : ℤ → Raw → Type 0) (Q : Raw → Type 0) → ((z : ℤ) (s : Raw) → P z s → Q s) → (zs : List ℤ) (ss : List Raw) → length zs ≡ length ss → AllUnder P zs ss → All Q ss
under_each P Q each [] [] same all = All-nil Q
under_each P Q each [] (s ∷ ss) same all = absurd (omega (arith, same))
under_each P Q each (z ∷ zs) [] same all = All-nil Q
under_each P Q each (z ∷ zs) (s ∷ ss) same all = All-cons Q s ss (each z s all.0) (under_each P Q each zs ss (omega (arith, same)) all.1)
