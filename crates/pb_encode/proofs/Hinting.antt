-- Hints of groups, noted one after another and read again.
use Rattle.std.proofs.Common.{◌≡◌, ◌≤◌, ◌<◌, ◌+◌, ◌++◌, ◌^◌, ℕ, suc, List, [], ◌∷◌, length, drop, drop-cons, get_or, sym, ap, ◌∙◌, subst, arith}
use Rattle.std.proofs.lemmas.List.{length-drop}
use Rattle.std.proofs.lemmas.List.Elements.{All-append, All-cons, All-nil}
use Rattle.std.proofs.lemmas.List.Sums.{sum_by-cons}
use Rattle.pb_base.specs.declared.options.Options.{Options}
use Rattle.pb_base.specs.declared.problem.Problem.{Problem}
use Rattle.pb_base.specs.Problems.{IsWithinLimits}
use Rattle.pb_encode.specs.declared.groups.Group.{Group}
use Rattle.pb_encode.specs.declared.groups.Group.TheVariants.{Alone, Paired}
use Rattle.pb_encode.specs.declared.hints.Hint.{Hint}
use Rattle.pb_encode.specs.Groups.{group_size, groups_of, size_total}
use Rattle.pb_encode.specs.inner.Hints.{AreHintsOf, IsHintOf, IsToldOf}
use Rattle.pb_encode.proofs.TallyLemmas.{few_groups}

-- what is told of the group at a place is a hint of it
pub hint_here : (o : Options) (gs rest : List Group) (g : Group) (h : Hint) → drop h.place gs ≡ g ∷ rest → IsToldOf o g h.tells → IsHintOf o gs h
hint_here o gs rest g h here told = λ other others is.
    let same : g ≡ other = ap (λ (l : List Group). get_or l 0 g) (sym here ∙ is) in
    subst (λ (k : Group). IsToldOf o k h.tells) same told

-- one more
pub hints_more : (o : Options) (gs rest : List Group) (g : Group) (hints : List Hint) (h : Hint) → drop h.place gs ≡ g ∷ rest → IsToldOf o g h.tells → AreHintsOf o gs hints → AreHintsOf o gs (hints ++ h ∷ [])
hints_more o gs rest g hints h here told before =
    record { each = All-append (IsHintOf o gs) hints (h ∷ []) before.each (All-cons (IsHintOf o gs) h [] (hint_here o gs rest g h here told) (All-nil (IsHintOf o gs))) }

pub hints_none : (o : Options) (gs : List Group) → AreHintsOf o gs []
hints_none o gs = record { each = All-nil (IsHintOf o gs) }

-- a walk has gone over so many of some groups, and these are left
pub record Gone (all left : List Group) (place : ℕ) : Type 0 where
  pub here : drop place all ≡ left
  pub few : length all < 2 ^ 63

pub gone_begin : (all left : List Group) (place : ℕ) → left ≡ all → place ≡ 0 → length all < 2 ^ 63 → Gone all left place
gone_begin all left place all_are none few = record { here = ap (λ (n : ℕ). drop n all) none ∙ sym all_are; few = few }

module _ {all left : List Group} {place : ℕ} (g : Group) (rest : List Group) (parts : left ≡ g ∷ rest) (gone : Gone all left place) where
  pub gone_here : drop place all ≡ g ∷ rest
  gone_here = gone.here ∙ parts

  within : place < length all
  within = omega (arith, length-drop place all, ap (λ (gs : List Group). length gs) gone_here)

  pub gone_few : place < 2 ^ 63
  gone_few = omega (arith, within, gone.few)

  pub gone_more : (next : ℕ) → next ≡ place + 1 → Gone all rest next
  gone_more next is =
      let after : drop (suc place) all ≡ rest = ap (λ (gs : List Group). drop 1 gs) (sym (drop-cons all place g within) ∙ gone_here) in
      let same : next ≡ suc place = omega (arith, is) in
      record { here = ap (λ (n : ℕ). drop n all) same ∙ after; few = gone.few }

-- a problem has few groups
counted : (gs : List Group) → length gs ≤ size_total gs
counted [] = omega arith
counted (Alone c ∷ gs) = omega (arith, sum_by-cons group_size (Alone c) gs, counted gs)
counted (Paired c d ∷ gs) = omega (arith, sum_by-cons group_size (Paired c d) gs, counted gs)

pub groups_few : (p : Problem) → IsWithinLimits p → length (groups_of p) < 2 ^ 63
groups_few p within = omega (arith, counted (groups_of p), few_groups p within)
